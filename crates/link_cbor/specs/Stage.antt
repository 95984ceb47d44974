-- Relations: the head that a stage of a scan determines.

use Rattle.std.specs.Prelude.{◌≡◌, IsTrue, ℕ, ◌+◌, ◌-◌, ◌*◌, ◌^◌, Bool, true, false, ◌&&◌, ◌==◌, nat_lt, nat_le, List, length, take, Some, if◌then◌else◌}
use Rattle.link_cbor.specs.declared.head.{HeadStep.HeadStep, HeadStep.TheVariants.{More, Done, Bad}}
use Rattle.link_cbor.specs.declared.head_scan.HeadStage.{HeadStage}
use Rattle.link_cbor.specs.declared.head_scan.HeadStage.TheVariants.{Start, Argument, Simple, Whole as WholeHead, IllFormed as NoHead}
use Rattle.link_cbor.specs.Head.{HeadFront, Cut, IllFormed, Whole, big_endian, head_front, argument_front}

-- what all bytes begin with, if a scan is at this stage after `count` bytes and `more` follow
unfoldable pub front_from : ℕ → HeadStage → List ℕ → HeadFront
front_from count Start more = head_front more
front_from count (Argument major left value) more =
    if nat_lt (length more) left then Cut else
    Whole (record {
      major = major;
      value = Some (value * 256 ^ left + big_endian (take left more));
    }) (count + left)
front_from count Simple more = argument_front 7 1 more
front_from count (WholeHead head) more = Whole head count
front_from count NoHead more = IllFormed

-- The stage of a scan in an argument: the bytes seen of it encode `value`, and `left` more are
-- needed. If `left` is 0, the head is whole.
abbrev pub in_argument : ℕ → ℕ → ℕ → HeadStage
in_argument major left value =
    if nat_lt 0 left then Argument major left value
    else WholeHead (record { major = major; value = Some value })

-- whether more bytes are needed
abbrev pub wants_more : HeadStage → Bool
wants_more Start = true
wants_more (Argument major left value) = true
wants_more Simple = true
wants_more (WholeHead head) = false
wants_more NoHead = false

-- the outcome at this stage
abbrev pub stage_step : HeadStage → HeadStep
stage_step Start = More
stage_step (Argument major left value) = More
stage_step Simple = More
stage_step (WholeHead head) = Done head
stage_step NoHead = Bad

-- Whether this can be the stage of a scan that has seen `count` bytes of a head. A head has at most
-- nine bytes, and its argument at most eight. In an argument, `value` fits in the bytes of it that
-- were seen, so the whole argument fits in 64 bits.
unfoldable pub head_stage_fits : ℕ → HeadStage → Bool
head_stage_fits count Start = count == 0
head_stage_fits count (Argument major left value) =
    nat_lt 0 left && (nat_le left 8 && (nat_le (count + left) 9 && nat_lt value (256 ^ (8 - left))))
head_stage_fits count Simple = count == 1
head_stage_fits count (WholeHead head) = nat_le count 9
head_stage_fits count NoHead = nat_le count 9

-- A scan that has seen `count` bytes of a head may be at this stage. `reading more` is what these
-- bytes and then `more` begin with: a whole head, an ill-formed one, or one that is cut short. The
-- stage and `more` determine it.
pub record IsStageInHead (count : ℕ) (stage : HeadStage)
    (reading : List ℕ → HeadFront) : Type 0 where
  pub fits : IsTrue (head_stage_fits count stage)
  pub reads : (more : List ℕ) → reading more ≡ front_from count stage more
