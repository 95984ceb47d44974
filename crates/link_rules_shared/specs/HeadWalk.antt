-- Relations: the bytes that a walk over heads has seen. The promises need only two facts: `new` and
-- `restart` have seen nothing, and `take` adds its bytes.

use Rattle.std.specs.Prelude.{◌≡◌, ℕ, ◌^◌, ◌<◌, ◌≤◌, Bool, List, [], ◌++◌, length, drop, Option, None}
use Rattle.std.specs.{Bool.then_some, Option.option_or}
use Rattle.link_cbor.specs.declared.{head.Head.Head as HeadItem, head_scan.HeadScan.HeadScan}
use Rattle.link_cbor.specs.Head.{Cut, head_front}
use Rattle.link_cbor.specs.HeadScan.{HasScannedHead}
use Rattle.link_rules_shared.specs.declared.heads.{WalkStage.WalkStage, WalkStage.TheVariants.{Inside, Head, Ended}}
use Rattle.link_rules_shared.specs.declared.heads.{Found.Found, HeadWalk.HeadWalk}
use Rattle.link_rules_shared.specs.Heads.{is_long, is_open_string, is_open_item, is_encoded, first_from}

-- the offset of the first head that is sought from this stage on, if the bytes `more` follow those
-- seen
abbrev pub first_left : (HeadItem → ℕ → Bool) → WalkStage → (seen more : List ℕ) → Option ℕ
first_left sought (Inside left) seen more = first_from sought left (length seen) more
first_left sought (Head offset) seen more = first_from sought 0 offset (drop offset seen ++ more)
first_left sought Ended seen more = None

-- Whatever bytes follow, the first head that is sought is at offset `found`. If none was found yet,
-- it is the first from this stage on.
pub record IsFirstSoughtHead (sought : HeadItem → ℕ → Bool) (found : Option ℕ) (stage : WalkStage)
    (seen : List ℕ) : Type 0 where
  pub reads : (more : List ℕ)
      → first_from sought 1 0 (seen ++ more) ≡ option_or found (first_left sought stage seen more)

-- `IsFirstSoughtHead` holds for each kind of heads that is sought
pub record AreFirstSoughtHeads (found : Found) (stage : WalkStage) (seen : List ℕ) : Type 0 where
  pub long : IsFirstSoughtHead is_long found.long stage seen
  pub string : IsFirstSoughtHead is_open_string found.string stage seen
  pub item : IsFirstSoughtHead is_open_item found.item stage seen
  pub encoded : IsFirstSoughtHead is_encoded found.encoded stage seen

-- The offset of the first head that is sought, once the head of `size` bytes at `offset` was read.
-- `old` is the offset that was found before, if one was.
abbrev pub noted : (sought : HeadItem → ℕ → Bool) → (old : Option ℕ) → (offset : ℕ) → HeadItem
    → (size : ℕ) → Option ℕ
noted sought old offset head size = option_or old (then_some (sought head size) offset)

-- a head of `size` bytes at `offset` turns what was found, `old`, into `new`
pub record NotesCborHead (old new : Found) (offset : ℕ) (head : HeadItem) (size : ℕ) : Type 0 where
  pub long : new.long ≡ noted is_long old.long offset head size
  pub string : new.string ≡ noted is_open_string old.string offset head size
  pub item : new.item ≡ noted is_open_item old.item offset head size
  pub encoded : new.encoded ≡ noted is_encoded old.encoded offset head size

-- the seen bytes end inside the head that begins at `offset`
pub record HasSeenPartOfHead (head : HeadScan) (offset : ℕ) (seen : List ℕ) : Type 0 where
  pub in_bytes : offset ≤ length seen
  pub scanned : HasScannedHead head (drop offset seen)
  pub cut : head_front (drop offset seen) ≡ Cut

-- The state of the scan of a head at each stage. At `Inside` it is new. At `Head` it has scanned
-- the bytes of that head so far. At `Ended` it does not matter.
abbrev pub IsHeadScanAtStage : WalkStage → HeadScan → List ℕ → Type 0
IsHeadScanAtStage (Inside left) head seen = HasScannedHead head []
IsHeadScanAtStage (Head offset) head seen = HasSeenPartOfHead head offset seen
IsHeadScanAtStage Ended head seen = Unit {0}

-- these are the parts of a walk that has seen exactly these bytes
pub record HasWalkedBy (stage : WalkStage) (found : Found) (head : HeadScan) (count : ℕ)
    (seen : List ℕ) : Type 0 where
  pub counted : count ≡ length seen
  pub sought : AreFirstSoughtHeads found stage seen
  pub stands : IsHeadScanAtStage stage head seen

-- the walk has seen exactly these bytes
abbrev pub HasWalked : HeadWalk → List ℕ → Type 0
HasWalked walk seen = HasWalkedBy walk.stage walk.found walk.head walk.count seen

-- the walk has taken exactly these bytes
pub record TakesRun (old new : HeadWalk) (run : List ℕ) : Type 0 where
  pub seen : (seen : List ℕ) → length (seen ++ run) < 2 ^ 63 → HasWalked old seen
      → HasWalked new (seen ++ run)
