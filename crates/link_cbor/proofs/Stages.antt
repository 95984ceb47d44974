-- The stages of a scan, after one more byte.

use Rattle.std.proofs.Common.{◌≡◌, ℕ, zero, suc, ◌+◌, ◌-◌, ◌*◌, ◌/◌, ◌%◌, ◌^◌, ◌<◌, ◌≤◌, true, List, [], ◌∷◌, ◌++◌, length, take, Some, refl, sym, ap, ◌∙◌, arith}
use Rattle.std.proofs.lemmas.List.{append-nil, append_assoc, length-take-le}
use Rattle.std.proofs.lemmas.Bool.{lt-ltb, le-leb, false≢true}
use Rattle.std.proofs.lemmas.Bool.Decides.{nat_tests}
use Rattle.std.proofs.Math.{Nat.{pow-suc, pow-le-pow_right, one-le-pow}, Pow.pow_mono}
use Rattle.std.proofs.lemmas.Nat.{and_mask}
use Rattle.std.specs.Int.Bits.{bit_and}
use Rattle.link_cbor.specs.declared.head_scan.HeadStage.{HeadStage}
use Rattle.link_cbor.specs.declared.head_scan.HeadStage.TheVariants.{Argument, Whole as WholeHead}
use Rattle.link_cbor.specs.declared.head.{HeadStep.HeadStep}
use Rattle.link_cbor.specs.Head.{big_endian, head_front, front_by_step, step_at, argument_front, with_argument}
use Rattle.link_cbor.proofs.{HeadLaws.front_by-argument, Fronts.first_by}
use Rattle.link_cbor.specs.Stage.{front_from, in_argument, stage_step, head_stage_fits, IsStageInHead}

-- the bounds of an argument, from `head_stage_fits`
pub record ArgumentFits (count left value : ℕ) : Type 0 where
  pub wanted : 0 < left
  pub most : left ≤ 8
  pub room : count + left ≤ 9
  pub fits : value < 256 ^ (8 - left)

pub argument_fits : (count major left value : ℕ)
    → head_stage_fits count (Argument major left value) ≡ true → ArgumentFits count left value
unfolding head_stage_fits
argument_fits count major left value test = grind (arith, nat_tests)

stage_fits-argument : (count major left value : ℕ) → ArgumentFits count left value
    → head_stage_fits count (Argument major left value) ≡ true
unfolding head_stage_fits
stage_fits-argument count major left value facts = grind (arith, nat_tests)

-- the outcome of a scan is the head that the bytes seen begin with
outcome_from : (count : ℕ) (stage : HeadStage) → head_stage_fits count stage ≡ true
    → front_from count stage [] ≡ front_by_step (stage_step stage) count
unfolding front_from head_front argument_front head_stage_fits
outcome_from count stage fits = grind (arith, nat_tests)

pub outcome_front : (count : ℕ) (stage : HeadStage) (seen : List ℕ) → count ≡ length seen
    → IsStageInHead count stage (λ more. head_front (seen ++ more))
    → head_front seen ≡ front_by_step (stage_step stage) (length seen)
outcome_front count stage seen size stands =
    ap head_front (sym (append-nil seen)) ∙ stands.reads [] ∙ outcome_from count stage stands.fits
    ∙ ap (front_by_step (stage_step stage)) size

pub step_at_front : (step : HeadStep) (size : ℕ) → step_at (front_by_step step size) ≡ step
step_at_front step size = grind arith

-- ---- an argument

value_more : (left value byte : ℕ) (more : List ℕ) → left ≤ length more
    → value * 256 ^ suc left + big_endian (byte ∷ take left more)
    ≡ (value * 256 + byte) * 256 ^ left + big_endian (take left more)
unfolding big_endian
value_more left value byte more there =
    rw (length-take-le left more there, pow-suc 256 left) (omega arith)

-- one more byte of an argument
argument_more : (count major left value byte : ℕ) (more : List ℕ)
    → front_from count (Argument major (suc left) value) (byte ∷ more)
    ≡ front_from (count + 1) (Argument major left (value * 256 + byte)) more
unfolding front_from
argument_more count major left value byte more =
    grind (arith, nat_tests, value_more left value byte more)

-- an argument whose bytes are all there
argument_done : (count major value : ℕ) (more : List ℕ)
    → front_from count (Argument major 0 value) more
    ≡ front_from count (WholeHead (record { major = major; value = Some value })) more
unfolding front_from big_endian
argument_done count major value more = grind (arith, nat_tests)

-- the argument fits in 64 bits
pub value_fits : (count major left value byte : ℕ)
    → head_stage_fits count (Argument major left value) ≡ true → byte < 256
    → value * 256 + byte < 2 ^ 64
value_fits count major left value byte test below =
    let facts = argument_fits count major left value test in
    let near : suc (8 - left) ≤ 8 = omega (arith, facts.wanted) in
    let room : 256 ^ suc (8 - left) ≤ 256 ^ 8 = pow-le-pow_right (omega arith) near in
    omega (arith, facts.fits, pow-suc 256 (8 - left))

-- one more byte of an argument, which may be its last
pub stands-next : (count major left value byte : ℕ)
    → head_stage_fits count (Argument major left value) ≡ true → byte < 256
    → IsStageInHead (count + 1) (in_argument major (left - 1) (value * 256 + byte))
    (λ more. front_from count (Argument major left value) (byte ∷ more))
unfolding head_stage_fits
stands-next count major zero value byte test below = absurd (false≢true test)
stands-next count major (suc zero) value byte test below =
    let facts = argument_fits count major 1 value test in
    record {
      fits = le-leb (count + 1) 9 (omega (arith, facts.room));
      reads = λ more. argument_more count major 0 value byte more
          ∙ argument_done (count + 1) major (value * 256 + byte) more;
    }
stands-next count major (suc (suc left)) value byte test below =
    let facts = argument_fits count major (suc (suc left)) value test in
    let before : suc (suc left) - 1 ≡ suc left = omega arith in
    let longer : 8 - suc left ≡ suc (8 - suc (suc left)) = omega (arith, facts.most) in
    rw (before, lt-ltb 0 (suc left) (omega arith)) (record {
      fits = stage_fits-argument (count + 1) major (suc left) (value * 256 + byte) (record {
        wanted = omega arith;
        most = omega (arith, facts.most);
        room = omega (arith, facts.room);
        fits = rw (longer, pow-suc 256 (8 - suc (suc left))) (omega (arith, facts.fits));
      });
      reads = argument_more count major (suc left) value byte;
    })

-- ---- the first byte

-- an argument that is not a two-byte simple value
argument_begins : (major size : ℕ) (more : List ℕ) → (major ≡ 7 → size ≡ 1 → ⊥)
    → argument_front major size more ≡ front_from 1 (Argument major size 0) more
unfolding argument_front with_argument front_from
argument_begins major size more other = grind (arith, nat_tests, other)

-- one byte follows only for additional information 24
one_byte : (beyond : ℕ) → 2 ^ beyond ≡ 1 → beyond ≡ 0
one_byte zero one = refl
one_byte (suc beyond) one = absurd (omega arith)

-- additional information 24 to 27
pub begins-argument : (first : ℕ) → 24 ≤ bit_and first 31
    → bit_and first 31 < 28 → (first ≡ 0xf8 → ⊥)
    → IsStageInHead 1 (Argument (first / 32) (1 * 2 ^ (bit_and first 31 - 24) % 256) 0)
    (λ more. head_front (first ∷ more))
begins-argument first least below other =
    let major = first / 32 in
    let information : ℕ = bit_and first 31 in
    let left : ℕ = 2 ^ (information - 24) in
    let near : information - 24 ≤ 3 = omega arith in
    let most : left ≤ 2 ^ 3 = pow_mono near in
    let some : 1 ≤ left = one-le-pow (information - 24) 2 (omega arith) in
    let same : 1 * left % 256 ≡ left = omega arith in
    rw same (record {
      fits = stage_fits-argument 1 major left 0 (record {
        wanted = some;
        most = most;
        room = omega arith;
        fits = one-le-pow (8 - left) 256 (omega arith);
      });
      reads = λ more.
          first_by first more
          ∙ front_by-argument major information more least below
          ∙ argument_begins major left more
          (λ seven one. other (omega (arith, and_mask first 5, one_byte (information - 24) one)));
    })

-- ---- the history, with one more byte

pub scanned_more : (count : ℕ) (stage next : HeadStage) (seen : List ℕ) (byte : ℕ)
    → IsStageInHead count stage (λ more. head_front (seen ++ more))
    → IsStageInHead (count + 1) next (λ more. front_from count stage (byte ∷ more))
    → IsStageInHead (count + 1) next (λ more. head_front ((seen ++ byte ∷ []) ++ more))
scanned_more count stage next seen byte before step = record {
  fits = step.fits;
  reads = λ more. ap head_front (append_assoc seen (byte ∷ []) more) ∙ before.reads (byte ∷ more)
      ∙ step.reads more;
}

-- ---- how many bytes

pub count_fits : (count : ℕ) (stage : HeadStage) → head_stage_fits count stage ≡ true → count ≤ 9
unfolding head_stage_fits
count_fits count stage fits = grind (arith, nat_tests)
