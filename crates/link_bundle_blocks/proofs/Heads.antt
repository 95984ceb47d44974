-- A whole head that is judged by its row.

use Rattle.std.proofs.Common.{◌≡◌, ℕ, List, Result, Ok, Err, refl}
use Rattle.link_cbor.specs.declared.head.Head.{Head}
use Rattle.link_bundle_types.specs.declared.fault.BundleFault.{BundleFault}
use Rattle.link_bundle_blocks.specs.Reading.{stopped, head_at, row_at}

pub row_at-accepted : {A : Type 0} (row : Head → Result A BundleFault) (bytes : List ℕ)
    (offset next : ℕ) (head : Head) (value : A)
    → head_at bytes offset ≡ Ok (head, next) → row head ≡ Ok value
    → row_at row bytes offset ≡ Ok (value, next)
unfolding row_at
row_at-accepted row bytes offset next head value outcome judged = rw (outcome, judged) refl

pub row_at-refused : {A : Type 0} (row : Head → Result A BundleFault) (bytes : List ℕ)
    (offset next : ℕ) (head : Head) (fault : BundleFault)
    → head_at bytes offset ≡ Ok (head, next) → row head ≡ Err fault
    → row_at row bytes offset ≡ Err (stopped fault offset)
unfolding row_at
row_at-refused row bytes offset next head fault outcome judged = rw (outcome, judged) refl

pub ruleset heads = (row_at-accepted, row_at-refused)
