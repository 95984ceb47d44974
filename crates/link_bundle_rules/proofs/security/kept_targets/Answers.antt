use Rattle.std.proofs.Common.{◌≡◌, ◌+◌, ◌≤◌, ◌∙◌, length, min, take, Result, Ok, Err, arith, length-take}
use Rattle.std.specs.Result.{IsOk, OnOk}
use Rattle.std.proofs.lemmas.List.{take_min}
use Rattle.link_bundle_rules.proofs.security.kept_targets.Goals as goal

from_ok : {T E P : Type 0} (r : Result T E) → IsOk r → OnOk r P → P
from_ok (Ok x) is holds = holds
from_ok (Err x) is holds = cc

pub returns : goal.returns
returns c =
    let xs = c.args.targets.now in
    let kept = c.try_extend_from_slice in
    let fits : length c.new-kept.result.items + length (take c.min-count.result xs) ≤ 64 =
    rw (c.new-kept.ensures, length-take) (omega arith) in
    let count : c.min-count.result ≡ min 64 (length xs) = omega arith in
    (rw c.new-kept.ensures at (from_ok kept.result (kept.ensures.variant.1 fits) kept.ensures.ok))
    ∙ rw count (take_min 64 xs)
