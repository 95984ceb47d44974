use Rattle.std.proofs.Common.{◌≡◌, false, take}
use Rattle.std.specs.{Prelude.{◌==◌}, List.list_any}
use Rattle.link_bundle_heads.proofs.row.is_among.Given as goal

abbrev pub invariant-loop-earlier : goal.invariant-loop-earlier
invariant-loop-earlier l =
    list_any (λ earlier. earlier == l.number) (take l.earlier-index l.numbers) ≡ false
