use Rattle.std.proofs.Common.{◌≡◌, ℕ, ◌<◌, ◌==◌, true, get_or, refl, ap, ◌∙◌, arith}
use Rattle.std.proofs.lemmas.Bool.{agree_below_at, eqb-true}
use Rattle.link_wire.specs.{Whole.quiet_size, declared.quiet.TheConstants.SIZES}
use Rattle.link_wire.proofs.Wholes.{quiet_size-bounds}
use Rattle.link_wire.proofs.quiet.quiet_size.Goals as goal

-- the prover compares all entries of the table with their definition
size_at : (kind : ℕ) → kind < 256 → get_or SIZES kind 0 ≡ quiet_size kind
size_at kind byte =
    eqb-true _ _ (agree_below_at (λ k. get_or SIZES k 0 == quiet_size k) (λ _. true) 256 kind refl byte)

pub returns : goal.returns
returns c =
    let size : get_or SIZES c.from.result 0 ≡ quiet_size c.args.kind = ap (λ kind. get_or SIZES kind 0) c.from.ensures ∙ size_at c.args.kind (omega arith) in
    let bounds = quiet_size-bounds c.args.kind in
    record {
      size = size;
      some = omega (arith, size, bounds.0);
      fits = omega (arith, size, bounds.1);
    }
