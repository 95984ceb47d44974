use Rattle.std.proofs.Common.{◌≡◌, ℕ, ◌<◌, ◌≤◌, arith, sym}
use Rattle.link_wire.proofs.{FieldReads.fields_at-unknown, Gettings.{pure, refuse, same_part}}
use Rattle.link_wire.specs.Message.{fields_at}
use Rattle.link_wire.proofs.head.fields.Goals as goal

pub returns-in_default-clause-gets : goal.returns-in_default-clause-gets
returns-in_default-clause-gets g c = λ live.
    let other : (n : ℕ) → (0 < n) × (n ≤ 7) → c.args.kind ≡ n → ⊥ =
    λ n known e. omega (arith, known.0, known.1, e, c.in_default) in
    same_part (λ bytes. sym (fields_at-unknown c.args.kind bytes other)) (refuse (λ e. cc))

pub returns-in-4-clause-gets : goal.returns-in-4-clause-gets
unfolding fields_at
returns-in-4-clause-gets g c = λ live. rw c.in-4.is (pure live)
