use Rattle.std.proofs.Common.{Ok, ap, refl, sym, ◌∙◌}
use Rattle.std.proofs.lemmas.Bool.{not-true}
use Rattle.link_run_over_transfers.specs.declared.consumer.Manner.{Manner}
use Rattle.link_run_over_transfers.proofs.Tellings.{tells_none}
use Rattle.link_run_over_transfers.proofs.walk.Walker.tell_head.Goals as goal

pub returns-then-is_plain-clause-gives : goal.returns-then-is_plain-clause-gives
returns-then-is_plain-clause-gives g c = λ taken events fault_is turn_is known opened. (
  Ok tt,
  rw (c.stage_by.ensures, c.left.ensures.left, turn_is) refl,
  rw (
    ← fault_is,
    ← turn_is,
    ap (λ (m : Manner). m.all_heads) (sym c.manner.ensures) ∙ not-true _ c.if-not-manner.true,
    sym c.is_plain.ensures ∙ c.if-is_plain.true,
  )
      (tells_none g.W.OutDevice.state g.E.OutDevice.state
      (g.C.Consumer.telling c.args.options.now)
      (g.C.Consumer.knows c.args.options.now c.args.self.now.consumer) events c.args.writers.now
      known),
)
