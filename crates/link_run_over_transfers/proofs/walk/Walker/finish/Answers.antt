use Rattle.std.proofs.Common.{◌≡◌, Bool, if◌then◌else◌, true, false, is_some, List, ◌++◌, Ok, refl, ap, sym, ◌∙◌}
use Rattle.link_wire.specs.declared.message.Message.{Message}
use Rattle.link_transfer.specs.{Joiner.IsJoinerAt, Order.open_of}
use Rattle.link_run.specs.declared.run.Status.{Status}
use Rattle.link_run_over_transfers.specs.{Walk.{WalkEvent, has_open, end_events}, Telling.Tells, WalkRun.TellsEnd}
use Rattle.link_run_over_transfers.proofs.{Tellings.tells_none, walk.Walker.finish.Given.Over}
use Rattle.link_run_over_transfers.proofs.walk.Walker.finish.Goals as goal
use Rattle.link_run_over_transfers.proofs.walk.Walker.finish.Goals.{After-is_good, then-is_some+in_ok-event, else-is_some}

-- whatever is to be said of the end was said, and the status is that of the tool
ended : (g : Over) (c : After-is_good g) (good : Bool) (status : Status)
    → c.is_good.result ≡ good → status.0 ≡ (if good then 0 else 1)
    → (taken : List Message) (events : List WalkEvent)
    → IsJoinerAt c.args.self.now.joiner taken
    → g.C.Consumer.knows c.args.options.now c.args.self.now.consumer events
    → has_open events ≡ is_some (open_of taken)
    → TellsEnd g.W.OutDevice.state g.E.OutDevice.state (g.C.Consumer.telling c.args.options.now)
    taken events c.args.writers.now c.if-is_some.writers (Ok status)
ended g c good status good_is ends taken events at known opened =
    let out_look = g.W.OutDevice.state in
    let report_look = g.E.OutDevice.state in
    let telling = g.C.Consumer.telling c.args.options.now in
    let knows = g.C.Consumer.knows c.args.options.now in
    let old = c.args.writers.now in
    let is : is_some (open_of taken) ≡ c.is_some.result =
    sym (c.is_some.ensures ∙ ap is_some (c.open.ensures taken at)) in
    let told : Tells out_look report_look telling (knows c.if-is_some.self.consumer) events
    (end_events taken) old c.if-is_some.writers (Ok tt) =
    elim c.if-is_some.branch [
      | then-is_some+in_ok-event w ↦
          rw (w.self-is, w.writers-is, is ∙ w.if-is_some.true)
          (w.in_ok-event.ensures events known (opened ∙ is ∙ w.if-is_some.true))
      | else-is_some w ↦
          rw (w.self-is, w.writers-is, is ∙ w.if-is_some.false)
          (tells_none out_look report_look telling (knows c.args.self.now.consumer) events old
          known)
    ] in (
      told.texts,
      told.said,
      (
        told.wrote,
        ends ∙ ap (λ b. if b then 0 else 1)
            (sym good_is ∙ c.is_good.ensures (events ++ end_events taken) told.known),
      ),
    )

pub returns-then-is_good : goal.returns-then-is_good
returns-then-is_good g c = record {
  gives = ended g (goal.at-returns-then-is_good g c).After-is_good true (record { 0 = 0 })
      c.if-is_good.true refl;
}

pub returns-else-is_good : goal.returns-else-is_good
returns-else-is_good g c = record {
  gives = ended g (goal.at-returns-else-is_good g c).After-is_good false (record { 0 = 1 })
      c.if-is_good.false refl;
}
