use Rattle.std.proofs.Common.{◌≡◌, ◌+◌, ◌<◌, ◌&&◌, ◌==◌, inl, List, ℕ, Some, length, take, refl, ap, ◌∙◌, arith, length-take, length-append}
use Rattle.link_wire.specs.Session.{source_of, left_of, data_in, IsSessionAt, PassedBytes}
use Rattle.link_wire.specs.declared.session.Session.{Session}
use Rattle.link_transfer.specs.declared.joiner.Turn.TheVariants as turn
use Rattle.link_run.specs.{Next.next_of, Reading.{feed_of, ReadsNothing}, declared.input.Input.Input, Run.looks}
use Rattle.link_run_over_transfers.specs.WalkRun.{Steps, at, stage_by}
use Rattle.link_run_over_transfers.specs.declared.walk.Stage.TheVariants as stage
use Rattle.link_run_over_transfers.proofs.{Heads.is_whole, Steps.{events_at, come_at, data_come, told_step}}
use Rattle.link_run_over_transfers.proofs.walk.Walker.take_loaded.Given.{Over}
use Rattle.link_run_over_transfers.proofs.walk.Walker.take_loaded.Goals as goal
use Rattle.link_run_over_transfers.proofs.walk.Walker.take_loaded.Goals.{After-event}

-- the data was told, and then given
gave_data : (g : Over) (c : After-event g) (given : Input (Session g.row.R.Denot) g.row.W.Denot g.row.E.Denot)
    → ((history : List ℕ) → IsSessionAt g.R.InDevice.state (feed_of c.args.input.now) history
    → PassedBytes g.R.InDevice.state (feed_of c.args.input.now) (feed_of given) history
    (take c.args.size (data_in g.R.InDevice.state (feed_of c.args.input.now))))
    → ReadsNothing g.R.InDevice.state source_of c.args.input.now given → 0 < c.args.size
    → Steps (looks g.R.InDevice.state g.W.OutDevice.state g.E.OutDevice.state)
    (g.C.Consumer.telling c.args.options.now) (g.C.Consumer.knows c.args.options.now) c.args.size
    (stage.Data c.args.last)
    (at c.args.input.now c.args.writers.now c.args.self.now)
    (at given c.event.new.writers
    (record c.args.self.now { consumer = c.event.new.self }))
    (next_of (stage_by (Some (turn.Continue c.args.last)) (left_of (feed_of given)))
    c.event.result)
gave_data g c given passed unread some = record {
  holds = λ start history at walks.
      let look = g.R.InDevice.state in
      let telling = g.C.Consumer.telling c.args.options.now in
      let knows = g.C.Consumer.knows c.args.options.now in
      let old = feed_of c.args.input.now in
      let new = feed_of given in
      let bytes : List ℕ = take c.args.size (data_in look old) in
      let size : length bytes ≡ c.args.size =
      omega (arith, c.requires.size, length-take c.args.size (data_in look old)) in
      let gave = passed history walks.session_at in
      let told_size = walks.size in
      let within = (source_of new).within in
      let had = gave.at.at.given in
      let over : c.is_last_data-whole.result ≡ (c.args.last && (left_of new == 0)) =
      c.is_last_data-whole.ensures
      ∙ ap (λ n. c.args.last && (c.args.size == n)) c.left.ensures.left
      ∙ ap (λ b. c.args.last && b)
      (is_whole c.args.size (left_of new) (left_of old)
      (gave.left ∙ ap (λ n. n + left_of new) size)) in
      let one : 0 < length bytes = omega (arith, some, size) in
      told_step knows old c.args.writers.now at gave.takes one
      (data_come (Some (turn.Continue c.args.last)) (come_at walks) gave refl one)
      c.event.new.writers c.event.new.self c.args.size (stage.Data c.args.last)
      (omega (arith, size)) tt c.event.result
      (rw (c.loaded.ensures, over) at
      (c.event.ensures (events_at telling history) walks.at.known (
        walks.at.opened,
        omega (
          arith,
          told_size,
          within,
          had,
          size,
          length-append history bytes,
          ap length c.loaded.ensures,
          c.requires.size,
          length-take c.args.size c.loaded.result.now,
        ),
      )));
  waits = λ history walks. inl (unread.waits, unread.reach);
}

pub returns-clause-gives : goal.returns-clause-gives
returns-clause-gives g c = λ some.
    rw (c.stage_by.ensures, c.left-2.ensures.left)
    (rw c.in_default.is at
    (gave_data g (goal.at-returns-clause-gives g c).After-event c.pass-2.new.self
    c.pass-2.ensures.gives c.pass-2.ensures.unread some))

pub returns-in-Err-clause-gives : goal.returns-in-Err-clause-gives
returns-in-Err-clause-gives g c = λ some.
    rw c.in-Err.is at
    (gave_data g (goal.at-returns-in-Err-clause-gives g c).After-event c.pass.new.self
    c.pass.ensures.gives c.pass.ensures.unread some)
