-- Relations: what comes after a step.
use Rattle.std.specs.Prelude.{Result, Ok, Err}
use Rattle.link_wire.specs.declared.IoFault.{IoFault}
use Rattle.link_run.specs.Run.{answer_of}
use Rattle.link_run.specs.declared.next.Next.{Next}
use Rattle.link_run.specs.declared.next.Next.TheVariants as next
use Rattle.link_run.specs.declared.run.{Progress.Progress, Progress.TheVariants.More}

module _ {S : Type 0} where
  -- what comes after a write: the stage `later` if all was written, or else the failure
  abbrev pub next_of : (later : S) → Result (Unit {0}) IoFault → Next S
  next_of later (Ok done) = next.Stage later
  next_of later (Err fault) = next.Ended (Err fault)

  -- the result of a step, from what comes next
  abbrev pub progress_of : Next S → Result Progress IoFault
  progress_of (next.Stage later) = Ok More
  progress_of (next.Ended answer) = answer_of answer

  -- the stage after a step at the stage `now`; it stays the same if the run has ended
  abbrev pub stage_after : (now : S) → Next S → S
  stage_after now (next.Stage later) = later
  stage_after now (next.Ended answer) = now
