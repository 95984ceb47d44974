-- Of no event nothing is said.
use Rattle.std.proofs.Common.{List, [], Ok, append-nil}
use Rattle.link_wire.specs.Device.{Output}
use Rattle.link_run.specs.{Run.no_texts, declared.writers.Writers.Writers}
use Rattle.link_run.proofs.Runs.{then_none, writes_none}
use Rattle.link_run_over_transfers.specs.{Walk.{WalkEvent, Telling}, Telling.Tells}

pub tells_none : {W E : Type 0} (out_look : W → Output) (report_look : E → Output)
    (telling : Telling) (knows : List WalkEvent → Type 0) (before : List WalkEvent)
    (writers : Writers W E) → knows before
    → Tells out_look report_look telling knows before [] writers writers (Ok tt)
tells_none out_look report_look telling knows before writers known = record {
  texts = no_texts;
  said = rw (append-nil before) (then_none (telling.texts before));
  wrote = writes_none out_look report_look writers;
  known = rw (append-nil before) known;
}
