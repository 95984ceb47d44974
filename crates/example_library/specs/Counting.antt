-- The sizes of the transfers of a recorded stream.
use Rattle.std.specs.Prelude.{ℕ, ◌+◌, ◌-◌, ◌^◌, min, Bool, true, List, [], ◌∷◌, ◌++◌, decimal, if◌then◌else◌}
use Rattle.link_run.specs.Writers.{on_output}
use Rattle.link_run_over_transfers.specs.Walk.{WalkEvent, MessageHead, Data, Whole, closes, is_beginning}
use Rattle.link_run_over_transfers.specs.Saying.{StatefulTool}

-- How many bytes of the latest transfer's data have come. The count ends at 2^64 - 1.
abbrev pub size_after : (size : ℕ) → WalkEvent → ℕ
size_after size (MessageHead head) = if is_beginning head.turn then 0 else size
size_after size (Data byte) = min (size + 1) (2 ^ 64 - 1)
size_after size event = size

abbrev pub line_if : (whole : Bool) → (size : ℕ) → List ℕ
line_if whole size = if whole then decimal size ++ 0x0a ∷ [] else []

-- a line for a transfer that is whole with an event, where `size` is that before the event
abbrev pub line_of : (size : ℕ) → WalkEvent → List ℕ
line_of size (MessageHead head) = line_if (closes head) (size_after size (MessageHead head))
line_of size Whole = line_if true size
line_of size event = []

abbrev pub sizes : StatefulTool ℕ
sizes = record {
  start = 0;
  next = size_after;
  says = λ size event. on_output (line_of size event);
  good = λ size. true;
}
