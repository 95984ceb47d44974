-- The status of `blocks`, and that of `unpack`.
use Rattle.std.proofs.Common.{◌≡◌, false, List, [], ◌∷◌, ◌++◌, Option, Some, None, fold, refl}
use Rattle.link_wire.specs.Stream.{reading_of}
use Rattle.link_run.specs.Made.{StreamStop, Made, whole_by}
use Rattle.link_run_over_transfers.specs.Walk.{WalkEvent, ContactHeader, end_events, stop_by, walked, told_of}
use Rattle.link_run_over_transfers.specs.declared.consumer.Manner.{Manner}
use Rattle.link_run_judge.specs.Unpacking.{Told, none_told, told_event, told_after}
use Rattle.link_tool_option_types.specs.declared.wanted.Wanted.{Wanted}
use Rattle.link_tool_blocks.specs.{Laws.HasStatusOfUnpack, Showing.unpacking_by}

-- what was told has the same transfers, and is good or not alike
record Alike (one other : Told) : Type 0 where
  transfers : one.transfers ≡ other.transfers
  good : one.good ≡ other.good

module _ (first second : Wanted) where
  event_alike : (one other : Told) (event : WalkEvent) → Alike one other
      → Alike (told_event first one event) (told_event second other event)
  event_alike one other (ContactHeader contact) alike = alike
  event_alike one other others alike = record { transfers = cc; good = cc }

  events_alike : (events : List WalkEvent) (one other : Told) → Alike one other
      → Alike (fold (told_event first) one events) (fold (told_event second) other events)
  events_alike [] one other alike = alike
  events_alike (event ∷ more) one other alike =
      events_alike more _ _ (event_alike one other event alike)

  good_alike : (events : List WalkEvent)
      → (told_after first events).good ≡ (told_after second events).good
  unfolding told_after
  good_alike events =
      (events_alike events none_told none_told (record { transfers = refl; good = refl })).good

-- the status follows from the stop, and from whether everything is good
status_by : (stop : Option StreamStop) (one other : Made) → one.good ≡ other.good
    → (whole_by stop one).status ≡ (whole_by stop other).status
status_by None one other same = rw same refl
status_by (Some stop) one other same = refl

pub HasStatusOfUnpack-holds : HasStatusOfUnpack
unfolding told_of
HasStatusOfUnpack-holds options wanted bytes same =
    let manner : Manner = record { goes_on = options.keep_going; all_heads = false } in
    let reading = reading_of bytes in
    let was = walked manner reading in
    rw same (status_by (stop_by was.refused reading.end) _ _
    (good_alike (unpacking_by options) (record wanted { keep_going = options.keep_going }) (was.events ++ end_events was.taken)))
