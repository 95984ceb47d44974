-- The heads of a reading that goes on, and what a message or an event does to the open transfer.
use Rattle.std.proofs.Common.{◌≡◌, ℕ, ◌+◌, Bool, true, false, ◌==◌, nat_lt, is_some, List, [], ◌∷◌, ◌++◌, length, Option, Some, None, if◌then◌else◌, refl, ap, ◌∙◌, append-nil, arith}
use Rattle.std.specs.List.{fold}
use Rattle.std.proofs.lemmas.{Bool.Decides.nat_tests, Grind.fold-append}
use Rattle.std.proofs.lemmas.List.Sums.{sum_by-cons, sum_by-append}
use Rattle.link_wire.specs.{Codes.{is_start, is_end}, Message.data_length, Session.joined}
use Rattle.link_wire.specs.Stream.{Entry, Clean, Cut, ended, with_entry, Reading, cut_heads, heads_of}
use Rattle.link_wire.specs.declared.message.Message.{Message}
use Rattle.link_transfer.specs.Event.{event_of}
use Rattle.link_transfer.specs.Order.{is_segment, is_stray, effect_of, effect_by, turn_of, turn_by, open_of, with_taken, appended_unless}
use Rattle.link_transfer.specs.declared.event.Event.{Event}
use Rattle.link_transfer.specs.declared.event.Event.TheVariants as event
use Rattle.link_transfer.specs.declared.joiner.Turn.{Turn}
use Rattle.link_transfer.specs.declared.joiner.Turn.TheVariants as turn
use Rattle.link_transfer.proofs.Joining.{after-segment, after-other}
pub use Rattle.link_run.proofs.Continued.{entry}
use Rattle.link_run_over_transfers.specs.Walk.{is_last, WalkEvent, Data, data_events, data_size, data_size_of, open_with, open_after_event, has_open}

-- ---- heads

-- the heads of a reading that ends between two messages
pub heads_clean : (reading : Reading) → reading.end ≡ Clean → heads_of reading ≡ reading.entries
heads_clean reading clean =
    ap (λ e. reading.entries ++ cut_heads e) clean ∙ append-nil reading.entries

-- the reading with one more head and this data of it; `left` more bytes of it are to come
abbrev pub with_head : Reading → ℕ → Message → (content : List ℕ) → (left : ℕ) → Reading
with_head reading offset sent content left =
    joined reading (if nat_lt 0 left
    then ended (Cut offset sent content)
    else with_entry (entry offset sent content) (ended Clean))

pub heads_with : (reading : Reading) (offset : ℕ) (sent : Message) (content : List ℕ) (left : ℕ)
    → heads_of (with_head reading offset sent content left)
    ≡ reading.entries ++ entry offset sent content ∷ []
heads_with reading offset sent content left = grind (arith, append-nil {A = Entry})

-- a segment is whole exactly if none of its data is left
pub is_whole : (content left size : ℕ) → size ≡ content + left → (content == size) ≡ (left == 0)
is_whole content left size is = grind (arith, nat_tests)

-- ---- the effect of a message

-- a message that does nothing to the transfers has no data
pub other_has_none : (before : List Message) (sent : Message)
    → effect_of before (event_of sent) ≡ Some turn.Other → data_length sent ≡ 0
unfolding effect_of turn_of
other_has_none before sent is = grind arith

-- a segment that continues a transfer finds one open
pub continues_some : (before : List Message) (happened : Event) (last : Bool)
    → effect_of before happened ≡ Some (turn.Continue last) → is_some (open_of before) ≡ true
unfolding effect_of turn_of is_stray
continues_some before happened last is = grind arith

open_segment : (starts ends : Bool) (transfer : Option ℕ) (id : ℕ) (was : Bool)
    → is_some (if ends then None else Some id)
    ≡ (let done : Option Turn =
    Some (if starts then turn.Begin transfer ends else turn.Continue ends) in
    open_with done (is_last done) was)
open_segment starts ends transfer id was = grind arith

open_by : (stray : Bool) (before : List Message) (sent : Message) (happened : Event)
    → event_of sent ≡ happened
    → is_some (open_of (appended_unless stray before sent))
    ≡ (let done : Option Turn = effect_by stray (turn_by (open_of before) happened) in
    open_with done (is_last done) (is_some (open_of before)))
open_by true before sent happened is = refl
open_by false before sent (event.Segment flags id) is =
    ap is_some (after-segment before sent flags id is)
    ∙ open_segment (is_start flags) (is_end flags) (open_of before) id (is_some (open_of before))
open_by false before sent happened is = ap is_some (after-other before sent (ap is_segment is))

-- whether a transfer is open after a message that is taken, by the effect of the message
pub open_then : (before : List Message) (sent : Message)
    → is_some (open_of (with_taken before sent))
    ≡ (let done : Option Turn = effect_of before (event_of sent) in
    open_with done (is_last done) (is_some (open_of before)))
unfolding with_taken effect_of turn_of
open_then before sent =
    open_by (is_stray before (event_of sent)) before sent (event_of sent) refl

-- ---- events

pub has_open-append : (before added : List WalkEvent)
    → has_open (before ++ added) ≡ fold open_after_event (has_open before) added
unfolding has_open
has_open-append before added = fold-append open_after_event false before added

pub data_keeps : (was : Bool) (bytes : List ℕ)
    → fold open_after_event was (data_events bytes) ≡ was
data_keeps was [] = refl
data_keeps was (byte ∷ bytes) = data_keeps was bytes

pub data_size-append : (before added : List WalkEvent)
    → data_size (before ++ added) ≡ data_size before + data_size added
unfolding data_size
data_size-append before added = sum_by-append data_size_of before added

pub data_size-data : (bytes : List ℕ) → data_size (data_events bytes) ≡ length bytes
unfolding data_size
data_size-data [] = refl
data_size-data (byte ∷ bytes) =
    sum_by-cons data_size_of (Data byte) (data_events bytes)
    ∙ ap (λ n. 1 + n) (data_size-data bytes) ∙ omega arith
