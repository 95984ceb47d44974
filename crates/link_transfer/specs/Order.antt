-- The order of the messages that one entity sends in a session (RFC 9174). Which message may come
-- next depends on the whole list of messages that were accepted before.
use Rattle.std.specs.Prelude.{ℕ, Bool, true, false, not, ◌&&◌, ◌==◌, List, [], ◌∷◌, ◌++◌, map, reverse, find, Option, Some, None, Result, Ok, Err, if◌then◌else◌}
use Rattle.std.specs.{List.list_any, Option.{option_and_then, option_eq}}
use Rattle.link_wire.specs.Codes.{is_start, is_end}
use Rattle.link_wire.specs.declared.message.Message.{Message}
use Rattle.link_transfer.specs.Event.{event_of}
use Rattle.link_transfer.specs.declared.event.Event.{Event}
use Rattle.link_transfer.specs.declared.event.Event.TheVariants.{SessInit, SessTerm, Segment, Other}
use Rattle.link_transfer.specs.declared.fault.OrderFault.{OrderFault}
use Rattle.link_transfer.specs.declared.fault.OrderFault.TheVariants.{SecondSessInit, SegmentBeforeSessInit, NoSuchOpenTransfer, StartRepeatsOpenId, StartAfterSessTerm}
use Rattle.link_transfer.specs.declared.joiner.Turn.{Turn}
use Rattle.link_transfer.specs.declared.joiner.Turn.TheVariants as turn

abbrev pub is_sess_init : Event → Bool
is_sess_init SessInit = true
is_sess_init SessTerm = false
is_sess_init (Segment flags id) = false
is_sess_init Other = false

abbrev pub is_sess_term : Event → Bool
is_sess_term SessInit = false
is_sess_term SessTerm = true
is_sess_term (Segment flags id) = false
is_sess_term Other = false

abbrev pub is_segment : Event → Bool
is_segment SessInit = false
is_segment SessTerm = false
is_segment (Segment flags id) = true
is_segment Other = false

-- whether an event is a segment with START
abbrev pub begins : Event → Bool
begins SessInit = false
begins SessTerm = false
begins (Segment flags id) = is_start flags
begins Other = false

-- whether an event is a segment without START
abbrev pub continues : Event → Bool
continues event = is_segment event && not (begins event)

-- the events of the messages before
abbrev pub events_of : List Message → List Event
events_of before = map event_of before

-- whether a SESS_INIT was accepted
unfoldable pub has_sess_init : List Message → Bool
has_sess_init before = list_any is_sess_init (events_of before)

-- whether a SESS_TERM was accepted
unfoldable pub has_sess_term : List Message → Bool
has_sess_term before = list_any is_sess_term (events_of before)

-- The ID of the transfer that is open after a segment. If the segment has no END, its own transfer
-- is open. No other is open, since segments of two transfers are never interleaved (sections 5.2
-- and 5.2.2). This is only used for segments.
abbrev pub open_after : Event → Option ℕ
open_after (Segment flags id) = if is_end flags then None else Some id
open_after SessInit = None
open_after SessTerm = None
open_after Other = None

-- The ID of the open transfer, or `None`. It is the ID of the latest segment, unless that segment
-- has END.
unfoldable pub open_of : List Message → Option ℕ
open_of before = option_and_then open_after (find is_segment (reverse (events_of before)))

-- The ID of the transfer whose next segment may come. It is the open transfer, if a SESS_INIT was
-- accepted. A run that goes on after faults may have an open transfer before a SESS_INIT. Until the
-- SESS_INIT comes, the segments of that transfer are refused.
abbrev pub continuable : List Message → Option ℕ
continuable before = if has_sess_init before then open_of before else None

-- whether the event is a segment of this transfer
abbrev pub is_of : Option ℕ → Event → Bool
is_of transfer SessInit = false
is_of transfer SessTerm = false
is_of transfer (Segment flags id) = option_eq ◌==◌ transfer (Some id)
is_of transfer Other = false

-- The first reason why a message is refused, or `None`. `initiated` is whether a SESS_INIT was
-- accepted before, and `terminated` is whether a SESS_TERM was. `transfer` is the open transfer.
-- 1. The parameters of a session do not change (section 4.7), and a SESS_INIT is not expected once
--    it is established (section 5.1.2). So a second one is refused.
-- 2. No bundle is transferred before the session is established (section 4).
-- 3. A segment without START continues the transfer of the segments before it (section 5.2.2), so
--    that transfer has to be open.
-- 4. A segment with START is the first of its transfer (section 5.2.2), so the transfer must not be
--    open yet.
-- 5. No transfer begins after SESS_TERM, but the open one may be finished (section 6.1).
-- An open transfer with another ID is no reason to refuse a START. The sender of a transfer that
-- was refused leaves it without END (section 5.2.4).
abbrev pub refusal_by : (initiated terminated : Bool) (transfer : Option ℕ) → Event
    → Option OrderFault
refusal_by initiated terminated transfer event =
    if is_sess_init event && initiated then Some SecondSessInit
    else if is_segment event && not initiated then Some SegmentBeforeSessInit
    else if continues event && not (is_of transfer event) then Some NoSuchOpenTransfer
    else if begins event && is_of transfer event then Some StartRepeatsOpenId
    else if begins event && terminated then Some StartAfterSessTerm
    else None

-- the first reason why a message is refused after the messages before it, or `None`
unfoldable pub refusal : List Message → Event → Option OrderFault
refusal before event =
    refusal_by (has_sess_init before) (has_sess_term before) (open_of before) event

-- The effect of an accepted message, while this transfer is open. A segment with START begins a
-- transfer and abandons the open one. A segment without START continues the open one.
abbrev pub turn_by : Option ℕ → Event → Turn
turn_by transfer SessInit = turn.Other
turn_by transfer SessTerm = turn.Other
turn_by transfer (Segment flags id) =
    if is_start flags then turn.Begin transfer (is_end flags) else turn.Continue (is_end flags)
turn_by transfer Other = turn.Other

-- the effect of an accepted message after those before it
unfoldable pub turn_of : List Message → Event → Turn
turn_of before event = turn_by (open_of before) event

-- a message is refused, or has this effect
abbrev pub judged_message_by : Option OrderFault → Turn → Result Turn OrderFault
judged_message_by (Some fault) done = Err fault
judged_message_by None done = Ok done

-- the effect of a message after those before it, or the reason why it is refused
unfoldable pub judged_message : List Message → Event → Result Turn OrderFault
judged_message before event = judged_message_by (refusal before event) (turn_of before event)

-- ---- going on after a fault of the order

-- Whether the event is a segment that belongs to no transfer, while this transfer is open. It is
-- not the first of its transfer, and its transfer is not open (section 5.2.2).
abbrev pub is_stray_by : (transfer : Option ℕ) → Event → Bool
is_stray_by transfer event = continues event && not (is_of transfer event)

-- whether the event is a stray segment after the messages before it
unfoldable pub is_stray : List Message → Event → Bool
is_stray before event = is_stray_by (open_of before) event

-- The effect of a message that is taken even if it is refused. A stray segment has none.
abbrev pub effect_by : (stray : Bool) → Turn → Option Turn
effect_by true done = None
effect_by false done = Some done

-- the effect of a message that is taken after those before it; `None` for a stray segment
unfoldable pub effect_of : List Message → Event → Option Turn
effect_of before event = effect_by (is_stray before event) (turn_of before event)

-- The messages before, and then this one unless it is stray. A run that goes on after refused
-- messages judges the next message by this list.
abbrev pub appended_unless : (stray : Bool) → List Message → Message → List Message
appended_unless true before message = before
appended_unless false before message = before ++ message ∷ []

-- the messages before, and then this one, unless it is a stray segment
unfoldable pub with_taken : List Message → Message → List Message
with_taken before message = appended_unless (is_stray before (event_of message)) before message
