-- Rules of transfer IDs (RFC 9174 section 5.2).
use Rattle.std.specs.Prelude.{ℕ, Bool, true, false, not, ◌+◌, ◌&&◌, ◌==◌, List, [], ◌∷◌, take, filter_map, Option, Some, None, if◌then◌else◌}
use Rattle.std.specs.{List.list_any, Option.option_and_then}
use Rattle.link_wire.specs.declared.message.{SegmentHead.SegmentHead, Message.Message}
use Rattle.link_transfer.specs.declared.joiner.Turn.{Turn}
use Rattle.link_transfer.specs.declared.joiner.Turn.TheVariants as turn
use Rattle.link_session_rules.specs.Heads.{HeadWithOrder, newest, held, is_sess_init, segment_of, start_id}
use Rattle.link_session_rules.specs.declared.rule.MessageRule.{MessageRule}
use Rattle.link_session_rules.specs.declared.rule.MessageRule.TheVariants.{Interleaved, TransferId, TransferIdOrder}

-- ---- interleaved

-- the ID of the transfer that a START abandons, since it was open until then
abbrev pub abandoned_by : Option Turn → Option ℕ
abandoned_by (Some (turn.Begin abandoned last)) = abandoned
abandoned_by _ = None

-- the rule that a first segment breaks, if the transfer that it abandons has another ID
abbrev pub if_another : SegmentHead → (open_id : ℕ) → Option MessageRule
if_another segment open_id =
    if segment.id == open_id then None else Some (Interleaved segment.id open_id)

-- interleaved: a transfer does not begin while one of another ID is open (sections 5.2 and 5.2.2).
-- This is only a `should`: the receiver may have refused the open transfer, and only its own
-- messages show this.
unfoldable pub interleaved : HeadWithOrder → Option MessageRule
interleaved head =
    option_and_then (λ segment. option_and_then (if_another segment) (abandoned_by head.turn))
    (segment_of head.message)

-- ---- runs of IDs: longest stretches of successive STARTs in which each ID is one more than the ID
-- before it. Every START counts, also one that is out of order. The newest run of IDs comes first,
-- and in each run of IDs the newest ID.

-- the runs of IDs after one more ID; the next ID extends the newest run of IDs, and any other ID
-- begins one
abbrev pub with_id : ℕ → List (List ℕ) → List (List ℕ)
with_id id ((last ∷ run) ∷ runs) =
    if id == last + 1 then (id ∷ last ∷ run) ∷ runs else (id ∷ []) ∷ (last ∷ run) ∷ runs
with_id id runs = (id ∷ []) ∷ runs

-- the runs of IDs among these IDs; the newest ID is first
abbrev pub runs_of : List ℕ → List (List ℕ)
runs_of [] = []
runs_of (id ∷ older) = with_id id (runs_of older)

-- the IDs of the STARTs among these messages
abbrev pub ids_of : (older : List Message) → List ℕ
ids_of older = filter_map start_id older

-- the latest 64 runs of IDs in these messages; older IDs are forgotten
abbrev pub last_runs : (older : List Message) → List (List ℕ)
last_runs older = take 64 (runs_of (ids_of older))

-- whether an ID is in one of these runs of IDs
abbrev pub is_in : List (List ℕ) → (id : ℕ) → Bool
is_in runs id = list_any (λ run. list_any (λ earlier. earlier == id) run) runs

-- ---- transfer-id

-- the rule that a START with this ID breaks, if the ID is in one of these runs of IDs
abbrev pub if_in : List (List ℕ) → (id : ℕ) → Option MessageRule
if_in runs id = if is_in runs id then Some (TransferId id) else None

-- transfer-id: the ID of a transfer is new (section 5.2.1), as far as the latest 64 runs of IDs
-- show
unfoldable pub transfer_id : List HeadWithOrder → Message → Option MessageRule
transfer_id before message =
    option_and_then (if_in (last_runs (newest before))) (start_id message)

-- ---- transfer-id-order

-- Whether an ID is not the next one. `ids` are the IDs before it, the newest first. The next ID is
-- one more than the newest of them, or 0 if there is none.
abbrev pub skips : (ids : List ℕ) → (id : ℕ) → Bool
skips [] id = not (id == 0)
skips (latest ∷ older) id = not (id == latest + 1)

-- Whether a START after a SESS_INIT has a new ID that is not the next one. An ID is new if it is in
-- none of the latest 64 runs of IDs. Without a START, there is no ID.
abbrev pub jumps_to : (older : List Message) → Option ℕ → Bool
jumps_to older None = false
jumps_to older (Some id) =
    list_any is_sess_init older && (not (is_in (last_runs older) id) && skips (ids_of older) id)

-- whether a message is a START with a new ID that is not the next one, after a SESS_INIT; the ID
-- is new as far as the latest 64 runs of IDs show
abbrev pub jumps : (older : List Message) → Message → Bool
jumps older message = jumps_to older (start_id message)

-- transfer-id-order: the first transfer ID is 0, and each later one is one more than the one before
-- it (section 5.2.1). Only the first START that breaks this is reported.
unfoldable pub transfer_id_order : List HeadWithOrder → Message → Option MessageRule
transfer_id_order before message =
    let older = newest before in
    option_and_then
    (λ id. if jumps older message && not (held jumps older) then Some (TransferIdOrder id) else None)
    (start_id message)
