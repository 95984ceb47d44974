-- If all messages of a recording are in order, its transfers come after its first SESS_INIT.
use Rattle.std.proofs.Common.{◌≡◌, ℕ, Bool, true, false, ◌&&◌, ◌==◌, not, is_some, List, [], ◌∷◌, ◌++◌, length, map, Option, Some, None, if◌then◌else◌, refl, ap, sym, ◌∙◌, append_assoc, arith}
use Rattle.std.proofs.lemmas.{List.map-append}
use Rattle.link_wire.specs.{Message.data_length, Stream.Entry}
use Rattle.link_wire.specs.declared.{message.Message.Message, message.Contact.Contact}
use Rattle.link_transfer.specs.{Event.event_of, declared.event.Event.Event, declared.joiner.Turn.Turn}
use Rattle.link_transfer.specs.Order.{refusal, refusal_by, has_sess_init, is_stray, turn_by, effect_by, effect_of, turn_of, open_of, with_taken}
use Rattle.link_session_rules.specs.{Heads.{HeadWithOrder, messages_of}, Session.first_node}
use Rattle.link_run_over_transfers.specs.Walk.{head_at, WalkEvent, data_events, content_events, contact_events, end_events, Whole, LeftOpen}
use Rattle.link_tool_check.specs.Checking.{judged, sender_of}
use Rattle.link_tools_laws.specs.Transfers.{ordered, ordered_after}
use Rattle.link_tools_laws.proofs.Placed.{is_of_transfer, AllComeFrom}
use Rattle.link_tools_laws.proofs.Same.{AreInOrder, all, first_may, not_stray, taken_more}
use Rattle.link_tools_laws.proofs.Walks.{walk_events}
use Rattle.link_wire.specs.declared.message.Message.TheVariants as message
use Rattle.link_transfer.specs.declared.joiner.Turn.TheVariants as turn

-- ---- the first SESS_INIT

-- it stays the first one, whichever messages follow
init_first : (taken more : List Message) → has_sess_init taken ≡ true
    → first_node (taken ++ more) ≡ first_node taken
unfolding has_sess_init
init_first [] more has = absurd (cc)
init_first (message.SessInit interval segment_mru transfer_mru node items ∷ taken) more has = refl
init_first (message.SessTerm flags reason ∷ taken) more has = init_first taken more has
init_first (message.Segment head ∷ taken) more has = init_first taken more has
init_first (message.Ack flags id size ∷ taken) more has = init_first taken more has
init_first (message.Refuse reason id ∷ taken) more has = init_first taken more has
init_first (message.Keepalive ∷ taken) more has = init_first taken more has
init_first (message.MsgReject reason header ∷ taken) more has = init_first taken more has

-- no transfer begins or goes on before it
initiated_by : (initiated terminated stray : Bool) (transfer : Option ℕ) (happened : Event)
    → refusal_by initiated terminated transfer happened ≡ None
    → is_of_transfer (effect_by stray (turn_by transfer happened)) ≡ true → initiated ≡ true
initiated_by initiated terminated stray transfer happened may does = grind arith

initiated : (taken : List Message) (happened : Event) → refusal taken happened ≡ None
    → is_of_transfer (effect_of taken happened) ≡ true → has_sess_init taken ≡ true
unfolding refusal effect_of turn_of
initiated taken happened may does =
    initiated_by (has_sess_init taken) _ (is_stray taken happened) (open_of taken) happened may does

-- ---- events

module _ (node : List ℕ) where
  bytes_from : (bytes : List ℕ) (whole : Bool) (heads : List HeadWithOrder) (rest : List WalkEvent)
      → sender_of heads ≡ node → AllComeFrom node heads rest
      → AllComeFrom node heads
      ((data_events bytes ++ (if whole then Whole ∷ [] else [])) ++ rest)
  bytes_from [] true heads rest is from = (λ change. is, from)
  bytes_from [] false heads rest is from = from
  bytes_from (byte ∷ bytes) whole heads rest is from =
      (λ change. is, bytes_from bytes whole heads rest is from)

  content_from : (effect : Option Turn) (size : ℕ) (content : List ℕ) (heads : List HeadWithOrder)
      (rest : List WalkEvent) → (is_of_transfer effect ≡ true → sender_of heads ≡ node)
      → AllComeFrom node heads rest
      → AllComeFrom node heads (content_events effect size content ++ rest)
  content_from None size content heads rest is from = from
  content_from (Some turn.Other) size content heads rest is from = from
  content_from (Some (turn.Begin abandoned last)) size content heads rest is from =
      bytes_from content (last && (not (size == 0) && (length content == size))) heads rest
      (is refl) from
  content_from (Some (turn.Continue last)) size content heads rest is from =
      bytes_from content (last && (not (size == 0) && (length content == size))) heads rest
      (is refl) from

  -- These heads are in order after these messages. The first SESS_INIT among all has this node ID.
  heads_from : (heads : List Entry) (taken : List Message) (before : List HeadWithOrder)
      (rest : List WalkEvent) → ordered_after taken heads ≡ all heads
      → messages_of before ≡ taken
      → first_node (taken ++ map (λ (head : Entry). head.message) heads) ≡ node
      → ((after : List HeadWithOrder) → AllComeFrom node after rest)
      → AllComeFrom node before (walk_events true taken heads ++ rest)
  heads_from [] taken before rest order same is ends = ends before
  heads_from (head ∷ more) taken before rest order same is ends =
      let sent = head.message in
      let at = head_at taken head.offset sent in
      let first = first_may taken head more order in
      let next = taken ++ sent ∷ [] in
      let heads = before ++ judged at ∷ [] in
      let others = map (λ (head : Entry). head.message) more in
      let joined : messages_of heads ≡ next =
      rw (map-append (λ (head : HeadWithOrder). head.message) before (judged at ∷ []), same) refl in
      let node_is : first_node (next ++ others) ≡ node = rw (append_assoc taken (sent ∷ []) others) is in
      let begins : is_of_transfer at.turn ≡ true → sender_of heads ≡ node = λ change.
      let has = initiated taken (event_of sent) first.0 change in
      ap first_node joined
      ∙ init_first taken (sent ∷ []) has
      ∙ sym (init_first taken (sent ∷ others) has)
      ∙ is in
      let content = content_events at.turn (data_length sent) head.content in
      let walk = walk_events true (with_taken taken sent) more in
      let later : AllComeFrom node heads (walk ++ rest) =
      rw (taken_more taken sent (not_stray taken (event_of sent) first.0))
      (heads_from more next heads rest first.1 joined node_is ends) in (
        begins,
        rw (append_assoc content walk rest)
            (content_from at.turn (data_length sent) head.content heads (walk ++ rest) begins later),
      )

  contact_from : (contact : Option Contact) (rest : List WalkEvent) → AllComeFrom node [] rest
      → AllComeFrom node [] (contact_events contact ++ rest)
  contact_from None rest from = from
  contact_from (Some contact) rest from = (λ change. absurd (cc), from)

  end_from : (opened : Bool) (after : List HeadWithOrder)
      → AllComeFrom node after (if opened then LeftOpen ∷ [] else [])
  end_from true after = (λ change. absurd (cc), tt)
  end_from false after = tt

-- the transfers of these heads come after the first SESS_INIT among them
pub all_from : (contact : Option Contact) (heads : List Entry) (taken : List Message)
    → AreInOrder heads
    → AllComeFrom (first_node (map (λ (head : Entry). head.message) heads)) []
    ((contact_events contact ++ walk_events true [] heads) ++ end_events taken)
unfolding ordered
all_from contact heads taken order =
    let node = first_node (map (λ (head : Entry). head.message) heads) in
    let walk = walk_events true [] heads in
    rw (append_assoc (contact_events contact) walk (end_events taken))
    (contact_from node contact (walk ++ end_events taken)
    (heads_from node heads [] [] (end_events taken) order refl refl
    (end_from node (is_some (open_of taken)))))
