-- The messages that a joiner has accepted, with one more.
use Rattle.std.proofs.Common.{◌≡◌, ℕ, Bool, false, ◌||◌, cond, List, [], ◌∷◌, ◌++◌, reverse, Option, Some, None, refl, ap, sym, subst, ◌∙◌, arith}
use Rattle.std.proofs.{Math.Bool.or-false, lemmas.List.{map_push, reverse-append, Folds.list_any-append}}
use Rattle.std.specs.{List.{list_any, find}, Option.option_and_then}
use Rattle.link_wire.specs.declared.message.Message.{Message}
use Rattle.link_transfer.specs.Event.{event_of}
use Rattle.link_transfer.specs.Order.{is_sess_init, is_sess_term, is_segment, events_of, has_sess_init, has_sess_term, open_after, open_of, refusal, refusal_by, turn_of, turn_by, judged_message, judged_message_by, is_stray, is_stray_by, effect_of, effect_by, with_taken, appended_unless}
use Rattle.link_transfer.specs.{Joiner.{IsJoinerAt, joiner_after}, declared.event.Event.Event}
use Rattle.link_transfer.specs.declared.event.Event.TheVariants.{Segment}
use Rattle.link_transfer.specs.declared.joiner.Joiner.{Joiner}

any-push : (test : Event → Bool) (before : List Message) (message : Message)
    → list_any test (events_of (before ++ message ∷ []))
    ≡ (list_any test (events_of before) || test (event_of message))
any-push test before message =
    ap (list_any test) (map_push event_of before message)
    ∙ list_any-append test (events_of before) (event_of message ∷ [])
    ∙ ap (λ b. list_any test (events_of before) || b) (or-false (test (event_of message)))

-- the last segment after one more message
last-push : (before : List Message) (message : Message)
    → find is_segment (reverse (events_of (before ++ message ∷ [])))
    ≡ cond (is_segment (event_of message)) (Some (event_of message)) (find is_segment (reverse (events_of before)))
last-push before message =
    ap (λ events. find is_segment (reverse events)) (map_push event_of before message)
    ∙ ap (find is_segment) (reverse-append (events_of before) (event_of message ∷ []))

open_of-push : (before : List Message) (message : Message)
    → open_of (before ++ message ∷ [])
    ≡ option_and_then open_after
    (cond (is_segment (event_of message)) (Some (event_of message))
    (find is_segment (reverse (events_of before))))
unfolding open_of
open_of-push before message = ap (option_and_then open_after) (last-push before message)

-- the open transfer after each event
pub after-segment : (before : List Message) (message : Message) (flags id : ℕ)
    → event_of message ≡ Segment flags id
    → open_of (before ++ message ∷ []) ≡ open_after (Segment flags id)
after-segment before message flags id is = rw (open_of-push before message, is) refl

pub after-other : (before : List Message) (message : Message)
    → is_segment (event_of message) ≡ false
    → open_of (before ++ message ∷ []) ≡ open_of before
unfolding open_of
after-other before message is = rw (open_of-push before message, is) refl

pub IsJoinerAt-none : IsJoinerAt (record { initiated = false; terminated = false; transfer = None })
    []
unfolding has_sess_init has_sess_term open_of
IsJoinerAt-none = record { initiated = refl; terminated = refl; transfer = refl }

pub IsJoinerAt-then : (joiner : Joiner) (before : List Message) (message : Message) (event : Event)
    → event_of message ≡ event
    → IsJoinerAt joiner before → IsJoinerAt (joiner_after joiner event) (before ++ message ∷ [])
unfolding has_sess_init has_sess_term open_of
IsJoinerAt-then joiner before message event is at = record {
  initiated = rw (any-push is_sess_init before message, is, ← at.initiated) (grind arith);
  terminated = rw (any-push is_sess_term before message, is, ← at.terminated) (grind arith);
  transfer = rw (open_of-push before message, is) (grind arith);
}

-- the judgement of an event, by the fields of a joiner
pub judged-at : (joiner : Joiner) (before : List Message) (event : Event) → IsJoinerAt joiner before
    → judged_message_by (refusal_by joiner.initiated joiner.terminated joiner.transfer event)
    (turn_by joiner.transfer event) ≡ judged_message before event
unfolding judged_message refusal turn_of
judged-at joiner before event at = rw (at.initiated, at.terminated, at.transfer) refl

-- ---- a message that is taken whether or not it may come

pub not_stray : (initiated terminated : Bool) (transfer : Option ℕ) (event : Event)
    → refusal_by initiated terminated transfer event ≡ None → is_stray_by transfer event ≡ false
not_stray initiated terminated transfer event is = grind arith

module _ (joiner : Joiner) (before : List Message) (event : Event)
    (at : IsJoinerAt joiner before) where
  pub refusal-at : refusal_by joiner.initiated joiner.terminated joiner.transfer event
      ≡ refusal before event
  unfolding refusal
  refusal-at = rw (at.initiated, at.terminated, at.transfer) refl

  pub stray-at : is_stray_by joiner.transfer event ≡ is_stray before event
  unfolding is_stray
  stray-at = rw at.transfer refl

  pub effect-at : (stray : Bool) → is_stray_by joiner.transfer event ≡ stray
      → effect_by stray (turn_by joiner.transfer event) ≡ effect_of before event
  unfolding effect_of turn_of
  effect-at stray is = rw (← is, stray-at, at.transfer) refl

  pub taken-at : (message : Message) → event_of message ≡ event → (stray : Bool)
      → is_stray_by joiner.transfer event ≡ stray → (after : Joiner)
      → IsJoinerAt after (appended_unless stray before message) → IsJoinerAt after (with_taken before message)
  unfolding with_taken
  taken-at message same stray is after holds =
      let P : Bool → Type 0 = λ b. IsJoinerAt after (appended_unless b before message) in
      subst P (sym is ∙ stray-at ∙ ap (is_stray before) (sym same)) holds
