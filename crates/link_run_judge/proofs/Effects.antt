-- What a head does to the transfers.
use Rattle.std.proofs.Common.{◌≡◌, ℕ, Bool, true, false, ◌==◌, is_some, List, Option, Some, None, refl, ap, sym, ◌∙◌, ⊎_elim, arith, if◌then◌else◌}
use Rattle.std.proofs.lemmas.Bool.Decides.{nat_tests}
use Rattle.link_wire.specs.{Codes.{is_start, is_end}, declared.message.Message.Message}
use Rattle.link_wire.specs.declared.message.Message.TheVariants as message
use Rattle.link_wire.specs.declared.message.SegmentHead.{SegmentHead}
use Rattle.link_transfer.specs.Event.{event_of}
use Rattle.link_transfer.specs.Order.{is_segment, is_stray, effect_of, effect_by, turn_of, turn_by, open_of}
use Rattle.link_transfer.specs.declared.event.Event.{Event}
use Rattle.link_transfer.specs.declared.event.Event.TheVariants as event
use Rattle.link_transfer.specs.declared.joiner.Turn.{Turn}
use Rattle.link_transfer.specs.declared.joiner.Turn.TheVariants as turn
use Rattle.link_run_over_transfers.specs.{Walk.{Head, WalkEvent, has_open, abandons}, Telling.HeadComes}
use Rattle.link_run_over_transfers.proofs.Heads.{continues_some}
use Rattle.link_run_judge.proofs.Heads.{kind_of}

-- ---- the effect of a head

module _ (taken : List Message) (happened : Event) where
  pub effect_stray : is_stray taken happened ≡ true → effect_of taken happened ≡ None
  unfolding effect_of
  effect_stray is = ap (λ b. effect_by b (turn_of taken happened)) is

  pub effect_taken : is_stray taken happened ≡ false
      → effect_of taken happened ≡ Some (turn_by (open_of taken) happened)
  unfolding effect_of turn_of
  effect_taken is = ap (λ b. effect_by b (turn_of taken happened)) is

pub other_turn : (taken : List Message) (happened : Event) → is_segment happened ≡ false
    → turn_by (open_of taken) happened ≡ turn.Other
other_turn taken (event.Segment flags id) is = absurd (cc)
other_turn taken happened is = refl

pub zero_eq : (size : ℕ) → (0 == size) ≡ (size == 0)
zero_eq size = grind (arith, nat_tests)

-- ---- what a head does

-- by the effect of the message, while a transfer is open or not
pub data Does (effect : Option Turn) (sent : Message) (opened : Bool) : Type 0 where
  Strays : effect ≡ None → Does effect sent opened
  Passes : effect ≡ Some turn.Other → is_segment (event_of sent) ≡ false → Does effect sent opened
  Begins : (first : SegmentHead) → (abandoned : Option ℕ) → sent ≡ message.Segment first
      → is_start first.flags ≡ true → effect ≡ Some (turn.Begin abandoned (is_end first.flags))
      → is_some abandoned ≡ opened → Does effect sent opened
  Continues : (first : SegmentHead) → sent ≡ message.Segment first → is_start first.flags ≡ false
      → effect ≡ Some (turn.Continue (is_end first.flags)) → opened ≡ true → Does effect sent opened

module _ (taken : List Message) (opened : Bool) (is : opened ≡ is_some (open_of taken)) where
  segment_does : (first : SegmentHead) (starts : Bool) → is_start first.flags ≡ starts
      → is_stray taken (event_of (message.Segment first)) ≡ false
      → Does (Some (if starts then turn.Begin (open_of taken) (is_end first.flags)
      else turn.Continue (is_end first.flags))) (message.Segment first) opened
  segment_does first true starts belongs = Begins first (open_of taken) refl starts refl (sym is)
  segment_does first false starts belongs =
      let effect = effect_taken taken (event_of (message.Segment first)) belongs
      ∙ ap (λ b. Some (if b then turn.Begin (open_of taken) (is_end first.flags)
      else turn.Continue (is_end first.flags))) starts in
      Continues first refl starts refl
      (is ∙ continues_some taken (event_of (message.Segment first)) (is_end first.flags) effect)

  taken_does : (sent : Message) → is_stray taken (event_of sent) ≡ false
      → Does (Some (turn_by (open_of taken) (event_of sent))) sent opened
  taken_does sent belongs =
      ⊎_elim
      (λ segment.
      let own = rw segment.1 at belongs in
      rw segment.1 (segment_does segment.0 (is_start segment.0.flags) refl own))
      (λ other. Passes (ap Some (other_turn taken (event_of sent) other)) other)
      (kind_of sent)

  pub what_does : (sent : Message) → Does (effect_of taken (event_of sent)) sent opened
  what_does sent = by_stray (is_stray taken (event_of sent)) refl
    where
      by_stray : (stray : Bool) → is_stray taken (event_of sent) ≡ stray
          → Does (effect_of taken (event_of sent)) sent opened
      by_stray true stray = Strays (effect_stray taken (event_of sent) stray)
      by_stray false belongs = rw (effect_taken taken (event_of sent) belongs) (taken_does sent belongs)

pub comes_does : (before : List WalkEvent) (head : Head) → HeadComes before head
    → Does head.turn head.message (has_open before)
comes_does before head comes =
    let same = ap (λ (h : Head). h.turn) comes.is in
    rw same (what_does comes.taken (has_open before) comes.opened head.message)

-- only an open transfer is abandoned
pub abandons_open : (effect : Option Turn) (sent : Message) (opened : Bool) → Does effect sent opened
    → abandons effect ≡ true → opened ≡ true
abandons_open effect sent opened (Strays is) some = absurd (cc (ap abandons is))
abandons_open effect sent opened (Passes is other) some = absurd (cc (ap abandons is))
abandons_open effect sent opened (Begins first abandoned is starts does same) some =
    sym same ∙ sym (ap abandons does) ∙ some
abandons_open effect sent opened (Continues first is starts does same) some = same
