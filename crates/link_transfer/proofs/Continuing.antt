-- A segment without flags of the open transfer. It is in order, it continues its transfer, and it
-- changes nothing in a joiner.
use Rattle.std.proofs.Common.{◌≡◌, ℕ, true, false, List, Some, None, refl, ap, ◌∙◌, arith}
use Rattle.std.proofs.lemmas.Bool.{eq-eqb}
use Rattle.link_wire.specs.declared.message.Message.{Message}
use Rattle.link_transfer.specs.{Event.event_of, Joiner.IsJoinerAt}
use Rattle.link_transfer.specs.Order.{has_sess_init, open_of, continuable, refusal, is_stray, turn_of, turn_by, effect_of, effect_by, with_taken}
use Rattle.link_transfer.specs.declared.{event.Event.TheVariants.Segment, joiner.Joiner.Joiner}
use Rattle.link_transfer.specs.declared.joiner.Turn.TheVariants as turn
use Rattle.link_transfer.proofs.Joining.{IsJoinerAt-then}

module _ (before : List Message) (id : ℕ) (is_open : continuable before ≡ Some id) where
  parts : (has_sess_init before ≡ true) × (open_of before ≡ Some id)
  parts = (grind arith, grind arith)

  pub may_continue : refusal before (Segment 0 id) ≡ None
  unfolding refusal
  may_continue = rw (parts.0, parts.1, eq-eqb id id refl)

  is_stray-false : is_stray before (Segment 0 id) ≡ false
  unfolding is_stray
  is_stray-false = rw (parts.1, eq-eqb id id refl)

  pub continues_open : effect_of before (Segment 0 id) ≡ Some (turn.Continue false)
  unfolding effect_of turn_of
  continues_open = ap (λ stray. effect_by stray (turn_by (open_of before) (Segment 0 id))) is_stray-false

  pub joiner_stays : (joiner : Joiner) (message : Message) → event_of message ≡ Segment 0 id
      → IsJoinerAt joiner before → IsJoinerAt joiner (with_taken before message)
  unfolding with_taken
  joiner_stays joiner message is at =
      let more = IsJoinerAt-then joiner before message (Segment 0 id) is at in
      rw (is, is_stray-false) (record {
        initiated = more.initiated;
        terminated = more.terminated;
        transfer = at.transfer ∙ parts.1 ∙ more.transfer;
      })
