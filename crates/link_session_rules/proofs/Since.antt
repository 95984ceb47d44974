-- Whether a message of one kind came, and one of another kind since, with one more message.
use Rattle.std.proofs.Common.{◌≡◌, ℕ, suc, ◌+◌, Bool, true, false, not, ◌&&◌, ◌||◌, List, [], ◌∷◌, ◌++◌, drop, Option, Some, None, if◌then◌else◌, refl, arith}
use Rattle.std.specs.{Bool.then_some, List.{list_any, position_or_len}}
use Rattle.std.proofs.lemmas.List.Recursion.{or_push}
use Rattle.link_wire.specs.declared.message.Message.{Message}
use Rattle.link_session_rules.specs.Heads.{HeadWithOrder, messages_of, is_sess_init, is_keepalive, disables_keepalive, is_of_transfer}
use Rattle.link_session_rules.specs.{Session.keepalive, Remembered.{since_of, next_since, keepalives_of, session_of}}
use Rattle.link_session_rules.specs.declared.session.Since.{Since}
use Rattle.link_session_rules.specs.declared.session.Since.TheVariants.{Neither, First, Both}
use Rattle.link_session_rules.specs.declared.rule.MessageRule.{MessageRule}
use Rattle.link_session_rules.specs.declared.rule.MessageRule.TheVariants as rule
use Rattle.link_session_rules.proofs.Pushes.{messages_of-push}

-- what holds once one of the first kind came
abbrev since_first : (has_second : Bool) → Since
since_first has_second = if has_second then Both else First

next_first : (has_second is_first is_second : Bool)
    → since_first (has_second || is_second) ≡ next_since (since_first has_second) is_first is_second
next_first true is_first is_second = refl
next_first false is_first is_second = refl

module _ (first second : Message → Bool) where
  one_later : (index : ℕ) (message : Message) (more : List Message)
      → drop (1 + index + 1) (message ∷ more) ≡ drop (index + 1) more
  one_later index message more =
      let e : 1 + index + 1 ≡ suc (index + 1) = omega arith in rw e refl

  since_of-cons : (message : Message) (more : List Message) (is_first : Bool) → first message ≡ is_first
      → since_of first second (message ∷ more)
      ≡ (if is_first then since_first (list_any second more) else since_of first second more)
  since_of-cons message more true is = rw is refl
  since_of-cons message more false is = rw (is, one_later (position_or_len first more) message more) refl

  since_of-push : (message : Message) (more : List Message) (last : Message) (is_first : Bool)
      → first message ≡ is_first
      → since_of first second (more ++ last ∷ [])
      ≡ next_since (since_of first second more) (first last) (second last)
      → since_of first second (message ∷ (more ++ last ∷ []))
      ≡ next_since (since_of first second (message ∷ more)) (first last) (second last)
  since_of-push message more last true is shorter =
      rw (
        since_of-cons message (more ++ last ∷ []) true is,
        or_push (list_any second) second refl (λ message rest. refl) more last,
        since_of-cons message more true is,
      )
      (next_first (list_any second more) (first last) (second last))
  since_of-push message more last false is shorter =
      rw (since_of-cons message (more ++ last ∷ []) false is, since_of-cons message more false is) shorter

  since_of_push : (before : List Message) (message : Message)
      → since_of first second (before ++ message ∷ [])
      ≡ next_since (since_of first second before) (first message) (second message)
  since_of_push [] message = since_of-cons message [] (first message) refl
  since_of_push (oldest ∷ more) message =
      since_of-push oldest more message (first oldest) refl (since_of_push more message)

pub keepalives_of_push : (before : List Message) (message : Message)
    → keepalives_of (before ++ message ∷ [])
    ≡ next_since (keepalives_of before) (disables_keepalive message) (is_keepalive message)
keepalives_of_push before message = since_of_push disables_keepalive is_keepalive before message

pub session_of_push : (before : List Message) (message : Message)
    → session_of (before ++ message ∷ [])
    ≡ next_since (session_of before) (is_sess_init message) (is_of_transfer message)
session_of_push before message = since_of_push is_sess_init is_of_transfer before message

pub next_same : (state : Since) → next_since state false false ≡ state
next_same Neither = refl
next_same others = refl

module _ (before : List HeadWithOrder) (head : HeadWithOrder) where
  pub session_then : (session : Since) → session ≡ session_of (messages_of before)
      → next_since session (is_sess_init head.message) (is_of_transfer head.message)
      ≡ session_of (messages_of (before ++ head ∷ []))
  session_then session at =
      rw (messages_of-push before head, session_of_push _ head.message, at) refl

  pub keepalives_then : (keepalives : Since) → keepalives ≡ keepalives_of (messages_of before)
      → next_since keepalives (disables_keepalive head.message) (is_keepalive head.message)
      ≡ keepalives_of (messages_of (before ++ head ∷ []))
  keepalives_then keepalives at =
      rw (messages_of-push before head, keepalives_of_push _ head.message, at) refl

-- the rule of KEEPALIVEs, by what holds before the message
abbrev pub rule_in : Since → (sends : Bool) → Option MessageRule
rule_in First sends = if sends then Some rule.Keepalive else None
rule_in others sends = None

rule_by_cases : (disabled sent sends : Bool)
    → (if sends && (disabled && not sent) then Some rule.Keepalive else None)
    ≡ rule_in (if not disabled then Neither else since_first sent) sends
rule_by_cases disabled sent sends = grind arith

pub keepalive_by : (before : List HeadWithOrder) (message : Message)
    → keepalive before message ≡ rule_in (keepalives_of (messages_of before)) (is_keepalive message)
unfolding keepalive
keepalive_by before message = rule_by_cases _ _ (is_keepalive message)

pub then_some_rule_in : (sends : Bool) → then_some sends rule.Keepalive ≡ rule_in First sends
then_some_rule_in true = refl
then_some_rule_in false = refl
