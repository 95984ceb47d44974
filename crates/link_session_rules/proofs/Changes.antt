-- Whether a SESS_INIT changes a session, by what a history keeps of the messages before it.
use Rattle.std.proofs.Common.{◌≡◌, Bool, true, false, not, ◌&&◌, ◌||◌, List, [], ◌∷◌, Option, Some, None, is_some, if◌then◌else◌, refl}
use Rattle.std.{specs.Option.option_or, specs.List.list_any, proofs.Math.Bool.{and-true, and-false}}
use Rattle.link_wire.specs.declared.message.Message.{Message}
use Rattle.link_session_rules.specs.Heads.{is_sess_init, parameters_of, is_of_transfer}
use Rattle.link_session_rules.specs.{Session.{first_parameters, are_other, after_sess_init, changes_session}, Remembered.session_of}
use Rattle.link_session_rules.specs.declared.session.{Since.Since, Since.TheVariants.{Neither, First, Both}, Parameters.Parameters}

-- there are first parameters if a SESS_INIT came
some_or : {A : Type 0} (first second : Option A)
    → is_some (option_or first second) ≡ (is_some first || is_some second)
some_or None second = refl
some_or (Some value) second = refl

some_first : (messages : List Message)
    → is_some (first_parameters messages) ≡ list_any is_sess_init messages
some_first [] = refl
some_first (message ∷ more) =
    rw (some_or (parameters_of message) (first_parameters more), some_first more) refl

-- by the first parameters, and by what came since
abbrev pub changes_in : Option Parameters → Since → Message → Bool
changes_in first Both message = are_other first (parameters_of message)
changes_in first _ message = false

by_cases : (first : Option Parameters) (initiated has_transfer : Bool) (message : Message)
    → is_some first ≡ initiated
    → (are_other first (parameters_of message) && has_transfer)
    ≡ changes_in first
    (if not initiated then Neither else (if has_transfer then Both else First)) message
by_cases None true has_transfer message is = cc
by_cases None false has_transfer message is = refl
by_cases (Some first) true true message is = and-true _
by_cases (Some first) true false message is = and-false _
by_cases (Some first) false has_transfer message is = cc

pub changes_by : (earlier : List Message) (message : Message)
    → changes_session earlier message
    ≡ changes_in (first_parameters earlier) (session_of earlier) message
changes_by earlier message =
    by_cases (first_parameters earlier) (list_any is_sess_init earlier)
    (list_any is_of_transfer (after_sess_init earlier)) message (some_first earlier)
