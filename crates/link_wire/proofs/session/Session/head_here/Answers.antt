use Rattle.std.proofs.Common.{◌≡◌, ℕ, List, length, Option, Some, None, refl, ap, ◌∙◌, arith}
use Rattle.std.specs.Prelude.{IfSome}
use Rattle.link_io.proofs.Sources.{ended_window}
use Rattle.link_wire.specs.{Plain.HasPlainHead, declared.message.Fields.Fields}
use Rattle.link_wire.proofs.session.Session.head_here.Goals as goal

no_head : (window : List ℕ) (found : Option (Fields × ℕ)) → length window ≡ 0
    → IfSome found (λ head. HasPlainHead window head.0 head.1) → found ≡ None
no_head window None empty is = refl
no_head window (Some head) empty is = absurd (omega (arith, empty, is.some, is.within))

-- after the end the window is empty, so it has no head
pub returns-in_default-clause-again : goal.returns-in_default-clause-again
returns-in_default-clause-again g c = λ ended.
    no_head _ _ (ap length c.window.ensures.window ∙ ended_window c.args.self.now.source ended.1)
    c.plain.ensures
