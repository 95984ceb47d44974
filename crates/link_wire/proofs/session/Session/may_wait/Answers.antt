use Rattle.std.proofs.Common.{◌≡◌, ◌<◌, [], length, ap, arith}
use Rattle.std.proofs.lemmas.{Bool.Decides.nat_tests, Grind.common_steps, List.nil_from_length}
use Rattle.link_io.proofs.Sources.{hand_some, none_ahead}
use Rattle.link_io.specs.Source.{front_of}
use Rattle.link_wire.proofs.{Sessions.{opens_unopened, opens_left, some_enough}, Steady.{contact_next, head_next}}
use Rattle.link_wire.proofs.session.Session.may_wait.Goals as goal

-- ---- in the data of a segment

pub returns-then-self-gt0-clause-few : goal.returns-then-self-gt0-clause-few
returns-then-self-gt0-clause-few g c = λ waits.
    let none : length (front_of g.R.InDevice.state c.args.self.now.source) ≡ 0 =
    grind (arith, nat_tests, c.is_empty.ensures, ap length c.front.ensures.front) in
    omega (arith, none_ahead g.R.InDevice.state c.args.self.now.source none)

pub returns-then-self-gt0-clause-data : goal.returns-then-self-gt0-clause-data
returns-then-self-gt0-clause-data g c = λ waits some.
    let s = c.args.self.now.source in
    let look = g.R.InDevice.state in
    let none : length (front_of look s) ≡ 0 =
    grind (arith, nat_tests, c.is_empty.ensures, ap length c.front.ensures.front) in
    rw (nil_from_length (front_of look s) none) (grind (arith, common_steps))

pub returns-then-self-gt0-clause-contact : goal.returns-then-self-gt0-clause-contact
returns-then-self-gt0-clause-contact g c = λ may waits.
    let none = opens_left g.R.InDevice.state c.args.self.now may in
    absurd (omega (arith, none, c.if-self-gt0.true))

pub returns-then-self-gt0-clause-here : goal.returns-then-self-gt0-clause-here
returns-then-self-gt0-clause-here g c = λ history at waits.
    let s = c.args.self.now.source in
    let look = g.R.InDevice.state in
    let ordered = s.ordered in
    let some : 0 < length (front_of look s) =
    grind (arith, nat_tests, c.is_empty.ensures, ap length c.front.ensures.front) in
    some_enough c.args.self.now.left _ (omega (arith, c.if-self-gt0.true))
    (hand_some look s ordered some)

-- ---- before a head

pub returns-else-not-has_contact-clause-contact : goal.returns-else-not-has_contact-clause-contact
returns-else-not-has_contact-clause-contact g c = λ may waits.
    contact_next g.R.InDevice.state c.args.self.now _
    c.peek-count.ensures.here (c.has_contact.ensures c.if-not-has_contact.false)

pub returns-else-not-has_head-clause-contact : goal.returns-else-not-has_head-clause-contact
returns-else-not-has_head-clause-contact g c = λ may waits.
    absurd (c.in_default-phase.not-Unopened
    (opens_unopened g.R.InDevice.state c.args.self.now may))

pub returns-else-not-has_head-clause-here : goal.returns-else-not-has_head-clause-here
returns-else-not-has_head-clause-here g c = λ history at waits.
    head_next g.R.InDevice.state c.args.self.now (omega (arith, c.if-self-gt0.false)) _
    c.peek-count.ensures.here (c.has_head.ensures c.if-not-has_head.false)
