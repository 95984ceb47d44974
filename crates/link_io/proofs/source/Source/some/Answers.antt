use Rattle.std.proofs.Common.{◌≡◌, [], ◌≢◌, ◌<◌, ◌++◌, length, take, drop, ap, sym, ◌∙◌, arith, length-append, length-take, length-drop}
use Rattle.std.proofs.{Math.Seq.take-append_seam, lemmas.Bool.Decides.nat_tests}
use Rattle.link_io.proofs.Sources.{Readies-takes, gives_none, gives_then}
use Rattle.link_io.proofs.source.Source.some.Goals as goal

pub returns-clause-gives : goal.returns-clause-gives
returns-clause-gives g c = λ live.
    let ready = c.in_ok-ready.ensures.gives live in
    let part = c.copy.new.part in
    let rest = drop c.min-count.result c.args.buffer.now in
    let size : length part ≡ c.min-count.result = omega (arith, c.copy.auto.part, length-take c.min-count.result c.args.buffer.now) in
    let some : 0 < length part = let ready : c.in_ok-ready.ready ≢ 0 = c.if-ready-eq0.false in let room : 0 < length c.args.buffer.now = grind (arith, nat_tests, c.is_empty.ensures, c.if-is_empty.false) in omega (arith, size, c.min-count.ensures) in
    let given : take c.min-count.result (part ++ rest) ≡ part = ap (λ n. take n (part ++ rest)) (sym size) ∙ take-append_seam part rest in
    record {
      room = omega (arith, length-append part rest, size);
      takes = rw given (Readies-takes g.R.InDevice.state _ _ _ part ready.readies c.copy.ensures.takes some);
      live = c.copy.ensures.live ready.live;
      over = λ none some. absurd (c.if-ready-eq0.false (omega (arith, length-append part rest, size, length-drop c.min-count.result c.args.buffer.now)));
    }

pub returns-clause-ended : goal.returns-clause-ended
returns-clause-ended g c = λ ended.
    let none = c.in_ok-ready.ensures.ended ended in
    absurd (c.if-ready-eq0.false (cc))

pub returns-then-is_empty-clause-here : goal.returns-then-is_empty-clause-here
returns-then-is_empty-clause-here g c = λ some. gives_none g.R.InDevice.state c.args.self.now

pub returns-in_err-ready-clause-unread : goal.returns-in_err-ready-clause-unread
returns-in_err-ready-clause-unread g c = λ some. (c.in_err-ready.ensures.here some).unread

pub returns-then-ready-eq0-clause-unread : goal.returns-then-ready-eq0-clause-unread
returns-then-ready-eq0-clause-unread g c = λ some. (c.in_ok-ready.ensures.here some).unread

pub returns-then-ready-eq0-clause-here : goal.returns-then-ready-eq0-clause-here
returns-then-ready-eq0-clause-here g c = λ some. c.in_ok-ready.ensures.here some

pub returns-clause-unread : goal.returns-clause-unread
returns-clause-unread g c = λ some.
    c.copy.ensures.here.unread ∙ (c.in_ok-ready.ensures.here some).unread

pub returns-clause-here : goal.returns-clause-here
returns-clause-here g c = λ some.
    let part = c.copy.new.part in
    let rest = drop c.min-count.result c.args.buffer.now in
    let size : length part ≡ c.min-count.result = omega (arith, c.copy.auto.part, length-take c.min-count.result c.args.buffer.now) in
    let given : take c.min-count.result (part ++ rest) ≡ part = ap (λ n. take n (part ++ rest)) (sym size) ∙ take-append_seam part rest in
    rw given (gives_then g.R.InDevice.state _ _ _ [] part (c.in_ok-ready.ensures.here some) c.copy.ensures.here)
