use Rattle.std.proofs.Common.{◌≡◌, ◌+◌, ◌<◌, ℕ, List, [], ◌∷◌, refl, length-drop, length, take, drop, ◌++◌, Result, Ok, Err, ap, ◌∙◌, arith, append-nil, rules, length-append, length-take, take_all}
use Rattle.std.specs.Prelude.{IsErrAnd}
use Rattle.std.proofs.Math.Seq.{take-add}
use Rattle.link_io.specs.Device.{Input}
use Rattle.link_io.specs.Source.{at_hand, filled_at_end, HasEnded, FailedSlice, AfterFill}
use Rattle.link_io.specs.declared.fault.IoFault.{IoFault}
use Rattle.link_io.specs.declared.source.{Filled.Filled, Source.Source}
use Rattle.link_io.specs.declared.source.Filled.TheVariants as filled
use Rattle.link_io.proofs.Sources.{Takes-then, TakesThenStops-then, gives_then}
use Rattle.link_io.proofs.source.Source.fill_on.Goals as goal

-- after the end, a slice that is not empty gets no byte
ended_at : (buffer : List ℕ) (at : ℕ) → 0 < length buffer → at ≡ 0
    → (let result : Result Filled IoFault = Ok (filled.Ended at) in result)
    ≡ Ok (filled_at_end buffer)
ended_at [] at some none = absurd (omega (arith, some))
ended_at (byte ∷ buffer) at some none = ap (λ n. Ok (filled.Ended n)) none

-- a `?` that returns the fault of a source
stopped : {R : Type 0} (look : R → Input) (old new : Source R) (buffer : List ℕ) (fault : IoFault)
    (outcome : Result Filled IoFault) → IsErrAnd outcome (λ e. e ≡ fault)
    → FailedSlice look old new buffer fault → AfterFill look old new buffer outcome
stopped look old new buffer fault (Ok filled) is slice = absurd is
stopped look old new buffer fault (Err e) is slice = rw is slice

-- the bytes given grow by those that `some` gave
pub loop-at-preserved : goal.loop-at-preserved
loop-at-preserved g c =
    let look = g.R.InDevice.state in
    let kept = c.loop-at.invariant in
    let at = c.loop-at.at in
    let n = c.in_ok-n.n in
    let buffer = c.some_from.new.buffer in
    let more = take n (drop at buffer) in
    let grown : take (at + n) buffer ≡ take at c.loop-at.buffer ++ more =
    take-add at n buffer ∙ ap (λ xs. xs ++ more) c.in_ok-n.ensures.before in
    record {
      place = c.in_ok-n.ensures.bound;
      given = λ live.
          let gave = c.in_ok-n.ensures.gives (kept.live live) in
          rw grown (Takes-then look _ _ _ _ _ (kept.given live) gave.takes);
      live = λ live. (c.in_ok-n.ensures.gives (kept.live live)).live;
      still = λ ended.
          let same = kept.still ended in
          let over : HasEnded c.loop-at.self = rw same.0 ended in
          let none = c.in_ok-n.ensures.ended over in
          absurd (c.if-n-eq0.false (cc));
      here = λ enough.
          let so_far = kept.here enough in
          let some : 0 < length (at_hand look c.loop-at.self) =
          omega (
            arith,
            enough,
            ap length so_far.parts,
            length-append (take at c.loop-at.buffer) (at_hand look c.loop-at.self),
            length-take at c.loop-at.buffer,
            c.loop-at-test.true,
            c.loop-at.auto.buffer,
          ) in
          rw grown (gives_then look _ _ _ _ _ so_far (c.in_ok-n.ensures.here some));
    }

pub returns-in_err-n-clause-fills : goal.returns-in_err-n-clause-fills
returns-in_err-n-clause-fills g c = record {
  gives = λ live.
      let kept = c.loop-at.invariant in
      stopped g.R.InDevice.state _ _ _ _ _ c.from_residual.ensures.1 (record {
        count = c.loop-at.at;
        part = omega (arith, c.loop-at-test.true, c.some_from.auto.buffer);
        stops = rw (append-nil, ← c.in_err-n.ensures.before) at
            (TakesThenStops-then g.R.InDevice.state _ _ _ _ _ _ (kept.given live)
            (c.in_err-n.ensures.gives (kept.live live)));
      });
  ended = λ ended.
      let same = c.loop-at.invariant.still ended in
      let over : HasEnded c.loop-at.self = rw same.0 ended in
      let none = c.in_err-n.ensures.ended over in
      absurd (cc);
  failed = search rules;
  untouched = search rules;
}

pub returns-then-n-eq0-clause-fills : goal.returns-then-n-eq0-clause-fills
returns-then-n-eq0-clause-fills g c = record {
  gives = λ live.
      let look = g.R.InDevice.state in
      let kept = c.loop-at.invariant in
      let none = rw c.if-n-eq0.true at (c.in_ok-n.ensures.gives (kept.live live)) in
      record {
        part = omega (arith, c.loop-at-test.true, c.some_from.auto.buffer);
        takes = rw (append-nil, ← c.in_ok-n.ensures.before) at
            (Takes-then look _ _ _ _ _ (kept.given live) none.takes);
        over = none.over refl
            (omega (
              arith,
              c.loop-at-test.true,
              c.some_from.auto.buffer,
              length-drop c.loop-at.at c.some_from.new.buffer,
            ));
      };
  ended = λ ended.
      let same = c.loop-at.invariant.still ended in
      let over : HasEnded c.loop-at.self = rw same.0 ended in (
        (c.in_ok-n.ensures.ended over).0 ∙ same.0,
        ended_at c.args.buffer.now c.loop-at.at
            (omega (arith, c.loop-at-test.true, c.loop-at.auto.buffer)) same.1,
      );
  failed = search rules;
  untouched = search rules;
}

-- the bytes so far were at hand, so there are some more
pub returns-in_err-n-clause-unread : goal.returns-in_err-n-clause-unread
returns-in_err-n-clause-unread g c = λ enough.
    let look = g.R.InDevice.state in
    let at = c.loop-at.at in
    let so_far = c.loop-at.invariant.here enough in
    let some : 0 < length (at_hand look c.loop-at.self) =
    omega (
      arith,
      enough,
      ap length so_far.parts,
      length-append (take at c.loop-at.buffer) (at_hand look c.loop-at.self),
      length-take at c.loop-at.buffer,
      c.loop-at-test.true,
      c.loop-at.auto.buffer,
    ) in
    c.in_err-n.ensures.unread some ∙ so_far.unread

pub returns-then-n-eq0-clause-unread : goal.returns-then-n-eq0-clause-unread
returns-then-n-eq0-clause-unread g c = λ enough.
    let look = g.R.InDevice.state in
    let at = c.loop-at.at in
    let so_far = c.loop-at.invariant.here enough in
    let some : 0 < length (at_hand look c.loop-at.self) =
    omega (
      arith,
      enough,
      ap length so_far.parts,
      length-append (take at c.loop-at.buffer) (at_hand look c.loop-at.self),
      length-take at c.loop-at.buffer,
      c.loop-at-test.true,
      c.loop-at.auto.buffer,
    ) in
    c.in_ok-n.ensures.unread some ∙ so_far.unread

pub returns-clause-unread : goal.returns-clause-unread
returns-clause-unread g c = λ enough. (c.loop-at.invariant.here enough).unread

pub returns-clause-here : goal.returns-clause-here
returns-clause-here g c = λ enough whole.
    let all = take_all c.loop-at.at c.loop-at.buffer (omega (arith, c.loop-at-test.false)) in
    rw all at (c.loop-at.invariant.here enough)
