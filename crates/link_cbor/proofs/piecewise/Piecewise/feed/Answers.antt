use Rattle.std.proofs.{Common.{ℕ, List, ◌++◌, take, sym, ◌∙◌, arith}, lemmas.List.append-nil}
use Rattle.link_cbor.proofs.Feeding.{TakenInAll, none_taken, taken_more, taken_stop, taken_all}
use Rattle.link_cbor.proofs.Joins.{joined_more}
use Rattle.link_cbor.proofs.piecewise.Piecewise.feed.Goals as goal
use Rattle.link_cbor.proofs.piecewise.Piecewise.feed.Goals.{Then-not-going, After-loop-taken}
use Rattle.link_cbor.proofs.piecewise.Piecewise.feed.Given.{Over}

pub loop-taken-init : goal.loop-taken-init
loop-taken-init g c = record {
  size = omega arith;
  seen = λ seen related. rw append-nil related;
  split = λ seen related. none_taken g.Self.Piecewise.goes seen c.args.bytes.now;
}

-- the bytes taken, if no more are needed
stopped : (g : Over) (c : Then-not-going g) (seen : List ℕ)
    → g.Self.Piecewise.has_seen c.args.self.now seen
    → TakenInAll g.Self.Piecewise.goes seen c.args.bytes.now c.loop-taken.taken
stopped g c seen related =
    taken_stop g.Self.Piecewise.goes seen c.args.bytes.now c.loop-taken.taken
    c.loop-taken.auto.taken-end
    (sym (c.going.ensures.seen (seen ++ take c.loop-taken.taken c.args.bytes.now)
    (c.loop-taken.invariant.seen seen related))
    ∙ c.if-not-going.true)
    (c.loop-taken.invariant.split seen related)

pub returns-then-not-going-clause-seen : goal.returns-then-not-going-clause-seen
returns-then-not-going-clause-seen g c seen related =
    rw (stopped g c seen related).front (c.loop-taken.invariant.seen seen related)

pub returns-then-not-going-clause-count : goal.returns-then-not-going-clause-count
returns-then-not-going-clause-count g c seen related = (stopped g c seen related).size

pub loop-taken-preserved : goal.loop-taken-preserved
loop-taken-preserved g c = record {
  size = omega arith;
  seen = λ seen related.
      rw (joined_more seen c.args.bytes.now c.loop-taken.taken c.loop-taken-test.true) at
      (c.step.ensures.seen (seen ++ take c.loop-taken.taken c.args.bytes.now)
      (c.loop-taken.invariant.seen seen related));
  split = λ seen related.
      taken_more g.Self.Piecewise.goes seen c.args.bytes.now c.loop-taken.taken
      c.loop-taken-test.true
      (sym (c.going.ensures.seen (seen ++ take c.loop-taken.taken c.args.bytes.now)
      (c.loop-taken.invariant.seen seen related))
      ∙ c.if-not-going.false)
      (c.loop-taken.invariant.split seen related);
}

-- the bytes taken, if all were consumed
ended : (g : Over) (c : After-loop-taken g) (seen : List ℕ)
    → g.Self.Piecewise.has_seen c.args.self.now seen
    → TakenInAll g.Self.Piecewise.goes seen c.args.bytes.now c.loop-taken.taken
ended g c seen related =
    taken_all g.Self.Piecewise.goes seen c.args.bytes.now c.loop-taken.taken (omega arith)
    (c.loop-taken.invariant.split seen related)

pub returns-clause-seen : goal.returns-clause-seen
returns-clause-seen g c seen related =
    rw (ended g c seen related).front (c.loop-taken.invariant.seen seen related)

pub returns-clause-count : goal.returns-clause-count
returns-clause-count g c seen related = omega (arith, (ended g c seen related).size)
