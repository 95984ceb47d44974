use Rattle.std.proofs.Common.{Ok, Err}
use Rattle.link_tool_check.proofs.Writing.{lost_within, next_written, none_written}
use Rattle.link_tool_check.proofs.lines.write_rules.Goals as goal

pub loop-rule-init : goal.loop-rule-init
loop-rule-init g c = none_written

pub returns-in-Err : goal.returns-in-Err
returns-in-Err g c =
    let broken = g.T.Rule.broken c.args.owner in
    lost_within broken c.args.offset c.args.doubt c.args.rules.now _
    (next_written broken c.args.offset c.args.doubt c.args.rules.now {result = Err c.in-Err.fault}
    c.loop-rule.rule-index c.rule-item.result c.loop-rule-test.true c.rule-item.is
    c.loop-rule.invariant
    (rw (c.text_of-broken.ensures, c.broken_by.ensures) at c.in-Err.ensures.gives)
    (rw (c.text_of-broken.ensures, c.broken_by.ensures) at c.in-Err.ensures.good))

pub loop-rule-preserved : goal.loop-rule-preserved
loop-rule-preserved g c =
    next_written (g.T.Rule.broken c.args.owner) c.args.offset c.args.doubt c.args.rules.now {result = Ok tt}
    c.loop-rule.rule-index c.rule-item.result c.loop-rule-test.true c.rule-item.is
    c.loop-rule.invariant
    (rw (c.text_of-broken.ensures, c.broken_by.ensures) at c.in_default.ensures.gives)
    (rw (c.text_of-broken.ensures, c.broken_by.ensures) at c.in_default.ensures.good)
