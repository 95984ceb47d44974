use Rattle.std.proofs.{Common.{◌<◌, ◌≤◌, arith}, lemmas.Bool.{lt-ltb, le-ltb}}
use Rattle.link_wire.proofs.Gettings.{exit, leaving, after, refuse, is_live, if_true, if_false}
use Rattle.link_tool_option_types.specs.declared.node.TheConstants.{MAX_NODE_ID}
use Rattle.link_wire.specs.Message.{node_at}
use Rattle.link_wire.proofs.head.node.Goals as goal

pub returns-in_err-length : goal.returns-in_err-length
unfolding node_at
returns-in_err-length g c = λ live. leaving _ _ c.from_residual.ensures.1 (exit _ (c.in_err-length.ensures live))

pub returns-then-from-gt-MAX_NODE_ID : goal.returns-then-from-gt-MAX_NODE_ID
unfolding node_at
returns-then-from-gt-MAX_NODE_ID g c = λ live.
    let over : MAX_NODE_ID < c.in_ok-length.length = omega arith in
    after _ (c.in_ok-length.ensures live) (if_true _ _ (lt-ltb _ _ over) (refuse (λ e. cc)))

pub returns : goal.returns
unfolding node_at
returns g c = λ live.
    let size = c.in_ok-length.ensures live in
    let within : c.in_ok-length.length ≤ MAX_NODE_ID = omega arith in
    after _ size (if_false _ _ (le-ltb _ _ within) (c.node_bytes.ensures (is_live size)))
