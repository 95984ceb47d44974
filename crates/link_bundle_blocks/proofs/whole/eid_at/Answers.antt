use Rattle.std.proofs.Common.{ℕ, arith}
use Rattle.std.proofs.lemmas.List.{take_rest}
use Rattle.link_bundle_blocks.proofs.Items.{eid_at-ipn, eid_at-none}
use Rattle.link_bundle_blocks.proofs.whole.eid_at.Goals as goal

pub returns-in_ok-service-in-8520322-clause-read :
    goal.returns-in_ok-service-in-8520322-clause-read
returns-in_ok-service-in-8520322-clause-read c =
    eid_at-ipn c.args.bytes.now c.args.offset c.read_u32.result
    c.in_ok-node-in-8520322.node c.in_ok-service-in-8520322.service c.in_ok-node-in-8520322.offset
    c.in_ok-service-in-8520322.offset
    (omega arith) (λ (index : ℕ). omega (arith, c.type_inv.bytes index))
    (rw (take_rest c.args.bytes.now c.args.offset) at c.read_u32.ensures)
    c.in-8520322.is c.in_ok-node-in-8520322.ensures c.in_ok-service-in-8520322.ensures

pub returns-in-8519936-clause-read : goal.returns-in-8519936-clause-read
returns-in-8519936-clause-read c =
    eid_at-none c.args.bytes.now c.args.offset c.read_u32.result
    (omega arith) (λ (index : ℕ). omega (arith, c.type_inv.bytes index))
    (rw (take_rest c.args.bytes.now c.args.offset) at c.read_u32.ensures)
    c.in-8519936.is
