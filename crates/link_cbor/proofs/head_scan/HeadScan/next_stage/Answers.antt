use Rattle.std.proofs.Common.{◌≡◌, ◌+◌, ◌*◌, ◌^◌, ◌<◌, true, arith}
use Rattle.link_cbor.specs.Stage.{head_stage_fits}
use Rattle.link_cbor.specs.declared.head_scan.HeadStage.TheVariants.{Argument}
use Rattle.link_cbor.proofs.Stages.{value_fits, argument_fits, stands-next}
use Rattle.link_cbor.proofs.head_scan.HeadScan.next_stage.Goals as goal
use Rattle.link_cbor.proofs.head_scan.HeadScan.next_stage.Goals.{In-Argument}

-- the bounds of an argument, which the scan keeps with its stage
kept : (c : In-Argument)
    → head_stage_fits c.args.self.now.count
    (Argument c.in-Argument.major c.in-Argument.left c.in-Argument.value) ≡ true
kept c = rw c.in-Argument.is at c.args.self.now.fits

grows : (c : In-Argument) → c.in-Argument.value * 256 + c.args.byte < 2 ^ 64
grows c = value_fits _ _ _ _ c.args.byte (kept c) (omega arith)

pub overflow_mul-value : goal.overflow_mul-value
overflow_mul-value c = omega (arith, grows c)

pub overflow_add-value : goal.overflow_add-value
overflow_add-value c =
    omega (arith, c.from.ensures, grows (goal.at.overflow_add-value c).In-Argument)

pub overflow_sub-left : goal.overflow_sub-left
overflow_sub-left c =
    let facts = argument_fits _ _ _ _ (kept (goal.at.overflow_sub-left c).In-Argument) in
    omega (arith, facts.wanted)

pub returns-in-Argument : goal.returns-in-Argument
returns-in-Argument c =
    let stage = c.args.self.now in
    let seen = c.in-Argument in
    rw (seen.is, c.in_argument.ensures, c.from.ensures)
    (stands-next stage.count seen.major seen.left seen.value c.args.byte
    (kept (goal.at.returns-in-Argument c).In-Argument) (omega arith))
