use Rattle.std.proofs.Common.{arith, ◌<◌, ◌≤◌, ◌/◌, ◌∙◌, bit_and}
use Rattle.link_cbor.proofs.HeadLaws.{front_by-none}
use Rattle.link_cbor.proofs.{Fronts.first_by, Stages.begins-argument}
use Rattle.link_cbor.proofs.head_scan.HeadStage.begin.Goals as goal

pub returns-in-31 : goal.returns-in-31
returns-in-31 c =
    let first = c.args.first in
    let stands = c.without_argument.ensures in
    let most : 31 ≤ bit_and first 31 = omega arith in
    record {
      fits = stands.fits;
      reads = λ more.
          first_by first more ∙ front_by-none (first / 32) (bit_and first 31) more most
          ∙ stands.reads more;
    }

pub returns-in-24-to-27-2 : goal.returns-in-24-to-27-2
returns-in-24-to-27-2 c =
    let least : 24 ≤ bit_and c.args.first 31 = omega arith in
    let below : bit_and c.args.first 31 < 28 = omega arith in
    begins-argument c.args.first least below c.if-first-eq-SIMPLE_IN_NEXT_BYTE.false
