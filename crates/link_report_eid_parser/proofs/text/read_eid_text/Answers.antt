use Rattle.std.proofs.Common.{refl}
use Rattle.link_report_eid_parser.proofs.Texts.{no_scheme}
use Rattle.link_report_eid_parser.proofs.text.read_eid_text.Goals as goal

pub returns-in_default-after : goal.returns-in_default-after
returns-in_default-after c =
    (no_scheme c.args.text.now c.in_default.ensures c.in_default-after.ensures, refl)
