use Rattle.link_report_eid_parser.proofs.Texts.{same_eid}
use Rattle.link_report_eid_parser.proofs.laws.one_text.Goals as goal

pub returns : goal.returns
returns c = same_eid
