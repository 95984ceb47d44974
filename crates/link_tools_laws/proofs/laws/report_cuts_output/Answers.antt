use Rattle.link_tools_laws.proofs.Cuts.{cuts, cuts_on}
use Rattle.link_tools_laws.proofs.laws.report_cuts_output.Goals as goal

pub returns-clause-stopping : goal.returns-clause-stopping
returns-clause-stopping c = cuts

pub returns-clause-going_on : goal.returns-clause-going_on
returns-clause-going_on c = cuts_on
