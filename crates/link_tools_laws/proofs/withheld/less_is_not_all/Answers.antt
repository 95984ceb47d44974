use Rattle.link_tools_laws.proofs.LessSaid.{said_less}
use Rattle.link_tools_laws.proofs.Texts.{list_prefix, unpack_prefix}
use Rattle.link_tools_laws.proofs.withheld.less_is_not_all.Goals as goal

pub returns-clause-list : goal.returns-clause-list
returns-clause-list c less bytes = said_less less bytes (list_prefix bytes)

pub returns-clause-unpack : goal.returns-clause-unpack
returns-clause-unpack c wanted less bytes = said_less less bytes (unpack_prefix wanted bytes)
