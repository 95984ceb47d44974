use Rattle.link_tools_laws.proofs.Endings.{reading_halts}
use Rattle.link_tools_laws.proofs.NothingWithheld.{list_withholds_nothing, unpack_withholds_nothing}
use Rattle.link_tools_laws.proofs.withheld.sofar_is_all.Goals as goal

pub returns-clause-list : goal.returns-clause-list
returns-clause-list c bytes are =
    list_withholds_nothing bytes
    (reading_halts c.exactly_one_reading.ensures.some c.exactly_one_reading.ensures.only bytes are)

pub returns-clause-unpack : goal.returns-clause-unpack
returns-clause-unpack c wanted bytes are =
    unpack_withholds_nothing wanted bytes
    (reading_halts c.exactly_one_reading.ensures.some c.exactly_one_reading.ensures.only bytes are)
