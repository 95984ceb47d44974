use Rattle.link_tools_laws.proofs.Texts.{blocks_prefix, bundle_blocks_prefix, check_prefix, bundle_check_prefix, list_prefix, pack_prefix, unpack_prefix}
use Rattle.link_tools_laws.proofs.laws.sofar_is_prefix.Goals as goal

pub returns-clause-list : goal.returns-clause-list
returns-clause-list c = list_prefix

pub returns-clause-unpack : goal.returns-clause-unpack
returns-clause-unpack c = unpack_prefix

pub returns-clause-blocks : goal.returns-clause-blocks
returns-clause-blocks c = blocks_prefix

pub returns-clause-bundle_blocks : goal.returns-clause-bundle_blocks
returns-clause-bundle_blocks c = bundle_blocks_prefix

pub returns-clause-check : goal.returns-clause-check
returns-clause-check c = check_prefix

pub returns-clause-bundle_check : goal.returns-clause-bundle_check
returns-clause-bundle_check c = bundle_check_prefix

pub returns-clause-pack : goal.returns-clause-pack
returns-clause-pack c = pack_prefix
