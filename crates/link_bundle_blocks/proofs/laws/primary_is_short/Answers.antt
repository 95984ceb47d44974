use Rattle.link_bundle_blocks.proofs.WholeFields.{primary_fields-short}
use Rattle.link_bundle_blocks.proofs.laws.primary_is_short.Goals as goal

pub returns : goal.returns
returns c = primary_fields-short
