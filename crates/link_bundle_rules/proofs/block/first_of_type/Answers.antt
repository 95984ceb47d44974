use Rattle.std.proofs.Common.{rules, tests}
use Rattle.std.proofs.lemmas.Iterator.{YieldsList-from_slice}
use Rattle.std.proofs.lemmas.Iterator.Search.{find_from_yields_List}
use Rattle.link_bundle_rules.specs.BundleFacts.{is_of_type}
use Rattle.link_bundle_rules.proofs.block.first_of_type.Goals as goal

pub returns : goal.returns
returns c =
    find_from_yields_List (is_of_type c.args.block_type) _ _ _ c.find.ensures.ran
    (YieldsList-from_slice c.args.blocks.now cc) (λ x b q k. search (rules, tests))
