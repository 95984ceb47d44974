-- The names of rules and of their levels.

use Rattle.std.specs.Prelude.{ℕ, List, codes}
use Rattle.link_rules_shared.specs.declared.doubt.Doubt.{Doubt}
use Rattle.link_rules_shared.specs.declared.level.{Level.Level, Level.TheVariants.{Must, Should}}
use Rattle.link_session_rules.specs.MessageRules.{level_of, name_of}
use Rattle.link_session_rules.specs.TransferRules.{transfer_level_of, transfer_name_of}
use Rattle.link_bundle_rules.specs.BundleRules.{bundle_level_of, bundle_name_of}
use Rattle.link_report_broken_rules.specs.declared.rule.BrokenRule.{BrokenRule}
use Rattle.link_report_broken_rules.specs.declared.rule.BrokenRule.TheVariants.{Message, Transfer, Bundle}

-- the word for a level
unfoldable pub level_name : Level → List ℕ
level_name Must = codes "must"
level_name Should = codes "should"

-- the name of a rule, as in its line
unfoldable pub rule_name : BrokenRule → List ℕ
rule_name (Message rule) = name_of rule
rule_name (Transfer id rule) = transfer_name_of rule
rule_name (Bundle place rule) = bundle_name_of rule

-- How strictly a rule is meant, if an unknown part may have changed this much of the bundle. No
-- rule of messages rests on a bundle.
unfoldable pub rule_level : Doubt → BrokenRule → Level
rule_level doubt (Message rule) = level_of rule
rule_level doubt (Transfer id rule) = transfer_level_of doubt rule
rule_level doubt (Bundle place rule) = bundle_level_of doubt rule
