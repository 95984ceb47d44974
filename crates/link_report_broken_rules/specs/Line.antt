-- The line of a broken rule.

use Rattle.std.specs.Prelude.{ℕ, List, [], ◌++◌, codes, decimal}
use Rattle.link_rules_shared.specs.declared.level.Level.{Level}
use Rattle.link_report.specs.Text.{number_text, newline}
use Rattle.link_report_broken_rules.specs.Names.{level_name, rule_name}
use Rattle.link_report_broken_rules.specs.Words.{rule_words}
use Rattle.link_report_broken_rules.specs.declared.rule.BrokenRule.{BrokenRule}
use Rattle.link_report_broken_rules.specs.declared.rule.BrokenRule.TheVariants.{Message, Transfer, Bundle}
use Rattle.link_report_broken_rules.specs.declared.rule.BundlePlace.{BundlePlace}
use Rattle.link_report_broken_rules.specs.declared.rule.BundlePlace.TheVariants as place

-- the words for the place of a bundle: its transfer, or its number in the input
unfoldable pub place_text : BundlePlace → List ℕ
place_text (place.Transfer id) = number_text (codes " transfer=") id
place_text (place.Input number) = number_text (codes " bundle=") number

-- the words for the transfer or the bundle that breaks a rule; for a rule of messages there are
-- none
unfoldable pub subject_text : BrokenRule → List ℕ
subject_text (Message rule) = []
subject_text (Transfer id rule) = place_text (place.Transfer id)
subject_text (Bundle place rule) = place_text place

-- The line of a broken rule. `offset` is where the message begins that breaks the rule. For a rule
-- of a transfer, or of the bundle in it, it is where the first message of the transfer begins. For
-- a bundle in an input of bundles, it is where the bundle begins.
unfoldable pub rule_line : (offset : ℕ) → Level → BrokenRule → List ℕ
rule_line offset level rule =
    decimal offset ++ codes " " ++ level_name level ++ codes " " ++ rule_name rule
    ++ subject_text rule ++ rule_words rule ++ newline
