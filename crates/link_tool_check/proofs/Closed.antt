-- The lines of a closed transfer.
use Rattle.std.proofs.Common.{◌≡◌, ℕ, List, map, length, refl}
use Rattle.link_bundle_blocks.specs.Bundle.{verdict}
use Rattle.link_rules_shared.specs.declared.doubt.Doubt.{Doubt}
use Rattle.link_session_rules.specs.TransferRules.{broken_transfer_rules}
use Rattle.link_session_rules.specs.declared.rule.TransferRule.{TransferRule}
use Rattle.link_report_broken_rules.specs.declared.line.RuleText.{RuleText}
use Rattle.link_report_broken_rules.specs.declared.rule.BrokenRule.TheVariants.{Transfer}
use Rattle.link_tool_check.specs.Checker.{IsCheckedTransferAt}
use Rattle.link_tool_check.specs.Checking.{BegunTransfer, data_texts, item_doubt, transfer_texts}
use Rattle.link_tool_check.specs.{Lines.at_offset, declared.transfer.CheckedTransfer.CheckedTransfer}

module _ (own : List ℕ) (begun : BegunTransfer) where
  abbrev pub of_length : List RuleText
  of_length = transfer_texts begun (broken_transfer_rules begun.first (length begun.content))

  abbrev pub of_data : (sender : List ℕ) → List RuleText
  of_data sender = data_texts own sender begun (verdict begun.content)

  -- the rules of a transfer are written at its offset, with its ID
  pub texts_are : (now : CheckedTransfer) (doubt : Doubt) (rules : List TransferRule)
      → IsCheckedTransferAt own now begun → doubt ≡ item_doubt begun
      → at_offset now.offset doubt (map (λ rule. Transfer now.judge.id rule) rules)
      ≡ transfer_texts begun rules
  texts_are now doubt rules checks is = rw (checks.offset, checks.judging.id, is) refl

  -- the rules of its length are these
  pub length_are : (now : CheckedTransfer) (doubt : Doubt) (rules : List TransferRule)
      → IsCheckedTransferAt own now begun → doubt ≡ item_doubt begun
      → rules ≡ broken_transfer_rules begun.first now.judge.size
      → at_offset now.offset doubt (map (λ rule. Transfer now.judge.id rule) rules) ≡ of_length
  length_are now doubt rules checks is are =
      rw (texts_are now doubt rules checks is, are, checks.judging.size) refl
