-- The rules that `check` finds broken in a recording, and those that `check --bundles` finds broken
-- in what `unpack` writes of the same recording.
use Rattle.std.specs.Prelude.{◌≡◌, ℕ, Bool, true, false, List, [], ◌∷◌, ◌++◌, map, reverse, Option, Some, None, option_map, Ok, if◌then◌else◌}
use Rattle.std.specs.List.{All, filter, flat_map}
use Rattle.link_tool_option_types.specs.declared.check.CheckOptions.{CheckOptions}
use Rattle.link_wire.specs.Stream.{Entry, reading_of, heads_of}
use Rattle.link_wire.specs.declared.message.SegmentHead.{SegmentHead}
use Rattle.link_bundle_blocks.specs.Bundle.{verdict}
use Rattle.link_rules_shared.specs.declared.{doubt.Doubt.Doubt, doubt.Doubt.TheVariants.WholeBundle}
use Rattle.link_rules_shared.specs.declared.level.{Level.Level, Level.TheVariants.Should}
use Rattle.link_session_rules.specs.Session.{first_node}
use Rattle.link_session_rules.specs.TransferRules.{has_other_item}
use Rattle.link_bundle_rules.specs.declared.rule.{BundleRule.BundleRule, BundleRule.TheVariants.PrimaryCheck}
use Rattle.link_run.specs.Run.{Outcome}
use Rattle.link_run.specs.Writers.{on_output}
use Rattle.link_run_judge.specs.Transfers.{Transfer}
use Rattle.link_run_over_bundle_files.specs.Bundles.{BundleWithInfo}
use Rattle.link_report_broken_rules.specs.declared.{line.RuleText.RuleText, rule.BrokenRule.BrokenRule}
use Rattle.link_report_broken_rules.specs.declared.rule.BrokenRule.TheVariants.{Message, Transfer as OfTransfer, Bundle}
use Rattle.link_report_broken_rules.specs.declared.rule.BundlePlace.TheVariants as place
use Rattle.link_tool_check.specs.BundleRules.{bundle_texts}
use Rattle.link_tool_check.specs.Bundles.{broken_in, broken_bundles, bundle_check_tool}
use Rattle.link_tool_check.specs.Checking.{BegunTransfer, origin_of, check_tool}
use Rattle.link_tool_check.specs.Lines.{lines_of, none_counts, at_offset}
use Rattle.link_tools_laws.specs.SameLines.{unpacked}
use Rattle.link_tools_laws.specs.Transfers.{transfers_of}

-- a transfer that carries a bundle: the offset and the head of its first segment, and the bundle
pub record TransferWithBundle : Type 0 where
  pub offset : ℕ
  pub first : SegmentHead
  pub bundle : BundleWithInfo

-- the transfer without its offset; it is closed
abbrev pub transfer_with : TransferWithBundle → Transfer
transfer_with carried =
    record { first = carried.first; content = carried.bundle.bytes; closed = true }

-- the transfer as `check` keeps it
abbrev pub begun_with : TransferWithBundle → BegunTransfer
begun_with carried =
    record { offset = carried.offset; first = carried.first; content = carried.bundle.bytes }

-- the node ID of the entity that sent a recording, by its first SESS_INIT; empty without one
abbrev pub sender_in : List ℕ → List ℕ
sender_in bytes = first_node (map (λ (head : Entry). head.message) (heads_of (reading_of bytes)))

-- The rules that the bundle of a transfer breaks, as `check` reports them. Each is reported at the
-- offset of the transfer's first segment, with the transfer's ID. `own` is the node ID of `--own`,
-- or empty. `sender` is the node ID of the entity that sent the transfer.
abbrev pub broken_in_transfer : (own sender : List ℕ) → TransferWithBundle → List RuleText
broken_in_transfer own sender carried =
    bundle_texts own (origin_of sender (begun_with carried)) carried.bundle.bytes
    carried.bundle.info

-- ---- one bundle, in a transfer and in an input of bundles

-- the rule primary-check with this level, as a list; `[]` without a level
abbrev pub check_rule : Option Level → List BundleRule
check_rule None = []
check_rule (Some level) = PrimaryCheck level ∷ []

-- The level of primary-check in an input of bundles, by its level in a transfer. Without `--own` it
-- is a `should`, since it is not known who sent the bundle.
abbrev pub level_in_input : (own : List ℕ) → Level → Level
level_in_input [] level = Should
level_in_input own level = level

-- A bundle breaks the same rules in a transfer and in an input of bundles, in the same order. Two
-- levels may differ. Without `--own`, primary-check is a `should` in an input of bundles. If the
-- transfer has an extension item of an unknown type, each rule is a `should` in the transfer.
pub record BreaksSameRules (own sender : List ℕ) (carried : TransferWithBundle) : Type 0 where
  -- the rules before primary-check, and those after it
  pub before : List BundleRule
  pub after : List BundleRule
  -- the level of primary-check in the transfer, if the bundle breaks this rule
  pub level : Option Level
  -- what a block of an unknown type may have changed
  pub doubt : Doubt
  pub in_transfer : broken_in_transfer own sender carried
      ≡ at_offset carried.offset
      (if has_other_item carried.first.items.items then WholeBundle else doubt)
      (map (λ rule. Bundle (place.Transfer carried.first.id) rule)
      (before ++ check_rule level ++ after))
  pub in_input : (number offset : ℕ) → broken_in own number offset carried.bundle
      ≡ at_offset offset doubt
      (map (λ rule. Bundle (place.Input number) rule)
      (before ++ check_rule (option_map (level_in_input own) level) ++ after))

-- ---- all bundles

-- whether a broken rule is a rule of bundles
abbrev pub is_of_bundle : BrokenRule → Bool
is_of_bundle (Message rule) = false
is_of_bundle (OfTransfer id rule) = false
is_of_bundle (Bundle where_it_is rule) = true

-- What `check` makes of these broken rules: a line for each that counts, and status 1 if one does.
-- If `must`, only rules of that level count.
abbrev pub reports : (must : Bool) → (broken : List RuleText) → Outcome
reports must broken = record {
  texts = on_output (lines_of must broken);
  status = if none_counts must broken then 0 else 1;
}

-- Each transfer of the recording carries a good bundle. `check` writes the lines of all rules that
-- the recording breaks. The line of a rule of a bundle shows the offset and the ID of the bundle's
-- transfer. `check --bundles` reads what `unpack` writes of the recording. It writes the lines of
-- the same rules of bundles, with the offset and the number of the bundle. Both have the same
-- `--own`, and both are run with `--must` or both without.
pub record HasSameBundleRules (options : CheckOptions) (bytes : List ℕ) : Type 0 where
  -- the transfers of the recording, in order
  pub transfers : List TransferWithBundle
  pub are : map transfer_with transfers ≡ reverse (transfers_of (heads_of (reading_of bytes)))
  pub good : All (λ (carried : TransferWithBundle).
      verdict carried.bundle.bytes ≡ Ok carried.bundle.info)
      transfers
  pub unpacks : unpacked bytes
      ≡ flat_map (λ (carried : TransferWithBundle). carried.bundle.bytes) transfers
  -- the rules of messages, transfers and bundles that the recording breaks
  pub broken : List RuleText
  pub recorded : (must : Bool)
      → (check_tool (record options { must = must })).whole bytes ≡ reports must broken
  pub of_bundles : filter (λ (line : RuleText). is_of_bundle line.rule) broken
      ≡ flat_map (broken_in_transfer options.own.items (sender_in bytes)) transfers
  pub joined : (must : Bool)
      → (bundle_check_tool (record { must = must; own = options.own })).whole (unpacked bytes)
      ≡ reports must (broken_bundles options.own.items 0 0
      (map (λ (carried : TransferWithBundle). carried.bundle) transfers))
  pub same : All (BreaksSameRules options.own.items (sender_in bytes)) transfers
