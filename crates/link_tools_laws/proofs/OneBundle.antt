-- A bundle breaks the same rules in a transfer and in an input of bundles.
use Rattle.std.proofs.Common.{◌≡◌, ℕ, Bool, true, false, ◌||◌, List, [], ◌∷◌, ◌++◌, take, drop, map, filter_map, Option, Some, None, option_map, if◌then◌else◌, refl, ap, sym, ◌∙◌, arith}
use Rattle.std.specs.{List.list_any, Option.{option_and_then}}
use Rattle.std.proofs.Math.Path.{fun_ext}
use Rattle.link_bundle_types.specs.declared.eid.Eid.{Eid}
use Rattle.link_rules_shared.specs.{Heads.first_long, NodeIds.is_uri, Nodes.{names_node, is_node_of}}
use Rattle.link_rules_shared.specs.declared.{level.Level.Level}
use Rattle.link_bundle_rules.specs.BundleFacts.{BundleFacts}
use Rattle.link_bundle_rules.specs.BundleRules.{judged_bundle_rules, broken_bundle_rules}
use Rattle.link_bundle_rules.specs.Endpoints.{bad_name_in, bad_name_of, dtn_name}
use Rattle.link_bundle_rules.specs.Extensions.{data_not_read}
use Rattle.link_bundle_rules.specs.Hidden.{unless_hidden}
use Rattle.link_bundle_rules.specs.Security.{may_protect_primary, check_level, primary_check}
use Rattle.link_bundle_rules.specs.Sources.{known_source_of, if_judged}
use Rattle.link_bundle_rules.specs.declared.block.{BlockFacts.BlockFacts, DataFacts.DataFacts}
use Rattle.link_bundle_rules.specs.declared.rule.{BundleRule.BundleRule}
use Rattle.link_bundle_rules.specs.declared.source.{KnownSource.KnownSource, KnownSource.TheVariants.{Own, Any, Other}}
use Rattle.link_report_broken_rules.specs.declared.rule.BrokenRule.TheVariants.{Bundle}
use Rattle.link_tool_check.specs.BundleRules.{read_bundle, rules_of, bundle_rules, doubt_of, bundle_doubt}
use Rattle.link_tool_check.specs.Bundles.{input_origin}
use Rattle.link_tool_check.specs.Checking.{origin_of}
use Rattle.link_tool_check.specs.Lines.{at_offset}
use Rattle.link_tools_laws.specs.SameRules.{TransferWithBundle, begun_with, check_rule, level_in_input, BreaksSameRules}

-- ---- a source that sent the bundle, and one that may be any node

name_in_same : (number : ℕ) (said : DataFacts)
    → bad_name_in Own number said ≡ bad_name_in Any number said
unfolding if_judged
name_in_same number said = grind arith

name_by_same : (read : Option BlockFacts)
    → option_and_then (λ read. bad_name_in Own read.number read.data) read
    ≡ option_and_then (λ read. bad_name_in Any read.number read.data) read
name_by_same None = refl
name_by_same (Some read) = name_in_same read.number read.data

name_same : (bundle : BundleFacts) → dtn_name Own bundle ≡ dtn_name Any bundle
unfolding dtn_name if_judged
name_same bundle =
    let each : bad_name_of Own bundle ≡ bad_name_of Any bundle =
    fun_ext (λ read. name_by_same (unless_hidden bundle read)) in
    rw each refl

-- the rules after primary-check
abbrev rest_of : KnownSource → BundleFacts → List (Option BundleRule)
rest_of source bundle = drop 3 (judged_bundle_rules source bundle)

rest_same : (bundle : BundleFacts) → rest_of Own bundle ≡ rest_of Any bundle
unfolding if_judged data_not_read
rest_same bundle = rw (name_same bundle) refl

-- ---- the rules that are broken, parted at primary-check

abbrev kept : List (Option BundleRule) → List BundleRule
kept judged = filter_map (λ judged. judged) judged

parted : (first second third : Option BundleRule) (rest : List (Option BundleRule))
    → kept (first ∷ second ∷ third ∷ rest)
    ≡ kept (first ∷ second ∷ []) ++ kept (third ∷ []) ++ kept rest
parted first second third rest = grind arith

-- whether a bundle keeps primary-check
abbrev is_protected : BundleFacts → Bool
is_protected bundle =
    bundle.primary.has_check || list_any (may_protect_primary bundle) bundle.security

-- the level of primary-check, if the rule is judged and broken
abbrev level_by : KnownSource → BundleFacts → (is_kept : Bool) → Option Level
level_by Other bundle is_kept = None
level_by source bundle is_kept = if is_kept then None else Some (check_level source bundle)

check_is : (source : KnownSource) (bundle : BundleFacts)
    → kept (if_judged source (primary_check source bundle) ∷ [])
    ≡ check_rule (level_by source bundle (is_protected bundle))
unfolding primary_check if_judged
check_is source bundle = grind arith

module _ (content : List ℕ) (size : ℕ) where
  abbrev whole_of : BundleFacts → BundleFacts
  whole_of bundle = record bundle { long_head = first_long content; payload_length = size }

  abbrev before_of : KnownSource → Option BundleFacts → List BundleRule
  before_of source None = []
  before_of source (Some bundle) = kept (take 2 (judged_bundle_rules source (whole_of bundle)))

  abbrev after_of : KnownSource → Option BundleFacts → List BundleRule
  after_of source None = []
  after_of source (Some bundle) = kept (rest_of source (whole_of bundle))

  abbrev level_of : KnownSource → Option BundleFacts → Option Level
  level_of source None = None
  level_of source (Some bundle) = level_by source (whole_of bundle) (is_protected bundle)

  rules_are : (source : KnownSource) (read : Option BundleFacts)
      → rules_of source content size read
      ≡ before_of source read ++ check_rule (level_of source read) ++ after_of source read
  unfolding broken_bundle_rules
  rules_are source None = refl
  rules_are source (Some bundle) =
      parted _ _ _ (rest_of source (whole_of bundle))
      ∙ ap (λ (check : List BundleRule).
      before_of source (Some bundle) ++ check ++ after_of source (Some bundle))
      (check_is source (whole_of bundle))

  -- the rules of these two sources differ only in the level of primary-check
  record DifferInLevel (own : List ℕ) (read : Option BundleFacts) (sent given : KnownSource)
      : Type 0 where
    pub before : before_of sent read ≡ before_of given read
    pub after : after_of sent read ≡ after_of given read
    pub level : option_map (level_in_input own) (level_of sent read) ≡ level_of given read

  -- with `--own`, it does not matter who sent the bundle
  named_same : (first : ℕ) (own : List ℕ) (read : Option BundleFacts) (source : KnownSource)
      → DifferInLevel (first ∷ own) read source source
  named_same first own read source = record {
    before = refl;
    after = refl;
    level = grind arith;
  }

  any_from_own : (bundle : BundleFacts) → DifferInLevel [] (Some bundle) Own Any
  unfolding if_judged
  any_from_own bundle = record {
    before = refl;
    after = ap kept (rest_same (whole_of bundle));
    level = grind arith;
  }

  -- without it, the bundle may be of any node
  any_same : (read : Option BundleFacts) (is_sender : Bool)
      → DifferInLevel [] read (if is_sender then Own else Any) Any
  any_same None true = record { before = refl; after = refl; level = refl }
  any_same None false = record { before = refl; after = refl; level = refl }
  any_same (Some bundle) false = record {
    before = refl;
    after = refl;
    level = grind arith;
  }
  any_same (Some bundle) true = any_from_own bundle

-- no bundle is of the node that no text names
no_node : (source : Eid) → is_node_of [] source ≡ false
unfolding is_node_of names_node is_uri
no_node source = refl

source_unknown : (source : Eid) → known_source_of [] [] source ≡ Any
source_unknown source = rw (no_node source) refl

differ : (own sender : List ℕ) (source : Eid) (content : List ℕ) (size : ℕ) (read : Option BundleFacts)
    → DifferInLevel content size own read (known_source_of own sender source)
    (known_source_of own [] source)
differ [] sender source content size read =
    rw (source_unknown source) (any_same content size read (is_node_of sender source))
differ (first ∷ own) sender source content size read = named_same content size first own read _

-- ---- the law

pub breaks_same : (own sender : List ℕ) (carried : TransferWithBundle)
    → BreaksSameRules own sender carried
unfolding bundle_rules bundle_doubt
breaks_same own sender carried =
    let content = carried.bundle.bytes in
    let info = carried.bundle.info in
    let read = read_bundle own content in
    let sent = known_source_of own sender info.source in
    let given = known_source_of own [] info.source in
    let same = differ own sender info.source content info.payload read in
    let origin = origin_of sender (begun_with carried) in
    record {
      before = before_of content info.payload given read;
      after = after_of content info.payload given read;
      level = level_of content info.payload sent read;
      doubt = doubt_of read;
      in_transfer =
          ap (λ (rules : List BundleRule). at_offset origin.offset
          (bundle_doubt own origin.has_other_item content)
          (map (λ rule. Bundle origin.place rule) rules))
          (rules_are content info.payload sent read
          ∙ ap (λ (rules : List BundleRule).
          rules ++ check_rule (level_of content info.payload sent read)
          ++ after_of content info.payload sent read) same.before
          ∙ ap (λ (rules : List BundleRule).
          before_of content info.payload given read
          ++ check_rule (level_of content info.payload sent read) ++ rules) same.after);
      in_input = λ number offset.
          let input = input_origin number offset in
          ap (λ (rules : List BundleRule). at_offset offset (doubt_of read)
          (map (λ rule. Bundle input.place rule) rules))
          (rules_are content info.payload given read
          ∙ ap (λ (level : Option Level).
          before_of content info.payload given read ++ check_rule level
          ++ after_of content info.payload given read) (sym same.level));
    }
