-- Bundles that are known to keep all rules, by cheap tests, break none.
use Rattle.std.proofs.Common.{◌≡◌, ◌≤◌, ◌==◌, ℕ, Bool, true, false, cond, List, [], ◌∷◌, length, Option, Some, None, option_map, refl, arith}
use Rattle.std.specs.{Prelude.{is_none, IfSome}, List.{find, list_all}, Option.option_and_then}
use Rattle.std.proofs.lemmas.{Bool.and_parts, Bool.Decides.nat_tests}
use Rattle.link_bundle_rules.specs.BundleRules.{broken_bundle_rules}
use Rattle.link_bundle_rules.specs.Endpoints.{bad_name_of, dtn_name, source_node}
use Rattle.link_bundle_rules.specs.Extensions.{age, previous_node, if_no_node_id, previous_node_id, if_expired, expired, hops_of, first_hops, has_bad_limit, hop_count, if_exceeded, hops, if_reserved, block_type, malformed_rule, if_malformed_extension, block_data, unread_rule, if_unread, data_not_read}
use Rattle.link_bundle_rules.specs.Flags.{bundle_flags, anonymous, record_reports, if_reporting, block_reports, if_other_block_flags, block_flags}
use Rattle.link_bundle_rules.specs.Fragments.{fragment, whole_fragment}
use Rattle.link_bundle_rules.specs.Heads.{data_head, sure_security_head, long_head}
use Rattle.link_bundle_rules.specs.Hidden.{is_hidden_block, unless_hidden, first_readable}
use Rattle.link_bundle_rules.specs.Kept.{is_plain_data, is_plain_block, is_plain_primary, has_plain_counts, is_plain}
use Rattle.link_bundle_rules.specs.BundleFacts as block
use Rattle.link_bundle_rules.specs.BundleFacts.{BundleFacts, is_of_type, has_readable_type, has_unknown_block, is_security_block, count_of_type, find_map}
use Rattle.link_bundle_rules.specs.Records.{administrative_record, record_type, report_of, report_times, report_empty, report_reason, report_source}
use Rattle.link_bundle_rules.specs.Security.{primary_check, confidential_primary, security_flags, security_context, confidential_flags, confidential_context}
use Rattle.link_bundle_rules.specs.Sources.{if_judged}
use Rattle.link_bundle_rules.specs.declared.source.{KnownSource.KnownSource, KnownSource.TheVariants.{Own, Any, Other}}
use Rattle.link_bundle_rules.specs.Targets.{if_counted, first_counted, first_target, if_bad_targets, missing_target, security_targets, security_twice, integrity_target, confidential_target, shared_target}
use Rattle.link_bundle_rules.specs.declared.block.{BlockFacts.BlockFacts, DataFacts.DataFacts}
use Rattle.link_bundle_rules.specs.declared.{extensions.Hops.Hops, rule.BundleRule.BundleRule, security.SecurityFacts.SecurityFacts}

-- ---- the primary block

record KeepsPrimary (bundle : BundleFacts) : Type 0 where
  flags : bundle_flags bundle ≡ None
  check : (source : KnownSource) → primary_check source bundle ≡ None
  anonymous : anonymous bundle ≡ None
  reports : record_reports bundle ≡ None
  name : bundle.primary.bad_name ≡ None
  fragment : fragment bundle ≡ None
  whole : whole_fragment bundle ≡ None
  source : source_node bundle ≡ None

primary_keeps : (bundle : BundleFacts) → is_plain_primary bundle.primary ≡ true
    → KeepsPrimary bundle
unfolding bundle_flags primary_check anonymous record_reports fragment whole_fragment source_node
primary_keeps bundle plain = record {
  flags = grind (arith, nat_tests);
  check = λ source. grind (arith, nat_tests);
  anonymous = grind (arith, nat_tests);
  reports = grind (arith, nat_tests);
  name = grind (arith, nat_tests);
  fragment = grind (arith, nat_tests);
  whole = grind (arith, nat_tests);
  source = grind (arith, nat_tests);
}

-- ---- single blocks

abbrev ArePlain : BundleFacts → Type 0
ArePlain bundle = list_all (is_plain_block bundle.primary.lifetime) bundle.blocks ≡ true

none_found : {A : Type 0} (lifetime : ℕ) (f : BlockFacts → Option A)
    → ((read : BlockFacts) → is_plain_block lifetime read ≡ true → f read ≡ None)
    → (blocks : List BlockFacts) → list_all (is_plain_block lifetime) blocks ≡ true
    → find_map f blocks ≡ None
none_found lifetime f none [] all = refl
none_found lifetime f none (read ∷ more) all =
    let both = and_parts (is_plain_block lifetime read) (list_all (is_plain_block lifetime) more) all in
    rw (none read both.0) (none_found lifetime f none more both.1)

-- the first readable block of a type, if there is one, is plain
abbrev FirstPlain : (lifetime : ℕ) → Option BlockFacts → Type 0
FirstPlain lifetime found = IfSome found (λ read. is_plain_block lifetime read ≡ true)

unless_keeps : (bundle : BundleFacts) (read : BlockFacts)
    → is_plain_block bundle.primary.lifetime read ≡ true
    → FirstPlain bundle.primary.lifetime (unless_hidden bundle read)
unless_keeps bundle read plain =
    elim (is_hidden_block bundle read.block_type read.number) as (λ hidden.
    FirstPlain bundle.primary.lifetime (cond hidden None (Some read))) [
      | true ↦ tt
      | false ↦ plain
    ]

first_keeps : (bundle : BundleFacts) (test : BlockFacts → Bool) (blocks : List BlockFacts)
    → list_all (is_plain_block bundle.primary.lifetime) blocks ≡ true
    → FirstPlain bundle.primary.lifetime (option_and_then (unless_hidden bundle) (find test blocks))
first_keeps bundle test [] all = tt
first_keeps bundle test (read ∷ more) all =
    let plain = is_plain_block bundle.primary.lifetime in
    let both = and_parts (plain read) (list_all plain more) all in
    let first = find test more in
    elim (test read) as (λ here. FirstPlain bundle.primary.lifetime
    (option_and_then (unless_hidden bundle) (cond here (Some read) first))) [
      | true ↦ unless_keeps bundle read both.0
      | false ↦ first_keeps bundle test more both.1
    ]

readable_keeps : (bundle : BundleFacts) (type : ℕ) → ArePlain bundle
    → FirstPlain bundle.primary.lifetime (first_readable type bundle)
unfolding first_readable
readable_keeps bundle type all = first_keeps bundle (is_of_type type) bundle.blocks all

-- nothing is found of it
none_first : {A : Type 0} (lifetime : ℕ) (f : BlockFacts → Option A)
    → ((read : BlockFacts) → is_plain_block lifetime read ≡ true → f read ≡ None)
    → (found : Option BlockFacts) → FirstPlain lifetime found → option_and_then f found ≡ None
none_first lifetime f none None plain = refl
none_first lifetime f none (Some read) plain = none read plain

record KeepsHops (said : Option Hops) : Type 0 where
  limit : has_bad_limit said ≡ false
  count : option_and_then if_exceeded said ≡ None

hops_keep : (lifetime : ℕ) (found : Option BlockFacts) → FirstPlain lifetime found
    → KeepsHops (option_and_then hops_of found)
hops_keep lifetime None plain = record { limit = refl; count = refl }
hops_keep lifetime (Some read) plain = record {
  limit = grind (arith, nat_tests);
  count = grind (arith, nat_tests);
}

-- ---- rules of blocks

data_plain : (lifetime : ℕ) (read : BlockFacts) → is_plain_block lifetime read ≡ true
    → is_plain_data lifetime read.data ≡ true
data_plain lifetime read plain = grind (arith, nat_tests)

not_malformed : (lifetime number : ℕ) (said : DataFacts) → is_plain_data lifetime said ≡ true
    → malformed_rule number said ≡ None
not_malformed lifetime number said plain = grind (arith, nat_tests)

is_read : (lifetime number : ℕ) (said : DataFacts) → is_plain_data lifetime said ≡ true
    → unread_rule number said ≡ None
is_read lifetime number said plain = grind (arith, nat_tests)

none_if : (test : Bool) (broken : Option BundleRule) → broken ≡ None
    → cond test broken None ≡ None
none_if true broken none = none
none_if false broken none = refl

pub record KeepsBlocks (bundle : BundleFacts) : Type 0 where
  pub reports : block_reports bundle ≡ None
  pub flags : block_flags bundle ≡ None
  pub limit : has_bad_limit (first_hops bundle) ≡ false
  pub hops : hops bundle ≡ None
  pub malformed : block_data bundle ≡ None
  pub unread : (source : KnownSource) → data_not_read source bundle ≡ None
  pub types : block_type bundle ≡ None

pub blocks_keep : (bundle : BundleFacts) → ArePlain bundle → KeepsBlocks bundle
unfolding block_reports block_flags first_hops hops block_data data_not_read block_type
blocks_keep bundle all =
    let blocks = bundle.blocks in
    let lifetime = bundle.primary.lifetime in
    let first = hops_keep lifetime _ (readable_keeps bundle block.hop_count all) in
    let requested : find_map if_reporting blocks ≡ None =
    none_found lifetime if_reporting (λ read plain. grind (arith, nat_tests)) blocks all in
    record {
      reports = grind (arith, nat_tests);
      flags = none_found lifetime if_other_block_flags (λ read plain. grind (arith, nat_tests))
          blocks all;
      limit = first.limit;
      hops = first.count;
      malformed = none_found lifetime (if_malformed_extension bundle)
          (λ read plain. none_if _ _
          (not_malformed lifetime read.number read.data (data_plain lifetime read plain))) blocks all;
      unread = λ source. none_found lifetime (if_unread source bundle)
          (λ read plain. none_if _ _
          (is_read lifetime read.number read.data (data_plain lifetime read plain))) blocks all;
      types = none_found lifetime if_reserved (λ read plain. grind (arith, nat_tests)) blocks all;
    }

-- ---- rules of the data of blocks

record KeepsData (bundle : BundleFacts) : Type 0 where
  names : (source : KnownSource) → find_map (bad_name_of source bundle) bundle.blocks ≡ None
  security_heads : data_head is_security_block bundle ≡ None
  data_heads : data_head has_readable_type bundle ≡ None
  node : previous_node_id bundle ≡ None
  age : expired bundle ≡ None
  record_data : administrative_record bundle ≡ None
  record_types : record_type bundle ≡ None
  report : report_of bundle ≡ None

data_keeps : (bundle : BundleFacts) → ArePlain bundle → KeepsData bundle
unfolding previous_node_id expired administrative_record record_type report_of
data_keeps bundle all =
    let blocks = bundle.blocks in
    let lifetime = bundle.primary.lifetime in
    let payload = readable_keeps bundle block.payload all in
    record {
      names = λ source. none_found lifetime (bad_name_of source bundle)
          (λ read plain. grind (arith, nat_tests)) blocks all;
      security_heads = none_found lifetime _ (λ read plain. grind (arith, nat_tests)) blocks all;
      data_heads = none_found lifetime _ (λ read plain. grind (arith, nat_tests)) blocks all;
      node = none_first lifetime if_no_node_id (λ read plain. grind (arith, nat_tests)) _
          (readable_keeps bundle block.previous_node all);
      age = none_first lifetime (if_expired lifetime) (λ read plain. grind (arith, nat_tests)) _
          (readable_keeps bundle block.bundle_age all);
      record_data = none_first lifetime _ (λ read plain. grind (arith, nat_tests)) _ payload;
      record_types = none_first lifetime _ (λ read plain. grind (arith, nat_tests)) _ payload;
      report = none_first lifetime _ (λ read plain. grind (arith, nat_tests)) _ payload;
    }

record KeepsReport (bundle : BundleFacts) : Type 0 where
  times : report_times bundle ≡ None
  empty : report_empty bundle ≡ None
  reason : report_reason bundle ≡ None
  source : report_source bundle ≡ None

report_keeps : (bundle : BundleFacts) → report_of bundle ≡ None → KeepsReport bundle
unfolding report_times report_empty report_reason report_source
report_keeps bundle none = record {
  times = rw none refl;
  empty = rw none refl;
  reason = rw none refl;
  source = rw none refl;
}

-- ---- the numbers of blocks

-- one hop count block at most, whose limit is right
pub one_hop_count : (bundle : BundleFacts) → count_of_type block.hop_count bundle.blocks ≤ 1
    → has_bad_limit (first_hops bundle) ≡ false → hop_count bundle ≡ None
unfolding hop_count
one_hop_count bundle few limit = grind (arith, nat_tests)

record KeepsCounts (bundle : BundleFacts) : Type 0 where
  ages : age bundle ≡ None
  previous_nodes : previous_node bundle ≡ None
  hop_counts : has_bad_limit (first_hops bundle) ≡ false → hop_count bundle ≡ None

counts_keep : (bundle : BundleFacts) → has_plain_counts bundle ≡ true → KeepsCounts bundle
unfolding age previous_node hop_count
counts_keep bundle plain = record {
  ages = grind (arith, nat_tests);
  previous_nodes = grind (arith, nat_tests);
  hop_counts = λ limit. grind (arith, nat_tests);
}

-- ---- no security blocks

record KeepsSecurity (bundle : BundleFacts) : Type 0 where
  primary : confidential_primary bundle ≡ None
  targets : security_targets bundle ≡ None
  twice : security_twice bundle ≡ None
  flags : security_flags bundle ≡ None
  context : security_context bundle ≡ None
  integrity : integrity_target bundle ≡ None
  confidential : confidential_target bundle ≡ None
  lost : confidential_flags bundle ≡ None
  cipher : confidential_context bundle ≡ None
  shared : shared_target bundle ≡ None

-- nothing is found in an empty list
none_in : {A B : Type 0} (f : A → Option B) (elements : List A) → elements ≡ []
    → find_map f elements ≡ None
none_in f elements empty = rw empty refl

no_target : (bundle : BundleFacts) (test : SecurityFacts → ℕ → Bool) (broken : ℕ × ℕ → BundleRule)
    → bundle.security ≡ [] → option_map broken (first_counted bundle (first_target test)) ≡ None
no_target bundle test broken empty =
    let none : first_counted bundle (first_target test) ≡ None =
    none_in (if_counted bundle (first_target test)) bundle.security empty in
    rw none refl

none_missing : (bundle : BundleFacts) → bundle.security ≡ [] → missing_target bundle ≡ None
none_missing bundle empty = none_if (is_none bundle.primary.fragment) _ (no_target bundle _ _ empty)

security_keeps : (bundle : BundleFacts) → bundle.security ≡ [] → KeepsSecurity bundle
unfolding confidential_primary security_targets security_twice security_flags security_context integrity_target confidential_target confidential_flags confidential_context shared_target
security_keeps bundle empty =
    let bad : first_counted bundle if_bad_targets ≡ None = none_in _ bundle.security empty in
    record {
      primary = none_in _ bundle.security empty;
      targets = rw (bad, none_missing bundle empty) refl;
      twice = no_target bundle _ _ empty;
      flags = none_in _ bundle.security empty;
      context = none_in _ bundle.security empty;
      integrity = no_target bundle _ _ empty;
      confidential = no_target bundle _ _ empty;
      lost = none_in _ bundle.security empty;
      cipher = none_in _ bundle.security empty;
      shared = no_target bundle _ _ empty;
    }

-- ---- the bundle

-- what is not there is not there if it is judged
none_judged : {A : Type 0} (source : KnownSource) (item : Option A) → item ≡ None
    → if_judged source item ≡ None
unfolding if_judged
none_judged Own item none = none
none_judged Any item none = none
none_judged Other item none = refl

none_sure : (bundle : BundleFacts) → KeepsData bundle → sure_security_head bundle ≡ None
none_sure bundle kept = elim (has_unknown_block bundle) as (λ unknown.
    cond unknown None (data_head is_security_block bundle) ≡ None) [
      | true ↦ refl
      | false ↦ kept.security_heads
    ]

no_long_head : (bundle : BundleFacts) (source : KnownSource) → bundle.long_head ≡ None
    → KeepsData bundle
    → long_head (record bundle { long_head = if_judged source bundle.long_head }) ≡ None
unfolding long_head
no_long_head bundle source none kept =
    rw (none_judged source bundle.long_head none, none_sure bundle kept, kept.data_heads) refl

no_bad_name : (bundle : BundleFacts) (source : KnownSource) → bundle.primary.bad_name ≡ None
    → KeepsData bundle → dtn_name source bundle ≡ None
unfolding dtn_name
no_bad_name bundle source none kept =
    rw (none_judged source bundle.primary.bad_name none, kept.names source) refl

none_left : {A : Type 0} (elements : List A) → (length elements == 0) ≡ true → elements ≡ []
none_left [] none = refl
none_left (element ∷ more) none = grind (arith, nat_tests)

pub none_broken : (bundle : BundleFacts) (source : KnownSource) → bundle.long_head ≡ None
    → is_plain bundle ≡ true → broken_bundle_rules source bundle ≡ []
unfolding broken_bundle_rules
none_broken bundle source head plain =
    let both = and_parts (is_plain_primary bundle.primary) _ plain in
    let more = and_parts (list_all (is_plain_block bundle.primary.lifetime) bundle.blocks) _ both.1 in
    let last = and_parts (has_plain_counts bundle) (length bundle.security == 0) more.1 in
    let primary = primary_keeps bundle both.0 in
    let blocks = blocks_keep bundle more.0 in
    let said = data_keeps bundle more.0 in
    let report = report_keeps bundle said.report in
    let counts = counts_keep bundle last.0 in
    let security = security_keeps bundle (none_left bundle.security last.1) in
    rw (
      no_long_head bundle source head said,
      none_judged source _ primary.flags,
      none_judged source _ (primary.check source),
      none_judged source _ primary.anonymous,
      none_judged source _ primary.reports,
      none_judged source _ blocks.reports,
      none_judged source _ blocks.flags,
      no_bad_name bundle source primary.name said,
      none_judged source _ primary.fragment,
      none_judged source _ primary.whole,
      none_judged source _ counts.ages,
      counts.previous_nodes,
      none_judged source _ (counts.hop_counts blocks.limit),
      security.primary,
      blocks.hops,
      blocks.malformed,
      blocks.unread source,
      none_judged source _ said.record_data,
      none_judged source _ primary.source,
      said.node,
      said.age,
      none_judged source _ blocks.types,
      none_judged source _ said.record_types,
      none_judged source _ report.times,
      none_judged source _ report.empty,
      none_judged source _ report.reason,
      none_judged source _ report.source,
      security.targets,
      security.twice,
      security.flags,
      security.context,
      security.integrity,
      security.confidential,
      security.lost,
      security.cipher,
      security.shared,
    ) refl
