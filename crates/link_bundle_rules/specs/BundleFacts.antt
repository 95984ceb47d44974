-- What the rules need of a good bundle (RFC 9171 section 4).
use Rattle.std.specs.Prelude.{ℕ, ◌+◌, ◌||◌, ◌==◌, not, Bool, true, false, List, [], ◌∷◌, ◌++◌, take, count_by, is_some, Option, Some, None, option_map, Result, Ok, Err, if◌then◌else◌, nat_lt}
use Rattle.std.specs.{List.list_any, Option.option_or}
use Rattle.link_cbor.specs.declared.check.CheckKind.{CheckKind}
use Rattle.link_bundle_types.specs.declared.eid.Eid.{Eid}
use Rattle.link_bundle_types.specs.declared.eid.Eid.TheVariants as eid
use Rattle.link_bundle_blocks.specs.Blocks.{Primary}
use Rattle.link_bundle_blocks.specs.declared.block.CanonicalBlock.{CanonicalBlock}
use Rattle.link_bundle_data.specs.BlockData.{BlockData, PreviousNode, BundleAge, HopCount, Security, StatusReport, OtherRecord}
use Rattle.link_bundle_data.specs.declared.values.Report.{Report}
use Rattle.link_bundle_data.specs.declared.values.DataFault.{DataFault}
use Rattle.link_rules_shared.specs.Nodes.{is_node_of}
use Rattle.link_bundle_rules.specs.Names.{has_bad_name, bad_name, is_group, node_level}
use Rattle.link_bundle_rules.specs.declared.block.BlockFacts.{BlockFacts}
use Rattle.link_bundle_rules.specs.declared.block.DataFacts.{DataFacts}
use Rattle.link_bundle_rules.specs.declared.block.DataFacts.TheVariants as facts
use Rattle.link_bundle_rules.specs.declared.block.{NodeFacts.NodeFacts, ReportFacts.ReportFacts}
use Rattle.link_bundle_rules.specs.declared.primary.PrimaryFacts.{PrimaryFacts}
use Rattle.link_bundle_rules.specs.declared.security.SecurityFacts.{SecurityFacts}

-- what the rules need of a bundle that was read
pub record BundleFacts : Type 0 where
  pub primary : PrimaryFacts
  -- the canonical blocks, in order
  pub blocks : List BlockFacts
  -- the security blocks among them, in order
  pub security : List SecurityFacts
  -- the offset of the first head that is longer than its number needs, outside the data of blocks
  pub long_head : Option ℕ
  -- the number of bytes of the payload
  pub payload_length : ℕ

-- ---- block types (RFC 9171 sections 4.3.2 and 4.4, RFC 9172 section 3)

-- the type code of the payload block
abbrev pub payload : ℕ
payload = 1

-- the type code of a previous node block
abbrev pub previous_node : ℕ
previous_node = 6

-- the type code of a bundle age block
abbrev pub bundle_age : ℕ
bundle_age = 7

-- the type code of a hop count block
abbrev pub hop_count : ℕ
hop_count = 10

-- the type code of a block integrity block
abbrev pub block_integrity : ℕ
block_integrity = 11

-- the type code of a block confidentiality block
abbrev pub block_confidentiality : ℕ
block_confidentiality = 12

abbrev pub is_of_type : (type : ℕ) → BlockFacts → Bool
is_of_type type block = block.block_type == type

-- whether a block is a previous node, bundle age or hop count block
abbrev pub is_extension : BlockFacts → Bool
is_extension block =
    is_of_type previous_node block || (is_of_type bundle_age block || is_of_type hop_count block)

-- whether a block of this type is a security block
abbrev pub is_security : (type : ℕ) → Bool
is_security type = (type == block_integrity) || (type == block_confidentiality)

abbrev pub is_security_block : BlockFacts → Bool
is_security_block block = is_security block.block_type

abbrev pub count_of_type : (type : ℕ) → List BlockFacts → ℕ
count_of_type type blocks = count_by (is_of_type type) blocks

-- the first `Some` that `f` returns for the elements, in order
abbrev pub find_map : {A B : Type 0} → (A → Option B) → List A → Option B
find_map f [] = None
find_map f (element ∷ more) = option_or (f element) (find_map f more)

-- Whether this toolkit reads the data of each block with this type: an extension block or a
-- security block. Of payloads, it reads only whole administrative records.
abbrev pub has_readable_type : BlockFacts → Bool
has_readable_type block = is_extension block || is_security_block block

-- whether the type of a block is known: it is the payload, or its data is read
abbrev pub has_known_type : BlockFacts → Bool
has_known_type block = is_of_type payload block || has_readable_type block

-- Whether a block of an unknown type is in the bundle. It may be an Other Security Block, which may
-- encrypt other blocks (RFC 9172 section 10).
abbrev pub has_unknown_block : BundleFacts → Bool
has_unknown_block bundle = list_any (λ block. not (has_known_type block)) bundle.blocks

-- ---- the primary block

-- whether an endpoint ID is dtn:none, spelled as the number 0 (section 4.2.5.1.1)
abbrev pub is_none_eid : Eid → Bool
is_none_eid eid.DtnNone = true
is_none_eid _ = false

-- what the rules need of a primary block with this check
abbrev pub primary_facts : Primary → Option CheckKind → PrimaryFacts
primary_facts primary check = record {
  flags = primary.flags;
  has_check = is_some check;
  is_anonymous = is_none_eid primary.source;
  has_zero_time = primary.time == 0;
  bad_name = bad_name primary;
  has_group_source = is_group primary.source;
  lifetime = primary.lifetime;
  fragment = primary.fragment;
}

-- whether a bundle is a fragment with an offset above 0 (section 4.3.1)
abbrev pub is_later : Option (ℕ × ℕ) → Bool
is_later None = false
is_later (Some (offset, total)) = nat_lt 0 offset

-- ---- a canonical block

-- What the rules need of a fault in the data of a block. The data begins at offset `data_start` of
-- the bundle. Data that exceeds a limit of this toolkit is `NotRead`, since RFC 9171 may permit it.
-- Any other data with a fault is `Malformed`.
abbrev pub fault_facts : (data_start : ℕ) → DataFault → DataFacts
fault_facts data_start fault =
    if fault.is_limit
    then facts.NotRead (data_start + fault.offset)
    else facts.Malformed (data_start + fault.offset)

-- whether a node has a bad name, and how strictly it is forbidden as a node ID
abbrev pub node_facts : Eid → NodeFacts
node_facts node = record { has_bad_name = has_bad_name node; level = node_level node }

-- What the rules need of a status report (section 6.1.1): whether some asserted status has a time,
-- whether some has none, and the reason. `source` is the source of the bundle that the status
-- report is about.
abbrev pub report_facts : Report → Eid → ReportFacts
report_facts report source = record {
  timed = report.timed;
  untimed = report.untimed;
  reason = report.reason;
  has_no_source = is_none_eid source;
  has_bad_source = has_bad_name source;
}

-- what the rules need of well-formed data
abbrev pub said_facts : BlockData → DataFacts
said_facts (PreviousNode node) = facts.PreviousNode (node_facts node)
said_facts (BundleAge age) = facts.BundleAge age
said_facts (HopCount limit count) = facts.HopCount limit count
said_facts (Security block targets source) = facts.Security (has_bad_name source)
said_facts (StatusReport report source) = facts.StatusReport (report_facts report source)
said_facts (OtherRecord type) = facts.OtherRecord type

-- What the rules need of the data of a block; `None` is data of a type that is not read. The
-- payload is read if it is an administrative record and the bundle is no fragment.
abbrev pub data_facts : (data_start : ℕ) → Option (Result BlockData DataFault) → DataFacts
data_facts data_start (Some (Ok said)) = said_facts said
data_facts data_start (Some (Err fault)) = fault_facts data_start fault
data_facts data_start None = facts.Nothing

-- The offset in the bundle of the first long head in the data of a block. `long_head` is the offset
-- of the same head in the data.
abbrev pub long_head_at : CanonicalBlock → (long_head : Option ℕ) → Option ℕ
long_head_at block long_head = option_map (λ offset. block.data_start + offset) long_head

-- whether a security block is judged, by its data: `own` is empty, or the block's source is known
-- and is of the node `own`
abbrev pub is_judged_security : (own : List ℕ) → Option (Result BlockData DataFault) → Bool
is_judged_security [] found = true
is_judged_security own (Some (Ok (Security block targets source))) = is_node_of own source
is_judged_security own found = false

-- whether the data of a block is judged; only that of a security block may not be
abbrev pub is_judged_data : (own : List ℕ) → (type : ℕ) → Option (Result BlockData DataFault) → Bool
is_judged_data own type found = not (is_security type) || is_judged_security own found

-- what the rules need of a block; `found` and `long_head` are of its data
abbrev pub read_facts : CanonicalBlock → Option (Result BlockData DataFault)
    → (long_head : Option ℕ) → BlockFacts
read_facts block found long_head = record {
  number = block.number;
  block_type = block.block_type;
  flags = block.flags;
  «data» = data_facts block.data_start found;
  long_head = long_head_at block long_head;
}

-- what the rules need of a block whose data is not judged
abbrev pub unjudged_facts : CanonicalBlock → BlockFacts
unjudged_facts block = read_facts block None None

-- what the rules need of a block, if only security blocks of the node `own` are judged
abbrev pub block_facts : (own : List ℕ) → CanonicalBlock → Option (Result BlockData DataFault)
    → (long_head : Option ℕ) → BlockFacts
block_facts own block found long_head =
    if is_judged_data own block.block_type found
    then read_facts block found long_head
    else unjudged_facts block

-- ---- a security block

-- What the rules need of a security block (RFC 9172 section 3.6). The first 64 targets are kept. If
-- its data is malformed or not read, what it says is not known.
abbrev pub security_facts : (is_judged : Bool) → CanonicalBlock
    → Option (Result BlockData DataFault) → SecurityFacts
security_facts judged read (Some (Ok (Security block targets source))) = record {
  number = read.number;
  block_type = read.block_type;
  flags = read.flags;
  is_malformed = false;
  is_judged = judged;
  targets_primary = block.targets_primary;
  count = block.targets;
  targets = record { items = take 64 targets };
  context = block.context;
  context_flags = block.flags;
}
security_facts judged read _ = record {
  number = read.number;
  block_type = read.block_type;
  flags = read.flags;
  is_malformed = true;
  is_judged = judged;
  targets_primary = false;
  count = 0;
  targets = record { items = [] };
  context = record { negative = false; argument = 0 };
  context_flags = 0;
}

-- what the rules need of a security block, as a list; `[]` for any other block
abbrev pub if_security : (own : List ℕ) → CanonicalBlock → Option (Result BlockData DataFault)
    → List SecurityFacts
if_security own block found =
    if is_security block.block_type
    then security_facts (is_judged_security own found) block found ∷ []
    else []

-- ---- a bundle, block by block

-- a bundle after its primary block
abbrev pub begun : Primary → Option CheckKind → BundleFacts
begun primary check = record {
  primary = primary_facts primary check;
  blocks = [];
  security = [];
  long_head = None;
  payload_length = 0;
}

-- A bundle with one more block at the end. If `own` is not empty, it names the node whose security
-- blocks are judged. `long_head` is the offset in the block's data of the first head that is longer
-- than its number needs. Heads that are not read do not count.
abbrev pub with_block : (own : List ℕ) → BundleFacts → CanonicalBlock
    → Option (Result BlockData DataFault) → (long_head : Option ℕ) → BundleFacts
with_block own bundle block found long_head = record bundle {
  blocks = bundle.blocks ++ block_facts own block found long_head ∷ [];
  security = bundle.security ++ if_security own block found;
}

-- the offset in the bundle of the fault in the data of a block, if there is one
abbrev pub malformed_at : CanonicalBlock → Option (Result BlockData DataFault) → Option ℕ
malformed_at block (Some (Err fault)) = Some (block.data_start + fault.offset)
malformed_at block _ = None
