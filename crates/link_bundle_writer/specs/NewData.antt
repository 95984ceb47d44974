-- The data of blocks (RFC 9171 section 4.4), from what it says.
use Rattle.std.specs.Prelude.{◌≡◌, ℕ, ◌^◌, ◌<◌, List, ◌++◌, true, Ok}
use Rattle.link_bundle_data.specs.BlockData.{PreviousNode, BundleAge, HopCount, data_of}
use Rattle.link_bundle_data.specs.declared.kind.DataKind.TheVariants as kind
use Rattle.link_bundle_types.specs.declared.eid.Eid.{Eid}
use Rattle.link_bundle_writer.specs.Heads.{unsigned, array}
use Rattle.link_bundle_writer.specs.EndpointIds.{EidFits, eid_bytes, is_short}

-- the data of a previous node block (section 4.4.1) is the endpoint ID of the node: `eid_bytes`

-- the data of a bundle age block (section 4.4.2)
unfoldable pub age_bytes : (age : ℕ) → List ℕ
age_bytes age = unsigned age

-- the data of a hop count block (section 4.4.3)
unfoldable pub hop_count_bytes : (limit count : ℕ) → List ℕ
hop_count_bytes limit count = array 2 ++ unsigned limit ++ unsigned count

-- A law: the data of a previous node block is read as the endpoint ID that it was written from.
abbrev pub PreviousNodeReadsBack : Type 0
PreviousNodeReadsBack =
    (node : Eid) → EidFits node → is_short node ≡ true →
    data_of kind.PreviousNode (eid_bytes node) ≡ Ok (PreviousNode node)

-- A law: the data of a bundle age block is read as the age that it was written from.
abbrev pub BundleAgeReadsBack : Type 0
BundleAgeReadsBack =
    (age : ℕ) → age < 2 ^ 64 → data_of kind.BundleAge (age_bytes age) ≡ Ok (BundleAge age)

-- A law: the data of a hop count block is read as the limit and the count that it was written from.
abbrev pub HopCountReadsBack : Type 0
HopCountReadsBack =
    (limit count : ℕ) → limit < 2 ^ 64 → count < 2 ^ 64 →
    data_of kind.HopCount (hop_count_bytes limit count) ≡ Ok (HopCount limit count)
