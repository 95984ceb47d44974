-- The text of a bundle in a line. A bundle is identified by its source and creation timestamp, and
-- a fragment also by its offset and payload length (RFC 9171 section 4.3.1). The text has the
-- destination too.
use Rattle.std.specs.Prelude.{ℕ, Option, Some, None, List, [], ◌++◌, codes}
use Rattle.link_bundle_types.specs.declared.{eid.Eid.Eid, info.BundleInfo.BundleInfo}
use Rattle.link_report.specs.Eid.{eid_text}
use Rattle.link_report.specs.Text.{number_text}

-- the fragment offset and the total length, or nothing if the bundle is no fragment
unfoldable pub fragment_text : Option (ℕ × ℕ) → List ℕ
fragment_text None = []
fragment_text (Some (offset, total)) =
    number_text (codes " fragment=") offset ++ number_text (codes "/") total

-- a source, and the time and the sequence number of a creation timestamp
unfoldable pub origin_text : Eid → ℕ → ℕ → List ℕ
origin_text source time sequence =
    codes "source=" ++ eid_text source ++ number_text (codes " time=") time
    ++ number_text (codes " sequence=") sequence

-- what a line says of a good bundle: the source, the creation timestamp, the destination, the
-- length of the payload, and the two numbers of a fragment
unfoldable pub identity_text : BundleInfo → List ℕ
identity_text info =
    origin_text info.source info.time info.sequence ++ codes " destination="
    ++ eid_text info.destination
    ++ number_text (codes " payload=") info.payload ++ fragment_text info.fragment
