-- The lines of blocks, and the line of the end of a transfer. The first word `id` is the ID of the
-- transfer or the number of the bundle.

use Rattle.std.specs.Prelude.{ℕ, ◌-◌, List, ◌++◌, codes, decimal, Option, Result}
use Rattle.link_cbor.specs.declared.check.CheckKind.{CheckKind}
use Rattle.link_bundle_blocks.specs.Blocks.{Primary}
use Rattle.link_bundle_blocks.specs.declared.block.CanonicalBlock.{CanonicalBlock}
use Rattle.link_bundle_data.specs.BlockData.{BlockData}
use Rattle.link_bundle_data.specs.declared.values.DataFault.{DataFault}
use Rattle.link_report.specs.Eid.{eid_text}
use Rattle.link_report.specs.Identity.{fragment_text}
use Rattle.link_report.specs.Judgement.{outcome_text}
use Rattle.link_report.specs.Text.{number_text, newline}
use Rattle.link_report.specs.declared.judgement.Judgement.{Judgement}
use Rattle.link_report_blocks.specs.Fields.{control_text, type_text, length_to}
use Rattle.link_report_blocks.specs.Words.{words_text}

-- The line of a primary block (RFC 9171 section 4.3.1) that ends before `end`, up to the source.
-- The block begins at offset 1, after the opening byte of its bundle. The rest of the line is
-- another text. `id` is that of the transfer, or the number of the bundle.
unfoldable pub primary_start_text : ℕ → Primary → Option CheckKind → ℕ → List ℕ
primary_start_text id primary check end =
    decimal id ++ number_text (codes " primary at=1 length=") (end - 1)
    ++ control_text primary.flags check ++ codes " destination=" ++ eid_text primary.destination
    ++ codes " source=" ++ eid_text primary.source

-- the rest of the line of a primary block, from the report-to endpoint ID on
unfoldable pub primary_rest_text : Primary → List ℕ
primary_rest_text primary =
    codes " report-to=" ++ eid_text primary.report_to ++ number_text (codes " time=") primary.time
    ++ number_text (codes " sequence=") primary.sequence
    ++ number_text (codes " lifetime=") primary.lifetime ++ fragment_text primary.fragment ++ newline

-- the whole line of a primary block
unfoldable pub primary_text : ℕ → Primary → Option CheckKind → ℕ → List ℕ
primary_text id primary check end =
    primary_start_text id primary check end ++ primary_rest_text primary

-- the fields of a canonical block (RFC 9171 section 4.3.2), before the words for its data
unfoldable pub fields_text : CanonicalBlock → List ℕ
fields_text block =
    number_text (codes " block ") block.number ++ number_text (codes " at=") block.start
    ++ number_text (codes " length=") (length_to block.end block.start)
    ++ type_text block.block_type ++ control_text block.flags block.check
    ++ number_text (codes " data-at=") block.data_start
    ++ number_text (codes " data-length=") block.data_length

-- the line of a canonical block; `found` is what its data says, or `None` if its data is not read
unfoldable pub block_text : ℕ → CanonicalBlock → Option (Result BlockData DataFault) → List ℕ
block_text id block found =
    decimal id ++ fields_text block ++ words_text block.data_start found ++ newline

-- The line of the end of a transfer or of a good bundle, with the number of its bytes and the
-- outcome. It does not identify a good bundle.
unfoldable pub end_text : ℕ → ℕ → Judgement → List ℕ
end_text id size judgement =
    decimal id ++ number_text (codes " end length=") size ++ codes " " ++ outcome_text judgement
    ++ newline
