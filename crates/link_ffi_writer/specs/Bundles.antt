-- The blocks that numbers describe.
use Rattle.std.specs.Prelude.{ℕ, ◌==◌, ◌&&◌, List, Option, Some, None, option_map, if◌then◌else◌}
use Rattle.std.specs.Option.{option_and_then}
use Rattle.link_cbor.specs.declared.check.{CheckKind.CheckKind, CheckKind.TheVariants.{Crc16, Crc32}}
use Rattle.link_bundle_types.specs.declared.eid.Eid.{Eid}
use Rattle.link_bundle_types.specs.declared.kept_eid.{EidForm.EidForm, EidForm.TheVariants.{DtnNone, Dtn, Ipn, Ipn3}}
use Rattle.link_bundle_blocks.specs.Blocks.{Primary}
use Rattle.link_bundle_writer.specs.NewBlocks.{block_head_of, primary_of}
use Rattle.link_bundle_writer.specs.declared.block.BlockHead.{BlockHead}
use Rattle.link_ffi_numbers.specs.Bundle.{no_eid, eid_by}
use Rattle.link_ffi_numbers.specs.declared.block.BlockNumbers.{BlockNumbers}
use Rattle.link_ffi_numbers.specs.declared.bundle.{Bundle.Bundle, EidNumbers.EidNumbers}

-- The check of a block with this check type (RFC 9171 section 4.2.1). Type 0 is `Some None`: the
-- block has no check. The result is `None` if there is no such type.
abbrev pub check_by : (type : ℕ) → Option (Option CheckKind)
check_by type =
    if type == 0 then Some None
    else if type == 1 then Some (Some Crc16)
    else if type == 2 then Some (Some Crc32)
    else None

-- The offset and the total length of a fragment with these numbers. For a bundle that is no
-- fragment, which has 0 in both fields, it is `Some None`. The result is `None` if no bundle has
-- these numbers.
abbrev pub fragment_by : (is_fragment offset total : ℕ) → Option (Option (ℕ × ℕ))
fragment_by is_fragment offset total =
    if is_fragment == 1 then Some (Some (offset, total))
    else if is_fragment == 0 && (offset == 0 && total == 0) then Some None
    else None

-- the names of the three endpoint IDs
pub record Names : Type 0 where
  pub destination : List ℕ
  pub source : List ℕ
  pub report_to : List ℕ

-- the primary block with the numbers of a bundle, these endpoint IDs, and this fragment
abbrev pub primary_with : Bundle → (destination source report_to : Eid) → Option (ℕ × ℕ) → Primary
primary_with bundle destination source report_to fragment =
    record {
      flags = bundle.flags;
      destination = destination;
      source = source;
      report_to = report_to;
      time = bundle.time;
      sequence = bundle.sequence;
      lifetime = bundle.lifetime;
      fragment = fragment;
    }

-- the primary block of a bundle with these numbers and these names, or `None` if no bundle has them
abbrev pub primary_by : Bundle → Names → Option Primary
primary_by bundle names =
    option_and_then (λ destination.
    option_and_then (λ source.
    option_and_then (λ report_to.
    option_and_then (λ fragment. Some (primary_with bundle destination source report_to fragment))
    (fragment_by bundle.is_fragment bundle.fragment_offset bundle.fragment_total))
    (eid_by bundle.report_to names.report_to))
    (eid_by bundle.source names.source))
    (eid_by bundle.destination names.destination)

-- The bytes of the primary block with these numbers, these names and a check of this type. The
-- result is `None` if it cannot be written.
abbrev pub primary_bytes_by : Bundle → (type : ℕ) → Names → Option (List ℕ)
primary_bytes_by bundle type names =
    option_and_then (λ check.
    option_and_then (λ primary. primary_of primary check) (primary_by bundle names))
    (check_by type)

-- the head of a canonical block with these numbers, or `None` if no canonical block has them
abbrev pub head_by : BlockNumbers → Option BlockHead
head_by block =
    if block.kind == 2
    then option_map (λ check. record {
      block_type = block.block_type;
      number = block.number;
      flags = block.flags;
      check = check;
      data_length = block.data_length;
    }) (check_by block.check)
    else None

-- the bytes of the head of a canonical block with these numbers, or `None` if it cannot be written
abbrev pub block_bytes_by : BlockNumbers → Option (List ℕ)
block_bytes_by block =
    option_and_then
    (λ (head : BlockHead). block_head_of head.block_type head.number head.flags head.check
    head.data_length)
    (head_by block)

-- the numbers of an endpoint ID of this form, whose dtn name has `size` bytes
abbrev pub form_shown : EidForm → (size : ℕ) → EidNumbers
form_shown DtnNone size = record no_eid { kind = 1 }
form_shown Dtn size = record no_eid { kind = 2; name_length = size }
form_shown (Ipn node service) size = record no_eid { kind = 3; node = node; service = service }
form_shown (Ipn3 allocator node service) size =
    record no_eid { kind = 4; allocator = allocator; node = node; service = service }
