-- The options of the whole tools, as words of a caller. A word that is missing has the default of
-- the program. A word that this version does not know has to be 0.
use Rattle.std.specs.Prelude.{◌≡◌, ℕ, ◌^◌, ◌+◌, ◌-◌, Bool, not, ◌&&◌, ◌||◌, ◌==◌, nat_lt, nat_le, List, [], drop, get_or, Option, Some, None, if◌then◌else◌}
use Rattle.std.specs.List.{list_any}
use Rattle.link_tool_option_types.specs.declared.blocks.BlockOptions.{BlockOptions}
use Rattle.link_tool_option_types.specs.declared.check.BundleCheckOptions.{BundleCheckOptions}
use Rattle.link_tool_option_types.specs.declared.check.CheckOptions.{CheckOptions}
use Rattle.link_tool_option_types.specs.declared.pack.PackOptions.{PackOptions}
use Rattle.link_tool_option_types.specs.declared.wanted.Wanted.{Wanted}
use Rattle.link_ffi_tools.specs.declared.options.BlocksNumbers.{BlocksNumbers}
use Rattle.link_ffi_tools.specs.declared.options.PackNumbers.{PackNumbers}
use Rattle.link_ffi_tools.specs.declared.options.CheckNumbers.{CheckNumbers}
use Rattle.link_ffi_tools.specs.declared.options.MoreNumbers.{MoreNumbers}
use Rattle.link_ffi_tools.specs.declared.options.UnpackNumbers.{UnpackNumbers}
use Rattle.link_ffi_tools.specs.declared.reading.Reading.{Reading}
use Rattle.link_ffi_tools.specs.declared.reading.Reading.TheVariants as reading

-- whether one of the words is not 0
abbrev pub has_nonzero : List ℕ → Bool
has_nonzero words = list_any (λ word. nat_lt 0 word) words

-- the number of an option that may be unset, or `None` if `is_set` is not 1
abbrev pub number_if : (is_set number : ℕ) → Option ℕ
number_if is_set number = if is_set == 1 then Some number else None

-- whether a switch and its number fit: the switch is 1, or both are 0
abbrev pub switch_fits : (is_set number : ℕ) → Bool
switch_fits is_set number = is_set == 1 || (is_set == 0 && number == 0)

-- ---- unpack

-- the options that the words encode
abbrev pub unpack_numbers : List ℕ → UnpackNumbers
unpack_numbers words =
    record {
      only_one = get_or words 0 0;
      transfer = get_or words 1 0;
      payload = get_or words 2 0;
      keep_going = get_or words 3 0;
    }

-- whether the options are in their ranges
abbrev pub unpack_numbers_fit : UnpackNumbers → Bool
unpack_numbers_fit numbers =
    switch_fits numbers.only_one numbers.transfer
    && (nat_le numbers.payload 1 && nat_le numbers.keep_going 1)

-- what is wanted of the recording
abbrev pub wanted_of : UnpackNumbers → Wanted
wanted_of numbers =
    record {
      only = number_if numbers.only_one numbers.transfer;
      payload = numbers.payload == 1;
      keep_going = numbers.keep_going == 1;
    }

-- The options are in their ranges, and the words after them are 0. The same holds for each
-- definition `.._in_range` below.
abbrev pub unpack_in_range : List ℕ → Bool
unpack_in_range words =
    unpack_numbers_fit (unpack_numbers words) && not (has_nonzero (drop 4 words))

-- what these words want of the recording, or `None` if an option is out of its range
abbrev pub wanted_in : List ℕ → Option Wanted
wanted_in words = if unpack_in_range words then Some (wanted_of (unpack_numbers words)) else None

-- ---- blocks

-- the options that the words encode
abbrev pub blocks_numbers : List ℕ → BlocksNumbers
blocks_numbers words =
    record {
      only_one = get_or words 0 0;
      transfer = get_or words 1 0;
      keep_going = get_or words 2 0;
      bundles = get_or words 3 0;
    }

-- Whether the options are in their ranges. With `bundles`, no option for a recording may be set.
abbrev pub blocks_numbers_fit : BlocksNumbers → Bool
blocks_numbers_fit numbers =
    switch_fits numbers.only_one numbers.transfer
    && (nat_le numbers.keep_going 1 && (nat_le numbers.bundles 1
    && (numbers.bundles == 0 || (numbers.only_one == 0 && numbers.keep_going == 0))))

-- the words are in their ranges
abbrev pub blocks_in_range : List ℕ → Bool
blocks_in_range words =
    blocks_numbers_fit (blocks_numbers words) && not (has_nonzero (drop 4 words))

-- what is shown of the recording
abbrev pub block_options_of : BlocksNumbers → BlockOptions
block_options_of numbers =
    record {
      only = number_if numbers.only_one numbers.transfer;
      keep_going = numbers.keep_going == 1;
    }

-- The tool `blocks` with these options. It reads bundles if `bundles` is 1, and else a recording.
abbrev pub blocks_of : BlocksNumbers → Reading
blocks_of numbers =
    if numbers.bundles == 1 then reading.BundleBlocks else reading.Blocks (block_options_of numbers)

-- `blocks` with the options that the words encode, or `None` if one is out of its range
abbrev pub blocks_in : List ℕ → Option Reading
blocks_in words =
    if blocks_in_range words then Some (blocks_of (blocks_numbers words)) else None

-- ---- check

-- the options that the words encode
abbrev pub check_numbers : List ℕ → CheckNumbers
check_numbers words =
    record {
      must = get_or words 0 0;
      has_peer_segment = get_or words 1 0;
      peer_segment = get_or words 2 0;
      has_peer_transfer = get_or words 3 0;
      peer_transfer = get_or words 4 0;
      bundles = get_or words 5 0;
    }

-- Whether the options are in their ranges. With `bundles`, no limit of the peer may be set.
abbrev pub check_numbers_fit : CheckNumbers → Bool
check_numbers_fit numbers =
    nat_le numbers.must 1 && (switch_fits numbers.has_peer_segment numbers.peer_segment
    && (switch_fits numbers.has_peer_transfer numbers.peer_transfer && (nat_le numbers.bundles 1
    && (numbers.bundles == 0
    || (numbers.has_peer_segment == 0 && numbers.has_peer_transfer == 0)))))

-- the words are in their ranges
abbrev pub check_in_range : List ℕ → Bool
check_in_range words =
    check_numbers_fit (check_numbers words) && not (has_nonzero (drop 6 words))

-- what is judged of the recording; the bundles of every node are
abbrev pub check_options_of : CheckNumbers → CheckOptions
check_options_of numbers =
    record {
      must = numbers.must == 1;
      own = record { items = [] };
      peer = record {
        segment = number_if numbers.has_peer_segment numbers.peer_segment;
        transfer = number_if numbers.has_peer_transfer numbers.peer_transfer;
      };
    }

-- what is judged of the bundles; those of every node are
abbrev pub bundle_check_options_of : CheckNumbers → BundleCheckOptions
bundle_check_options_of numbers =
    record { must = numbers.must == 1; own = record { items = [] } }

-- The tool `check` with these options. It reads bundles if `bundles` is 1, and else a recording.
abbrev pub check_of : CheckNumbers → Reading
check_of numbers =
    if numbers.bundles == 1 then reading.BundleCheck (bundle_check_options_of numbers)
    else reading.Check (check_options_of numbers)

-- `check` with the options that the words encode, or `None` if one is out of its range
abbrev pub check_in : List ℕ → Option Reading
check_in words =
    if check_in_range words then Some (check_of (check_numbers words)) else None

-- ---- pack

-- the options that the words encode
abbrev pub pack_numbers : List ℕ → PackNumbers
pack_numbers words =
    record {
      keepalive = get_or words 0 60;
      segment_mru = get_or words 1 65536;
      transfer_mru = get_or words 2 1048576;
      peer_segment = get_or words 3 65536;
      peer_transfer = get_or words 4 (2 ^ 64 - 1);
      announce = get_or words 5 0;
      send_term = get_or words 6 0;
    }

-- the options are in their ranges, and so is `size`, the length of the node ID
abbrev pub pack_numbers_fit : PackNumbers → ℕ → Bool
pack_numbers_fit numbers size =
    nat_le numbers.keepalive 65535 && (nat_le 1 numbers.peer_segment
    && (nat_le numbers.announce 1048576 && (nat_le numbers.send_term 1 && nat_le size 1024)))

-- the words and `size`, the length of the node ID, are in their ranges
abbrev pub pack_in_range : List ℕ → ℕ → Bool
pack_in_range words size =
    pack_numbers_fit (pack_numbers words) size && not (has_nonzero (drop 7 words))

-- the options have these numbers and this node ID
pub record IsPackOptionsByNumbers (options : PackOptions) (numbers : PackNumbers)
    (node : List ℕ) : Type 0 where
  pub node_id : options.node.items ≡ node
  pub keepalive : options.keepalive ≡ numbers.keepalive
  pub segment_mru : options.segment_mru ≡ numbers.segment_mru
  pub transfer_mru : options.transfer_mru ≡ numbers.transfer_mru
  pub peer_segment : options.peer_segment ≡ numbers.peer_segment
  pub peer_transfer : options.peer_transfer ≡ numbers.peer_transfer
  pub announce : options.announce ≡ numbers.announce
  pub send_term : options.send_term ≡ (numbers.send_term == 1)

-- ---- pack_more

-- the options that the words encode
abbrev pub more_numbers : List ℕ → MoreNumbers
more_numbers words =
    record {
      first = get_or words 0 0;
      peer_segment = get_or words 1 65536;
      peer_transfer = get_or words 2 (2 ^ 64 - 1);
      announce = get_or words 3 0;
    }

-- The options are in their ranges. An input has no more bundles than bytes, so all transfer IDs fit
-- if `first` and the number of bytes together are at most 2^64 - 1.
abbrev pub more_numbers_fit : MoreNumbers → (size : ℕ) → Bool
more_numbers_fit numbers size =
    nat_le 1 numbers.peer_segment
    && (nat_le numbers.announce 1048576 && nat_le (numbers.first + size) (2 ^ 64 - 1))

-- the words are in their ranges, for an input of this number of bytes
abbrev pub more_in_range : List ℕ → (size : ℕ) → Bool
more_in_range words size =
    more_numbers_fit (more_numbers words) size && not (has_nonzero (drop 4 words))
