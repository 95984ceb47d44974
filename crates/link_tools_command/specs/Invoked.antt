-- The invocation that a command line asks for, by the matches that `clap` defines for its words.
use Rattle.std.specs.Prelude.{◌≡◌, ◌&&◌, ◌||◌, ◌^◌, ℕ, Bool, true, false, List, [], Option, Some, None, codes, is_some, length, max, min, nat_lt, not, option_and_then, option_map, string_bytes, unwrap_or, if◌then◌else◌}
use Rattle.std.specs.{List.list_all, Option.option_map_or, Str.bytes_eq}
use Rattle.std.specs.{Str.Parse.{digits_value, without_leading_plus}, Char.digit_value}
use Rattle.clap.specs.Words.{Row, Text, first_of, one_of, subcommand_of}
use Rattle.link_tool_option_types.specs.declared.wanted.Wanted.{Wanted}
use Rattle.link_tool_option_types.specs.declared.blocks.BlockOptions.{BlockOptions}
use Rattle.link_tool_option_types.specs.declared.check.BundleCheckOptions.{BundleCheckOptions}
use Rattle.link_tool_option_types.specs.declared.check.CheckOptions.{CheckOptions}
use Rattle.link_tool_option_types.specs.declared.pack.PackOptions.{PackOptions}
use Rattle.link_tool_option_types.specs.declared.options.Options.{Options}
use Rattle.link_tool_option_types.specs.declared.options.Options.TheVariants as options
use Rattle.link_rules_shared.specs.Nodes.{names_node}
use Rattle.link_tools_command.specs.Table.{table}
use Rattle.link_tools_command.specs.declared.invocation.Invocation.{Invocation}

-- ---- the values of arguments in `rows`, the matches of a tool

-- whether a text is one decimal digit or more, after at most one plus sign
abbrev pub is_numeral : Text → Bool
is_numeral text = nat_lt 0 (length (without_leading_plus text))
    && list_all (λ digit. nat_lt (digit_value digit) 10) (without_leading_plus text)

-- the number that a numeral spells, if it is below the limit
abbrev pub number_below : (limit : ℕ) → Text → Option ℕ
number_below limit text =
    if is_numeral text && nat_lt (digits_value 10 (without_leading_plus text)) limit
    then Some (digits_value 10 (without_leading_plus text)) else None

-- the value of a numeric option, or `None` if it has none below the limit
unfoldable pub number_in : (limit : ℕ) → (name : Text) → List Row → Option ℕ
number_in limit name rows = option_and_then (number_below limit) (one_of name rows)

-- The value of a numeric option with a default. In all words that `clap` takes, the option has a
-- value, so the 0 is not used for them.
unfoldable pub number_of : (limit : ℕ) → (name : Text) → List Row → ℕ
number_of limit name rows = unwrap_or (number_in limit name rows) 0

-- whether the flag was given; a flag that was given has the value `true`
unfoldable pub is_set : (name : Text) → List Row → Bool
is_set name rows = option_map_or (λ text. bytes_eq text (codes "true")) (first_of name rows) false

-- The value of an option. It is empty if the option was not given, but `clap` refuses words that
-- lack a required option.
unfoldable pub text_of : (name : Text) → List Row → Text
text_of name rows = unwrap_or (first_of name rows) []

-- whether an option for recordings was given to `blocks`
abbrev pub is_for_recordings : List Row → Bool
is_for_recordings rows =
    is_some (first_of (codes "transfer") rows) || is_set (codes "keep-going") rows

-- whether `--bundles` was given together with an option for recordings
abbrev pub mixes_inputs : List Row → Bool
mixes_inputs rows = is_set (codes "bundles") rows && is_for_recordings rows

-- whether a value of `--own` was given to `check` that names no node
abbrev pub own_names_no_node : List Row → Bool
own_names_no_node rows =
    option_map_or (λ text. not (names_node text)) (first_of (codes "own") rows) false

-- whether a limit of the peer was given to `check`
abbrev pub has_peer_limit : List Row → Bool
has_peer_limit rows =
    is_some (first_of (codes "peer-segment") rows) || is_some (first_of (codes "peer-transfer") rows)

-- whether `--bundles` was given together with a limit of the peer
abbrev pub limits_bundles : List Row → Bool
limits_bundles rows = is_set (codes "bundles") rows && has_peer_limit rows

-- ---- the invocation

-- these are the options of `unpack`, by its matches
pub record IsUnpackOptions (rows : List Row) (wanted : Wanted) : Type 0 where
  pub only : wanted.only ≡ number_in (2 ^ 64) (codes "transfer") rows
  pub payload : wanted.payload ≡ is_set (codes "payload") rows
  pub keep_going : wanted.keep_going ≡ is_set (codes "keep-going") rows

-- these are the options of `blocks` for a recording, by its matches
pub record IsBlockOptions (rows : List Row) (options : BlockOptions) : Type 0 where
  pub recording : is_set (codes "bundles") rows ≡ false
  pub only : options.only ≡ number_in (2 ^ 64) (codes "transfer") rows
  pub keep_going : options.keep_going ≡ is_set (codes "keep-going") rows

-- these are the options of `check` for a recording, by its matches
pub record IsCheckOptions (rows : List Row) (options : CheckOptions) : Type 0 where
  pub recording : is_set (codes "bundles") rows ≡ false
  pub must : options.must ≡ is_set (codes "must") rows
  pub own : options.own.items ≡ text_of (codes "own") rows
  pub named : own_names_no_node rows ≡ false
  pub segment : options.peer.segment ≡ number_in (2 ^ 64) (codes "peer-segment") rows
  pub transfer : options.peer.transfer ≡ number_in (2 ^ 64) (codes "peer-transfer") rows

-- these are the options of `check` for bundles, by its matches
pub record IsBundleCheckOptions (rows : List Row) (options : BundleCheckOptions) : Type 0 where
  pub bundles : is_set (codes "bundles") rows ≡ true
  pub unlimited : has_peer_limit rows ≡ false
  pub must : options.must ≡ is_set (codes "must") rows
  pub own : options.own.items ≡ text_of (codes "own") rows
  pub named : own_names_no_node rows ≡ false

-- These are the options of `pack`, by its matches. `max` and `min` change no number that `clap`
-- takes, because the table has the same bounds.
pub record IsPackOptions (rows : List Row) (packing : PackOptions) : Type 0 where
  pub node : packing.node.items ≡ text_of (codes "node") rows
  pub keepalive : packing.keepalive ≡ number_of (2 ^ 16) (codes "keepalive") rows
  pub segment_mru : packing.segment_mru ≡ number_of (2 ^ 64) (codes "segment-mru") rows
  pub transfer_mru : packing.transfer_mru ≡ number_of (2 ^ 64) (codes "transfer-mru") rows
  pub peer_segment : packing.peer_segment ≡ max 1 (number_of (2 ^ 64) (codes "peer-segment") rows)
  pub peer_transfer : packing.peer_transfer ≡ number_of (2 ^ 64) (codes "peer-transfer") rows
  pub announce : packing.announce ≡ min 1048576 (number_of (2 ^ 64) (codes "announce") rows)
  pub send_term : packing.send_term ≡ is_set (codes "end") rows

-- these are the options of the tool of this name, by its matches
abbrev pub AreOptions : (name : Text) → List Row → Options → Type 0
AreOptions name rows options.List = name ≡ codes "list"
AreOptions name rows (options.Unpack wanted) = (name ≡ codes "unpack") × IsUnpackOptions rows wanted
AreOptions name rows (options.Blocks shown) = (name ≡ codes "blocks") × IsBlockOptions rows shown
AreOptions name rows options.BundleBlocks = (name ≡ codes "blocks")
    × (is_set (codes "bundles") rows ≡ true) × (is_for_recordings rows ≡ false)
AreOptions name rows (options.Check judged) = (name ≡ codes "check") × IsCheckOptions rows judged
AreOptions name rows (options.BundleCheck judged) =
    (name ≡ codes "check") × IsBundleCheckOptions rows judged
AreOptions name rows (options.Pack packing) = (name ≡ codes "pack") × IsPackOptions rows packing

-- the invocation is that of the tool `name`; `rows` are what `clap` matched of its arguments
pub record IsInvocationBy (name : Text) (rows : List Row) (invocation : Invocation) : Type 0 where
  pub options : AreOptions name rows invocation.options
  pub file : option_map string_bytes invocation.file ≡ first_of (codes "file") rows

-- this is the invocation of a tool, by its name and its matches; without a tool there is none
abbrev pub IsInvocationOfTool : Option (Text × List Row) → Invocation → Type 0
IsInvocationOfTool None invocation = ⊥
IsInvocationOfTool (Some tool) invocation = IsInvocationBy tool.0 tool.1 invocation

-- This is the invocation that the words ask for. The first word is the program's own name.
abbrev pub IsInvocationByWords : (words : List Text) → Invocation → Type 0
IsInvocationByWords words = IsInvocationOfTool (subcommand_of table words)
