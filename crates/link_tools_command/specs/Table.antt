-- The arguments of the program, as a command of `clap`. docs/MANUAL.md has this table in words.
use Rattle.std.specs.Prelude.{true, false, List, [], ◌∷◌, Some, codes, pos}
use Rattle.clap.specs.{Words.{App, Rule, Shape, Text, new_rule}, Simple.new_shape}
use Rattle.clap.specs.declared.builder.action.ArgAction.TheVariants.{SetTrue}
use Rattle.clap.specs.declared.builder.value_parser.ValueParser.{ValueParser}
use Rattle.clap.specs.declared.builder.value_parser.ValueParser.TheVariants.{Signed, Unsigned}

-- ---- ranges

-- a number of 16 bits, whose bounds `clap` has as signed numbers
abbrev pub any_u16 : ValueParser
any_u16 = Signed (pos 0) (pos 65535)

-- a number of 64 bits
abbrev pub any_u64 : ValueParser
any_u64 = Unsigned 0 18446744073709551615

abbrev pub one_or_more : ValueParser
one_or_more = Unsigned 1 18446744073709551615

abbrev pub up_to_1048576 : ValueParser
up_to_1048576 = Unsigned 0 1048576

-- ---- kinds of arguments

-- a flag `--NAME`
abbrev pub flag : (name : Text) → Rule
flag name = record (new_rule name) { long = Some name; action = Some SetTrue }

-- an option `--NAME VALUE`
abbrev pub option : (name : Text) → Rule
option name = record (new_rule name) { long = Some name; value_names = 1 }

-- an option `--NAME N`, whose value is a number in this range
abbrev pub number : (name : Text) → (range : ValueParser) → Rule
number name range = record (option name) { parser = Some range }

-- an option `--NAME N`, and the value that it has if it is not given
abbrev pub number_or : (name : Text) → (range : ValueParser) → (default : Text) → Rule
number_or name range default = record (number name range) { defaults = default ∷ [] }

-- the argument `[FILE]`
abbrev pub file : Rule
file = record (new_rule (codes "file")) { value_names = 1 }

-- ---- the tools

-- a tool with these arguments
abbrev pub tool : (name : Text) → List Rule → Shape
tool name rules = record (new_shape name) { rules = rules }

-- the words that `list` takes; the next four definitions are about the other tools
unfoldable pub list_words : Shape
list_words = tool (codes "list") (file ∷ [])

unfoldable pub unpack_words : Shape
unpack_words = tool (codes "unpack") (
    number (codes "transfer") any_u64
    ∷ flag (codes "payload")
    ∷ flag (codes "keep-going")
    ∷ file
    ∷ [])

unfoldable pub blocks_words : Shape
blocks_words = tool (codes "blocks") (
    number (codes "transfer") any_u64
    ∷ flag (codes "keep-going")
    ∷ flag (codes "bundles")
    ∷ file
    ∷ [])

unfoldable pub check_words : Shape
check_words = tool (codes "check") (
    flag (codes "must")
    ∷ option (codes "own")
    ∷ number (codes "peer-segment") any_u64
    ∷ number (codes "peer-transfer") any_u64
    ∷ flag (codes "bundles")
    ∷ file
    ∷ [])

unfoldable pub pack_words : Shape
pack_words = tool (codes "pack") (
    record (option (codes "node")) { required = true }
    ∷ number_or (codes "keepalive") any_u16 (codes "60")
    ∷ number_or (codes "segment-mru") any_u64 (codes "65536")
    ∷ number_or (codes "transfer-mru") any_u64 (codes "1048576")
    ∷ number_or (codes "peer-segment") one_or_more (codes "65536")
    ∷ number_or (codes "peer-transfer") any_u64 (codes "18446744073709551615")
    ∷ number_or (codes "announce") up_to_1048576 (codes "0")
    ∷ flag (codes "end")
    ∷ file
    ∷ [])

-- ---- the program

-- `clap` adds `--help` to the program and to each tool. It adds `--version` and the command `help`
-- to the program.
abbrev pub program : Shape
program = record (new_shape (codes "tcpclkit")) {
  has_version = true;
  subcommand_required = true;
}

-- all words that the program takes: its own, and then those of its tools
unfoldable pub table : App
table =
    record {
      top = record program { is_leaf = false };
      subs = list_words ∷ unpack_words ∷ blocks_words ∷ check_words ∷ pack_words ∷ [];
    }
