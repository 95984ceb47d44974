-- The reasons why a command line starts no run, and how the program then ends.
use Rattle.std.specs.Prelude.{◌≡◌, ◌<◌, ◌⊎◌, ⊤, ℕ, Bool, true, false, List, [], Option, codes, length}
use Rattle.std.specs.Option.{option_map_or}
use Rattle.clap.specs.Words.{IsAmong, Row, Text, fault_of, subcommand_of}
use Rattle.clap.specs.declared.error.kind.ErrorKind.{ErrorKind}
use Rattle.clap.specs.declared.error.kind.ErrorKind.TheVariants.{DisplayHelp, DisplayVersion}
use Rattle.link_tools_command.specs.Table.{table}
use Rattle.link_tools_command.specs.Invoked.{limits_bundles, mixes_inputs, own_names_no_node, text_of}
use Rattle.link_tools_command.specs.declared.usage.UsageFault.{UsageFault}
use Rattle.link_tools_command.specs.declared.usage.UsageFault.TheVariants.{Help, Words, NodeTooLong, OwnNamesNoNode, MixedInputs, LimitedBundles, Memory}

-- ---- errors that `clap` finds in the words

-- whether an error of this kind is a request for help or for the version
abbrev pub is_request : ErrorKind → Bool
is_request DisplayHelp = true
is_request DisplayVersion = true
is_request _ = false

-- `clap` finds an error in the words, and `is_kind` returns `expected` for its kind
abbrev pub HasErrorOfKind : (is_kind : ErrorKind → Bool) → (expected : Bool) → (words : List Text)
    → Type 0
HasErrorOfKind is_kind expected words =
    (kind : ErrorKind) × IsAmong kind (fault_of table words) × (is_kind kind ≡ expected)

-- `clap` finds no error in the words
abbrev pub AreValidWords : (words : List Text) → Type 0
AreValidWords words = fault_of table words ≡ []

-- the value of `--node`, which is empty if the tool has none
abbrev pub node_of : (tool : Option (Text × List Row)) → Text
node_of tool = option_map_or (λ t. text_of (codes "node") t.1) tool []

-- the value of `--own`, which is empty if the tool has none
abbrev pub own_of : (tool : Option (Text × List Row)) → Text
own_of tool = option_map_or (λ t. text_of (codes "own") t.1) tool []

-- the value of `--node` or the one of `--own` has more than 1,024 bytes
abbrev pub HasLongNode : (tool : Option (Text × List Row)) → Type 0
HasLongNode tool = (1024 < length (node_of tool)) ⊎ (1024 < length (own_of tool))

-- whether the tool is given a value of `--own` that names no node
abbrev pub own_names_no_node_of : (tool : Option (Text × List Row)) → Bool
own_names_no_node_of tool = option_map_or (λ t. own_names_no_node t.1) tool false

-- whether the tool is given `--bundles` and an option for recordings
abbrev pub mixes_inputs_of : (tool : Option (Text × List Row)) → Bool
mixes_inputs_of tool = option_map_or (λ t. mixes_inputs t.1) tool false

-- whether the tool is given `--bundles` and a limit of the peer
abbrev pub limits_bundles_of : (tool : Option (Text × List Row)) → Bool
limits_bundles_of tool = option_map_or (λ t. limits_bundles t.1) tool false

-- whether a fault may be returned for these words; `Memory` may be returned for any
abbrev pub MayBeFaultOfWords : (words : List Text) → UsageFault → Type 0
MayBeFaultOfWords words (Help text) = HasErrorOfKind is_request true words
MayBeFaultOfWords words (Words text) = HasErrorOfKind is_request false words
MayBeFaultOfWords words NodeTooLong =
    AreValidWords words × HasLongNode (subcommand_of table words)
MayBeFaultOfWords words OwnNamesNoNode =
    AreValidWords words × (own_names_no_node_of (subcommand_of table words) ≡ true)
MayBeFaultOfWords words MixedInputs =
    AreValidWords words × (mixes_inputs_of (subcommand_of table words) ≡ true)
MayBeFaultOfWords words LimitedBundles =
    AreValidWords words × (limits_bundles_of (subcommand_of table words) ≡ true)
MayBeFaultOfWords words Memory = ⊤

-- ---- the end of the program

-- the exit status after this fault
abbrev pub usage_status : UsageFault → ℕ
usage_status (Help text) = 0
usage_status (Words text) = 2
usage_status NodeTooLong = 2
usage_status OwnNamesNoNode = 2
usage_status MixedInputs = 2
usage_status LimitedBundles = 2
usage_status Memory = 4

-- the program's own message; it is empty for a fault that carries a text
abbrev pub usage_text : UsageFault → Text
usage_text (Help text) = []
usage_text (Words text) = []
usage_text NodeTooLong = codes "tcpclkit: node id longer than 1024 bytes"
usage_text OwnNamesNoNode = codes "tcpclkit: --own names no node"
usage_text MixedInputs = codes "tcpclkit: --bundles goes with no other option"
usage_text LimitedBundles =
    codes "tcpclkit: --bundles goes with neither --peer-segment nor --peer-transfer"
usage_text Memory = codes "tcpclkit: out of memory"
