-- Relations: conditions on the functions that read the matches, and on their results.
use Rattle.std.specs.Prelude.{◌≡◌, ◌<◌, ◌⊎◌, ⊤, true, false, List, Option, Some, None, codes, length}
use Rattle.clap.specs.{Words.{Row, Text}, declared.error.kind.ErrorKind.ErrorKind}
use Rattle.clap.specs.declared.error.kind.ErrorKind.TheVariants.{OutOfMemory}
use Rattle.link_tools_command.specs.Invoked.{own_names_no_node, text_of}
use Rattle.link_tools_command.specs.Usage.{HasLongNode, is_request, limits_bundles_of, mixes_inputs_of, own_names_no_node_of}
use Rattle.link_tools_command.specs.declared.usage.UsageFault.{UsageFault}
use Rattle.link_tools_command.specs.declared.usage.UsageFault.TheVariants.{Help, Words, NodeTooLong, OwnNamesNoNode, MixedInputs, LimitedBundles, Memory}

-- this is the name of one of the five tools
abbrev pub IsToolName : Text → Type 0
IsToolName name = (name ≡ codes "list")
    ⊎ ((name ≡ codes "unpack")
    ⊎ ((name ≡ codes "blocks") ⊎ ((name ≡ codes "check") ⊎ (name ≡ codes "pack"))))

-- there is a tool, and it is one of the five
abbrev pub HasToolName : Option (Text × List Row) → Type 0
HasToolName None = ⊥
HasToolName (Some tool) = IsToolName tool.0

-- whether a fault may be returned for the matches of a tool; `Memory` may be returned for any
abbrev pub MayBeFaultOfMatches : Option (Text × List Row) → UsageFault → Type 0
MayBeFaultOfMatches tool fault = ((fault ≡ NodeTooLong) × HasLongNode tool)
    ⊎ (((fault ≡ OwnNamesNoNode) × (own_names_no_node_of tool ≡ true))
    ⊎ (((fault ≡ MixedInputs) × (mixes_inputs_of tool ≡ true))
    ⊎ (((fault ≡ LimitedBundles) × (limits_bundles_of tool ≡ true)) ⊎ (fault ≡ Memory))))

-- whether a fault may be returned for the value of `--own` in the matches of `check`
abbrev pub MayBeFaultOfOwn : (rows : List Row) → UsageFault → Type 0
MayBeFaultOfOwn rows fault =
    ((fault ≡ NodeTooLong) × (1024 < length (text_of (codes "own") rows)))
    ⊎ ((fault ≡ OwnNamesNoNode) × (own_names_no_node rows ≡ true))

-- Whether a fault may be returned for an error of `clap` of this kind. `Memory` may be returned for
-- any kind, and no other fault for `OutOfMemory`. The faults that `clap` does not find are returned
-- for no kind.
abbrev pub MayBeFaultOfClapError : ErrorKind → UsageFault → Type 0
MayBeFaultOfClapError kind (Help text) = is_request kind ≡ true
MayBeFaultOfClapError kind (Words text) = (is_request kind ≡ false) × (kind ≡ OutOfMemory → ⊥)
MayBeFaultOfClapError kind Memory = ⊤
MayBeFaultOfClapError kind _ = ⊥
