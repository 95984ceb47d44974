-- Relations: what a line needs to have room in a text. Each has at most one proof, as a fact in a
-- struct must.

use Rattle.std.specs.Prelude.{ℕ, ◌+◌, ◌^◌, ◌<◌, Option, Some, None, Result, Ok, Err}
use Rattle.std.specs.Coded.{Unit-prop, le_prop}
use Rattle.link_bundle_blocks.specs.Blocks.{Primary, HasShortEids}
use Rattle.link_bundle_data.specs.BlockData.{BlockData, PreviousNode, Security, StatusReport}
use Rattle.link_bundle_data.specs.declared.values.DataFault.{DataFault}
use Rattle.link_bundle_data.specs.DataView.{HasShortName}
use Rattle.link_report.specs.ShortNames.{HasNoLongName-prop}

-- The words for the data of a block can be written. A dtn name in well-formed data has at most
-- 1,024 bytes. The offset in the bundle at which malformed data fails is below 2^64.
abbrev pub WordsFit : ℕ → Option (Result BlockData DataFault) → Type 0
WordsFit data_start None = Unit {0}
WordsFit data_start (Some (Ok found)) = HasShortName found
WordsFit data_start (Some (Err fault)) = data_start + fault.offset < 2 ^ 64

-- the lemma that the next proof uses
pub ruleset short_names = (HasNoLongName-prop)

-- `HasShortEids` has at most one proof
pub HasShortEids-prop : (primary : Primary) → IsProp (HasShortEids primary)
HasShortEids-prop primary = Prim.hlevel short_names

-- `HasShortName` has at most one proof
pub HasShortName-prop : (found : BlockData) → IsProp (HasShortName found)
HasShortName-prop (PreviousNode node) = HasNoLongName-prop node
HasShortName-prop (Security block targets source) = HasNoLongName-prop source
HasShortName-prop (StatusReport report source) = HasNoLongName-prop source
HasShortName-prop others = Unit-prop

-- `WordsFit` has at most one proof
pub WordsFit-prop : (data_start : ℕ) (found : Option (Result BlockData DataFault))
    → IsProp (WordsFit data_start found)
WordsFit-prop data_start None = Unit-prop
WordsFit-prop data_start (Some (Ok found)) = HasShortName-prop found
WordsFit-prop data_start (Some (Err fault)) = le_prop
