-- What a view of block data shows.

use Rattle.std.specs.Prelude.{Result, Ok, Err}
use Rattle.link_bundle_types.specs.EidView.{viewed_eid}
use Rattle.link_bundle_types.specs.ShortNames.{HasNoLongName}
use Rattle.link_bundle_data.specs.declared.values.{DataFault.DataFault, DataView.DataView}
use Rattle.link_bundle_data.specs.declared.values.DataView.TheVariants as view
use Rattle.link_bundle_data.specs.BlockData.{BlockData, PreviousNode, BundleAge, HopCount, Security, StatusReport, OtherRecord}

-- what the data says, without borrowed bytes
abbrev pub viewed_data : DataView → BlockData
viewed_data (view.PreviousNode node) = PreviousNode (viewed_eid node)
viewed_data (view.BundleAge age) = BundleAge age
viewed_data (view.HopCount limit count) = HopCount limit count
viewed_data (view.Security block targets source) = Security block targets.now (viewed_eid source)
viewed_data (view.StatusReport report source) = StatusReport report (viewed_eid source)
viewed_data (view.OtherRecord type) = OtherRecord type

-- the result of a scan, without borrowed bytes
abbrev pub viewed_result : Result DataView DataFault → Result BlockData DataFault
viewed_result (Ok view) = Ok (viewed_data view)
viewed_result (Err fault) = Err fault

-- the name of a dtn endpoint ID in the data has at most 1,024 bytes
abbrev pub HasShortName : BlockData → Type 0
HasShortName (PreviousNode node) = HasNoLongName node
HasShortName (Security block targets source) = HasNoLongName source
HasShortName (StatusReport report source) = HasNoLongName source
HasShortName _ = Unit {0}
