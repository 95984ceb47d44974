-- Relations: that the names of a bundle are short has at most one proof, as a fact in a struct
-- must.
use Rattle.std.specs.Coded.{Unit-prop, le_prop}
use Rattle.link_bundle_types.specs.ShortNames.{HasNoLongName, HasShortNames}
use Rattle.link_bundle_types.specs.declared.eid.{Eid.Eid, Eid.TheVariants.Dtn}
use Rattle.link_bundle_types.specs.declared.info.BundleInfo.{BundleInfo}
use Rattle.link_report.specs.declared.judgement.Judgement.{Judgement}
use Rattle.link_report.specs.declared.judgement.Judgement.TheVariants.{Good}
use Rattle.link_report.specs.Judgement.{HasOnlyShortNames}

-- `HasNoLongName` has at most one proof
pub HasNoLongName-prop : (eid : Eid) → IsProp (HasNoLongName eid)
HasNoLongName-prop (Dtn name) = le_prop
HasNoLongName-prop _ = Unit-prop

-- `HasShortNames` has at most one proof
pub HasShortNames-prop : (info : BundleInfo) → IsProp (HasShortNames info)
HasShortNames-prop info = Prim.hlevel HasNoLongName-prop

-- `HasOnlyShortNames` has at most one proof
pub HasOnlyShortNames-prop : (judgement : Judgement) → IsProp (HasOnlyShortNames judgement)
HasOnlyShortNames-prop (Good info) = HasShortNames-prop info
HasOnlyShortNames-prop _ = Unit-prop
