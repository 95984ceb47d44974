-- The judgement on a transfer's data, and its text in the line of the transfer.
use Rattle.std.specs.Prelude.{ℕ, Bool, ◌==◌, if◌then◌else◌, Result, Ok, Err, List, [], ◌++◌, codes}
use Rattle.link_bundle_types.specs.BundleView.{viewed_info}
use Rattle.link_bundle_types.specs.ShortNames.{HasShortNames}
use Rattle.link_bundle_types.specs.declared.fault.BundleFault.{BundleFault}
use Rattle.link_bundle_types.specs.declared.info.BundleInfo.{BundleInfo}
use Rattle.link_transfer.specs.declared.announcement.Announced.{Announced}
use Rattle.link_transfer.specs.declared.announcement.Announced.TheVariants.{Absent, Total, Malformed}
use Rattle.link_report.specs.declared.judgement.Judgement.{Judgement}
use Rattle.link_report.specs.declared.judgement.Judgement.TheVariants.{Abandoned, BadLengthItem, LengthDiffers, Bad, Good}
use Rattle.link_report.specs.declared.judgement.JudgementView.{JudgementView}
use Rattle.link_report.specs.declared.judgement.JudgementView.TheVariants as view
use Rattle.link_report.specs.BundleFault.{code_text}
use Rattle.link_report.specs.Identity.{identity_text}
use Rattle.link_report.specs.Text.{number_text}

-- the judgement on data with this verdict, if nothing else is wrong with its transfer
abbrev pub judged_data : Result BundleInfo (BundleFault × ℕ) → Judgement
judged_data (Ok info) = Good info
judged_data (Err (fault, offset)) = Bad fault offset

-- The judgement on `size` bytes of data, if their transfer was not abandoned. The announced length
-- is compared first, and then the verdict counts (RFC 9174 section 5.2.5.1).
abbrev pub judged_length : Announced → ℕ → Result BundleInfo (BundleFault × ℕ) → Judgement
judged_length Absent size verdict = judged_data verdict
judged_length (Total total) size verdict =
    if total == size then judged_data verdict else LengthDiffers total
judged_length Malformed size verdict = BadLengthItem

-- The judgement on a transfer with `size` bytes of data. It is the first of these that holds:
-- another transfer began, the length item is bad, another length is announced, the data are no
-- bundle, the data are a bundle.
abbrev pub judged_transfer : Bool → Announced → ℕ → Result BundleInfo (BundleFault × ℕ) → Judgement
judged_transfer abandoned announced size verdict =
    if abandoned then Abandoned else judged_length announced size verdict

-- the judgement alone, without the identity of a good bundle
unfoldable pub outcome_text : Judgement → List ℕ
outcome_text Abandoned = codes "abandoned"
outcome_text BadLengthItem = codes "bad-length-item"
outcome_text (LengthDiffers announced) = number_text (codes "length-differs announced=") announced
outcome_text (Bad fault offset) =
    codes "bad=" ++ code_text fault ++ number_text (codes " byte=") offset
outcome_text (Good info) = codes "good"

-- the identity of a good bundle, and nothing for another judgement
unfoldable pub good_text : Judgement → List ℕ
good_text (Good info) = codes " " ++ identity_text info
good_text _ = []

-- a judgement as it ends a transfer's line
unfoldable pub judgement_text : Judgement → List ℕ
judgement_text judgement = outcome_text judgement ++ good_text judgement

-- the judgement that a view shows
abbrev pub viewed_judgement : JudgementView → Judgement
viewed_judgement view.Abandoned = Abandoned
viewed_judgement view.BadLengthItem = BadLengthItem
viewed_judgement (view.LengthDiffers announced) = LengthDiffers announced
viewed_judgement (view.Bad fault offset) = Bad fault offset
viewed_judgement (view.Good info) = Good (viewed_info info)

-- the dtn names of a good bundle have at most 1,024 bytes each; other judgements have no names
abbrev pub HasOnlyShortNames : Judgement → Type 0
HasOnlyShortNames (Good info) = HasShortNames info
HasOnlyShortNames _ = Unit {0}
