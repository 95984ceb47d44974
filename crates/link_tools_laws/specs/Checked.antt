-- What `unpack` reports of a recording in which `check --must` finds no rule broken.
use Rattle.std.specs.{Prelude.{◌≡◌, ◌||◌, ℕ, Bool, true, List, [], Option, Some, None}, List.All}
use Rattle.link_tool_option_types.specs.declared.wanted.Wanted.{Wanted}
use Rattle.link_wire.specs.Stream.{reading_of, heads_of}
use Rattle.link_transfer.specs.declared.fault.OrderFault.{OrderFault}
use Rattle.link_transfer.specs.declared.fault.OrderFault.TheVariants.{SecondSessInit}
use Rattle.link_rules_shared.specs.Heads.{unread_of}
use Rattle.link_session_rules.specs.TransferData.{may_be_bundle}
use Rattle.link_session_rules.specs.TransferRules.{has_other_item}
use Rattle.link_report.specs.declared.{fault.Fault.TheVariants.Order, judgement.Judgement.Judgement}
use Rattle.link_report.specs.declared.judgement.Judgement.TheVariants.{Abandoned, BadLengthItem, LengthDiffers, Bad, Good}
use Rattle.link_run.specs.Made.{StreamStop, stop_of}
use Rattle.link_run_judge.specs.Transfers.{Transfer}
use Rattle.link_run_judge.specs.Unpacking.{judgement_of}
use Rattle.link_tools_laws.specs.Cuts.{faults_after, reported, reported_on, stream_stop}

-- A transfer with this data is good or abandoned, or its data may be a bundle that this toolkit
-- does not read. `has_other` is whether the transfer has an extension item of an unknown type,
-- which may permit that its data is no bundle.
abbrev pub IsGoodOrUnsupported : (has_other : Bool) → (content : List ℕ) → Judgement → Type 0
IsGoodOrUnsupported has_other content Abandoned = Unit {0}
IsGoodOrUnsupported has_other content BadLengthItem = ⊥
IsGoodOrUnsupported has_other content (LengthDiffers announced) = ⊥
IsGoodOrUnsupported has_other content (Bad fault offset) =
    (has_other || may_be_bundle (unread_of content) fault offset) ≡ true
IsGoodOrUnsupported has_other content (Good info) = Unit {0}

-- `IsGoodOrUnsupported` for the data and the judgement of this transfer
abbrev pub HasGoodOrUnsupportedBundle : Transfer → Type 0
HasGoodOrUnsupportedBundle transfer =
    IsGoodOrUnsupported (has_other_item transfer.first.items.items) transfer.content
    (judgement_of transfer)

-- the fault of a head is that it is a second SESS_INIT
abbrev pub IsSecondInitFault : ℕ × OrderFault → Type 0
IsSecondInitFault fault = fault.1 ≡ SecondSessInit

-- the stream stops at no fault, or at a second SESS_INIT
abbrev pub IsSecondInitOrNoStop : Option StreamStop → Type 0
IsSecondInitOrNoStop None = Unit {0}
IsSecondInitOrNoStop (Some stop) = (offset : ℕ) × (stop.fault ≡ Order offset SecondSessInit)

-- The only faults in the reports of `unpack` are abandoned transfers, data that may be bundles,
-- data of transfers that have an extension item of an unknown type, and a second SESS_INIT.
-- `ReportDividesOutput` and `ReportDividesOutputKeepGoing` say what the reports are.
pub record HasOnlyAllowedFaults (bytes : List ℕ) : Type 0 where
  -- without `--keep-going`
  pub stop : IsSecondInitOrNoStop (stream_stop bytes)
  pub transfers : All HasGoodOrUnsupportedBundle (reported bytes)
  -- with `--keep-going`
  pub unstopped : stop_of (reading_of bytes).end ≡ None
  pub faults : All IsSecondInitFault (faults_after [] (heads_of (reading_of bytes)))
  pub transfers_on : (wanted : Wanted) → All HasGoodOrUnsupportedBundle (reported_on wanted bytes)
