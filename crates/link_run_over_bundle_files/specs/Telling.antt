-- Relations, but for BundleTelling, stop_by, told_of: a tool over bundles, what it says of the
-- bundles of an input, and what it makes of the input.
use Rattle.std.specs.Prelude.{◌≡◌, ℕ, ◌+◌, ◌^◌, ◌<◌, Bool, true, List, [], ◌∷◌, ◌++◌, length, Option, Some, None, OnOk, Result, Ok}
use Rattle.link_wire.specs.Device.{Output}
use Rattle.link_wire.specs.declared.IoFault.{IoFault}
use Rattle.link_bundle_blocks.specs.Bundle.{verdict, blocks_in}
use Rattle.link_bundle.specs.Scan.{HasScanned, ending}
use Rattle.link_bundle.specs.declared.scan.BundleScan.{BundleScan}
use Rattle.link_bundle_types.specs.BundleView.{viewed_info}
use Rattle.link_bundle_types.specs.Faults.{lasts}
use Rattle.link_bundle_types.specs.declared.info.BundleInfo.{BundleInfo}
use Rattle.link_report.specs.declared.fault.{Fault.Fault, Fault.TheVariants.{Bundle, TooLong}}
use Rattle.link_run.specs.Made.{StreamStop, Made}
use Rattle.link_run.specs.Run.{Texts, ◌then◌}
use Rattle.link_run.specs.Writers.{AfterWrite}
use Rattle.link_run.specs.declared.writers.Writers.{Writers}
use Rattle.link_run_over_bundle_files.specs.Bundles.{BundleWithInfo, Refusal, Longer, Faulty, TailAfterBundles, Divided, IsUnfinishedBundle, divided, size_of}
use Rattle.link_run_over_bundle_files.specs.declared.consumer.{RunView.RunView, WholeView.WholeView}

-- ---- where an input stops

-- the fault in the report; `number` is the number of the bundle that is refused
abbrev pub refusal_fault : (number : ℕ) → Refusal → Fault
refusal_fault number (Longer limit) = TooLong number limit
refusal_fault number (Faulty fault offset) = Bundle number offset fault

-- Whether the refusal stays, whatever bytes follow. A refusal stays unless its reason is that the
-- bytes end inside a bundle.
abbrev pub lasting : Refusal → Bool
lasting (Longer limit) = true
lasting (Faulty fault offset) = lasts fault

-- where an input stops that has `number` whole bundles, and then `rest`
abbrev pub stop_by : (number : ℕ) → Option TailAfterBundles → Option StreamStop
stop_by number None = None
stop_by number (Some rest) =
    Some (record { fault = refusal_fault number rest.refusal; lasts = lasting rest.refusal })

-- ---- what a tool says

-- what has come so far: these bundles, and then the bytes `begun` of the next one
pub record SoFar : Type 0 where
  pub bundles : List BundleWithInfo
  pub begun : List ℕ

-- nothing has come
abbrev pub none_yet : SoFar
none_yet = record { bundles = []; begun = [] }

-- no byte of the next bundle has come
abbrev pub between : List BundleWithInfo → SoFar
between bundles = record { bundles = bundles; begun = [] }

-- what a tool says of bundles
pub record BundleTelling : Type 0 where
  -- the most bytes that a bundle may have
  pub limit : ℕ
  -- what is said of what has come so far, whatever bytes follow
  pub texts : SoFar → Texts
  -- what is said of an input that ends after these bundles, and whether all of them are good
  pub ended : List BundleWithInfo → Texts
  pub good : List BundleWithInfo → Bool

-- the accepted bytes after the last whole bundle
abbrev pub accepted_in : Option TailAfterBundles → List ℕ
accepted_in None = []
accepted_in (Some rest) = rest.before_fault

-- what has come of a whole input: its bundles, and the accepted bytes after them
abbrev pub come_in : Divided → SoFar
come_in input = record { bundles = input.bundles; begun = accepted_in input.rest }

-- what a tool makes of an input that is divided in this way
abbrev pub told_by : BundleTelling → Divided → Made
told_by telling input = record {
  texts = telling.texts (come_in input);
  stop = stop_by (length input.bundles) input.rest;
  ended = telling.ended input.bundles;
  good = telling.good input.bundles;
}

-- what a tool makes of an input, given by its bytes
unfoldable pub told_of : BundleTelling → List ℕ → Made
told_of telling bytes = told_by telling (divided telling.limit bytes)

-- ---- what a consumer is told, and what it writes

-- the fields of the bundle that a run has made whole, or `None` if the bundle goes on
abbrev pub whole_info : Option WholeView → Option BundleInfo
whole_info None = None
whole_info (Some whole) = Some (viewed_info whole.info)

-- `before`, and then these bytes of the current bundle, which goes on after them
abbrev pub with_bytes : SoFar → (bytes : List ℕ) → SoFar
with_bytes before bytes = record { bundles = before.bundles; begun = before.begun ++ bytes }

-- `before`, and then the bytes `run` of the current bundle. With an info, the bundle is whole after
-- them. Without one, it goes on.
abbrev pub with_run : SoFar → (run : List ℕ) → Option BundleInfo → SoFar
with_run before run None = with_bytes before run
with_run before run (Some info) = record {
  bundles = before.bundles ++ record { bytes = before.begun ++ run; info = info } ∷ [];
  begun = [];
}

-- `before`, and then the bytes of this run
abbrev pub come_with : SoFar → RunView → SoFar
come_with before run = with_run before run.bytes.now (whole_info run.whole)

-- the bytes are a whole bundle, and the view has its fields and its length
abbrev pub IsViewOfWholeBundle : (bundle : List ℕ) → WholeView → Type 0
IsViewOfWholeBundle bundle whole =
    (verdict bundle ≡ Ok (viewed_info whole.info)) × (whole.length ≡ length bundle)

-- with the bytes `run` after `begun`, the bundle goes on, or is whole and has this view
abbrev pub IsUnfinishedOrHasView : (limit : ℕ) → (begun run : List ℕ) → Option WholeView → Type 0
IsUnfinishedOrHasView limit begun run None = IsUnfinishedBundle limit (begun ++ run)
IsUnfinishedOrHasView limit begun run (Some whole) = IsViewOfWholeBundle (begun ++ run) whole

-- If the scan stops at each block, no block ends before the last byte of the run. `ending` is the
-- block that ends with that byte, if one does.
abbrev pub HasNoEarlierBlockEnd : (by_blocks : Bool) → BundleScan → (begun run : List ℕ) → Type 0
HasNoEarlierBlockEnd by_blocks scan begun run =
    by_blocks ≡ true → blocks_in (begun ++ run) ≡ blocks_in begun ++ ending scan

-- The bytes of a run follow the bytes so far. The scan has seen them. If the tool is told of each
-- block by itself, no block ends before the last byte of the run. The numbers of bundles and of
-- bytes are below 2^63 (`few`, `sized`).
pub record RunViewComes (limit : ℕ) (by_blocks : Bool) (before : SoFar) (run : RunView)
    : Type 0 where
  pub numbered : run.number ≡ length before.bundles
  pub placed : run.before ≡ length before.begun
  pub some : 0 < length run.bytes.now
  pub opened : IsUnfinishedBundle limit before.begun
  pub accepted : IsUnfinishedOrHasView limit before.begun run.bytes.now run.whole
  pub scanned : HasScanned run.scan.now (before.begun ++ run.bytes.now)
  pub blocks : HasNoEarlierBlockEnd by_blocks run.scan.now before.begun run.bytes.now
  pub few : length before.bundles + length (before.begun ++ run.bytes.now) < 2 ^ 63
  pub sized : size_of before.bundles + length (before.begun ++ run.bytes.now) < 2 ^ 63

-- What holds of the last accepted bytes before the byte that shows a fault. There are perhaps none.
-- They follow the bytes so far, and the bundle with this number goes on after them. If the tool is
-- told of each block by itself, no block ends in them. The numbers of bundles and of bytes are
-- below 2^63 (`few`, `sized`).
pub record BytesBeforeFaultCome (limit : ℕ) (by_blocks : Bool) (before : SoFar) (number : ℕ)
    (bytes : List ℕ) : Type 0 where
  pub numbered : number ≡ length before.bundles
  pub opened : IsUnfinishedBundle limit before.begun
  pub accepted : IsUnfinishedBundle limit (before.begun ++ bytes)
  pub blocks : by_blocks ≡ true → blocks_in (before.begun ++ bytes) ≡ blocks_in before.begun
  pub few : length before.bundles + length (before.begun ++ bytes) < 2 ^ 63
  pub sized : size_of before.bundles + length (before.begun ++ bytes) < 2 ^ 63

-- the number of bytes of the current bundle: `size`, or 0 if the run has made the bundle whole
abbrev pub read_by : Option WholeView → ℕ → ℕ
read_by None size = size
read_by (Some whole) size = 0

-- the number of bytes that the current bundle has after a run, or 0 if the run made it whole
abbrev pub size_after : RunView → ℕ
size_after run = read_by run.whole (run.before + length run.bytes.now)

-- The texts `due` begin with the texts `had`, which were written before. A call wrote the rest, and
-- then `stands` holds. Or a writer failed while writing the rest.
pub record WritesRestOfTexts {W E : Type 0} (out_look : W → Output) (report_look : E → Output)
    (had due : Texts) (stands : Type 0) (old new : Writers W E)
    (result : Result (Unit {0}) IoFault) : Type 0 where
  pub texts : Texts
  pub said : had then texts ≡ due
  pub wrote : AfterWrite out_look report_look old new texts result
  pub known : OnOk result stands
