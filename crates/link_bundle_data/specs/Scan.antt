-- Relations: the bytes that a scan of block data has seen. The promises need only two facts: `new`
-- and `restart` have seen nothing, and `take` adds its bytes.

use Rattle.std.specs.{Prelude.{◌≡◌, ℕ, ◌+◌, ◌≤◌, ◌||◌, ◌==◌, List, ◌++◌, length, take, drop, Option, IsTrue}, Option.option_or}
use Rattle.link_cbor.specs.declared.head_scan.HeadScan.{HeadScan}
use Rattle.link_cbor.specs.Head.{AreBytes, Cut, head_front}
use Rattle.link_cbor.specs.HeadScan.{HasScannedHead}
use Rattle.link_rules_shared.specs.Heads.{is_long, first_from}
use Rattle.link_bundle_data.specs.declared.{kind.DataKind.DataKind, due.Due.Due}
use Rattle.link_bundle_data.specs.declared.due.DataStage.{DataStage}
use Rattle.link_bundle_data.specs.declared.due.DataStage.TheVariants.{Head, Name, Read, Failed}
use Rattle.link_bundle_data.specs.declared.{draft.Draft.Draft, scan.DataScan.DataScan}
use Rattle.link_bundle_data.specs.BlockData.{located, data_of}
use Rattle.link_bundle_data.specs.Left.{may_follow, due_left, stage_left}

-- the seen bytes end inside the head that begins at `offset`
pub record HasSeenPartOfHead (head : HeadScan) (offset : ℕ) (seen : List ℕ) : Type 0 where
  pub in_bytes : offset ≤ length seen
  pub scanned : HasScannedHead head (drop offset seen)
  pub cut : head_front (drop offset seen) ≡ Cut

-- Where the seen bytes end at each stage. At a head, they end inside it. After an item that has to
-- be the last, they end with the item. At other stages and after other items, they may end
-- anywhere.
abbrev pub DataStageFits : DataStage → HeadScan → ℕ → List ℕ → Type 0
DataStageFits (Head which) head offset seen = HasSeenPartOfHead head offset seen
DataStageFits (Read found) head offset seen =
    IsTrue (may_follow found || (offset == length seen))
DataStageFits _ head offset seen = Unit {0}

-- `long` is the offset of the first long head before this stage, if there is one. Whatever bytes
-- follow, the first long head of all is this one, or else the first one from this stage on. In a
-- name, the next head begins after its `left` bytes. After the item (`Read`), `long` is the first
-- in the item, which ended before `offset`. In malformed data, `long` may be anything.
abbrev pub IsFirstLongHead : DataStage → Option ℕ → ℕ → List ℕ → Type 0
IsFirstLongHead (Head which) long offset seen =
    (more : List ℕ) → first_from is_long 0 0 (seen ++ more)
    ≡ option_or long (first_from is_long 0 offset (drop offset (seen ++ more)))
IsFirstLongHead (Name owner left) long offset seen =
    (more : List ℕ) → first_from is_long 0 0 (seen ++ more)
    ≡ option_or long (first_from is_long left (length seen) more)
IsFirstLongHead (Read found) long offset seen = long ≡ first_from is_long 0 0 (take offset seen)
IsFirstLongHead (Failed fault) long offset seen = Unit {0}

-- These are the parts of a scan that has seen exactly these bytes of data of this kind. Whatever
-- bytes follow, reading on from this stage gives what all the bytes say. `offset` is where the
-- current head begins, or the item ended.
pub record HasScannedBy (kind : DataKind) (stage : DataStage) (draft : Draft) (head : HeadScan)
    (offset count : ℕ) (seen : List ℕ) : Type 0 where
  pub all_bytes : AreBytes seen
  pub counted : count ≡ length seen
  pub reads : (more : List ℕ)
      → data_of kind (seen ++ more) ≡ stage_left stage draft (seen ++ more) offset (length seen)
  pub stands : DataStageFits stage head offset seen

-- Exactly these bytes were seen. The head at `offset` is not judged yet, and may be complete.
-- Whatever bytes follow, reading on from this head gives what all the bytes say.
pub record HasHeadToJudge (kind : DataKind) (which : Due) (draft : Draft) (offset count : ℕ)
    (seen : List ℕ) : Type 0 where
  pub all_bytes : AreBytes seen
  pub counted : count ≡ length seen
  pub in_bytes : offset ≤ length seen
  pub reads : (more : List ℕ)
      → data_of kind (seen ++ more)
      ≡ located (seen ++ more) (due_left which draft (seen ++ more) offset)

-- the scan is of data of this kind and has seen exactly these bytes
pub record HasScanned (kind : DataKind) (scan : DataScan) (seen : List ℕ) : Type 0 where
  pub state : HasScannedBy kind scan.stage scan.draft scan.head scan.offset scan.count seen
  pub long : IsFirstLongHead scan.stage scan.long scan.offset seen

-- the number of bytes seen
abbrev pub scan_size : DataScan → ℕ
scan_size scan = scan.count

-- the scan has taken exactly these bytes
pub record TakesRun (old new : DataScan) (run : List ℕ) : Type 0 where
  pub size : scan_size new ≡ scan_size old + length run
  pub seen : (kind : DataKind) (seen : List ℕ) → HasScanned kind old seen
      → HasScanned kind new (seen ++ run)
