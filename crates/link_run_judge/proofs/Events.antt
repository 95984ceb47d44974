-- What `unpack` has said after more events, and after data.
use Rattle.std.proofs.Common.{◌≡◌, ℕ, Bool, true, false, not, List, [], ◌∷◌, ◌++◌, if◌then◌else◌, refl, ap, ◌∙◌, append-nil, append_assoc}
use Rattle.std.specs.List.{fold}
use Rattle.std.proofs.{Math.Bool.and-true, lemmas.Grind.fold-append}
use Rattle.link_wire.specs.declared.message.SegmentHead.{SegmentHead}
use Rattle.link_run_over_transfers.specs.{Walk.{WalkEvent, Whole, data_events}, Telling.data_ends}
use Rattle.link_run_judge.specs.{Transfers.{Transfer, continued}, TransferJudge.grown}
use Rattle.link_run_judge.specs.Unpacking.{Told, none_told, told_event, told_after, with_line}
use Rattle.link_tool_option_types.specs.declared.wanted.Wanted.{Wanted}

-- the latest transfer is open
abbrev pub LatestIsOpen : List Transfer → Type 0
LatestIsOpen [] = ⊥
LatestIsOpen (latest ∷ earlier) = latest.closed ≡ false

module _ (wanted : Wanted) where
  abbrev pub told_then : Told → List WalkEvent → Told
  told_then told events = fold (told_event wanted) told events

  pub told_both : (told : Told) (events more : List WalkEvent)
      → told_then told (events ++ more) ≡ told_then (told_then told events) more
  told_both told events more = fold-append (told_event wanted) told events more

  pub told_push : (events more : List WalkEvent)
      → told_after wanted (events ++ more) ≡ told_then (told_after wanted events) more
  unfolding told_after
  told_push events more = told_both none_told events more

  -- data of the open transfer is added to it
  pub data_told : (content : List ℕ) (transfers : List Transfer) (report : List ℕ) (good : Bool)
      → LatestIsOpen transfers
      → told_then (record { transfers = transfers; report = report; good = good })
      (data_events content)
      ≡ record { transfers = continued transfers content false; report = report; good = good }
  data_told content [] report good opened = absurd opened
  data_told [] (latest ∷ earlier) report good opened =
      ap (λ ts. record { transfers = ts ∷ earlier; report = report; good = good })
      (same_transfer latest opened)
    where
      same_transfer : (one : Transfer) → one.closed ≡ false → one ≡ grown one [] false
      same_transfer one opened = rw append-nil (ap (λ c. record { first = one.first; content = one.content; closed = c }) opened)
  data_told (byte ∷ more) (latest ∷ earlier) report good opened =
      data_told more (grown latest (byte ∷ []) false ∷ earlier) report good refl
      ∙ ap (λ xs. record {
        transfers = record { first = latest.first; content = xs; closed = false } ∷ earlier;
        report = report;
        good = good;
      })
      (append_assoc latest.content (byte ∷ []) more)

  -- ---- the end of its data

  -- a transfer is whole or not, and if it is, it has its line
  module _ (first : SegmentHead) (content : List ℕ) (earlier : List Transfer) (lines : List ℕ)
      (good : Bool) where
    abbrev with_data : Bool → Told
    with_data closed = record {
      transfers = record { first = first; content = content; closed = closed } ∷ earlier;
      report = lines;
      good = good;
    }

    abbrev pub whole_if : (whole : Bool) → Told
    whole_if whole = with_line wanted whole (with_data whole)

    pub whole_told : (whole : Bool)
        → told_then (with_data false) (if whole then Whole ∷ [] else []) ≡ whole_if whole
    whole_told true =
        ap (λ (xs : List ℕ). with_line wanted true (record {
          transfers = record { first = first; content = xs; closed = true } ∷ earlier;
          report = lines;
          good = good;
        }))
        (append-nil content)
    whole_told false =
        rw (append-nil lines, and-true good) refl

-- a transfer that is open is not closed
pub open_is : (closed : Bool) → true ≡ not closed → closed ≡ false
open_is true is = absurd (cc)
open_is false is = refl

-- data of the open transfer has come, which may be the last of it
pub data_after : (wanted : Wanted) (before : List WalkEvent) (bytes : List ℕ) (whole : Bool)
    (latest : Transfer) (earlier : List Transfer)
    → (told_after wanted before).transfers ≡ latest ∷ earlier → latest.closed ≡ false
    → told_after wanted (before ++ data_ends bytes whole)
    ≡ whole_if wanted latest.first (latest.content ++ bytes) earlier
    (told_after wanted before).report (told_after wanted before).good whole
data_after wanted before bytes whole latest earlier are opened =
    let was = told_after wanted before in
    told_push wanted before (data_ends bytes whole)
    ∙ told_both wanted was (data_events bytes) (if whole then Whole ∷ [] else [])
    ∙ ap (λ told. told_then wanted told (if whole then Whole ∷ [] else []))
    (data_told wanted bytes was.transfers was.report was.good (rw are opened)
    ∙ ap (λ ts. record { transfers = continued ts bytes false; report = was.report; good = was.good }) are)
    ∙ whole_told wanted latest.first (latest.content ++ bytes) earlier was.report was.good whole

-- ---- before the first event

pub told_none : (wanted : Wanted)
    → told_after wanted [] ≡ record { transfers = []; report = []; good = true }
unfolding told_after
told_none wanted = refl
