-- Runs of IDs, the newest first, and the ends of each run of IDs, which are kept.
use Rattle.std.proofs.Common.{◌≡◌, ℕ, zero, suc, ◌+◌, ◌≤◌, Bool, true, false, not, ◌&&◌, ◌||◌, ◌==◌, nat_le, List, [], ◌∷◌, map, take, Some, if◌then◌else◌, refl, sym, ap, arith}
use Rattle.std.{specs.List.list_any, proofs.Math.Seq.take-nil}
use Rattle.link_wire.specs.declared.message.Message.{Message}
use Rattle.link_session_rules.specs.TransferIds.{ids_of, is_in, last_runs, runs_of, skips, with_id}
use Rattle.link_session_rules.specs.Remembered.{AreTransferIdsAt, between, contains, end_of, ends_of, kept_runs, kept_with}
use Rattle.link_session_rules.specs.declared.transfer_ids.{IdRun.IdRun, TransferIds.TransferIds}

-- ---- the IDs of a run of IDs are those between its ends

record IsRun (id last : ℕ) (older : List ℕ) : Type 0 where
  below : end_of last older ≤ last
  is_in : list_any (λ earlier. earlier == id) (last ∷ older) ≡ between (end_of last older) last id

abbrev AreRuns : (id : ℕ) → List (List ℕ) → Type 0
AreRuns id [] = Unit {0}
AreRuns id ([] ∷ runs) = AreRuns id runs
AreRuns id ((last ∷ older) ∷ runs) = IsRun id last older × AreRuns id runs

alone_is_run : (id last : ℕ) → IsRun id last []
alone_is_run id last = record { below = omega arith; is_in = grind arith }

one_more : (first last id : ℕ) → first ≤ last
    → ((last + 1 == id) || between first last id) ≡ between first (last + 1) id
one_more first last id below = grind arith

same : (a b : ℕ) → (a == b) ≡ true → a ≡ b
same a b is = grind arith

longer_is_run : (id next last : ℕ) (older : List ℕ) → (next == last + 1) ≡ true
    → IsRun id last older → IsRun id next (last ∷ older)
longer_is_run id next last older follows is =
    let after : next ≡ last + 1 = same next (last + 1) follows in
    record {
      below = omega (arith, is.below);
      is_in = rw (after, is.is_in) (one_more (end_of last older) last id is.below);
    }

with_run : (id next : ℕ) (runs : List (List ℕ)) → AreRuns id runs → AreRuns id (with_id next runs)
with_run id next [] are = (alone_is_run id next, tt)
with_run id next ([] ∷ runs) are = (alone_is_run id next, are)
with_run id next ((last ∷ older) ∷ runs) are = by_test (next == last + 1) refl
  where
    by_test : (test : Bool) → (next == last + 1) ≡ test
        → AreRuns id (if test then (next ∷ last ∷ older) ∷ runs
        else (next ∷ []) ∷ (last ∷ older) ∷ runs)
    by_test true follows = (longer_is_run id next last older follows are.0, are.1)
    by_test false follows = (alone_is_run id next, are)

are_runs : (id : ℕ) (ids : List ℕ) → AreRuns id (runs_of ids)
are_runs id [] = tt
are_runs id (next ∷ older) = with_run id next (runs_of older) (are_runs id older)

first_runs : (id count : ℕ) (runs : List (List ℕ)) → AreRuns id runs → AreRuns id (take count runs)
first_runs id zero runs are = tt
first_runs id (suc count) [] are = tt
first_runs id (suc count) ([] ∷ runs) are = first_runs id count runs are
first_runs id (suc count) ((last ∷ older) ∷ runs) are = (are.0, first_runs id count runs are.1)

any_by : (id : ℕ) (kept : List IdRun) (runs : List (List ℕ)) → map Some kept ≡ map ends_of runs
    → AreRuns id runs → list_any (contains id) kept ≡ is_in runs id
any_by id [] [] is are = refl
any_by id [] (run ∷ runs) is are = cc
any_by id (one ∷ kept) [] is are = cc
any_by id (one ∷ kept) ([] ∷ runs) is are = cc
any_by id (one ∷ kept) ((last ∷ older) ∷ runs) is are =
    let same_one : one ≡ record { first = end_of last older; last = last } = cc in
    let rest : map Some kept ≡ map ends_of runs = cc in
    rw (same_one, are.0.is_in, any_by id kept runs rest are.1) refl

pub contains_by : (ids : TransferIds) (older : List Message) (id : ℕ) → AreTransferIdsAt ids older
    → list_any (contains id) (kept_runs ids) ≡ is_in (last_runs older) id
contains_by ids older id at =
    let all = runs_of (ids_of older) in
    any_by id (kept_runs ids) (take 64 all) at.runs (first_runs id 64 all (are_runs id (ids_of older)))

-- ---- the last ID

begins : (next : ℕ) (runs : List (List ℕ))
    → (older : List ℕ) × (more : List (List ℕ)) × (with_id next runs ≡ (next ∷ older) ∷ more)
begins next [] = ([], [], refl)
begins next ([] ∷ runs) = ([], [] ∷ runs, refl)
begins next ((last ∷ older) ∷ runs) = by_test (next == last + 1)
  where
    by_test : (test : Bool) → (rest : List ℕ) × (more : List (List ℕ))
        × ((if test then (next ∷ last ∷ older) ∷ runs else (next ∷ []) ∷ (last ∷ older) ∷ runs)
        ≡ (next ∷ rest) ∷ more)
    by_test true = (last ∷ older, runs, refl)
    by_test false = ([], (last ∷ older) ∷ runs, refl)

abbrev skips_runs : List IdRun → (id : ℕ) → Bool
skips_runs [] id = not (id == 0)
skips_runs (run ∷ runs) id = not (id == run.last + 1)

skips_first : (id count : ℕ) (kept : List IdRun) (ids : List ℕ)
    → map Some kept ≡ map ends_of (take (suc count) (runs_of ids))
    → skips_runs kept id ≡ skips ids id
skips_first id count [] [] is = refl
skips_first id count (run ∷ kept) [] is = cc
skips_first id count kept (last ∷ older) is = by_first kept (rw begins_so at is)
  where
    found : (rest : List ℕ) × (more : List (List ℕ))
        × (with_id last (runs_of older) ≡ (last ∷ rest) ∷ more)
    found = begins last (runs_of older)

    begins_so : with_id last (runs_of older) ≡ (last ∷ found.0) ∷ found.1
    begins_so = found.2

    by_first : (kept : List IdRun)
        → map Some kept ≡ map ends_of (take (suc count) ((last ∷ found.0) ∷ found.1))
        → skips_runs kept id ≡ not (id == last + 1)
    by_first [] is = cc
    by_first (run ∷ kept) is =
        let same_run : run ≡ record { first = end_of last found.0; last = last } = cc in
        rw same_run refl

pub skips_by : (ids : TransferIds) (older : List Message) (id : ℕ) → AreTransferIdsAt ids older
    → skips_runs (kept_runs ids) id ≡ skips (ids_of older) id
skips_by ids older id at = skips_first id 63 (kept_runs ids) (ids_of older) at.runs

-- ---- one more ID

map-take : (count : ℕ) (kept : List IdRun) (runs : List (List ℕ))
    → map Some kept ≡ map ends_of (take (suc count) runs)
    → map Some (take count kept) ≡ map ends_of (take count runs)
map-take zero kept runs is = refl
map-take (suc count) [] [] is = refl
map-take (suc count) [] (run ∷ runs) is = cc
map-take (suc count) (one ∷ kept) [] is = cc
map-take (suc count) (one ∷ kept) (run ∷ runs) is =
    let rest : map Some kept ≡ map ends_of (take (suc count) runs) = cc in
    let shorter = map-take count kept runs rest in
    cc

pub kept_then : (id count : ℕ) (kept : List IdRun) (runs : List (List ℕ))
    → map Some kept ≡ map ends_of (take (suc count) runs)
    → map Some (kept_with id count kept) ≡ map ends_of (take (suc count) (with_id id runs))
kept_then id count [] [] is =
    ap (λ rest. Some (record { first = id; last = id }) ∷ map ends_of rest) (sym (take-nil count))
kept_then id count [] (run ∷ runs) is = cc
kept_then id count (one ∷ kept) [] is = cc
kept_then id count (one ∷ kept) ([] ∷ runs) is = cc
kept_then id count (one ∷ kept) ((last ∷ older) ∷ runs) is =
    let same_one : one ≡ record { first = end_of last older; last = last } = cc in
    let rest : map Some kept ≡ map ends_of (take count runs) = cc in
    let shorter = map-take count (one ∷ kept) ((last ∷ older) ∷ runs) is in
    rw same_one (by_test (id == last + 1) rest (rw same_one at shorter))
  where
    ends : IdRun
    ends = record { first = end_of last older; last = last }

    by_test : (test : Bool) → map Some kept ≡ map ends_of (take count runs)
        → map Some (take count (ends ∷ kept)) ≡ map ends_of (take count ((last ∷ older) ∷ runs))
        → map Some (if test then record { first = end_of last older; last = id } ∷ kept
        else record { first = id; last = id } ∷ take count (ends ∷ kept))
        ≡ map ends_of (take (suc count) (if test then (id ∷ last ∷ older) ∷ runs
        else (id ∷ []) ∷ (last ∷ older) ∷ runs))
    by_test true rest shorter = rw rest refl
    by_test false rest shorter = rw shorter refl
