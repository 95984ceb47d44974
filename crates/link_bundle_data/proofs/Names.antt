-- Readings one after another, and endpoint IDs with their names in runs of bytes.

use Rattle.std.proofs.Common.{◌≡◌, ℕ, ◌+◌, ◌-◌, ◌<◌, ◌≤◌, Bool, true, false, List, [], ◌++◌, length, drop, Result, Ok, Err, refl, ap, ◌∙◌, append_assoc, append-nil}
use Rattle.std.specs.Prelude.{IsTrue, ◌==◌, ◌&&◌, nat_lt, if◌then◌else◌}
use Rattle.std.proofs.lemmas.Bool.{eqb-true, ltb-true, and_parts}
use Rattle.link_bundle_types.specs.declared.eid.{Eid.Eid, Eid.TheVariants.Dtn}
use Rattle.link_bundle_types.specs.KeptEid.{name_of}
use Rattle.link_bundle_heads.specs.Rows.{◌>>=◌}
use Rattle.link_bundle_blocks.specs.Reading.{ReadAt, Stop, bytes_at}
use Rattle.link_bundle_blocks.proofs.Runs.{with_run-then, bytes_at-none, bytes_at-run, run_within}
use Rattle.link_bundle_data.specs.declared.due.Owner.{Owner}
use Rattle.link_bundle_data.specs.declared.due.Owner.TheVariants as owner
use Rattle.link_bundle_data.specs.declared.{due.DataStage.TheVariants.Name, draft.Draft.Draft}
use Rattle.link_bundle_data.specs.{BlockData.located, EidLeft.name_left}
use Rattle.link_bundle_data.specs.Turns.{after_eid, name_due, with_eid}
use Rattle.link_bundle_data.specs.Left.{owner_left, by_eid, timestamp_left, due_left, stage_left}

-- ---- one reading after another

-- a reading, another one, and the rest
pub then_then : {A B C : Type 0} (reading : ReadAt A) (next : A × ℕ → ReadAt B)
    (rest : B × ℕ → Result C Stop)
    → ((reading >>= next) >>= rest) ≡ (reading >>= λ x. next x >>= rest)
then_then (Ok x) next rest = refl
then_then (Err stop) next rest = refl

-- two readings that go on in the same way
pub same_then : {A C : Type 0} (reading : ReadAt A) (next other : A × ℕ → Result C Stop)
    → ((x : A × ℕ) → next x ≡ other x) → (reading >>= next) ≡ (reading >>= other)
same_then (Ok x) next other same = same x
same_then (Err stop) next other same = refl

-- ---- endpoint IDs

-- the rest after an endpoint ID
pub owner_ends : (owner : Owner) (draft : Draft) (bytes : List ℕ) (next : ℕ)
    → located bytes (owner_left owner draft bytes next)
    ≡ stage_left (after_eid owner) draft bytes next next
unfolding stage_left due_left timestamp_left
owner_ends owner.PreviousNode draft bytes next = refl
owner_ends owner.Security draft bytes next = refl
owner_ends owner.Report draft bytes next = refl

-- a part of an endpoint ID, and then the rest of it
pub by_eid-then : {A : Type 0} (owner : Owner) (draft : Draft) (bytes : List ℕ) (part : ReadAt A)
    (next : A × ℕ → ReadAt Eid)
    → by_eid owner draft bytes (part >>= next) ≡ (part >>= λ x. by_eid owner draft bytes (next x))
by_eid-then owner draft bytes (Ok x) next = refl
by_eid-then owner draft bytes (Err stop) next = refl

-- ---- names

-- some bytes of a name are left
pub some_left : (left : ℕ) (fits : Bool) → IsTrue (nat_lt 0 left && fits) → 0 < left
some_left left fits both = ltb-true 0 left (and_parts (nat_lt 0 left) fits both).0

-- the rest of a name, after more of its bytes
name_left-run : (name run : List ℕ) (left : ℕ) (bytes more : List ℕ) (offset : ℕ)
    → drop offset bytes ≡ run ++ more → length run ≤ left
    → name_left name left bytes offset
    ≡ name_left (name ++ run) (left - length run) bytes (offset + length run)
unfolding name_left
name_left-run name run left bytes more offset here fits =
    rw (bytes_at-run left bytes more run offset here fits)
    (with_run-then run (bytes_at (left - length run) bytes (offset + length run)) _ _
    (λ rest offset. rw (append_assoc name run rest) refl))

-- the rest at a name that begins with these bytes, by whether it is whole
by_eid-if : (whole : Bool) (owner : Owner) (draft : Draft) (name : List ℕ) (left : ℕ) (bytes : List ℕ)
    (next : ℕ) → next ≤ length bytes → (left == 0) ≡ whole
    → located bytes (by_eid owner draft bytes (name_left name left bytes next))
    ≡ stage_left (if whole then after_eid owner else Name owner left)
    (with_eid (Dtn (record { items = name })) draft) bytes next next
unfolding stage_left name_left
by_eid-if true owner draft name left bytes next within whole =
    let none : left ≡ 0 = eqb-true left 0 whole in
    let empty : bytes_at left bytes next ≡ Ok ([], next) =
    ap (λ (left : ℕ). bytes_at left bytes next) none ∙ bytes_at-none bytes next within in
    rw (empty, append-nil name)
    (owner_ends owner (with_eid (Dtn (record { items = name })) draft) bytes next)
by_eid-if false owner draft name left bytes next within whole = refl

pub name_begins : (owner : Owner) (draft : Draft) (name : List ℕ) (left : ℕ) (bytes : List ℕ)
    (next : ℕ) → next ≤ length bytes
    → located bytes (by_eid owner draft bytes (name_left name left bytes next))
    ≡ stage_left (name_due owner left) (with_eid (Dtn (record { items = name })) draft) bytes next
    next
name_begins owner draft name left bytes next within =
    by_eid-if (left == 0) owner draft name left bytes next within refl

-- a name, after more of its bytes
pub name_goes_on : (owner : Owner) (draft : Draft) (left : ℕ) (bytes more run : List ℕ)
    (head offset : ℕ)
    → drop offset bytes ≡ run ++ more → 0 < length run → length run ≤ left
    → stage_left (Name owner left) draft bytes head offset
    ≡ stage_left (name_due owner (left - length run))
    (with_eid (Dtn (record { items = name_of draft.eid ++ run })) draft) bytes
    (offset + length run) (offset + length run)
unfolding stage_left
name_goes_on owner draft left bytes more run head offset here some fits =
    ap (λ (reading : ReadAt Eid). located bytes (by_eid owner draft bytes reading))
    (name_left-run (name_of draft.eid) run left bytes more offset here fits)
    ∙ name_begins owner draft _ _ bytes _ (run_within bytes more run offset here some)
