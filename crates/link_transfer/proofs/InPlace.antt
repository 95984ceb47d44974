-- A chunk that is cut where it lies: the cutter takes none of its bytes.
use Rattle.std.proofs.Common.{◌≡◌, ℕ, ◌<◌, ◌≤◌, Bool, true, false, not, List, [], ◌++◌, length, take, min, Some, None, refl, ap, ap₂, subst, sym, ◌∙◌, arith}
use Rattle.std.proofs.lemmas.{Bool.false≢true, Bool.Decides.nat_tests}
use Rattle.std.proofs.lemmas.List.{take_all, drop_all, nil_from_length}
use Rattle.link_wire.specs.Bytes.{AreBytes}
use Rattle.link_transfer.specs.Cutting.{Cutting, with_bytes, is_last, next_chunk, next_cut, after_cut, without_chunk}
use Rattle.link_transfer.specs.{Cutter.{IsCutterAt, has_ready_chunk}, Held.{waits, cut_of, is_chunk}}
use Rattle.link_transfer.specs.declared.{cut.Cut.Cut, cutter.Cutter.Cutter}
use Rattle.link_transfer.proofs.Giving.{CutsChunk, same_cut, next_cut-at, last-at, IsCutterAt-cut, IsCutterAt-unshown}
use Rattle.link_transfer.proofs.Steps.{IsCutterAt-push}

-- ---- the numbers of bytes that are exactly the next chunk

chunk_some : (begun last : Bool) (segment hold size : ℕ) → 0 < segment
    → is_chunk begun last segment hold size ≡ true → (0 < size) × (size ≤ segment)
chunk_some begun last segment hold size some is =
    (grind (arith, nat_tests), grind (arith, nat_tests))

chunk_waits : (begun last : Bool) (segment hold size : ℕ)
    → is_chunk begun last segment hold size ≡ true → waits begun last segment hold size ≡ true
chunk_waits begun last segment hold size is = grind (arith, nat_tests)

chunk_cut : (begun last : Bool) (segment hold size : ℕ) → size ≤ segment
    → cut_of begun last segment hold size
    ≡ record { first = not begun; last = last; announce = None }
chunk_cut begun last segment hold size few =
    same_cut _ _ _ _ _ _ refl (grind (arith, nat_tests)) (grind (arith, nat_tests))

-- ---- the history of the cutter

module _ (old : Cutter) (so_far : Cutting) (bytes : List ℕ) (last : Bool)
    (at : IsCutterAt old so_far) (quiet : has_ready_chunk old ≡ false) (none : length old.held.bytes ≡ 0)
    (are : AreBytes bytes) (is : is_chunk old.begun last old.segment old.hold (length bytes) ≡ true) where
  some : 0 < length bytes
  some = (chunk_some old.begun last old.segment old.hold (length bytes) old.some is).0

  few : length bytes ≤ old.segment
  few = (chunk_some old.begun last old.segment old.hold (length bytes) old.some is).1

  -- the history with these bytes
  abbrev now : Cutting
  now = with_bytes bytes last so_far

  -- the cutter as it would be if it had taken these bytes, and if it had then cut them
  abbrev taken : Cutter
  taken = record {
    held = record { room = old.held.room; given = []; bytes = bytes };
    segment = old.segment;
    hold = old.hold;
    begun = old.begun;
    ended = last;
    room = old.room;
    some = old.some;
    some_left = λ ended. some;
    hold_within = old.hold_within;
  }

  abbrev cut : Cutter
  cut = record {
    held = record { room = old.held.room; given = bytes; bytes = [] };
    segment = old.segment;
    hold = old.hold;
    begun = not last;
    ended = false;
    room = old.room;
    some = old.some;
    some_left = λ ended. absurd (false≢true ended);
    hold_within = old.hold_within;
  }

  taken_at : IsCutterAt taken now
  taken_at = IsCutterAt-push old taken so_far bytes last some are quiet
      (record {
        segment = refl;
        hold = refl;
        given = refl;
        bytes = sym (ap (λ held. held ++ bytes) (nil_from_length old.held.bytes none));
        begun = refl;
        ended = refl;
        room = omega (arith, none, few);
      }) at

  has_ready_chunk-true : has_ready_chunk taken ≡ true
  has_ready_chunk-true = chunk_waits old.begun last old.segment old.hold (length bytes) is

  pub here_cut : next_cut now ≡ Some (record { first = not old.begun; last = last; announce = None })
  here_cut = sym (next_cut-at taken now taken_at has_ready_chunk-true) ∙ ap (λ (cut : Cut). Some cut) (chunk_cut old.begun last old.segment old.hold (length bytes) few)

  pub here_chunk : next_chunk now ≡ bytes
  here_chunk = ap₂ (λ segment (left : List ℕ). take segment left) (sym taken_at.segment) (sym taken_at.held) ∙ take_all old.segment bytes few

  last_same : is_last now ≡ last
  last_same = sym (last-at taken now taken_at) ∙ ap (λ (cut : Cut). cut.last) (chunk_cut old.begun last old.segment old.hold (length bytes) few)

  gives : CutsChunk taken cut last
  gives = record {
    segment = refl;
    hold = refl;
    given = sym (take_all (min old.segment (length bytes)) bytes (omega (arith, few)));
    bytes = sym (drop_all (min old.segment (length bytes)) bytes (omega (arith, few)));
    begun = refl;
    ended = grind arith;
  }

  cut_at : IsCutterAt cut (after_cut now)
  cut_at = IsCutterAt-cut taken cut now has_ready_chunk-true (subst (CutsChunk taken cut) (sym last_same) gives) taken_at

  pub here_after : (new : Cutter) → new.segment ≡ old.segment → new.hold ≡ old.hold
      → new.held.given ≡ [] → length new.held.bytes ≡ 0 → new.begun ≡ not last → new.ended ≡ false
      → IsCutterAt new (without_chunk (after_cut now))
  here_after new segment hold given held begun ended =
      IsCutterAt-unshown cut new (after_cut now) segment hold given (nil_from_length new.held.bytes held) begun ended cut_at
