-- A cutter and its history, after one more cut.
use Rattle.std.proofs.Common.{◌≡◌, ℕ, ◌+◌, ◌-◌, ◌*◌, ◌<◌, ◌≤◌, Bool, true, false, not, ltb, leb, eqb, cond, ◌&&◌, [], ◌∷◌, ◌++◌, length, take, drop, min, max, Option, Some, None, is_some, refl, ap, ap₂, subst, sym, ◌∙◌, arith}
use Rattle.std.specs.Bool.{OnTrue}
use Rattle.std.proofs.lemmas.List.{length-drop, length-take, length_push, take_min, drop_min, drop-drop, drop_all}
use Rattle.std.proofs.lemmas.{List.Elements.All-nil, Bool.{and_parts, eqb-true, false≢true, Decides.nat_tests}}
use Rattle.std.proofs.Math.Bool.{and-false, and-true}
use Rattle.link_wire.specs.Bytes.{IsByte}
use Rattle.link_transfer.specs.Chunks.{chunk_count, chunks, first_chunks}
use Rattle.link_transfer.specs.Cutting.{Cutting, beginning, due, due_of, announcement, is_first, is_last, next_chunk, next_cut, after_cut, without_chunk, uncut}
use Rattle.link_transfer.specs.Cutter.{IsCutterAt, IsLatestChunk, has_ready_chunk, kept_size}
use Rattle.link_transfer.specs.{Held.{is_last_of, announcement_of, cut_of}, declared.cut.Cut.Cut}
use Rattle.link_transfer.specs.declared.cutter.Cutter.{Cutter}
use Rattle.link_transfer.proofs.Chunking.{first_chunks-zero, first_chunks-push}
use Rattle.link_transfer.proofs.Due.{fits, byte_left, last_of}
use Rattle.link_transfer.proofs.Steps.{waits-at, next_cut-is, size_of}

-- the parts of the next cut, in numbers
last_is : (whole : Bool) (segment hold count size : ℕ) → 0 < segment
    → (whole ≡ true → count < due_of whole segment hold size)
    → is_last_of whole segment (size - count * segment)
    ≡ (whole && eqb (count + 1) (chunk_count segment size))
last_is whole segment hold count size some left =
    grind (arith, last_of segment count size some)

announced_is : (whole : Bool) (segment hold count size : ℕ)
    → announcement_of (ltb 0 count) whole segment hold (size - count * segment)
    ≡ cond (eqb count 0) (cond (whole && (ltb segment size && leb size hold)) (Some size) None) None
announced_is whole segment hold count size = grind (arith, nat_tests)

first_is : (count : ℕ) → not (ltb 0 count) ≡ eqb count 0
first_is count = grind (arith, nat_tests)

pub same_cut : (f g l m : Bool) (a b : Option ℕ) → f ≡ g → l ≡ m → a ≡ b
    → ◌≡◌ {A = Cut} (record { first = f; last = l; announce = a })
    (record { first = g; last = m; announce = b })
same_cut f g l m a b first last announce = cc

pub last-at : (cutter : Cutter) (so_far : Cutting) → IsCutterAt cutter so_far
    → is_last_of cutter.ended cutter.segment (length cutter.held.bytes) ≡ is_last so_far
unfolding due
last-at cutter so_far at =
    rw (at.ended, at.segment, size_of cutter so_far at)
    (last_is so_far.whole so_far.segment so_far.hold (length so_far.given) (length so_far.bundle) at.some at.left)

announced-at : (cutter : Cutter) (so_far : Cutting) → IsCutterAt cutter so_far
    → announcement_of cutter.begun cutter.ended cutter.segment cutter.hold (length cutter.held.bytes)
    ≡ cond (is_first so_far) (announcement so_far) None
unfolding announcement
announced-at cutter so_far at =
    rw (at.begun, at.ended, at.segment, at.hold, size_of cutter so_far at)
    (announced_is so_far.whole so_far.segment so_far.hold (length so_far.given) (length so_far.bundle))

waiting_test : (cutter : Cutter) (so_far : Cutting) (waiting : Bool) → IsCutterAt cutter so_far
    → has_ready_chunk cutter ≡ waiting
    → ltb (length so_far.given) (due so_far) ≡ waiting
waiting_test cutter so_far waiting at is = sym (next_cut-is so_far) ∙ sym (waits-at cutter so_far at) ∙ is

next_cut-some : (so_far : Cutting) → ltb (length so_far.given) (due so_far) ≡ true
    → next_cut so_far ≡ Some (record {
      first = is_first so_far;
      last = is_last so_far;
      announce = cond (is_first so_far) (announcement so_far) None;
    })
unfolding next_cut
next_cut-some so_far test = rw test refl

pub next_cut-at : (cutter : Cutter) (so_far : Cutting) → IsCutterAt cutter so_far
    → has_ready_chunk cutter ≡ true
    → Some (cut_of cutter.begun cutter.ended cutter.segment cutter.hold (length cutter.held.bytes))
    ≡ next_cut so_far
next_cut-at cutter so_far at waiting =
    ap (λ (cut : Cut). Some cut)
    (same_cut _ _ _ _ _ _ (ap not at.begun ∙ first_is (length so_far.given)) (last-at cutter so_far at) (announced-at cutter so_far at))
    ∙ sym (next_cut-some so_far (waiting_test cutter so_far true at waiting))

pub next_cut-none : (cutter : Cutter) (so_far : Cutting) → IsCutterAt cutter so_far
    → has_ready_chunk cutter ≡ false → None ≡ next_cut so_far
unfolding next_cut
next_cut-none cutter so_far at quiet = rw (waiting_test cutter so_far false at quiet) refl

-- the bytes given last are forgotten
pub IsCutterAt-unshown : (old new : Cutter) (so_far : Cutting)
    → new.segment ≡ old.segment → new.hold ≡ old.hold
    → new.held.given ≡ [] → new.held.bytes ≡ old.held.bytes → new.begun ≡ old.begun
    → new.ended ≡ old.ended
    → IsCutterAt old so_far → IsCutterAt new (without_chunk so_far)
unfolding due
IsCutterAt-unshown old new so_far segment hold given bytes begun ended at = record {
  some = at.some;
  segment = segment ∙ at.segment;
  hold = hold ∙ at.hold;
  bytes = at.bytes;
  given = at.given;
  few = at.few;
  left = at.left;
  held = bytes ∙ at.held;
  chunk = given;
  begun = begun ∙ at.begun;
  ended = ended ∙ at.ended;
  kept = omega (arith, ap length given, ap length bytes, at.kept);
}

-- a cut while no chunk is ready
pub IsCutterAt-forget : (old new : Cutter) (so_far : Cutting) → has_ready_chunk old ≡ false
    → new.segment ≡ old.segment → new.hold ≡ old.hold
    → new.held.given ≡ [] → new.held.bytes ≡ old.held.bytes → new.begun ≡ old.begun
    → new.ended ≡ old.ended
    → IsCutterAt old so_far → IsCutterAt new (after_cut so_far)
unfolding after_cut
IsCutterAt-forget old new so_far quiet segment hold given bytes begun ended at =
    rw (sym (next_cut-none old so_far at quiet))
    (IsCutterAt-unshown old new so_far segment hold given bytes begun ended at)

-- a chunk that is due has a byte
left_some : (whole : Bool) (segment hold count size : ℕ) → 0 < segment
    → count < due_of whole segment hold size → count * segment < size
left_some true segment hold count size some few = byte_left segment count size some few
left_some false segment hold count size some few =
    grind (arith, nat_tests, fits segment (count + 1) size some)

-- the changes by a cut that returns a chunk
pub record CutsChunk (old new : Cutter) (last : Bool) : Type 0 where
  pub segment : new.segment ≡ old.segment
  pub hold : new.hold ≡ old.hold
  pub given : new.held.given ≡ take (min old.segment (length old.held.bytes)) old.held.bytes
  pub bytes : new.held.bytes ≡ drop (min old.segment (length old.held.bytes)) old.held.bytes
  pub begun : new.begun ≡ not last
  pub ended : new.ended ≡ (old.ended && not last)

-- the bytes given last are the next chunk
chunk_given : (old new : Cutter) (so_far : Cutting) (last : Bool) → CutsChunk old new last
    → IsCutterAt old so_far
    → length so_far.given < due so_far → IsLatestChunk (Some (next_chunk so_far)) new.held.given
unfolding due
chunk_given old new so_far last gives at few =
    let left = uncut so_far in
    let within = left_some so_far.whole so_far.segment so_far.hold (length so_far.given) (length so_far.bundle) at.some few in
    let size = length-drop (length so_far.given * so_far.segment) so_far.bundle in (
      gives.given ∙ ap₂ (λ segment bytes. take (min segment (length bytes)) bytes) at.segment at.held ∙ take_min so_far.segment left,
      omega (arith, length-take so_far.segment left, at.some),
    )

rest_is : (old new : Cutter) (so_far : Cutting) (last : Bool) → CutsChunk old new last
    → IsCutterAt old so_far
    → new.held.bytes ≡ drop so_far.segment (uncut so_far)
rest_is old new so_far last gives at =
    gives.bytes ∙ ap₂ (λ segment bytes. drop (min segment (length bytes)) bytes) at.segment at.held ∙ drop_min so_far.segment (uncut so_far)

-- a cut keeps no more than was kept before
kept_after : (old new : Cutter) (so_far : Cutting) (last : Bool) → CutsChunk old new last
    → IsCutterAt old so_far
    → kept_size new ≤ max so_far.segment (so_far.hold + 1)
kept_after old new so_far last gives at =
    let count = min old.segment (length old.held.bytes) in
    omega (arith, ap length gives.given, ap length gives.bytes, length-take count old.held.bytes, length-drop count old.held.bytes, at.kept)

-- after the last chunk a bundle has had all its chunks
count_last : (so_far : Cutting) → is_last so_far ≡ true
    → length so_far.given + 1 ≡ chunk_count so_far.segment (length so_far.bundle)
count_last so_far is = eqb-true _ _ (and_parts so_far.whole _ is).1

-- a whole bundle has another chunk after each that is not the last
next_left : (so_far : Cutting) → is_last so_far ≡ false → so_far.whole ≡ true
    → length so_far.given < chunk_count so_far.segment (length so_far.bundle)
    → length (so_far.given ++ next_chunk so_far ∷ [])
    < due_of so_far.whole so_far.segment so_far.hold (length so_far.bundle)
next_left so_far is whole below =
    let apart = rw whole at is in
    let count = length_push so_far.given (next_chunk so_far) in
    rw whole (grind (arith, nat_tests))

with_next : (old new : Cutter) (so_far : Cutting) (last : Bool) → is_last so_far ≡ last
    → CutsChunk old new last → IsCutterAt old so_far
    → length so_far.given < due so_far
    → IsCutterAt new (cond last
    (record (beginning so_far.segment so_far.hold) { chunk = Some (next_chunk so_far) })
    (record so_far { given = so_far.given ++ next_chunk so_far ∷ []; chunk = Some (next_chunk so_far) }))
unfolding due
with_next old new so_far true is gives at few =
    let below : length so_far.given < chunk_count so_far.segment (length so_far.bundle) = omega (arith, count_last so_far is) in
    let size = length-drop (length so_far.given * so_far.segment) so_far.bundle in
    let all : length (uncut so_far) ≤ so_far.segment =
    grind (arith, nat_tests, last_of so_far.segment (length so_far.given) (length so_far.bundle) at.some below, count_last so_far is) in
    record {
      some = at.some;
      segment = gives.segment ∙ at.segment;
      hold = gives.hold ∙ at.hold;
      bytes = All-nil IsByte;
      given = sym (first_chunks-zero so_far.segment []);
      few = omega arith;
      left = λ whole. absurd (false≢true whole);
      held = rest_is old new so_far true gives at ∙ drop_all so_far.segment (uncut so_far) all ∙ sym (drop_all (0 * so_far.segment) [] (omega arith));
      chunk = chunk_given old new so_far true gives at few;
      begun = gives.begun;
      ended = gives.ended ∙ and-false old.ended;
      kept = kept_after old new so_far true gives at;
    }
with_next old new so_far false is gives at few =
    let count = length_push so_far.given (next_chunk so_far) in
    let shifted : length so_far.given * so_far.segment + so_far.segment ≡ (length so_far.given + 1) * so_far.segment = omega arith in
    let next : length so_far.given * so_far.segment + so_far.segment ≡ length (so_far.given ++ next_chunk so_far ∷ []) * so_far.segment =
    shifted ∙ ap (λ n. n * so_far.segment) (sym count) in
    let some : true ≡ ltb 0 (length (so_far.given ++ next_chunk so_far ∷ [])) = grind (arith, nat_tests) in
    record {
      some = at.some;
      segment = gives.segment ∙ at.segment;
      hold = gives.hold ∙ at.hold;
      bytes = at.bytes;
      given = first_chunks-push so_far.segment so_far.bundle so_far.given at.given;
      few = omega arith;
      left = λ whole. next_left so_far is whole (subst (λ w. length so_far.given < due_of w so_far.segment so_far.hold (length so_far.bundle)) whole few);
      held = rest_is old new so_far false gives at
          ∙ drop-drop so_far.segment (length so_far.given * so_far.segment) so_far.bundle
          ∙ ap (λ n. drop n so_far.bundle) next;
      chunk = chunk_given old new so_far false gives at few;
      begun = gives.begun ∙ some;
      ended = gives.ended ∙ and-true old.ended ∙ at.ended;
      kept = kept_after old new so_far false gives at;
    }

pub IsCutterAt-cut : (old new : Cutter) (so_far : Cutting) → has_ready_chunk old ≡ true
    → CutsChunk old new (is_last so_far) → IsCutterAt old so_far
    → IsCutterAt new (after_cut so_far)
unfolding after_cut
IsCutterAt-cut old new so_far waiting gives at =
    let test = waiting_test old so_far true at waiting in
    let some : is_some (next_cut so_far) ≡ true = next_cut-is so_far ∙ test in
    let few : length so_far.given < due so_far = grind (arith, nat_tests) in
    rw some (with_next old new so_far (is_last so_far) refl gives at few)

-- after the last chunk all chunks were cut
pub all_chunks : (cutter : Cutter) (so_far : Cutting) (last : Bool) → is_last so_far ≡ last
    → IsCutterAt cutter so_far
    → OnTrue last (so_far.given ++ next_chunk so_far ∷ [] ≡ chunks so_far.segment so_far.bundle)
unfolding chunks
all_chunks cutter so_far true is at =
    first_chunks-push so_far.segment so_far.bundle so_far.given at.given
    ∙ ap (λ count. first_chunks so_far.segment count so_far.bundle) (length_push so_far.given (next_chunk so_far) ∙ count_last so_far is)
all_chunks cutter so_far false is at = tt
