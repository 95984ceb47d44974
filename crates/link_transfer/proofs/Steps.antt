-- A cutter and its history, after one more step.
use Rattle.std.proofs.Common.{◌≡◌, ℕ, ◌+◌, ◌-◌, ◌*◌, ◌<◌, ◌≤◌, max, Bool, true, false, ltb, List, [], ◌∷◌, ◌++◌, length, Option, Some, None, is_some, refl, ap, subst, sym, ◌∙◌, arith}
use Rattle.std.proofs.lemmas.{List.Elements.{All-nil, All-append}, Bool.{false≢true, or_parts}}
use Rattle.link_wire.specs.Bytes.{IsByte, AreBytes}
use Rattle.std.specs.Bool.{OnFalse}
use Rattle.std.proofs.lemmas.Bool.Decides.{nat_tests}
use Rattle.std.proofs.lemmas.List.{length-drop, length-append, drop-append-le, drop_all}
use Rattle.link_transfer.specs.Cutting.{Cutting, beginning, due, due_of, next_cut, with_bytes, shown_by}
use Rattle.link_transfer.specs.{Cutter.{IsCutterAt, IsLatestChunk, has_ready_chunk}, Held.waits}
use Rattle.link_transfer.specs.declared.cutter.Cutter.{Cutter}
use Rattle.link_transfer.proofs.Chunking.{first_chunks-zero, first_chunks-append}
use Rattle.link_transfer.proofs.Due.{waits_as_due, given_within, due_more, chunk_left}

-- a chunk is ready if fewer chunks were cut than are due
pub next_cut-is : (so_far : Cutting)
    → is_some (next_cut so_far) ≡ ltb (length so_far.given) (due so_far)
unfolding next_cut
next_cut-is so_far = grind arith

-- the bytes held are those of the bundle without those of the chunks that were cut
pub size_of : (cutter : Cutter) (so_far : Cutting) → IsCutterAt cutter so_far
    → length cutter.held.bytes ≡ length so_far.bundle - length so_far.given * so_far.segment
size_of cutter so_far at = ap length at.held ∙ length-drop (length so_far.given * so_far.segment) so_far.bundle

pub waits-at : (cutter : Cutter) (so_far : Cutting) → IsCutterAt cutter so_far
    → has_ready_chunk cutter ≡ is_some (next_cut so_far)
unfolding due
waits-at cutter so_far at =
    rw (at.begun, at.ended, at.segment, at.hold, size_of cutter so_far at)
    (sym (next_cut-is so_far ∙ waits_as_due so_far.whole so_far.segment so_far.hold (length so_far.given) (length so_far.bundle) at.some at.few at.left))

-- if no chunk is ready, all chunks that are due were cut
pub all_given : (waiting : Bool) (cutter : Cutter) (so_far : Cutting) → IsCutterAt cutter so_far
    → waiting ≡ has_ready_chunk cutter
    → OnFalse waiting (length so_far.given ≡ due so_far)
all_given true cutter so_far at is = tt
all_given false cutter so_far at is =
    let none : ltb (length so_far.given) (due so_far) ≡ false = sym (is ∙ waits-at cutter so_far at ∙ next_cut-is so_far) in
    let few = at.few in
    grind (arith, nat_tests)

-- the bytes shown are the chunk of the last cut, which is not empty, or else the bytes held
pub shown_left : (chunk : Option (List ℕ)) (given left : List ℕ) → IsLatestChunk chunk given
    → length given ≡ 0 → left ≡ shown_by chunk left
shown_left None given left is none = refl
shown_left (Some chunk) given left is none = absurd (omega (arith, is.1, ap length is.0))

pub shown_chunk : (chunk : Option (List ℕ)) (given left : List ℕ) → IsLatestChunk chunk given
    → 0 < length given → given ≡ shown_by chunk left
shown_chunk None given left is some = absurd (omega (arith, ap length is))
shown_chunk (Some chunk) given left is some = is.0

-- a cutter with no chunk ready has an incomplete bundle
pub not_ended : (cutter : Cutter) → has_ready_chunk cutter ≡ false → cutter.ended ≡ false
not_ended cutter quiet = (or_parts cutter.ended _ quiet).0

pub goes_on : (cutter : Cutter) (so_far : Cutting) → IsCutterAt cutter so_far
    → has_ready_chunk cutter ≡ false → so_far.whole ≡ false
goes_on cutter so_far at quiet = sym at.ended ∙ not_ended cutter quiet

-- a cutter that holds nothing is at the beginning
pub IsCutterAt-new : (cutter : Cutter) (segment hold : ℕ) → 0 < segment → cutter.segment ≡ segment
    → cutter.hold ≡ hold
    → cutter.held.given ≡ [] → cutter.held.bytes ≡ [] → cutter.begun ≡ false → cutter.ended ≡ false
    → IsCutterAt cutter (beginning segment hold)
IsCutterAt-new cutter segment hold some same_segment same_hold given bytes begun ended = record {
  some = some;
  segment = same_segment;
  hold = same_hold;
  bytes = All-nil IsByte;
  given = sym (first_chunks-zero segment []);
  few = omega arith;
  left = λ whole. absurd (false≢true whole);
  held = bytes ∙ sym (drop_all (0 * segment) [] (omega arith));
  chunk = given;
  begun = begun;
  ended = ended;
  kept = omega (arith, ap length given, ap length bytes);
}

-- while no chunk is ready, there is room for one more byte
pub quiet_room : (begun ended : Bool) (segment hold size : ℕ)
    → waits begun ended segment hold size ≡ false
    → size + 1 ≤ max segment (hold + 1)
quiet_room begun ended segment hold size quiet = grind (arith, nat_tests)

-- the changes by a push
pub record Pushes (old new : Cutter) (pushed : List ℕ) (last : Bool) : Type 0 where
  pub segment : new.segment ≡ old.segment
  pub hold : new.hold ≡ old.hold
  pub given : new.held.given ≡ []
  pub bytes : new.held.bytes ≡ old.held.bytes ++ pushed
  pub begun : new.begun ≡ old.begun
  pub ended : new.ended ≡ last
  pub room : length old.held.bytes + length pushed ≤ max old.segment (old.hold + 1)

pub IsCutterAt-push : (old new : Cutter) (so_far : Cutting) (pushed : List ℕ) (last : Bool)
    → 0 < length pushed → AreBytes pushed
    → has_ready_chunk old ≡ false → Pushes old new pushed last → IsCutterAt old so_far
    → IsCutterAt new (with_bytes pushed last so_far)
unfolding due
IsCutterAt-push old new so_far [] last some are quiet pushes at = absurd (omega arith)
IsCutterAt-push old new so_far (byte ∷ bytes) last some are quiet pushes at =
    let size = length so_far.bundle in
    let count = length so_far.given in
    let more = length (byte ∷ bytes) in
    let going = goes_on old so_far at quiet in
    let few : count ≤ due_of false so_far.segment so_far.hold size = subst (λ whole. count ≤ due_of whole so_far.segment so_far.hold size) going at.few in
    let within = given_within so_far.segment so_far.hold count size at.some few in
    let joined = length-append so_far.bundle (byte ∷ bytes) in
    record {
      some = at.some;
      segment = pushes.segment ∙ at.segment;
      hold = pushes.hold ∙ at.hold;
      bytes = All-append IsByte so_far.bundle (byte ∷ bytes) at.bytes are;
      given = at.given ∙ sym (first_chunks-append so_far.segment count so_far.bundle (byte ∷ bytes) within);
      few = rw joined (due_more last so_far.segment so_far.hold count size more at.some (omega arith) few);
      left = λ whole. rw (whole, joined) (chunk_left so_far.segment count (size + more) at.some (omega arith));
      held = pushes.bytes ∙ ap (λ held. held ++ byte ∷ bytes) at.held
          ∙ sym (drop-append-le (count * so_far.segment) so_far.bundle (byte ∷ bytes) within);
      chunk = pushes.given;
      begun = pushes.begun ∙ at.begun;
      ended = pushes.ended;
      kept = rw (sym at.segment, sym at.hold)
          (omega (arith, ap length pushes.given, ap length pushes.bytes, length-append old.held.bytes (byte ∷ bytes), pushes.room));
    }
