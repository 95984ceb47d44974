-- Bytes pushed at once, and one at a time.
use Rattle.std.proofs.Common.{◌≡◌, ℕ, zero, suc, ◌+◌, ◌-◌, ◌*◌, ◌<◌, ◌≤◌, Bool, true, false, ltb, leb, eqb, ◌&&◌, List, [], ◌∷◌, length, take, min, is_some, refl, ap, subst, sym, ◌∙◌, arith}
use Rattle.std.proofs.{lemmas.{List.{append_assoc, length_push}, Bool.false≢true}, Math.Bool.and-false}
use Rattle.std.proofs.lemmas.Bool.Decides.{nat_tests}
use Rattle.link_transfer.specs.Cutting.{Cutting, due, due_of, next_cut, with_bytes, with_each}
use Rattle.link_transfer.specs.{Cutter.{IsCutterAt, has_ready_chunk}, Held.{waits, wanted_size}}
use Rattle.link_transfer.specs.declared.cutter.Cutter.{Cutter}
use Rattle.link_transfer.proofs.Due.{waits_as_due, given_within, due_more, wanted_some, waits_when_wanted}
use Rattle.link_transfer.proofs.Steps.{next_cut-is, goes_on, waits-at, size_of}

-- the bundle is incomplete, and no chunk is ready
pub record Quiet (so_far : Cutting) : Type 0 where
  pub some : 0 < so_far.segment
  pub going : so_far.whole ≡ false
  pub few : length so_far.given ≤ due_of false so_far.segment so_far.hold (length so_far.bundle)
  pub none : ltb (length so_far.given)
      (due_of false so_far.segment so_far.hold (length so_far.bundle)) ≡ false

-- the number of bytes held, and the number of bytes needed
abbrev held : Cutting → ℕ
held so_far = length so_far.bundle - length so_far.given * so_far.segment

abbrev pub wanted : Cutting → ℕ
wanted so_far = wanted_size (ltb 0 (length so_far.given)) so_far.segment so_far.hold (held so_far)

wanted_first : (so_far : Cutting) → Quiet so_far → 0 < wanted so_far
wanted_first so_far quiet =
    wanted_some (ltb 0 (length so_far.given)) so_far.segment so_far.hold (held so_far)
    (sym (waits_as_due false so_far.segment so_far.hold (length so_far.given) (length so_far.bundle) quiet.some quiet.few (λ is. absurd (false≢true is)))
    ∙ quiet.none)
    quiet.some

-- one more byte of the bundle
abbrev after_byte : ℕ → Bool → Cutting → Cutting
after_byte byte flag so_far = with_bytes (byte ∷ []) flag so_far

held_after : (byte : ℕ) (flag : Bool) (so_far : Cutting) → Quiet so_far
    → held (after_byte byte flag so_far) ≡ held so_far + 1
held_after byte flag so_far quiet =
    let size = length_push so_far.bundle byte in
    let within = given_within so_far.segment so_far.hold (length so_far.given) (length so_far.bundle) quiet.some quiet.few in
    omega arith

few_after : (byte : ℕ) (flag : Bool) (so_far : Cutting) → Quiet so_far
    → length so_far.given
    ≤ due_of false so_far.segment so_far.hold (length (after_byte byte flag so_far).bundle)
few_after byte flag so_far quiet =
    rw length_push (due_more false so_far.segment so_far.hold (length so_far.given) (length so_far.bundle) 1 quiet.some (omega arith) quiet.few)

-- whether a chunk is ready after it
due_after : (byte : ℕ) (flag : Bool) (so_far : Cutting) → Quiet so_far
    → ltb (length so_far.given)
    (due_of false so_far.segment so_far.hold (length (after_byte byte flag so_far).bundle))
    ≡ leb (wanted so_far) 1
due_after byte flag so_far quiet =
    waits_as_due false so_far.segment so_far.hold (length so_far.given) (length (after_byte byte flag so_far).bundle) quiet.some
    (few_after byte flag so_far quiet) (λ is. absurd (false≢true is))
    ∙ ap (waits (ltb 0 (length so_far.given)) false so_far.segment so_far.hold) (held_after byte flag so_far quiet)
    ∙ waits_when_wanted (ltb 0 (length so_far.given)) so_far.segment so_far.hold (held so_far)

cut_after : (byte : ℕ) (flag : Bool) (so_far : Cutting) → Quiet so_far → flag ≡ false
    → is_some (next_cut (after_byte byte flag so_far)) ≡ leb (wanted so_far) 1
unfolding due
cut_after byte flag so_far quiet going =
    next_cut-is (after_byte byte flag so_far)
    ∙ ap (λ whole. ltb (length so_far.given) (due_of whole so_far.segment so_far.hold (length (after_byte byte flag so_far).bundle))) going
    ∙ due_after byte flag so_far quiet

quiet_after : (byte : ℕ) (flag : Bool) (so_far : Cutting) → Quiet so_far → flag ≡ false
    → leb (wanted so_far) 1 ≡ false
    → Quiet (after_byte byte flag so_far)
quiet_after byte flag so_far quiet going more = record {
  some = quiet.some;
  going = going;
  few = few_after byte flag so_far quiet;
  none = due_after byte flag so_far quiet ∙ more;
}

wanted_after : (byte : ℕ) (flag : Bool) (so_far : Cutting) → Quiet so_far
    → wanted (after_byte byte flag so_far) ≡ wanted so_far - 1
wanted_after byte flag so_far quiet = omega (arith, held_after byte flag so_far quiet)

eqb-suc : (a b : ℕ) → eqb (suc a) (suc b) ≡ eqb a b
eqb-suc a b = grind (arith, nat_tests)

-- Pushing as many bytes as are needed, or all, is pushing these bytes one at a time.
pub with_each-is : (bytes : List ℕ) (last : Bool) (so_far : Cutting) (count : ℕ)
    → 0 < length bytes → Quiet so_far
    → count ≡ min (wanted so_far) (length bytes)
    → with_bytes (take count bytes) (last && eqb count (length bytes)) so_far
    ≡ with_each bytes last so_far
unfolding with_each
with_each-is [] last so_far count some quiet is = absurd (omega arith)
with_each-is (byte ∷ bytes) last so_far zero some quiet is =
    absurd (omega (arith, wanted_first so_far quiet))
with_each-is (byte ∷ []) last so_far (suc count) some quiet is =
    let none : count ≡ 0 = omega arith in rw none (grind arith)
with_each-is (byte ∷ next ∷ bytes) last so_far (suc zero) some quiet is =
    let test : leb (wanted so_far) 1 ≡ true = grind (arith, nat_tests) in
    let more : eqb 1 (length (byte ∷ next ∷ bytes)) ≡ false = grind (arith, nat_tests) in
    rw (more, cut_after byte (last && false) so_far quiet (and-false last), test)
with_each-is (byte ∷ next ∷ bytes) last so_far (suc (suc count)) some quiet is =
    let test : leb (wanted so_far) 1 ≡ false = grind (arith, nat_tests) in
    let after = after_byte byte (last && false) so_far in
    let left : suc count ≡ min (wanted after) (length (next ∷ bytes)) =
    omega (arith, wanted_after byte (last && false) so_far quiet) in
    rw (
      eqb-suc (suc count) (length (next ∷ bytes)),
      cut_after byte (last && false) so_far quiet (and-false last),
      test,
      ← with_each-is (next ∷ bytes) last after (suc count) (omega arith)
          (quiet_after byte (last && false) so_far quiet (and-false last) test) left,
      append_assoc,
    )

pub with_each-none : (bytes : List ℕ) (last : Bool) (so_far : Cutting) → length bytes ≡ 0
    → so_far ≡ with_each bytes last so_far
unfolding with_each
with_each-none [] last so_far none = refl
with_each-none (byte ∷ bytes) last so_far none = absurd (omega arith)

-- the history of a cutter with no chunk ready
pub Quiet-at : (cutter : Cutter) (so_far : Cutting) → IsCutterAt cutter so_far
    → has_ready_chunk cutter ≡ false → Quiet so_far
unfolding due
Quiet-at cutter so_far at quiet =
    let going = goes_on cutter so_far at quiet in
    let count = length so_far.given in
    let size = length so_far.bundle in
    record {
      some = at.some;
      going = going;
      few = subst (λ whole. count ≤ due_of whole so_far.segment so_far.hold size) going at.few;
      none = ap (λ whole. ltb count (due_of whole so_far.segment so_far.hold size)) (sym going)
          ∙ sym (next_cut-is so_far) ∙ sym (waits-at cutter so_far at) ∙ quiet;
    }

pub wanted-at : (cutter : Cutter) (so_far : Cutting) → IsCutterAt cutter so_far
    → wanted_size cutter.begun cutter.segment cutter.hold (length cutter.held.bytes) ≡ wanted so_far
wanted-at cutter so_far at = rw (at.begun, at.segment, at.hold, size_of cutter so_far at) refl

pub wanted_some-at : (cutter : Cutter) (so_far : Cutting) → IsCutterAt cutter so_far
    → has_ready_chunk cutter ≡ false
    → 0 < wanted_size cutter.begun cutter.segment cutter.hold (length cutter.held.bytes)
wanted_some-at cutter so_far at quiet = omega (arith, wanted_first so_far (Quiet-at cutter so_far at quiet), wanted-at cutter so_far at)
