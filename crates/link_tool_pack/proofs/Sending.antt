-- The segments of a bundle while it comes, and what a cutter writes of them.
use Rattle.std.proofs.Common.{◌≡◌, ℕ, zero, suc, ◌+◌, ◌-◌, ◌*◌, ◌<◌, ◌≤◌, Bool, true, false, ltb, leb, eqb, cond, ◌&&◌, List, [], ◌∷◌, ◌++◌, length, take, drop, Option, Some, None, refl, ap, ap₂, sym, ◌∙◌, append-nil, append_assoc, length-append, arith, ◌==◌, OnOk, is_some, Result, Ok, Err}
use Rattle.std.proofs.lemmas.Bool.{le-ltb, ltb-true, ltb-false, eqb-true, eq-eqb, and_parts, cond-false, false_from_ne_true}
use Rattle.std.proofs.lemmas.Bool.Decides.{nat_tests}
use Rattle.std.proofs.lemmas.List.{take-append-le, drop-append-le, length-drop, length_push}
use Rattle.link_transfer.specs.Chunks.{chunk_at, chunk_count, first_chunks}
use Rattle.link_transfer.specs.Cutting.{beginning, with_bytes, due, due_of, announcement, Cutting, is_last, next_chunk, next_cut, after_cut, without_chunk, shown}
use Rattle.link_transfer.specs.declared.cut.Cut.{Cut}
use Rattle.link_transfer.proofs.Chunking.{first_chunks-zero}
use Rattle.link_transfer.proofs.Due.{fits_back, given_within, due_more}
use Rattle.link_tool_pack.specs.Segments.{segment_bytes, BundleToCut, cut_at, segments_from, segments_of, segments_left, all_given, going, flags_of, sending_of}
use Rattle.std.proofs.{Math.Seq.take-length, lemmas.Option.cond_some}
use Rattle.link_wire.specs.{Device.Output, Spelling.{list_bytes, segment_head_bytes}}
use Rattle.link_wire.specs.declared.IoFault.{IoFault}
use Rattle.link_writing.specs.Numbers.{be}
use Rattle.link_transfer.specs.{Cutter.{IsCutterAt, has_ready_chunk}, declared.cutter.Cutter.Cutter}
use Rattle.link_transfer.proofs.{Giving.next_cut-none, Steps.next_cut-is}
use Rattle.link_run.specs.Writers.{on_output, Writes, FailedWrite, AfterWrite}
use Rattle.link_run.specs.declared.writers.Writers.{Writers}
use Rattle.link_run.proofs.Runs.{writes_none, part_of_more, output_then}
use Rattle.link_tool_pack.specs.PackRun.{Sends}

-- ---- a due segment of an incomplete bundle stays the same

-- its chunk is full, so more bytes do not change it
chunk_kept : (segment k : ℕ) (bundle run : List ℕ) → k * segment + segment ≤ length bundle
    → chunk_at segment k bundle ≡ chunk_at segment k (bundle ++ run)
chunk_kept segment k bundle run within = sym
    (ap (take segment) (drop-append-le (k * segment) bundle run (omega arith))
    ∙ take-append-le segment (drop (k * segment) bundle) run (omega (arith, length-drop (k * segment) bundle)))

-- it is not the last segment
last_kept : (last : Bool) (segment k size more : ℕ) → 0 < segment → 0 < more
    → k * segment + segment ≤ size
    → false ≡ (last && eqb (k + 1) (chunk_count segment (size + more)))
last_kept false segment k size more some next within = refl
last_kept true segment k size more some next within =
    let room : (k + 2) * segment ≤ size + more + (segment - 1) = omega arith in
    grind (arith, nat_tests, fits_back segment (k + 2) (size + more + (segment - 1)) some room)

-- it announces no length
none_kept : (last : Bool) (segment hold size : ℕ) → hold < size
    → None ≡ cond (last && (ltb segment size && leb size hold)) (Some size) None
none_kept last segment hold size over = grind (arith, nat_tests)

-- the bytes that have come, and whether they are the whole bundle
abbrev sends : (segment hold : ℕ) (bundle : List ℕ) (last : Bool) → BundleToCut
sends segment hold bundle last = record { segment = segment; hold = hold; bundle = bundle; whole = last }

-- its cut stays the same
cut_kept : (segment hold : ℕ) (bundle run : List ℕ) (last : Bool) (k : ℕ)
    → 0 < segment → 0 < length run
    → hold < length bundle → k * segment + segment ≤ length bundle
    → cut_at (sends segment hold bundle false) k
    ≡ cut_at (sends segment hold (bundle ++ run) last) k
unfolding announcement
cut_kept segment hold bundle run last k some next over within =
    rw (
      length-append,
      ← last_kept last segment k (length bundle) (length run) some next within,
      ← none_kept last segment hold (length bundle + length run) (omega arith),
    ) refl

-- a chunk is due only if the bundle is too long to be announced
due_over : (segment hold size count : ℕ) → 0 < count → count ≤ due_of false segment hold size
    → hold < size
due_over segment hold size count some few = grind (arith, nat_tests)

-- due segments of the incomplete bundle, and then others once more bytes have come
grow_from : (id segment hold : ℕ) (bundle run : List ℕ) (last : Bool) (k count rest : ℕ)
    → 0 < segment → 0 < length run → k + count ≤ due_of false segment hold (length bundle)
    → segments_from id (sends segment hold bundle false) k count
    ++ segments_from id (sends segment hold (bundle ++ run) last) (k + count) rest
    ≡ segments_from id (sends segment hold (bundle ++ run) last) k (count + rest)
unfolding segments_from
grow_from id segment hold bundle run last k zero rest some next few =
    ap₂ (segments_from id (sends segment hold (bundle ++ run) last)) {y = k} {v = 0 + rest}
    (omega arith) (omega arith)
grow_from id segment hold bundle run last k (suc count) rest some next few =
    let now = sends segment hold (bundle ++ run) last in
    let size = length bundle in
    let over = due_over segment hold size (k + suc count) (omega arith) few in
    let full : k * segment + segment ≤ size =
    omega (arith, given_within segment hold (k + suc count) size some few) in
    let front = segments_from id (sends segment hold bundle false) (suc k) count in
    let first = segment_bytes id (cut_at now k) (chunk_at segment k (bundle ++ run)) in
    ap₂ (λ (cut : Cut) (chunk : List ℕ). (segment_bytes id cut chunk ++ front)
    ++ segments_from id now (k + suc count) rest)
    (cut_kept segment hold bundle run last k some next over full)
    (chunk_kept segment k bundle run full)
    ∙ append_assoc first front (segments_from id now (k + suc count) rest)
    ∙ ap (λ n. first ++ (front ++ segments_from id now n rest)) {y = suc k + count} (omega arith)
    ∙ ap (λ (more : List ℕ). first ++ more)
    (grow_from id segment hold bundle run last (suc k) count rest some next (omega arith))
    ∙ ap (segments_from id now k) {x = suc (count + rest)} (omega arith)

-- ---- an incomplete bundle, with all due chunks given

pub first_chunks-length : (segment count : ℕ) (bundle : List ℕ)
    → length (first_chunks segment count bundle) ≡ count
unfolding first_chunks
first_chunks-length segment zero bundle = refl
first_chunks-length segment (suc count) bundle =
    omega (arith, length_push (first_chunks segment count bundle) (chunk_at segment count bundle), first_chunks-length segment count bundle)

pub due_none : (segment hold : ℕ) → due_of false segment hold 0 ≡ 0
due_none segment hold = rw (le-ltb hold 0 (omega arith)) refl

-- before the first byte, no segment is due
pub segments_none : (id segment hold : ℕ)
    → segments_of id (record { segment = segment; hold = hold; bundle = []; whole = false }) ≡ []
unfolding segments_from due
segments_none id segment hold = rw (due_none segment hold) refl

pub open_none : (segment hold : ℕ) → going segment hold [] ≡ beginning segment hold
open_none segment hold = rw (due_none segment hold, first_chunks-zero segment []) refl

pub left_none : (id : ℕ) (sending : BundleToCut) (k due : ℕ) → k ≡ due
    → segments_from id sending k (due - k) ≡ []
unfolding segments_from
left_none id sending k due same =
    let none : due - k ≡ 0 = omega arith in
    rw none refl

-- no further segment is due until more bytes come
pub segments_idle : (id segment hold : ℕ) (bundle : List ℕ)
    → segments_left id (going segment hold bundle) ≡ []
unfolding due
segments_idle id segment hold bundle =
    let count = due_of false segment hold (length bundle) in
    left_none id (sends segment hold bundle false) (length (first_chunks segment count bundle)) count (first_chunks-length segment count bundle)

-- the segments so far, followed by those that become due with more bytes
pub segments_grow : (id segment hold : ℕ) (bundle run : List ℕ) (last : Bool)
    → 0 < segment → 0 < length run
    → segments_of id (record { segment = segment; hold = hold; bundle = bundle; whole = false })
    ++ segments_left id (with_bytes run last (going segment hold bundle))
    ≡ segments_of id (record { segment = segment; hold = hold; bundle = bundle ++ run; whole = last })
unfolding due
segments_grow id segment hold bundle [] last some next = absurd (omega arith)
segments_grow id segment hold bundle (byte ∷ bytes) last some next =
    let run = byte ∷ bytes in
    let before = due_of false segment hold (length bundle) in
    let after = due_of last segment hold (length (bundle ++ run)) in
    let more : before ≤ after = rw length-append (due_more last segment hold before (length bundle)
    (length run) some next (omega arith)) in
    let given : length (first_chunks segment before bundle) ≡ 0 + before =
    omega (arith, first_chunks-length segment before bundle) in
    let all : before + (after - (0 + before)) ≡ after = omega arith in
    rw (given, grow_from id _ hold bundle run last 0 before _ some next (omega arith), all) refl

-- ---- once all due chunks were given

pub all_given_open : (segment hold : ℕ) (bundle run : List ℕ)
    → all_given (with_bytes run false (going segment hold bundle))
    ≡ going segment hold (bundle ++ run)
unfolding due
all_given_open segment hold bundle [] = rw append-nil refl
all_given_open segment hold bundle (byte ∷ bytes) = refl

pub all_given_ended : (segment hold : ℕ) (bundle run : List ℕ) → 0 < length run
    → all_given (with_bytes run true (going segment hold bundle)) ≡ beginning segment hold
all_given_ended segment hold bundle [] next = absurd (omega arith)
all_given_ended segment hold bundle (byte ∷ bytes) next = refl

-- ---- chunks written as segments

-- the head of a segment, whose list is there only if it is the first
pub head_spelled : (id size : ℕ) (first last : Bool) (announce : Option ℕ)
    → segment_head_bytes (flags_of first last) id size announce
    ≡ (1 ∷ flags_of first last ∷ []) ++ be 8 id ++ list_bytes first announce ++ be 8 size
unfolding segment_head_bytes
head_spelled id size first last announce = grind arith

-- a fact that holds in any case
pub holds_if : {A E : Type 0} {P : Type 0} (result : Result A E) → P → OnOk result P
holds_if (Ok value) holds = holds
holds_if (Err fault) holds = tt

module _ {W E : Type 0} (out_look : W → Output) (report_look : E → Output) where
  pub part_more : (old new : Writers W E) (first second : List ℕ) (fault : IoFault)
      → FailedWrite out_look report_look old new (on_output first) fault
      → FailedWrite out_look report_look old new (on_output (first ++ second)) fault
  part_more old new first second fault part =
      part_of_more out_look report_look old new (on_output first) (on_output second) fault
      (λ none. absurd (omega arith)) part

-- ---- a cut

-- the segments left are the next one, and then the others
segment_then : (id : ℕ) (sending : BundleToCut) (k next due : ℕ) → k < due → k + 1 ≡ next
    → segments_from id sending k (due - k)
    ≡ segment_bytes id (cut_at sending k) (chunk_at sending.segment k sending.bundle)
    ++ segments_from id sending next (due - next)
unfolding segments_from
segment_then id sending k next due some is =
    let count : due - k ≡ suc (due - next) = omega arith in
    let step : suc k ≡ next = omega arith in
    rw (count, step) refl

-- what a cut of the next chunk leaves
record Leaves (id : ℕ) (now : Cutting) (cut : Cut) (after : Cutting) : Type 0 where
  pub left : segments_left id now ≡ segment_bytes id cut (next_chunk now) ++ segments_left id after
  pub ends : all_given after ≡ all_given now
  pub shows : shown after ≡ next_chunk now

-- the history of the cutter after the next cut; `last` is whether that chunk is the last
abbrev left_by : (last : Bool) → Cutting → Cutting
left_by last now =
    cond last (record (beginning now.segment now.hold) { chunk = Some (next_chunk now) })
    (record now { given = now.given ++ next_chunk now ∷ []; chunk = Some (next_chunk now) })

leaves_by : (id : ℕ) (now : Cutting) (last : Bool) → is_last now ≡ last → length now.given < due now
    → Leaves id now (cut_at (sending_of now) (length now.given)) (left_by last now)
unfolding due shown
leaves_by id now true is some =
    let count = length now.given in
    let sending = sending_of now in
    let parts = and_parts now.whole _ is in
    let all : count + 1 ≡ due now = rw parts.0 (eqb-true _ _ parts.1) in
    let none = due_none now.segment now.hold in
    record {
      left = segment_then id sending count (count + 1) (due now) some refl
          ∙ ap (λ (more : List ℕ). segment_bytes id (cut_at sending count) (next_chunk now) ++ more)
          (left_none id sending (count + 1) (due now) all
          ∙ sym (left_none id (sending_of (beginning now.segment now.hold)) 0 _ (sym none)));
      ends = rw (parts.0, none, first_chunks-zero now.segment []) refl;
      shows = refl;
    }
leaves_by id now false is some = record {
  left = segment_then id _ _ _ _ some (sym (length_push now.given (next_chunk now)));
  ends = refl;
  shows = refl;
}

after_is : (now : Cutting) (cut : Cut) → next_cut now ≡ Some cut
    → after_cut now ≡ left_by (is_last now) now
unfolding after_cut
after_is now cut is = rw is refl

-- the segment of a cut that waits is the first of those left
cut_leaves : (id : ℕ) (now : Cutting) (cut : Cut) → next_cut now ≡ Some cut
    → Leaves id now cut (after_cut now)
unfolding next_cut announcement
cut_leaves id now cut is =
    let waits = cond_some (ltb (length now.given) (due now))
    (cut_at (sending_of now) (length now.given)) cut is in
    rw (after_is now cut is, ← waits.1)
    (leaves_by id now (is_last now) refl (ltb-true (length now.given) (due now) waits.0))

-- if no cut waits, no segment is left, and all due chunks were given
idle : (id : ℕ) (cutter : Cutter) (now : Cutting) → IsCutterAt cutter now → next_cut now ≡ None
    → (segments_left id now ≡ []) × (without_chunk now ≡ all_given now)
idle id cutter now at is =
    let below = ltb-false (length now.given) (due now) (sym (next_cut-is now) ∙ ap is_some is) in
    let few = at.few in
    let all : length now.given ≡ due now = omega arith in
    let goes_on = false_from_ne_true now.whole (λ whole. absurd (omega (arith, at.left whole))) in
    let given = at.given ∙ ap (λ count. first_chunks now.segment count now.bundle) all in (
      left_none id (sending_of now) (length now.given) (due now) all,
      ap (λ (given : List (List ℕ)). record now { given = given; chunk = None }) given
          ∙ sym (cond-false now.whole _ _ goes_on),
    )

-- ---- one chunk that is cut where it lies, with no other ready

pub one_sent : {W E : Type 0} {out_look : W → Output} {report_look : E → Output} {id : ℕ}
    {now : Cutting} {cut : Cut} {chunk : List ℕ} {after : Cutter} {old new : Writers W E}
    {result : Result (Unit {0}) IoFault} → next_cut now ≡ Some cut → next_chunk now ≡ chunk
    → IsCutterAt after (without_chunk (after_cut now)) → has_ready_chunk after ≡ false
    → AfterWrite out_look report_look old new (on_output (segment_bytes id cut chunk)) result
    → Sends out_look report_look id now old new after result
unfolding due
one_sent {id = id} {now = now} {cut = cut} {after = after} {result = result}
    is same at quiet wrote =
    let rest = idle id after _ at (sym (next_cut-none after _ at quiet)) in
    let leaves = cut_leaves id now cut is in
    record {
      wrote = rw (leaves.left, same, rest.0, append-nil) wrote;
      after = holds_if result (rw (sym leaves.ends, sym rest.1) at);
    }

-- the cutter took a whole run
pub run_pushed : (cutter : Cutter) (so_far : Cutting) (run : List ℕ) (count : ℕ) (last : Bool)
    → count ≡ length run
    → IsCutterAt cutter (with_bytes (take count run) (last && count == length run) so_far)
    → IsCutterAt cutter (with_bytes run last so_far)
run_pushed cutter so_far run count last counted pushed =
    rw (counted, take-length, ends last) at pushed
  where
    ends : (last : Bool) → (last && length run == length run) ≡ last
    ends true = eq-eqb (length run) (length run) refl
    ends false = refl

-- ---- the cuts of a cutter, one after another

module _ {W E : Type 0} (out_look : W → Output) (report_look : E → Output) where
  -- some segments were written; once the others are, all that were left at the start are
  pub record Sent (id : ℕ) (start : Cutting) (old new : Writers W E)
      (cutter : Cutter) : Type 0 where
    pub now : Cutting
    pub at : IsCutterAt cutter now
    pub then_all : (last : Writers W E) (result : Result (Unit {0}) IoFault)
        → AfterWrite out_look report_look new last (on_output (segments_left id now)) result
        → AfterWrite out_look report_look old last (on_output (segments_left id start)) result
    pub ends : all_given now ≡ all_given start

  module _ {id : ℕ} {start : Cutting} {old mid : Writers W E} {before : Cutter}
      (some : Sent id start old mid before) where
    -- the next cut waits
    module _ (cut : Cut) (chunk : List ℕ) (new : Writers W E) (after : Cutter)
        (is : next_cut some.now ≡ Some cut) (same : chunk ≡ shown (after_cut some.now)) where
      left : segment_bytes id cut chunk ++ segments_left id (after_cut some.now)
          ≡ segments_left id some.now
      left =
          let leaves = cut_leaves id some.now cut is in
          rw (same, leaves.shows, leaves.left) refl

      pub sent_more : IsCutterAt after (after_cut some.now)
          → Writes out_look report_look mid new (on_output (segment_bytes id cut chunk))
          → Sent id start old new after
      sent_more at writes = record {
        now = after_cut some.now;
        at = at;
        then_all = λ last result wrote. some.then_all last result
            (rw (← left)
            (output_then out_look report_look mid new last (segment_bytes id cut chunk)
            (on_output (segments_left id (after_cut some.now))) result writes wrote));
        ends = (cut_leaves id some.now cut is).ends ∙ some.ends;
      }

      -- a writer failed in a segment
      pub sent_part : (fault : IoFault)
          → FailedWrite out_look report_look mid new (on_output (segment_bytes id cut chunk)) fault
          → Sends out_look report_look id start old new after (Err fault)
      sent_part fault part = record {
        wrote = some.then_all new (Err fault) (rw (← left)
            (part_more out_look report_look mid new (segment_bytes id cut chunk)
            (segments_left id (after_cut some.now)) fault part));
        after = tt;
      }

    -- all segments that were left are written
    pub sent_all : (after : Cutter) → next_cut some.now ≡ None
        → IsCutterAt after (after_cut some.now)
        → Sends out_look report_look id start old mid after (Ok tt)
    unfolding after_cut
    sent_all after is at =
        let rest = idle id before some.now some.at is in
        record {
          wrote = some.then_all mid (Ok tt) (rw rest.0 (writes_none out_look report_look mid));
          after = rw (sym (rest.1 ∙ some.ends)) (rw is at at);
        }
