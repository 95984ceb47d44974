use Rattle.std.proofs.Common.{◌≡◌, ℕ, ◌+◌, ◌-◌, ◌^◌, ◌≤◌, min, Bool, true, false, List, [], ◌∷◌, length, if◌then◌else◌, refl, ap, ◌∙◌, subst, append-nil, arith}
use Rattle.std.proofs.lemmas.Bool.{false≢true}
use Rattle.link_run.specs.Writers.{on_output}
use Rattle.link_run_over_transfers.specs.Walk.{WalkEvent, is_beginning}
use Rattle.link_run_over_transfers.specs.Telling.{MayCome, data_ends, viewed_events}
use Rattle.link_run_over_transfers.specs.declared.consumer.EventView.{EventView}
use Rattle.link_run_over_transfers.specs.Saying.{kept_after, keeps_telling, said_from}
use Rattle.example_library.specs.Counting.{line_if, sizes}
use Rattle.example_library.proofs.counting.CountingConsumer.event.Goals as goal
use Rattle.example_library.proofs.counting.CountingConsumer.event.Goals.{in-Contact, in-Head, then-begins, else-begins, in-Data, in-Inner, in-LeftOpen}

-- this is said of these events, and this is the size after them
abbrev Counts : ℕ → List WalkEvent → Bool → ℕ → Type 0
Counts size added whole later =
    (on_output (line_if whole later) ≡ said_from sizes size added)
    × (later ≡ kept_after sizes size added)

data_counts : (bytes : List ℕ) (whole : Bool) (size later : ℕ) → size ≤ 2 ^ 64 - 1
    → later ≡ min (size + length bytes) (2 ^ 64 - 1)
    → Counts size (data_ends bytes whole) whole later
data_counts [] true size later fits is =
    let same : later ≡ size = omega (arith, fits, is) in rw same (rw append-nil refl, refl)
data_counts [] false size later fits is = (refl, omega (arith, fits, is))
data_counts (byte ∷ bytes) whole size later fits is =
    data_counts bytes whole (min (size + 1) (2 ^ 64 - 1)) later (omega arith) (omega (arith, is))

pub returns : goal.returns
returns g c = λ before known may.
    let now = c.args.self.now.size in
    let counts : Counts now (viewed_events c.args.event) c.match-event.whole c.match-event.self.size =
    elim c.match-event.branch [
      | in-Contact w ↦ rw (w.in-Contact.is, w.self-is, w.whole-is) (refl, refl)
      | in-Head w ↦
          let size : w.if-begins.self.size ≡ (if is_beginning w.in-Head.head.turn then 0 else now) =
          elim w.if-begins.branch [
            | then-begins w' ↦ rw (w'.self-is, ← w.begins.ensures, w'.if-begins.true) refl
            | else-begins w' ↦ rw (w'.self-is, ← w.begins.ensures, w'.if-begins.false) refl
          ] in
          rw (w.in-Head.is, w.self-is, w.whole-is, w.closes-whole.ensures, size)
          (rw append-nil refl, refl)
      | in-Data w ↦ rw (w.in-Data.is, w.self-is, w.whole-is)
          (data_counts w.in-Data.bytes.now w.in-Data.whole now _ (omega arith)
          w.saturating_add-self.ensures)
      | in-Inner w ↦
          let M : EventView → Type 0 = MayCome (record { goes_on = true; all_heads = false }) before in
          absurd (false≢true (subst M w.in-Inner.is may).told)
      | in-LeftOpen w ↦ rw (w.in-LeftOpen.is, w.self-is, w.whole-is) (refl, refl)
    ] in
    keeps_telling sizes _ _ _ before _ _ _ now _ _ _ known c.write_output.ensures.gives
    (ap on_output (c.deref.ensures.0 ∙ c.line_if.ensures) ∙ counts.0) counts.1
