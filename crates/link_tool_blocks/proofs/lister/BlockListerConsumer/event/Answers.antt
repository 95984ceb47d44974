use Rattle.std.proofs.Common.{◌≡◌, ℕ, Bool, Option, ◌+◌, ◌<◌, ◌≤◌, ◌^◌, ◌&&◌, not, length, List, true, Err, refl, ap, sym, ◌∙◌, append-nil, arith}
use Rattle.std.proofs.lemmas.Bool.{false≢true}
use Rattle.link_run.specs.{Run.{no_texts, ◌then◌}, Writers.{on_output, on_report}}
use Rattle.link_run.proofs.Runs.{writes_none, part_of_more, output_then}
use Rattle.link_run_over_transfers.specs.Walk.{WalkEvent, ContactHeader, LeftOpen, abandons, closes, has_open}
use Rattle.link_run_over_transfers.specs.Telling.{HeadComes, viewed_head}
use Rattle.link_transfer.specs.declared.joiner.Turn.{Turn}
use Rattle.link_run_judge.specs.Transfers.{Transfer}
use Rattle.link_run_judge.specs.Unpacking.{order_line, good_due, transfers_at, told_after}
use Rattle.link_run_judge.proofs.{Counts.on_ok, Effects.comes_does}
use Rattle.link_run_over_bundle_files.proofs.Told.{told_then, told_part}
use Rattle.link_tool_blocks.specs.{Lister.{IsBlockListerAt, end_due}, Showing.unpacking_by}
use Rattle.link_tool_blocks.specs.declared.lister.BlockLister.{BlockLister}
use Rattle.link_tool_blocks.specs.declared.transfer.TransferBlocks.{TransferBlocks}
use Rattle.link_tool_blocks.proofs.Ended.{ended_lines}
use Rattle.link_tool_blocks.proofs.Told.{AtHead, abandons_at, at, at_head, data_known, data_latest, data_tells, data_transfers, head_known, head_tells, known, tells}
use Rattle.link_tool_blocks.proofs.lister.BlockListerConsumer.event.Given.{Over}
use Rattle.link_tool_blocks.proofs.lister.BlockListerConsumer.event.Goals as goal
use Rattle.link_tool_blocks.proofs.lister.BlockListerConsumer.event.Goals.{After-show_end-in-Head, then-begins, else-begins}

pub returns-in-Contact : goal.returns-in-Contact
returns-in-Contact g c = rw c.in-Contact.is (λ before knows none.
    let options = c.args.options.now in
    let event = ContactHeader c.in-Contact.field-0.now in
    tells options before event c.args.self.now no_texts (sym (append-nil _)) refl
    (writes_none _ _ _)
    (known options before event c.args.self.now knows.size knows.good knows.at_open))

-- ---- a head

pub returns-in-Err : goal.returns-in-Err
returns-in-Err g c = rw c.in-Head.is (λ before knows comes.
    let options = c.args.options.now in
    let head = viewed_head c.in-Head.head in
    let transfers = (told_after (unpacking_by options) before).transfers in
    let later = transfers_at head.turn transfers head.message in
    let abandoned = λ (some : c.abandons.result ≡ true).
    abandons_at options before head comes knows (sym c.abandons.ensures ∙ some) in
    head_tells options before head comes c.show_end.new.lister
    (part_of_more _ _ _ _ (on_output (end_due options.only (abandons head.turn) transfers))
    (on_output (end_due options.only (closes head) later) then on_report (order_line head.offset head.fault))
    c.in-Err.fault (λ some. absurd (omega arith))
    (rw (← c.abandons.ensures) (c.in-Err.ensures.gives transfers abandoned))) tt)

-- the latest transfer after the head, which may have begun it
record IsLatestBegun (only : Option ℕ) (now : BlockLister) (transfers : List Transfer)
    (effect : Option Turn) (closing opened : Bool) (most : ℕ) (was : Bool) : Type 0 where
  at : AtHead only now.latest transfers effect closing opened
  size : now.latest.judge.size ≤ most
  good : now.good ≡ was

begun : (g : Over) (c : After-show_end-in-Head g) (before : List WalkEvent)
    → IsBlockListerAt c.args.options.now c.args.self.now before
    → HeadComes before (viewed_head c.in-Head.head)
    → IsLatestBegun c.args.options.now.only c.if-begins.self
    (transfers_at c.in-Head.head.turn
    (told_after (unpacking_by c.args.options.now) before).transfers
    (viewed_head c.in-Head.head).message)
    c.in-Head.head.turn (closes (viewed_head c.in-Head.head)) (has_open before)
    c.args.self.now.latest.judge.size c.show_end.new.lister.good
begun g c before knows comes =
    let options = c.args.options.now in
    let head = viewed_head c.in-Head.head in
    let old = c.args.self.now.latest in
    let same = c.show_end.ensures.latest in
    let size : TransferBlocks → ℕ = λ l. l.judge.size in
    let transfers = (told_after (unpacking_by options) before).transfers in
    let act = comes_does before head comes in
    elim c.if-begins.branch [
      | then-begins w ↦ rw w.self-is (record {
        at = at_head options.only old w.begin.new.self transfers head.turn head.message
            (has_open before) act knows.at_open
            (λ first closed begins is starts. w.begin.ensures.follows options.only first closed is starts)
            (λ none. absurd (false≢true (sym none ∙ (sym c.begins.ensures ∙ w.if-begins.true))));
        size = omega (arith, w.begin.ensures.size, ap size same);
        good = refl;
      })
      | else-begins w ↦ rw w.self-is (record {
        at = at_head options.only old c.show_end.new.lister.latest transfers head.turn head.message
            (has_open before) act knows.at_open
            (λ first closed begins is starts.
            absurd (false≢true (sym (sym c.begins.ensures ∙ w.if-begins.false) ∙ begins)))
            (λ none. same);
        size = omega (arith, ap size same);
        good = refl;
      })
    ]

pub returns-in-Err-show_end : goal.returns-in-Err-show_end
returns-in-Err-show_end g c = rw c.in-Head.is (λ before knows comes.
    let options = c.args.options.now in
    let head = viewed_head c.in-Head.head in
    let transfers = (told_after (unpacking_by options) before).transfers in
    let later = transfers_at head.turn transfers head.message in
    let abandoned = λ (some : c.abandons.result ≡ true).
    abandons_at options before head comes knows (sym c.abandons.ensures ∙ some) in
    let begun = begun g (goal.at-returns-in-Err-show_end g c).After-show_end-in-Head before knows comes in
    let closed = λ (due : c.closes.result ≡ true). begun.at.closed (sym c.closes.ensures ∙ due) in
    let writers = c.show_end-in-Head.new.writers in
    head_tells options before head comes c.show_end-in-Head.new.lister
    (output_then _ _ c.args.writers.now c.show_end.new.writers writers
    (end_due options.only (abandons head.turn) transfers)
    (on_output (end_due options.only (closes head) later) then on_report (order_line head.offset head.fault))
    (Err c.in-Err-show_end.fault)
    (rw (← c.abandons.ensures) (c.in_default.ensures.gives transfers abandoned))
    (part_of_more _ _ c.show_end.new.writers writers
    (on_output (end_due options.only (closes head) later))
    (on_report (order_line head.offset head.fault)) c.in-Err-show_end.fault
    (λ some. absurd (omega arith))
    (rw (← c.closes.ensures) (c.in-Err-show_end.ensures.gives later closed)))) tt)

pub returns-in_default-show_end : goal.returns-in_default-show_end
returns-in_default-show_end g c = rw c.in-Head.is (λ before knows comes.
    let options = c.args.options.now in
    let head = viewed_head c.in-Head.head in
    let transfers = (told_after (unpacking_by options) before).transfers in
    let later = transfers_at head.turn transfers head.message in
    let abandoned = λ (some : c.abandons.result ≡ true).
    abandons_at options before head comes knows (sym c.abandons.ensures ∙ some) in
    let begun = begun g (goal.at-returns-in_default-show_end g c).After-show_end-in-Head before knows comes in
    let closed = λ (due : c.closes.result ≡ true). begun.at.closed (sym c.closes.ensures ∙ due) in
    let latest = c.show_end-in-Head.ensures.latest in
    let size : TransferBlocks → ℕ = λ l. l.judge.size in
    let now : BlockLister =
    record { latest = c.show_end-in-Head.new.lister.latest; good = c.tell_order.new.good } in
    head_tells options before head comes now
    (output_then _ _ c.args.writers.now c.show_end.new.writers
    c.tell_order.new.writers (end_due options.only (abandons head.turn) transfers)
    (on_output (end_due options.only (closes head) later) then on_report (order_line head.offset head.fault))
    c.tell_order.result
    (rw (← c.abandons.ensures) (c.in_default.ensures.gives transfers abandoned))
    (output_then _ _ c.show_end.new.writers c.show_end-in-Head.new.writers
    c.tell_order.new.writers (end_due options.only (closes head) later)
    (on_report (order_line head.offset head.fault)) c.tell_order.result
    (rw (← c.closes.ensures) (c.in_default-show_end.ensures.gives later closed))
    c.tell_order.ensures.gives))
    (on_ok c.tell_order.result (head_known options before head comes
    c.args.self.now now knows
    (omega (arith, begun.size, ap size latest))
    (rw (
      c.tell_order.ensures.good,
      c.show_end-in-Head.ensures.good later closed,
      c.closes.ensures,
      begun.good,
      c.show_end.ensures.good transfers abandoned,
      c.abandons.ensures,
    ) refl)
    (rw latest begun.at))))

pub returns-in-Inner : goal.returns-in-Inner
returns-in-Inner g c = rw c.in-Inner.is (λ before knows comes. absurd (false≢true comes.told))

-- ---- data

pub returns-in-Err-take : goal.returns-in-Err-take
returns-in-Err-take g c = rw c.in-Data.is (λ before knows may.
    let options = c.args.options.now in
    let bytes = c.in-Data.bytes.now in
    let whole = c.in-Data.whole in
    let fits : c.args.self.now.latest.judge.size + length bytes < 2 ^ 63 =
    let few = may.1 in omega (arith, knows.size) in
    let latest = at options before bytes whole c.args.self.now knows may.0 in
    data_tells options before bytes whole c.args.self.now knows may.0 _
    (told_part _ (c.in-Err-take.ensures.gives latest.transfer whole fits latest.shows)))

pub returns-in_default-take : goal.returns-in_default-take
returns-in_default-take g c = rw c.in-Data.is (λ before knows may.
    let options = c.args.options.now in
    let old = c.args.self.now in
    let now = c.show_end-in-Data.new.lister in
    let bytes = c.in-Data.bytes.now in
    let whole = c.in-Data.whole in
    let fits : old.latest.judge.size + length bytes < 2 ^ 63 =
    let few = may.1 in omega (arith, knows.size) in
    let latest = at options before bytes whole old knows may.0 in
    let told = c.in_default-take.ensures.gives latest.transfer whole fits latest.shows in
    let later = data_transfers options before bytes whole old knows may.0 in
    let same = c.show_end-in-Data.ensures.latest in
    let closed = λ (due : whole ≡ true).
    data_latest options before bytes whole old knows may.0 c.take.new.self told.known (ap not (sym due)) in
    data_tells options before bytes whole old knows may.0 now
    (told_then told (record {
      texts = on_output (end_due options.only whole later);
      said = refl;
      wrote = c.show_end-in-Data.ensures.gives later closed;
      known = on_ok _ (data_known options before bytes whole old knows may.0 now
          (rw same c.take.ensures.size) (c.show_end-in-Data.ensures.good later closed)
          (rw same told.known));
    })))

-- ---- the end of the stream

pub returns-in-LeftOpen : goal.returns-in-LeftOpen
returns-in-LeftOpen g c = rw c.in-LeftOpen.is (λ before knows opened.
    let options = c.args.options.now in
    let now = c.show_end-in-LeftOpen.new.lister in
    let transfers = (told_after (unpacking_by options) before).transfers in
    let latest = knows.at_open opened in
    tells options before LeftOpen now (on_output (end_due options.only true transfers))
    (rw opened (ended_lines options.only true transfers)) refl
    (c.show_end-in-LeftOpen.ensures.gives transfers (λ due. latest))
    (on_ok c.show_end-in-LeftOpen.result (known options before LeftOpen now
    (rw c.show_end-in-LeftOpen.ensures.latest knows.size)
    (c.show_end-in-LeftOpen.ensures.good transfers (λ due. latest) ∙ ap (λ b. b && good_due true transfers) knows.good)
    (λ none. absurd (cc)))))
