use Rattle.std.proofs.Common.{◌≡◌, ℕ, ◌+◌, ◌<◌, ◌^◌, ◌&&◌, not, length, [], true, Ok, Err, refl, ap, sym, ◌∙◌, append-nil, arith}
use Rattle.std.proofs.lemmas.Bool.{false≢true}
use Rattle.link_run.proofs.Runs.{writes_none, output_then}
use Rattle.link_run_over_transfers.specs.Walk.{ContactHeader, LeftOpen, abandons, closes, has_open}
use Rattle.link_run_over_transfers.specs.Telling.{viewed_head}
use Rattle.link_run_judge.specs.Unpacking.{order_line, line_due, good_due, transfers_at, told_after}
use Rattle.link_run_judge.proofs.{Counts.on_ok, Effects.abandons_open}
use Rattle.link_tool_unpack.specs.declared.transfer.TransferScan.{TransferScan}
use Rattle.link_tool_unpack.proofs.Reports.{output_part, reports_part, reports_then}
use Rattle.link_tool_unpack.proofs.Told.{AtHead, ScansFurther, at_head, does, data_known, data_latest, data_tells, data_transfers, head_known, head_tells, known, tells}
use Rattle.link_tool_unpack.proofs.unpacker.UnpackerConsumer.event.Goals as goal
use Rattle.link_tool_unpack.proofs.unpacker.UnpackerConsumer.event.Goals.{then-begins, else-begins}

pub returns-in-Contact : goal.returns-in-Contact
returns-in-Contact g c = rw c.in-Contact.is (λ before knows none.
    let event = ContactHeader c.in-Contact.field-0.now in
    let writers = c.args.writers.now in
    tells c.args.options.now before event g.W.OutDevice.state g.E.OutDevice.state writers writers
    (Ok (tt {0})) c.args.self.now [] refl (sym (append-nil _)) (writes_none _ _ _)
    (known c.args.options.now before event c.args.self.now knows.sum knows.total knows.good
    knows.at_open))

-- ---- a head

pub returns-in-Err : goal.returns-in-Err
returns-in-Err g c = rw c.in-Head.is (λ before knows comes.
    let head = viewed_head c.in-Head.head in
    head_tells g.W.OutDevice.state g.E.OutDevice.state c.args.options.now before head comes
    c.args.writers.now c.tell_order.new.writers (Err c.in-Err.fault) _ (reports_part _ _ _ _ _ _ _
    c.in-Err.ensures.gives) tt)

pub returns-in-Err-report : goal.returns-in-Err-report
returns-in-Err-report g c = rw c.in-Head.is (λ before knows comes.
    let wanted = c.args.options.now in
    let head = viewed_head c.in-Head.head in
    let out_look = g.W.OutDevice.state in
    let report_look = g.E.OutDevice.state in
    let transfers = (told_after wanted before).transfers in
    let act = does out_look report_look wanted before head comes in
    let abandoned = λ (some : c.abandons.result ≡ true).
    knows.at_open (abandons_open _ _ _ act (sym c.abandons.ensures ∙ some)) in
    head_tells out_look report_look wanted before head comes c.args.writers.now c.report.new.writers
    (Err c.in-Err-report.fault) _
    (reports_then out_look report_look c.args.writers.now c.tell_order.new.writers c.report.new.writers
    (order_line head.offset head.fault) _ (Err c.in-Err-report.fault) c.in_default.ensures.gives
    (reports_part out_look report_look c.tell_order.new.writers c.report.new.writers
    (line_due wanted (abandons head.turn) transfers) _ c.in-Err-report.fault
    (rw (← c.abandons.ensures) (c.in-Err-report.ensures.gives transfers abandoned)))) tt)

pub returns-after-begins : goal.returns-after-begins
returns-after-begins g c = rw c.in-Head.is (λ before knows comes.
    let wanted = c.args.options.now in
    let head = viewed_head c.in-Head.head in
    let out_look = g.W.OutDevice.state in
    let report_look = g.E.OutDevice.state in
    let old = c.args.self.now.latest in
    let mid = c.report.new.unpacker in
    let new = c.if-begins.self in
    let transfers = (told_after wanted before).transfers in
    let later = transfers_at head.turn transfers head.message in
    let act = does out_look report_look wanted before head comes in
    let abandoned = λ (some : c.abandons.result ≡ true).
    knows.at_open (abandons_open _ _ _ act (sym c.abandons.ensures ∙ some)) in
    let size : TransferScan → ℕ = λ l. l.start + l.written in
    let begun : AtHead wanted new.latest later head.turn (closes head) (has_open before)
    × (new.latest.total ≡ old.total) × (new.good ≡ mid.good) =
    elim c.if-begins.branch [
      | then-begins w ↦ rw w.self-is (
        at_head wanted old w.begin.new.self transfers head.turn head.message
            (has_open before) act knows.sum knows.at_open
            (λ first closed earlier begins is starts sum.
            w.begin.ensures.follows wanted first closed earlier is starts
            (ap size c.report.ensures.latest ∙ sum))
            (λ none. absurd (false≢true (sym none ∙ (sym c.begins.ensures ∙ w.if-begins.true)))),
        w.begin.ensures.total ∙ ap (λ (l : TransferScan). l.total) c.report.ensures.latest,
        refl,
      )
      | else-begins w ↦ rw w.self-is (
        at_head wanted old mid.latest transfers head.turn head.message (has_open before) act
            knows.sum knows.at_open
            (λ first closed earlier begins is starts sum.
            absurd (false≢true (sym (sym c.begins.ensures ∙ w.if-begins.false) ∙ begins)))
            (λ none. c.report.ensures.latest),
        ap (λ (l : TransferScan). l.total) c.report.ensures.latest,
        refl,
      )
    ] in
    let latest = c.report-in-Head.ensures.latest in
    let closed = λ (due : c.closes.result ≡ true). begun.0.closed (sym c.closes.ensures ∙ due) in
    let writers = c.report-in-Head.new.writers in
    head_tells out_look report_look wanted before head comes c.args.writers.now writers
    c.report-in-Head.result c.report-in-Head.new.unpacker
    (reports_then out_look report_look c.args.writers.now c.tell_order.new.writers writers
    (order_line head.offset head.fault) _ c.report-in-Head.result c.in_default.ensures.gives
    (reports_then out_look report_look c.tell_order.new.writers c.report.new.writers writers
    (line_due wanted (abandons head.turn) transfers) (line_due wanted (closes head) later)
    c.report-in-Head.result
    (rw (← c.abandons.ensures) (c.in_default-report.ensures.gives transfers abandoned))
    (rw (← c.closes.ensures) (c.report-in-Head.ensures.gives later closed))))
    (on_ok c.report-in-Head.result (head_known out_look report_look wanted before head comes
    c.args.self.now c.report-in-Head.new.unpacker knows
    (ap (λ (l : TransferScan). l.total) latest ∙ begun.1)
    (rw (
      c.report-in-Head.ensures.good later closed,
      c.closes.ensures,
      begun.2,
      c.report.ensures.good transfers abandoned,
      c.abandons.ensures,
      c.tell_order.ensures.good,
    ) refl)
    (rw latest begun.0))))

-- ---- data

pub returns-in-Err-write_output : goal.returns-in-Err-write_output
returns-in-Err-write_output g c = rw c.in-Data.is (λ before knows may.
    let wanted = c.args.options.now in
    let bytes = c.in-Data.bytes.now in
    let fits : c.args.self.now.latest.total + length bytes < 2 ^ 63 =
    let few = may.1 in omega (arith, knows.total) in
    data_tells wanted before bytes c.in-Data.whole c.args.self.now knows may.0
    c.take-part.result.now (λ transfer closed earlier at. c.take-part.ensures.part transfer closed earlier fits at)
    g.W.OutDevice.state g.E.OutDevice.state c.args.writers.now c.write_output.new.self
    (Err c.in-Err-write_output.fault) _
    (output_part _ _ _ _ _ _ _ c.in-Err-write_output.ensures.gives) tt)

pub returns-in_default-write_output : goal.returns-in_default-write_output
returns-in_default-write_output g c = rw c.in-Data.is (λ before knows may.
    let wanted = c.args.options.now in
    let old = c.args.self.now in
    let now = c.report-in-Data.new.unpacker in
    let bytes = c.in-Data.bytes.now in
    let whole = c.in-Data.whole in
    let fits : old.latest.total + length bytes < 2 ^ 63 =
    let few = may.1 in omega (arith, knows.total) in
    let later = data_transfers wanted before bytes whole old knows may.0 in
    let follows : ScansFurther wanted old.latest c.take-part.new.self bytes = λ transfer closed earlier at.
    c.take-part.ensures.follows transfer closed earlier fits at in
    let latest = c.report-in-Data.ensures.latest in
    let closed = λ (due : whole ≡ true).
    data_latest wanted before bytes whole old knows may.0 c.take-part.new.self follows
    (ap not (sym due)) in
    data_tells wanted before bytes whole old knows may.0 c.take-part.result.now
    (λ transfer closed earlier at. c.take-part.ensures.part transfer closed earlier fits at)
    g.W.OutDevice.state g.E.OutDevice.state c.args.writers.now c.report-in-Data.new.writers
    c.report-in-Data.result now (output_then _ _ _ _ _ _ _ _ c.in_default-write_output.ensures.gives
    (c.report-in-Data.ensures.gives later closed))
    (on_ok _ (data_known wanted before bytes whole old knows may.0 now
    (rw latest c.take-part.ensures.total) (c.report-in-Data.ensures.good later closed)
    (rw latest follows))))

-- ---- the end of the stream

pub returns-in-LeftOpen : goal.returns-in-LeftOpen
returns-in-LeftOpen g c = rw c.in-LeftOpen.is (λ before knows opened.
    let wanted = c.args.options.now in
    let now = c.report-in-LeftOpen.new.unpacker in
    let transfers = (told_after wanted before).transfers in
    let at = knows.at_open opened in
    tells wanted before LeftOpen g.W.OutDevice.state g.E.OutDevice.state c.args.writers.now
    c.report-in-LeftOpen.new.writers c.report-in-LeftOpen.result now _ refl refl
    (c.report-in-LeftOpen.ensures.gives transfers (λ due. at))
    (on_ok c.report-in-LeftOpen.result (known wanted before LeftOpen now
    (ap (λ (l : TransferScan). l.start + l.written) c.report-in-LeftOpen.ensures.latest ∙ knows.sum)
    (rw c.report-in-LeftOpen.ensures.latest knows.total)
    (c.report-in-LeftOpen.ensures.good transfers (λ due. at) ∙ ap (λ b. b && good_due true transfers) knows.good)
    (λ none. absurd (cc)))))
