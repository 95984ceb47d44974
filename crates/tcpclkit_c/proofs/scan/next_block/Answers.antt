use Rattle.std.proofs.{Common.{◌≡◌, [], true, sym, ◌∙◌, rules}, lemmas.Bool.{lt-ltb, le-ltb}}
use Rattle.std.specs.Prelude.{nat_lt, if◌then◌else◌}
use Rattle.link_bundle_blocks.specs.Blocks.{viewed_blocks}
use Rattle.link_bundle.specs.Scan.{ending}
use Rattle.tcpclkit_c.specs.Scan.{has_room}
use Rattle.tcpclkit_c.proofs.scan.next_block.Goals.{then-count-gt0, else-count-gt0}
use Rattle.tcpclkit_c.proofs.scan.next_block.Goals as goal

pub returns : goal.returns
returns c =
    let took = c.take_block-count in
    -- a block that ended before the call is not shown
    let shown : viewed_blocks c.if-count-gt0.ended
    ≡ (if nat_lt 0 took.result then ending took.new.scan else []) =
    elim c.if-count-gt0.branch [
      | then-count-gt0 w ↦
          rw (lt-ltb 0 took.result w.if-count-gt0.true, w.ended-is)
          w.ended_block-ended.ensures.block
      | else-count-gt0 w ↦
          rw (le-ltb 0 took.result w.if-count-gt0.false, w.ended-is)
    ] in
    record {
      scan = λ seen has.
          let room : has_room seen c.args.piece.now ≡ true =
          sym (c.may_feed.ensures.scan seen has) ∙ c.if-not-may_feed.false in
          let come = took.ensures.seen seen has.scanned in
          let counts = took.ensures.counts seen has.scanned in
          record {
            scanned = rw room (record { marked = has.marked; scanned = come });
            counts = rw room counts;
            gives = rw (room, took.ensures.adds seen has.scanned, ← shown) c.block_numbers-2.ensures;
            answers = rw (room, ← c.is_late-late.ensures seen has.scanned)
                (c.piece_status.ensures _ come);
          };
      other = search rules;
    }
