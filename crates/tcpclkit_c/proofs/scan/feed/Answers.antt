use Rattle.std.proofs.Common.{◌≡◌, true, sym, ◌∙◌, rules}
use Rattle.tcpclkit_c.specs.Scan.{has_room}
use Rattle.tcpclkit_c.proofs.scan.feed.Goals as goal

pub returns : goal.returns
returns c = record {
  scan = λ seen has.
      let room : has_room seen c.args.piece.now ≡ true =
      sym (c.may_feed.ensures.scan seen has) ∙ c.if-not-may_feed.false in
      let come = c.feed-count.ensures.seen seen has.scanned in
      let counts = c.feed-count.ensures.count seen has.scanned in
      record {
        scanned = rw room (record { marked = has.marked; scanned = come });
        counts = rw room counts;
        answers = rw (room, ← c.is_late-late.ensures seen has.scanned) (c.piece_status.ensures _ come);
      };
  other = search rules;
}
