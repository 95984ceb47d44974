use Rattle.std.proofs.{Common.{arith}, Math.Nat.min-le_right, lemmas.List.length-take}
use Rattle.link_run_over_bundle_files.proofs.Dividing.{too_long, judged, counted}
use Rattle.link_run_over_bundle_files.proofs.current.Current.judge.Goals as goal

pub returns-then-room-eq0-clause-took : goal.returns-then-room-eq0-clause-took
returns-then-room-eq0-clause-took c = λ begun reading short.
    too_long c.args.limit c.args.by_blocks c.args.self.now.number begun c.args.piece.now
    reading.opened c.requires.some
    (omega (
      arith,
      c.room-room.ensures,
      c.if-room-eq0.true,
      reading.scanned.come.count,
      reading.opened.within,
      c.requires.some,
      short,
    ))

pub returns-clause-counts : goal.returns-clause-counts
returns-clause-counts c =
    counted _ _ _ c.found.result (omega arith)
    (omega (
      arith,
      min-le_right c.args.limit 9223372036854775807,
      length-take c.min-size.result c.args.piece.now,
    ))

pub returns-clause-some : goal.returns-clause-some
returns-clause-some c = λ begun reading short.
    (c.scan_piece-count.ensures.scans begun reading.scanned reading.opened.goes).some

pub returns-clause-took : goal.returns-clause-took
returns-clause-took c = λ begun reading short.
    judged c.args.limit c.args.by_blocks _ begun c.args.piece.now c.min-size.result
    c.scan_piece-count.result c.found.result c.scan_piece-count.ensures.within
    (c.scan_piece-count.ensures.scans begun reading.scanned reading.opened.goes)
    reading.opened.front (omega (arith, reading.scanned.come.count, reading.opened.within))
    c.found.ensures
