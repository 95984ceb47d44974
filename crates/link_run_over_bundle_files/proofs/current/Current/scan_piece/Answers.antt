use Rattle.link_run_over_bundle_files.proofs.Dividing.{fed}
use Rattle.link_run_over_bundle_files.proofs.current.Current.scan_piece.Goals as goal

pub returns-then-not-by_blocks-clause-scans : goal.returns-then-not-by_blocks-clause-scans
returns-then-not-by_blocks-clause-scans c = λ begun scanned goes.
    fed c.args.by_blocks _ begun c.args.piece.now c.feed.result c.if-not-by_blocks.true goes
    c.requires.some (c.feed.ensures.count begun scanned) (c.feed.ensures.seen begun scanned)
