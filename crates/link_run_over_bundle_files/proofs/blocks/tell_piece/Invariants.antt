use Rattle.std.proofs.Common.{◌≡◌, ℕ, ◌+◌, ◌-◌, ◌≤◌, List, ◌++◌, length, take, Ok}
use Rattle.link_bundle.specs.Scan.{HasJudged, scan_size}
use Rattle.link_bundle_data_in_pieces.specs.DataReader.{IsDataReaderAt, read_size}
use Rattle.link_run.specs.Writers.{on_output}
use Rattle.link_run_over_bundle_files.specs.Telling.{WritesRestOfTexts}
use Rattle.link_run_over_bundle_files.proofs.blocks.tell_piece.Given as goal

-- some bytes of the piece were scanned, and the consumer was told of the blocks that end in them
abbrev pub invariant-loop-taken : goal.invariant-loop-taken
invariant-loop-taken g l = record {
  within : l.taken ≤ length l.piece;
  scanned : scan_size l.scan ≤ l.before + l.taken;
  read : read_size l.reader ≤ l.before + l.taken;
  tells : (seen : List ℕ) → length seen ≡ l.before → HasJudged l.fn.scan seen
      → IsDataReaderAt l.fn.reader seen → g.C.BlockConsumer.knows l.options l.fn.consumer seen
      → WritesRestOfTexts g.W.OutDevice.state g.E.OutDevice.state
      (on_output (g.C.BlockConsumer.says l.number seen))
      (on_output (g.C.BlockConsumer.says l.number (seen ++ take l.taken l.piece)))
      (HasJudged l.scan (seen ++ take l.taken l.piece)
      × IsDataReaderAt l.reader (seen ++ take l.taken l.piece)
      × g.C.BlockConsumer.knows l.options l.consumer (seen ++ take l.taken l.piece))
      l.fn.writers l.writers (Ok (tt {0}));
}

abbrev pub decreases-loop-taken : goal.decreases-loop-taken
decreases-loop-taken g l = length l.piece - l.taken
