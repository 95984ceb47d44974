use Rattle.std.proofs.Common.{◌≡◌, ◌+◌, ◌-◌, min, ◌<◌, ℕ, List, length, arith}
use Rattle.link_bundle.specs.Part.{part_in}
use Rattle.link_bundle_data_in_pieces.specs.{Found.data_in, DataReader.IsDataReaderIn}
use Rattle.link_bundle_data_in_pieces.proofs.Runs.{data_later, data_more}
use Rattle.link_bundle_data_in_pieces.proofs.data.DataReader.take.Goals as goal
use Rattle.link_bundle_data_in_pieces.proofs.data.DataReader.take.Goals.{then-block-before, else-block-before}

-- what the reader has read before the run
pub before_run : (c : goal.After-take) (seen : List ℕ) → length seen ≡ c.args.before
    → (c.args.block.now.data_start < c.args.before
    → IsDataReaderIn c.args.self.now seen c.args.block.now)
    → IsDataReaderIn c.if-block-before.self seen c.args.block.now
before_run c seen before known =
    let block = c.args.block.now in
    elim c.if-block-before.branch [
      | then-block-before w ↦ rw w.self-is (record {
        kind = rw w.begin.ensures.flags w.begin.ensures.kind;
        scanned = λ kind is.
            rw (data_later seen block (omega (arith, before))) (w.begin.ensures.scan kind is);
      })
      | else-block-before w ↦ rw w.self-is (known (omega arith))
    ]

pub returns-then-is_some-clause-reads : goal.returns-then-is_some-clause-reads
returns-then-is_some-clause-reads c = λ seen before known.
    let block = c.args.block.now in
    let run = c.args.run.now in
    let count = c.min-count.result in
    let was = before_run c seen before known in
    let all : count ≡ min block.data_length (length seen + length run - block.data_start) =
    omega (arith, c.min-count.ensures, c.saturating_sub.ensures, before) in
    let part : c.part_in.result.now ≡ part_in run (length seen) block.data_start count =
    rw before (c.part_in.ensures.part (λ some. omega arith)) in
    record {
      kind = was.kind;
      scanned = λ kind is. rw (data_more seen run block count all, ← part)
          (c.take.ensures.seen kind (data_in seen block) (was.scanned kind is));
    }
