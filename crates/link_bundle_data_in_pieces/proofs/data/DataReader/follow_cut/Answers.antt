use Rattle.std.proofs.Common.{◌≡◌, [], ◌++◌, Option, Some, sym, ◌∙◌, append-nil, arith}
use Rattle.link_bundle_blocks.specs.Bundle.{blocks_in, cut_block_in}
use Rattle.link_bundle_blocks.specs.declared.block.CanonicalBlock.{CanonicalBlock}
use Rattle.link_bundle_data_in_pieces.proofs.Reading.{placed, read_on}
use Rattle.link_bundle_data_in_pieces.proofs.data.DataReader.follow_cut.Goals as goal

pub returns-in-Some-clause-reads : goal.returns-in-Some-clause-reads
returns-in-Some-clause-reads c = λ seen before reading goes come same_blocks.
    let now = seen ++ c.args.run.now in
    let cut : cut_block_in now ≡ Some c.in-Some.block = sym (c.cut_block.ensures now come) ∙ c.in-Some.is in
    let none : blocks_in now ≡ blocks_in seen ++ [] = rw append-nil same_blocks in
    let read = c.take.ensures.reads seen before (λ less.
    placed c.args.self.now seen c.args.run.now [] c.in-Some.block reading goes none cut
    (omega (arith, before))) in
    read_on c.take.new.self c.args.self.now.flags seen c.args.run.now reading.flags none
    c.take.ensures.flags
    (λ block is. let same : c.in-Some.block ≡ block = some_same _ _ (sym cut ∙ is) in rw (← same) read)
  where
    some_same : (one other : CanonicalBlock) → ◌≡◌ {A = Option CanonicalBlock} (Some one) (Some other)
        → one ≡ other
    some_same one other is = cc
