use Rattle.std.proofs.Common.{◌≡◌, ℕ, true, List, [], ◌∷◌, ◌++◌, length, None, refl, sym, ◌∙◌, arith}
use Rattle.link_bundle_blocks.specs.Blocks.{Block, CanonicalOf, PrimaryOf, viewed_primary}
use Rattle.link_bundle_blocks.specs.Bundle.{bundle_goes, blocks_in}
use Rattle.link_bundle.specs.Scan.{ending}
use Rattle.link_bundle_blocks.specs.declared.block.CanonicalBlock.{CanonicalBlock}
use Rattle.link_bundle_data_in_pieces.specs.DataReader.{IsDataReaderAt, IsDataReaderIn}
use Rattle.link_bundle_data_in_pieces.proofs.Reading.{placed, read_whole}
use Rattle.link_bundle_data_in_pieces.proofs.data.DataReader.follow.Goals as goal

pub returns-in-Primary-clause-reads : goal.returns-in-Primary-clause-reads
returns-in-Primary-clause-reads c = λ seen before reading goes come grown.
    let block = c.in-Primary.block in
    read_whole _ c.args.scan.now c.args.self.now.flags seen c.args.run.now
    (PrimaryOf (viewed_primary block) block.check block.end) reading.flags come grown
    (rw c.in-Primary.is at c.requires.ended) refl

-- the block that has ended
ended_is : (c : goal.After-take) → ending c.args.scan.now ≡ CanonicalOf c.in-Canonical.block ∷ []
ended_is c = rw c.in-Canonical.is at c.requires.ended

-- the data of the block that has ended is read
ended_read : (c : goal.After-take) (seen : List ℕ) → length seen ≡ c.args.before
    → IsDataReaderAt c.args.self.now seen → bundle_goes seen ≡ true
    → blocks_in (seen ++ c.args.run.now) ≡ blocks_in seen ++ ending c.args.scan.now
    → IsDataReaderIn c.take.new.self (seen ++ c.args.run.now) c.in-Canonical.block
ended_read c seen before reading goes grown =
    let block = c.in-Canonical.block in
    c.take.ensures.reads seen before (λ less.
    let was = placed c.args.self.now seen c.args.run.now (ending c.args.scan.now)
    (record block { end = None }) reading goes grown
    (rw (ended_is c) refl) (omega (arith, before)) in
    record { kind = was.kind; scanned = was.scanned })

pub returns-in-Canonical-clause-reads : goal.returns-in-Canonical-clause-reads
returns-in-Canonical-clause-reads c = λ seen before reading goes come grown.
    read_whole c.take.new.self c.args.scan.now c.args.self.now.flags seen c.args.run.now
    (CanonicalOf c.in-Canonical.block) reading.flags come grown
    (ended_is c) c.take.ensures.flags

pub returns-in-Canonical-clause-whole : goal.returns-in-Canonical-clause-whole
returns-in-Canonical-clause-whole c = λ seen block before reading goes grown ends.
    let same : c.in-Canonical.block ≡ block = only_same _ _ (sym (ended_is c) ∙ ends) in
    rw (← same) (ended_read c seen before reading goes grown)
  where
    only_same : (one other : CanonicalBlock)
        → ◌≡◌ {A = List Block} (CanonicalOf one ∷ []) (CanonicalOf other ∷ []) → one ≡ other
    only_same one other is = cc
