use Rattle.std.proofs.Common.{ℕ, ◌≡◌, suc, ◌-◌, List, [], ◌∷◌, ◌++◌, length, Result, Ok, sym, ap, ◌∙◌, length-append, arith}
use Rattle.std.proofs.lemmas.Bool.{eq-eqb, ne_eqb}
use Rattle.link_bundle_blocks.specs.{Blocks.{Primary, Block, CanonicalOf, ended}, Reading.Stop}
use Rattle.link_bundle_blocks.specs.{Bundle.{Bundle, with_blocks, blocks_at}, Whole.bundle_with}
use Rattle.link_bundle_blocks.proofs.{Blocks.both_before, Readings.{payload_read, next_read}}
use Rattle.link_bundle_blocks.proofs.whole.blocks_at.Goals as goal
use Rattle.link_bundle_blocks.proofs.whole.blocks_at.Goals.{In_ok-block}

-- the reading from the current block on, after the blocks before it
turned : (c : In_ok-block) (primary : Primary) (reading : Result Bundle Stop)
    → blocks_at (suc (63 - length c.loop-block.numbers)) c.loop-block.numbers primary
    c.args.bytes.now c.loop-block.start ≡ reading
    → blocks_at 64 [] primary c.args.bytes.now c.args.offset
    ≡ with_blocks c.loop-block.invariant.reads.0 reading
turned c primary reading is =
    let numbers = c.loop-block.numbers in
    let bytes = c.args.bytes.now in
    let start = c.loop-block.start in
    c.loop-block.invariant.reads.1 primary
    ∙ ap (λ (reading : Result Bundle Stop). with_blocks c.loop-block.invariant.reads.0 reading)
    (ap (λ (left : ℕ). blocks_at left numbers primary bytes start)
    (omega (arith, c.in_ok-block.ensures.room)) ∙ is)

-- the block that was read
read_block : In_ok-block → List Block
read_block c = CanonicalOf (ended c.in_ok-block.block c.in_ok-block.next) ∷ []

pub returns-then-block-eq-PAYLOAD_TYPE : goal.returns-then-block-eq-PAYLOAD_TYPE
unfolding read_block
returns-then-block-eq-PAYLOAD_TYPE c =
    let at = (goal.at.returns-then-block-eq-PAYLOAD_TYPE c).In_ok-block in
    let numbers = c.loop-block.numbers in
    let block = c.in_ok-block.block in
    let done = c.loop-block.invariant.reads.0 in (
      done ++ read_block at,
      λ primary.
          turned at primary _
          (payload_read (63 - length numbers) numbers primary c.args.bytes.now block
          c.loop-block.start c.in_ok-block.next c.in_ok-end.end c.in_ok-block.ensures.read
          (eq-eqb block.block_type 1 c.if-block-eq-PAYLOAD_TYPE.true) c.in_ok-end.ensures)
          ∙ ap (λ (blocks : ℕ). Ok (bundle_with primary blocks
          (block.data_start, block.data_length) c.in_ok-end.end (done ++ read_block at)))
          (sym (ap length c.push.ensures ∙ length-append numbers (block.number ∷ []))),
    )

pub loop-block-preserved : goal.loop-block-preserved
unfolding read_block
loop-block-preserved c =
    let at = (goal.at.loop-block-preserved c).In_ok-block in
    let numbers = c.loop-block.numbers in
    let block = c.in_ok-block.block in
    let bytes = c.args.bytes.now in
    let next = c.in_ok-block.next in
    let done = c.loop-block.invariant.reads.0 in
    record {
      reads = (
        done ++ read_block at,
        λ primary.
            turned at primary _
            (next_read (63 - length numbers) numbers primary bytes block c.loop-block.start next
            c.in_ok-block.ensures.read (ne_eqb block.block_type 1 c.if-block-eq-PAYLOAD_TYPE.false)
            ∙ ap (λ (reading : Result Bundle Stop). with_blocks (read_block at) reading)
            (ap (λ (left : ℕ). blocks_at left (numbers ++ block.number ∷ []) primary bytes next)
            (omega (arith, length-append numbers (block.number ∷ [])))
            ∙ ap (λ (now : List ℕ). blocks_at (64 - length now) now primary bytes next)
            (sym c.push.ensures)))
            ∙ both_before done (read_block at) _,
      );
    }
