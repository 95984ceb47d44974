-- A bundle is read as it was written, and is a good bundle.
use Rattle.std.proofs.Common.{◌≡◌, ℕ, ◌+◌, ◌≤◌, List, [], ◌∷◌, ◌++◌, length, Ok, arith, refl, ap, sym, ◌∙◌, append_assoc, append-nil, zero-add}
use Rattle.std.specs.List.{flat_map}
use Rattle.std.proofs.lemmas.Bool.{eq-eqb}
use Rattle.link_bundle_blocks.specs.Blocks.{PrimaryOf}
use Rattle.link_bundle_blocks.specs.Bundle.{Bundle, bundle_at, with_blocks, judged_bundle, verdict, payload_in, blocks_in}
use Rattle.link_bundle_blocks.specs.{PrimaryFields.primary_fields, Whole.bundle_with}
use Rattle.link_bundle_blocks.proofs.{Readings.primary_read, Runs.drop-run, WholeFields.primary_fields-whole}
use Rattle.link_bundle_writer.proofs.There.{within_there}
use Rattle.link_bundle_writer.proofs.PrimaryBack.{primary_there}
use Rattle.link_bundle_writer.proofs.BlocksBack.{blocks_there}
use Rattle.link_bundle_writer.specs.GoodBundle.{all_blocks, blocks_from, BundleReadsBack}
use Rattle.link_bundle_writer.specs.NewBlocks.{primary_bytes}
use Rattle.link_bundle_writer.specs.NewBundles.{block_bytes, bundle_bytes}

-- no byte follows the bundle
judged_whole : (bytes : List ℕ) (bundle : Bundle) → bundle_at bytes ≡ Ok bundle
    → bundle.length ≡ length bytes → judged_bundle bytes ≡ Ok bundle
unfolding judged_bundle
judged_whole bytes bundle read all = rw (read, eq-eqb bundle.length (length bytes) all) refl

pub bundle_back : BundleReadsBack
unfolding bundle_bytes verdict payload_in blocks_in
bundle_back primary check others payload well =
    let blocks = all_blocks others payload in
    let front = primary_bytes primary check in
    let rest = flat_map block_bytes blocks ++ 0xff ∷ [] in
    let tail = front ++ flat_map block_bytes blocks ++ 0xff ∷ [] in
    let bytes : List ℕ = 0x9f ∷ tail in
    let next = 1 + length front in
    let here : tail ≡ front ++ rest = append_assoc front (flat_map block_bytes blocks) (0xff ∷ []) in
    let some : 1 ≤ length bytes = omega arith in
    let whole = primary_there primary check well.fits well.writable tail rest here in
    let list = blocks_there primary payload well.last bytes others 64 [] next well.few well.blocks
    well.distinct (within_there bytes 1 front rest some here) (drop-run bytes rest front 1 here) in
    let bundle = bundle_with primary (length blocks) (list.data_start, length payload.content)
    (length bytes) (PrimaryOf primary check next ∷ blocks_from next blocks) in
    let read : bundle_at bytes ≡ Ok bundle =
    primary_read bytes primary check next whole
    ∙ ap (λ found. with_blocks (PrimaryOf primary check next ∷ []) found)
    (rw (zero-add (length blocks)) at list.read) in
    let judged : judged_bundle bytes ≡ Ok bundle = judged_whole bytes bundle read refl in
    record {
      good = rw judged refl;
      content = rw judged list.content;
      fields = ap primary_fields (sym (append-nil bytes))
          ∙ primary_fields-whole bytes [] primary check next whole;
      blocks = rw judged refl;
    }
