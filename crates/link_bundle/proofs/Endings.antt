-- The block that ends with the last byte taken. No block ends before it.

use Rattle.std.proofs.Common.{◌≡◌, ℕ, suc, ◌+◌, ◌-◌, ◌<◌, Bool, true, false, List, [], ◌∷◌, ◌++◌, length, take, drop, sym, ap, ◌∙◌, subst, append-nil, append_assoc, length-append, length-take-le, arith}
use Rattle.std.specs.{Prelude.{◌==◌, if◌then◌else◌}, List.All}
use Rattle.std.proofs.lemmas.List.{append_cancel_left}
use Rattle.link_bundle.specs.declared.{draft.Draft.Draft, scan.BundleScan.BundleScan}
use Rattle.link_bundle.specs.declared.stage.ScanStage.{ScanStage}
use Rattle.link_bundle.specs.declared.stage.ScanStage.TheVariants.{BlockHeads, Break}
use Rattle.link_bundle_blocks.specs.Blocks.{Block, PrimaryOf, CanonicalOf, LiesWithin, ended}
use Rattle.link_bundle_blocks.specs.Bundle.{blocks_in}
use Rattle.link_bundle.specs.Left.{last_block, primary_of, stage_last}
use Rattle.link_bundle.specs.Scan.{HasScanned, Advances, EndsBlockOnlyAtLastByte, ending, scan_size}
use Rattle.link_cbor.proofs.Joins.{joined_run}
use Rattle.link_bundle_blocks.proofs.Lying.{BlocksWithin-holds}
use Rattle.link_bundle_blocks.proofs.Showing.{BlocksGrow-holds}

-- a block that ends at the offset `end` does not lie within fewer bytes
beyond : (none : Bool) (draft : Draft) (count end : ℕ) → count < end
    → LiesWithin count (if none then PrimaryOf (primary_of draft) draft.check end
    else CanonicalOf (ended draft.block end)) → ⊥
beyond true draft count end below within = omega arith
beyond false draft count end below within = omega (arith, within.1)

-- neither does one that ends with the bytes seen
ends_beyond : (stage : ScanStage) (draft : Draft) (here : Bool) (count end : ℕ) (found : Block)
    (rest : List Block) → (if here then stage_last stage draft end else []) ≡ found ∷ rest
    → count < end → LiesWithin count found → ⊥
ends_beyond BlockHeads draft true count end found rest is below within =
    let same : found ≡ last_block draft end = cc in
    beyond (length draft.numbers == 0) draft count end below (rw same at within)
ends_beyond Break draft true count end found rest is below within =
    let same : found ≡ last_block draft end = cc in
    beyond (length draft.numbers == 0) draft count end below (rw same at within)
ends_beyond stage draft true count end found rest is below within = cc
ends_beyond stage draft false count end found rest is below within = cc

among : {A : Type 0} (P : A → Type 0) (earlier : List A) (x : A) (later : List A)
    → All P (earlier ++ x ∷ later) → P x
among P [] x later all = all 0 x (omega arith)
among P (y ∷ earlier) x later all =
    among P earlier x later (λ i z below. all (suc i) z (omega (arith, below)))

none_added : (scan : BundleScan) (count : ℕ) (earlier new more : List Block)
    → count < scan_size scan → All (LiesWithin count) (earlier ++ new)
    → ending scan ≡ new ++ more → earlier ++ new ≡ earlier
none_added scan count earlier [] more below within ends = append-nil earlier
none_added scan count earlier (found ∷ rest) more below within ends =
    absurd (ends_beyond scan.stage scan.draft (length scan.cursor.hold == 0) count (scan_size scan)
    found (rest ++ more) ends below (among (LiesWithin count) earlier found rest within))

-- no block ends with fewer bytes
pub none_sooner : (old new : BundleScan) (piece seen : List ℕ) (count fewer : ℕ)
    → HasScanned old seen → Advances old new piece count → EndsBlockOnlyAtLastByte old new piece count
    → fewer < count → blocks_in (seen ++ take fewer piece) ≡ blocks_in seen
none_sooner old new piece seen count fewer come advances adds below =
    let run = take fewer piece in
    let first = BlocksGrow-holds seen run in
    let more = BlocksGrow-holds (seen ++ run) (take (count - fewer) (drop fewer piece)) in
    let whole : fewer + (count - fewer) ≡ count = omega arith in
    let all : blocks_in seen ++ ending new ≡ blocks_in seen ++ (first.0 ++ more.0) =
    sym (adds seen come)
    ∙ ap (λ (size : ℕ). blocks_in (seen ++ take size piece)) (sym whole)
    ∙ ap blocks_in (sym (joined_run seen piece fewer (count - fewer)))
    ∙ more.1
    ∙ ap (λ (blocks : List Block). blocks ++ more.0) first.1
    ∙ append_assoc (blocks_in seen) first.0 more.0 in
    first.1
    ∙ none_added new (length (seen ++ run)) (blocks_in seen) first.0 more.0
    (omega (
      arith,
      advances.size,
      come.come.count,
      length-append seen run,
      length-take-le fewer piece (omega (arith, advances.within)),
    ))
    (subst (All (LiesWithin (length (seen ++ run)))) first.1 (BlocksWithin-holds (seen ++ run)))
    (append_cancel_left (blocks_in seen) (ending new) (first.0 ++ more.0) all)
