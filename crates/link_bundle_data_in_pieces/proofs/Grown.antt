-- The blocks of a bundle and their data, when more bytes follow.
use Rattle.std.proofs.Common.{◌≡◌, ℕ, suc, ◌+◌, ◌≤◌, false, true, List, [], ◌∷◌, ◌++◌, length, drop, Result, Ok, Err, All, refl, sym, append-nil, length-drop, arith}
use Rattle.std.proofs.lemmas.{Bool.false≢true, List.{take-append-le, drop-append-le}}
use Rattle.link_bundle_types.specs.declared.fault.BundleFault.{BundleFault}
use Rattle.link_bundle_types.specs.declared.info.BundleInfo.{BundleInfo}
use Rattle.link_bundle_types.specs.Faults.{lasts}
use Rattle.link_bundle_blocks.specs.Bundle.{judged_bundle, bundle_at, opening_at, verdict, state_of, is_going, bundle_goes, blocks_in}
use Rattle.link_bundle_blocks.specs.declared.block.CanonicalBlock.{CanonicalBlock}
use Rattle.link_bundle_blocks.proofs.Lengths.{FaultLasts-holds, ByteAfterBundleIsTrailing-holds}
use Rattle.link_bundle_data_in_pieces.specs.Found.{data_in}

-- ---- the elements of a list

pub all_first : {A : Type 0} (P : A → Type 0) (x : A) (xs : List A) → All P (x ∷ xs) → P x
all_first P x xs all = all 0 x (omega arith)

pub all_rest : {A : Type 0} (P : A → Type 0) (x : A) (xs : List A) → All P (x ∷ xs) → All P xs
all_rest P x xs all = λ k d less. all (suc k) d (omega arith)

-- ---- the data of whole blocks

pub data_grown : (content more : List ℕ) (block : CanonicalBlock)
    → block.data_start + block.data_length ≤ length content
    → data_in (content ++ more) block ≡ data_in content block
data_grown content more block within =
    rw (drop-append-le block.data_start content more (omega arith))
    (take-append-le block.data_length (drop block.data_start content) more
    (omega (arith, length-drop block.data_start content)))

-- ---- no bundle

pub no_blocks : blocks_in [] ≡ []
unfolding blocks_in judged_bundle bundle_at opening_at
no_blocks = refl

-- ---- a bundle that does not go on

stops_by : (bytes more : List ℕ) (outcome : Result BundleInfo (BundleFault × ℕ))
    → verdict bytes ≡ outcome → is_going (state_of outcome) ≡ false
    → bundle_goes (bytes ++ more) ≡ false
stops_by bytes [] (Ok info) is stops = rw (append-nil bytes, is) refl
stops_by bytes (byte ∷ more) (Ok info) is stops =
    rw (ByteAfterBundleIsTrailing-holds bytes more byte info is) refl
stops_by bytes more (Err (fault, offset)) is stops = by_lasting (lasts fault) refl
  where
    by_lasting : (test : _) → lasts fault ≡ test → bundle_goes (bytes ++ more) ≡ false
    by_lasting true lasting = rw (FaultLasts-holds bytes more fault offset lasting is, lasting) refl
    by_lasting false goes = absurd (false≢true (rw goes at (sym stops)))

pub goes_stops : (bytes more : List ℕ) → bundle_goes bytes ≡ false
    → bundle_goes (bytes ++ more) ≡ false
goes_stops bytes more stops = stops_by bytes more (verdict bytes) refl stops
