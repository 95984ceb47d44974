-- The chunks of a bundle that is incomplete.
use Rattle.std.proofs.Common.{◌≡◌, ℕ, zero, suc, ◌+◌, ◌*◌, ◌≤◌, List, [], ◌∷◌, ◌++◌, length, take, drop, refl, ap, ap₂, ◌∙◌, arith}
use Rattle.std.proofs.lemmas.List.{take-append-le, drop-append-le, length-drop, length_push}
use Rattle.link_transfer.specs.Chunks.{chunk_at, first_chunks}

-- a full chunk does not change when more bytes come
chunk_at-append : (segment k : ℕ) (bundle more : List ℕ) → k * segment + segment ≤ length bundle
    → chunk_at segment k (bundle ++ more) ≡ chunk_at segment k bundle
chunk_at-append segment k bundle more within =
    ap (take segment) (drop-append-le (k * segment) bundle more (omega arith))
    ∙ take-append-le segment (drop (k * segment) bundle) more (omega (arith, length-drop (k * segment) bundle))

-- the full chunks do not change when more bytes come
pub first_chunks-append : (segment count : ℕ) (bundle more : List ℕ)
    → count * segment ≤ length bundle
    → first_chunks segment count (bundle ++ more) ≡ first_chunks segment count bundle
unfolding first_chunks
first_chunks-append segment zero bundle more within = refl
first_chunks-append segment (suc count) bundle more within =
    ap₂ (λ chunks chunk. chunks ++ chunk ∷ [])
    (first_chunks-append segment count bundle more (omega arith))
    (chunk_at-append segment count bundle more (omega arith))

pub first_chunks-zero : (segment : ℕ) (bundle : List ℕ) → first_chunks segment 0 bundle ≡ []
unfolding first_chunks
first_chunks-zero segment bundle = refl

-- one more chunk
pub first_chunks-push : (segment : ℕ) (bundle : List ℕ) (given : List (List ℕ))
    → given ≡ first_chunks segment (length given) bundle
    → given ++ chunk_at segment (length given) bundle ∷ []
    ≡ first_chunks segment (length (given ++ chunk_at segment (length given) bundle ∷ [])) bundle
unfolding first_chunks
first_chunks-push segment bundle given is =
    let size = length_push given (chunk_at segment (length given) bundle) in
    let more : suc (length given) ≡ length (given ++ chunk_at segment (length given) bundle ∷ []) = omega arith in
    ap (λ chunks. chunks ++ chunk_at segment (length given) bundle ∷ []) is
    ∙ ap (λ count. first_chunks segment count bundle) more
