-- The chunks of a bundle are the only list with their sizes.
use Rattle.std.proofs.Common.{◌≡◌, ℕ, zero, suc, ◌+◌, ◌-◌, ◌*◌, ◌<◌, ◌≤◌, List, [], ◌∷◌, ◌++◌, length, take, drop, ap, ap₂, sym, ◌∙◌, arith, ◌/◌}
use Rattle.std.specs.List.{flat_map}
use Rattle.std.proofs.lemmas.{Nat.div_below}
use Rattle.std.proofs.lemmas.List.{append-nil, length-append, length-take, length-take-le, length-drop, take_all, take_at, drop_at, drop-drop, nil_from_length, take-append-drop}
use Rattle.link_transfer.specs.Chunks.{chunk_count, chunks, first_chunks, HaveChunkSizes, AreChunks}
use Rattle.link_transfer.proofs.{Chunking.first_chunks-zero, Due.{fits, fits_back}}

-- the first chunk, and then those of the other bytes
first_chunks-suc : (segment count : ℕ) (bundle : List ℕ)
    → first_chunks segment (suc count) bundle
    ≡ take segment bundle ∷ first_chunks segment count (drop segment bundle)
unfolding first_chunks
first_chunks-suc segment zero bundle =
    let none : drop (0 * segment) bundle ≡ bundle = ap (λ n. drop n bundle) {y = 0} (omega arith) in
    ap (λ rest. take segment rest ∷ []) none
first_chunks-suc segment (suc count) bundle =
    let next : segment + count * segment ≡ suc count * segment = omega arith in
    let same : drop (suc count * segment) bundle ≡ drop (count * segment) (drop segment bundle) =
    sym (drop-drop (count * segment) segment bundle ∙ ap (λ n. drop n bundle) next) in
    ap₂ (λ chunks rest. chunks ++ take segment rest ∷ []) (first_chunks-suc segment count bundle) same

-- Two bounds determine the number of chunks. The chunks have room for all bytes, and the last has a
-- byte.
record AreCounted (segment count size : ℕ) : Type 0 where
  all : size ≤ count * segment
  last : count * segment < size + segment

counted : (segment size : ℕ) → 0 < segment → AreCounted segment (chunk_count segment size) size
counted segment size some =
    let count : ℕ = chunk_count segment size in
    let most : ℕ = size + (segment - 1) in
    record {
      all = grind (arith, fits_back segment (count + 1) most some);
      last = omega (arith, fits segment count most some (omega arith));
    }

only_count : (segment count size : ℕ) → 0 < segment → AreCounted segment count size
    → count ≡ chunk_count segment size
only_count segment count size some is =
    let most : ℕ = size + (segment - 1) in
    let low : count ≤ most / segment = fits_back segment count most some (omega (arith, is.last)) in
    let high : most / segment < count + 1 =
    div_below most segment (count + 1) some (omega (arith, is.all)) in
    omega arith

-- the chunks after the first
counted_rest : (segment count : ℕ) (bundle : List ℕ)
    → AreCounted segment (suc count) (length bundle)
    → AreCounted segment count (length (drop segment bundle))
counted_rest segment count bundle is = record {
  all = omega (arith, is.all, length-drop segment bundle);
  last = omega (arith, is.last, length-drop segment bundle);
}

-- the chunks have the sizes of segments
sizes_of : (segment count : ℕ) (bundle : List ℕ) → AreCounted segment count (length bundle)
    → HaveChunkSizes segment (first_chunks segment count bundle)
sizes_of segment zero bundle is = rw first_chunks-zero tt
sizes_of segment (suc zero) bundle is =
    rw (first_chunks-suc segment 0 bundle, first_chunks-zero) (
      omega (arith, is.all, is.last, length-take segment bundle),
      omega (arith, length-take segment bundle),
    )
sizes_of segment (suc (suc count)) bundle is =
    let rest = drop segment bundle in
    let others = sizes_of segment (suc count) rest (counted_rest segment (suc count) bundle is) in
    rw (first_chunks-suc segment (suc count) bundle, first_chunks-suc segment count rest) (
      length-take-le segment bundle (omega (arith, is.last)),
      rw (first_chunks-suc segment count rest) at others,
    )

abbrev joined : List (List ℕ) → List ℕ
joined list = flat_map (λ (chunk : List ℕ). chunk) list

-- joined, the chunks are the bundle
joined_of : (segment count : ℕ) (bundle : List ℕ) → AreCounted segment count (length bundle)
    → joined (first_chunks segment count bundle) ≡ bundle
joined_of segment zero bundle is =
    rw first_chunks-zero (sym (nil_from_length bundle (omega (arith, is.all))))
joined_of segment (suc count) bundle is =
    rw (
      first_chunks-suc segment count bundle,
      joined_of segment count (drop segment bundle) (counted_rest segment count bundle is),
    ) (take-append-drop segment bundle)

-- a list with the sizes of segments is the list of chunks
only_chunks : (segment : ℕ) (list : List (List ℕ)) → 0 < segment → HaveChunkSizes segment list
    → list ≡ chunks segment (joined list)
unfolding chunks
only_chunks segment [] some sizes =
    let none = only_count segment 0 0 some (record { all = omega arith; last = omega arith }) in
    rw (← none) (sym (first_chunks-zero segment []))
only_chunks segment (chunk ∷ []) some sizes =
    let one = only_count segment 1 (length chunk) some
    (record { all = omega (arith, sizes.1); last = omega (arith, sizes.0) }) in
    rw (append-nil chunk, ← one, first_chunks-suc segment 0 chunk, first_chunks-zero)
    (ap (λ (chunk : List ℕ). chunk ∷ []) (sym (take_all segment chunk sizes.1)))
only_chunks segment (chunk ∷ next ∷ more) some sizes =
    let rest = joined (next ∷ more) in
    let count = chunk_count segment (length rest) in
    let is = counted segment (length rest) some in
    let size : length (chunk ++ rest) ≡ segment + length rest =
    omega (arith, length-append chunk rest, sizes.0) in
    let one_more = only_count segment (suc count) (segment + length rest) some
    (record { all = omega (arith, is.all); last = omega (arith, is.last) }) in
    rw (
      size,
      ← one_more,
      first_chunks-suc segment count (chunk ++ rest),
      take_at chunk rest segment sizes.0,
      drop_at chunk rest segment sizes.0,
      ← only_chunks segment (next ∷ more) some sizes.1,
    )

pub AreChunks-chunks : (segment : ℕ) (bundle : List ℕ) → 0 < segment
    → AreChunks segment bundle (chunks segment bundle)
unfolding chunks
AreChunks-chunks segment bundle some = record {
  joined = joined_of segment _ bundle (counted segment (length bundle) some);
  sizes = sizes_of segment _ bundle (counted segment (length bundle) some);
}

pub chunks_only : (segment : ℕ) (bundle : List ℕ) (list : List (List ℕ)) → 0 < segment
    → AreChunks segment bundle list → list ≡ chunks segment bundle
chunks_only segment bundle list some are = only_chunks segment list some are.sizes ∙ ap (chunks segment) are.joined
