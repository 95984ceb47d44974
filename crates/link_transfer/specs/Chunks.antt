-- The chunks of a bundle, which are the data of its segments (RFC 9174 section 5.2.2).
use Rattle.std.specs.Prelude.{◌≡◌, ℕ, zero, suc, ◌+◌, ◌-◌, ◌*◌, ◌/◌, ◌<◌, ◌≤◌, List, [], ◌∷◌, ◌++◌, length, take, drop}
use Rattle.std.specs.List.{flat_map}

-- `segment` is the greatest number of data bytes in a segment

-- chunk number `k`, counted from 0: at most `segment` bytes, which follow the first `k` chunks
abbrev pub chunk_at : (segment : ℕ) → (k : ℕ) → List ℕ → List ℕ
chunk_at segment k bundle = take segment (drop (k * segment) bundle)

-- the first `count` chunks of a bundle, each of at most `segment` bytes
unfoldable pub first_chunks : (segment : ℕ) → (count : ℕ) → List ℕ → List (List ℕ)
first_chunks segment zero bundle = []
first_chunks segment (suc count) bundle =
    first_chunks segment count bundle ++ chunk_at segment count bundle ∷ []

-- the number of chunks of a bundle of `size` bytes: one for each full segment, and one for any rest
abbrev pub chunk_count : (segment : ℕ) → (size : ℕ) → ℕ
chunk_count segment size = (size + (segment - 1)) / segment

-- all chunks of a bundle
unfoldable pub chunks : (segment : ℕ) → List ℕ → List (List ℕ)
chunks segment bundle = first_chunks segment (chunk_count segment (length bundle)) bundle

-- Each chunk has exactly `segment` bytes. Only the last chunk may have fewer, but at least one.
abbrev pub HaveChunkSizes : (segment : ℕ) → List (List ℕ) → Type 0
HaveChunkSizes segment [] = Unit {0}
HaveChunkSizes segment (chunk ∷ []) = (0 < length chunk) × (length chunk ≤ segment)
HaveChunkSizes segment (chunk ∷ next ∷ more) =
    (length chunk ≡ segment) × HaveChunkSizes segment (next ∷ more)

-- The list has the properties of a bundle's chunks: joined they are the bundle, and their sizes are
-- as `HaveChunkSizes` says.
pub record AreChunks (segment : ℕ) (bundle : List ℕ) (list : List (List ℕ)) : Type 0 where
  pub joined : flat_map (λ chunk. chunk) list ≡ bundle
  pub sizes : HaveChunkSizes segment list
