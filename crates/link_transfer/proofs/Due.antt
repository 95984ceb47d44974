-- The number of chunks that are due.
use Rattle.std.proofs.Common.{◌≡◌, ℕ, ◌+◌, ◌-◌, ◌*◌, ◌/◌, ◌<◌, ◌≤◌, Bool, true, false, ltb, leb, eqb, refl, arith}
use Rattle.std.proofs.{Math.Nat.le-div_iff_mul-le, lemmas.Bool.Decides.nat_tests}
use Rattle.link_transfer.specs.{Chunks.chunk_count, Cutting.due_of, Held.{waits, wanted_size}}

-- that many segments fit in the size
pub fits : (segment count size : ℕ) → 0 < segment → count ≤ size / segment → count * segment ≤ size
fits segment count size some few = (le-div_iff_mul-le some).0 few

pub fits_back : (segment count size : ℕ) → 0 < segment → count * segment ≤ size
    → count ≤ size / segment
fits_back segment count size some few = (le-div_iff_mul-le some).1 few

-- the chunks cut of an incomplete bundle lie within it
pub given_within : (segment hold count size : ℕ) → 0 < segment
    → count ≤ due_of false segment hold size → count * segment ≤ size
given_within segment hold count size some few =
    grind (arith, nat_tests, fits segment count size some)

-- whether a chunk is ready
pub waits_as_due : (whole : Bool) (segment hold count size : ℕ) → 0 < segment
    → count ≤ due_of whole segment hold size
    → (whole ≡ true → count < due_of whole segment hold size)
    → ltb count (due_of whole segment hold size)
    ≡ waits (ltb 0 count) whole segment hold (size - count * segment)
waits_as_due true segment hold count size some few left = grind (arith, nat_tests, left refl)
waits_as_due false segment hold count size some few left =
    grind (arith, nat_tests, fits segment count size some, fits segment (count + 1) size some, fits_back segment (count + 1) size some)

-- at least as many chunks are due after more bytes
pub due_more : (last : Bool) (segment hold count size more : ℕ) → 0 < segment → 0 < more
    → count ≤ due_of false segment hold size → count ≤ due_of last segment hold (size + more)
due_more true segment hold count size more some next few =
    fits_back segment count _ some (omega (arith, given_within segment hold count size some few))
due_more false segment hold count size more some next few =
    grind (arith, nat_tests, given_within segment hold count size some few, fits_back segment count (size + more) some)

-- a chunk of a whole bundle is left while a byte is left
pub chunk_left : (segment count size : ℕ) → 0 < segment → count * segment < size
    → count < chunk_count segment size
chunk_left segment count size some within =
    omega (arith, fits_back segment (count + 1) (size + (segment - 1)) some (omega arith))

pub byte_left : (segment count size : ℕ) → 0 < segment → count < chunk_count segment size
    → count * segment < size
byte_left segment count size some within =
    omega (arith, fits segment (count + 1) (size + (segment - 1)) some (omega arith))

-- the last chunk is the one after which no byte is left
pub last_of : (segment count size : ℕ) → 0 < segment → count < chunk_count segment size
    → leb (size - count * segment) segment ≡ eqb (count + 1) (chunk_count segment size)
last_of segment count size some within =
    grind (arith, nat_tests, fits segment (count + 2) (size + (segment - 1)) some, fits_back segment (count + 2) (size + (segment - 1)) some, fits segment (count + 1) (size + (segment - 1)) some)

-- at least one byte is needed if no chunk is ready
pub wanted_some : (begun : Bool) (segment hold size : ℕ)
    → waits begun false segment hold size ≡ false → 0 < segment
    → 0 < wanted_size begun segment hold size
wanted_some begun segment hold size quiet some = grind (arith, nat_tests)

-- a chunk is ready after the last byte that is needed, and not before
pub waits_when_wanted : (begun : Bool) (segment hold size : ℕ)
    → waits begun false segment hold (size + 1) ≡ leb (wanted_size begun segment hold size) 1
waits_when_wanted begun segment hold size = grind (arith, nat_tests)
