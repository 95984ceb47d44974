-- Relations: the bytes that a cutter holds, and what follows from their number.
use Rattle.std.specs.Prelude.{ℕ, ◌+◌, ◌-◌, max, Bool, not, ◌||◌, ◌&&◌, ◌==◌, nat_lt, nat_le, List, Option, Some, None, if◌then◌else◌}
use Rattle.link_transfer.specs.declared.cut.Cut.{Cut}

-- `begun` is whether a chunk of the bundle was cut, and `ended` whether its last byte was pushed.
-- `hold` is the greatest length that may be announced. `size` is the number of bytes not cut.

-- the size of the buffer, the bytes that were given last, and the bytes that were not given
pub record HeldBytes : Type 0 where
  pub room : ℕ
  pub given : List ℕ
  pub bytes : List ℕ

-- Whether a chunk is ready, if `size` bytes are held. `begun` is whether a chunk of the bundle was
-- cut, and `ended` whether the bundle's last byte was pushed. A chunk is ready if the bundle has
-- ended, or if a chunk is full and the length can no longer be announced.
abbrev pub waits : (begun ended : Bool) (segment hold size : ℕ) → Bool
waits begun ended segment hold size = ended || (nat_le segment size && (begun || nat_lt hold size))

-- The number of further bytes that are needed until a chunk is ready, if the bundle does not end
-- earlier. `size` bytes are held.
abbrev pub wanted_size : (begun : Bool) (segment hold size : ℕ) → ℕ
wanted_size begun segment hold size = (if begun then segment else max segment (hold + 1)) - size

-- Whether `size` bytes are exactly the next chunk, if nothing is held. `last` is whether the bundle
-- ends with them.
abbrev pub is_chunk : (begun last : Bool) (segment hold size : ℕ) → Bool
is_chunk begun last segment hold size =
    if last then nat_lt 0 size && nat_le size segment
    else (size == segment) && (begun || nat_lt hold size)

-- whether the `size` bytes held are the bundle's last chunk
abbrev pub is_last_of : (ended : Bool) (segment size : ℕ) → Bool
is_last_of ended segment size = ended && nat_le size segment

-- the length that the next cut announces: only the first cut of a whole bundle of more than one
-- segment and at most `hold` bytes announces one
abbrev pub announcement_of : (begun ended : Bool) (segment hold size : ℕ) → Option ℕ
announcement_of begun ended segment hold size =
    if not begun && (ended && (nat_lt segment size && nat_le size hold)) then Some size else None

-- the description of the next chunk, if one is ready
abbrev pub cut_of : (begun ended : Bool) (segment hold size : ℕ) → Cut
cut_of begun ended segment hold size =
    record {
      first = not begun;
      last = is_last_of ended segment size;
      announce = announcement_of begun ended segment hold size;
    }
