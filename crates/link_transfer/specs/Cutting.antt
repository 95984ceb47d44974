-- How a bundle is cut while its bytes come, and when each chunk is cut.
use Rattle.std.specs.Prelude.{ℕ, ◌+◌, ◌*◌, ◌/◌, Bool, true, false, ◌&&◌, ◌==◌, nat_lt, nat_le, List, [], ◌∷◌, ◌++◌, length, drop, Option, Some, None, is_some, if◌then◌else◌}
use Rattle.link_transfer.specs.Chunks.{chunk_at, chunk_count}
use Rattle.link_transfer.specs.declared.cut.Cut.{Cut}

-- The history of a cutter for segments of at most `segment` bytes. The cutter may announce lengths
-- of at most `hold` bytes.
pub record Cutting : Type 0 where
  pub segment : ℕ
  pub hold : ℕ
  -- the bytes of the current bundle that were pushed, and whether its last byte was among them
  pub bundle : List ℕ
  pub whole : Bool
  -- the chunks of the current bundle that were cut
  pub given : List (List ℕ)
  -- the chunk of the latest cut, until the next push or cut
  pub chunk : Option (List ℕ)

-- the history of a new cutter: no byte was pushed
abbrev pub beginning : (segment hold : ℕ) → Cutting
beginning segment hold =
    record { segment = segment; hold = hold; bundle = []; whole = false; given = []; chunk = None }

-- The history after these bytes were also pushed. `last` is whether they end with the bundle's last
-- byte. Without bytes nothing changes.
abbrev pub with_bytes : List ℕ → (last : Bool) → Cutting → Cutting
with_bytes [] last so_far = so_far
with_bytes (byte ∷ bytes) last so_far =
    record so_far { bundle = so_far.bundle ++ byte ∷ bytes; whole = last; chunk = None }

-- The number of chunks that are due after `size` bytes of a bundle. All chunks of a whole bundle
-- are due. No chunk of an incomplete bundle is due while its length may still be announced. After
-- that each full chunk is due.
abbrev pub due_of : (whole : Bool) (segment hold size : ℕ) → ℕ
due_of whole segment hold size =
    if whole then chunk_count segment size
    else if nat_lt hold size then size / segment
    else 0

-- the number of chunks of the current bundle that are due
unfoldable pub due : Cutting → ℕ
due so_far = due_of so_far.whole so_far.segment so_far.hold (length so_far.bundle)

-- The length that is announced (RFC 9174 section 5.2.5.1). Only a whole bundle of more than one
-- segment and at most `hold` bytes announces its length.
unfoldable pub announcement : Cutting → Option ℕ
announcement so_far =
    if so_far.whole && (nat_lt so_far.segment (length so_far.bundle)
    && nat_le (length so_far.bundle) so_far.hold)
    then Some (length so_far.bundle)
    else None

-- the chunk that the next cut returns
abbrev pub next_chunk : Cutting → List ℕ
next_chunk so_far = chunk_at so_far.segment (length so_far.given) so_far.bundle

-- whether the next chunk is the bundle's last
abbrev pub is_last : Cutting → Bool
is_last so_far =
    so_far.whole && (length so_far.given + 1 == chunk_count so_far.segment (length so_far.bundle))

-- whether the next chunk is the bundle's first
abbrev pub is_first : Cutting → Bool
is_first so_far = length so_far.given == 0

-- the description of the next chunk, if one is ready
unfoldable pub next_cut : Cutting → Option Cut
next_cut so_far =
    if nat_lt (length so_far.given) (due so_far)
    then Some (record {
      first = is_first so_far;
      last = is_last so_far;
      announce = if is_first so_far then announcement so_far else None;
    })
    else None

-- The history after the next chunk was also cut. After the last chunk, another bundle begins.
abbrev pub with_chunk : Cutting → Cutting
with_chunk so_far =
    if is_last so_far
    then record (beginning so_far.segment so_far.hold) { chunk = Some (next_chunk so_far) }
    else record so_far {
      given = so_far.given ++ next_chunk so_far ∷ [];
      chunk = Some (next_chunk so_far);
    }

-- The history after a call of `cut`. If no chunk was ready, the only change is that the chunk of
-- the cut before it is no longer shown.
unfoldable pub after_cut : Cutting → Cutting
after_cut so_far =
    if is_some (next_cut so_far) then with_chunk so_far else record so_far { chunk = None }

-- the chunk of the latest cut is no longer shown
abbrev pub without_chunk : Cutting → Cutting
without_chunk so_far = record so_far { chunk = None }

-- the bytes of the bundle that were not cut
abbrev pub uncut : Cutting → List ℕ
uncut so_far = drop (length so_far.given * so_far.segment) so_far.bundle

-- The bytes that are shown: the chunk of the latest cut, or `left` if there is no such chunk.
-- `left` are the bytes that were not cut.
abbrev pub shown_by : Option (List ℕ) → List ℕ → List ℕ
shown_by (Some chunk) left = chunk
shown_by None left = left

-- the bytes that the cutter shows
unfoldable pub shown : Cutting → List ℕ
shown so_far = shown_by so_far.chunk (uncut so_far)

abbrev pub is_empty : List ℕ → Bool
is_empty [] = true
is_empty (byte ∷ bytes) = false

-- The history after these bytes were pushed, one at a time, until a chunk was ready. If `last` is
-- true, the last of all these bytes is the bundle's last.
unfoldable pub with_each : List ℕ → (last : Bool) → Cutting → Cutting
with_each [] last so_far = so_far
with_each (byte ∷ bytes) last so_far =
    let after = with_bytes (byte ∷ []) (last && is_empty bytes) so_far in
    if is_some (next_cut after) then after else with_each bytes last after
