-- Relations: the history of a cutter, and what follows from its fields.
use Rattle.std.specs.Prelude.{◌≡◌, ℕ, ◌+◌, ◌<◌, ◌≤◌, max, Bool, true, nat_lt, List, [], length, Option, Some, None}
use Rattle.link_wire.specs.Bytes.{AreBytes}
use Rattle.link_transfer.specs.Chunks.{first_chunks}
use Rattle.link_transfer.specs.Cutting.{Cutting, due, uncut}
use Rattle.link_transfer.specs.Held.{waits, wanted_size}
use Rattle.link_transfer.specs.declared.cutter.Cutter.{Cutter}

-- whether a chunk is ready, and waits for the next `cut`
abbrev pub has_ready_chunk : Cutter → Bool
has_ready_chunk cutter =
    waits cutter.begun cutter.ended cutter.segment cutter.hold (length cutter.held.bytes)

-- the number of further bytes that are needed until a chunk is ready, if the bundle does not end
-- earlier
abbrev pub wanted_by : Cutter → ℕ
wanted_by cutter = wanted_size cutter.begun cutter.segment cutter.hold (length cutter.held.bytes)

-- the number of bytes that were not cut
abbrev pub held_size : Cutter → ℕ
held_size cutter = length cutter.held.bytes

-- the number of bytes kept: the chunk of the latest cut, until the next push or cut, and the bytes
-- not cut yet
abbrev pub kept_size : Cutter → ℕ
kept_size cutter = length cutter.held.given + length cutter.held.bytes

-- `given` is the chunk of the latest cut, which is not empty. If no chunk is kept, `given` is
-- empty.
abbrev pub IsLatestChunk : Option (List ℕ) → List ℕ → Type 0
IsLatestChunk None given = given ≡ []
IsLatestChunk (Some chunk) given = (given ≡ chunk) × (0 < length chunk)

-- this is exactly the history of the cutter
pub record IsCutterAt (cutter : Cutter) (so_far : Cutting) : Type 0 where
  pub some : 0 < so_far.segment
  pub segment : cutter.segment ≡ so_far.segment
  pub hold : cutter.hold ≡ so_far.hold
  pub bytes : AreBytes so_far.bundle
  -- The chunks that were cut are the first chunks of the bundle. They are all due. At least one
  -- chunk of a whole bundle is left.
  pub given : so_far.given ≡ first_chunks so_far.segment (length so_far.given) so_far.bundle
  pub few : length so_far.given ≤ due so_far
  pub left : so_far.whole ≡ true → length so_far.given < due so_far
  -- the rest is held, and the chunk of the latest cut is kept
  pub held : cutter.held.bytes ≡ uncut so_far
  pub chunk : IsLatestChunk so_far.chunk cutter.held.given
  pub begun : cutter.begun ≡ nat_lt 0 (length so_far.given)
  pub ended : cutter.ended ≡ so_far.whole
  -- `segment` bytes at most are kept, or `hold + 1` if this is more
  pub kept : kept_size cutter ≤ max so_far.segment (so_far.hold + 1)
