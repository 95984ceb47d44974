-- The segments of a transfer (RFC 9174 section 5.2.2): the chunks of a bundle, each after its head.
use Rattle.std.specs.Prelude.{ℕ, zero, suc, ◌+◌, ◌-◌, Bool, false, ◌&&◌, ◌==◌, List, [], ◌++◌, length, None, if◌then◌else◌}
use Rattle.link_wire.specs.Spelling.{segment_head_bytes}
use Rattle.link_transfer.specs.Chunks.{chunk_at, chunk_count, first_chunks}
use Rattle.link_transfer.specs.Cutting.{Cutting, beginning, due_of, due, announcement}
use Rattle.link_transfer.specs.declared.cut.Cut.{Cut}

-- the flag START is 2, and the flag END is 1
abbrev pub flags_of : (first last : Bool) → ℕ
flags_of first last = (if first then 2 else 0) + (if last then 1 else 0)

-- a chunk with this cut, as a segment
abbrev pub segment_bytes : (id : ℕ) → Cut → (chunk : List ℕ) → List ℕ
segment_bytes id cut chunk =
    segment_head_bytes (flags_of cut.first cut.last) id (length chunk) cut.announce ++ chunk

-- The bytes of a bundle that have come, and the sizes by which they are cut: `segment` is the most
-- bytes of data in a segment, and `hold` is the greatest length that is announced.
pub record BundleToCut : Type 0 where
  pub segment : ℕ
  pub hold : ℕ
  -- the bytes, and whether they are a whole bundle
  pub bundle : List ℕ
  pub whole : Bool

-- the history of a cutter to which these bytes were pushed, before any chunk is given
abbrev pub cutting_of : BundleToCut → Cutting
cutting_of sending =
    record {
      segment = sending.segment;
      hold = sending.hold;
      bundle = sending.bundle;
      whole = sending.whole;
      given = [];
      chunk = None;
    }

-- the cut of chunk `k`, counted from 0; only the first chunk may announce the length
abbrev pub cut_at : BundleToCut → (k : ℕ) → Cut
cut_at sending k = record {
  first = k == 0;
  last = sending.whole && (k + 1 == chunk_count sending.segment (length sending.bundle));
  announce = if k == 0 then announcement (cutting_of sending) else None;
}

-- the segments of `count` chunks, from chunk `k` on, counted from 0
unfoldable pub segments_from : (id : ℕ) → BundleToCut → (k count : ℕ) → List ℕ
segments_from id sending k zero = []
segments_from id sending k (suc count) =
    segment_bytes id (cut_at sending k) (chunk_at sending.segment k sending.bundle)
    ++ segments_from id sending (suc k) count

-- All segments that are due. If the bundle is whole, they are all of its segments. If it is
-- incomplete, they are the segments of its full chunks. But none is due while the bundle's length
-- may still be announced.
abbrev pub segments_of : (id : ℕ) → BundleToCut → List ℕ
segments_of id sending = segments_from id sending 0 (due (cutting_of sending))

-- ---- the segments that a cutter still has to give

-- the bytes and the sizes of this history of a cutter
abbrev pub sending_of : Cutting → BundleToCut
sending_of so_far =
    record {
      segment = so_far.segment;
      hold = so_far.hold;
      bundle = so_far.bundle;
      whole = so_far.whole;
    }

-- the segments of the chunks that are due and were not given
abbrev pub segments_left : (id : ℕ) → Cutting → List ℕ
segments_left id so_far =
    segments_from id (sending_of so_far) (length so_far.given) (due so_far - length so_far.given)

-- this history after all due chunks were given; after those of a whole bundle, the next bundle
-- begins
abbrev pub all_given : Cutting → Cutting
all_given so_far =
    if so_far.whole then beginning so_far.segment so_far.hold
    else record so_far {
      given = first_chunks so_far.segment (due so_far) so_far.bundle;
      chunk = None;
    }

-- the history of a cutter to which these bytes of an incomplete bundle were pushed, and which has
-- given all due chunks
abbrev pub going : (segment hold : ℕ) → (bundle : List ℕ) → Cutting
going segment hold bundle = record {
  segment = segment;
  hold = hold;
  bundle = bundle;
  whole = false;
  given = first_chunks segment (due_of false segment hold (length bundle)) bundle;
  chunk = None;
}
