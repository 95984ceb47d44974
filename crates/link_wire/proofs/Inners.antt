-- Inner segments that lie whole in a window, with their data.
use Rattle.std.proofs.Common.{◌≡◌, ℕ, ◌<◌, ◌≤◌, List, [], ◌∷◌, ◌++◌, length, take, drop, slice_index, slice_range, refl, arith, length-take, length-drop}
use Rattle.byteorder.specs.Endian.{big_number}
use Rattle.link_io.specs.{Device.Input, Source.{window_of, IsLive, Takes}}
use Rattle.link_io.specs.declared.source.Source.{Source}
use Rattle.link_wire.specs.{Getting.IsPart}
use Rattle.link_wire.specs.Inner.{inner_segment, HasInnerSegment, inner_bytes, PassedInner}
use Rattle.link_wire.specs.Message.{message_at}
use Rattle.link_wire.specs.Session.{IsSessionAt, GivenHead}
use Rattle.link_wire.specs.declared.session.Phase.TheVariants as phase
use Rattle.link_wire.specs.declared.session.Session.{Session}
use Rattle.link_wire.proofs.{Plains.later_head, Sessions.{came, data_given}}

-- the type byte and the flags, from the number that they are together
pub two_bytes : (window : List ℕ) → 2 ≤ length window → slice_index window 1 < 256
    → big_number 2 (take 2 window) ≡ 256
    → (slice_index window 0 ≡ 1) × (slice_index window 1 ≡ 0)
two_bytes [] enough byte is = absurd (omega arith)
two_bytes (kind ∷ []) enough byte is = absurd (omega arith)
two_bytes (kind ∷ flags ∷ rest) enough byte is = (omega arith, omega arith)

-- the head of a segment without flags
pub inner_head : (window : List ℕ) → 18 ≤ length window → slice_index window 0 ≡ 1
    → slice_index window 1 ≡ 0
    → IsPart message_at (take 18 window)
    (inner_segment (big_number 8 (slice_range window 2 10)) (big_number 8 (slice_range window 10 18)))
inner_head window enough is none =
    rw none at (later_head window enough is (rw none (λ is. absurd (omega arith))))

bytes_size : (id size : ℕ) (window : List ℕ) → HasInnerSegment id window size
    → length (inner_bytes window size) ≡ size
bytes_size id size window is =
    let within = is.within in
    omega (arith, length-take size (drop 18 window), length-drop 18 window)

-- the head was given, and then the data
module _ {R : Type 0} {look : R → Input} (old new : Session R) (history : List ℕ)
    (at : IsSessionAt look old history) (between : old.left ≡ 0) (source : Source R) (id size : ℕ)
    (is : HasInnerSegment id (window_of old.source) size)
    (head : Takes look old.source source (take 18 (window_of old.source)))
    (rest : window_of source ≡ drop 18 (window_of old.source)) (live : IsLive look source)
    (body : Takes look source new.source (take size (window_of source)))
    (live_after : IsLive look new.source) (offset : new.offset ≡ length history)
    (left : new.left ≡ 0) (going : new.phase ≡ phase.Reading) where
  abbrev window : List ℕ
  window = window_of old.source

  abbrev content : List ℕ
  content = inner_bytes window size

  data_size : length content ≡ size
  data_size = bytes_size id size window is

  -- the session between the head and the data
  abbrev mid : Session R
  mid = record {
    source = source;
    offset = length history;
    left = length content;
    phase = phase.Reading;
  }

  head_read : GivenHead look old mid history (length history) (inner_segment id (length content))
  head_read =
      came old history at between mid (inner_segment id (length content))
      (record { given = take 18 window; takes = head; live = live; is = rw data_size is.is })
      refl refl refl

  pub inner_passed : PassedInner look old new history id content
  inner_passed =
      let some = is.some in
      record {
        mid = mid;
        offset = length history;
        read = head_read;
        some = omega (arith, data_size);
        gave = data_given mid new (history ++ head_read.given) content head_read.at
            (rw rest at body) live_after going offset (omega (arith, left));
        none = left;
      }
