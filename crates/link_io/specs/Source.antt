-- Which bytes of its reader a `Source` has *given* to its caller. It reads ahead: the bytes that
-- were *taken* from the reader and not given are its window.
use Rattle.std.specs.Prelude.{◌≡◌, ℕ, ◌+◌, ◌-◌, ◌<◌, ◌≤◌, Bool, true, false, ◌&&◌, ◌==◌, nat_lt, if◌then◌else◌, List, [], ◌∷◌, ◌++◌, length, take, slice_range, Option, Result, Ok, Err}
use Rattle.std.specs.Io.KnownBytes.{Consumes, IsAtEnd, prepend_known}
use Rattle.link_io.specs.Bytes.{AreBytes}
use Rattle.link_io.specs.Device.{Input}
use Rattle.link_io.specs.Limits.{longest_input, window_size}
use Rattle.link_io.specs.declared.fault.IoFault.{IoFault}
use Rattle.link_io.specs.declared.fault.IoFault.TheVariants as io
use Rattle.link_io.specs.declared.source.Filled.{Filled}
use Rattle.link_io.specs.declared.source.Filled.TheVariants as filled
use Rattle.link_io.specs.declared.source.Flow.{Flow}
use Rattle.link_io.specs.declared.source.Flow.TheVariants as flow
use Rattle.link_io.specs.declared.source.Source.{Source}

-- the result of a `fill` of this slice after the end: nothing is given, and an empty slice is full
abbrev pub filled_at_end : List ℕ → Filled
filled_at_end [] = filled.Whole
filled_at_end (byte ∷ buffer) = filled.Ended 0

-- whether more bytes may come from the reader
abbrev pub is_open : Flow → Bool
is_open flow.Open = true
is_open flow.Ended = false
is_open (flow.Failed fault) = false

-- `IsLive`, by the fields of a source
abbrev pub IsLiveBy : Flow → Option (List ℕ) → ℕ → ℕ → Type 0
IsLiveBy flow.Open left start end = Unit {0}
IsLiveBy flow.Ended left start end = IsAtEnd left × (start ≡ end)
IsLiveBy (flow.Failed fault) left start end = ⊥

-- The bytes that a source can still give of `held`, which is what its reader holds: the first
-- `most` of them. If it gave more than `most`, the input would be too long. After the end or a
-- stop, it gives none, even if the reader holds some. If the window is empty, this is the front.
abbrev pub held_from : Flow → (most : ℕ) → (held : List ℕ) → List ℕ
held_from flow.Open most held = take most held
held_from flow.Ended most held = []
held_from (flow.Failed fault) most held = []

module _ {R : Type 0} where
  -- the reader, in its present state
  abbrev pub reader_of : Source R → R
  reader_of source = source.reader

  -- the number of bytes given
  abbrev pub given_by : Source R → ℕ
  given_by source = source.given

  -- the window: the bytes that were taken and not given
  abbrev pub window_of : Source R → List ℕ
  window_of source = slice_range source.window source.start source.end

  -- the number of bytes taken from the reader
  abbrev pub taken_by : Source R → ℕ
  taken_by source = source.given + (source.end - source.start)

  -- the bytes still to be given, if they are known: the window, and then what the reader has left
  abbrev pub ahead : (R → Input) → Source R → Option (List ℕ)
  ahead look source = prepend_known (window_of source) (look source.reader).left

  -- The bytes at hand, which are given without a read: those of the window, and then those that the
  -- reader holds and that are not taken yet, up to the limit of an input.
  abbrev pub at_hand : (R → Input) → Source R → List ℕ
  at_hand look source =
      window_of source
      ++ held_from source.flow (longest_input - taken_by source) (look source.reader).held

  -- The front: the bytes of the window, or, if the window is empty, the bytes that the source can
  -- still give of what its reader holds (`held_from`). They lie in one piece.
  unfoldable pub front_of : (R → Input) → Source R → List ℕ
  front_of look source =
      if nat_lt source.start source.end
      then window_of source
      else held_from source.flow (longest_input - source.given) (look source.reader).held

  -- How far the input is at hand: the offset after the bytes of the window and those that the
  -- reader holds, and whether more may come. Only a read changes it. A read that brings more bytes,
  -- the end or a fault always changes it.
  abbrev pub reach : (R → Input) → Source R → ℕ × Flow
  reach look source =
      (source.given + (length (window_of source) + length (look source.reader).held), source.flow)

  -- from `old` to `new` nothing was read, and these bytes were given: the first of those at hand
  pub record GivesAtHand (look : R → Input) (old new : Source R) (bytes : List ℕ) : Type 0 where
    pub unread : reach look new ≡ reach look old
    pub parts : at_hand look old ≡ bytes ++ at_hand look new

  -- the source has given exactly these bytes since it was made
  pub record IsSourceAt (source : Source R) (history : List ℕ) : Type 0 where
    pub bytes : AreBytes history
    pub given : given_by source ≡ length history

  -- nothing was given or taken, and more bytes may come
  abbrev pub is_fresh : Source R → Bool
  is_fresh source = (source.given == 0) && (is_open source.flow && (source.start == source.end))

  -- the input has ended and the window is empty: no call reads any more
  abbrev pub HasEnded : Source R → Type 0
  HasEnded source = (source.flow ≡ flow.Ended) × (source.start ≡ source.end)

  -- the source has stopped at this fault and the window is empty: no call reads any more
  abbrev pub HasFailed : Source R → IoFault → Type 0
  HasFailed source fault = (source.flow ≡ flow.Failed fault) × (source.start ≡ source.end)

  -- the source has not failed: more bytes may come, or none is left
  abbrev pub IsLive : (R → Input) → Source R → Type 0
  IsLive look source = IsLiveBy source.flow (look source.reader).left source.start source.end

  -- the input has ended, and no byte of it is left
  pub record IsOver (look : R → Input) (source : Source R) : Type 0 where
    pub ended : HasEnded source
    pub empty : IsAtEnd (look source.reader).left

  -- What is known of the window after the source gave these bytes. If none was given, the window
  -- has not changed. If a byte was given, the window is not full: it is empty, or a byte of it was
  -- given after the latest read.
  pub record KeepsWindowOrMakesRoom (old new : Source R) (bytes : List ℕ) : Type 0 where
    pub kept : length bytes ≡ 0 → window_of new ≡ window_of old
    pub less : 0 < length bytes → length (window_of new) < window_size

  -- From `old` to `new`, the source gave its caller these bytes, which are the next of the input,
  -- and the reader did not fail.
  pub record Takes (look : R → Input) (old new : Source R) (bytes : List ℕ) : Type 0 where
    pub bytes_fit : AreBytes bytes
    pub next : Consumes (ahead look old) (ahead look new) bytes
    pub count : given_by new ≡ given_by old + length bytes
    pub device : (look new.reader).failed ≡ (look old.reader).failed
    pub window : KeepsWindowOrMakesRoom old new bytes

  -- From `old` to `new` nothing was given, and the reader did not fail. A window that had bytes has
  -- not changed.
  pub record Readies (look : R → Input) (old new : Source R) : Type 0 where
    pub next : Consumes (ahead look old) (ahead look new) []
    pub count : given_by new ≡ given_by old
    pub device : (look new.reader).failed ≡ (look old.reader).failed
    pub kept : 0 < length (window_of old) → window_of new ≡ window_of old

  -- Why the source stopped at this fault. `past` is the bytes that were taken and not given. At
  -- `Read`, the reader failed, and there are none. At `InputTooLong`, `past` is all that the latest
  -- read brought, and its last byte is past the limit of an input. No other fault stops a source.
  abbrev pub HasCause : (R → Input) → Source R → IoFault → List ℕ → Type 0
  HasCause look new io.Read past = (past ≡ []) × ((look new.reader).failed ≡ true)
  HasCause look new io.InputTooLong past =
      (length past ≤ window_size) × (longest_input < given_by new + length past)
  HasCause look new io.Write past = ⊥
  HasCause look new io.Memory past = ⊥

  -- From `old` to `new`, the source gave these bytes, the next of the input, and then stopped at
  -- this fault. The bytes `past` were taken and not given, if the input is too long (`HasCause`).
  pub record TakesThenStops (look : R → Input) (old new : Source R) (bytes : List ℕ)
      (fault : IoFault) : Type 0 where
    pub bytes_fit : AreBytes bytes
    pub past : List ℕ
    pub next : Consumes (ahead look old) (look new.reader).left (bytes ++ past)
    pub count : given_by new ≡ given_by old + length bytes
    pub cause : HasCause look new fault past
    -- a byte past the limit is no failure of the reader
    pub device : fault ≡ io.InputTooLong → (look new.reader).failed ≡ (look old.reader).failed
    pub failed : HasFailed new fault

  -- `ready` returned `n`: the window has `n` bytes; if `n` is 0, the input is over.
  pub record ReadiedWindow (look : R → Input) (old new : Source R) (n : ℕ) : Type 0 where
    pub readies : Readies look old new
    pub live : IsLive look new
    pub size : n ≡ length (window_of new)
    pub over : n ≡ 0 → IsOver look new

  -- what `ready` did, by its result
  abbrev pub AfterReady : (R → Input) → Source R → Source R → Result ℕ IoFault → Type 0
  AfterReady look old new (Ok n) = ReadiedWindow look old new n
  AfterReady look old new (Err fault) = TakesThenStops look old new [] fault

  -- `ready_front` returned `n`: the front has `n` bytes; if `n` is 0, the input is over.
  pub record ReadiedFront (look : R → Input) (old new : Source R) (n : ℕ) : Type 0 where
    pub readies : Readies look old new
    pub live : IsLive look new
    pub size : n ≡ length (front_of look new)
    pub over : n ≡ 0 → IsOver look new

  -- what `ready_front` did, by its result
  abbrev pub AfterReadyFront : (R → Input) → Source R → Source R → Result ℕ IoFault → Type 0
  AfterReadyFront look old new (Ok n) = ReadiedFront look old new n
  AfterReadyFront look old new (Err fault) = TakesThenStops look old new [] fault

  -- `some` returned `n`: it gave the first `n` bytes of the buffer, as it is after the call. If the
  -- buffer has room and `n` is 0, the input is over.
  pub record GivenBytes (look : R → Input) (old new : Source R)
      (buffer : List ℕ) (n : ℕ) : Type 0 where
    pub room : n ≤ length buffer
    pub takes : Takes look old new (take n buffer)
    pub live : IsLive look new
    pub over : n ≡ 0 → 0 < length buffer → IsOver look new

  -- what `some` did, by its result; the buffer is as it is after the call
  abbrev pub AfterGivingSome : (R → Input) → Source R → Source R → List ℕ → Result ℕ IoFault
      → Type 0
  AfterGivingSome look old new buffer (Ok n) = GivenBytes look old new buffer n
  AfterGivingSome look old new buffer (Err fault) = TakesThenStops look old new [] fault

  -- `fill` gave as many bytes as the slice has room for. `buffer` is the slice after the call.
  pub record FilledSlice (look : R → Input) (old new : Source R) (buffer : List ℕ) : Type 0 where
    pub takes : Takes look old new buffer
    pub live : IsLive look new

  -- `fill` gave the first `n` bytes of the slice, fewer than it has room for, and the input is over
  pub record EndedInSlice (look : R → Input) (old new : Source R)
      (buffer : List ℕ) (n : ℕ) : Type 0 where
    pub part : n < length buffer
    pub takes : Takes look old new (take n buffer)
    pub over : IsOver look new

  -- `fill` gave the first `count` bytes of the slice, fewer than it has room for, and then the
  -- source stopped at this fault
  pub record FailedSlice (look : R → Input) (old new : Source R) (buffer : List ℕ)
      (fault : IoFault) : Type 0 where
    pub count : ℕ
    pub part : count < length buffer
    pub stops : TakesThenStops look old new (take count buffer) fault

  -- what `fill` did, by its result; the buffer is as it is after the call
  abbrev pub AfterFill : (R → Input) → Source R → Source R → List ℕ → Result Filled IoFault → Type 0
  AfterFill look old new buffer (Ok filled.Whole) = FilledSlice look old new buffer
  AfterFill look old new buffer (Ok (filled.Ended n)) = EndedInSlice look old new buffer n
  AfterFill look old new buffer (Err fault) = FailedSlice look old new buffer fault

  -- What each call that fills a slice ensures. `before` and `after` are the slice before and after
  -- the call.
  pub record FillsSlice (look : R → Input) (old new : Source R) (before after : List ℕ)
      (result : Result Filled IoFault) : Type 0 where
    pub gives : IsLive look old → AfterFill look old new after result
    pub ended : HasEnded old → (new ≡ old) × (result ≡ Ok (filled_at_end before))
    pub failed : (fault : IoFault) → HasFailed old fault → (new ≡ old) × (result ≡ Err fault)
    pub untouched : (fault : IoFault) → HasFailed old fault → after ≡ before
