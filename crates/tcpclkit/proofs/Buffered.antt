-- Lemmas on buffered streams: the bytes left in an input, and the bytes handed on.
use Rattle.std.proofs.Common.{◌≡◌, ℕ, inr, List, [], Option, Some, None, true, false, Result, Ok, Err, is_ok, OnErr, MatchResult, if◌then◌else◌, ap, ◌∙◌, refl, ◌==◌, length, take, ◌+◌}
use Rattle.std.proofs.Math.Seq.{take-append-add}
use Rattle.std.specs.Io.KnownBytes.{Appends, Keeps, append_known, prepend_known}
use Rattle.link_wire.specs.{Device.{Input, Output}, TextWriter.AppendsPart}
use Rattle.link_wire.specs.declared.DeviceFault.{DeviceFault}
use Rattle.tcpclkit.specs.BufferedEnd.{IsPrefixIfWholeIsKnown, HandsOn}

nothing_before : (rest : Option (List ℕ)) → prepend_known [] rest ≡ rest
nothing_before None = refl
nothing_before (Some bytes) = refl

abbrev holding : (held : List ℕ) → Option (List ℕ) → Input
holding held left = record { left = left; failed = false; held = held }

-- a buffered reader with an empty buffer has the bytes left that its input has left
pub read_input : (capacity : ℕ) (buffer : List ℕ) (rest known : Option (List ℕ))
    → capacity ≡ 65536 → buffer ≡ [] → rest ≡ known
    → holding buffer (if capacity == 0 then None else prepend_known buffer rest) ≡ holding [] known
read_input capacity buffer rest known size empty is = rw (size, empty) (ap (holding []) (nothing_before rest ∙ is))

-- if a prefix of what waited was handed on, the stream has a prefix of all that was written
first_handed : (old new : Option (List ℕ)) (waiting : List ℕ) (count : ℕ)
    → Appends old new (take count waiting) → IsPrefixIfWholeIsKnown (append_known old waiting) new
first_handed None new waiting count written = (0, tt)
first_handed (Some xs) None waiting count written = absurd written
first_handed (Some xs) (Some ys) waiting count written = (length xs + count, rw (take-append-add xs waiting count) written)

-- `HandsOn` for a stream that failed before all that waited was handed on
pub handed_part : (answer : Result (Unit {0}) DeviceFault) (old new : Output) (waiting : List ℕ)
    → is_ok answer ≡ false
    → OnErr answer (AppendsPart old.written new.written waiting)
    → MatchResult answer (λ _. new.failed ≡ old.failed) (λ _. new.failed ≡ true)
    → HandsOn
    (record { written = append_known old.written waiting; failed = old.failed; handed = old.handed })
    new
handed_part (Ok done) old new waiting is part failed = absurd (cc)
handed_part (Err fault) old new waiting is part failed = record {
  failed = λ had_failed. failed;
  bytes = inr (failed, first_handed old.written new.written waiting part.count part.written);
}
