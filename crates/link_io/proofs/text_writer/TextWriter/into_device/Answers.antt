use Rattle.std.proofs.Common.{◌≡◌, List, ℕ, Option, Some, None, Result, Ok, Err, OnOk, length, take, ap, ◌∙◌}
use Rattle.std.proofs.Math.Seq.{take-length}
use Rattle.std.specs.Io.KnownBytes.{Appends, Keeps, append_known}
use Rattle.link_io.specs.declared.device.DeviceFault.{DeviceFault}
use Rattle.link_io.proofs.text_writer.TextWriter.into_device.Goals as goal

-- all bytes that waited were written
kept : (old new : Option (List ℕ)) (bytes : List ℕ) → Appends old new bytes
    → Keeps (append_known old bytes) new
kept None new bytes written = tt
kept (Some xs) None bytes written = absurd written
kept (Some xs) (Some ys) bytes written = written

whole : (answer : Result (Unit {0}) DeviceFault) (old new : Option (List ℕ)) (bytes : List ℕ)
    (count : ℕ) → OnOk answer (count ≡ length bytes) → Appends old new (take count bytes)
    → OnOk answer (Keeps (append_known old bytes) new)
whole (Ok done) old new bytes count all written =
    let same : take count bytes ≡ bytes = ap (λ n. take n bytes) all ∙ take-length bytes in
    kept old new bytes (rw same at written)
whole (Err fault) old new bytes count all written = tt

pub returns-clause-ok : goal.returns-clause-ok
returns-clause-ok g c =
    whole c.write_out-answer.result.1 _ _ _ c.write_out-answer.result.0 (rw c.deref.ensures.value at c.write_out-answer.ensures.all) (rw c.deref.ensures.value at c.write_out-answer.ensures.written)
