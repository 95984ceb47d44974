use Rattle.std.proofs.Common.{ℕ, Bool, true, false, List, drop, take, Option, None, ◌==◌, if◌then◌else◌}
use Rattle.std.specs.Io.Buffered.{reader_buffer, reader_capacity, reader_inner}
use Rattle.std.specs.Io.KnownBytes.{Consumes, prepend_known}
use Rattle.link_io.proofs.Sources.{Consumes-window}
use Rattle.link_io.proofs.device.BufferedReaderInDevice.pass_held.Goals as goal

-- the first bytes of a buffer are the next bytes, unless the reader's bytes are not known
consumed : (unknown : Bool) (buffer : List ℕ) (left : Option (List ℕ)) (count : ℕ)
    → Consumes (if unknown then None else prepend_known buffer left)
    (if unknown then None else prepend_known (drop count buffer) left) (take count buffer)
consumed true buffer left count = tt
consumed false buffer left count = Consumes-window buffer left count

pub returns-clause-bytes : goal.returns-clause-bytes
returns-clause-bytes g c =
    let old = c.args.self.now.buffered.inner in
    rw (c.consume.ensures.capacity, c.consume.ensures.buffer, c.consume.ensures.inner)
    (consumed (reader_capacity old == 0) (reader_buffer old) (g.R.Read.remaining (reader_inner old)) c.args.count)
