-- The exit status and the message with which the program ends after a run.
use Rattle.std.specs.Prelude.{ℕ, List, [], Result, Ok, Err, codes}
use Rattle.link_wire.specs.declared.IoFault.{IoFault}
use Rattle.link_wire.specs.declared.IoFault.TheVariants.{Read, InputTooLong, Write, Memory}
use Rattle.link_run.specs.declared.run.Status.{Status}

-- the exit status: the status of the run, or 4 if the run failed
abbrev pub status_of : Result Status IoFault → ℕ
status_of (Ok status) = status.0
status_of (Err fault) = 4

-- the message for a failure, without its newline; it is empty if the run did not fail
abbrev pub exit_text : Result Status IoFault → List ℕ
exit_text (Ok status) = []
exit_text (Err Read) = codes "tcpclkit: read failed"
exit_text (Err InputTooLong) = codes "tcpclkit: input too long"
exit_text (Err Write) = codes "tcpclkit: write failed"
exit_text (Err Memory) = codes "tcpclkit: out of memory"
