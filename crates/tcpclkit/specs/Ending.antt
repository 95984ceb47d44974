-- The ways in which the program ends, with their exit statuses and messages.
use Rattle.std.specs.Prelude.{◌≡◌, ℕ, Bool, true, false, not, option_map, string_bytes, IsTrue, Option, Some, None, ◌==◌, ◌&&◌, if◌then◌else◌, List, Result, Ok, Err, codes}
use Rattle.std.specs.Str.{bytes_eq}
use Rattle.link_wire.specs.declared.IoFault.{IoFault}
use Rattle.link_wire.specs.declared.IoFault.TheVariants as io
use Rattle.link_tools_command.specs.Usage.{MayBeFaultOfWords, usage_status, usage_text}
use Rattle.link_tools_command.specs.Invoked.{IsInvocationByWords}
use Rattle.link_tools_command.specs.declared.invocation.Invocation.{Invocation}
use Rattle.link_tools.specs.Exit.{status_of, exit_text}
use Rattle.link_tools.specs.Options.{options_of}
use Rattle.link_tools.specs.declared.options.Job.{Job}
use Rattle.link_run.specs.declared.run.Status.{Status}
use Rattle.tcpclkit.specs.declared.ending.Ending.{Ending}
use Rattle.tcpclkit.specs.declared.ending.Ending.TheVariants.{Usage, NotText, NoInput, Answer}

-- The program's answer, from the answer of the run. What stopped the run first decides. If the run
-- ended with a fault of the input (status 3) or a failure, its answer stays, whether or not its
-- texts were flushed. After any other run, a failed flush is a failed write.
abbrev pub answer_after_flush : Result Status IoFault → Bool → Result Status IoFault
answer_after_flush (Ok status) false = if status.0 == 3 then Ok status else Err io.Write
answer_after_flush (Ok status) true = Ok status
answer_after_flush (Err fault) flushed = Err fault

-- the exit status, if the program's text or message can be written
abbrev pub ending_status : Ending → ℕ
ending_status (Usage fault) = usage_status fault
ending_status NotText = 2
ending_status NoInput = 4
ending_status (Answer answer) = status_of answer

-- the program's own message for standard error, without its newline; it may be empty
abbrev pub ending_text : Ending → List ℕ
ending_text (Usage fault) = usage_text fault
ending_text NotText = codes "tcpclkit: a word is not UTF-8"
ending_text NoInput = codes "tcpclkit: cannot open the input"
ending_text (Answer answer) = exit_text answer

-- The exit status. `written` is whether the program's text or message was written. A call with
-- status 0 has a text only if help or the version was asked for. If this text was not written, the
-- status is 4, as after a failed write.
abbrev pub status_after : (status : ℕ) → (written : Bool) → ℕ
status_after status written = if not written && status == 0 then 4 else status

-- whether a value of FILE names a file: `-`, or no value, is standard input
abbrev pub names_a_file : Option (List ℕ) → Bool
names_a_file None = false
names_a_file (Some name) = not (bytes_eq name (codes "-"))

-- The words ask for this tool, and for its input: a file if `is_file` is true, or else standard
-- input.
abbrev pub AreWordsForJobAndInput : (words : List (List ℕ)) → Job → (is_file : Bool) → Type 0
AreWordsForJobAndInput words job is_file =
    (invocation : Invocation) × IsInvocationByWords words invocation
    × (options_of job ≡ invocation.options)
    × (is_file ≡ names_a_file (option_map string_bytes invocation.file))

-- How a call with these words may end if it starts no run. The words are texts, so it does not end
-- with `NotText`.
abbrev pub MayEndWithoutRun : (words : List (List ℕ)) → Ending → Type 0
MayEndWithoutRun words (Usage fault) = MayBeFaultOfWords words fault
MayEndWithoutRun words NotText = ⊥
MayEndWithoutRun words NoInput =
    (invocation : Invocation) × IsInvocationByWords words invocation
    × IsTrue (names_a_file (option_map string_bytes invocation.file))
MayEndWithoutRun words (Answer answer) = ⊥
