-- The end of a run over buffered streams: what was handed on, and the answer.
use Rattle.std.specs.Prelude.{◌≡◌, ℕ, ◌⊎◌, true, ◌&&◌, not, List, take, Option, Result}
use Rattle.std.specs.{Option.option_map, Io.KnownBytes.Keeps}
use Rattle.link_wire.specs.Device.{Output}
use Rattle.link_wire.specs.declared.IoFault.{IoFault}
use Rattle.link_run.specs.Run.{Looks, Devices}
use Rattle.link_run.specs.WholeRun.{ran_of}
use Rattle.link_run.specs.declared.{run.{RunEnd.RunEnd, Status.Status}, log.Ran.Ran}
use Rattle.link_tools.specs.Options.{AfterJob}
use Rattle.link_tools.specs.declared.options.Job.{Job}
use Rattle.tcpclkit.specs.Ending.{answer_after_flush}

-- if the bytes `all` of a device are known, `first` is a prefix of them
abbrev pub IsPrefixIfWholeIsKnown : (all first : Option (List ℕ)) → Type 0
IsPrefixIfWholeIsKnown all first = (count : ℕ) × Keeps (option_map (take count) all) first

-- What was written was handed on to the stream: all of it, or a prefix of it if the stream failed.
-- If the stream had failed before, it still counts as failed.
pub record HandsOn (written handed : Output) : Type 0 where
  pub failed : written.failed ≡ true → handed.failed ≡ true
  pub bytes : Keeps written.written handed.written
      ⊎ ((handed.failed ≡ true) × IsPrefixIfWholeIsKnown written.written handed.written)

module _ {R W E : Type 0} (look : Looks R W E) where
  -- The tool was run over the devices `start`, with this log. What it wrote was handed on, and
  -- nothing was read after the run. `end` has the tool's own answer. `answer` also counts a failed
  -- stream.
  pub record AfterBufferedRun (job : Job) (start : Devices R W E) (input : R)
      (output report : Output) (ran : Ran R W E) (answer : Result Status IoFault)
      : Type 0 where
    pub end : RunEnd R W E
    pub run : AfterJob look job start end
    pub log : ran ≡ ran_of end
    pub reads : input ≡ end.reader
    pub writes : HandsOn (look.output end.output) output
    pub reports : HandsOn (look.report end.report) report
    pub answers : answer ≡ answer_after_flush end.answer (not output.failed && not report.failed)
