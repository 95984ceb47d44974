-- Relations, but for LacksMemory: what `pack` says of the bundles so far.
use Rattle.std.specs.Prelude.{◌≡◌, ℕ, true, false, List, [], ◌++◌, length, OnOk, Result, Err}
use Rattle.link_wire.specs.Device.{Output}
use Rattle.link_wire.specs.declared.IoFault.{IoFault}
use Rattle.link_wire.specs.declared.IoFault.TheVariants as io
use Rattle.link_transfer.specs.Cutter.{IsCutterAt}
use Rattle.link_transfer.specs.Cutting.{Cutting}
use Rattle.link_transfer.specs.declared.cutter.Cutter.{Cutter}
use Rattle.link_run.specs.Run.{Texts, ◌then◌, Devices}
use Rattle.link_run.specs.Writers.{on_output, AfterWrite}
use Rattle.link_run.specs.WholeRun.{devices_of}
use Rattle.link_run.specs.declared.{run.RunEnd.RunEnd, writers.Writers.Writers}
use Rattle.link_run_over_bundle_files.specs.Bundles.{BundleWithInfo}
use Rattle.link_run_over_bundle_files.specs.Telling.{BundleTelling}
use Rattle.link_tool_pack.specs.Segments.{segments_of, segments_left, all_given}
use Rattle.link_tool_pack.specs.Packing.{prelude_bytes, sending, transfer_bytes, end_bytes, report_lines}
use Rattle.link_tool_option_types.specs.declared.pack.PackOptions.{PackOptions}

-- the texts for these bundles, and for the bytes `begun` of the next one
abbrev pub texts_of : PackOptions → List BundleWithInfo → (begun : List ℕ) → Texts
texts_of options bundles begun = record {
  output =
      prelude_bytes options ++ transfer_bytes options 0 bundles
      ++ segments_of (length bundles) (sending options false begun);
  report = report_lines options 0 bundles;
}

-- What `pack` says of the bundles of an input. All of them are good, since the run stops at a
-- bundle with a fault.
abbrev pub pack_telling : PackOptions → BundleTelling
pack_telling options = record {
  limit = options.peer_transfer;
  texts = λ now. texts_of options now.bundles now.begun;
  ended = λ bundles. texts_of options bundles [] then on_output (end_bytes options);
  good = λ bundles. true;
}

-- The segments that were due and not yet given were written, and the cutter has now given all of
-- them; or a writer failed.
pub record Sends {W E : Type 0} (out_look : W → Output) (report_look : E → Output) (id : ℕ)
    (so_far : Cutting) (old new : Writers W E) (cutter : Cutter)
    (result : Result (Unit {0}) IoFault) : Type 0 where
  pub wrote : AfterWrite out_look report_look old new (on_output (segments_left id so_far)) result
  pub after : OnOk result (IsCutterAt cutter (all_given so_far))

-- the request for memory was refused, and nothing was read or written
pub record LacksMemory {R W E : Type 0} (start : Devices R W E) (end : RunEnd R W E) : Type 0 where
  pub unchanged : devices_of end ≡ start
  pub is : end.answer ≡ Err io.Memory
