-- The output of a `TextWriter`.
use Rattle.std.specs.Prelude.{ℕ, ◌<◌, List, length, take, Option}
use Rattle.std.specs.Io.KnownBytes.{Appends, append_known}
use Rattle.link_io.specs.Device.{Output}
use Rattle.link_io.specs.declared.text_writer.TextWriter.{TextWriter}

-- a proper prefix of these bytes was written
pub record AppendsPart (old new : Option (List ℕ)) (bytes : List ℕ) : Type 0 where
  pub count : ℕ
  pub part : count < length bytes
  pub written : Appends old new (take count bytes)

module _ {D : Type 0} where
  -- the device below, in its present state
  abbrev pub device_of : TextWriter D → D
  device_of writer = writer.device

  -- the bytes that wait to be handed on
  abbrev pub waiting : TextWriter D → List ℕ
  waiting writer = take writer.end writer.page.items

  -- The writer as an output device. The bytes that wait count as written, after all bytes that were
  -- written to the device below. `failed` and `handed` are the same as for the device below.
  abbrev pub output_of : (D → Output) → TextWriter D → Output
  output_of look writer = record {
    written = append_known (look writer.device).written (waiting writer);
    failed = (look writer.device).failed;
    handed = (look writer.device).handed;
  }
