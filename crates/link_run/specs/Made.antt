-- What a tool makes of its input, and where the input stops.
use Rattle.std.specs.Prelude.{◌≡◌, ℕ, Bool, true, false, List, ◌++◌, Option, Some, None, if◌then◌else◌}
use Rattle.link_wire.specs.Stream.{End, Clean, Cut, Fault}
use Rattle.link_wire.specs.declared.fault.{WireFault.WireFault, WireFault.TheVariants.Truncated}
use Rattle.link_report.specs.Fault.{fault_text}
use Rattle.link_report.specs.declared.fault.{Fault.Fault as ReportedFault, Fault.TheVariants.Wire}
use Rattle.link_run.specs.Run.{Texts, Outcome, Tool}

-- An input stops at this fault. A fault that does not last may disappear when more bytes come.
pub record StreamStop : Type 0 where
  pub fault : ReportedFault
  pub lasts : Bool

-- what a tool makes of some bytes
pub record Made : Type 0 where
  -- the texts that these bytes determine, whatever bytes follow, without the line of a fault
  pub texts : Texts
  -- the fault at which the bytes stop, if any
  pub stop : Option StreamStop
  -- the texts of an input of exactly these bytes, if it does not stop at a fault
  pub ended : Texts
  -- whether everything in such an input is good
  pub good : Bool

-- these texts, with the line of a fault at the end of the report
abbrev pub with_fault : ReportedFault → Texts → Texts
with_fault fault texts =
    record { output = texts.output; report = texts.report ++ fault_text fault }

-- If a fault stops the input, its line ends the report, and the status is 3. Otherwise the status
-- is 0 if everything is good, and else 1.
abbrev pub whole_by : Option StreamStop → Made → Outcome
whole_by None made = record { texts = made.ended; status = if made.good then 0 else 1 }
whole_by (Some stop) made = record { texts = with_fault stop.fault made.texts; status = 3 }

-- The texts that are determined already. If the bytes stop at a fault that lasts, its line is in
-- the report.
abbrev pub so_far_by : Option StreamStop → Texts → Texts
so_far_by None texts = texts
so_far_by (Some stop) texts = if stop.lasts then with_fault stop.fault texts else texts

-- Whether bytes that stop in this way show a fault. They show only a fault that lasts.
abbrev pub shows_fault : Option StreamStop → Bool
shows_fault None = false
shows_fault (Some stop) = stop.lasts

-- if bytes show a fault, so do all bytes that begin with them
abbrev pub HasLastingFaults : (List ℕ → Made) → Type 0
HasLastingFaults made =
    (bytes more : List ℕ) → shows_fault (made bytes).stop ≡ true
    → shows_fault (made (bytes ++ more)).stop ≡ true

-- the tool that makes this of any bytes
abbrev pub tool_of : (List ℕ → Made) → Tool
tool_of made = record {
  whole = λ bytes. whole_by (made bytes).stop (made bytes);
  so_far = λ bytes. so_far_by (made bytes).stop (made bytes).texts;
  shows = λ bytes. shows_fault (made bytes).stop;
}

-- ---- a recorded stream

-- Whether a fault of the wire lasts when more bytes come. Every fault does, except `Truncated`:
-- more bytes may complete the field.
abbrev pub is_lasting : WireFault → Bool
is_lasting Truncated = false
is_lasting fault = true

-- The fault at which a recorded stream stops, if any. A stream that ends inside the data of a
-- segment is truncated, at the offset of this segment. That fault does not last, since more bytes
-- may complete the data.
abbrev pub stop_of : End → Option StreamStop
stop_of Clean = None
stop_of (Cut offset message content) =
    Some (record { fault = Wire offset Truncated; lasts = false })
stop_of (Fault offset fault) =
    Some (record { fault = Wire offset fault; lasts = is_lasting fault })
