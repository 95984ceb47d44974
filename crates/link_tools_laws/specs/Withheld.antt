-- What the texts share of all inputs that begin with some bytes, and whether a tool withholds some
-- of it.
use Rattle.std.specs.Prelude.{◌≡◌, ◌⊎◌, ℕ, ◌<◌, List, [], ◌++◌, length}
use Rattle.link_wire.specs.Bytes.{AreBytes}
use Rattle.link_report.specs.Text.{newline}
use Rattle.link_run.specs.Run.{Texts, Tool}
use Rattle.link_tools_laws.specs.Prefix.{IsPrefixOf}

-- whole lines: nothing, or a text that ends in a line feed
abbrev pub AreLines : List ℕ → Type 0
AreLines text = (text ≡ []) ⊎ ((before : List ℕ) × (text ≡ before ++ newline))

-- In each input that begins with the bytes, the text that `text_of` selects begins with `common`.
-- Any number of bytes may follow, also none.
abbrev pub IsPrefixWhateverFollows : (text_of : Texts → List ℕ) → Tool → (bytes common : List ℕ)
    → Type 0
IsPrefixWhateverFollows text_of tool bytes common =
    (more : List ℕ) → AreBytes more
    → IsPrefixOf common (text_of (tool.whole (bytes ++ more)).texts)

abbrev pub output_of : Texts → List ℕ
output_of texts = texts.output

abbrev pub report_of : Texts → List ℕ
report_of texts = texts.report

-- `so_far` has each byte of output, and each whole line of the report, that is shared by all inputs
-- that begin with the bytes. A part of a line does not count: if the input begins with the byte 0,
-- the report begins with `tcpclkit: byte 0: `, and the rest of the line depends on what follows.
pub record HasLongestSoFar (tool : Tool) (bytes : List ℕ) : Type 0 where
  pub output : (common : List ℕ) → IsPrefixWhateverFollows output_of tool bytes common
      → IsPrefixOf common (tool.so_far bytes).output
  pub report : (common : List ℕ) → AreLines common
      → IsPrefixWhateverFollows report_of tool bytes common
      → IsPrefixOf common (tool.so_far bytes).report

-- `less` makes the same of whole inputs as `tool`, but says less after these bytes: bytes of output
-- are missing, or whole lines of the report are.
pub record SaysLess (tool less : Tool) (bytes : List ℕ) : Type 0 where
  pub whole : less.whole ≡ tool.whole
  pub lacks : (length (less.so_far bytes).output < length (tool.so_far bytes).output)
      ⊎ (AreLines (tool.so_far bytes).report
      × (length (less.so_far bytes).report < length (tool.so_far bytes).report))
