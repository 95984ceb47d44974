-- Relations, but for IsNewCutterFor, IsCutterIn: what the cutter of a packer has.
use Rattle.std.specs.Prelude.{◌≡◌, ℕ, ◌-◌, ◌≤◌, max, false, List}
use Rattle.link_transfer.specs.Cutter.{IsCutterAt, has_ready_chunk, kept_size}
use Rattle.link_transfer.specs.Cutting.{Cutting, beginning}
use Rattle.link_transfer.specs.declared.cutter.Cutter.{Cutter}
use Rattle.link_tool_pack.specs.Segments.{going}
use Rattle.link_tool_pack.specs.Packing.{segment_size}
use Rattle.link_tool_option_types.specs.declared.pack.PackOptions.{PackOptions}

-- the history of a cutter to which these bytes of an incomplete bundle were pushed, and which has
-- cut all chunks that are due
abbrev pub cutting : PackOptions → (begun : List ℕ) → Cutting
cutting options begun = going (segment_size options) options.announce begun

-- the cutter is new and has the limits of these options; no chunk is ready
abbrev pub IsNewCutterFor : PackOptions → Cutter → Type 0
IsNewCutterFor options cutter =
    IsCutterAt cutter (beginning (segment_size options) options.announce)
    × (has_ready_chunk cutter ≡ false)

-- The cutter of a run with these options has had exactly the bytes `begun` of the current bundle,
-- and has cut all chunks that are due.
pub record IsCutterIn (options : PackOptions) (cutter : Cutter) (begun : List ℕ) : Type 0 where
  pub cut : IsCutterAt cutter (cutting options begun)
  -- The cutter keeps less than a segment, or a bundle whose length may still be announced. Such a
  -- bundle has at most `options.announce` bytes.
  pub kept : kept_size cutter ≤ max (segment_size options - 1) options.announce
