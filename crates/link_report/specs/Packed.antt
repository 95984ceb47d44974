-- The line of a packed bundle.
use Rattle.std.specs.Prelude.{ℕ, List, ◌++◌, codes}
use Rattle.link_bundle_types.specs.BundleView.{viewed_info}
use Rattle.link_report.specs.declared.packed.{PackedEntry.PackedEntry, PackedView.PackedView}
use Rattle.link_report.specs.Identity.{identity_text}
use Rattle.link_report.specs.Text.{number_text, newline}

-- the line of a packed bundle
unfoldable pub packed_text : PackedEntry → List ℕ
packed_text entry =
    number_text (codes "bundle ") entry.number ++ number_text (codes " segments=") entry.segments
    ++ number_text (codes " length=") entry.length ++ codes " "
    ++ identity_text entry.info ++ newline

-- the entry that a view shows
abbrev pub viewed_packed : PackedView → PackedEntry
viewed_packed view =
    record {
      number = view.number;
      segments = view.segments;
      length = view.length;
      info = viewed_info view.info;
    }
