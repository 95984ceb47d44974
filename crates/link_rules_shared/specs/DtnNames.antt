-- What follows `dtn:` in the URI of an endpoint, except `none` (RFC 9171 section 4.2.5.1.1).
use Rattle.std.specs.Prelude.{ℕ, Bool, false, ◌&&◌, ◌==◌, nat_eq, List, [], ◌∷◌, codes, take, drop, Option, Some, None, if◌then◌else◌}
use Rattle.std.specs.{Char.is_ascii_graphic, List.{list_all, starts_with}}
use Rattle.link_rules_shared.specs.Uri.{first_of, after_mark, is_reg_name}
use Rattle.link_rules_shared.specs.declared.level.{Level.Level, Level.TheVariants.{Must, Should}}

-- whether the bytes before the first slash, at index `slash`, are a node name, which may be empty;
-- false if there is no slash
abbrev pub is_named_at : (slash : Option ℕ) → List ℕ → Bool
is_named_at None text = false
is_named_at (Some slash) text = is_reg_name (take slash text)

-- a dtn name: `//`, a node name, `/`, and a demux, with no byte outside hexadecimal 21 to 7e
unfoldable pub is_dtn_name : List ℕ → Bool
is_dtn_name text =
    starts_with nat_eq text (codes "//")
    && (is_named_at (first_of 0x2f (drop 2 text)) (drop 2 text) && list_all is_ascii_graphic text)

-- the demux of a dtn name: what follows the third slash
abbrev pub demux_of : List ℕ → List ℕ
demux_of text = after_mark 0x2f (after_mark 0x2f (after_mark 0x2f text))

-- How strictly a demux is forbidden in the name of a node, or `None` for the empty demux, which is
-- allowed. A demux that begins with `~` names an endpoint that is no singleton. Any other demux
-- names no node.
abbrev pub demux_level : List ℕ → Option Level
demux_level [] = None
demux_level (first ∷ rest) = if first == 0x7e then Some Must else Some Should
