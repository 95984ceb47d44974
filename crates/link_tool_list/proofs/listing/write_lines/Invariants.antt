use Rattle.std.proofs.Common.{◌≡◌, List, ℕ, length, ◌++◌}
use Rattle.std.specs.Prelude.{IsTrue, false}
use Rattle.link_wire.specs.{Session.{source_of, may_read}, Source.window_of}
use Rattle.link_run.specs.{Reading.{feed_of, ReadsNothing}, Run.Texts, Writers.{on_output, Writes}}
use Rattle.link_tool_list.specs.ListRun.{latest_line, AreLinesTo, ListsOn}
use Rattle.link_tool_list.proofs.listing.write_lines.Given as goal

-- the lines of some whole messages were written; that of the latest is due
abbrev pub invariant-lines : goal.invariant-lines
invariant-lines g l =
    let look = g.R.InDevice.state in
    record {
      fits : IsTrue (may_read (feed_of l.input));
      near : l.far ≡ false → l.input ≡ l.fn.input;
      unread : ReadsNothing look source_of l.fn.input l.input;
      lines : List ℕ;
      writes : Writes g.W.OutDevice.state g.E.OutDevice.state l.fn.writers l.writers (on_output lines);
      listed : (first : Texts) (history : List ℕ)
          → AreLinesTo look first (feed_of l.fn.input) (latest_line l.fn.latest) history
          → ListsOn look first (feed_of l.fn.input) (feed_of l.input) (lines ++ latest_line l.latest) history;
    }

abbrev pub decreases-lines : goal.decreases-lines
decreases-lines g l = length (window_of (source_of (feed_of l.input)))
