-- The line of a transfer.
use Rattle.std.specs.Prelude.{ℕ, List, ◌++◌, codes}
use Rattle.link_report.specs.declared.transfer.TransferEntry.{TransferEntry}
use Rattle.link_report.specs.declared.transfer.TransferView.{TransferView}
use Rattle.link_report.specs.Judgement.{judgement_text, viewed_judgement}
use Rattle.link_report.specs.Text.{number_text, newline}

-- The ID and the extent of a transfer. The output contains `written` bytes of it, from the offset
-- `start` on. `size` is the number of its data bytes.
unfoldable pub extent_text : ℕ → ℕ → ℕ → ℕ → List ℕ
extent_text id start written size =
    number_text (codes "transfer ") id ++ number_text (codes " start=") start
    ++ number_text (codes " written=") written ++ number_text (codes " length=") size

-- the line of a transfer
unfoldable pub transfer_text : TransferEntry → List ℕ
transfer_text entry =
    extent_text entry.id entry.start entry.written entry.length ++ codes " "
    ++ judgement_text entry.judgement ++ newline

-- the entry that a view shows
abbrev pub viewed_transfer : TransferView → TransferEntry
viewed_transfer view =
    record {
      id = view.id;
      start = view.start;
      written = view.written;
      length = view.length;
      judgement = viewed_judgement view.judgement;
    }
