use Rattle.std.proofs.Common.{append_assoc}
use Rattle.link_report_blocks.proofs.words.write_report.Goals as goal

pub returns-clause-text : goal.returns-clause-text
returns-clause-text c =
    rw (
      c.write_subject.ensures.text,
      c.write_statuses-at.ensures.text,
      c.write_bytes-at.ensures.text,
    ) (simp append_assoc)
