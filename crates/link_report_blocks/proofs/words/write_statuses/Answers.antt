use Rattle.std.proofs.Common.{append_assoc}
use Rattle.link_report_blocks.specs.Words.{statuses_text}
use Rattle.link_report_blocks.proofs.words.write_statuses.Goals as goal

pub returns-clause-text : goal.returns-clause-text
unfolding statuses_text
returns-clause-text c =
    rw (
      c.write_text.ensures.text,
      c.report_reason_name.ensures.name,
      c.write_bytes-at.ensures.text,
      c.write_number-at.ensures.text,
      c.write_assertion-at-4.ensures.text,
      c.write_assertion-at-3.ensures.text,
      c.write_assertion-at-2.ensures.text,
      c.write_assertion-at.ensures.text,
    ) (simp append_assoc)
