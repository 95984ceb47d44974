use Rattle.std.proofs.Common.{append_assoc}
use Rattle.link_report_blocks.specs.Blocks.{end_text}
use Rattle.link_report_blocks.proofs.blocks.write_end.Goals as goal

pub returns-clause-text : goal.returns-clause-text
unfolding end_text
returns-clause-text c =
    rw (
      c.write_bytes.ensures.text,
      c.write_outcome-at.ensures.text,
      c.write_bytes-at.ensures.text,
      c.write_number-at.ensures.text,
      c.write_decimal-at.ensures.text,
    ) (simp append_assoc)
