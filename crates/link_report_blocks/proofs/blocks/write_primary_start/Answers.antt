use Rattle.std.proofs.Common.{append_assoc}
use Rattle.link_report_blocks.specs.Blocks.{primary_start_text}
use Rattle.link_report_blocks.proofs.blocks.write_primary_start.Goals as goal

pub returns-clause-text : goal.returns-clause-text
unfolding primary_start_text
returns-clause-text c =
    rw (
      c.write_eid.ensures.text,
      c.write_bytes-at-2.ensures.text,
      c.write_eid-at.ensures.text,
      c.write_bytes-at.ensures.text,
      c.write_control-at.ensures.text,
      c.write_number-at.ensures.text,
      c.write_decimal-at.ensures.text,
      c.saturating_sub.ensures,
    ) (simp append_assoc)
