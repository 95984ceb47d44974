use Rattle.std.proofs.Common.{append_assoc}
use Rattle.link_report_blocks.specs.Blocks.{primary_rest_text}
use Rattle.link_report_blocks.proofs.blocks.write_primary_rest.Goals as goal

pub returns-clause-text : goal.returns-clause-text
unfolding primary_rest_text
returns-clause-text c =
    rw (
      c.write_bytes.ensures.text,
      c.write_fragment-at.ensures.text,
      c.write_number-at-3.ensures.text,
      c.write_number-at-2.ensures.text,
      c.write_number-at.ensures.text,
      c.write_eid-at.ensures.text,
      c.write_bytes-at.ensures.text,
    ) (simp append_assoc)
