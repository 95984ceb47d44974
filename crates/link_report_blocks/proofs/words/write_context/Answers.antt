use Rattle.std.proofs.Common.{append_assoc}
use Rattle.link_report_blocks.specs.Words.{context_text}
use Rattle.link_report_blocks.proofs.words.write_context.Goals as goal

pub returns-clause-text : goal.returns-clause-text
unfolding context_text
returns-clause-text c =
    rw (
      c.write_flags.ensures.text,
      c.write_bytes-at-2.ensures.text,
      c.write_integer-at.ensures.text,
      c.write_bytes-at.ensures.text,
    ) (simp append_assoc)
