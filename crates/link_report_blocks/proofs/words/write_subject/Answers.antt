use Rattle.std.proofs.Common.{append_assoc}
use Rattle.link_report_blocks.specs.Words.{subject_text}
use Rattle.link_report_blocks.proofs.words.write_subject.Goals as goal

pub returns-clause-text : goal.returns-clause-text
unfolding subject_text
returns-clause-text c =
    rw (
      c.write_subject_fragment.ensures.text,
      c.write_number-at-2.ensures.text,
      c.write_number-at.ensures.text,
      c.write_eid-at.ensures.text,
      c.write_bytes-at.ensures.text,
    ) (simp append_assoc)
