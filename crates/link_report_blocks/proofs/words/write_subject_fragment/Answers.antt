use Rattle.std.proofs.Common.{append_assoc}
use Rattle.link_report_blocks.specs.Words.{subject_fragment}
use Rattle.link_report_blocks.proofs.words.write_subject_fragment.Goals as goal

pub returns-in-Some-clause-text : goal.returns-in-Some-clause-text
unfolding subject_fragment
returns-in-Some-clause-text c =
    rw (c.in-Some.is, c.write_number.ensures.text, c.write_number-at.ensures.text, append_assoc)
