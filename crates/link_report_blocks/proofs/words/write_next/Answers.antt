use Rattle.std.specs.Fmt.{digits}
use Rattle.link_report_blocks.proofs.words.write_next.Goals as goal

pub returns-in-18446744073709551615-clause-text : goal.returns-in-18446744073709551615-clause-text
unfolding digits
returns-in-18446744073709551615-clause-text c = rw c.in-18446744073709551615.is c.write_bytes.ensures.text
