use Rattle.std.specs.Fmt.{digits}
use Rattle.link_report.specs.Text.{number_text}
use Rattle.link_report_blocks.specs.Fields.{type_text, type_name}
use Rattle.link_report_blocks.proofs.fields.write_type.Goals as goal

pub returns-in-1-clause-text : goal.returns-in-1-clause-text
unfolding type_text type_name number_text digits
returns-in-1-clause-text c = rw c.in-1.is c.write_bytes.ensures.text

pub returns-in-6-clause-text : goal.returns-in-6-clause-text
unfolding type_text type_name number_text digits
returns-in-6-clause-text c = rw c.in-6.is c.write_bytes-in-6.ensures.text

pub returns-in-7-clause-text : goal.returns-in-7-clause-text
unfolding type_text type_name number_text digits
returns-in-7-clause-text c = rw c.in-7.is c.write_bytes-in-7.ensures.text

pub returns-in-10-clause-text : goal.returns-in-10-clause-text
unfolding type_text type_name number_text digits
returns-in-10-clause-text c = rw c.in-10.is c.write_bytes-in-10.ensures.text

pub returns-in-11-clause-text : goal.returns-in-11-clause-text
unfolding type_text type_name number_text digits
returns-in-11-clause-text c = rw c.in-11.is c.write_bytes-in-11.ensures.text

pub returns-in-12-clause-text : goal.returns-in-12-clause-text
unfolding type_text type_name number_text digits
returns-in-12-clause-text c = rw c.in-12.is c.write_bytes-in-12.ensures.text
