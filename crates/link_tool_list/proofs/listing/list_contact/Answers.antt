use Rattle.std.proofs.Common.{◌≡◌, ℕ, List, [], true, subst}
use Rattle.link_wire.specs.Session.{source_of}
use Rattle.link_report.specs.Message.{contact_text}
use Rattle.link_run.specs.{Reading.feed_of, Run.looks, Stages.IsRunAt, Writers.{place_of, on_output, AfterWrite}}
use Rattle.link_run.proofs.{Sessions.contact_ended, Stands.{last_step, settled}}
use Rattle.link_tool_list.specs.Listing.{listing_by, listing_of}
use Rattle.link_tool_list.proofs.Lists.{by_reading, same_texts, contact_listed}
use Rattle.link_tool_list.proofs.listing.list_contact.Goals as goal

pub returns-in-Ok-clause-gives : goal.returns-in-Ok-clause-gives
returns-in-Ok-clause-gives g c = λ start line history at begins.
    let look = looks g.R.InDevice.state g.W.OutDevice.state g.E.OutDevice.state in
    let both = c.in-Ok.ensures.gives in
    let source = source_of (feed_of c.args.input.now) in
    let at_open = settled source c.args.writers.now c.open.new.writers (rw (← begins.nothing) at) both.0 in
    let at_mid : IsRunAt look listing_of start true (place_of source c.clear_line.new.self) [] = rw (c.clear_line.ensures.output, c.clear_line.ensures.report) at_open in
    let mid = record c.clear_line.new.self { line = c.contact_line.new.line } in
    let Wrote : List ℕ → Type 0 = λ text. AfterWrite look.output look.report mid c.write_line.new.self (on_output text) c.write_line.result in
    let line_is : c.contact_line.new.line.items ≡ contact_text c.in-Ok.contact = c.contact_line.ensures in
    rw (begins.nothing, c.after.ensures) (contact_listed (feed_of c.args.input.now) (feed_of c.open.new.self) mid c.write_line.new.self at_mid c.in-Ok.contact both.1 line _ (subst Wrote line_is c.write_line.ensures.gives))

pub returns-in-Err-clause-gives : goal.returns-in-Err-clause-gives
returns-in-Err-clause-gives g c = λ start line history at begins.
    rw (begins.nothing, c.ended.ensures) (last_step listing_of (place_of (source_of (feed_of c.args.input.now)) c.args.writers.now) (place_of (source_of (feed_of c.open.new.self)) c.end.new.self) _ _ (contact_ended listing_by by_reading (feed_of c.args.input.now) (feed_of c.open.new.self) c.args.writers.now c.open.new.writers c.end.new.self (rw (← begins.nothing) at) (same_texts _) c.in-Err.stop _ c.in-Err.ensures.gives c.end.ensures))

pub returns-in-Ok-clause-waits : goal.returns-in-Ok-clause-waits
returns-in-Ok-clause-waits g c = c.in-Ok.ensures.waits

pub returns-in-Err-clause-waits : goal.returns-in-Err-clause-waits
returns-in-Err-clause-waits g c = c.in-Err.ensures.waits
