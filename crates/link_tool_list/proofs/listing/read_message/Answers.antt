use Rattle.std.proofs.Common.{refl}
use Rattle.link_wire.specs.Session.{source_of}
use Rattle.link_run.specs.Reading.{feed_of}
use Rattle.link_run.proofs.{Sessions.message_ended, Stands.settled}
use Rattle.link_tool_list.specs.Listing.{listing_by}
use Rattle.link_tool_list.proofs.Lists.{by_reading, same_texts, message_read, clean_ended}
use Rattle.link_tool_list.proofs.listing.read_message.Goals as goal

pub returns-in-Ok-Some-clause-gives : goal.returns-in-Ok-Some-clause-gives
returns-in-Ok-Some-clause-gives g c = λ start piece history at lists.
    let old = feed_of c.args.input.now in
    let got = rw c.in-Ok-Some.field-0-is at (c.in-Ok-Some.ensures.gives history lists.session_at) in
    message_read old (feed_of c.next_message.new.self) c.next_message.new.writers (settled (source_of old) c.args.writers.now c.next_message.new.writers at got.0) c.in-Ok-Some.offset _ got.1 piece _ c.go_on.ensures.goes

pub returns-in-Ok-None-clause-gives : goal.returns-in-Ok-None-clause-gives
returns-in-Ok-None-clause-gives g c = λ start piece history at lists.
    let old = feed_of c.args.input.now in
    let got = rw c.in-Ok-None.field-0-is at (c.in-Ok-None.ensures.gives history lists.session_at) in
    clean_ended old (feed_of c.next_message.new.self) c.next_message.new.writers (settled (source_of old) c.args.writers.now c.next_message.new.writers at got.0) _ refl got.1

pub returns-in-Err-clause-gives : goal.returns-in-Err-clause-gives
returns-in-Err-clause-gives g c = λ start piece history at lists.
    message_ended listing_by by_reading (feed_of c.args.input.now) (feed_of c.next_message.new.self) c.args.writers.now c.next_message.new.writers c.end.new.self at lists.session_at (same_texts _) c.in-Err.stop _
    (c.in-Err.ensures.gives history lists.session_at) c.end.ensures

pub returns-in-Ok-Some-clause-waits : goal.returns-in-Ok-Some-clause-waits
returns-in-Ok-Some-clause-waits g c = λ history lists.
    c.in-Ok-Some.ensures.waits history lists.session_at

pub returns-in-Ok-None-clause-waits : goal.returns-in-Ok-None-clause-waits
returns-in-Ok-None-clause-waits g c = λ history lists.
    c.in-Ok-None.ensures.waits history lists.session_at

pub returns-in-Err-clause-waits : goal.returns-in-Err-clause-waits
returns-in-Err-clause-waits g c = λ history lists. c.in-Err.ensures.waits history lists.session_at
