use Rattle.std.proofs.Common.{◌≡◌, length, take, refl, arith, length-take}
use Rattle.link_wire.specs.Session.{data_in, source_of}
use Rattle.link_run.specs.Reading.{feed_of}
use Rattle.link_run.proofs.{Waiting.waits_then, Sessions.data_ended, Stands.settled}
use Rattle.link_tool_list.specs.Listing.{listing_by}
use Rattle.link_tool_list.proofs.Lists.{by_reading, inside, data_read}
use Rattle.link_tool_list.proofs.listing.pass_data.Goals as goal

pub returns-in-Ok-clause-gives : goal.returns-in-Ok-clause-gives
returns-in-Ok-clause-gives g c = λ start line history at lists.
    let look = g.R.InDevice.state in
    let old = feed_of c.args.input.now in
    let mid = feed_of c.load_data.new.self in
    let got = c.in-Ok.ensures.gives history lists.session_at in
    let within = inside old line history lists in
    let some = got.1.some within.some in
    let size : length (take c.min.result (data_in look mid)) ≡ c.min.result = omega (arith, got.1.size, c.min.ensures, length-take c.min.result (data_in look mid)) in
    data_read old mid (feed_of c.pass.new.self) c.load_data.new.writers (take c.min.result (data_in look mid)) (settled (source_of old) c.args.writers.now c.load_data.new.writers at got.0) within got.1.readies (c.pass.ensures.gives history got.1.at)
    (omega (arith, size, c.min.ensures)) (omega (arith, size, c.min.ensures)) _ c.go_on.ensures.goes

pub returns-in-Err-clause-gives : goal.returns-in-Err-clause-gives
returns-in-Err-clause-gives g c = λ start line history at lists.
    data_ended listing_by by_reading (feed_of c.args.input.now) (feed_of c.load_data.new.self) c.args.writers.now c.load_data.new.writers c.end.new.self at lists.session_at c.args.piece refl c.in-Err.stop _
    (c.in-Err.ensures.gives history lists.session_at) c.end.ensures

pub returns-in-Ok-clause-waits : goal.returns-in-Ok-clause-waits
returns-in-Ok-clause-waits g c = λ line history lists.
    waits_then c.args.writers.now {old = c.args.input.now} (c.in-Ok.ensures.waits history lists.session_at)
    c.pass.ensures.unread

pub returns-in-Err-clause-waits : goal.returns-in-Err-clause-waits
returns-in-Err-clause-waits g c = λ line history lists. c.in-Err.ensures.waits history lists.session_at
