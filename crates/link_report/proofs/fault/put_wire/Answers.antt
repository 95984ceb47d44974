use Rattle.std.proofs.Common.{◌≡◌, append_assoc, rules}
use Rattle.link_report.specs.Fault.{wire_text}
use Rattle.link_report.proofs.fault.put_wire.Goals as goal

pub returns-in-UnknownType-clause-items : goal.returns-in-UnknownType-clause-items
unfolding wire_text
returns-in-UnknownType-clause-items c =
    rw (c.in-UnknownType.is, c.put_hex2.ensures.items, c.put_text-in-UnknownType.ensures.items, append_assoc)

pub returns-in-ListTooLong-clause-items : goal.returns-in-ListTooLong-clause-items
unfolding wire_text
returns-in-ListTooLong-clause-items c =
    let wide : c.from-in-ListTooLong.result ≡ c.in-ListTooLong.size = search rules in
    rw (c.in-ListTooLong.is, ← wide) c.put_number-in-ListTooLong.ensures.items

pub returns-in-TooManyItems-clause-items : goal.returns-in-TooManyItems-clause-items
unfolding wire_text
returns-in-TooManyItems-clause-items c = rw c.in-TooManyItems.is c.put_text-in-TooManyItems.ensures.items

pub returns-in-ItemsOverrun-clause-items : goal.returns-in-ItemsOverrun-clause-items
unfolding wire_text
returns-in-ItemsOverrun-clause-items c = rw c.in-ItemsOverrun.is c.put_text-in-ItemsOverrun.ensures.items
