use Rattle.std.proofs.Common.{◌≡◌, append_assoc, rules}
use Rattle.link_report.specs.Message.{parameters_text}
use Rattle.link_report.proofs.message.write_session.Goals as goal

pub returns-clause-text : goal.returns-clause-text
unfolding parameters_text
returns-clause-text c =
    let wide : c.from.result ≡ c.args.keepalive = search rules in
    rw (
      ← wide,
      c.write_items.ensures.text,
      c.write_escaped-at.ensures.text,
      c.write_bytes-at.ensures.text,
      c.write_number-at-3.ensures.text,
      c.write_number-at-2.ensures.text,
      c.write_number-at.ensures.text,
    ) (simp append_assoc)
