use Rattle.std.proofs.Common.{append_assoc}
use Rattle.link_report.specs.Identity.{identity_text}
use Rattle.link_report.proofs.identity.write_identity.Goals as goal

pub returns-clause-text : goal.returns-clause-text
unfolding identity_text
returns-clause-text c =
    rw (
      c.write_fragment.ensures.text,
      c.write_number-at.ensures.text,
      c.write_eid-at.ensures.text,
      c.write_bytes-at.ensures.text,
      c.write_origin-at.ensures.text,
    ) (simp append_assoc)
