use Rattle.std.proofs.Common.{◌∷◌, ◌∙◌, refl}
use Rattle.link_bundle_blocks.specs.Blocks.{PrimaryOf}
use Rattle.link_bundle.specs.Left.{primary_of}
use Rattle.link_bundle_blocks.proofs.Readings.{primary_read}
use Rattle.link_bundle.proofs.draft.Draft.whole.Goals as goal

pub returns-clause-read : goal.returns-clause-read
returns-clause-read c =
    let primary = primary_of c.whole_primary.new.self in (
      PrimaryOf primary c.in_ok-offset.field-0-0 c.in_ok-offset.offset ∷ c.in_ok-payload.ensures.0,
      primary_read c.args.bytes.now primary c.in_ok-offset.field-0-0 c.in_ok-offset.offset
          c.in_ok-offset.ensures.read ∙ rw (c.in_ok-payload.ensures.1 primary) refl,
    )

pub returns-clause-primary : goal.returns-clause-primary
returns-clause-primary c =
    ((c.in_ok-offset.field-0-0, c.in_ok-offset.offset), c.in_ok-offset.ensures.read)
