use Rattle.std.proofs.Common.{refl, sym, ◌∙◌}
use Rattle.link_bundle_blocks.specs.{Primary.{primary_at, primary_elements}, Reading.row_at}
use Rattle.link_bundle_blocks.proofs.Elements.{fragment_read}
use Rattle.link_bundle.proofs.draft.Draft.primary_at.Goals as goal

pub returns-clause-read : goal.returns-clause-read
unfolding primary_at primary_elements row_at
returns-clause-read c =
    rw (
      c.in_ok-head.ensures,
      sym c.primary_block.ensures.judged ∙ c.in_ok-count.was,
      c.in_ok-head-2.ensures,
      sym c.version.ensures.judged ∙ c.in_ok-version.was,
      c.in_ok-flags.ensures,
      c.in_ok-head-3.ensures,
      sym c.primary_check_type.ensures.judged ∙ c.in_ok-check.was,
      c.in_ok-destination.ensures.read,
      c.in_ok-source.ensures.read,
      c.in_ok-report_to.ensures.read,
      c.in_ok-offset.ensures,
      c.in_ok-time.ensures,
      c.in_ok-sequence.ensures,
      c.in_ok-lifetime.ensures,
      sym c.is_fragment.ensures,
      fragment_read _ _ _ _ _ c.in_ok-fragment.ensures,
      c.keep.ensures,
      c.keep-2.ensures,
      c.keep-3.ensures,
    ) refl
