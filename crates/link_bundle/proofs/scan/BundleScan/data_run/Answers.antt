use Rattle.std.proofs.Common.{◌≡◌, ◌-◌, ap, refl, sym, ◌∙◌, length, arith}
use Rattle.link_bundle.specs.Stages.{stage_in_data}
use Rattle.link_bundle.proofs.BlockStages.{data_fits, data_taken, data_left, goes_after, in_data-fits}
use Rattle.link_bundle.proofs.Steps.{fits_at, slice_bytes}
use Rattle.link_bundle.proofs.scan.BundleScan.data_run.Goals as goal

pub invariant_of-self-else-rest-gt0 : goal.invariant_of-self-else-rest-gt0
invariant_of-self-else-rest-gt0 c =
    let now = c.args.self.now in
    let at = data_fits c.args.left now.cursor now.draft (fits_at now _ c.requires.stage) in
    record {
      fits = rw c.in_data-self.ensures
          (in_data-fits 0 c.data_run.new.self now.draft (c.data_run.ensures.hold ∙ at.0) at.1);
    }

pub returns-in-BlockData-clause-taken : goal.returns-in-BlockData-clause-taken
returns-in-BlockData-clause-taken c =
    let draft = c.args.self.now.draft in
    data_taken {old = c.args.self.now} c.args.run.now c.requires.stage
    (slice_bytes c.args.run.now (λ k. omega (arith, c.type_inv.run k))) c.requires.within
    (sym (data_left _ draft.block.check draft.payload_span c.if-rest-gt0.true)) refl
    c.data_run.ensures.checks c.data_run.ensures.count c.data_run.ensures.hold

pub returns-else-rest-gt0 : goal.returns-else-rest-gt0
returns-else-rest-gt0 c =
    let draft = c.args.self.now.draft in
    let none : 0 ≡ c.args.left - length c.args.run.now = omega arith in
    record {
      taken = data_taken c.args.run.now c.requires.stage
          (slice_bytes c.args.run.now (λ k. omega (arith, c.type_inv.run k))) c.requires.within
          (c.in_data-self.ensures
          ∙ ap (λ left. stage_in_data left draft.block.check draft.payload_span) none) refl
          c.data_run.ensures.checks c.data_run.ensures.count c.data_run.ensures.hold;
      may_step = rw c.in_data-self.ensures (goes_after draft.block.check draft.payload_span);
    }
