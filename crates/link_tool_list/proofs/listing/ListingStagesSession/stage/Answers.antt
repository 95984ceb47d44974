use Rattle.std.proofs.Common.{refl}
use Rattle.link_tool_list.proofs.listing.ListingStagesSession.stage.Goals as goal

-- a step that does not go on has the bound of its stage
pub returns-clause-gives : goal.returns-clause-gives
returns-clause-gives g c = λ start history at lists.
    let gives = c.step.ensures.gives start history at lists in
    rw (← gives.1 refl) gives.3
