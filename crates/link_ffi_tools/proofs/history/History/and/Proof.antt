-- The history that the clause names is chosen.
use Rattle.link_ffi_tools.proofs.Walks.{[], ◌∷◌, ◌++◌, refl, proved, ftrue, flft, named, ‵, ◌⊛◌, ◌$◌, ◌∵◌, !, qed, done, move, keep, split, fjoin, suffices, agg, enter, no_more, returns, alloc_all, pass_all, free_all, look_at, sets, u8, ShrSlice, shr_slice_vals, shr_slice_Tells, ShrRef, shr_vals, shr_Tells, nothing, walk_of, says, ends_at, none, none_made, passed, passed-go}
use Rattle.link_ffi_tools.specs.contracts.history.History as History
use Rattle.link_ffi_tools.specs.contracts.history.History.and as f
use Rattle.link_ffi_tools.proofs.history.History.and.Statement.{statement}
use Rattle.link_ffi_tools.proofs.history.History.and.Code as code

pub and_spec : {M : Type 1} → statement M
and_spec 𝓤 𝓛 𝓜 𝓡 wired =
    let c = f.clauses 𝓛 𝓜.mem 𝓡.returns in let stayed = passed f.ended in
    let W = walk_of 𝓛 f.ended stayed c in
    let R = History.the_row in
    proved 𝓛 f.ended stayed c 𝓜 𝓡 (passed-go 𝓛 f.ended)
    f.Key.name code.function (code.unfolded 𝓤 𝓛.H 𝓜 𝓡 wired)
    (λ κs. (shr_vals, (shr_slice_vals, tt))) (λ κs. (shr_Tells (named 0) κs.0 R, (shr_slice_Tells (named 1) κs.1.0 u8, tt))) (λ κs qs bounds a _ are.
    let this = a.0 in
    let bytes = a.1.0 in
    let y : W.Ghost = ((κs, qs, bounds, a, (shr_vals this, (shr_slice_vals bytes, tt))), tt) in
    let made : R.Denot = record this.now { text = this.now.text ++ bytes.now } in
    qed 𝓛 (((‵ (flft κs.0 qs.0) ⊛ (‵ (flft κs.1.0 qs.1.0) ⊛ ‵ ftrue)) ⊛ (‵ ((ShrRef (named 0) κs.0 R).own_val this (shr_vals this)) ⊛ (‵ ((ShrSlice (named 1) κs.1.0 u8).own_val bytes (shr_slice_vals bytes)) ⊛ ‵ ftrue))) ∷ ‵ ftrue ∷ []) ∵
    split ! $ keep ! (0 ∷ []) $
    enter ! _ _ _ _ _ $ alloc_all ! (λ l. pass_all ! refl ((tt, tt), ((tt, (tt, (record { fits = are.1.0.0.1.0 }, tt))), tt)) $
    sets ! (agg ! (no_more !)) refl (tt, tt) $
    nothing ! $ none_made ! $ fjoin ! $
    returns ! (look_at ! 0 refl) $ free_all ! refl $
    suffices ! _ (ends_at 𝓛 f.ended stayed c y none made (tt, (tt, tt)) (tt, (tt, tt))) $ says ! refl $
    nothing ! $ nothing ! $ fjoin ! $ nothing ! $ fjoin ! $ move ! (2 ∷ 0 ∷ 1 ∷ []) $ done !))
