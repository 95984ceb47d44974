-- The history that the clauses name is chosen.
use Rattle.link_ffi_tools.proofs.Walks.{[], ◌∷◌, refl, proved, ftrue, flft, named, ‵, ◌⊛◌, ◌$◌, ◌∵◌, !, qed, done, move, keep, split, fjoin, suffices, agg, enter, no_more, returns, alloc_all, pass_all, free_all, look_at, sets, u8, ShrSlice, shr_slice_vals, shr_slice_Tells, nothing, walk_of, says, ends_at, none, none_made, passed, passed-go}
use Rattle.link_ffi_tools.specs.contracts.history.History as History
use Rattle.link_ffi_tools.specs.contracts.history.History.new as f
use Rattle.link_ffi_tools.proofs.history.History.new.Statement.{statement}
use Rattle.link_ffi_tools.proofs.history.History.new.Code as code

pub new_spec : {M : Type 1} → statement M
new_spec 𝓤 𝓛 𝓜 𝓡 wired =
    let c = f.clauses 𝓛 𝓜.mem 𝓡.returns in let stayed = passed f.ended in
    let W = walk_of 𝓛 f.ended stayed c in
    proved 𝓛 f.ended stayed c 𝓜 𝓡 (passed-go 𝓛 f.ended)
    f.Key.name code.function (code.unfolded 𝓤 𝓛.H 𝓜 𝓡 wired)
    (λ κs. (shr_slice_vals, tt)) (λ κs. (shr_slice_Tells (named 0) κs.0 u8, tt)) (λ κs qs bounds a _ are.
    let slice = a.0 in
    let y : W.Ghost = ((κs, qs, bounds, a, (shr_slice_vals slice, tt)), tt) in
    let made : (History.the_row).Denot = record { before = slice.now; text = [] } in
    qed 𝓛 (((‵ (flft κs.0 qs.0) ⊛ ‵ ftrue) ⊛ (‵ ((ShrSlice (named 0) κs.0 u8).own_val slice (shr_slice_vals slice)) ⊛ ‵ ftrue)) ∷ ‵ ftrue ∷ []) ∵
    split ! $ keep ! (0 ∷ []) $
    enter ! _ _ _ _ _ $ alloc_all ! (λ l. pass_all ! refl ((tt, (tt, (record { fits = are.0.0.1.0 }, tt))), tt) $
    sets ! (agg ! (no_more !)) refl (tt, tt) $
    nothing ! $ none_made ! $ fjoin ! $
    returns ! (look_at ! 0 refl) $ free_all ! refl $
    suffices ! _ (ends_at 𝓛 f.ended stayed c y none made (tt, tt) (tt, tt)) $ says ! refl $
    nothing ! $ nothing ! $ fjoin ! $ move ! (2 ∷ 0 ∷ 1 ∷ []) $ done !))
