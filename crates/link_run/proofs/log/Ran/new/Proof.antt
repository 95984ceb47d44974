-- `new` makes the empty struct, with the log that its clause names. Assumes `Logic`.
use Rattle.link_run.proofs.Walks.{[], ◌∷◌, refl, proved, Args, a_type, named, inst_fn, ‵, raw, ◌⊛◌, ◌$◌, ◌∵◌, !, qed, done, move, keep, split, fjoin, suffices, agg, enter, no_more, and_then, returns, alloc_all, pass_all, free_all, look_at, get, sets, RefOf, yes, Is, param, layouts, RattleType, owns, types_at, alive, shr_vals, shr_Tells, plain, nothing, owned, makes, Tuple, says, Stays, walk_of, stay_dropped, Goes-dropped, ends_at, none, one, one_made}
use Rattle.link_run.specs.Run.{devices, waits_by}
use Rattle.link_run.specs.contracts.log.Log as Log
use Rattle.std.specs.contracts.marker.PhantomData as Mark
use Rattle.link_run.specs.contracts.log.Ran as Ran
use Rattle.link_run.specs.contracts.log.Ran.new as f
use Rattle.link_run.specs.contracts.log.Ran.new.Key.{name as #self}
use Rattle.link_run.proofs.log.Ran.new.Statement.{statement}
use Rattle.link_run.proofs.log.Ran.new.Code as code

abbrev stayed : (R W E S : RattleType) → Stays (f.ended R W E S).signature.params (f.ended R W E S).kept
stayed R W E S = (stay_dropped _ yes, (stay_dropped _ yes, (stay_dropped _ yes, (stay_dropped _ yes, tt))))

pub new_spec : {M : Type 1} → statement M
new_spec 𝓤 𝓛 𝓜 𝓡 wired R W E S LR LW LE LS =
    let args : Args = layouts (a_type ∷ a_type ∷ a_type ∷ a_type ∷ []) (R, (W, (E, (S, tt)))) in
    let tuple : RattleType = Tuple (param 0 R ∷ param 1 W ∷ param 2 E ∷ []) in
    let Made : RattleType = Ran.the_row (param 0 R) (param 1 W) (param 2 E) in
    let T = f.ended R W E S in
    let c = f.clauses R W E S 𝓛 𝓜.mem 𝓡.returns in
    let V = walk_of 𝓛 T (stayed R W E S) c in
    proved 𝓛 T (stayed R W E S) c 𝓜 𝓡
    (Goes-dropped 𝓛 8 (RefOf (0 ∷ []) tt (plain (λ _. Log.the_row (param 3 S) (param 1 W) (param 2 E))) (λ _. tt)) yes (λ κs x w. refl), (Goes-dropped 𝓛 8 (RefOf (1 ∷ []) tt (plain (λ _. param 0 R)) (λ _. tt)) yes (λ κs x w. refl), (Goes-dropped 𝓛 8 (RefOf (2 ∷ []) tt (plain (λ _. param 1 W)) (λ _. tt)) yes (λ κs x w. refl), (Goes-dropped 𝓛 8 (RefOf (3 ∷ []) tt (plain (λ _. param 2 E)) (λ _. tt)) yes (λ κs x w. refl), tt))))
    (#self args) (inst_fn args code.function) (code.unfolded 𝓤 𝓛.H 𝓜 𝓡 wired (R, (W, (E, (S, tt)))))
    (λ κs. (shr_vals, (shr_vals, (shr_vals, (shr_vals, tt)))))
    (λ κs. (shr_Tells (named 0) κs.0 (Log.the_row (param 3 S) (param 1 W) (param 2 E)), (shr_Tells (named 1) κs.1.0 (param 0 R), (shr_Tells (named 2) κs.1.1.0 (param 1 W), (shr_Tells (named 3) κs.1.1.1.0 (param 2 E), tt))))) (λ κs qs bounds a g are.
    let y : V.Ghost = ((κs, qs, bounds, a, (shr_vals a.0, (shr_vals a.1.0, (shr_vals a.1.1.0, (shr_vals a.1.1.1.0, tt))))), g) in
    let made : Made.Denot = record { of = record {}; from = (waits_by g a.0.now.waits).from; to = devices a.1.0.now a.1.1.0.now a.1.1.1.0.now; waits = a.0.now.waits.each } in
    qed 𝓛 ((raw (alive 𝓛 T.signature κs qs) ⊛ ‵ (owns (types_at T.signature.params κs) a y.0.4)) ∷ raw ((c κs a).requires g) ∷ []) ∵
    split ! $ keep ! (0 ∷ []) $
    enter ! _ _ _ _ _ $ alloc_all ! (λ l. pass_all ! refl ((tt, tt), ((tt, tt), ((tt, tt), ((tt, tt), tt)))) $
    sets ! (agg ! (no_more !)) refl (tt, tt) $
    sets ! (agg ! (and_then ! (get ! refl) (no_more !))) refl (tt, (tt, tt)) $
    nothing ! $ owned ! (Mark.the_row tuple) (Is (Mark.the_row tuple)) (makes (Mark.the_type tuple) tt 𝓛) (record {}) (none ∷ []) (tt, (refl, tt)) $
    one_made ! (Mark.the_row tuple) (record {}) none $ fjoin ! $
    returns ! (look_at ! 0 refl) $ free_all ! refl $
    suffices ! _ (ends_at 𝓛 T (stayed R W E S) c y (one none) made (tt, (tt, (tt, (tt, tt)))) (tt, (tt, (tt, (tt, tt))))) $ says ! (record { from = refl; to = refl; waits = refl }) $
    nothing ! $ nothing ! $ fjoin ! $ nothing ! $ fjoin ! $ nothing ! $ fjoin ! $ nothing ! $ fjoin ! $ move ! (2 ∷ 0 ∷ 1 ∷ []) $ done !))
