-- `and` makes the empty struct, with the waits that its clause names. Assumes `Logic`.
use Rattle.link_run.proofs.Walks.{[], ◌∷◌, refl, proved, Args, a_type, named, inst_fn, ‵, raw, ◌⊛◌, ◌$◌, ◌∵◌, !, qed, done, move, keep, split, fjoin, suffices, agg, enter, no_more, and_then, returns, alloc_all, pass_all, free_all, look_at, get, sets, RefOf, yes, Is, param, layouts, RattleType, owns, types_at, alive, shr_vals, shr_Tells, plain, nothing, owned, makes, Tuple, says, Stays, walk_of, stay_dropped, Goes-dropped, ends_at, none, one, one_made}
use Rattle.link_run.specs.Run.{noted}
use Rattle.link_run.specs.contracts.input.Position as Position
use Rattle.link_run.specs.contracts.writers.Writers as Writers
use Rattle.std.specs.contracts.marker.PhantomData as Mark
use Rattle.link_run.specs.contracts.log.Log as Log
use Rattle.link_run.specs.contracts.log.Log.and as f
use Rattle.link_run.specs.contracts.log.Log.and.Key.{name as #self}
use Rattle.link_run.proofs.log.Log.and.Statement.{statement}
use Rattle.link_run.proofs.log.Log.and.Code as code

abbrev stayed : (S W E : RattleType) → Stays (f.ended S W E).signature.params (f.ended S W E).kept
stayed S W E = (stay_dropped _ yes, (stay_dropped _ yes, (stay_dropped _ yes, (stay_dropped _ yes, tt))))

pub and_spec : {M : Type 1} → statement M
and_spec 𝓤 𝓛 𝓜 𝓡 wired S W E LS LW LE =
    let args : Args = layouts (a_type ∷ a_type ∷ a_type ∷ []) (S, (W, (E, tt))) in
    let tuple : RattleType = Tuple (param 0 S ∷ param 1 W ∷ param 2 E ∷ []) in
    let Made : RattleType = Log.the_row (param 0 S) (param 1 W) (param 2 E) in
    let T = f.ended S W E in
    let c = f.clauses S W E 𝓛 𝓜.mem 𝓡.returns in
    let V = walk_of 𝓛 T (stayed S W E) c in
    proved 𝓛 T (stayed S W E) c 𝓜 𝓡
    (Goes-dropped 𝓛 7 (RefOf (0 ∷ []) tt (plain (λ _. Log.the_row (param 0 S) (param 1 W) (param 2 E))) (λ _. tt)) yes (λ κs x w. refl), (Goes-dropped 𝓛 7 (RefOf (1 ∷ []) tt (plain (λ _. Position.the_row)) (λ _. tt)) yes (λ κs x w. refl), (Goes-dropped 𝓛 7 (RefOf (2 ∷ []) tt (plain (λ _. Writers.the_row (param 1 W) (param 2 E))) (λ _. tt)) yes (λ κs x w. refl), (Goes-dropped 𝓛 7 (RefOf (3 ∷ []) tt (plain (λ _. param 0 S)) (λ _. tt)) yes (λ κs x w. refl), tt))))
    (#self args) (inst_fn args code.function) (code.unfolded 𝓤 𝓛.H 𝓜 𝓡 wired (S, (W, (E, tt))))
    (λ κs. (shr_vals, (shr_vals, (shr_vals, (shr_vals, tt)))))
    (λ κs. (shr_Tells (named 0) κs.0 (Log.the_row (param 0 S) (param 1 W) (param 2 E)), (shr_Tells (named 1) κs.1.0 (Position.the_row), (shr_Tells (named 2) κs.1.1.0 (Writers.the_row (param 1 W) (param 2 E)), (shr_Tells (named 3) κs.1.1.1.0 (param 0 S), tt))))) (λ κs qs bounds a g are.
    let y : V.Ghost = ((κs, qs, bounds, a, (shr_vals a.0, (shr_vals a.1.0, (shr_vals a.1.1.0, (shr_vals a.1.1.1.0, tt))))), g) in
    let made : Made.Denot = record { of = record {}; waits = noted a.0.now.waits (record { position = a.1.0.now; writers = a.1.1.0.now; reach = g a.1.1.1.0.now }) } in
    qed 𝓛 ((raw (alive 𝓛 T.signature κs qs) ⊛ ‵ (owns (types_at T.signature.params κs) a y.0.4)) ∷ raw ((c κs a).requires g) ∷ []) ∵
    split ! $ keep ! (0 ∷ []) $
    enter ! _ _ _ _ _ $ alloc_all ! (λ l. pass_all ! refl ((tt, tt), ((tt, tt), ((tt, tt), ((tt, tt), tt)))) $
    sets ! (agg ! (no_more !)) refl (tt, tt) $
    sets ! (agg ! (and_then ! (get ! refl) (no_more !))) refl (tt, (tt, tt)) $
    nothing ! $ owned ! (Mark.the_row tuple) (Is (Mark.the_row tuple)) (makes (Mark.the_type tuple) tt 𝓛) (record {}) (none ∷ []) (tt, (refl, tt)) $
    one_made ! (Mark.the_row tuple) (record {}) none $ fjoin ! $
    returns ! (look_at ! 0 refl) $ free_all ! refl $
    suffices ! _ (ends_at 𝓛 T (stayed S W E) c y (one none) made (tt, (tt, (tt, (tt, tt)))) (tt, (tt, (tt, (tt, tt))))) $ says ! refl $
    nothing ! $ nothing ! $ fjoin ! $ nothing ! $ fjoin ! $ nothing ! $ fjoin ! $ nothing ! $ fjoin ! $ move ! (2 ∷ 0 ∷ 1 ∷ []) $ done !))
