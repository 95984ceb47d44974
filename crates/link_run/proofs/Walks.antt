-- What the walks of this crate share, and the names that they cite: a struct without a field, and
-- one with a single field, are made. Assumes `Logic`.
pub use Rattle.std.proofs.Common.{List, [], ◌∷◌, ◌++◌, refl}
pub use Rattle.std.proofs.raw_atomic.Walks.{proved}
pub use mir.Syntax.{Args, a_type, named}
pub use mir.MapTy.{inst_fn}
pub use types.Kit.{‵, raw, ◌⊛◌, ◌$◌, ◌∵◌, !, qed, done, move, keep, split, fjoin, suffices}
pub use types.Part.{agg}
pub use types.Run.{enter, no_more, and_then, returns}
pub use types.ByLocal.{alloc_all, pass_all, free_all, look_at, get, sets}
pub use denote.Builtin.{RefOf}
pub use denote.Exit.{yes}
pub use denote.Laws.{Is}
pub use denote.Param.{param, layouts}
pub use denote.RattleType.{RattleType, owns}
pub use denote.Ref.{shr_vals, shr_Tells}
pub use denote.Signature.{plain, types_at}
pub use denote.Steps.{nothing, owned}
pub use denote.Struct.Laws.{makes}
pub use denote.Struct.Tuple.{Tuple}
pub use denote.Triple.Entry.{alive}
pub use denote.Triple.Walked.{says, Stays, walk_of, stay_dropped, Goes-dropped, ends_at}
use seplogic.Ra.Ura.{Ura}
use mir.Val.{Val, vstruct, vcons, vnil}
use types.Kit.{Goal, Step, step, Item, fpack, feq_i}
use types.Logic.{Logic}
use denote.RattleType.{Valss}
use denote.Struct.Struct.{Struct, within}

-- a struct by its fields alone: what it owns does not read its name
abbrev plainly : List RattleType → RattleType
plainly Rs = Struct (record { name = []; args = []; types = []; fields = Rs })

abbrev pub none : Val
none = vstruct vnil

abbrev pub one : Val → Val
one u = vstruct (vcons u vnil)

module _ {M : Type 1} {𝓤 : Ura M} {𝓛 : Logic 𝓤} {K : Type 0} {Γ : List (Item 𝓤)}
    {G : Goal 𝓤 𝓛.H} where
  pub none_made : K → Step K 𝓛 (‵ ((plainly []).own_val tt (none ∷ [])) ∷ Γ) G Γ G
  none_made t = step (λ s.
      nothing t $ feq_i t (List Val) (none ∷ []) (none ∷ []) refl $ fjoin t $
      fpack t (Valss [])
      (within (record { name = []; args = []; types = []; fields = [] }) tt (none ∷ [])) tt $ s)

  pub one_made : K → (R : RattleType) (x : R.Denot) (u : Val)
      → Step K 𝓛 (‵ ((plainly (R ∷ [])).own_val (x, tt) (one u ∷ [])) ∷ Γ) G
      (‵ (R.own_val x (u ∷ [])) ∷ Γ) G
  one_made t R x u = step (λ s.
      nothing t $ move t (1 ∷ 0 ∷ []) $ fjoin t $ feq_i t (List Val) (one u ∷ []) (one u ∷ []) refl $
      fjoin t $
      fpack t (Valss (R ∷ []))
      (within (record { name = []; args = []; types = []; fields = R ∷ [] }) (x, tt) (one u ∷ []))
      (u ∷ [], tt) $ s)
