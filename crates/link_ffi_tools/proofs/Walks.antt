-- What the walks share, and the names that they cite.
pub use Rattle.std.proofs.Common.{◌≡◌, ℕ, List, [], ◌∷◌, ◌++◌, length, refl, lit<, w32, MutBor, Bor}
pub use Rattle.std.proofs.raw_atomic.Walks.{proved}
pub use base.Fraction.{full_share}
pub use base.Logic.{emp, id⊢}
pub use base.Fml.{GName, Incl-refl, ftrue, fsep, fex, flft, flent}
pub use borrow.Table.OneValue.{part_in}
pub use mir.Syntax.{named}
pub use mir.Val.{vint, vptr}
pub use contract.Monad.{fact, fact_i}
pub use contract.Running.{tables}
pub use types.SemTy.{Body}
pub use types.Tokens.{lft_new, lft_end, lent_back}
pub use types.Part.{whole, sub, agg}
pub use types.Kit.{‵, raw, ◌⊛◌, some, later, prop, ◌$◌, ◌∵◌, !, qed, done, move, keep, drop, use0, use1, use2, use3, split, join, fsplit, fjoin, fpick, fpack, pick, await, regoal, suffices, group}
pub use types.Run.{enter, of_opd, lit, addr, from, fld, hop, stop, init, no_more, and_then, assigns, returns}
pub use types.ByLocal.{alloc_all, pass_all, free_all, look_at, look_in_at, get, get_in, through, sets, lands_as}
pub use denote.Builtin.{u8, u32, u64}
pub use denote.Laws.{shows, Is}
pub use denote.Lend.{lends_ref, ref_back, lends_shr}
pub use denote.Memory.{part_at, mem}
pub use denote.Plain.{uint_Makes, uint_Lawful}
pub use denote.RawPtr.{Ptr, RawPtr, block_ptr, lies_at, room_at, in_a_block, rawptr_vals, rawptr_Tells}
pub use denote.Ref.{MutRef, ShrRef, mut_vals, mut_Tells, shr_vals, shr_Tells}
pub use denote.Slice.{ShrSlice, MutSlice, slice_val, shr_slice_vals, shr_slice_Tells, mut_slice_vals, mut_slice_Tells}
pub use denote.Steps.{nothing, owned, heard, peeks}
pub use denote.Triple.Call.{calls_at}
pub use denote.Triple.Clauses.{Lasts, lasts}
pub use denote.Triple.Spec.{triple_of}
pub use denote.Triple.Walked.{says, Stays, walk_of, ends_at}
pub use denote.Triple.Table.{framed}
pub use Rattle.link_run.proofs.Walks.{none, none_made}
use seplogic.Ra.Ura.{Ura}
use types.Kit.{Goal, Item, Step}
use types.Logic.{Logic}
use denote.Exit.{left}
use denote.Signature.{Slot}
use denote.Triple.{Clauses.Ended, End.Kepts, Walked.AllGo}

-- a fact is put into the context
pub states : {M : Type 1} {𝓤 : Ura M} {𝓛 : Logic 𝓤} {K : Type 0} {Γ : List (Item 𝓤)}
    {G : Goal 𝓤 𝓛.H} → K → {φ : Type 0} → φ → Step K 𝓛 (raw (fact 𝓤 φ) ∷ Γ) G Γ G
states {𝓤 = 𝓤} {𝓛 = 𝓛} t {φ} x = use0 𝓛 (raw (fact 𝓤 φ)) (fact_i 𝓤 φ (emp 𝓤) x)

-- of parameters that were passed on to a callee: what the callee has left of them
abbrev all_passed : {n : ℕ} (ss : List (Slot n)) (ks : Kepts ss) → Stays ss ks
all_passed [] ks = tt
all_passed (s ∷ ss) ks = (
  record { fit = λ κs x w. Unit {0}; has = λ κs x w vs. left ((s.row κs).exit ks.0) x w },
  all_passed ss ks.1,
)

all_go : {M : Type 1} {𝓤 : Ura M} (𝓛 : Logic 𝓤) (n : ℕ) (ss : List (Slot n)) (ks : Kepts ss)
    → AllGo 𝓛 n ss ks (all_passed ss ks)
all_go 𝓛 n [] ks = tt
all_go 𝓛 n (s ∷ ss) ks = (λ κs x w vs fits. 𝓛.laws.⇛_intro _, all_go 𝓛 n ss ks.1)

abbrev pub passed : (T : Ended) → Stays T.signature.params T.kept
passed T = all_passed T.signature.params T.kept

pub passed-go : {M : Type 1} {𝓤 : Ura M} (𝓛 : Logic 𝓤) (T : Ended)
    → AllGo 𝓛 T.signature.lifetimes T.signature.params T.kept (passed T)
passed-go 𝓛 T = all_go 𝓛 T.signature.lifetimes T.signature.params T.kept
