-- What the walks share, and the names that they cite.
pub use Rattle.link_ffi_tools.proofs.Walks.{◌≡◌, ℕ, List, [], ◌∷◌, ◌++◌, length, refl, lit<, w32, MutBor, Bor, proved, full_share, emp, id⊢, GName, Incl-refl, ftrue, fsep, fex, flft, flent, part_in, named, vint, vptr, fact, fact_i, tables, Body, lft_new, lft_end, lent_back, whole, sub, agg, ‵, raw, ◌⊛◌, some, later, prop, ◌$◌, ◌∵◌, !, qed, done, move, keep, drop, use0, use1, use2, use3, split, join, fsplit, fjoin, fpick, fpack, pick, await, regoal, suffices, group, enter, of_opd, lit, addr, from, fld, hop, stop, init, no_more, and_then, assigns, returns, alloc_all, pass_all, free_all, look_at, look_in_at, get, get_in, through, sets, lands_as, u8, u32, u64, shows, Is, lends_ref, ref_back, lends_shr, part_at, mem, uint_Makes, uint_Lawful, Ptr, RawPtr, block_ptr, lies_at, room_at, in_a_block, rawptr_vals, rawptr_Tells, MutRef, ShrRef, mut_vals, mut_Tells, shr_vals, shr_Tells, ShrSlice, MutSlice, slice_val, shr_slice_vals, shr_slice_Tells, mut_slice_vals, mut_slice_Tells, nothing, owned, heard, peeks, calls_at, Lasts, lasts, triple_of, says, Stays, walk_of, ends_at, framed, none, none_made, states, passed, passed-go}
pub use Rattle.std.proofs.Common.{w64}
pub use denote.Plain.{uint_vals, uint_Tells}
