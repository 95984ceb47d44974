-- The memory is lent to `next_block` as a scan, for a lifetime that ends with the call.
use Rattle.tcpclkit_c.proofs.Walks.{ℕ, [], ◌∷◌, ◌++◌, length, refl, w32, MutBor, proved, full_share, id⊢, GName, ftrue, flft, flent, named, vptr, fact, tables, Body, lft_new, lft_end, ‵, raw, ◌⊛◌, some, later, prop, ◌$◌, ◌∵◌, !, qed, done, move, keep, drop, use1, use2, use3, split, join, fsplit, fpick, pick, await, regoal, suffices, group, enter, of_opd, addr, stop, no_more, and_then, returns, alloc_all, pass_all, free_all, look_at, get, through, sets, lands_as, u8, u32, u64, shows, Is, lends_ref, ref_back, part_at, mem, uint_Lawful, Ptr, RawPtr, block_ptr, lies_at, in_a_block, rawptr_vals, rawptr_Tells, MutRef, mut_vals, mut_Tells, ShrSlice, slice_val, shr_slice_vals, shr_slice_Tells, nothing, heard, peeks, calls_at, Lasts, lasts, triple_of, walk_of, ends_at, framed, states, passed, passed-go}
use prog.Wp.{WpFn}
use Rattle.tcpclkit_c.specs.declared.scan.MarkedScan.{MarkedScan}
use Rattle.tcpclkit_c.specs.{contracts.scan.MarkedScan.the_row as R, Scan.HoldsScan}
use Rattle.tcpclkit_c.specs.NextBlock.{FeedsToBlockEndIfAnyScan, fed_block}
use Rattle.link_ffi_numbers.specs.contracts.block.BlockNumbers.{the_row as B}
use Rattle.tcpclkit_c.specs.contracts.scan.tcpclkit_raw_next_block as f
use Rattle.tcpclkit_c.specs.contracts.scan.next_block as g
use Rattle.tcpclkit_c.proofs.scan.{tcpclkit_raw_next_block.Statement.statement, next_block.Met.met}
use Rattle.tcpclkit_c.proofs.scan.tcpclkit_raw_next_block.Code as code
use Rattle.tcpclkit_c.proofs.Lending.{held_scan}

pub tcpclkit_raw_next_block_spec : {M : Type 1} → statement M
tcpclkit_raw_next_block_spec 𝓤 𝓛 𝓜 𝓡 wired =
    let c = f.clauses 𝓛 𝓜.mem 𝓡.returns in let stayed = passed f.ended in
    let W = walk_of 𝓛 f.ended stayed c in
    let 𝓣 = tables 𝓤 𝓛.H 𝓜 𝓡 𝓡.env in
    proved 𝓛 f.ended stayed c 𝓜 𝓡 (passed-go 𝓛 f.ended)
    f.Key.name code.function (code.unfolded 𝓤 𝓛.H 𝓜 𝓡 wired)
    (λ κs. (rawptr_vals, (shr_slice_vals, (mut_vals, (mut_vals, tt)))))
    (λ κs. (rawptr_Tells, (shr_slice_Tells (named 0) κs.0 u8, (mut_Tells (named 1) κs.1.0 u64, (mut_Tells (named 2) κs.1.1.0 B, tt))))) (λ κs qs bounds a seen are.
    let piece = a.1.0 in
    let taken = a.1.1.0 in
    let block = a.1.1.1.0 in
    let y : Ptr → W.Ghost = λ p. ((κs, qs, bounds, (p, a.1), (rawptr_vals p, (shr_slice_vals piece, (mut_vals taken, (mut_vals block, tt))))), seen) in
    let Tokens = (‵ (flft κs.0 qs.0) ⊛ (‵ (flft κs.1.0 qs.1.0) ⊛ (‵ (flft κs.1.1.0 qs.1.1.0) ⊛ ‵ ftrue))) in
    let Rest = (‵ ((ShrSlice (named 0) κs.0 u8).own_val piece (shr_slice_vals piece)) ⊛ (‵ ((MutRef (named 1) κs.1.0 u64).own_val taken (mut_vals taken)) ⊛ (‵ ((MutRef (named 2) κs.1.1.0 B).own_val block (mut_vals block)) ⊛ ‵ ftrue))) in
    qed 𝓛 ((Tokens ⊛ (‵ (RawPtr.own_val a.0 (rawptr_vals a.0)) ⊛ Rest)) ∷ ‵ (HoldsScan a.0 seen) ∷ []) ∵
    split ! $ move ! (1 ∷ []) $ split ! $ drop ! $ move ! (2 ∷ []) $ fpick ! (λ scan. fsplit ! $ move ! (1 ∷ []) $ fpick ! (λ has. drop ! $
    -- [the scan; what the other parameters own; the tokens]
    in_a_block ! a.0 (λ p. lies_at R full_share p scan) (id⊢ 𝓤 _) (λ b o e.
    regoal ! (λ p. prop (WpFn 𝓤 𝓛.H 𝓣.C 𝓣.Λ code.function (rawptr_vals p ++ (slice_val piece.ref_ptr (length piece.now) ∷ vptr taken.ref_ptr.0 taken.ref_ptr.1 ∷ vptr block.ref_ptr.0 block.ref_ptr.1 ∷ [])) (W.post (y p)))) e refl $
    enter ! _ _ _ _ _ $ alloc_all ! (λ l. pass_all ! refl ((tt, tt), ((tt, (tt, (record { fits = are.1.0.0.1.0 }, tt))), ((tt, tt), ((tt, tt), tt)))) $
    sets ! (of_opd ! (get ! refl)) refl (tt, tt) $
    sets ! (addr ! (through ! refl (stop !))) refl (tt, tt) $
    sets ! (addr ! (through ! refl (stop !))) refl (tt, tt) $
    sets ! (addr ! (through ! refl (stop !))) refl (tt, tt) $
    lft_new ! tt (λ α. let κ = α ∷ [] in
    move ! (1 ∷ []) $
    use1 𝓛 (later (some (λ (γ : GName). ‵ ((MutRef (named 0) κ R).own_val (record { ref_ptr = (b, o); ghost_name = γ; now = scan }) (vptr b o ∷ [])) ⊛ ‵ (flent κ (Body (mem R) b o γ)))))
    (lends_ref 𝓛 R (named 0) κ scan b o) $ await ! tt $ pick ! (λ γ. split ! $
    -- [the loan; the lender's part; the loan's token; what the other parameters own; the tokens]
    let loan : MutBor MarkedScan = record { ref_ptr = (b, o); ghost_name = γ; now = scan } in
    let G = triple_of 𝓛 g.signature (g.spec 𝓛 𝓜.mem 𝓡.returns) in
    let z : G.Ghost = (((κ, κs), (full_share, qs), tt, (loan, a.1), (vptr b o ∷ [], (shr_slice_vals piece, (mut_vals taken, (mut_vals block, tt))))), tt) in
    move ! (0 ∷ 3 ∷ []) $ join ! $ move ! (2 ∷ 3 ∷ []) $ join ! $ join ! $
    nothing ! $ move ! (1 ∷ 0 ∷ []) $ use2 𝓛 (raw (G.pre z)) (id⊢ 𝓤 _) $
    calls_at ! (framed 𝓤 𝓛.H 𝓜 (tables 𝓤 𝓛.H 𝓜 𝓡 𝓡.env)) G (met 𝓤 𝓛 𝓜 𝓡 (code.calls-tcpclkit_c::scan::next_block 𝓡.env wired)) z
    (and_then ! (get ! refl) (and_then ! (get ! refl) (and_then ! (get ! refl) (and_then ! (get ! refl) (no_more !))))) (λ v.
    use1 𝓛 (later (some (λ (r : ℕ). ((‵ (flft κ full_share) ⊛ Tokens) ⊛ ‵ (u32.own_val r (v ∷ []))) ⊛
    some (λ (ws : Lasts g.ended z.0.0 z.0.3). ‵ (lasts g.ended z.0.0 z.0.3 ws) ⊛
    raw (fact 𝓤 (FeedsToBlockEndIfAnyScan scan piece.now ws.0 ws.1.1.0 ws.1.1.1.0 r)))))) (id⊢ 𝓤 _) $
    await ! tt $ pick ! (λ r. split ! $ split ! $ split ! $ lft_end ! tt $
    move ! (2 ∷ []) $ peeks ! u32 (Is u32) (shows 𝓛 u32) r (v ∷ []) (λ is. lands_as ! refl refl ((uint_Lawful 𝓛 w32).typed r _ is).0 $
    move ! (3 ∷ []) $ pick ! (λ ws. split ! $ move ! (1 ∷ []) $ heard ! _ (λ gives. fsplit ! $
    -- [what is left of the loan; and of the others; the result; the loan is over; the tokens;
    -- the lender's part]
    fsplit ! $ move ! (4 ∷ 6 ∷ 0 ∷ []) $ use3 𝓛 (later (‵ (part_at R full_share ws.0 b o))) (ref_back 𝓛 R κ γ ws.0 b o) $ await ! tt $
    returns ! (look_at ! 0 refl) $ free_all ! refl $ keep ! (0 ∷ 2 ∷ 3 ∷ 4 ∷ []) $
    -- [the scan; what is left of the parameters; the result; the tokens]
    let end = gives.scan seen has in
    use1 𝓛 (‵ (HoldsScan (block_ptr b o) (seen ++ fed_block seen piece.now)))
    (held_scan 𝓛 full_share ws.0 b o (seen ++ fed_block seen piece.now) end.scanned) $
    move ! (1 ∷ []) $ nothing ! $ join ! $
    -- [what is left of the parameters; the scan; the result; the tokens]
    states ! end.answers $ states ! end.gives $ states ! end.counts $ move ! (6 ∷ 3 ∷ 5 ∷ 4 ∷ []) $
    suffices ! _ (ends_at 𝓛 f.ended stayed c (y (block_ptr b o)) v r (tt, ws.1) (tt, (tt, (tt, (tt, tt))))) $
    group ! 3 $ done !))))))))))))
