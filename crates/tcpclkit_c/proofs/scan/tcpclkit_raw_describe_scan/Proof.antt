-- The memory is lent to `describe` as a scan to look at, for a lifetime that ends with the call.
use Rattle.tcpclkit_c.proofs.Walks.{ℕ, [], ◌∷◌, ◌++◌, length, refl, w32, Bor, proved, full_share, id⊢, ftrue, flft, named, vptr, fact, tables, lft_new, lft_end, lent_back, whole, sub, agg, ‵, raw, ◌⊛◌, some, later, prop, ◌$◌, ◌∵◌, !, qed, done, move, drop, use1, use2, split, join, fsplit, fpick, pick, await, regoal, suffices, group, enter, of_opd, addr, from, fld, hop, stop, no_more, and_then, returns, alloc_all, pass_all, free_all, look_at, look_in_at, get, get_in, through, sets, lands_as, u8, u32, shows, Is, uint_Lawful, Ptr, RawPtr, block_ptr, lies_at, in_a_block, rawptr_vals, rawptr_Tells, MutRef, mut_vals, mut_Tells, MutSlice, slice_val, mut_slice_vals, mut_slice_Tells, nothing, heard, peeks, calls_at, Lasts, lasts, triple_of, walk_of, ends_at, framed, states, passed, passed-go}
use prog.Wp.{WpFn}
use Rattle.tcpclkit_c.specs.declared.scan.MarkedScan.{MarkedScan}
use Rattle.tcpclkit_c.specs.contracts.scan.MarkedScan.{the_row as R}
use Rattle.tcpclkit_c.specs.{Bundle.{Names, three_names}, Scan.{ReadsScan, DescribesIfAnyScan}}
use Rattle.tcpclkit_c.proofs.Lending.{lent_scan, lends_scan, held_scan}
use Rattle.link_ffi_numbers.specs.contracts.bundle.Bundle.{the_row as B}
use Rattle.tcpclkit_c.specs.contracts.scan.tcpclkit_raw_describe_scan as f
use Rattle.tcpclkit_c.specs.contracts.scan.describe as g
use Rattle.tcpclkit_c.proofs.scan.{tcpclkit_raw_describe_scan.Statement.statement, describe.Met.met}
use Rattle.tcpclkit_c.proofs.scan.tcpclkit_raw_describe_scan.Code as code

pub tcpclkit_raw_describe_scan_spec : {M : Type 1} → statement M
tcpclkit_raw_describe_scan_spec 𝓤 𝓛 𝓜 𝓡 wired =
    let c = f.clauses 𝓛 𝓜.mem 𝓡.returns in let stayed = passed f.ended in
    let W = walk_of 𝓛 f.ended stayed c in
    let 𝓣 = tables 𝓤 𝓛.H 𝓜 𝓡 𝓡.env in
    proved 𝓛 f.ended stayed c 𝓜 𝓡 (passed-go 𝓛 f.ended)
    f.Key.name code.function (code.unfolded 𝓤 𝓛.H 𝓜 𝓡 wired)
    (λ κs. (rawptr_vals, (mut_slice_vals, (mut_slice_vals, (mut_slice_vals, (mut_vals, tt))))))
    (λ κs. (rawptr_Tells, (mut_slice_Tells (named 0) κs.0 u8, (mut_slice_Tells (named 1) κs.1.0 u8, (mut_slice_Tells (named 2) κs.1.1.0 u8, (mut_Tells (named 3) κs.1.1.1.0 B, tt)))))) (λ κs qs bounds a lent are.
    let share = lent.share in let seen = lent.seen in
    let destination = a.1.0 in
    let source = a.1.1.0 in
    let report_to = a.1.1.1.0 in
    let before : Names = three_names destination.now source.now report_to.now in
    let answer = a.1.1.1.1.0 in
    let y : Ptr → W.Ghost = λ p. ((κs, qs, bounds, (p, a.1), (rawptr_vals p, (mut_slice_vals destination, (mut_slice_vals source, (mut_slice_vals report_to, (mut_vals answer, tt)))))), lent) in
    let Tokens = (‵ (flft κs.0 qs.0) ⊛ (‵ (flft κs.1.0 qs.1.0) ⊛ (‵ (flft κs.1.1.0 qs.1.1.0) ⊛ (‵ (flft κs.1.1.1.0 qs.1.1.1.0) ⊛ ‵ ftrue)))) in
    let Rest = (‵ ((MutSlice (named 0) κs.0 u8).own_val destination (mut_slice_vals destination)) ⊛ (‵ ((MutSlice (named 1) κs.1.0 u8).own_val source (mut_slice_vals source)) ⊛ (‵ ((MutSlice (named 2) κs.1.1.0 u8).own_val report_to (mut_slice_vals report_to)) ⊛ (‵ ((MutRef (named 3) κs.1.1.1.0 B).own_val answer (mut_vals answer)) ⊛ ‵ ftrue)))) in
    qed 𝓛 ((Tokens ⊛ (‵ (RawPtr.own_val a.0 (rawptr_vals a.0)) ⊛ Rest)) ∷ ‵ (ReadsScan share a.0 seen) ∷ []) ∵
    split ! $ move ! (1 ∷ []) $ split ! $ drop ! $ move ! (2 ∷ []) $ fpick ! (λ scan. fsplit ! $ move ! (1 ∷ []) $ fpick ! (λ has. drop ! $
    -- [the scan; what the other parameters own; the tokens]
    in_a_block ! a.0 (λ p. lies_at R share p scan) (id⊢ 𝓤 _) (λ b o e.
    regoal ! (λ p. prop (WpFn 𝓤 𝓛.H 𝓣.C 𝓣.Λ code.function (rawptr_vals p ++ (slice_val destination.ref_ptr (length destination.now) ∷ slice_val source.ref_ptr (length source.now) ∷ slice_val report_to.ref_ptr (length report_to.now) ∷ vptr answer.ref_ptr.0 answer.ref_ptr.1 ∷ [])) (W.post (y p)))) e refl $
    enter ! _ _ _ _ _ $ alloc_all ! (λ l. pass_all ! refl ((tt, tt), ((tt, (tt, (record { fits = are.1.0.0.1.0 }, tt))), ((tt, (tt, (record { fits = are.1.1.0.0.1.0 }, tt))), ((tt, (tt, (record { fits = are.1.1.1.0.0.1.0 }, tt))), ((tt, tt), tt))))) $
    sets ! (of_opd ! (get ! refl)) refl (tt, tt) $
    sets ! (addr ! (through ! refl (stop !))) refl (tt, tt) $
    sets ! (addr ! (from ! (fld ! refl (hop ! (look_in_at ! 2 (sub ! 0 refl (whole !))) (stop !))))) refl (tt, tt) $
    sets ! (agg ! (and_then ! (get ! refl) (and_then ! (get_in ! (fld ! refl (stop !)) (sub ! 1 refl (whole !))) (no_more !)))) refl (tt, (tt, (record { fits = are.1.0.0.1.0 }, tt))) $
    sets ! (addr ! (from ! (fld ! refl (hop ! (look_in_at ! 3 (sub ! 0 refl (whole !))) (stop !))))) refl (tt, tt) $
    sets ! (agg ! (and_then ! (get ! refl) (and_then ! (get_in ! (fld ! refl (stop !)) (sub ! 1 refl (whole !))) (no_more !)))) refl (tt, (tt, (record { fits = are.1.1.0.0.1.0 }, tt))) $
    sets ! (addr ! (from ! (fld ! refl (hop ! (look_in_at ! 4 (sub ! 0 refl (whole !))) (stop !))))) refl (tt, tt) $
    sets ! (agg ! (and_then ! (get ! refl) (and_then ! (get_in ! (fld ! refl (stop !)) (sub ! 1 refl (whole !))) (no_more !)))) refl (tt, (tt, (record { fits = are.1.1.1.0.0.1.0 }, tt))) $
    sets ! (addr ! (through ! refl (stop !))) refl (tt, tt) $
    lft_new ! tt (λ α. let κ = α ∷ [] in move ! (1 ∷ 0 ∷ []) $
    use2 𝓛 (lent_scan 𝓛 share scan b o κ) (lends_scan 𝓛 share scan b o κ) $ await ! tt $ split ! $ split ! $
    -- [the loan; the lender's part; the loan's token; what the other parameters own; the tokens]
    let loan : Bor MarkedScan = record { ref_ptr = (b, o); now = scan } in
    let G = triple_of 𝓛 g.signature (g.spec 𝓛 𝓜.mem 𝓡.returns) in
    let z : G.Ghost = (((κ, κs), (full_share, qs), tt, (loan, a.1), (vptr b o ∷ [], (mut_slice_vals destination, (mut_slice_vals source, (mut_slice_vals report_to, (mut_vals answer, tt)))))), tt) in
    move ! (0 ∷ 3 ∷ []) $ join ! $ move ! (2 ∷ 3 ∷ []) $ join ! $ join ! $
    nothing ! $ move ! (1 ∷ 0 ∷ []) $ use2 𝓛 (raw (G.pre z)) (id⊢ 𝓤 _) $
    calls_at ! (framed 𝓤 𝓛.H 𝓜 (tables 𝓤 𝓛.H 𝓜 𝓡 𝓡.env)) G (met 𝓤 𝓛 𝓜 𝓡 (code.calls-tcpclkit_c::scan::describe 𝓡.env wired)) z
    (and_then ! (get ! refl) (and_then ! (get ! refl) (and_then ! (get ! refl) (and_then ! (get ! refl) (and_then ! (get ! refl) (no_more !)))))) (λ v.
    use1 𝓛 (later (some (λ (r : ℕ). ((‵ (flft κ full_share) ⊛ Tokens) ⊛ ‵ (u32.own_val r (v ∷ []))) ⊛
    some (λ (ws : Lasts g.ended z.0.0 z.0.3). ‵ (lasts g.ended z.0.0 z.0.3 ws) ⊛
    raw (fact 𝓤 (DescribesIfAnyScan scan before (three_names ws.1.0 ws.1.1.0 ws.1.1.1.0) answer.now ws.1.1.1.1.0 r)))))) (id⊢ 𝓤 _) $
    await ! tt $ pick ! (λ r. split ! $ split ! $ split ! $ lft_end ! tt $
    move ! (2 ∷ []) $ peeks ! u32 (Is u32) (shows 𝓛 u32) r (v ∷ []) (λ is. lands_as ! refl refl ((uint_Lawful 𝓛 w32).typed r _ is).0 $
    move ! (3 ∷ []) $ pick ! (λ ws. split ! $ move ! (1 ∷ []) $ heard ! _ (λ gives.
    -- [what is left of the parameters; the result; the loan is over; the tokens; the lender's part]
    move ! (2 ∷ 4 ∷ []) $ lent_back ! tt $ returns ! (look_at ! 0 refl) $ free_all ! refl $
    -- [the scan; what is left of the parameters; the result; the tokens]
    use1 𝓛 (‵ (ReadsScan share (block_ptr b o) seen)) (held_scan 𝓛 share scan b o seen has) $
    states ! (gives.scan seen has) $ move ! (4 ∷ 2 ∷ 3 ∷ 1 ∷ []) $
    suffices ! _ (ends_at 𝓛 f.ended stayed c (y (block_ptr b o)) v r (tt, ws.1) (tt, (tt, (tt, (tt, (tt, tt)))))) $
    group ! 3 $ done !)))))))))))
