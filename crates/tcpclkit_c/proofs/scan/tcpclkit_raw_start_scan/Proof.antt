-- The new scan is written into the room.
use Rattle.tcpclkit_c.proofs.Walks.{◌≡◌, [], ◌∷◌, ◌++◌, refl, lit<, w32, proved, full_share, id⊢, ftrue, fsep, fex, vint, fact, tables, ‵, raw, ◌⊛◌, some, later, prop, ◌$◌, ◌∵◌, !, qed, done, move, drop, use1, use2, split, join, fjoin, fpack, pick, await, regoal, suffices, group, enter, of_opd, lit, stop, init, no_more, assigns, returns, alloc_all, pass_all, free_all, look_at, get, through, sets, lands_as, u32, uint_Makes, shows, Is, part_at, part_in, Ptr, RawPtr, block_ptr, lies_at, room_at, in_a_block, rawptr_vals, rawptr_Tells, nothing, owned, heard, peeks, calls_at, Lasts, lasts, triple_of, walk_of, ends_at, framed, states, passed, passed-go}
use prog.Wp.{WpFn}
use Rattle.tcpclkit_c.specs.{Scan.IsMarkedScanAt, declared.scan.MarkedScan.MarkedScan}
use Rattle.tcpclkit_c.specs.contracts.scan.MarkedScan.{the_row as R}
use Rattle.tcpclkit_c.proofs.scan.{new_scan.Met.met, MarkedScan.TheLaws.the_row_laws}
use Rattle.tcpclkit_c.specs.contracts.scan.tcpclkit_raw_start_scan as f
use Rattle.tcpclkit_c.specs.contracts.scan.new_scan as g
use Rattle.tcpclkit_c.proofs.scan.tcpclkit_raw_start_scan.Statement.{statement}
use Rattle.tcpclkit_c.proofs.scan.tcpclkit_raw_start_scan.Code as code

pub tcpclkit_raw_start_scan_spec : {M : Type 1} → statement M
tcpclkit_raw_start_scan_spec 𝓤 𝓛 𝓜 𝓡 wired =
    let c = f.clauses 𝓛 𝓜.mem 𝓡.returns in let stayed = passed f.ended in
    let W = walk_of 𝓛 f.ended stayed c in
    let 𝓣 = tables 𝓤 𝓛.H 𝓜 𝓡 𝓡.env in
    proved 𝓛 f.ended stayed c 𝓜 𝓡 (passed-go 𝓛 f.ended)
    f.Key.name code.function (code.unfolded 𝓤 𝓛.H 𝓜 𝓡 wired)
    (λ κs. (rawptr_vals, tt)) (λ κs. (rawptr_Tells, tt)) (λ κs qs bounds a u are.
    let y : Ptr → W.Ghost = λ p. ((κs, qs, bounds, (p, tt), (rawptr_vals p, tt)), u) in
    qed 𝓛 ((‵ ftrue ⊛ (‵ (RawPtr.own_val a.0 (rawptr_vals a.0)) ⊛ ‵ ftrue)) ∷ ‵ (room_at R a.0) ∷ []) ∵ drop ! $
    in_a_block ! a.0 (λ p. room_at R p) (id⊢ 𝓤 _) (λ b o e.
    regoal ! (λ p. prop (WpFn 𝓤 𝓛.H 𝓣.C 𝓣.Λ code.function (rawptr_vals p ++ []) (W.post (y p)))) e refl $
    enter ! _ _ _ _ _ $ alloc_all ! (λ l. pass_all ! refl ((tt, tt), tt) $
    sets ! (of_opd ! (get ! refl)) refl (tt, tt) $
    let G = triple_of 𝓛 g.signature (g.spec 𝓛 𝓜.mem 𝓡.returns) in
    let z : G.Ghost = ((tt, tt, tt, tt, tt), tt) in
    nothing ! $ nothing ! $ join ! $ nothing ! $ move ! (1 ∷ 0 ∷ []) $ use2 𝓛 (raw (G.pre z)) (id⊢ 𝓤 _) $
    calls_at ! (framed 𝓤 𝓛.H 𝓜 (tables 𝓤 𝓛.H 𝓜 𝓡 𝓡.env)) G (met 𝓤 𝓛 𝓜 𝓡 (code.calls-tcpclkit_c::scan::new_scan 𝓡.env wired)) z (no_more !) (λ v.
    use1 𝓛 (later (some (λ (scan : MarkedScan). (‵ ftrue ⊛ ‵ (R.own_val scan (v ∷ []))) ⊛
    some (λ (ws : Lasts g.ended z.0.0 z.0.3). ‵ (lasts g.ended z.0.0 z.0.3 ws) ⊛ raw (fact 𝓤 (IsMarkedScanAt scan [])))))) (id⊢ 𝓤 _) $
    await ! tt $ pick ! (λ scan. split ! $ split ! $ drop ! $
    peeks ! R (Is R) (shows 𝓛 R) scan (v ∷ []) (λ is. let typed = ((the_row_laws.lawful 𝓛).typed scan (v ∷ []) is).0 in
    lands_as ! refl refl typed $
    move ! (1 ∷ []) $ pick ! (λ ws. split ! $ drop ! $ heard ! _ (λ has.
    -- [what the new scan owns; the room]
    assigns ! (of_opd ! (get ! refl)) (through ! refl (stop !)) (init ! 1 refl typed) $
    sets ! (of_opd ! (lit ! tt)) refl (tt, record { fits = lit< tt }) $
    returns ! (look_at ! 0 refl) $ free_all ! refl $
    move ! (1 ∷ 0 ∷ []) $ use2 𝓛 (‵ (part_at R full_share scan b o)) (part_in 𝓛 R refl full_share scan b o v) $
    nothing ! $ fpack ! (IsMarkedScanAt scan []) (λ _. ftrue) has $ move ! (1 ∷ 0 ∷ []) $ fjoin ! $
    fpack ! MarkedScan (λ x. fsep (lies_at R full_share (block_ptr b o) x) (fex (IsMarkedScanAt x []) (λ _. ftrue))) scan $
    states ! {φ = 0 ≡ 0} refl $ move ! (1 ∷ []) $
    owned ! u32 _ (uint_Makes 𝓛 w32) 0 _ (refl, lit< tt) $ nothing ! $ nothing ! $ join ! $ nothing ! $
    -- [no token; nothing of the pointer; the result; the scan; the status]
    suffices ! _ (ends_at 𝓛 f.ended stayed c (y (block_ptr b o)) (vint w32 0) 0 (tt, tt) (tt, tt)) $
    group ! 3 $ done !))))))))
