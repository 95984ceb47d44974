use Rattle.std.proofs.Common.{◌≡◌, ℕ, ◌≤◌, List, ◌++◌, length, take, drop, sym, ap, ◌∙◌, append_assoc, length-take, arith}
use Rattle.std.proofs.lemmas.{List.{take-append-drop, take-append-le}, Bool.Decides.nat_tests}
use Rattle.link_rules_shared.proofs.unread.Prefix.take_first.Goals as goal

-- four bytes, which stay the first
kept : (bytes seen piece : List ℕ) (taken : ℕ) → length bytes ≡ 4
    → bytes ≡ take 4 (seen ++ take taken piece) → bytes ≡ take 4 (seen ++ piece)
kept bytes seen piece taken four first =
    let before = seen ++ take taken piece in
    let all : before ++ drop taken piece ≡ seen ++ piece =
    append_assoc seen (take taken piece) (drop taken piece)
    ∙ ap (λ (rest : List ℕ). seen ++ rest) (take-append-drop taken piece) in
    let enough : 4 ≤ length before = omega (arith, ap length first, length-take 4 before) in
    first ∙ sym (take-append-le 4 before (drop taken piece) enough)
    ∙ ap (λ (bytes : List ℕ). take 4 bytes) all

pub returns-then-is_full : goal.returns-then-is_full
returns-then-is_full c seen come = record {
  bytes = kept _ seen _ _ (grind (arith, nat_tests)) (c.loop-byte.invariant seen come).bytes;
}
