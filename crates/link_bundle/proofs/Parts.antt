-- The bytes of a piece that belong to a part of the data.
use Rattle.std.proofs.Common.{◌≡◌, ℕ, zero, suc, ◌∷◌, refl, ◌+◌, ◌-◌, ◌<◌, ◌≤◌, min, List, [], ◌++◌, length, take, drop, sym, ap, ◌∙◌, ⊎_elim, length-append, length-take, length-drop, arith}
use Rattle.std.proofs.Math.ListN.{drop_of_length-le}
use Rattle.std.proofs.{Math.Seq.{take-nil}, lemmas.Bool.cases_lt}
use Rattle.std.proofs.lemmas.List.{take_min, nil_from_length}
use Rattle.link_bundle.specs.Part.{part_in}

-- two counts take the same bytes if they take the same number of them
take_same : (count other : ℕ) (bytes : List ℕ) → min count (length bytes) ≡ min other (length bytes)
    → take count bytes ≡ take other bytes
take_same count other bytes same =
    sym (take_min count bytes) ∙ ap (λ n. take n bytes) same ∙ take_min other bytes

take-append : (count : ℕ) (front back : List ℕ)
    → take count (front ++ back) ≡ take count front ++ take (count - length front) back
take-append zero front back = let none : 0 - length front ≡ 0 = omega arith in rw none refl
take-append (suc count) [] back = let all : suc count - 0 ≡ suc count = omega arith in rw all refl
take-append (suc count) (byte ∷ front) back =
    let same : suc count - suc (length front) ≡ count - length front = omega arith in
    rw (same, take-append count front back) refl

drop-append : (count : ℕ) (front back : List ℕ)
    → drop count (front ++ back) ≡ drop count front ++ drop (count - length front) back
drop-append zero front back = let none : 0 - length front ≡ 0 = omega arith in rw none refl
drop-append (suc count) [] back = let all : suc count - 0 ≡ suc count = omega arith in rw all refl
drop-append (suc count) (byte ∷ front) back =
    let same : suc count - suc (length front) ≡ count - length front = omega arith in
    rw (same, drop-append count front back) refl

-- the bytes of the part that the piece has
piece_part : (piece : List ℕ) (before offset size count : ℕ)
    → count ≡ min size (before + length piece - offset)
    → take (size - (before - offset)) (drop (offset - before) piece)
    ≡ part_in piece before offset count
piece_part piece before offset size count all = ⊎_elim
    (λ (inside : offset < before + length piece).
    let end = min (offset + count - before) (length piece) in
    let start : min (offset - before) end ≡ offset - before = omega arith in
    take_same _ _ _ (omega (arith, length-drop (offset - before) piece))
    ∙ ap (λ n. take (end - n) (drop n piece)) (sym start))
    (λ (past : before + length piece ≤ offset).
    let end = min (offset + count - before) (length piece) in
    let none : end - min (offset - before) end ≡ 0 = omega arith in
    ap (take (size - (before - offset))) (drop_of_length-le piece (omega arith)) ∙ take-nil (size - (before - offset))
    ∙ ap (λ n. take n (drop (min (offset - before) end) piece)) {x = 0} (sym none))
    (cases_lt offset (before + length piece))

-- The data has `count` of the `size` bytes at `offset`. The piece has those of them that the data
-- before it does not have.
pub part_more : (content piece : List ℕ) (offset size count : ℕ)
    → count ≡ length (take size (drop offset (content ++ piece)))
    → take size (drop offset (content ++ piece))
    ≡ take size (drop offset content) ++ part_in piece (length content) offset count
part_more content piece offset size count all =
    let left : size - length (drop offset content) ≡ size - (length content - offset) = ap (λ n. size - n) (length-drop offset content) in
    let there : count ≡ min size (length content + length piece - offset) =
    all ∙ length-take size (drop offset (content ++ piece))
    ∙ ap (min size) (length-drop offset (content ++ piece) ∙ ap (λ n. n - offset) (length-append content piece)) in
    ap (take size) (drop-append offset content piece)
    ∙ take-append size (drop offset content) (drop (offset - length content) piece)
    ∙ ap (λ n. take size (drop offset content) ++ take n (drop (offset - length content) piece)) left
    ∙ ap (λ rest. take size (drop offset content) ++ rest) (piece_part piece (length content) offset size count there)

-- if the whole has no bytes of the part, neither has a prefix
pub no_part : (content piece : List ℕ) (offset size : ℕ)
    → take size (drop offset (content ++ piece)) ≡ []
    → take size (drop offset content) ≡ []
no_part content piece offset size none =
    nil_from_length (take size (drop offset content))
    (omega (
      arith,
      ap length none,
      length-take size (drop offset (content ++ piece)),
      length-drop offset (content ++ piece),
      length-append content piece,
      length-take size (drop offset content),
      length-drop offset content,
    ))

-- the bytes of a part that are there end within the data
pub part_fits : (bytes : List ℕ) (offset size count limit : ℕ)
    → count ≡ length (take size (drop offset bytes))
    → length bytes < limit → 0 < count → offset + count < limit
part_fits bytes offset size count limit all short some =
    omega (arith, length-take size (drop offset bytes), length-drop offset bytes)
