-- What two texts share, line by line.
use Rattle.std.proofs.Common.{◌≡◌, ℕ, inl, inr, Bool, true, false, not, ◌&&◌, ◌==◌, List, [], ◌∷◌, ◌++◌, length, get_or, drop, refl, ap, sym, ◌∙◌, append-nil, append_assoc, length-append, true≢false, eq-eqb, arith}
use Rattle.link_report.specs.Text.{newline}
use Rattle.link_tools_laws.specs.Prefix.{IsPrefixOf}
use Rattle.link_tools_laws.specs.Withheld.{AreLines}
use Rattle.link_tools_laws.proofs.Prefixes.{prefix_none}

-- ---- lists without a byte

abbrev pub Lacks : ℕ → List ℕ → Type 0
Lacks byte [] = Unit {0}
Lacks byte (first ∷ more) = (first ≡ byte → ⊥) × Lacks byte more

pub lacks_both : (byte : ℕ) (xs ys : List ℕ) → Lacks byte xs → Lacks byte ys
    → Lacks byte (xs ++ ys)
lacks_both byte [] ys one two = two
lacks_both byte (x ∷ xs) ys one two = (one.0, lacks_both byte xs ys one.1 two)

abbrev lacks_test : ℕ → List ℕ → Bool
lacks_test byte [] = true
lacks_test byte (first ∷ more) = not (first == byte) && lacks_test byte more

lacks_first : (byte first : ℕ) (more : List ℕ) (test : Bool) → (first == byte) ≡ test
    → (lacks_test byte more ≡ true → Lacks byte more) → not test && lacks_test byte more ≡ true
    → Lacks byte (first ∷ more)
lacks_first byte first more true is later all = absurd (true≢false (sym all))
lacks_first byte first more false is later all =
    ((λ same. true≢false (sym (eq-eqb first byte same) ∙ is)), later all)

-- bytes that are known lack another if a test says so
pub lacks_by : (byte : ℕ) (xs : List ℕ) → lacks_test byte xs ≡ true → Lacks byte xs
lacks_by byte [] all = tt
lacks_by byte (first ∷ more) all =
    lacks_first byte first more (first == byte) refl (lacks_by byte more) all

-- if a byte ends two lists that lack it, what comes after them is the same
pub after_same : (byte : ℕ) (xs ys after other : List ℕ) → Lacks byte xs → Lacks byte ys
    → xs ++ byte ∷ after ≡ ys ++ byte ∷ other → after ≡ other
after_same byte [] [] after other one two same = ap (drop 1) same
after_same byte [] (y ∷ ys) after other one two same =
    absurd (two.0 (sym (ap (λ (text : List ℕ). get_or text 0 0) same)))
after_same byte (x ∷ xs) [] after other one two same =
    absurd (one.0 (ap (λ (text : List ℕ). get_or text 0 0) same))
after_same byte (x ∷ xs) (y ∷ ys) after other one two same =
    after_same byte xs ys after other one.1 two.1 (ap (drop 1) same)

-- a line has one line feed, so a text that ends in one begins it only if it is the line
only_end : (line before rest : List ℕ) → Lacks 10 line
    → line ++ 10 ∷ [] ≡ before ++ 10 ∷ rest → rest ≡ []
only_end [] [] rest lacks same = sym (ap (drop 1) same)
only_end [] (b ∷ before) rest lacks same =
    absurd (omega (arith, ap length same, length-append before (10 ∷ rest)))
only_end (a ∷ line) [] rest lacks same =
    absurd (lacks.0 (ap (λ (text : List ℕ). get_or text 0 0) same))
only_end (a ∷ line) (b ∷ before) rest lacks same =
    only_end line before rest lacks.1 (ap (drop 1) same)

-- ---- texts that share no whole line

-- no whole line begins both texts
abbrev pub Part : (one other : List ℕ) → Type 0
Part one other =
    (common : List ℕ) → AreLines common → IsPrefixOf common one → IsPrefixOf common other
    → common ≡ []

pub part_none : (other : List ℕ) → Part [] other
part_none other [] lines first second = refl
part_none other (c ∷ common) lines first second = absurd (omega (arith, ap length first.1))

-- a text of one byte that is no line feed is no whole line
one_byte : (byte : ℕ) → (byte ≡ 10 → ⊥) → AreLines (byte ∷ []) → ⊥
one_byte byte other (inl none) = absurd (omega (arith, ap length none))
one_byte byte other (inr ([], is)) = other (ap (λ (text : List ℕ). get_or text 0 0) is)
one_byte byte other (inr (b ∷ before, is)) =
    absurd (omega (arith, ap length is, length-append before (10 ∷ [])))

-- the texts have the same first byte, which is no line feed, and differ in the second
pub part_second : (first second third : ℕ) (one other : List ℕ) → (first ≡ 10 → ⊥)
    → (second ≡ third → ⊥) → Part (first ∷ second ∷ one) (first ∷ third ∷ other)
part_second first second third one other feed differ [] lines begins also = refl
part_second first second third one other feed differ (c ∷ []) lines begins also =
    let same : first ≡ c = ap (λ (text : List ℕ). get_or text 0 0) begins.1 in
    absurd (one_byte c (λ is. feed (same ∙ is)) lines)
part_second first second third one other feed differ (c ∷ d ∷ common) lines begins also =
    let here : second ≡ d = ap (λ (text : List ℕ). get_or text 1 0) begins.1 in
    let there : third ≡ d = ap (λ (text : List ℕ). get_or text 1 0) also.1 in
    absurd (differ (here ∙ sym there))

-- a whole line that does not begin the other text
pub part_line : (line other : List ℕ) → Lacks 10 line
    → (IsPrefixOf (line ++ newline) other → ⊥) → Part (line ++ newline) other
part_line line other lacks never common (inl none) begins also = none
part_line line other lacks never common (inr (before, is)) begins also =
    let rest = begins.0 in
    let parts : line ++ 10 ∷ [] ≡ before ++ 10 ∷ rest =
    begins.1 ∙ ap (λ (text : List ℕ). text ++ rest) is ∙ append_assoc before (10 ∷ []) rest in
    let none : rest ≡ [] = only_end line before rest lacks parts in
    let whole : line ++ newline ≡ common =
    begins.1 ∙ ap (λ (text : List ℕ). common ++ text) none ∙ append-nil common in
    absurd (never (rw whole also))

-- ---- whole lines after the same text

fewer_lines : (byte : ℕ) (common : List ℕ) → AreLines (byte ∷ common) → AreLines common
fewer_lines byte common (inl none) = absurd (omega (arith, ap length none))
fewer_lines byte common (inr ([], is)) = inl (ap (drop 1) is)
fewer_lines byte common (inr (b ∷ before, is)) = inr (before, ap (drop 1) is)

-- whole lines that begin both texts end in what comes before the two
pub shared_before : (before one other common : List ℕ) → Part one other → AreLines common
    → IsPrefixOf common (before ++ one) → IsPrefixOf common (before ++ other)
    → IsPrefixOf common before
shared_before before one other [] part lines first second = prefix_none before
shared_before [] one other (c ∷ common) part lines first second =
    let none = part (c ∷ common) lines first second in
    absurd (omega (arith, ap length none))
shared_before (b ∷ before) one other (c ∷ common) part lines first second =
    let same : b ≡ c = ap (λ (text : List ℕ). get_or text 0 0) first.1 in
    let later = shared_before before one other common part (fewer_lines c common lines)
    (first.0, ap (drop 1) first.1) (second.0, ap (drop 1) second.1) in (
      later.0,
      ap (λ (text : List ℕ). b ∷ text) later.1
          ∙ ap (λ (byte : ℕ). byte ∷ (common ++ later.0)) same,
    )
