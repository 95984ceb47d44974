use Rattle.std.proofs.Common.{◌≡◌, ℕ, ◌+◌, ◌<◌, ◌∙◌, List, length, get_or, drop, Option, refl, sym}
use Rattle.std.specs.{Fn.FnReturnsAt, Option.option_or}
use Rattle.std.proofs.lemmas.List.{drop_more}
use Rattle.link_bundle_rules.specs.BundleFacts.{find_map}
use Rattle.link_bundle_rules.proofs.rules.first_found.Given.{Over}
use Rattle.link_bundle_rules.proofs.rules.first_found.Goals as goal
use Rattle.link_bundle_rules.proofs.rules.first_found.Goals.{After-find}

-- the rest of a list, by what is found of its first element
rest : {A B : Type 0} (f : A → Option B) (xs : List A) (i : ℕ) (x : A) (found : Option B)
    → i < length xs → x ≡ get_or xs i x → found ≡ f x
    → find_map f (drop i xs) ≡ option_or found (find_map f (drop (i + 1) xs))
rest f xs i x found within is finds = rw (drop_more xs i x within, ← is, ← finds) refl

-- what is found of all elements, after one more call
all : (g : Over) (c : After-find g) (found : g.row.T.Denot → Option g.row.U.Denot)
    → ((element : g.row.T.Denot) (result : Option g.row.U.Denot)
    → FnReturnsAt g.F.Fn c.args.find element result → result ≡ found element)
    → find_map found c.args.elements.now
    ≡ option_or c.find.result (find_map found (drop (c.loop-element.element-index + 1) c.args.elements.now))
all g c found finds =
    let x = c.element-item.result in
    c.loop-element.invariant found finds
    ∙ rest found c.args.elements.now c.loop-element.element-index x c.find.result
    c.loop-element-test.true c.element-item.is (
    finds x c.find.result
    (record { shown = _; shows = refl; says = record { met = c.find.ensures } })
    )

pub returns-in-Some : goal.returns-in-Some
returns-in-Some g c = λ found finds.
    sym (rw c.in-Some.is at (all g (goal.at.returns-in-Some g c).After-find found finds))

pub loop-element-preserved : goal.loop-element-preserved
loop-element-preserved g c = λ found finds.
    rw c.in_default.is at (all g (goal.at.loop-element-preserved g c).After-find found finds)
