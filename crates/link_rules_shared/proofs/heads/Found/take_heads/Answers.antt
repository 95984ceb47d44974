use Rattle.std.proofs.Common.{◌≡◌, ℕ, ◌+◌, ◌-◌, ◌^◌, ◌<◌, ◌≤◌, List, ◌++◌, length, take, drop, sym, subst, ◌∙◌, length-drop, arith}
use Rattle.std.proofs.lemmas.List.{take_rest}
use Rattle.link_rules_shared.specs.{HeadWalk.AreFirstSoughtHeads, declared.heads.WalkStage.TheVariants.Inside}
use Rattle.link_rules_shared.proofs.{SmallHeads.found_small, Walks.{fewer, found_head, found_content}}
use Rattle.link_rules_shared.proofs.heads.Found.take_heads.Goals as goal
use Rattle.link_rules_shared.proofs.heads.Found.take_heads.Goals.{After-content_size-content}

-- the head ends in the piece
ends : (c : After-content_size-content)
    → c.loop-taken.taken + c.in-Some.size ≤ length c.args.piece.now
ends c =
    let piece = c.args.piece.now in
    let taken = c.loop-taken.taken in
    let within : c.in-Some.size ≤ length (drop taken piece) =
    rw (take_rest piece taken) at c.in-Some.ensures.within in
    omega (arith, length-drop taken piece)

-- what is found after the head
noted : (c : After-content_size-content) (seen : List ℕ) → c.args.offset ≡ length seen
    → length (seen ++ take (c.loop-taken.taken + c.in-Some.size) c.args.piece.now) < 2 ^ 63
    → AreFirstSoughtHeads c.args.self.now (Inside 0) seen
    → AreFirstSoughtHeads c.note.new.self (Inside c.content_size-content.result)
    (seen ++ take (c.loop-taken.taken + c.in-Some.size) c.args.piece.now)
noted c seen here small come =
    let piece = c.args.piece.now in
    let taken = c.loop-taken.taken in
    let size = c.in-Some.size in
    rw c.content_size-content.ensures
    (found_head _ _ _ taken size seen piece _ here c.loop-taken.invariant.within
    (rw (take_rest piece taken) at (sym c.front.ensures.front ∙ c.in-Some.is)) (ends c)
    (c.loop-taken.invariant.found seen here (fewer seen piece taken _ (omega arith) small) come)
    c.note.ensures small)

pub returns-then-content-left-clause-found : goal.returns-then-content-left-clause-found
returns-then-content-left-clause-found c seen here small come =
    let after = (goal.at.returns-then-content-left-clause-found c).After-content_size-content in
    let piece = c.args.piece.now in
    let content = c.content_size-content.result in
    let taken = c.loop-taken.taken + c.in-Some.size in
    let left = length piece - taken in
    let all : taken + left ≡ length piece = omega (arith, ends after) in
    subst (λ (count : ℕ). AreFirstSoughtHeads c.note.new.self (Inside (content - left))
    (seen ++ take count piece)) all
    (found_content c.note.new.self content left taken seen piece
    (noted after seen here (fewer seen piece taken (length piece) (omega arith) small) come)
    (omega arith) (omega arith))

pub loop-taken-preserved : goal.loop-taken-preserved
loop-taken-preserved c =
    let after = (goal.at.loop-taken-preserved c).After-content_size-content in
    let piece = c.args.piece.now in
    let content = c.content_size-content.result in
    let taken = c.loop-taken.taken + c.in-Some.size in
    let within : taken + content ≤ length piece = omega (arith, ends after) in
    record {
      within = within;
      found = λ seen here small come.
          let none : content - content ≡ 0 = omega arith in
          subst (λ (left : ℕ). AreFirstSoughtHeads c.note.new.self (Inside left)
          (seen ++ take (taken + content) piece)) none
          (found_content c.note.new.self content content taken seen piece
          (noted after seen here (fewer seen piece taken _ (omega arith) small) come)
          (omega arith) within);
    }

pub loop-taken-preserved-then-is_small_head : goal.loop-taken-preserved-then-is_small_head
loop-taken-preserved-then-is_small_head c =
    let piece = c.args.piece.now in
    let taken = c.loop-taken.taken in
    record {
      within = omega (arith, c.loop-taken-test.true);
      found = λ seen here small come.
          found_small c.loop-taken.self c.args.offset taken seen piece here
          (omega (arith, c.loop-taken-test.true))
          (sym c.is_small_head.ensures ∙ c.if-is_small_head.true)
          (c.loop-taken.invariant.found seen here
          (fewer seen piece taken (taken + 1) (omega arith) small) come) small;
    }
