use Rattle.std.proofs.Common.{ℕ, ◌^◌, ◌<◌, List, ◌++◌, length, take, subst, arith}
use Rattle.link_rules_shared.specs.HeadWalk.{AreFirstSoughtHeads, HasWalked}
use Rattle.link_rules_shared.specs.declared.heads.WalkStage.TheVariants.{Inside}
use Rattle.link_rules_shared.proofs.Walks.{at_stage, fewer, first_byte, found_none, head_begun}
use Rattle.link_rules_shared.proofs.heads.HeadWalk.next_heads.Goals as goal

pub returns-then-taken-eq0-clause-taken : goal.returns-then-taken-eq0-clause-taken
returns-then-taken-eq0-clause-taken c = record {
  seen = λ seen small come.
      let now = c.args.self.now in
      let piece = c.args.piece.now in
      let taken = c.take_heads-taken.result.0 in
      let found = c.take_heads-taken.new.self in
      let at = at_stage now _ seen c.requires.stage come in
      let few : length (seen ++ take taken piece) < 2 ^ 63 =
      fewer seen piece taken 1 (omega arith) small in
      let sought : AreFirstSoughtHeads found (Inside 0) seen =
      found_none found c.take_heads-taken.result.1 taken seen piece
      (c.take_heads-taken.ensures.none c.if-taken-eq0.true) c.if-taken-eq0.true
      (c.take_heads-taken.ensures.found seen at.counted few at.sought) in
      let run = first_byte piece c.requires.some in
      subst (λ (run : List ℕ). HasWalked c.head_byte.new.self (seen ++ run)) run
      (c.head_byte.ensures.seen seen (rw run small)
      (head_begun found now.head now.count seen
      (record { counted = at.counted; sought = sought; stands = at.stands })));
}
