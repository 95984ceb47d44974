use Rattle.std.proofs.Common.{ℕ, List, ◌∷◌, [], ◌++◌, drop, refl}
use Rattle.link_cbor.specs.HeadScan.{HasScannedHead}
use Rattle.link_rules_shared.specs.HeadWalk.{HasWalked}
use Rattle.link_rules_shared.proofs.Walks.{at_stage, one_more, head_ill_formed, head_whole}
use Rattle.link_rules_shared.proofs.heads.HeadWalk.head_byte.Goals as goal
use Rattle.link_rules_shared.proofs.heads.HeadWalk.head_byte.Goals.{After-outcome}

-- the bytes of the head, with the new one
scanned : (c : After-outcome) (seen : List ℕ) → HasWalked c.args.self.now seen
    → HasScannedHead c.step.new.self (drop c.args.offset (seen ++ c.args.byte ∷ []))
scanned c seen come =
    let now = c.args.self.now in
    one_more c.args.offset now.found now.head c.step.new.self now.count seen (c.args.byte ∷ [])
    (at_stage now _ seen c.requires come) c.step.ensures.seen

pub returns-in-Bad : goal.returns-in-Bad
returns-in-Bad c = record {
  seen = λ seen small come.
      let now = c.args.self.now in
      let after = (goal.at.returns-in-Bad c).After-outcome in
      let bytes = drop c.args.offset (seen ++ c.args.byte ∷ []) in
      head_ill_formed _ _ _ _ _ seen _ (at_stage now _ seen c.requires come) refl small
      (c.in-Bad.ensures.front bytes (scanned after seen come));
}

pub returns-in-Done : goal.returns-in-Done
returns-in-Done c = record {
  seen = λ seen small come.
      let now = c.args.self.now in
      let after = (goal.at.returns-in-Done c).After-outcome in
      let bytes = drop c.args.offset (seen ++ c.args.byte ∷ []) in
      let head = scanned after seen come in
      rw c.content_size.ensures
      (head_whole _ _ _ _ _ _ seen _ _ _ (at_stage now _ seen c.requires come) refl
      small (c.in-Done.ensures.front bytes head) (c.count.ensures.seen bytes head) c.note.ensures
      c.new-self.ensures.seen);
}
