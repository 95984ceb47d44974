use Rattle.std.proofs.Common.{ℕ, ◌+◌, List, ◌∷◌, [], ◌++◌, drop, refl, arith, rules}
use Rattle.link_cbor.specs.HeadScan.{HasScannedHead}
use Rattle.link_bundle_blocks.proofs.Seen.{AreBytes-one}
use Rattle.link_bundle_data.specs.{declared.kind.DataKind.DataKind, Scan.{HasScanned, HasHeadToJudge, IsFirstLongHead}}
use Rattle.link_bundle_data.specs.declared.due.DataStage.TheVariants.{Head}
use Rattle.link_bundle_data.proofs.Steps.{at_stage, grown_head, grown_bytes, more_head, bad_head}
use Rattle.link_bundle_data.proofs.LongHeads.{long_at, long_more}
use Rattle.link_bundle_data.proofs.scan.DataScan.head_byte.Goals as goal
use Rattle.link_bundle_data.proofs.scan.DataScan.head_byte.Goals.{After-outcome}

-- the head with the byte
grown : (c : After-outcome) {kind : DataKind} {seen : List ℕ} → HasScanned kind c.args.self.now seen
    → HasHeadToJudge kind c.args.due c.args.self.now.draft c.args.self.now.offset
    (c.args.self.now.count + 1) (seen ++ c.args.byte ∷ [])
grown c come =
    grown_head (at_stage c.args.self.now c.requires.stage come) (c.args.byte ∷ [])
    (AreBytes-one c.args.byte (omega arith)) refl

scanned : (c : After-outcome) {kind : DataKind} {seen : List ℕ}
    → HasScanned kind c.args.self.now seen
    → HasScannedHead c.step.new.self (drop c.args.self.now.offset (seen ++ c.args.byte ∷ []))
scanned c come = grown_bytes (at_stage c.args.self.now c.requires.stage come) c.step.ensures.seen

-- the first long head, with the byte
more : (c : After-outcome) {kind : DataKind} {seen : List ℕ} → HasScanned kind c.args.self.now seen
    → IsFirstLongHead (Head c.args.due) c.args.self.now.long c.args.self.now.offset
    (seen ++ c.args.byte ∷ [])
more c {seen = seen} come =
    let now = c.args.self.now in
    long_more c.args.due now.long now.offset seen (c.args.byte ∷ []) (long_at now c.requires.stage come)

pub returns-in-More : goal.returns-in-More
returns-in-More c = record {
  size = search rules;
  seen = λ kind seen come.
      let after = (goal.at.returns-in-More c).After-outcome in
      let head = scanned after come in
      record {
        state = rw c.requires.stage
            (more_head (grown after come) head (c.in-More.ensures.front _ head));
        long = rw c.requires.stage (more after come);
      };
}

pub returns-in-Bad : goal.returns-in-Bad
returns-in-Bad c = record {
  size = search rules;
  seen = λ kind seen come.
      let after = (goal.at.returns-in-Bad c).After-outcome in
      record {
        state = bad_head (grown after come) (c.in-Bad.ensures.front _ (scanned after come))
            c.no_limit.ensures;
        long = tt;
      };
}

pub returns-in-Done : goal.returns-in-Done
returns-in-Done c = record {
  size = search rules;
  seen = λ kind seen come.
      let after = (goal.at.returns-in-Done c).After-outcome in
      let head = scanned after come in
      c.take_head.ensures.seen kind _ (grown after come) (more after come)
      (c.in-Done.ensures.front _ head)
      (c.count-size.ensures.seen _ head) c.new-self.ensures.seen;
}
