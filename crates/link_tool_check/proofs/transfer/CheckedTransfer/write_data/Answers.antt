use Rattle.std.proofs.Common.{◌≡◌, ℕ, List, [], ◌∷◌, Ok, Err, refl, sym, ◌∙◌}
use Rattle.link_bundle_types.specs.BundleView.{viewed_info}
use Rattle.link_bundle_blocks.specs.Bundle.{verdict}
use Rattle.link_bundle.proofs.Pieces.{verdict_judged}
use Rattle.link_report_broken_rules.specs.declared.rule.BundlePlace.TheVariants as place
use Rattle.link_tool_check.specs.BundleRules.{BundleOrigin, bundle_texts}
use Rattle.link_tool_check.specs.declared.transfer.CheckedTransfer.{CheckedTransfer}
use Rattle.link_tool_check.specs.{Checker.IsCheckedTransferAt, Checking.{BegunTransfer, data_texts, transfer_texts}}
use Rattle.link_tool_check.proofs.Closed.{texts_are}
use Rattle.link_tool_check.proofs.transfer.CheckedTransfer.write_data.Goals as goal

-- how the bundle came, by what is kept of its transfer
abbrev origin_at : CheckedTransfer → (sender : List ℕ) → BundleOrigin
origin_at now sender = record {
  offset = now.offset;
  place = place.Transfer now.judge.id;
  sender = sender;
  has_other_item = now.opening.has_other_item;
}

-- the rules of a good bundle are those that were written
good_are : (g : _) (c : goal.After-write_rules g) (begun : BegunTransfer)
    → IsCheckedTransferAt c.args.own.now c.args.self.now begun
    → bundle_texts c.args.own.now (origin_at c.args.self.now c.args.sender.now) begun.content
    (viewed_info c.in-Ok.info)
    ≡ data_texts c.args.own.now c.args.sender.now begun (verdict begun.content)
good_are g c begun checks =
    let judge = c.args.self.now.judge in
    let judged = checks.judging.judged in
    let is : verdict begun.content ≡ Ok (viewed_info c.in-Ok.info) =
    sym (c.in-Ok.ensures.seen judged.seen judged.scanned ∙ verdict_judged judge.scan begun.content judged) in
    rw (is, checks.offset, checks.judging.id, checks.opening) refl

pub returns-in-Ok : goal.returns-in-Ok
returns-in-Ok g c = λ begun checks.
    rw (good_are g c begun checks) at (c.write_rules.ensures begun.content checks.reading)

-- the rule of data that is no bundle is the one that was written
bad_are : (g : _) (c : goal.After-write_rules-in-Err g) (begun : BegunTransfer)
    → IsCheckedTransferAt c.args.own.now c.args.self.now begun
    → transfer_texts begun (c.data_rule-rule.result ∷ [])
    ≡ data_texts c.args.own.now c.args.sender.now begun (verdict begun.content)
bad_are g c begun checks =
    let judge = c.args.self.now.judge in
    let judged = checks.judging.judged in
    let is : verdict begun.content ≡ Err (c.in-Err.fault, c.in-Err.byte) =
    sym (c.in-Err.ensures.seen judged.seen judged.scanned ∙ verdict_judged judge.scan begun.content judged) in
    let broken = c.data_rule-rule.ensures begun.content
    (c.unread.ensures c.args.own.now begun.content checks.reading) in
    rw (is, ← broken) refl

pub returns-in-Err : goal.returns-in-Err
returns-in-Err g c = λ begun checks.
    let own = c.args.own.now in
    let are = texts_are own begun c.args.self.now c.doubt.result (c.data_rule-rule.result ∷ []) checks
    (c.doubt.ensures own begun checks) in
    rw (are ∙ bad_are g c begun checks) at c.write_rules-in-Err.ensures
