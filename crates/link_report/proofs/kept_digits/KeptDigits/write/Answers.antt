use Rattle.std.proofs.Common.{◌≡◌, ◌%◌, ◌++◌, length, take, ap, sym, ◌∙◌, arith}
use Rattle.std.specs.Fmt.{decimal}
use Rattle.std.proofs.lemmas.List.{length-take-le}
use Rattle.link_report.proofs.Pages.{front_behind, over_end}
use Rattle.link_report.proofs.Zeros.{length_of_last, length_of_multiple, over_zeros}
use Rattle.link_report.proofs.kept_digits.KeptDigits.write.Goals as goal

pub write_digits-requires : goal.write_digits-requires
write_digits-requires c =
    let kept = c.args.self.now in
    let room = length_of_multiple kept.round kept.some (omega arith) kept.zeros in
    let size = length-take-le kept.len kept.text (omega arith) in (
      omega (arith, length_of_last, room, size, ap length kept.kept),
      omega arith,
    )

pub returns-clause-text : goal.returns-clause-text
returns-clause-text c =
    let kept = c.args.self.now in
    let old = c.args.page.now in
    let number = c.args.number in
    let long = length_of_multiple kept.round kept.some (omega arith) kept.zeros in
    let short = length_of_last (number % 10000) (omega arith) in
    let size : kept.len ≡ length (decimal kept.round) = sym (length-take-le kept.len kept.text (omega arith)) ∙ ap length kept.kept in
    let copied = front_behind old c.copy_into.new.page kept.text c.args.at c.copy_into.result kept.len (omega arith) (omega arith) c.copy_into.ensures.text in
    over_end old c.copy_into.new.page c.write_digits.new.buf (decimal kept.round) (decimal (number % 10000)) c.args.at c.write_digits.result _ (omega arith) (omega arith) (omega arith) (omega arith) c.write_digits.ensures.start (copied ∙ ap (λ text. take c.args.at old ++ text) kept.kept) c.write_digits.ensures.before c.write_digits.ensures.written
    ∙ ap (λ text. take c.args.at old ++ text) (over_zeros number kept.round kept.some c.ranges.number.fits kept.zeros (omega arith))
