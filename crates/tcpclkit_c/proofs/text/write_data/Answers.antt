use Rattle.std.proofs.Common.{[], Some, refl, ap, ◌∙◌}
use Rattle.link_report_blocks.specs.Words.{words_text}
use Rattle.tcpclkit_c.proofs.text.write_data.Goals as goal

pub returns-in-None-clause-text : goal.returns-in-None-clause-text
unfolding words_text
returns-in-None-clause-text c = rw c.in-None.is refl

pub returns-in-Some-clause-text : goal.returns-in-Some-clause-text
returns-in-Some-clause-text c =
    let seen = c.take.ensures.seen c.in-Some.kind [] c.new-scan.ensures.seen in
    let found = c.view.ensures.seen c.in-Some.kind c.args.content.now seen in
    rw c.in-Some.is (c.write_words.ensures.text
    ∙ ap (λ found. words_text c.args.start (Some found)) found)
