use Rattle.std.proofs.Common.{◌≡◌, ◌+◌, ◌++◌, length, take}
use Rattle.link_report_broken_rules.specs.Words.{hyphenated}
use Rattle.link_report_broken_rules.proofs.words.write_hyphenated.Given as goal

abbrev pub invariant-loop-byte : goal.invariant-loop-byte
invariant-loop-byte l = record {
  text : take l.end l.page ≡ take l.initial.end l.initial.page ++ hyphenated (take l.byte-index l.text);
  end : l.end ≡ l.initial.end + l.byte-index;
  size : length l.page ≡ length l.initial.page;
}
