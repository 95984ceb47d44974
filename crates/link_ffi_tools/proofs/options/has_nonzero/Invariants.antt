use Rattle.std.proofs.Common.{◌≡◌, false, take}
use Rattle.std.specs.{Prelude.nat_lt, List.list_any}
use Rattle.link_ffi_tools.proofs.options.has_nonzero.Given as goal

abbrev pub invariant-loop-word : goal.invariant-loop-word
invariant-loop-word l = list_any (λ word. nat_lt 0 word) (take l.word-index l.words) ≡ false
