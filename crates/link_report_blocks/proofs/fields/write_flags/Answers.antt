use Rattle.std.proofs.Common.{◌≡◌, ℕ, ◌<◌, [], ◌∷◌, ap, arith}
use Rattle.std.specs.{Int.{w64, to_be_bytes}, List.flat_map}
use Rattle.link_report.specs.Text.{hex2}
use Rattle.link_report_blocks.specs.Fields.{significant, flags_text}
use Rattle.link_report_blocks.proofs.fields.write_flags.Goals as goal

-- a number of one byte in eight bytes
one_byte : (n : ℕ) → n < 256 → to_be_bytes w64 n ≡ 0 ∷ 0 ∷ 0 ∷ 0 ∷ 0 ∷ 0 ∷ 0 ∷ n ∷ []
one_byte n few = grind arith

one_pair : (n : ℕ) → n < 256 → flags_text n ≡ hex2 n
unfolding flags_text hex2
one_pair n few = ap (λ bytes. flat_map hex2 (significant bytes)) (one_byte n few)

pub returns-then-flags-lt256-clause-text : goal.returns-then-flags-lt256-clause-text
returns-then-flags-lt256-clause-text c =
    rw (one_pair c.args.flags c.if-flags-lt256.true) c.write_hex2.ensures.text
