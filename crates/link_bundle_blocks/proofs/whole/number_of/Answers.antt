use Rattle.std.proofs.Common.{◌≡◌, ℕ, List, [], ◌∷◌, length, ◌∙◌, arith}
use Rattle.byteorder.specs.Endian.{big_number}
use Rattle.link_bundle_blocks.specs.CheckField.{number_from}
use Rattle.link_bundle_blocks.proofs.whole.number_of.Goals as goal

two : (bytes : List ℕ) → length bytes ≡ 2 → big_number 2 bytes ≡ number_from 0 bytes
two [] size = absurd (omega arith)
two (a ∷ []) size = absurd (omega arith)
two (a ∷ b ∷ []) size = omega arith
two (a ∷ b ∷ c ∷ rest) size = absurd (omega arith)

four : (bytes : List ℕ) → length bytes ≡ 4 → big_number 4 bytes ≡ number_from 0 bytes
four [] size = absurd (omega arith)
four (a ∷ []) size = absurd (omega arith)
four (a ∷ b ∷ []) size = absurd (omega arith)
four (a ∷ b ∷ c ∷ []) size = absurd (omega arith)
four (a ∷ b ∷ c ∷ d ∷ []) size = omega arith
four (a ∷ b ∷ c ∷ d ∷ e ∷ rest) size = absurd (omega arith)

pub returns-in-Crc16 : goal.returns-in-Crc16
returns-in-Crc16 c =
    c.from.ensures ∙ c.read_u16.ensures ∙ two c.args.stored.now (rw c.in-Crc16.is at c.requires)

pub returns-in-Crc32 : goal.returns-in-Crc32
returns-in-Crc32 c = c.read_u32.ensures ∙ four c.args.stored.now (rw c.in-Crc32.is at c.requires)
