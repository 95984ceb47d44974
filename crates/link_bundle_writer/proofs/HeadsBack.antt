-- A head that was written is read as it was, and is the shortest.
use Rattle.std.proofs.Common.{◌≡◌, ℕ, ◌+◌, ◌-◌, ◌^◌, ◌<◌, ◌≤◌, List, ◌∷◌, ◌++◌, length, take, Some, arith, refl, ◌∙◌, length-append}
use Rattle.std.proofs.lemmas.{Bool.{ne_eqb, Decides.nat_tests}, Nat.{div-mul-add, mod-mul-add}}
use Rattle.byteorder.specs.Numbers.{big_number-reads_back, length-bytes_high_first}
use Rattle.link_cbor.proofs.HeadLaws.{big_endian-big_from, argument_front-there, front_by-small, front_by-argument}
use Rattle.link_cbor.specs.Head.{Whole, big_endian, with_argument, head_front}
use Rattle.link_bundle_writer.specs.Heads.{first_byte, head_bytes, HeadReadsBack}
use Rattle.link_writing.specs.Numbers.{be}

-- a head whose argument follows its first byte, in `size` bytes; `information` is their number's
argument_there : (major information size value : ℕ) (more : List ℕ)
    → major < 7 → 24 ≤ information → information < 28 → 2 ^ (information - 24) ≡ size
    → value < 256 ^ size
    → head_front (first_byte major information ∷ (be size value ++ more))
    ≡ Whole (record { major = major; value = Some value }) (1 + size)
unfolding head_front with_argument
argument_there major information size value more small least below is fits =
    let length_is = length-bytes_high_first size value in
    let within : size ≤ length (be size value ++ more) =
    omega (arith, length_is, length-append (be size value) more) in
    let back : big_endian (take size (be size value ++ more)) ≡ value =
    big_endian-big_from size (be size value ++ more) within ∙ big_number-reads_back size value more fits in
    rw (
      div-mul-add major 32 information (omega arith),
      mod-mul-add major 32 information (omega arith),
      front_by-argument major information (be size value ++ more) least below,
      is,
      argument_front-there major size (be size value ++ more) within,
      back,
      ne_eqb major 7 (λ same. absurd (omega (arith, same))),
    ) refl

small_there : (major value : ℕ) (more : List ℕ) → value < 24
    → head_front (first_byte major value ∷ more)
    ≡ Whole (record { major = major; value = Some value }) 1
unfolding head_front
small_there major value more below =
    rw (
      div-mul-add major 32 value (omega arith),
      mod-mul-add major 32 value (omega arith),
      front_by-small major value more below,
    ) refl

pub head_back : HeadReadsBack
unfolding head_bytes
head_back major value more small fits =
    grind (
      arith,
      nat_tests,
      small_there major value more,
      argument_there major 24 1 value more small (omega arith) (omega arith) refl,
      argument_there major 25 2 value more small (omega arith) (omega arith) refl,
      argument_there major 26 4 value more small (omega arith) (omega arith) refl,
      argument_there major 27 8 value more small (omega arith) (omega arith) refl,
    )
