-- Parts of a bundle that are read where they were written.
use Rattle.std.proofs.Common.{◌≡◌, ℕ, ◌+◌, ◌^◌, ◌<◌, ◌≤◌, List, ◌++◌, length, drop, Some, Result, Ok, arith, refl, ap, ◌∙◌, append_assoc, length-append}
use Rattle.std.proofs.lemmas.{List.length-drop, Bool.le-ltb}
use Rattle.std.proofs.Math.Seq.{take-append_seam}
use Rattle.link_cbor.specs.declared.head.Head.{Head}
use Rattle.link_bundle_types.specs.declared.fault.BundleFault.{BundleFault}
use Rattle.link_bundle_heads.specs.Rows.{◌>>=◌}
use Rattle.link_bundle_blocks.specs.Reading.{head_at, row_at, bytes_at}
use Rattle.link_bundle_blocks.proofs.{Heads.row_at-accepted, Runs.drop-run}
use Rattle.link_bundle_writer.proofs.HeadsBack.{head_back}
use Rattle.link_bundle_writer.specs.Heads.{head_bytes}

-- Wherever these bytes are in a list of bytes, what is read there is this, by the offset of their
-- end.
pub record EndsThere {A E : Type 0} (read : List ℕ → ℕ → Result A E) (given : ℕ → A)
    (written : List ℕ) : Type 0 where
  pub by : (bytes : List ℕ) (offset : ℕ) (more : List ℕ) → offset ≤ length bytes
      → drop offset bytes ≡ written ++ more → read bytes offset ≡ Ok (given (offset + length written))

-- the part there is read as this value, up to their end
abbrev pub ReadsThere : {A E : Type 0} → (List ℕ → ℕ → Result (A × ℕ) E) → A → List ℕ → Type 0
ReadsThere read value written = EndsThere read (λ end. (value, end)) written

pub within_there : (bytes : List ℕ) (offset : ℕ) (run more : List ℕ) → offset ≤ length bytes
    → drop offset bytes ≡ run ++ more → offset + length run ≤ length bytes
within_there bytes offset run more within here =
    omega (arith, length-drop offset bytes, ap length here, length-append run more)

module _ {A B E : Type 0} (read : List ℕ → ℕ → Result (A × ℕ) E)
    (next : List ℕ → A × ℕ → Result B E) {value : A} {given : ℕ → B} where
  pub there_then : {first second : List ℕ} → ReadsThere read value first
      → EndsThere (λ bytes offset. next bytes (value, offset)) given second
      → EndsThere (λ bytes offset. read bytes offset >>= next bytes) given (first ++ second)
  there_then {first} {second} one two = record {
    by = λ bytes offset more within here.
        let split = here ∙ append_assoc first second more in
        let end : offset + length first + length second ≡ offset + length (first ++ second) =
        omega (arith, length-append first second) in
        ap (λ found. found >>= next bytes) (one.by bytes offset (second ++ more) within split)
        ∙ two.by bytes (offset + length first) more
        (within_there bytes offset first (second ++ more) within split)
        (drop-run bytes (second ++ more) first offset split)
        ∙ ap (λ n. Ok (given n)) end;
  }

  pub there_last : {written : List ℕ} → ReadsThere read value written
      → ((bytes : List ℕ) (offset : ℕ) → next bytes (value, offset) ≡ Ok (given offset))
      → EndsThere (λ bytes offset. read bytes offset >>= next bytes) given written
  there_last {written} one last = record {
    by = λ bytes offset more within here.
        ap (λ found. found >>= next bytes) (one.by bytes offset more within here)
        ∙ last bytes (offset + length written);
  }

head_there : (major number : ℕ) (bytes : List ℕ) (offset : ℕ) (more : List ℕ)
    → major < 7 → number < 2 ^ 64 → drop offset bytes ≡ head_bytes major number ++ more
    → head_at bytes offset
    ≡ Ok (record { major = major; value = Some number }, offset + length (head_bytes major number))
unfolding head_at
head_there major number bytes offset more small fits here =
    rw (here, head_back major number more small fits) refl

-- a head
pub there_row : {A : Type 0} (row : Head → Result A BundleFault) (value : A) (major number : ℕ)
    → major < 7 → number < 2 ^ 64
    → row (record { major = major; value = Some number }) ≡ Ok value
    → ReadsThere (row_at row) value (head_bytes major number)
there_row row value major number small fits accepted = record {
  by = λ bytes offset more within here.
      row_at-accepted row bytes offset (offset + length (head_bytes major number))
      (record { major = major; value = Some number }) value
      (head_there major number bytes offset more small fits here) accepted;
}

-- that many bytes
pub there_bytes : (content : List ℕ) → ReadsThere (bytes_at (length content)) content content
unfolding bytes_at
there_bytes content = record {
  by = λ bytes offset more within here.
      rw (
        le-ltb (length bytes) (offset + length content) (within_there bytes offset content more within here),
        here,
        take-append_seam content more,
      ) refl;
}

-- the same bytes, grouped in another way
pub regrouped : {A E : Type 0} {read : List ℕ → ℕ → Result A E} {given : ℕ → A}
    {left right : List ℕ} → EndsThere read given right → left ≡ right → EndsThere read given left
regrouped there same = rw same there
