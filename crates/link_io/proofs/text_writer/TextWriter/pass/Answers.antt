use Rattle.std.proofs.Common.{◌≡◌, ℕ, ◌+◌, ◌-◌, ◌≤◌, List, ◌++◌, sym, ap, ◌∙◌, take, drop, take-append-drop, length-take, arith}
use Rattle.std.specs.List.{slice_range}
use Rattle.std.proofs.{lemmas.List.drop-take, KnownBytes.append_known-moved}
use Rattle.link_io.specs.TextWriter.{waiting}
use Rattle.link_io.proofs.text_writer.TextWriter.pass.Goals as goal

-- the first `end` bytes, without the first `start` of them
rest_of : (xs : List ℕ) (start end : ℕ) → start ≤ end
    → drop start (take end xs) ≡ slice_range xs start end
rest_of xs start end order =
    let whole : start + (end - start) ≡ end = omega arith in
    rw whole at (drop-take start (end - start) xs)

front_of : (xs : List ℕ) (end : ℕ) → slice_range xs 0 end ≡ take end xs
front_of xs end =
    let whole : end - 0 ≡ end = omega arith in
    ap (λ n. take n xs) whole

-- the device below took a prefix of the bytes that waited
pub returns-clause-bytes : goal.returns-clause-bytes
returns-clause-bytes g c =
    let page = c.args.self.now.page.items in
    let end = c.args.self.now.end in
    let all = waiting c.args.self.now in
    let count = c.write_out-count.result.0 in
    let took = rw c.deref.ensures.value at c.write_out-count.ensures.written in
    append_known-moved _ _ (take count all) _ all took
    (sym (take-append-drop count all) ∙ ap (λ rest. take count all ++ rest) (rest_of page count end (omega (arith, length-take end c.deref.result.now)) ∙ sym c.keep_from-self.ensures.bytes ∙ front_of _ c.keep_from-self.result))
