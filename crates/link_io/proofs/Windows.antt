-- The window of a source: the part of an array between two indices, and the bytes after it.
use Rattle.std.proofs.Common.{◌≡◌, ℕ, ◌+◌, ◌-◌, ◌≤◌, List, [], ◌++◌, take, drop, slice_range, Option, None, Some, arith, refl, ap, sym, ◌∙◌, append_assoc, append-nil}
use Rattle.std.proofs.lemmas.List.{drop-drop, drop-take, take-append-drop}
use Rattle.std.specs.Io.KnownBytes.{prepend_known}
use Rattle.link_io.specs.Device.{BeginsWith}

pub range_none : (window : List ℕ) (start end : ℕ) → start ≡ end → slice_range window start end ≡ []
range_none window start end same =
    let none : end - start ≡ 0 = omega arith in
    rw none refl

pub range_front : (window : List ℕ) (end : ℕ) → slice_range window 0 end ≡ take end window
range_front window end =
    let all : end - 0 ≡ end = omega arith in
    rw all refl

-- the window after its first `count` bytes were given
pub range_rest : (window : List ℕ) (start end count : ℕ) → count ≤ end - start
    → slice_range window (start + count) end ≡ drop count (slice_range window start end)
range_rest window start end count within =
    let rest = end - (start + count) in
    let parts : end - start ≡ count + rest = omega arith in
    ap (take rest) (sym (drop-drop count start window))
    ∙ sym (drop-take count rest (drop start window))
    ∙ ap (λ n. drop count (take n (drop start window))) (sym parts)

-- no byte comes next in any input
pub begins_nothing : (left : Option (List ℕ)) → BeginsWith left []
begins_nothing None = tt
begins_nothing (Some all) = (all, refl)

-- all of the bytes come next in them
pub begins_all : (bytes : List ℕ) → BeginsWith (Some bytes) bytes
begins_all bytes = ([], sym (append-nil bytes))

-- the first of the bytes that come next come next too
pub begins_take : (left : Option (List ℕ)) (bytes : List ℕ) (count : ℕ) → BeginsWith left bytes
    → BeginsWith left (take count bytes)
begins_take None bytes count next = tt
begins_take (Some all) bytes count next = (
  drop count bytes ++ next.0,
  next.1 ∙ ap (λ first. first ++ next.0) (sym (take-append-drop count bytes))
      ∙ append_assoc (take count bytes) (drop count bytes) next.0,
)

-- the bytes of the window are the next of the input
pub window_next : (left : Option (List ℕ)) (window : List ℕ) (count : ℕ)
    → BeginsWith (prepend_known window left) (take count window)
window_next None window count = tt
window_next (Some all) window count =
    (drop count window ++ all, ap (λ bytes. bytes ++ all) (sym (take-append-drop count window)) ∙ append_assoc (take count window) (drop count window) all)

-- the bytes of the window, and then those that the reader holds, are the next of the input
pub held_next : (left : Option (List ℕ)) (window held : List ℕ) (count : ℕ) → BeginsWith left held
    → BeginsWith (prepend_known window left) (window ++ take count held)
held_next None window held count next = tt
held_next (Some all) window held count next =
    let rest = drop count held ++ next.0 in
    let parts : all ≡ take count held ++ rest =
    next.1 ∙ ap (λ bytes. bytes ++ next.0) (sym (take-append-drop count held)) ∙ append_assoc (take count held) (drop count held) next.0 in
    (rest, ap (λ bytes. window ++ bytes) parts ∙ sym (append_assoc window (take count held) rest))

-- two lists that agree from an offset on agree from each later offset on
pub drop_later : (at count later : ℕ) (xs ys : List ℕ) → later ≡ at + count
    → drop at xs ≡ drop at ys → drop later xs ≡ drop later ys
drop_later at count later xs ys is same =
    rw is (sym (drop-drop count at xs) ∙ ap (λ zs. drop count zs) same ∙ drop-drop count at ys)
