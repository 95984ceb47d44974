-- Heads that are read from a slice.

use Rattle.std.proofs.Common.{◌≡◌, ℕ, ◌≤◌, ◌+◌, ◌-◌, true, false, List, [], length, take, drop, None, Some, Ok, Err, refl, ap, arith}
use Rattle.std.proofs.{lemmas.List.take_rest, Math.ListN.drop_of_length-le}
use Rattle.link_cbor.specs.declared.head.Head.{Head}
use Rattle.link_cbor.specs.Head.{HeadFront, Cut as CutHead, IllFormed, Whole, head_front, whole_of, is_cut}
use Rattle.link_bundle_types.specs.declared.fault.BundleFault.TheVariants.{Cut, BadHead}
use Rattle.link_bundle_blocks.specs.Reading.{stopped, head_by, head_at}

-- the bytes from the offset on, as the code takes them
abbrev rest_of : List ℕ → ℕ → List ℕ
rest_of bytes offset = take (length bytes - offset) (drop offset bytes)

by_rest : (bytes : List ℕ) (offset : ℕ)
    → head_at bytes offset ≡ head_by bytes offset (head_front (rest_of bytes offset))
unfolding head_at
by_rest bytes offset = rw (take_rest bytes offset) refl

head_by-whole : (bytes : List ℕ) (offset size : ℕ) (head : Head) (front : HeadFront)
    → whole_of front ≡ Some (head, size) → head_by bytes offset front ≡ Ok (head, offset + size)
head_by-whole bytes offset size head CutHead is = cc
head_by-whole bytes offset size head IllFormed is = cc
head_by-whole bytes offset size head (Whole read count) is =
    let same : (read, count) ≡ (head, size) = cc in
    ap (λ (pair : Head × ℕ). Ok (pair.0, offset + pair.1)) same

ill_formed : (bytes : List ℕ) (offset : ℕ) (front : HeadFront)
    → whole_of front ≡ None → is_cut front ≡ false
    → head_by bytes offset front ≡ Err (stopped BadHead offset)
ill_formed bytes offset CutHead none more = cc
ill_formed bytes offset IllFormed none more = refl
ill_formed bytes offset (Whole read count) none more = cc

head_by-cut : (bytes : List ℕ) (offset : ℕ) (front : HeadFront) → is_cut front ≡ true
    → head_by bytes offset front ≡ Err (stopped Cut (length bytes))
head_by-cut bytes offset CutHead more = refl
head_by-cut bytes offset IllFormed more = cc
head_by-cut bytes offset (Whole read count) more = cc

pub head_at-found : (bytes : List ℕ) (offset size : ℕ) (head : Head)
    → whole_of (head_front (rest_of bytes offset)) ≡ Some (head, size)
    → head_at bytes offset ≡ Ok (head, offset + size)
head_at-found bytes offset size head is =
    rw (by_rest bytes offset) (head_by-whole bytes offset size head (head_front (rest_of bytes offset)) is)

pub head_at-bad : (bytes : List ℕ) (offset : ℕ)
    → whole_of (head_front (rest_of bytes offset)) ≡ None
    → is_cut (head_front (rest_of bytes offset)) ≡ false
    → head_at bytes offset ≡ Err (stopped BadHead offset)
head_at-bad bytes offset none more =
    rw (by_rest bytes offset) (ill_formed bytes offset (head_front (rest_of bytes offset)) none more)

pub head_at-cut : (bytes : List ℕ) (offset : ℕ)
    → is_cut (head_front (rest_of bytes offset)) ≡ true
    → head_at bytes offset ≡ Err (stopped Cut (length bytes))
head_at-cut bytes offset more =
    rw (by_rest bytes offset) (head_by-cut bytes offset (head_front (rest_of bytes offset)) more)

pub head_at-past : (bytes : List ℕ) (offset : ℕ) → length bytes ≤ offset
    → head_at bytes offset ≡ Err (stopped Cut (length bytes))
unfolding head_at head_front
head_at-past bytes offset past =
    let none : drop offset bytes ≡ [] = drop_of_length-le bytes (omega arith) in rw none refl

pub ruleset heads = (head_at-found, head_at-bad, head_at-cut, head_at-past)
