-- The bytes that the `put_` calls append are a spelling of their message.
use Rattle.std.proofs.Common.{ℕ, zero, suc, ◌^◌, ◌<◌, ◌≤◌, Bool, true, false, List, [], ◌∷◌, ◌++◌, length, Option, Some, None, arith, refl, ap, sym, subst, append-nil}
use Rattle.std.specs.Prelude.{IfSome, IsSome, IsTrue}
use Rattle.std.proofs.lemmas.List.Elements.{All-nil, All-cons, All-append}
use Rattle.std.specs.Int.{byte_at}
use Rattle.std.proofs.Math.Nat.{mod-lt}
use Rattle.byteorder.specs.Numbers.{big_number-reads_back}
use Rattle.link_io.specs.Bytes.{IsByte, AreBytes}
use Rattle.link_wire.specs.{Codes.is_start, Limits.longest_node}
use Rattle.link_wire.specs.Spelled.{ContactSpelled, ItemSpelled, ItemsSpelled, ListSpelled, SegmentItemsSpelled, HeadSpelled}
use Rattle.link_wire.specs.Spelling.{contact_bytes, sess_init_bytes, total_bytes, announce_bytes, list_bytes, segment_head_bytes, sess_term_bytes, announced, segment_with, sess_init_with}
use Rattle.link_wire.proofs.Sound.{both}
use Rattle.link_wire.specs.declared.message.{ListOf.ListOf, ListOf.TheVariants.{Session, Transfer}}
use Rattle.link_wire.specs.declared.message.Message.TheVariants.{SessTerm}
use Rattle.link_writing.specs.Numbers.{be}

-- the bytes of a number are bytes
is_byte_at : (k n : ℕ) → byte_at k n < 256
is_byte_at zero n = mod-lt n (omega arith)
is_byte_at (suc k) n = mod-lt _ (omega arith)

AreBytes-be : (k n : ℕ) → AreBytes (be k n)
AreBytes-be zero n = All-nil IsByte
AreBytes-be (suc k) n = All-cons IsByte (byte_at k n) (be k n) (is_byte_at k n) (AreBytes-be k n)

-- a contact header
pub contact_spelled : (flags : ℕ) → flags < 2 ^ 8
    → ContactSpelled (record { flags = flags }) (contact_bytes flags)
unfolding contact_bytes
contact_spelled flags fits = (fits, refl)

-- an empty list
none_spelled : (owner : ListOf) → ListSpelled owner (record { items = [] }) (be 4 0)
none_spelled owner = record {
  body = [];
  is_body = refl;
  few = omega arith;
  short = omega arith;
  is_list = both (be 4 0) [] (omega arith, refl) (All-nil IsByte, refl);
}

-- a SESS_INIT
pub sess_init_spelled : (interval segment_mru transfer_mru : ℕ) (node : List ℕ)
    → interval < 2 ^ 16 → segment_mru < 2 ^ 64 → transfer_mru < 2 ^ 64 → AreBytes node
    → length node ≤ longest_node
    → HeadSpelled (sess_init_with interval segment_mru transfer_mru node)
    (sess_init_bytes interval segment_mru transfer_mru node)
unfolding sess_init_bytes
sess_init_spelled interval segment_mru transfer_mru node fits segment_fits transfer_fits are short =
    let size = be 2 (length node) in
    let lists = (size ++ node) ++ be 4 0 in
    both (be 1 7) (be 2 interval ++ (be 8 segment_mru ++ (be 8 transfer_mru ++ lists))) (omega arith, refl)
    (both (be 2 interval) (be 8 segment_mru ++ (be 8 transfer_mru ++ lists)) (fits, refl)
    (both (be 8 segment_mru) (be 8 transfer_mru ++ lists) (segment_fits, refl)
    (both (be 8 transfer_mru) lists (transfer_fits, refl)
    (both (size ++ node) (be 4 0) (short, both size node (omega arith, refl) (are, refl)) (none_spelled Session)))))

-- a Transfer Length item
total_spelled : (total : ℕ) → total < 2 ^ 64
    → ItemSpelled Transfer (record { flags = 0; kind = 1; length = 8; total = Some total })
    (total_bytes total)
unfolding total_bytes
total_spelled total fits =
    let read = big_number-reads_back 8 total [] fits in
    both (be 1 0 ++ (be 2 1 ++ be 2 8)) (be 8 total)
    (both (be 1 0) (be 2 1 ++ be 2 8) (omega arith, refl) (both (be 2 1) (be 2 8) (omega arith, refl) (omega arith, refl)))
    (AreBytes-be 8 total, refl, ap Some (sym read))

AreBytes-total : (total : ℕ) → AreBytes (total_bytes total)
unfolding total_bytes
AreBytes-total total =
    All-append IsByte (be 1 0 ++ be 2 1 ++ be 2 8) (be 8 total)
    (All-append IsByte (be 1 0 ++ be 2 1) (be 2 8) (All-append IsByte (be 1 0) (be 2 1) (AreBytes-be 1 0) (AreBytes-be 2 1)) (AreBytes-be 2 8))
    (AreBytes-be 8 total)

-- the one item of a list that announces a total
one_item : (total : ℕ) → total < 2 ^ 64
    → ItemsSpelled Transfer (record { flags = 0; kind = 1; length = 8; total = Some total } ∷ [])
    (total_bytes total)
one_item total fits =
    let P : List ℕ → Type 0 = ItemsSpelled Transfer (record { flags = 0; kind = 1; length = 8; total = Some total } ∷ []) in
    subst P (append-nil (total_bytes total)) (both (total_bytes total) [] (total_spelled total fits) refl)

-- a list that is empty or announces a total
announce_spelled : (announce : Option ℕ) → IfSome announce (λ total. total < 2 ^ 64)
    → ListSpelled Transfer (record { items = announced announce }) (announce_bytes announce)
unfolding announce_bytes total_bytes
announce_spelled None fits = none_spelled Transfer
announce_spelled (Some total) fits = record {
  body = total_bytes total;
  is_body = one_item total fits;
  few = omega arith;
  short = omega arith;
  is_list = both (be 4 13) (total_bytes total) (omega arith, refl) (AreBytes-total total, refl);
}

-- if nothing is announced, no total is too large
pub none_fits : (announce : Option ℕ) → (IsSome announce → ⊥)
    → IfSome announce (λ total. total < 2 ^ 64)
none_fits None none = tt
none_fits (Some total) none = absurd (none refl)

-- the list of a segment
items_spelled : (start : Bool) (announce : Option ℕ) → IfSome announce (λ total. total < 2 ^ 64)
    → (IsSome announce → IsTrue start)
    → SegmentItemsSpelled start (record { items = announced announce }) (list_bytes start announce)
items_spelled true announce fits may = announce_spelled announce fits
items_spelled false None fits may = (refl, refl)
items_spelled false (Some total) fits may = let not = may refl in absurd (cc)

-- an XFER_SEGMENT
pub segment_spelled : (flags id size : ℕ) (announce : Option ℕ)
    → flags < 2 ^ 8 → id < 2 ^ 64 → size < 2 ^ 64 → IfSome announce (λ total. total < 2 ^ 64)
    → (IsSome announce → IsTrue (is_start flags))
    → HeadSpelled (segment_with flags id size announce) (segment_head_bytes flags id size announce)
unfolding segment_head_bytes
segment_spelled flags id size announce fits id_fits size_fits total_fits may =
    let list = list_bytes (is_start flags) announce in
    both (be 1 1) (be 1 flags ++ (be 8 id ++ (list ++ be 8 size))) (omega arith, refl)
    (both (be 1 flags) (be 8 id ++ (list ++ be 8 size)) (fits, refl)
    (both (be 8 id) (list ++ be 8 size) (id_fits, refl)
    (both list (be 8 size) (items_spelled (is_start flags) announce total_fits may) (size_fits, refl))))

-- a SESS_TERM
pub sess_term_spelled : (flags reason : ℕ) → flags < 2 ^ 8 → reason < 2 ^ 8
    → HeadSpelled (SessTerm flags reason) (sess_term_bytes flags reason)
unfolding sess_term_bytes
sess_term_spelled flags reason fits reason_fits =
    both (be 1 5) (be 1 flags ++ be 1 reason) (omega arith, refl) (both (be 1 flags) (be 1 reason) (fits, refl) (reason_fits, refl))
