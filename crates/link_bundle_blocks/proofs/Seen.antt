-- The bytes that a scan has seen, and the head at their end.

use Rattle.std.proofs.Common.{◌≡◌, ℕ, ◌+◌, ◌<◌, ◌≤◌, List, [], ◌∷◌, ◌++◌, length, get_or, drop, Ok, Err, refl, ap, ◌∙◌, append_assoc, length-drop, arith}
use Rattle.std.proofs.{lemmas.List.drop-append-le, Math.Seq.{drop-append_seam, drop-length}}
use Rattle.std.proofs.lemmas.List.Elements.{All-nil, All-push, All-append, All-from_get_or}
use Rattle.link_cbor.specs.declared.head.Head.{Head}
use Rattle.link_cbor.specs.Head.{AreBytes, Cut as CutHead, IllFormed, Whole, head_front}
use Rattle.link_cbor.proofs.HeadLaws.{whole_stays, ill_formed_stays}
use Rattle.link_bundle_types.specs.declared.fault.BundleFault.TheVariants.{BadHead}
use Rattle.link_bundle_blocks.specs.Reading.{stopped, cut_short, head_at}

-- ---- bytes

pub AreBytes-one : (byte : ℕ) → byte < 256 → AreBytes (byte ∷ [])
AreBytes-one byte small = All-push (λ (b : ℕ). b < 256) [] byte (All-nil (λ (b : ℕ). b < 256)) small

-- a slice has bytes
pub AreBytes-slice : (run : List ℕ) → ((k : ℕ) → get_or run k 0 < 256) → AreBytes run
AreBytes-slice run each = All-from_get_or (λ (b : ℕ). b < 256) run 0 (λ k within. each k)

pub AreBytes-append : (seen run : List ℕ) → AreBytes seen → AreBytes run → AreBytes (seen ++ run)
AreBytes-append seen run all more = All-append (λ (b : ℕ). b < 256) seen run all more

-- ---- the end of the bytes seen

-- at the end of the bytes, no byte of the next part was seen
pub nothing_yet : (offset : ℕ) (seen : List ℕ) → offset ≡ length seen → drop offset seen ≡ []
nothing_yet offset seen here = ap (λ (offset : ℕ). drop offset seen) here ∙ drop-length seen

-- a run after the bytes seen
pub after_seen : (offset : ℕ) (seen run : List ℕ) → offset ≡ length seen
    → drop offset (seen ++ run) ≡ run
after_seen offset seen run here =
    ap (λ (offset : ℕ). drop offset (seen ++ run)) here ∙ drop-append_seam seen run

-- the bytes seen, a run of more bytes, and those that follow
pub next_run : (seen more run : List ℕ) → drop (length seen) ((seen ++ run) ++ more) ≡ run ++ more
next_run seen more run =
    ap (λ (bytes : List ℕ). drop (length seen) bytes) (append_assoc seen run more)
    ∙ drop-append_seam seen (run ++ more)

-- ---- the head at the end of the bytes seen

pub head_at-cut_short : (bytes : List ℕ) (offset : ℕ) → head_front (drop offset bytes) ≡ CutHead
    → head_at bytes offset ≡ cut_short bytes
unfolding head_at
head_at-cut_short bytes offset cut = rw cut refl

-- a head that is whole or ill-formed stays so, whatever bytes follow

pub head_at-whole_stays : (offset : ℕ) (seen more : List ℕ) (head : Head) → offset ≤ length seen
    → head_front (drop offset seen) ≡ Whole head (length (drop offset seen))
    → head_at (seen ++ more) offset ≡ Ok (head, length seen)
unfolding head_at
head_at-whole_stays offset seen more head within outcome =
    let next : offset + length (drop offset seen) ≡ length seen =
    omega (arith, length-drop offset seen) in
    rw (
      drop-append-le offset seen more within,
      whole_stays (drop offset seen) more head (length (drop offset seen)) outcome,
      next,
    ) refl

pub head_at-ill_formed_stays : (offset : ℕ) (seen more : List ℕ) → offset ≤ length seen
    → head_front (drop offset seen) ≡ IllFormed
    → head_at (seen ++ more) offset ≡ Err (stopped BadHead offset)
unfolding head_at
head_at-ill_formed_stays offset seen more within outcome =
    rw (
      drop-append-le offset seen more within,
      ill_formed_stays (drop offset seen) more outcome,
    ) refl
