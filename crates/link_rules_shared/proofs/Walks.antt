-- The first head that is sought, after more bytes.

use Rattle.std.proofs.Common.{◌≡◌, ℕ, zero, suc, ◌+◌, ◌-◌, ◌%◌, ◌^◌, ◌<◌, ◌≤◌, Bool, true, false, List, [], ◌∷◌, ◌++◌, length, get_or, take, drop, Option, Some, None, refl, sym, ap, subst, ◌∙◌, append_assoc, append-nil, length-append, length-drop, length-take, arith}
use Rattle.std.specs.{Prelude.{if◌then◌else◌}, Bool.then_some, Option.option_or}
use Rattle.std.proofs.lemmas.List.{drop-append-le, length-take-le}
use Rattle.std.proofs.Math.Seq.{drop-append_seam, drop-length}
use Rattle.link_cbor.specs.declared.{head.Head.Head as HeadItem, head_scan.HeadScan.HeadScan}
use Rattle.link_cbor.specs.Head.{Cut, IllFormed, Whole, head_front, whole_of}
use Rattle.link_cbor.specs.HeadScan.{HasScannedHead}
use Rattle.link_cbor.proofs.{HeadLaws.{head_alone, whole_stays, ill_formed_stays}, Joins.joined_run}
use Rattle.link_rules_shared.specs.declared.heads.{WalkStage.WalkStage, WalkStage.TheVariants.{Inside, Head, Ended}}
use Rattle.link_rules_shared.specs.declared.heads.{Found.Found, HeadWalk.HeadWalk}
use Rattle.link_rules_shared.specs.Heads.{content_size, is_long, is_open_string, is_open_item, is_encoded, first_from}
use Rattle.link_rules_shared.specs.HeadWalk.{first_left, IsFirstSoughtHead, AreFirstSoughtHeads, NotesCborHead, IsHeadScanAtStage, HasWalkedBy, HasWalked, TakesRun}

-- ---- the definition, step by step

-- bytes of the last head and of its string
pub first_from-append : (sought : HeadItem → ℕ → Bool) (left offset : ℕ) (run more : List ℕ) → length run ≤ left
    → first_from sought left offset (run ++ more)
    ≡ first_from sought (left - length run) (offset + length run) more
unfolding first_from
first_from-append sought left offset [] more within =
    let here : left - 0 ≡ left = omega arith in
    let next : offset + 0 ≡ offset = omega arith in
    rw (here, next) refl
first_from-append sought zero offset (byte ∷ run) more within = absurd (omega arith)
first_from-append sought (suc left) offset (byte ∷ run) more within =
    let here : suc left - suc (length run) ≡ left - length run = omega arith in
    let next : offset + suc (length run) ≡ offset + 1 + length run = omega arith in
    rw (here, next) (first_from-append sought left (offset + 1) run more (omega arith))

head_front-nil : head_front [] ≡ Cut
unfolding head_front
head_front-nil = refl

-- a whole head
pub at_head : (sought : HeadItem → ℕ → Bool) (offset : ℕ) (run more : List ℕ) (head : HeadItem)
    → head_front run ≡ Whole head (length run)
    → first_from sought 0 offset (run ++ more)
    ≡ (if sought head (length run) then Some offset
    else first_from sought (content_size head) (offset + length run) more)
unfolding first_from
at_head sought offset [] more head whole = let cut = head_front-nil in cc
at_head sought offset (byte ∷ rest) more head whole =
    let here : (suc (length rest) - 1 + content_size head) - length rest ≡ content_size head =
    omega arith in
    let next : offset + 1 + length rest ≡ offset + suc (length rest) = omega arith in
    let found = first_from-append sought (suc (length rest) - 1 + content_size head) (offset + 1) rest more
    (omega arith) in
    rw (whole_stays (byte ∷ rest) more head (suc (length rest)) whole, first_from, found, here, next)

at_ill_formed : (sought : HeadItem → ℕ → Bool) (offset : ℕ) (bytes more : List ℕ)
    → head_front bytes ≡ IllFormed → first_from sought 0 offset (bytes ++ more) ≡ None
unfolding first_from
at_ill_formed sought offset [] more wrong = let cut = head_front-nil in cc
at_ill_formed sought offset (byte ∷ rest) more wrong =
    rw (ill_formed_stays (byte ∷ rest) more wrong, first_from) refl

at_cut : (sought : HeadItem → ℕ → Bool) (offset : ℕ) (bytes : List ℕ)
    → head_front bytes ≡ Cut → first_from sought 0 offset bytes ≡ None
unfolding first_from
at_cut sought offset [] cut = refl
at_cut sought offset (byte ∷ rest) cut = rw (cut, first_from) refl

-- ---- what is found and what is left

-- a head that is the first, if none was found before it
pub first_or : (found : Option ℕ) (is_sought : Bool) (offset : ℕ) (rest : Option ℕ)
    → option_or found (if is_sought then Some offset else rest)
    ≡ option_or (option_or found (then_some is_sought offset)) rest
first_or (Some at) is_sought offset rest = refl
first_or None true offset rest = refl
first_or None false offset rest = refl

-- the same of each kind of heads
each : {found : Found} {stage after : WalkStage} {seen bytes : List ℕ} → AreFirstSoughtHeads found stage seen
    → ((sought : HeadItem → ℕ → Bool) (first : Option ℕ) → IsFirstSoughtHead sought first stage seen
    → IsFirstSoughtHead sought first after bytes)
    → AreFirstSoughtHeads found after bytes
each come step = record {
  long = step is_long _ come.long;
  string = step is_open_string _ come.string;
  item = step is_open_item _ come.item;
  encoded = step is_encoded _ come.encoded;
}

found_inside : (found : Found) (left : ℕ) (seen run : List ℕ) → AreFirstSoughtHeads found (Inside left) seen
    → length run ≤ left → AreFirstSoughtHeads found (Inside (left - length run)) (seen ++ run)
found_inside found left seen run come within = each come (λ sought first come. record {
  reads = λ more.
      let there : length (seen ++ run) ≡ length seen + length run = length-append seen run in
      rw (append_assoc seen run more, there) (come.reads (run ++ more)
      ∙ ap (λ (rest : Option ℕ). option_or first rest)
      (first_from-append sought left (length seen) run more within));
})

-- where a head begins, no byte of it is seen
found_begins : (found : Found) (offset : ℕ) (seen : List ℕ) → AreFirstSoughtHeads found (Inside 0) seen
    → offset ≡ length seen → AreFirstSoughtHeads found (Head offset) seen
found_begins found offset seen come here = each come (λ sought first come. record {
  reads = λ more. rw (here, drop-length seen) (come.reads more);
})

found_more : (found : Found) (offset : ℕ) (seen run : List ℕ) → AreFirstSoughtHeads found (Head offset) seen
    → offset ≤ length seen → AreFirstSoughtHeads found (Head offset) (seen ++ run)
found_more found offset seen run come within = each come (λ sought first come. record {
  reads = λ more.
      rw (
        append_assoc seen run more,
        drop-append-le offset seen run within,
        append_assoc (drop offset seen) run more,
      ) (come.reads (run ++ more));
})

sought_whole : (sought : HeadItem → ℕ → Bool) (found : Option ℕ) (offset : ℕ) (seen : List ℕ)
    (head : HeadItem) → IsFirstSoughtHead sought found (Head offset) seen → offset ≤ length seen
    → head_front (drop offset seen) ≡ Whole head (length (drop offset seen))
    → IsFirstSoughtHead sought
    (option_or found (then_some (sought head (length (drop offset seen))) offset))
    (Inside (content_size head)) seen
sought_whole sought found offset seen head come within whole = record {
  reads = λ more.
      let next : offset + length (drop offset seen) ≡ length seen =
      omega (arith, length-drop offset seen) in
      come.reads more
      ∙ ap (λ (rest : Option ℕ). option_or found rest)
      (at_head sought offset (drop offset seen) more head whole
      ∙ ap (λ (next : ℕ). if sought head (length (drop offset seen)) then Some offset
      else first_from sought (content_size head) next more) next)
      ∙ first_or found _ offset _;
}

found_whole : (old new : Found) (offset : ℕ) (seen : List ℕ) (head : HeadItem) (size : ℕ)
    → AreFirstSoughtHeads old (Head offset) seen → offset ≤ length seen
    → head_front (drop offset seen) ≡ Whole head (length (drop offset seen))
    → size ≡ length (drop offset seen) → NotesCborHead old new offset head size
    → AreFirstSoughtHeads new (Inside (content_size head)) seen
found_whole old new offset seen head size come within whole sized noted = record {
  long = rw (noted.long, sized) (sought_whole is_long _ offset seen head come.long within whole);
  string = rw noted.string
      (sought_whole is_open_string _ offset seen head come.string within whole);
  item = rw noted.item (sought_whole is_open_item _ offset seen head come.item within whole);
  encoded = rw (noted.encoded, sized)
      (sought_whole is_encoded _ offset seen head come.encoded within whole);
}

-- the next head, whose bytes are a run
found_next : (old new : Found) (offset : ℕ) (seen run : List ℕ) (head : HeadItem) (size : ℕ)
    → AreFirstSoughtHeads old (Inside 0) seen → offset ≡ length seen
    → head_front run ≡ Whole head (length run) → size ≡ length run
    → NotesCborHead old new offset head size
    → AreFirstSoughtHeads new (Inside (content_size head)) (seen ++ run)
found_next old new offset seen run head size come here whole sized noted =
    let rest : drop offset (seen ++ run) ≡ run = rw here (drop-append_seam seen run) in
    found_whole old new offset (seen ++ run) head size
    (found_more old offset seen run (found_begins old offset seen come here) (omega arith))
    (omega (arith, length-append seen run)) (rw rest whole) (rw rest sized) noted

-- ---- the walk

-- a walk whose stage is known
pub at_stage : (walk : HeadWalk) (stage : WalkStage) (seen : List ℕ) → walk.stage ≡ stage
    → HasWalked walk seen → HasWalkedBy stage walk.found walk.head walk.count seen
at_stage walk stage seen is come =
    subst (λ (stage : WalkStage). HasWalkedBy stage walk.found walk.head walk.count seen) is come

-- a count that does not wrap
counted_more : (count size : ℕ) (seen run : List ℕ) → count ≡ length seen → size ≡ length run
    → length (seen ++ run) < 2 ^ 63 → (count + size) % 2 ^ 64 ≡ length (seen ++ run)
counted_more count size seen run counted sized small =
    omega (arith, length-append seen run)

pub taken_inside : (left size : ℕ) (found : Found) (head : HeadScan) (count : ℕ)
    (seen run : List ℕ) → HasWalkedBy (Inside left) found head count seen → size ≡ length run
    → size ≤ left → length (seen ++ run) < 2 ^ 63
    → HasWalkedBy (Inside (left - size)) found head ((count + size) % 2 ^ 64) (seen ++ run)
taken_inside left size found head count seen run come sized within small = record {
  counted = counted_more count size seen run come.counted sized small;
  sought = rw sized (found_inside found left seen run come.sought (omega arith));
  stands = come.stands;
}

-- fewer bytes of a piece
pub fewer : (seen piece : List ℕ) (count more : ℕ) → count ≤ more
    → length (seen ++ take more piece) < 2 ^ 63 → length (seen ++ take count piece) < 2 ^ 63
fewer seen piece count more within small =
    omega (arith, length-append {A = ℕ}, length-take {A = ℕ})

-- the next head in a piece
pub found_head : (old new : Found) (offset taken size : ℕ) (seen piece : List ℕ) (head : HeadItem)
    → offset ≡ length seen → taken ≤ length piece
    → whole_of (head_front (drop taken piece)) ≡ Some (head, size)
    → taken + size ≤ length piece → AreFirstSoughtHeads old (Inside 0) (seen ++ take taken piece)
    → NotesCborHead old new ((offset + taken) % 2 ^ 64) head size
    → length (seen ++ take (taken + size) piece) < 2 ^ 63
    → AreFirstSoughtHeads new (Inside (content_size head)) (seen ++ take (taken + size) piece)
found_head old new offset taken size seen piece head here within front ends come noted small =
    let rest = drop taken piece in
    let run = take size (drop taken piece) in
    let there : size ≤ length (drop taken piece) = omega (arith, length-drop taken piece) in
    let sized : length (take size (drop taken piece)) ≡ size = length-take-le size rest there in
    let before : length (take taken piece) ≡ taken = length-take-le taken piece within in
    let joined = joined_run seen piece taken size in
    let few = fewer seen piece taken (taken + size) (omega arith) small in
    subst (λ (seen : List ℕ). AreFirstSoughtHeads new (Inside (content_size head)) seen) joined
    (found_next old new ((offset + taken) % 2 ^ 64) (seen ++ take taken piece) run head size come
    (counted_more offset taken seen (take taken piece) here (sym before) few)
    (head_alone rest head size front there) (sym sized) noted)

-- the next bytes of a string in a piece
pub found_content : (found : Found) (left size taken : ℕ) (seen piece : List ℕ)
    → AreFirstSoughtHeads found (Inside left) (seen ++ take taken piece) → size ≤ left
    → taken + size ≤ length piece
    → AreFirstSoughtHeads found (Inside (left - size)) (seen ++ take (taken + size) piece)
found_content found left size taken seen piece come within ends =
    let run = take size (drop taken piece) in
    let sized : length (take size (drop taken piece)) ≡ size =
    length-take-le size (drop taken piece) (omega (arith, length-drop taken piece)) in
    subst (λ (seen : List ℕ). AreFirstSoughtHeads found (Inside (left - size)) seen)
    (joined_run seen piece taken size)
    (subst (λ (size : ℕ). AreFirstSoughtHeads found (Inside (left - size)) ((seen ++ take taken piece) ++ run))
    sized
    (found_inside found left (seen ++ take taken piece) run come (omega arith)))

-- nothing of a piece
pub found_none : (found : Found) (left taken : ℕ) (seen piece : List ℕ) → left ≡ 0 → taken ≡ 0
    → AreFirstSoughtHeads found (Inside left) (seen ++ take taken piece) → AreFirstSoughtHeads found (Inside 0) seen
found_none found left taken seen piece none no_more come =
    rw (none, no_more, append-nil seen) at come

pub first_byte : (bytes : List ℕ) → 0 < length bytes → get_or bytes 0 0 ∷ [] ≡ take 1 bytes
first_byte [] some = absurd (omega arith)
first_byte (byte ∷ bytes) some = refl

-- a head before its first byte
pub head_begun : (found : Found) (head : HeadScan) (count : ℕ) (seen : List ℕ)
    → HasWalkedBy (Inside 0) found head count seen → HasWalkedBy (Head count) found head count seen
unfolding head_front
head_begun found head count seen come =
    let none : drop count seen ≡ [] =
    ap (λ (offset : ℕ). drop offset seen) come.counted ∙ drop-length seen in
    record {
      counted = come.counted;
      sought = found_begins found count seen come.sought come.counted;
      stands = record {
        in_bytes = omega (arith, come.counted);
        scanned = subst (λ (bytes : List ℕ). HasScannedHead head bytes) (sym none) come.stands;
        cut = rw none refl;
      };
    }

-- the bytes seen of a head, with one more
pub one_more : (offset : ℕ) (found : Found) (old new : HeadScan) (count : ℕ) (seen run : List ℕ)
    → HasWalkedBy (Head offset) found old count seen
    → ((head : List ℕ) → HasScannedHead old head → HasScannedHead new (head ++ run))
    → HasScannedHead new (drop offset (seen ++ run))
one_more offset found old new count seen run come heads =
    rw (drop-append-le offset seen run come.stands.in_bytes)
    (heads (drop offset seen) come.stands.scanned)

pub head_ill_formed : (offset : ℕ) (found : Found) (old new : HeadScan) (count : ℕ)
    (seen run : List ℕ) → HasWalkedBy (Head offset) found old count seen → 1 ≡ length run
    → length (seen ++ run) < 2 ^ 63 → head_front (drop offset (seen ++ run)) ≡ IllFormed
    → HasWalkedBy Ended found new ((count + 1) % 2 ^ 64) (seen ++ run)
head_ill_formed offset found old new count seen run come one small wrong = record {
  counted = counted_more count 1 seen run come.counted one small;
  sought = each (found_more found offset seen run come.sought come.stands.in_bytes)
      (λ sought first come. record {
        reads = λ more. come.reads more
            ∙ ap (λ (rest : Option ℕ). option_or first rest)
            (at_ill_formed sought offset (drop offset (seen ++ run)) more wrong);
      });
  stands = tt;
}

pub head_whole : (offset : ℕ) (found noted : Found) (old new : HeadScan) (count : ℕ)
    (seen run : List ℕ) (head : HeadItem) (size : ℕ) → HasWalkedBy (Head offset) found old count seen
    → 1 ≡ length run → length (seen ++ run) < 2 ^ 63
    → head_front (drop offset (seen ++ run)) ≡ Whole head (length (drop offset (seen ++ run)))
    → size ≡ length (drop offset (seen ++ run)) → NotesCborHead found noted offset head size
    → HasScannedHead new []
    → HasWalkedBy (Inside (content_size head)) noted new ((count + 1) % 2 ^ 64) (seen ++ run)
head_whole offset found noted old new count seen run head size come one small whole sized with_it
    fresh = record {
      counted = counted_more count 1 seen run come.counted one small;
      sought = found_whole found noted offset (seen ++ run) head size
          (found_more found offset seen run come.sought come.stands.in_bytes)
          (omega (arith, length-append seen run, come.stands.in_bytes)) whole sized with_it;
      stands = fresh;
    }

-- ---- one run after another

pub taken_then : (old middle new : HeadWalk) (run more : List ℕ) → TakesRun old middle run
    → TakesRun middle new more → TakesRun old new (run ++ more)
taken_then old middle new run more first second = record {
  seen = λ seen small come.
      let joined = append_assoc seen run more in
      let few : length (seen ++ run) < 2 ^ 63 = omega (arith, length-append {A = ℕ}) in
      rw (← joined) (second.seen (seen ++ run) (rw joined small) (first.seen seen few come));
}

-- ---- what is found in the bytes seen

first_left-nil : (sought : HeadItem → ℕ → Bool) (stage : WalkStage) (head : HeadScan) (seen : List ℕ)
    → IsHeadScanAtStage stage head seen → first_left sought stage seen [] ≡ None
unfolding first_from
first_left-nil sought (Inside left) head seen stands = refl
first_left-nil sought (Head offset) head seen stands =
    rw (append-nil (drop offset seen)) (at_cut sought offset (drop offset seen) stands.cut)
first_left-nil sought Ended head seen stands = refl

pub or_none : (found : Option ℕ) → option_or found None ≡ found
or_none None = refl
or_none (Some at) = refl

pub sought_now : (sought : HeadItem → ℕ → Bool) (found : Option ℕ) (stage : WalkStage)
    (head : HeadScan) (seen : List ℕ) → IsFirstSoughtHead sought found stage seen
    → IsHeadScanAtStage stage head seen → found ≡ first_from sought 1 0 seen
sought_now sought found stage head seen come stands =
    let reads = come.reads [] in
    rw (append-nil seen, first_left-nil sought stage head seen stands, or_none found) at (sym reads)
