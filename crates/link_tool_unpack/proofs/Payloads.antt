-- The payload's bytes of a piece of a transfer's data, which a scan has judged.
use Rattle.std.proofs.Common.{◌≡◌, ℕ, ◌+◌, ◌<◌, List, [], ◌++◌, length, take, drop, Option, Some, None, sym, ap, ◌∙◌, append-nil, refl}
use Rattle.link_bundle_blocks.specs.Bundle.{judged_bundle, payload_of, bytes_of, payload_in, spanned, payload_seen}
use Rattle.link_bundle.specs.{Part.part_in, Scan.{HasScanned, HasJudged}, declared.scan.BundleScan.BundleScan}
use Rattle.link_bundle_blocks.proofs.Payloads.{PayloadLasts-holds, SpanDeterminesPayload-holds}
use Rattle.link_bundle.proofs.{Parts.{part_more, part_fits, no_part}, Pieces.payload_judged}

-- the payload's offset and size are known; `count` bytes of it are there
record IsKnown (known : Option (ℕ × ℕ)) (place count there : ℕ) : Type 0 where
  size : ℕ
  is : known ≡ Some (place, size)
  all : count ≡ there

span_known : (known : Option (ℕ × ℕ)) (place count there : ℕ)
    → Some (place, count) ≡ spanned known there
    → IsKnown known place count there
span_known None place count there is = cc
span_known (Some (at, size)) place count there is =
    let same : ◌≡◌ {A = ℕ × ℕ} (place, count) (at, there) = cc in
    record {
      size = size;
      is = ap (λ (n : ℕ). Some (n, size)) (ap (λ (p : ℕ × ℕ). p.0) (sym same));
      all = ap (λ (p : ℕ × ℕ). p.1) same;
    }

span_none : (outcome : Option (ℕ × ℕ)) (there : ℕ) → None ≡ spanned outcome there → outcome ≡ None
span_none None there is = refl
span_none (Some (at, size)) there is = cc

payload_in-known : (bytes : List ℕ) (payload : Option (ℕ × ℕ)) → payload_of (judged_bundle bytes) ≡ payload
    → payload_in bytes ≡ bytes_of payload bytes
unfolding payload_in
payload_in-known bytes payload is = ap (λ (outcome : Option (ℕ × ℕ)). bytes_of outcome bytes) is

module _ (scan : BundleScan) (content piece : List ℕ)
    (now : HasJudged scan (content ++ piece)) where
  -- the payload's offset is known
  pub part_some : (place count limit : ℕ)
      → ((seen : List ℕ) → HasScanned scan seen → Some (place, count) ≡ payload_seen seen)
      → length (content ++ piece) < limit
      → (0 < count → place + count < limit)
      × (payload_in (content ++ piece) ≡ payload_in content
      ++ part_in piece (length content) place count)
  unfolding payload_seen
  part_some place count limit span short =
      let whole = content ++ piece in
      let here = span_known (payload_of (judged_bundle now.seen)) place count (length (payload_in now.seen)) (span now.seen now.scanned) in
      let where_now : payload_of (judged_bundle whole) ≡ Some (place, here.size) =
      ap (λ xs. payload_of (judged_bundle xs)) (sym now.parts) ∙ PayloadLasts-holds now.seen now.rest (place, here.size) here.is in
      let after : payload_in whole ≡ take here.size (drop place whole) = payload_in-known whole (Some (place, here.size)) where_now in
      let count_is : count ≡ length (take here.size (drop place whole)) =
      here.all ∙ ap length (payload_judged scan whole now ∙ after) in (
        part_fits whole place here.size count limit count_is short,
        after ∙ part_more content piece place here.size count count_is
            ∙ ap (λ xs. xs ++ part_in piece (length content) place count)
            (sym (SpanDeterminesPayload-holds content piece place here.size where_now)),
      )

  -- the data with the piece has no payload bytes, so the data before the piece had none
  earlier_none : payload_in (content ++ piece) ≡ [] → (known : Option (ℕ × ℕ))
      → payload_of (judged_bundle content) ≡ known → payload_in content ≡ []
  earlier_none none None is = payload_in-known content None is
  earlier_none none (Some (place, size)) is =
      let later = PayloadLasts-holds content piece (place, size) is in
      payload_in-known content (Some (place, size)) is
      ∙ no_part content piece place size (sym (payload_in-known (content ++ piece) (Some (place, size)) later) ∙ none)

  pub part_none : ((seen : List ℕ) → HasScanned scan seen → None ≡ payload_seen seen)
      → payload_in (content ++ piece) ≡ payload_in content ++ []
  unfolding payload_seen
  part_none span =
      let none : payload_in (content ++ piece) ≡ [] =
      sym (payload_judged scan (content ++ piece) now)
      ∙ payload_in-known now.seen None (span_none (payload_of (judged_bundle now.seen)) (length (payload_in now.seen)) (span now.seen now.scanned)) in
      none ∙ sym (append-nil (payload_in content) ∙ earlier_none none (payload_of (judged_bundle content)) refl)
