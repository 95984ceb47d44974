-- The messages of a packed stream are in order, and its transfers are the bundles. Each message
-- keeps what every message has to keep that comes there.
use Rattle.std.specs.{Prelude.IfSome, List.All}
use Rattle.std.proofs.Common.{◌≡◌, ℕ, zero, suc, ◌+◌, ◌*◌, ◌<◌, ◌≤◌, Bool, true, false, List, [], ◌∷◌, ◌++◌, length, drop, Option, Some, None, refl, ap, sym, ◌∙◌, subst, append-nil, append_assoc, length-take, length-drop, arith}
use Rattle.std.proofs.lemmas.{Bool.{eq-eqb, ne_eqb, cases_lt}, List.take_all}
use Rattle.std.proofs.lemmas.List.Elements.{All-nil, All-cons}
use Rattle.link_tool_option_types.specs.declared.pack.PackOptions.{PackOptions}
use Rattle.link_wire.specs.{Stream.Entry, declared.message.Message.Message}
use Rattle.link_transfer.specs.{Chunks.chunk_count, Cutting.{due, due_of}, Event.event_of}
use Rattle.link_transfer.specs.{Joiner.IsJoinerAt, Order.refusal}
use Rattle.link_transfer.proofs.Due.{chunk_left, byte_left, given_within, fits_back}
use Rattle.link_transfer.proofs.Joining.{IsJoinerAt-none}
use Rattle.link_session_rules.specs.Heads.{HeadWithOrder}
use Rattle.link_run.proofs.Continued.{entry}
use Rattle.link_run_over_transfers.specs.Walk.{head_at}
use Rattle.link_run_judge.specs.Transfers.{Transfer, after_message}
use Rattle.link_run_over_bundle_files.specs.Bundles.{BundleWithInfo, TailAfterBundles, Divided}
use Rattle.link_tool_check.specs.Checking.{judged}
use Rattle.link_tool_pack.specs.Packing.{segment_size, sending}
use Rattle.link_tool_pack.specs.Segments.{BundleToCut, cutting_of, cut_at, segment_bytes, segments_of}
use Rattle.link_tools_laws.specs.PackedStream.{SegmentFits}
use Rattle.link_tools_laws.specs.Transfers.{ordered, ordered_by, ordered_after, transfers_of}
use Rattle.link_tools_laws.proofs.Same.{AreInOrder, all, after_all}
use Rattle.link_tools_laws.proofs.Entries.{AreBundles, IsBundle, IsRest, due_entries, init_entry, bundle_entries, term_entries, end_entries, packed_entries, some_size, chunk_of, message_of, segment_entries}
use Rattle.link_tools_laws.proofs.ClearHeads.{fresh, carrying, may_come, joins_then, head_of, sent, Between, last_at, segment_at, so_far, chunk_sent, At, begins, now, in_order, ended, goes}
use Rattle.link_wire.specs.declared.message.Message.TheVariants as message

-- ---- counts of chunks

-- all chunks together have all bytes
all_bytes : (segment size : ℕ) → 0 < segment → size ≤ chunk_count segment size * segment
all_bytes segment size some = grind (arith, cases_lt, chunk_left)

-- the chunks that are due of a bundle that goes on are among its chunks
due_within : (segment hold count size : ℕ) → 0 < segment
    → count ≤ due_of false segment hold size → count ≤ chunk_count segment size
due_within segment hold count size some few = grind (arith, fits_back, given_within)

-- ---- the transfers

module _ (options : PackOptions) where
  abbrev pub transfer_of : (number : ℕ) → BundleWithInfo → Transfer
  transfer_of number bundle = record {
    first = head_of number (sending options true bundle.bytes) 0;
    content = bundle.bytes;
    closed = true;
  }

  -- the transfers of these bundles and the earlier ones, the latest first
  unfoldable pub onto : (number : ℕ) → List BundleWithInfo → List Transfer → List Transfer
  onto number [] earlier = earlier
  onto number (bundle ∷ more) earlier = onto (suc number) more (transfer_of number bundle ∷ earlier)

  pub onto_all : (P : Transfer → Type 0)
      → ((number : ℕ) (bundle : BundleWithInfo) → IsBundle options.peer_transfer bundle
      → P (transfer_of number bundle))
      → (number : ℕ) (bundles : List BundleWithInfo) (earlier : List Transfer)
      → AreBundles options.peer_transfer bundles → All P earlier
      → All P (onto number bundles earlier)
  unfolding onto
  onto_all P each number [] earlier are so = so
  onto_all P each number (bundle ∷ more) earlier are so =
      let latest = transfer_of number bundle in
      onto_all P each (suc number) more (latest ∷ earlier) are.1
      (All-cons P latest earlier (each number bundle are.0) so)

  abbrev pub rest_onto : (number : ℕ) → Option TailAfterBundles → List Transfer → List Transfer
  rest_onto number None earlier = earlier
  rest_onto number (Some rest) earlier =
      let part = sending options false rest.before_fault in
      so_far number part (due (cutting_of part)) earlier

  abbrev pub packed_transfers : Divided → List Transfer
  packed_transfers input = rest_onto (length input.bundles) input.rest (onto 0 input.bundles [])

-- ---- heads that come one by one

-- what a head has to keep that comes after these messages and heads
abbrev pub ToKeep : Type 1
ToKeep = List Message → List HeadWithOrder → Entry → Type 0

module _ (Keeps : ToKeep) (End : List Message → List Transfer → Type 0) where
  -- Each of these heads is in order, and keeps what it has to. They come after these messages,
  -- heads and transfers, and `End` holds after them.
  abbrev pub Come : List Message → (before : List HeadWithOrder) → List Transfer → List Entry
      → Type 0
  Come taken before transfers [] = End taken transfers
  Come taken before transfers (head ∷ more) =
      (refusal taken (event_of head.message) ≡ None) × Keeps taken before head
      × Come (taken ++ head.message ∷ [])
      (before ++ judged (head_at taken head.offset head.message) ∷ [])
      (after_message transfers head.message head.content) more

  -- these heads come after any others with which the next transfer has this ID
  abbrev pub ComeAfter : (next : ℕ) → List Transfer → List Entry → Type 0
  ComeAfter next transfers heads =
      (taken : List Message) (before : List HeadWithOrder) → Between next taken before
      → Come taken before transfers heads

  -- ---- the segments of a bundle

  module _ (id : ℕ) (sending : BundleToCut) (earlier : List Transfer) (more : List Entry) (last : ℕ)
      (keeps : (k offset : ℕ) → k ≤ last → (taken : List Message) (before : List HeadWithOrder)
      → At id sending k taken before → Keeps taken before (segment_at id sending k offset))
      (goes_on : (k : ℕ) → k < last → last_at id sending k ≡ false)
      (then_come : (taken : List Message) (before : List HeadWithOrder)
      → (last_at id sending last ≡ true → Between (suc id) taken before)
      → Come taken before (sent id sending (suc last) (last_at id sending last) ∷ earlier) more)
    where
      -- those from number `k` on
      chunks_come : (count k offset : ℕ) → k + count ≡ last
          → (taken : List Message) (before : List HeadWithOrder) → At id sending k taken before
          → Come taken before (so_far id sending k earlier)
          (segment_entries id sending k (suc count) offset ++ more)
      unfolding segment_entries
      chunks_come zero k offset is taken before at =
          let here : last ≡ k = omega arith in
          let seen = taken ++ message_of id sending k ∷ [] in
          let heads = before ++ now id sending k offset taken before at ∷ [] in
          let later = rw here at then_come in (
            in_order id sending k offset taken before at,
            keeps k offset (omega arith) taken before at,
            subst (λ made. Come seen heads made more) (sym (chunk_sent id sending k earlier))
                (later seen heads (ended id sending k offset taken before at)),
          )
      chunks_come (suc count) k offset is taken before at =
          let going = goes_on k (omega arith) in
          let seen = taken ++ message_of id sending k ∷ [] in
          let heads = before ++ now id sending k offset taken before at ∷ [] in
          let after = offset + length (segment_bytes id (cut_at sending k) (chunk_of sending k)) in
          let rest = segment_entries id sending (suc k) (suc count) after ++ more in
          let made : sent id sending (suc k) (last_at id sending k) ∷ earlier
          ≡ so_far id sending (suc k) earlier =
          ap (λ closed. sent id sending (suc k) closed ∷ earlier) going in (
            in_order id sending k offset taken before at,
            keeps k offset (omega arith) taken before at,
            subst (λ made. Come seen heads made rest) (sym (chunk_sent id sending k earlier ∙ made))
                (chunks_come count (suc k) after (omega arith) seen heads
                (goes id sending k offset taken before at going)),
          )

  -- ---- all messages

  module _ (options : PackOptions)
      (keeps : (id k offset : ℕ) (whole : Bool) (bytes : List ℕ)
      → length bytes ≤ options.peer_transfer
      → k < chunk_count (segment_size options) (length bytes)
      → (taken : List Message) (before : List HeadWithOrder)
      → At id (sending options whole bytes) k taken before
      → Keeps taken before (segment_at id (sending options whole bytes) k offset)) where
    whole_come : (id count : ℕ) (bundle : BundleWithInfo) (earlier : List Transfer) (more : List Entry)
        (offset : ℕ) → IsBundle options.peer_transfer bundle
        → count ≡ chunk_count (segment_size options) (length bundle.bytes)
        → ComeAfter (suc id) (transfer_of options id bundle ∷ earlier) more
        → ComeAfter id earlier
        (segment_entries id (sending options true bundle.bytes) 0 count offset ++ more)
    whole_come id zero bundle earlier more offset is count then_come taken before at =
        absurd (omega (
          arith,
          count,
          chunk_left (segment_size options) 0 (length bundle.bytes) (some_size options)
              (omega (arith, is.some)),
        ))
    whole_come id (suc last) bundle earlier more offset is count then_come taken before at =
        let size = segment_size options in
        let whole = sending options true bundle.bytes in
        let ends : last_at id whole last ≡ true = eq-eqb (last + 1) _ (omega (arith, count)) in
        let within : length bundle.bytes ≤ suc last * size =
        rw count (all_bytes size (length bundle.bytes) (some_size options)) in
        chunks_come id whole earlier more last
        (λ k offset few. keeps id k offset true bundle.bytes is.within (omega (arith, count)))
        (λ k less. ne_eqb (k + 1) _ (λ same. absurd (omega (arith, count, same))))
        (λ taken before closed.
        rw (ends, take_all (suc last * size) bundle.bytes within)
        (then_come taken before (closed ends)))
        last 0 offset (omega arith) taken before (begins id whole at)

    bundles_come : (number next : ℕ) (bundles : List BundleWithInfo) (earlier : List Transfer)
        (more : List Entry) (offset : ℕ) → AreBundles options.peer_transfer bundles
        → next ≡ number + length bundles
        → ComeAfter next (onto options number bundles earlier) more
        → ComeAfter number earlier (bundle_entries options number bundles offset ++ more)
    unfolding onto bundle_entries due
    bundles_come number next [] earlier more offset are is then_come =
        let same : next ≡ number = omega arith in rw same at then_come
    bundles_come number next (bundle ∷ bundles) earlier more offset are is then_come =
        let whole = sending options true bundle.bytes in
        let after = offset + length (segments_of number whole) in
        rw (append_assoc (due_entries number whole offset)
        (bundle_entries options (suc number) bundles after) more)
        (whole_come number _ bundle earlier _ offset are.0 refl
        (bundles_come (suc number) next bundles (transfer_of options number bundle ∷ earlier) more
        after are.1 (omega arith) then_come))

    part_come : (id count : ℕ) (bytes : List ℕ) (earlier : List Transfer) (offset : ℕ)
        → length bytes ≤ options.peer_transfer
        → count ≤ chunk_count (segment_size options) (length bytes)
        → ((taken : List Message)
        → End taken (so_far id (sending options false bytes) count earlier))
        → ComeAfter id earlier (segment_entries id (sending options false bytes) 0 count offset)
    unfolding segment_entries
    part_come id zero bytes earlier offset within few ends taken before at = ends taken
    part_come id (suc last) bytes earlier offset within few ends taken before at =
        let part = sending options false bytes in
        subst (Come taken before earlier)
        (append-nil (segment_entries id part 0 (suc last) offset))
        (chunks_come id part earlier [] last
        (λ k offset less. keeps id k offset false bytes within (omega arith)) (λ k less. refl)
        (λ taken before closed. ends taken) last 0 offset (omega arith) taken before
        (begins id part at))

    -- what comes at the end of a stream
    pub term_come : (asked : Bool) (offset next : ℕ) (made : List Transfer)
        → ((taken : List Message) (before : List HeadWithOrder) → Between next taken before
        → Keeps taken before (entry offset (message.SessTerm 0 0) []))
        → ((terminated : Bool) (taken : List Message)
        → IsJoinerAt (record (carrying None) { terminated = terminated }) taken → End taken made)
        → ComeAfter next made (term_entries options asked offset)
    term_come true offset next made keeps ends taken before at = (
      may_come (carrying None) taken (message.SessTerm 0 0) at.joins refl,
      keeps taken before at,
      ends true _ (joins_then (carrying None) taken (message.SessTerm 0 0) at.joins refl),
    )
    term_come false offset next made keeps ends taken before at = ends false taken at.joins

    -- the whole stream, up to the end of its bundles
    pub packed_come : (bundles : List BundleWithInfo) (more : List Entry)
        → AreBundles options.peer_transfer bundles → Keeps [] [] (init_entry options)
        → ComeAfter (length bundles) (onto options 0 bundles []) more → (offset : ℕ)
        → Come [] [] [] ((init_entry options ∷ bundle_entries options 0 bundles offset) ++ more)
    packed_come bundles more are first then_come offset = (
      may_come fresh [] (init_entry options).message IsJoinerAt-none refl,
      first,
      bundles_come 0 (length bundles) bundles [] more offset are (omega arith) then_come _ _
          (record {
            joins = joins_then fresh [] (init_entry options).message IsJoinerAt-none refl;
            is_open = record { unrejected = refl; unended = refl };
            ids = refl;
          }),
    )

-- ---- order, transfers and limits

module _ (options : PackOptions) where
  abbrev pub Fits : Entry → Type 0
  Fits head = SegmentFits options head.message

  -- all heads are in order and keep the limits, and these are their transfers
  pub record AreCarried (heads : List Entry) (transfers : List Transfer) : Type 0 where
    pub in_order : AreInOrder heads
    pub fits : All Fits heads
    pub makes : transfers_of heads ≡ transfers

  module _ (input : Divided) (are : AreBundles options.peer_transfer input.bundles)
      (is_rest : IfSome input.rest (IsRest options.peer_transfer)) where
    abbrev number : ℕ
    number = length input.bundles

    abbrev Keep : ToKeep
    Keep taken before head = Fits head

    abbrev End : List Message → List Transfer → Type 0
    End taken transfers = transfers ≡ packed_transfers options input

    fits : (id k offset : ℕ) (whole : Bool) (bytes : List ℕ)
        → length bytes ≤ options.peer_transfer
        → k < chunk_count (segment_size options) (length bytes)
        → (taken : List Message) (before : List HeadWithOrder)
        → At id (sending options whole bytes) k taken before
        → Fits (segment_at id (sending options whole bytes) k offset)
    fits id k offset whole bytes within few taken before at =
        let size = segment_size options in
        let left = byte_left size k (length bytes) (some_size options) few in
        let chunk = length-take size (drop (k * size) bytes) in
        let rest = length-drop (k * size) bytes in
        (omega arith, omega arith, omega arith)

    rest_come : (rest : Option TailAfterBundles) → input.rest ≡ rest
        → IfSome rest (IsRest options.peer_transfer) → (offset : ℕ)
        → ComeAfter Keep End number (onto options 0 input.bundles [])
        (end_entries options number rest offset)
    unfolding due
    rest_come None is is_rest offset =
        term_come Keep End options fits options.send_term offset number _
        (λ taken before at. tt) (λ terminated taken joins. rw is refl)
    rest_come (Some rest) is is_rest offset =
        part_come Keep End options fits number _ rest.before_fault _ offset is_rest.within
        (due_within (segment_size options) options.announce _ (length rest.before_fault)
        (some_size options) (omega arith)) (λ taken. rw is refl)

    -- what holds of heads that come one by one
    come_so : (heads : List Entry) (taken : List Message) (before : List HeadWithOrder)
        (transfers : List Transfer) → Come Keep End taken before transfers heads
        → (ordered_after taken heads ≡ all heads)
        × (after_all transfers heads ≡ packed_transfers options input) × All Fits heads
    unfolding ordered_after
    come_so [] taken before transfers is = (refl, is, All-nil Fits)
    come_so (head ∷ more) taken before transfers come =
        let later = come_so more _ _ _ come.2 in (
          rw come.0 (ap (ordered_by None head) later.0),
          later.1,
          All-cons Fits head more come.1 later.2,
        )

    -- the messages of a packed stream are in order, and its transfers are those of the input
    pub packed_carried : AreCarried (packed_entries options input) (packed_transfers options input)
    unfolding ordered transfers_of
    packed_carried =
        let so = come_so _ [] [] []
        (packed_come Keep End options fits input.bundles _ are tt
        (rest_come input.rest refl is_rest _) _) in
        record { in_order = so.0; fits = so.2; makes = so.1 }
