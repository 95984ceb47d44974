-- The events that a stream tells. They come one after another: a head is judged after the messages
-- that were taken, and data comes while a transfer is open. With more bytes, more events follow.
use Rattle.std.specs.List.{flat_map, fold}
use Rattle.std.proofs.Common.{◌≡◌, ℕ, Bool, true, false, List, [], ◌∷◌, ◌++◌, Option, None, if◌then◌else◌, refl, append-nil, append_assoc, arith, ◌&&◌, ◌==◌, is_some, length, Some, ap, sym, ◌∙◌, ⊎_elim, ◌<◌, not, subst}
use Rattle.std.proofs.Math.Bool.{and-true, and-false}
use Rattle.std.proofs.lemmas.Bool.{cases_Bool, eq-eqb, eqb-true, and_right, ne_eqb}
use Rattle.std.proofs.lemmas.{Grind.fold-append, List.map-append}
use Rattle.link_wire.specs.{Message.data_length, declared.message.Contact.Contact}
use Rattle.link_wire.specs.Stream.{Entry, Reading, heads_of, Stream, reading_of, cut_heads}
use Rattle.link_wire.specs.declared.message.Message.{Message}
use Rattle.link_transfer.specs.{Event.event_of, Order.{refusal, with_taken, open_of}}
use Rattle.link_transfer.specs.{declared.fault.OrderFault.OrderFault, declared.joiner.Turn.Turn}
use Rattle.link_run.specs.Made.{tool_of}
use Rattle.link_run.proofs.Continued.{entry, LastGoesOn, ReadingGoesOn, reading_on}
use Rattle.link_run_over_transfers.specs.Walk.{head_at, WalkEvent, Data, Whole, data_events, head_events, content_events, Walked, taken_with, with_judged, with_next, contact_events, walked_of, Head, is_last, closes, ContactHeader, MessageHead, open_with, open_after_event, has_open, with_entry_unless, none_walked, walked, end_events, Telling, told_of}
use Rattle.link_run_over_transfers.specs.{declared.consumer.Manner.Manner, Telling.HeadComes}
use Rattle.link_run_over_transfers.proofs.{Comes.{plain_open, open_if}, Texts.{made_stays, unread}}
use Rattle.link_run_over_transfers.proofs.Heads.{continues_some, open_then, has_open-append, data_keeps}
use Rattle.link_tools_laws.specs.Prefix.{IsPrefixOf, HasPrefixTexts}
use Rattle.link_tools_laws.proofs.Whole.{IsWhole, FitsData, AreWhole, AreRead, ReadingReads, no_content, reading_read}
use Rattle.link_tools_laws.proofs.Prefixes.{ArePrefixes, prefix_same, prefix_first, prefix_after, prefix_none, prefix_trans, prefixes_same, prefixes_trans, prefixed}
use Rattle.link_transfer.specs.declared.joiner.Turn.TheVariants as turn

-- ---- the data of heads

-- a tool that says nothing of data says nothing of the data of a head
module _ {A : Type 0} (of : WalkEvent → List A) (no_data : (byte : ℕ) → of (Data byte) ≡ [])
    (no_whole : of Whole ≡ []) where
  bytes_none : (bytes : List ℕ) (test : Bool)
      → flat_map of (data_events bytes ++ (if test then Whole ∷ [] else [])) ≡ []
  bytes_none [] true = rw no_whole refl
  bytes_none [] false = refl
  bytes_none (byte ∷ bytes) test = rw (no_data byte) (bytes_none bytes test)

  pub content_none : (effect : Option Turn) (size : ℕ) (content : List ℕ)
      → flat_map of (content_events effect size content) ≡ []
  content_none effect size content = grind (arith, bytes_none)

-- ---- a walk that goes on after faults

-- a walk that tells of every head or not
abbrev pub going : (all_heads : Bool) → Manner
going all_heads = record { goes_on = true; all_heads = all_heads }

pub judged_taken : (all_heads : Bool) (refused : Option OrderFault) (was : Walked) (head : Entry)
    → with_judged refused (going all_heads) was head ≡ taken_with (going all_heads) was head
judged_taken all_heads refused was head = grind arith

module _ (all_heads : Bool) where
  -- the events of a head after these messages, and of its data
  abbrev pub events_at : (taken : List Message) → Entry → List WalkEvent
  events_at taken head =
      let at = head_at taken head.offset head.message in
      head_events all_heads at ++ content_events at.turn (data_length head.message) head.content

  abbrev pub walk_events : (taken : List Message) → List Entry → List WalkEvent
  walk_events taken [] = []
  walk_events taken (head ∷ more) =
      events_at taken head ++ walk_events (with_taken taken head.message) more

  abbrev pub taken_by : (taken : List Message) → List Entry → List Message
  taken_by taken [] = taken
  taken_by taken (head ∷ more) = taken_by (with_taken taken head.message) more

  walk_from : (heads : List Entry) (taken : List Message) (events : List WalkEvent)
      → fold (with_next (going all_heads))
      (record { taken = taken; events = events; refused = None }) heads
      ≡ record {
        taken = taken_by taken heads;
        events = events ++ walk_events taken heads;
        refused = None;
      }
  walk_from [] taken events = rw append-nil refl
  walk_from (head ∷ more) taken events =
      let next = with_taken taken head.message in
      rw (
        judged_taken all_heads (refusal taken (event_of head.message)) _ head,
        walk_from more next (events ++ events_at taken head),
        append_assoc events (events_at taken head) (walk_events next more),
      )

  pub walk_is : (contact : Option Contact) (heads : List Entry)
      → walked_of (going all_heads) contact heads ≡ record {
        taken = taken_by [] heads;
        events = contact_events contact ++ walk_events [] heads;
        refused = None;
      }
  unfolding walked_of
  walk_is contact heads = walk_from heads [] (contact_events contact)

-- ---- events that come one after another

-- a walk may tell this event after these
abbrev pub Follows : (before : List WalkEvent) → WalkEvent → Type 0
Follows before (ContactHeader contact) = before ≡ []
Follows before (MessageHead head) = HeadComes before head
Follows before event = has_open before ≡ true

-- a walk may tell these events after the first ones, one by one
abbrev pub AllFollow : (before more : List WalkEvent) → Type 0
AllFollow before [] = Unit {0}
AllFollow before (event ∷ more) = Follows before event × AllFollow (before ++ event ∷ []) more

pub follow_both : (before first second : List WalkEvent) → AllFollow before first
    → AllFollow (before ++ first) second → AllFollow before (first ++ second)
follow_both before [] second one two = rw append-nil at two
follow_both before (event ∷ first) second one two = (
  one.0,
  follow_both (before ++ event ∷ []) first second one.1
      (rw (append_assoc before (event ∷ []) first) two),
)

pub follow_rest : (before first second : List WalkEvent) → AllFollow before (first ++ second)
    → AllFollow (before ++ first) second
follow_rest before [] second all = rw append-nil all
follow_rest before (event ∷ first) second all =
    rw (← append_assoc before (event ∷ []) first)
    (follow_rest (before ++ event ∷ []) first second all.1)

-- ---- the data of a head

data_follow : (before : List WalkEvent) (bytes : List ℕ) → has_open before ≡ true
    → AllFollow before (data_events bytes)
data_follow before [] opened = tt
data_follow before (byte ∷ bytes) opened =
    grind (arith, has_open-append, data_follow (before ++ Data byte ∷ []) bytes)

abbrev whole_events : Bool → List WalkEvent
whole_events test = if test then Whole ∷ [] else []

bytes_follow : (before : List WalkEvent) (bytes : List ℕ) (test : Bool) → has_open before ≡ true
    → AllFollow before (data_events bytes ++ whole_events test)
bytes_follow before bytes test opened =
    grind (arith, data_follow, data_keeps, follow_both, has_open-append)

module _ (was : Bool) (size : ℕ) (content : List ℕ) (fits : size ≡ 0 → content ≡ []) where
  content_open : (effect : Option Turn)
      → fold open_after_event (open_with effect (is_last effect && (size == 0)) was)
      (content_events effect size content)
      ≡ open_with effect (is_last effect && (length content == size)) was
  content_open effect = grind (arith, data_keeps, eq-eqb, eqb-true, fold-append)

  -- data comes only of an open transfer
  content_follow : (effect : Option Turn) (before : List WalkEvent)
      → has_open before ≡ open_with effect (is_last effect && (size == 0)) was
      → AllFollow before (content_events effect size content)
  content_follow effect before opened = grind (arith, and-false, bytes_follow, eqb-true)

-- ---- the events of heads

-- the events so far follow one another, and a transfer is open after both or neither
record Stands (walked : Walked) : Type 0 where
  follow : AllFollow [] walked.events
  opened : has_open walked.events ≡ is_some (open_of walked.taken)

-- the same, where the data of the last head may be cut
pub record Told (walked : Walked) : Type 0 where
  pub follow : AllFollow [] walked.events
  pub opened : is_some (open_of walked.taken) ≡ true → has_open walked.events ≡ true

module _ (manner : Manner) (was : Walked) (stands : Stands was) (head : Entry)
    (fits : FitsData head) where
  abbrev here : Head
  here = head_at was.taken head.offset head.message

  abbrev its_size : ℕ
  its_size = data_length head.message

  abbrev told : List WalkEvent
  told = head_events manner.all_heads here

  abbrev its_content : List WalkEvent
  its_content = content_events here.turn its_size head.content

  head_follows : (test : Bool) → AllFollow was.events (if test then MessageHead here ∷ [] else [])
  head_follows true = (record { taken = was.taken; is = refl; opened = stands.opened }, tt)
  head_follows false = tt

  head_opened : has_open (was.events ++ told)
      ≡ open_with here.turn (closes here) (has_open was.events)
  head_opened = grind (arith, continues_some, has_open-append, open_if, plain_open)

  all_follow : AllFollow [] (was.events ++ (told ++ its_content))
  all_follow = grind (arith, content_follow, follow_both, head_follows, head_opened)

  all_opened : has_open (was.events ++ (told ++ its_content))
      ≡ open_with here.turn (is_last here.turn && (length head.content == its_size))
      (is_some (open_of was.taken))
  all_opened =
      ap has_open (sym (append_assoc was.events told its_content))
      ∙ has_open-append (was.events ++ told) its_content
      ∙ ap (λ b. fold open_after_event b its_content) head_opened
      ∙ content_open (has_open was.events) its_size head.content fits here.turn
      ∙ ap (open_with here.turn (is_last here.turn && (length head.content == its_size)))
      stands.opened

  -- all of its data has come
  taken_stands : IsWhole head → Stands (taken_with manner was head)
  taken_stands all = grind (arith, all_follow, all_opened, and-true, eq-eqb, open_then)

  taken_told : Told (taken_with manner was head)
  taken_told = grind (arith, all_follow, all_opened, open_then)

-- the walk takes the head, or ends before it
module _ (manner : Manner) (was : Walked) (head : Entry) (P : Walked → Type 0)
    (taken : P (taken_with manner was head)) (kept : (refused : Option (ℕ × OrderFault))
    → P (record was { refused = refused })) where
  next_judged : (refused : Option OrderFault) → P (with_judged refused manner was head)
  next_judged refused = grind (arith, cases_Bool)

  next_is : (refused : Option (ℕ × OrderFault))
      → P (with_entry_unless refused manner was head)
  next_is None = next_judged (refusal was.taken (event_of head.message))
  next_is (Some refused) = kept was.refused

module _ (manner : Manner) where
  one_stands : (was : Walked) (head : Entry) → Stands was → FitsData head → IsWhole head
      → Stands (with_next manner was head)
  one_stands was head stands fits all =
      next_is manner was head Stands (taken_stands manner was stands head fits all)
      (λ refused. record { follow = stands.follow; opened = stands.opened }) was.refused

  one_told : (was : Walked) (head : Entry) → Stands was → FitsData head
      → Told (with_next manner was head)
  one_told was head stands fits =
      next_is manner was head Told (taken_told manner was stands head fits)
      (λ refused. record { follow = stands.follow; opened = λ some. stands.opened ∙ some })
      was.refused

  heads_told : (heads : List Entry) (was : Walked) → AreRead heads → Stands was
      → Told (fold (with_next manner) was heads)
  heads_told [] was read stands =
      record { follow = stands.follow; opened = λ some. stands.opened ∙ some }
  heads_told (head ∷ more) was read stands =
      ⊎_elim
      (λ all. heads_told more (with_next manner was head) read.2
      (one_stands was head stands read.0 all))
      (λ none. rw none (one_told was head stands read.0))
      read.1

  none_stands : (contact : Option Contact) → Stands (none_walked contact)
  unfolding has_open open_of
  none_stands contact = grind arith

  -- the events of heads follow one another
  pub walk_told : (contact : Option Contact) (heads : List Entry) → AreRead heads
      → Told (walked_of manner contact heads)
  unfolding walked_of
  walk_told contact heads read =
      heads_told heads (none_walked contact) read (none_stands contact)

  -- the events of a reading follow one another, and so does the end of an open transfer
  pub reading_told : (reading : Reading) → ReadingReads reading → Told (walked manner reading)
  reading_told reading reads = walk_told reading.contact (heads_of reading) reads.heads

  whole_stands : (heads : List Entry) (was : Walked) → AreWhole heads → Stands was
      → Stands (fold (with_next manner) was heads)
  whole_stands [] was whole stands = stands
  whole_stands (head ∷ more) was whole stands =
      whole_stands more (with_next manner was head) whole.1
      (one_stands was head stands (no_content head.content _ whole.0) whole.0)

  -- at the end of a stream whose heads have all of their data, no transfer is open
  pub closed_at_end : (contact : Option Contact) (heads : List Entry) → AreWhole heads
      → (let was = walked_of manner contact heads in
      has_open (was.events ++ end_events was.taken) ≡ false)
  unfolding walked_of
  closed_at_end contact heads whole =
      let was = walked_of manner contact heads in
      let stands = whole_stands heads (none_walked contact) whole (none_stands contact) in
      grind (arith, has_open-append, stands.opened)

pub end_follows : (walked : Walked) → Told walked
    → AllFollow walked.events (end_events walked.taken)
end_follows walked told = grind arith

-- ---- more data of a segment

bytes_grow : (last : Bool) (size : ℕ) (content piece : List ℕ) → length content < size
    → IsPrefixOf (data_events content ++ (if last && (not (size == 0) && (length content == size))
    then Whole ∷ [] else []))
    (data_events (content ++ piece) ++ (if last && (not (size == 0)
    && (length (content ++ piece) == size)) then Whole ∷ [] else []))
bytes_grow last size content piece short =
    let cut = ne_eqb (length content) size (λ same. absurd (omega arith)) in
    rw (
      and_right last _ (and_right (not (size == 0)) _ cut),
      append-nil (data_events content),
      map-append Data content piece,
      append_assoc,
    )
    (prefix_first _ _)

content_grows : (effect : Option Turn) (size : ℕ) (content piece : List ℕ) → length content < size
    → IsPrefixOf (content_events effect size content) (content_events effect size (content ++ piece))
content_grows None size content piece short = prefix_none _
content_grows (Some turn.Other) size content piece short = prefix_none _
content_grows (Some (turn.Begin abandoned last)) size content piece short =
    bytes_grow last size content piece short
content_grows (Some (turn.Continue last)) size content piece short =
    bytes_grow last size content piece short

module _ (manner : Manner) where
  -- ---- more heads

  abbrev pub WalkGrows : (before after : Walked) → Type 0
  WalkGrows before after = IsPrefixOf before.events after.events

  -- one more head, with this data or more
  module _ (was : Walked) (head : Entry) (piece : List ℕ) where
    abbrev longer : Entry
    longer = entry head.offset head.message (head.content ++ piece)

    abbrev BothGrow : (one other : Walked) → Type 0
    BothGrow one other =
        WalkGrows was one × (length head.content < data_length head.message → WalkGrows one other)

    taken_grows : BothGrow (taken_with manner was head) (taken_with manner was longer)
    taken_grows = search (content_grows, prefix_after, prefix_first)

    refused_grows : (goes : Bool) (refused : Option (ℕ × OrderFault))
        → BothGrow (if goes then taken_with manner was head else record was { refused = refused })
        (if goes then taken_with manner was longer else record was { refused = refused })
    refused_grows true refused = taken_grows
    refused_grows false refused = (prefix_same _ _ refl, λ short. prefix_same _ _ refl)

    next_grows : (stop : Option (ℕ × OrderFault)) (refused : Option OrderFault)
        → refusal was.taken (event_of head.message) ≡ refused
        → BothGrow (with_entry_unless stop manner was head)
        (with_entry_unless stop manner was longer)
    next_grows (Some stop) refused is = (prefix_same _ _ refl, λ short. prefix_same _ _ refl)
    next_grows None None is = rw is taken_grows
    next_grows None (Some fault) is = rw is (refused_grows manner.goes_on _)

  pub heads_grow : (heads : List Entry) (was : Walked) → WalkGrows was (fold (with_next manner) was heads)
  heads_grow [] was = prefix_same _ _ refl
  heads_grow (head ∷ more) was =
      prefix_trans _ _ _ (next_grows was head [] was.refused _ refl).0
      (heads_grow more (with_next manner was head))

  last_grows : (last more : List Entry) (was : Walked) → LastGoesOn last more
      → WalkGrows (fold (with_next manner) was last) (fold (with_next manner) was more)
  last_grows [] more was follows = heads_grow more was
  last_grows (head ∷ []) more was follows =
      rw follows.are
      (prefix_trans _ _ _ ((next_grows was head follows.piece was.refused _ refl).1 follows.short)
      (heads_grow follows.others _))
  last_grows (head ∷ second ∷ rest) more was follows = absurd follows

  -- ---- a stream

  reading_grows : (before after : Reading) → ReadingGoesOn before after
      → (before.contact ≡ None → cut_heads before.end ≡ [])
      → WalkGrows (walked manner before) (walked manner after)
  unfolding walked_of
  reading_grows before after on none =
      let next = with_next manner in
      let rest = on.messages.rest in
      let start = none_walked before.contact in
      let first = fold next start (before.entries ++ cut_heads before.end) in
      ⊎_elim
      (λ same.
      subst (WalkGrows first)
      (sym (ap (λ contact. fold next (none_walked contact) (heads_of after)) same
      ∙ ap (λ (s : Stream). fold next start (s.entries ++ cut_heads s.end)) on.messages.are
      ∙ ap (fold next start) (append_assoc before.entries rest.entries (cut_heads rest.end))
      ∙ fold-append next start before.entries (rest.entries ++ cut_heads rest.end)))
      (rw (fold-append next start before.entries (cut_heads before.end))
      (last_grows (cut_heads before.end) (rest.entries ++ cut_heads rest.end)
      (fold next start before.entries) on.messages.follows)))
      (λ unread. rw (unread.0, unread.1, none unread.0) (prefix_none _))
      on.contact

  -- what a stream tells begins what any longer stream tells
  pub events_grow : (bytes more : List ℕ)
      → WalkGrows (walked manner (reading_of bytes)) (walked manner (reading_of (bytes ++ more)))
  events_grow bytes more = grind (arith, reading_grows, reading_on, unread)

-- ---- what a tool says of them

-- what a tool says of some events begins what it says with one more event
abbrev pub EventAdds : Telling → Type 0
EventAdds telling =
    (before : List WalkEvent) (event : WalkEvent) → Follows before event
    → ArePrefixes (telling.texts before) (telling.texts (before ++ event ∷ []))

module _ (telling : Telling) (adds : EventAdds telling) where
  added : (before more : List WalkEvent) → AllFollow before more
      → ArePrefixes (telling.texts before) (telling.texts (before ++ more))
  added before [] follow = prefixes_same _ _ (ap telling.texts (sym (append-nil before)))
  added before (event ∷ more) follow =
      prefixes_trans _ _ _ (adds before event follow.0)
      (rw (← append_assoc before (event ∷ []) more)
      (added (before ++ event ∷ []) more follow.1))

  -- So its texts for some bytes begin those for more.
  pub told_prefix : (bytes more : List ℕ) → HasPrefixTexts (tool_of (told_of telling)) bytes more
  unfolding told_of
  told_prefix bytes more =
      let manner = telling.manner in
      let was = walked manner (reading_of bytes) in
      let after = walked manner (reading_of (bytes ++ more)) in
      let grows = events_grow manner bytes more in
      let told = reading_told manner (reading_of (bytes ++ more)) (reading_read (bytes ++ more)) in
      prefixed (told_of telling) bytes more (record {
        texts =
            rw grows.1
            (added was.events grows.0
            (follow_rest [] was.events grows.0 (rw grows.1 at told.follow)));
        ended = λ none. added after.events (end_events after.taken) (end_follows after told);
        stays = made_stays telling bytes more;
      })
