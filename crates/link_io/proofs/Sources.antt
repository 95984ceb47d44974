-- The bytes of successive calls of a source, joined, are the bytes given by all these calls.
use Rattle.std.proofs.Common.{⊎_elim, ◌≡◌, ℕ, ◌+◌, ◌-◌, ◌^◌, ◌<◌, ◌≤◌, nat_lt, List, [], ◌∷◌, ◌++◌, length, take, drop, Option, Some, None, ap, sym, ◌∙◌, true, false, eqb, eqb-true, length-append, append_assoc, append-nil, add-zero, refl, arith, length-take, length-drop, take-append-drop}
use Rattle.std.specs.Io.KnownBytes.{Consumes, prepend_known}
use Rattle.std.proofs.KnownBytes.{Consumes-nil, Consumes-trans}
use Rattle.std.proofs.{lemmas.List.Elements.{All-nil, All-append}, Math.Seq.{take-add, take-take}}
use Rattle.std.proofs.lemmas.{Bool.{and_parts, cases_lt, Decides.nat_tests}, List.nil_from_length}
use Rattle.std.proofs.lemmas.Grind.{common_steps}
use Rattle.link_io.specs.{Bytes.IsByte, Device.Input, Limits.{longest_input, window_size}}
use Rattle.link_io.specs.Source.{is_open, is_fresh, IsSourceAt, IsLiveBy, IsLive, HasEnded, HasFailed, IsOver, given_by, taken_by, window_of, held_from, at_hand, front_of, ahead, reach, GivesAtHand, KeepsWindowOrMakesRoom, Takes, Readies, TakesThenStops}
use Rattle.link_io.specs.declared.fault.IoFault.{IoFault}
use Rattle.link_io.proofs.Windows.{range_none}
use Rattle.link_io.specs.declared.source.Flow.{Flow}
use Rattle.link_io.specs.declared.source.Flow.TheVariants as flow
use Rattle.link_io.specs.declared.source.Source.{Source}

-- the first bytes of a window are the next bytes ahead
pub Consumes-window : (window : List ℕ) (left : Option (List ℕ)) (n : ℕ)
    → Consumes (prepend_known window left) (prepend_known (drop n window) left) (take n window)
Consumes-window window None n = tt
Consumes-window window (Some xs) n = ap (λ w. w ++ xs) (sym (take-append-drop n window)) ∙ append_assoc (take n window) (drop n window) xs

-- with an empty window, the bytes ahead are those that the reader has left
pub Consumes-empty : (old new : Option (List ℕ)) (bytes : List ℕ) → Consumes old new bytes
    → Consumes (prepend_known [] old) new bytes
Consumes-empty None new bytes read = tt
Consumes-empty (Some xs) new bytes read = read

live_open : (now : Flow) (left : Option (List ℕ)) (start end : ℕ) → is_open now ≡ true
    → IsLiveBy now left start end
live_open now left start end is = grind arith

-- the first `count` bytes of what a reader holds, if the source may give them
pub record HeldPart (now : Flow) (most : ℕ) (held : List ℕ) (count : ℕ) : Type 0 where
  pub same : take count (held_from now most held) ≡ take count held
  pub here : count ≤ length held
  pub room : count ≤ most
  pub live : (left : Option (List ℕ)) (start end : ℕ) → IsLiveBy now left start end

pub held_part : (now : Flow) (most : ℕ) (held : List ℕ) (count : ℕ) → 0 < count
    → count ≤ length (held_from now most held) → HeldPart now most held count
held_part flow.Open most held count some within =
    let parts = length-take most held in
    record {
      same = take-take count most held (omega (arith, parts, within));
      here = omega (arith, parts, within);
      room = omega (arith, parts, within);
      live = λ left start end. tt;
    }
held_part now most held count some within = absurd (omega (arith, some, within))

-- if the source may give some of what is held, it may give it up to the limit
pub held_some : (now : Flow) (most : ℕ) (held : List ℕ) → 0 < length (held_from now most held)
    → held_from now most held ≡ take most held
held_some flow.Open most held some = refl
held_some now most held some = absurd (omega (arith, some))

-- an open source may give what is held, up to the limit
pub held_open : (now : Flow) (most : ℕ) (held : List ℕ) → now ≡ flow.Open
    → held_from now most held ≡ take most held
held_open now most held is = rw is

-- a source that has ended or failed gives nothing more
pub held_closed : (now : Flow) (most : ℕ) (held : List ℕ) → (now ≡ flow.Open → ⊥)
    → held_from now most held ≡ []
held_closed now most held closed = grind arith

none_held : (now : Flow) (most : ℕ) → held_from now most [] ≡ []
none_held now most = grind (arith, common_steps)

held_room : (now : Flow) (most : ℕ) (held : List ℕ) → length (held_from now most held) ≤ most
held_room now most held = grind (arith, length-take {A = ℕ})

-- bytes that come after an empty window
pub Consumes-behind : (old new : Option (List ℕ)) (bytes : List ℕ) → Consumes old new bytes
    → Consumes (prepend_known [] old) (prepend_known [] new) bytes
Consumes-behind None new bytes read = tt
Consumes-behind (Some xs) None bytes read = absurd read
Consumes-behind (Some xs) (Some ys) bytes read = read

-- bytes that are taken into an empty window are not given
pub Consumes-into : (old new : Option (List ℕ)) (bytes : List ℕ) → Consumes old new bytes
    → Consumes (prepend_known [] old) (prepend_known bytes new) []
Consumes-into None new bytes read = tt
Consumes-into (Some xs) None bytes read = absurd read
Consumes-into (Some xs) (Some ys) bytes read = read

module _ {R : Type 0} (look : R → Input) (s : Source R) where
  -- a window that is not empty is all that is at hand
  pub front_open : s.start < s.end → front_of look s ≡ window_of s
  unfolding front_of
  front_open some =
      let full : nat_lt s.start s.end ≡ true = grind (arith, nat_tests, some) in
      rw full refl

  pub front_window : 0 < length (window_of s) → front_of look s ≡ window_of s
  front_window some = front_open (omega (arith, some, length-take (s.end - s.start) (drop s.start s.window)))

  -- with an empty window, what the reader holds is at hand
  pub front_held : s.end ≤ s.start
      → front_of look s ≡ held_from s.flow (longest_input - s.given) (look s.reader).held
  unfolding front_of
  front_held none =
      let empty : nat_lt s.start s.end ≡ false = grind (arith, nat_tests, none) in
      rw empty refl

  -- the first bytes at hand are those that the reader holds
  pub held_first : (size : ℕ) → s.start ≡ s.end → 0 < size → size ≤ length (front_of look s)
      → HeldPart s.flow (longest_input - s.given) (look s.reader).held size
  held_first size empty some within =
      held_part s.flow _ _ size some (rw (front_held (omega (arith, empty))) at within)

  -- nothing is at hand if the window is empty and the reader holds nothing
  pub front_none : s.end ≤ s.start → (look s.reader).held ≡ [] → front_of look s ≡ []
  front_none none held = front_held none ∙ rw held (none_held s.flow (longest_input - s.given))

  pub nothing_ahead : length (window_of s) ≡ 0 → (look s.reader).held ≡ [] → front_of look s ≡ []
  nothing_ahead none held =
      ⊎_elim
      (λ some. front_open some ∙ nil_from_length (window_of s) none)
      (λ less. front_none less held)
      (cases_lt s.start s.end)

  -- all bytes at hand are within the limit
  pub front_room : s.given + length (front_of look s) < 2 ^ 63
  front_room =
      let within = s.within in
      ⊎_elim
      (λ some. omega (arith, within, ap length (front_open some), length-take (s.end - s.start) (drop s.start s.window)))
      (λ less. omega (arith, within, ap length (front_held less), held_room s.flow (longest_input - s.given) (look s.reader).held))
      (cases_lt s.start s.end)

  pub none_ahead : length (front_of look s) ≡ 0 → length (window_of s) ≡ 0
  none_ahead none =
      ⊎_elim
      (λ less. omega arith)
      (λ some. absurd (omega (arith, none, ap length (front_window some))))
      (cases_lt (length (window_of s)) 1)

  -- if nothing is at hand, the window is empty
  pub front_empty : s.start ≤ s.end → s.end ≤ length s.window → length (front_of look s) ≡ 0
      → s.start ≡ s.end
  front_empty ordered room none =
      ⊎_elim
      (λ some. absurd (omega (arith, none, some, ordered, room, ap length (front_open some), length-take (s.end - s.start) (drop s.start s.window), length-drop s.start s.window)))
      (λ less. omega (arith, less, ordered))
      (cases_lt s.start s.end)

  -- after the end or a fault, nothing is at hand
  pub front_ended : HasEnded s → front_of look s ≡ []
  front_ended ended =
      front_held (omega (arith, ended.1)) ∙ held_closed s.flow _ _ (λ still. let never = sym ended.0 ∙ still in absurd (cc))

  pub front_failed : (fault : IoFault) → HasFailed s fault → front_of look s ≡ []
  front_failed fault failed =
      front_held (omega (arith, failed.1)) ∙ held_closed s.flow _ _ (λ still. let never = sym failed.0 ∙ still in absurd (cc))

-- ---- the bytes at hand

-- of the bytes at hand, `count` come from what the reader holds
held_split : (now : Flow) (most : ℕ) (held : List ℕ) (count : ℕ) → 0 < count
    → count ≤ length (held_from now most held)
    → held_from now most held ≡ take count held ++ held_from now (most - count) (drop count held)
held_split flow.Open most held count some within =
    let parts : most ≡ count + (most - count) = omega (arith, length-take most held, within) in
    ap (λ n. take n held) parts ∙ take-add count (most - count) held
held_split now most held count some within = absurd (omega (arith, some, within))

module _ {R : Type 0} (look : R → Input) where
  pub gives_none : (s : Source R) → GivesAtHand look s s []
  gives_none s = record { unread = refl; parts = refl }

  pub gives_then : (old mid new : Source R) (xs ys : List ℕ) → GivesAtHand look old mid xs
      → GivesAtHand look mid new ys → GivesAtHand look old new (xs ++ ys)
  gives_then old mid new xs ys p q = record {
    unread = q.unread ∙ p.unread;
    parts = p.parts ∙ ap (λ (more : List ℕ). xs ++ more) q.parts
        ∙ sym (append_assoc xs ys (at_hand look new));
  }

  -- with an empty window, the front is all that is at hand
  hand_held : (s : Source R) → s.start ≡ s.end
      → at_hand look s ≡ held_from s.flow (longest_input - s.given) (look s.reader).held
  hand_held s empty =
      let taken : s.given + (s.end - s.start) ≡ s.given = omega (arith, empty) in
      rw (range_none s.window s.start s.end empty, taken) refl

  pub hand_front : (s : Source R) → s.start ≡ s.end → at_hand look s ≡ front_of look s
  hand_front s empty =
      hand_held s empty ∙ sym (front_held look s (omega (arith, empty)))

  -- some bytes are at hand if the front has some
  pub hand_some : (s : Source R) → s.start ≤ s.end → 0 < length (front_of look s)
      → 0 < length (at_hand look s)
  hand_some s ordered some =
      ⊎_elim
      (λ full. omega (
        arith,
        some,
        ap length (front_open look s full),
        length-append (window_of s)
            (held_from s.flow (longest_input - taken_by s) (look s.reader).held),
      ))
      (λ less. let empty : s.start ≡ s.end = omega (arith, less, ordered) in
      rw (← hand_front s empty) at some)
      (cases_lt s.start s.end)

  -- what the reader holds was taken into an empty window
  pub taken_held : (old new : Source R) (count : ℕ) → old.start ≡ old.end → 0 < count
      → count ≤ length (front_of look old) → new.start ≡ 0 → new.end ≡ count
      → new.given ≡ old.given → new.flow ≡ old.flow
      → window_of new ≡ take count (look old.reader).held
      → (look new.reader).held ≡ drop count (look old.reader).held → GivesAtHand look old new []
  taken_held old new count empty some within starts ends given flow window held =
      let most = longest_input - old.given in
      let all = (look old.reader).held in
      let within_held : count ≤ length (held_from old.flow most all) =
      rw (front_held look old (omega (arith, empty))) at within in
      let part = held_first look old count empty some within in
      let rest : most - count ≡ longest_input - (new.given + (new.end - new.start)) =
      omega (arith, starts, ends, given) in
      record {
        unread = rw (flow, window, held, range_none old.window old.start old.end empty)
            (ap (λ (n : ℕ). (n, old.flow))
            (omega (arith, given, part.here, length-take count all, length-drop count all)));
        parts = hand_held old empty ∙ held_split old.flow most all count some within_held
            ∙ rw (window, held, flow, ← rest) refl;
      }

module _ {R : Type 0} (s : Source R) (fresh : is_fresh s ≡ true) where
  -- a fresh source has given nothing
  pub fresh_at : IsSourceAt s []
  fresh_at = record {
    bytes = All-nil IsByte;
    given = eqb-true s.given 0 (and_parts (eqb s.given 0) _ fresh).0;
  }

module _ {R : Type 0} (s : Source R) where
  -- after the end the window is empty
  pub ended_window : HasEnded s → length (window_of s) ≡ 0
  ended_window ended = ap length (range_none s.window s.start s.end ended.1)

module _ {R : Type 0} (look : R → Input) (s : Source R) (fresh : is_fresh s ≡ true) where
  -- more bytes may come from a fresh source
  pub fresh_live : IsLive look s
  fresh_live =
      let rest = (and_parts (eqb s.given 0) _ fresh).1 in
      live_open s.flow (look s.reader).left s.start s.end (and_parts (is_open s.flow) _ rest).0

-- a window that keeps its bytes, if it has some, and is empty afterwards was empty before
same_if_emptied : (old new : List ℕ) → (0 < length old → new ≡ old) → new ≡ [] → new ≡ old
same_if_emptied old new kept none = grind (arith, nil_from_length old)

drop_none : (n : ℕ) (xs : List ℕ) → length (take n xs) ≡ 0 → drop n xs ≡ xs
drop_none n xs none = grind (arith, nil_from_length (take n xs), take-append-drop n xs)

drop_less : (n bound : ℕ) (xs : List ℕ) → length xs ≤ bound → 0 < length (take n xs)
    → length (drop n xs) < bound
drop_less n bound xs room some = omega (arith, length-take n xs, length-drop n xs)

module _ {R : Type 0} where
  -- the window after its first `n` bytes were given
  pub KeepsWindowOrMakesRoom-drop : (old new : Source R) (n : ℕ) → window_of new ≡ drop n (window_of old)
      → length (window_of old) ≤ window_size → KeepsWindowOrMakesRoom old new (take n (window_of old))
  KeepsWindowOrMakesRoom-drop old new n rest room = record {
    kept = λ none. rest ∙ drop_none n (window_of old) none;
    less = λ some. rw rest (drop_less n window_size (window_of old) room some);
  }

  pub KeepsWindowOrMakesRoom-none : (s : Source R) → KeepsWindowOrMakesRoom s s []
  KeepsWindowOrMakesRoom-none s = record { kept = λ none. refl; less = λ some. absurd (omega arith) }

  less_then : (old mid new : Source R) (xs ys : List ℕ) → KeepsWindowOrMakesRoom old mid xs
      → KeepsWindowOrMakesRoom mid new ys → 0 < length (xs ++ ys) → length (window_of new) < window_size
  less_then old mid new xs [] p q some = rw (q.kept refl) (p.less (rw append-nil at some))
  less_then old mid new xs (y ∷ ys) p q some = q.less (omega arith)

  KeepsWindowOrMakesRoom-then : (old mid new : Source R) (xs ys : List ℕ) → KeepsWindowOrMakesRoom old mid xs
      → KeepsWindowOrMakesRoom mid new ys → KeepsWindowOrMakesRoom old new (xs ++ ys)
  KeepsWindowOrMakesRoom-then old mid new xs ys p q = record {
    kept = λ none. q.kept (omega (arith, length-append xs ys)) ∙ p.kept (omega (arith, length-append xs ys));
    less = less_then old mid new xs ys p q;
  }

module _ {R : Type 0} (look : R → Input) where
  pub Takes-none : (s : Source R) → Takes look s s []
  Takes-none s = record {
    bytes_fit = All-nil IsByte;
    next = Consumes-nil (ahead look s);
    count = sym (add-zero (given_by s));
    device = refl;
    window = KeepsWindowOrMakesRoom-none s;
  }

  pub Takes-then : (old mid new : Source R) (xs ys : List ℕ) → Takes look old mid xs
      → Takes look mid new ys → Takes look old new (xs ++ ys)
  Takes-then old mid new xs ys p q = record {
    bytes_fit = All-append IsByte xs ys p.bytes_fit q.bytes_fit;
    next = Consumes-trans (ahead look old) (ahead look mid) (ahead look new) xs ys p.next q.next;
    count = omega (arith, p.count, q.count, length-append xs ys);
    device = q.device ∙ p.device;
    window = KeepsWindowOrMakesRoom-then old mid new xs ys p.window q.window;
  }

  -- nothing was read
  pub Readies-none : (s : Source R) → Readies look s s
  Readies-none s = record {
    next = Consumes-nil (ahead look s);
    count = refl;
    device = refl;
    kept = λ some. refl;
  }

  -- the window was made ready, and then some of its bytes were given
  pub Readies-takes : (old mid new : Source R) (bytes : List ℕ) → Readies look old mid
      → Takes look mid new bytes → 0 < length bytes → Takes look old new bytes
  Readies-takes old mid new bytes p q some = record {
    bytes_fit = q.bytes_fit;
    next = Consumes-trans (ahead look old) (ahead look mid) (ahead look new) [] bytes p.next q.next;
    count = q.count ∙ ap (λ n. n + length bytes) p.count;
    device = q.device ∙ p.device;
    window = record { kept = λ none. absurd (omega arith); less = q.window.less };
  }

  -- no byte could be made ready, because the input is over
  pub Readies-over : (old new : Source R) → Readies look old new
      → IsOver look new → Takes look old new []
  Readies-over old new p over = record {
    bytes_fit = All-nil IsByte;
    next = p.next;
    count = p.count ∙ sym (add-zero (given_by old));
    device = p.device;
    window = record {
      kept = λ none. same_if_emptied (window_of old) (window_of new) p.kept (range_none new.window new.start new.end over.ended.1);
      less = λ some. absurd (omega arith);
    };
  }

  pub TakesThenStops-then : (old mid new : Source R) (xs ys : List ℕ) (fault : IoFault)
      → Takes look old mid xs → TakesThenStops look mid new ys fault
      → TakesThenStops look old new (xs ++ ys) fault
  TakesThenStops-then old mid new xs ys fault p q = record {
    bytes_fit = All-append IsByte xs ys p.bytes_fit q.bytes_fit;
    past = q.past;
    next = rw append_assoc (Consumes-trans (ahead look old) (ahead look mid) (look new.reader).left xs (ys ++ q.past) p.next q.next);
    count = omega (arith, p.count, q.count, length-append xs ys);
    cause = q.cause;
    device = λ is. q.device is ∙ p.device;
    failed = q.failed;
  }

  -- a history grows by the bytes that are given
  pub IsSourceAt-then : (old new : Source R) (history bytes : List ℕ) → Takes look old new bytes
      → IsSourceAt old history → IsSourceAt new (history ++ bytes)
  IsSourceAt-then old new history bytes p at = record {
    bytes = All-append IsByte history bytes at.bytes p.bytes_fit;
    given = p.count ∙ ap (λ n. n + length bytes) at.given ∙ sym (length-append history bytes);
  }
