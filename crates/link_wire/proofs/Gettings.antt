-- Reading a part, and then what depends on its value.
use Rattle.std.proofs.Common.{◌≡◌, ◌≢◌, ◌+◌, ◌-◌, ◌≤◌, ℕ, Bool, true, false, List, [], ◌++◌, length, take, Result, Ok, Err, if◌then◌else◌, ap, ◌∙◌, subst, refl, append_assoc, length-append, slice_index, arith, ⊎_elim}
use mathlib.Core.Path.{fun_ext}
use Rattle.std.specs.Prelude.{IsErrAnd}
use Rattle.std.proofs.{lemmas.Bool.cases_lt, lemmas.List.take-append-le, Math.Seq.take-append-add}
use Rattle.byteorder.specs.Endian.{big_number}
use Rattle.link_io.specs.Device.{Input}
use Rattle.link_wire.specs.{Part.{Part, ◌>>=◌, bytes_at, number_at}, Message.skipped_at}
use Rattle.link_wire.proofs.Skips.{skipped_at-there, skipped_at-add}
use Rattle.link_io.specs.Source.{at_hand, IsLive}
use Rattle.link_io.proofs.Sources.{Takes-none, Takes-then, TakesThenStops-then}
use Rattle.link_wire.specs.Getting.{AreNeeded, IsPart, IsFaultOfNeededBytes, ReadsPart, with_value}
use Rattle.link_wire.specs.declared.fault.{WireFault.WireFault, WireFault.TheVariants.Truncated}
use Rattle.link_wire.specs.declared.halt.Halt.{Halt}
use Rattle.link_wire.specs.declared.halt.Halt.TheVariants as halt
use Rattle.link_io.specs.declared.source.Source.{Source}

-- ---- over lists

module _ {A B : Type 0} (part : List ℕ → Part A) (next : A × List ℕ → Part B) where
  -- bytes that a part needs are also needed if more is read after the part
  needs_exit : (bytes : List ℕ) → AreNeeded part bytes → AreNeeded (λ bytes. part bytes >>= next) bytes
  needs_exit bytes needs count fewer = ap (λ r. r >>= next) (needs count fewer)

  -- bytes that show a fault of a part also show it if more would be read after the part
  pub IsFaultOfNeededBytes-exit : (bytes : List ℕ) (fault : WireFault) → IsFaultOfNeededBytes part bytes fault
      → IsFaultOfNeededBytes (λ bytes. part bytes >>= next) bytes fault
  IsFaultOfNeededBytes-exit bytes fault is = record {
    is_fault = λ more may. ap (λ r. r >>= next) (is.is_fault more may);
    needs = needs_exit bytes is.needs;
  }

  module _ (value : A) (first second : List ℕ) (is : IsPart part first value) where
    part_then_more : (more : List ℕ)
        → part ((first ++ second) ++ more) >>= next ≡ next (value, second ++ more)
    part_then_more more = rw append_assoc (ap (λ r. r >>= next) (is.is_part (second ++ more)))

    needs_then : AreNeeded (λ bytes. next (value, bytes)) second
        → AreNeeded (λ bytes. part bytes >>= next) (first ++ second)
    needs_then needs count fewer =
        ⊎_elim
        (λ less.
        let begun : take count (first ++ second) ≡ take count first = take-append-le count first second (omega arith) in
        ap (λ bytes. part bytes >>= next) begun ∙ ap (λ r. r >>= next) (is.needs count less))
        (λ enough.
        let rest = count - length first in
        let parts : count ≡ length first + rest = omega arith in
        let begun : take count (first ++ second) ≡ first ++ take rest second = ap (λ n. take n (first ++ second)) parts ∙ take-append-add first second rest in
        ap (λ bytes. part bytes >>= next) begun ∙ ap (λ r. r >>= next) (is.is_part (take rest second)) ∙ needs rest (omega (arith, length-append first second)))
        (cases_lt count (length first))

    pub IsPart-then : (other : B) → IsPart (λ bytes. next (value, bytes)) second other
        → IsPart (λ bytes. part bytes >>= next) (first ++ second) other
    IsPart-then other more = record {
      is_part = λ rest. part_then_more rest ∙ more.is_part rest;
      needs = needs_then more.needs;
    }

    pub IsFaultOfNeededBytes-then : (fault : WireFault) → IsFaultOfNeededBytes (λ bytes. next (value, bytes)) second fault
        → IsFaultOfNeededBytes (λ bytes. part bytes >>= next) (first ++ second) fault
    IsFaultOfNeededBytes-then fault more = record {
      is_fault = λ rest may. part_then_more rest ∙ more.is_fault rest may;
      needs = needs_then more.needs;
    }

    pub cut_then : next (value, second) ≡ Err Truncated
        → part (first ++ second) >>= next ≡ Err Truncated
    cut_then is_cut = ap (λ r. r >>= next) (is.is_part second) ∙ is_cut

-- ---- over sources

module _ {R A B : Type 0} {look : R → Input} {part : List ℕ → Part A}
    (next : A × List ℕ → Part B) where
  -- the part was not read, so nothing after it was read
  pub exit : {old new : Source R} {stop : Halt} → ReadsPart look part old new (Err stop)
      → ReadsPart look (λ bytes. part bytes >>= next) old new (Err stop)
  exit {stop = halt.Wire fault} met = record {
    by = record {
      given = met.by.given;
      takes = met.by.takes;
      is = IsFaultOfNeededBytes-exit part next met.by.given fault met.by.is;
      over = met.by.over;
    };
    here = λ enough. met.here (λ cut. enough (ap (λ r. r >>= next) cut));
  }
  exit {stop = halt.Io fault} met = record {
    by = record {
      given = met.by.given;
      stops = met.by.stops;
      is_cut = ap (λ r. r >>= next) met.by.is_cut;
    };
    here = λ enough. met.here (λ cut. enough (ap (λ r. r >>= next) cut));
  }

  -- the part was read, and then what depends on its value
  pub after : {old mid new : Source R} {value : A} {outcome : Result B Halt}
      → ReadsPart look part old mid (Ok value) → ReadsPart look (λ bytes. next (value, bytes)) mid new outcome
      → ReadsPart look (λ bytes. part bytes >>= next) old new outcome
  after {old} {mid} {new} {value} {outcome = Ok result} got more = record {
    by = record {
      given = got.by.given ++ more.by.given;
      takes = Takes-then look old mid new got.by.given more.by.given got.by.takes more.by.takes;
      live = more.by.live;
      is = IsPart-then part next value got.by.given more.by.given got.by.is result more.by.is;
    };
    here = λ enough.
        let one = got.here (λ cut. enough (ap (λ r. r >>= next) cut)) in
        let whole : part (at_hand look old) >>= next ≡ next (value, at_hand look mid) =
        ap (λ (r : Part A). r >>= next) one.1 in
        let two = more.here (λ cut. enough (whole ∙ cut)) in
        (two.0 ∙ one.0, whole ∙ two.1);
  }
  after {old} {mid} {new} {value} {outcome = Err (halt.Wire fault)} got more = record {
    by = record {
      given = got.by.given ++ more.by.given;
      takes = Takes-then look old mid new got.by.given more.by.given got.by.takes more.by.takes;
      is = IsFaultOfNeededBytes-then part next value got.by.given more.by.given got.by.is fault more.by.is;
      over = more.by.over;
    };
    here = λ enough.
        let one = got.here (λ cut. enough (ap (λ r. r >>= next) cut)) in
        let whole : part (at_hand look old) >>= next ≡ next (value, at_hand look mid) =
        ap (λ (r : Part A). r >>= next) one.1 in
        more.here (λ cut. enough (whole ∙ cut)) ∙ one.0;
  }
  after {old} {mid} {new} {value} {outcome = Err (halt.Io fault)} got more = record {
    by = record {
      given = got.by.given ++ more.by.given;
      stops = TakesThenStops-then look old mid new got.by.given more.by.given fault got.by.takes more.by.stops;
      is_cut = cut_then part next value got.by.given more.by.given got.by.is more.by.is_cut;
    };
    here = λ enough.
        let one = got.here (λ cut. enough (ap (λ r. r >>= next) cut)) in
        let whole : part (at_hand look old) >>= next ≡ next (value, at_hand look mid) =
        ap (λ (r : Part A). r >>= next) one.1 in
        more.here (λ cut. enough (whole ∙ cut)) ∙ one.0;
  }

module _ {R A : Type 0} {look : R → Input} where
  -- the source is live after a part was read
  pub is_live : {part : List ℕ → Part A} {old new : Source R} {value : A}
      → ReadsPart look part old new (Ok value) → IsLive look new
  is_live got = got.by.live

  -- a part that is defined in another way
  pub same_part : {part other : List ℕ → Part A} {old new : Source R} {outcome : Result A Halt}
      → ((bytes : List ℕ) → part bytes ≡ other bytes) → ReadsPart look part old new outcome
      → ReadsPart look other old new outcome
  same_part {old} {new} {outcome} same got =
      let P : (List ℕ → Part A) → Type 0 = λ p. ReadsPart look p old new outcome in
      subst P (fun_ext same) got

  -- a `?` that returns its error
  pub exiting : {part : List ℕ → Part A} {old new : Source R} {stop : Halt}
      (outcome : Result A Halt) → IsErrAnd outcome (λ e. e ≡ stop)
      → ReadsPart look part old new (Err stop) → ReadsPart look part old new outcome
  exiting (Ok value) is met = absurd is
  exiting (Err e) is met = rw is met

  -- a `?` that returns its error, in a function that leaves the value with its caller
  pub leaving : {part : List ℕ → Part A} {old new : Source R} {stop : Halt} (value : A)
      (outcome : Result (Unit {0}) Halt) → IsErrAnd outcome (λ e. e ≡ stop)
      → ReadsPart look part old new (Err stop) → ReadsPart look part old new (with_value value outcome)
  leaving value (Ok done) is met = absurd is
  leaving value (Err e) is met = rw is met

  -- a value that needs no byte
  pub pure : {source : Source R} {value : A} → IsLive look source
      → ReadsPart look (λ bytes. Ok (value, bytes)) source source (Ok value)
  pure {source} live = record {
    by = record { given = []; takes = Takes-none look source; live = live; is = record { is_part = λ more. refl; needs = λ count fewer. absurd (omega arith) } };
    here = λ enough. (refl, refl);
  }

  -- a fault that needs no byte: what was read before breaks a rule
  pub refuse : {source : Source R} {fault : WireFault} → fault ≢ Truncated
      → ReadsPart look (λ bytes. let outcome : Part A = Err fault in
      outcome) source source (Err (halt.Wire fault))
  refuse {source} not = record {
    by = record {
      given = [];
      takes = Takes-none look source;
      is = record { is_fault = λ more may. refl; needs = λ count fewer. absurd (omega arith) };
      over = λ is. absurd (not is);
    };
    here = λ enough. refl;
  }

  -- what was read before decides which part comes
  module _ (part other : List ℕ → Part A) {old new : Source R} {test : Bool}
      {outcome : Result A Halt} where
    pub if_true : test ≡ true → ReadsPart look part old new outcome
        → ReadsPart look (λ bytes. if test then part bytes else other bytes) old new outcome
    if_true is h = rw is h

    pub if_false : test ≡ false → ReadsPart look other old new outcome
        → ReadsPart look (λ bytes. if test then part bytes else other bytes) old new outcome
    if_false is h = rw is h

-- ---- a function that reads part after part, from a live source

module _ {R A B : Type 0} {look : R → Input} {part : List ℕ → Part A}
    (next : A × List ℕ → Part B) {old new : Source R} where
  pub step : {mid : Source R} {value : A} {outcome : Result B Halt}
      → (IsLive look old → ReadsPart look part old mid (Ok value))
      → (IsLive look mid → ReadsPart look (λ bytes. next (value, bytes)) mid new outcome)
      → IsLive look old → ReadsPart look (λ bytes. part bytes >>= next) old new outcome
  step got more live = let here = got live in after next here (more (is_live here))

  pub stop_in : {stop : Halt} → (IsLive look old → ReadsPart look part old new (Err stop))
      → IsLive look old → ReadsPart look (λ bytes. part bytes >>= next) old new (Err stop)
  stop_in met live = exit next (met live)

module _ {R A : Type 0} {look : R → Input} {part : List ℕ → Part A} {old new : Source R}
    {stop : Halt} where
  pub leave : (value : A) (outcome : Result (Unit {0}) Halt) → IsErrAnd outcome (λ e. e ≡ stop)
      → (IsLive look old → ReadsPart look part old new (Err stop))
      → IsLive look old → ReadsPart look part old new (with_value value outcome)
  leave value outcome is met live = leaving value outcome is (met live)

module _ {R : Type 0} {look : R → Input} {old new : Source R} where
  -- a number is read from the bytes of its field
  pub number_read : (n : ℕ) (field : List ℕ) → ReadsPart look (bytes_at n) old new (Ok field)
      → ReadsPart look (number_at n) old new (Ok (big_number n field))
  unfolding number_at
  number_read n field got = after _ got (pure (is_live got))

  pub byte_read : (field : List ℕ) → ReadsPart look (bytes_at 1) old new (Ok field)
      → ReadsPart look (number_at 1) old new (Ok (slice_index field 0))
  byte_read field got =
      let same : big_number 1 field ≡ slice_index field 0 = omega arith in
      rw (← same) (number_read 1 field got)

  pub number_exit : (n : ℕ) {stop : Halt} → ReadsPart look (bytes_at n) old new (Err stop)
      → ReadsPart look (number_at n) old new (Err stop)
  unfolding number_at
  number_exit n got = exit _ got

module _ {R : Type 0} {look : R → Input} where
  -- no bytes are skipped
  pub skip_none : {source : Source R} → IsLive look source
      → ReadsPart look (skipped_at 0) source source (Ok tt)
  skip_none {source} live = record {
    by = record {
      given = [];
      takes = Takes-none look source;
      live = live;
      is = record { is_part = λ more. skipped_at-there 0 more (omega arith); needs = λ count fewer. absurd (omega arith) };
    };
    here = λ enough. (refl, skipped_at-there 0 (at_hand look source) (omega arith));
  }

  module _ {old mid new : Source R} (a b : ℕ) where
    pub skip_more : (n : ℕ) {piece : List ℕ} → a + b ≡ n → ReadsPart look (skipped_at a) old mid (Ok tt)
        → ReadsPart look (bytes_at b) mid new (Ok piece) → ReadsPart look (skipped_at n) old new (Ok tt)
    unfolding skipped_at
    skip_more n is passed piece = rw (← is) (same_part (skipped_at-add a b) (after _ passed (after _ piece (pure (is_live piece)))))

    pub skip_exit : (n : ℕ) {stop : Halt} → a + b ≤ n → ReadsPart look (skipped_at a) old mid (Ok tt)
        → ReadsPart look (bytes_at b) mid new (Err stop) → ReadsPart look (skipped_at n) old new (Err stop)
    unfolding skipped_at
    skip_exit n within passed met =
        let parts : a + (b + (n - (a + b))) ≡ n = omega arith in
        rw (← parts) (same_part (skipped_at-add a (b + (n - (a + b)))) (after _ passed (same_part (skipped_at-add b (n - (a + b))) (exit _ (exit _ met)))))
