-- A walk in which `clap` finds nothing wrong does not stop at the name `help`.
use Rattle.std.proofs.Common.{◌≡◌, ℕ, Bool, true, false, true≢false, cond, List, [], ◌∷◌, Option, Some, None, ⊎_elim, codes, refl, sym}
use Rattle.std.proofs.lemmas.Bool.{cases_Bool, Decides.{Decides-like, same_from_decides}}
use Rattle.std.proofs.lemmas.Slice.Eq.{bytes_eq-Decides}
use Rattle.std.specs.{Prelude.{◌&&◌, ⊤, fold, is_some, not}, Str.bytes_eq}
use Rattle.clap.specs.{Words.{Kinds, Rule, Shape, Text}, Lexer.{long_of, short_of}}
use Rattle.clap.specs.Walk.{Held, Names, Outcome, Step, Waiting, Walk, after_flag, after_step, answers_to, arg_by_index, arg_by_long, bundle, done, long_met, long_or_other, next, option, plain_word, short_or_plain, subcommand, subcommand_met, subcommand_or_other, to_positional, trailing, value, waits, walked, walked_from, word_met}
use Rattle.clap.specs.Kinds.{or_else}
use Rattle.clap.specs.Faults.{other_fault, step_fault, turn_fault, walk_fault, word_fault}
use Rattle.clap.specs.declared.error.kind.ErrorKind.TheVariants.{DisplayHelp, InvalidSubcommand}

-- If nothing is wrong in two steps, nothing is in the first ..
pub first_empty : (a b : Kinds) → or_else a b ≡ [] → a ≡ []
first_empty [] b none = refl
first_empty (k ∷ ks) b none = none

-- .. nor in the second.
second_empty : (a b : Kinds) → or_else a b ≡ [] → b ≡ []
second_empty [] b none = none
second_empty (k ∷ ks) b none = cc

-- If the step enters a subcommand, its name is not `help`.
abbrev EntersNoHelp : Step → Type 0
EntersNoHelp (subcommand name) = bytes_eq name (codes "help") ≡ false
EntersNoHelp _ = ⊤

-- If a walk stopped at the name of a subcommand, it is not `help`.
abbrev pub StopsElsewhere : (stop : Option (Text × List Text)) → Type 0
StopsElsewhere None = ⊤
StopsElsewhere (Some p) = bytes_eq p.0 (codes "help") ≡ false

-- ---- a word that names no subcommand enters none

-- a word that is not read as a flag
plain_step : (c : List Rule) (waiting : Waiting) (word : Text) (h : Held)
    → EntersNoHelp (plain_word c waiting word h).1
plain_step c (option id) word h = tt
plain_step c _ word h = tt

-- a flag word, whatever it comes to
flag_step : (c : List Rule) (waiting : Waiting) (word : Text) (h : Held) (outcome : Outcome)
    → EntersNoHelp (after_flag c waiting word h outcome).1
flag_step c waiting word h done = tt
flag_step c waiting word h (waits id) = tt
flag_step c waiting word h _ = plain_step c waiting word h

-- a word that begins with one hyphen, or with none
short_step : (c : List Rule) (waiting : Waiting) (word : Text) (flags : Option Text) (h : Held)
    → EntersNoHelp (short_or_plain c waiting word flags h).1
short_step c waiting word None h = plain_step c waiting word h
short_step c waiting word (Some flags) h = flag_step c waiting word (bundle c flags h).0 (bundle c flags h).1

-- a word that begins with two hyphens, or another
long_step : (c : List Rule) (waiting : Waiting) (word : Text)
    (flag : Option (Text × Option Text)) (h : Held)
    → EntersNoHelp (long_or_other c waiting word flag h).1
long_step c waiting word None h = short_step c waiting word (short_of word) h
long_step c waiting word (Some p) h = flag_step c waiting word (long_met c (arg_by_long c p.0) p.1 h).0 (long_met c (arg_by_long c p.0) p.1 h).1

-- ---- a word in which nothing is wrong does not name `help`

-- The name `help` is a fault where the subcommand of that name is not disabled.
help_is_a_fault : (is_help disabled : Bool) → disabled ≡ false
    → cond (is_help && not disabled) (DisplayHelp ∷ InvalidSubcommand ∷ []) [] ≡ []
    → is_help ≡ false
help_is_a_fault false disabled enabled none = refl
help_is_a_fault true true enabled none = absurd (true≢false enabled)
help_is_a_fault true false enabled none = cc

-- a word before `--`, by the subcommand that it names
other_step : (s : Shape) (met : Option Text) (waiting : Waiting) (at : ℕ) (word : Text) (h : Held)
    → s.disable_help_subcommand ≡ false → other_fault s met word h ≡ []
    → EntersNoHelp (subcommand_or_other s.rules met waiting at word h).1
other_step s (Some name) waiting at word h enabled none = help_is_a_fault (bytes_eq name (codes "help")) s.disable_help_subcommand enabled none
other_step s None waiting at word h enabled none =
    ⊎_elim (λ end. rw end tt) (λ other. rw other (long_step s.rules waiting word (long_of word) h))
    (cases_Bool (bytes_eq word (45 ∷ 45 ∷ [])))

-- any word
word_step : (s : Shape) (names : Names) (is_trailing : Bool) (waiting : Waiting) (at : ℕ)
    (word : Text) (h : Held) → s.disable_help_subcommand ≡ false
    → word_fault s names is_trailing waiting word h ≡ []
    → EntersNoHelp (word_met s.rules names is_trailing waiting at word h).1
word_step s names true waiting at word h enabled none = tt
word_step s names false waiting at word h enabled none = other_step s (subcommand_met names waiting word) waiting at word h enabled none

-- ---- the walk

-- A word for a positional stops no walk.
positional_stops : (c : List Rule) (found : Option Rule) (word : Text) (w : Walk) (h : Held)
    → StopsElsewhere w.stopped → StopsElsewhere (to_positional c found word w h).stopped
positional_stops c None word w h before = before
positional_stops c (Some rule) word w h before = tt

-- A step that does not enter `help` does not stop the walk there.
step_stops : (c : List Rule) (word : Text) (w : Walk) (h : Held) (step : Step)
    → StopsElsewhere w.stopped → EntersNoHelp step
    → StopsElsewhere (after_step c word w h step).stopped
step_stops c word w h (next waiting) before passes = before
step_stops c word w h (trailing at) before passes = before
step_stops c word w h (subcommand name) before passes = passes
step_stops c word w h value before passes = positional_stops c (arg_by_index c w.position) word w h before

-- A word in which nothing is wrong does not stop the walk at `help`.
turn_stops : (s : Shape) (names : Names) (w : Walk) (word : Text)
    → s.disable_help_subcommand ≡ false → StopsElsewhere w.stopped
    → turn_fault s names w word ≡ [] → StopsElsewhere (walked s.rules names w word).stopped
unfolding walked
turn_stops s names w word enabled before none = go w.stopped before none
  where
    met : Held × Step
    met = word_met s.rules names w.is_trailing w.waiting w.position word w.held

    here : Kinds
    here = word_fault s names w.is_trailing w.waiting word w.held

    go : (stop : Option (Text × List Text)) → StopsElsewhere stop
        → cond (is_some stop) [] (or_else here (step_fault s w.position met.0 met.1)) ≡ []
        → StopsElsewhere (walked_from s.rules names stop w word).stopped
    go (Some p) elsewhere none = elsewhere
    go None elsewhere none = step_stops s.rules word w met.0 met.1 before (word_step s names w.is_trailing w.waiting w.position word w.held enabled (first_empty here _ none))

-- Words in which nothing is wrong do not stop the walk at `help`, where the subcommand of that name
-- is not disabled.
pub walk_stops : (s : Shape) (names : Names) (words : List Text) (w : Walk)
    → s.disable_help_subcommand ≡ false → StopsElsewhere w.stopped
    → walk_fault s names w words ≡ []
    → StopsElsewhere (fold (walked s.rules names) w words).stopped
unfolding walk_fault
walk_stops s names [] w enabled before none = before
walk_stops s names (word ∷ rest) w enabled before none =
    let here = turn_fault s names w word in
    let after = walk_fault s names (walked s.rules names w word) rest in
    walk_stops s names rest (walked s.rules names w word) enabled (turn_stops s names w word enabled before (first_empty here after none)) (second_empty here after none)

-- The subcommand `help` does not answer to another name.
pub not_help : (name : Text) → bytes_eq name (codes "help") ≡ false
    → answers_to name (codes "help", []) ≡ false
not_help name other =
    let same : bytes_eq (codes "help") name ≡ bytes_eq name (codes "help") =
    same_from_decides _ _ (Decides-like _ sym sym (bytes_eq-Decides (codes "help") name))
    (bytes_eq-Decides name (codes "help")) in
    rw (same, other) refl
