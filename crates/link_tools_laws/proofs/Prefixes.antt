-- The texts that a tool determines by some bytes are prefixes of its texts for longer inputs.
use Rattle.std.proofs.Common.{◌≡◌, List, [], ◌++◌, refl, ap, sym, ◌∙◌, append-nil, append_assoc, arith, ℕ, true, Option, Some, None, ⊎_elim}
use Rattle.std.proofs.lemmas.Bool.{cases_Bool}
use Rattle.link_run.specs.Run.{Texts, ◌then◌}
use Rattle.link_run.specs.Made.{StreamStop, Made, whole_by, so_far_by, shows_fault, tool_of}
use Rattle.link_run.proofs.Ends.{unshown_sofar, shown_sofar}
use Rattle.link_tools_laws.specs.Prefix.{IsPrefixOf, HasPrefixTexts}

-- ---- lists and texts that are prefixes of others

pub prefix_same : {A : Type 0} (text whole : List A) → text ≡ whole → IsPrefixOf text whole
prefix_same text whole same = ([], sym same ∙ sym (append-nil text))

-- a prefix of the whole is a prefix of the whole and more
pub prefix_then : {A : Type 0} (text whole more : List A) → IsPrefixOf text whole
    → IsPrefixOf text (whole ++ more)
prefix_then {A} text whole more prefix = (prefix.0 ++ more, ap (λ (xs : List A). xs ++ more) prefix.1 ∙ append_assoc text prefix.0 more)

-- the same text is put before both
pub prefix_after : {A : Type 0} (before text whole : List A) → IsPrefixOf text whole
    → IsPrefixOf (before ++ text) (before ++ whole)
prefix_after {A} before text whole prefix = (prefix.0, ap (λ (xs : List A). before ++ xs) prefix.1 ∙ sym (append_assoc before text prefix.0))

pub prefix_first : {A : Type 0} (text more : List A) → IsPrefixOf text (text ++ more)
prefix_first text more = (more, refl)

pub prefix_none : {A : Type 0} (whole : List A) → IsPrefixOf [] whole
prefix_none whole = (whole, refl)

pub prefix_trans : {A : Type 0} (text mid whole : List A) → IsPrefixOf text mid
    → IsPrefixOf mid whole → IsPrefixOf text whole
prefix_trans {A} text mid whole first second =
    (first.0 ++ second.0, second.1 ∙ ap (λ (xs : List A). xs ++ second.0) first.1 ∙ append_assoc text first.0 second.0)

-- the same of output and report
pub record ArePrefixes (texts whole : Texts) : Type 0 where
  pub output : IsPrefixOf texts.output whole.output
  pub report : IsPrefixOf texts.report whole.report

pub prefixes_same : (texts whole : Texts) → texts ≡ whole → ArePrefixes texts whole
prefixes_same texts whole same = grind (arith, prefix_same)

pub prefixes_trans : (texts mid whole : Texts) → ArePrefixes texts mid → ArePrefixes mid whole
    → ArePrefixes texts whole
prefixes_trans texts mid whole first second = record {
  output = prefix_trans _ _ _ first.output second.output;
  report = prefix_trans _ _ _ first.report second.report;
}

-- texts are a prefix of these texts and more
pub prefixes_then : (texts more whole : Texts) → texts then more ≡ whole → ArePrefixes texts whole
prefixes_then texts more whole is = grind arith

-- the same texts are put before both
pub prefixes_after : (before texts whole : Texts) → ArePrefixes texts whole
    → ArePrefixes (before then texts) (before then whole)
prefixes_after before texts whole prefixes = grind (arith, prefix_after)

-- ---- tools

-- what is made of some bytes, and of these bytes and more
pub record MadeOn (before after : Made) : Type 0 where
  pub texts : ArePrefixes before.texts after.texts
  -- where there is no fault at which the bytes stop
  pub ended : after.stop ≡ None → ArePrefixes after.texts after.ended
  -- where a fault is shown, more bytes change nothing
  pub stays : shows_fault before.stop ≡ true → after ≡ before

texts_first : (stop : Option StreamStop) (made : Made)
    → (stop ≡ None → ArePrefixes made.texts made.ended)
    → ArePrefixes made.texts (whole_by stop made).texts
texts_first None made ended = ended refl
texts_first (Some stop) made ended =
    record { output = prefix_same _ _ refl; report = prefix_first _ _ }

pub prefixed : (made : List ℕ → Made) (bytes more : List ℕ)
    → MadeOn (made bytes) (made (bytes ++ more)) → HasPrefixTexts (tool_of made) bytes more
prefixed made bytes more on =
    let before = made bytes in
    let after = made (bytes ++ more) in
    let first : ArePrefixes (so_far_by before.stop before.texts) (whole_by after.stop after).texts =
    ⊎_elim
    (λ shown. prefixes_same _ _ (cc (shown_sofar before.stop before shown, on.stays shown)))
    (λ unshown.
    prefixes_trans _ _ _ (prefixes_same _ _ (unshown_sofar before.stop before.texts unshown))
    (prefixes_trans _ _ _ on.texts (texts_first after.stop after on.ended)))
    (cases_Bool (shows_fault before.stop)) in
    record { output = first.output; report = first.report }

-- ---- all that is made of some bytes

-- the output is the same where they stop and where they do not
pub whole_output : (stop : Option StreamStop) (made : Made) → made.ended.output ≡ made.texts.output
    → (whole_by stop made).texts.output ≡ made.texts.output
whole_output stop made same = grind arith
