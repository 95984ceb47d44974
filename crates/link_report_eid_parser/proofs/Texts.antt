-- The texts of endpoint IDs, by their schemes.
use Rattle.std.proofs.Common.{◌≡◌, ◌≢◌, ℕ, ◌^◌, ◌<◌, ◌≤◌, List, ◌∷◌, ◌++◌, ◌∙◌, length, get_or, drop, inl, refl, ap, sym, append_assoc, length-append, arith}
use Rattle.std.specs.Fmt.{decimal}
use Rattle.std.specs.Prelude.{codes}
use Rattle.std.proofs.lemmas.{Fmt.decimal_injective, List.{take_at, drop_at}, List.Elements.All-from_recursion}
use Rattle.link_io.specs.Bytes.{IsByte, AreBytes}
use Rattle.link_bundle_types.specs.declared.eid.Eid.TheVariants.{DtnNone, Dtn, Ipn, Ipn3}
use Rattle.link_bundle_types.specs.declared.kept_eid.EidForm.TheVariants as form
use Rattle.link_report.specs.{Eid.eid_text, Text.{escaped_byte, is_plain, escaped, number_text}}
use Rattle.link_report_eid_parser.proofs.{Escapes.same_name, Numbers.{same_pair, no_pair}}
use Rattle.link_report_eid_parser.specs.TextOf.{IsTextOf, IsNoText, ReadEid, TextDeterminesEid}

-- ---- the scheme

-- a text with another first byte
other_first : (one other : List ℕ) → get_or one 0 0 ≢ get_or other 0 0 → one ≢ other
other_first one other differ is = differ (ap (λ (text : List ℕ). get_or text 0 0) is)

-- no dtn name has the text of the null endpoint
pub none_alone : (name : List ℕ) → AreBytes name → name ≢ codes "none" → escaped name ≢ codes "none"
unfolding escaped escaped_byte is_plain
none_alone name are other is =
    other (same_name name (codes "none") are (All-from_recursion IsByte (codes "none") (omega arith, (omega arith, (omega arith, (omega arith, tt))))) is)

-- ---- the text of an endpoint ID

none_escaped : escaped (codes "none") ≡ codes "none"
unfolding escaped escaped_byte is_plain
none_escaped = refl

pub null_text : (text : List ℕ) → text ≡ codes "none" → IsTextOf DtnNone (codes "dtn:" ++ text)
unfolding eid_text
null_text text is =
    record { shown = tt; is = ap (λ (rest : List ℕ). codes "dtn:" ++ rest) (sym is) }

pub name_text : (name text : List ℕ) → AreBytes name → length name ≤ 1024 → text ≢ codes "none"
    → escaped name ≡ text → IsTextOf (Dtn (record { items = name })) (codes "dtn:" ++ text)
unfolding eid_text
name_text name text are short other is = record {
  shown = (are, short, λ same. other (sym is ∙ ap escaped same ∙ none_escaped));
  is = ap (λ (rest : List ℕ). codes "dtn:" ++ rest) is;
}

-- a name that was copied to the start of a slice
pub name_read : (name old text : List ℕ) (size : ℕ) → size ≡ length name
    → IsTextOf (Dtn (record { items = name })) text
    → ReadEid text old (name ++ drop size old) form.Dtn size
name_read name old text size size_is is = record {
  within = omega (arith, length-append name (drop size old));
  is = rw (take_at name (drop size old) size (sym size_is)) is;
  named = inl refl;
  rest = drop_at name (drop size old) size (sym size_is);
}

pub two_text : (node service : ℕ) (rest text : List ℕ) → node < 2 ^ 64 → service < 2 ^ 64
    → decimal node ++ 46 ∷ rest ≡ text → decimal service ≡ rest
    → IsTextOf (Ipn node service) (codes "ipn:" ++ text)
unfolding eid_text number_text
two_text node service rest text node_fits service_fits is last = record {
  shown = (node_fits, service_fits);
  is = ap (λ (rest : List ℕ). codes "ipn:" ++ rest)
      (ap (λ (rest : List ℕ). decimal node ++ 46 ∷ rest) last ∙ is);
}

three_is : (allocator node service : ℕ)
    → eid_text (Ipn3 allocator node service)
    ≡ codes "ipn:" ++ (decimal allocator ++ 46 ∷ (decimal node ++ 46 ∷ decimal service))
unfolding eid_text number_text
three_is allocator node service =
    ap (λ (rest : List ℕ). codes "ipn:" ++ rest)
    (append_assoc (decimal allocator) (46 ∷ decimal node) (46 ∷ decimal service))

pub three_text : (allocator node service : ℕ) (rest text : List ℕ) → allocator < 2 ^ 64
    → node < 2 ^ 64 → service < 2 ^ 64 → decimal allocator ++ 46 ∷ rest ≡ text
    → decimal node ++ 46 ∷ decimal service ≡ rest
    → IsTextOf (Ipn3 allocator node service) (codes "ipn:" ++ text)
three_text allocator node service rest text allocator_fits node_fits service_fits is last = record {
  shown = (allocator_fits, node_fits, service_fits);
  is = three_is allocator node service
      ∙ ap (λ (rest : List ℕ). codes "ipn:" ++ rest)
      (ap (λ (rest : List ℕ). decimal allocator ++ 46 ∷ rest) last ∙ is);
}

-- ---- texts of no endpoint ID

pub no_scheme : (text : List ℕ) → ((rest : List ℕ) → text ≢ codes "dtn:" ++ rest)
    → ((rest : List ℕ) → text ≢ codes "ipn:" ++ rest) → IsNoText text
unfolding eid_text number_text
no_scheme text dtn ipn DtnNone possible is = dtn (codes "none") (sym is)
no_scheme text dtn ipn (Dtn name) possible is = dtn (escaped name.items) (sym is)
no_scheme text dtn ipn (Ipn node service) possible is = ipn _ (sym is)
no_scheme text dtn ipn (Ipn3 allocator node service) possible is = ipn _ (sym is)

pub no_dtn : (text : List ℕ) → text ≢ codes "none"
    → ((name : List ℕ) → AreBytes name → length name ≤ 1024 → escaped name ≢ text)
    → IsNoText (codes "dtn:" ++ text)
unfolding eid_text number_text
no_dtn text none names DtnNone possible is = none (sym (ap (drop 4) is))
no_dtn text none names (Dtn name) possible is = names name.items possible.0 possible.1 (ap (drop 4) is)
no_dtn text none names _ possible is = other_first _ _ (omega arith) is

-- no two numbers have this text, and no three
pub record IsNoIpn (text : List ℕ) : Type 0 where
  pub two : (node service : ℕ) → node < 2 ^ 64 → service < 2 ^ 64
      → decimal node ++ 46 ∷ decimal service ≢ text
  pub three : (allocator node service : ℕ) → allocator < 2 ^ 64 → node < 2 ^ 64 → service < 2 ^ 64
      → decimal allocator ++ 46 ∷ (decimal node ++ 46 ∷ decimal service) ≢ text

pub no_ipn : (text : List ℕ) → IsNoIpn text → IsNoText (codes "ipn:" ++ text)
unfolding eid_text number_text
no_ipn text none (Ipn node service) possible is =
    none.two node service possible.0 possible.1 (ap (drop 4) is)
no_ipn text none (Ipn3 allocator node service) possible is =
    none.three allocator node service possible.0 possible.1 possible.2
    (ap (drop 4) (sym (three_is allocator node service) ∙ is))
no_ipn text none _ possible is = other_first _ _ (omega arith) is

-- after the first number, neither one number nor two
pub no_ipn_after : (first : ℕ) (rest text : List ℕ) → first < 2 ^ 64
    → decimal first ++ 46 ∷ rest ≡ text
    → ((service : ℕ) → service < 2 ^ 64 → decimal service ≢ rest)
    → ((node service : ℕ) → node < 2 ^ 64 → service < 2 ^ 64 → decimal node ++ 46 ∷ decimal service ≢ rest)
    → IsNoIpn text
no_ipn_after first rest text fits is one two = record {
  two = λ node service node_fits service_fits same.
      one service service_fits
      (same_pair node first (decimal service) rest node_fits fits (same ∙ sym is)).1;
  three = λ allocator node service allocator_fits node_fits service_fits same.
      two node service node_fits service_fits
      (same_pair allocator first (decimal node ++ 46 ∷ decimal service) rest allocator_fits fits (same ∙ sym is)).1;
}

-- after the second number, no number
pub no_two_after : (node : ℕ) (rest text : List ℕ) → node < 2 ^ 64
    → decimal node ++ 46 ∷ rest ≡ text
    → ((service : ℕ) → service < 2 ^ 64 → decimal service ≢ rest)
    → (other service : ℕ) → other < 2 ^ 64 → service < 2 ^ 64 → decimal other ++ 46 ∷ decimal service ≢ text
no_two_after node rest text fits is none other service other_fits service_fits same =
    none service service_fits (same_pair other node (decimal service) rest other_fits fits (same ∙ sym is)).1

-- ---- the law

pub same_eid : TextDeterminesEid
unfolding eid_text number_text escaped escaped_byte is_plain
same_eid DtnNone DtnNone one other is = refl
same_eid DtnNone (Dtn name) one other is =
    absurd (none_alone name.items other.0 other.2 (sym (ap (drop 4) is)))
same_eid (Dtn name) DtnNone one other is =
    absurd (none_alone name.items one.0 one.2 (ap (drop 4) is))
same_eid (Dtn name) (Dtn name') one other is =
    ap (λ (items : List ℕ). Dtn (record { items = items })) (same_name name.items name'.items one.0 other.0 (ap (drop 4) is))
same_eid (Ipn node service) (Ipn node' service') one other is =
    let same = same_pair node node' (decimal service) (decimal service') one.0 other.0 (ap (drop 4) is) in
    let last = decimal_injective service service' one.1 other.1 same.1 in
    rw (same.0, last) refl
same_eid (Ipn node service) (Ipn3 allocator node' service') one other is =
    let texts = ap (drop 4) (is ∙ three_is allocator node' service') in
    let same = same_pair node allocator (decimal service) (decimal node' ++ 46 ∷ decimal service') one.0 other.0 texts in
    absurd (no_pair service node' (decimal service') one.1 same.1)
same_eid (Ipn3 allocator node service) (Ipn node' service') one other is =
    let texts = ap (drop 4) (sym (three_is allocator node service) ∙ is) in
    let same = same_pair allocator node' (decimal node ++ 46 ∷ decimal service) (decimal service') one.0 other.0 texts in
    absurd (no_pair service' node (decimal service) other.1 (sym same.1))
same_eid (Ipn3 allocator node service) (Ipn3 allocator' node' service') one other is =
    let texts = ap (drop 4) (sym (three_is allocator node service) ∙ is ∙ three_is allocator' node' service') in
    let first = same_pair allocator allocator' (decimal node ++ 46 ∷ decimal service) (decimal node' ++ 46 ∷ decimal service') one.0 other.0 texts in
    let second = same_pair node node' (decimal service) (decimal service') one.1 other.1 first.1 in
    let last = decimal_injective service service' one.2 other.2 second.1 in
    rw (first.0, second.0, last) refl
same_eid _ _ one other is = absurd (other_first _ _ (omega arith) is)
