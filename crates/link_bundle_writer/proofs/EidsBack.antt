-- Endpoint IDs, and the data of blocks, are read as they were written.
use Rattle.std.proofs.Common.{◌≡◌, ℕ, ◌+◌, ◌^◌, ◌<◌, ◌≤◌, ◌==◌, true, nat_le, List, [], ◌++◌, length, Some, None, drop, Ok, arith, refl, ap, ◌∙◌, sym, append_assoc, append-nil, length-append, zero-add}
use Rattle.std.proofs.lemmas.{Bool.Decides.nat_tests}
use Rattle.std.proofs.Math.Seq.{drop-append_seam}
use Rattle.link_bundle_data.specs.BlockData.{BlockData, PreviousNode, BundleAge, HopCount, alone, previous_node, bundle_age, hop_count, data_of}
use Rattle.link_bundle_types.specs.declared.eid.{Eid.Eid, Eid.TheVariants.{DtnNone, Dtn, Ipn, Ipn3}}
use Rattle.link_bundle_heads.specs.declared.endpoint.Scheme.{Scheme}
use Rattle.link_bundle_heads.specs.declared.endpoint.Scheme.TheVariants as scheme_of
use Rattle.link_bundle_heads.specs.Rows.{unsigned, array, pair, scheme, dtn_part, ipn_part}
use Rattle.link_bundle_blocks.specs.EndpointId.{dtn_at, ipn_at, specific_at, eid_at}
use Rattle.link_bundle_blocks.specs.Reading.{ReadAt, row_at, bytes_at}
use Rattle.link_bundle_writer.proofs.There.{ReadsThere, there_then, there_last, there_row, there_bytes, regrouped}
use Rattle.link_bundle_writer.specs.EndpointIds.{EidFits, eid_bytes, is_short}
use Rattle.link_bundle_writer.specs.Heads.{head_bytes}
use Rattle.link_bundle_writer.specs.NewData.{age_bytes, hop_count_bytes, PreviousNodeReadsBack, BundleAgeReadsBack, HopCountReadsBack}

pub there_unsigned : (number : ℕ) → number < 2 ^ 64
    → ReadsThere (row_at unsigned) number (head_bytes 0 number)
unfolding unsigned
there_unsigned number fits = there_row unsigned number 0 number (omega arith) fits refl

pub there_pair : ReadsThere (row_at pair) 2 (head_bytes 4 2)
unfolding pair array
there_pair = there_row pair 2 4 2 (omega arith) (omega arith) refl

there_dtn : ReadsThere (row_at scheme) scheme_of.Dtn (head_bytes 0 1)
unfolding scheme unsigned
there_dtn = there_row scheme scheme_of.Dtn 0 1 (omega arith) (omega arith) refl

there_ipn : ReadsThere (row_at scheme) scheme_of.Ipn (head_bytes 0 2)
unfolding scheme unsigned
there_ipn = there_row scheme scheme_of.Ipn 0 2 (omega arith) (omega arith) refl

-- the specific part of an endpoint ID, after the array and the scheme
there_part : {eid : Eid} {kind : Scheme} {front part : List ℕ}
    → ReadsThere (row_at scheme) kind front → ReadsThere (specific_at kind) eid part
    → ReadsThere eid_at eid (head_bytes 4 2 ++ (front ++ part))
unfolding eid_at
there_part one two =
    there_then (row_at pair) _ there_pair (there_then (row_at scheme) _ one two)

there_none : ReadsThere (specific_at scheme_of.Dtn) DtnNone (head_bytes 0 0)
unfolding specific_at dtn_part dtn_at
there_none =
    there_last (row_at dtn_part) _ (there_row dtn_part None 0 0 (omega arith) (omega arith) refl)
    (λ bytes offset. refl)

there_name : (name : List ℕ) → length name ≤ 1024
    → ReadsThere (specific_at scheme_of.Dtn) (Dtn (record { items = name }))
    (head_bytes 3 (length name) ++ name)
unfolding specific_at dtn_part dtn_at
there_name name short =
    let fits : nat_le (length name) 1024 ≡ true = grind (arith, nat_tests) in
    there_then (row_at dtn_part) _
    (there_row dtn_part (Some (length name)) 3 (length name) (omega arith) (omega (arith, short)) (rw fits refl))
    (there_last (bytes_at (length name)) _ (there_bytes name) (λ bytes offset. refl))

there_two : (node service : ℕ) → node < 2 ^ 64 → service < 2 ^ 64
    → ReadsThere (specific_at scheme_of.Ipn) (Ipn node service)
    (head_bytes 4 2 ++ (head_bytes 0 node ++ head_bytes 0 service))
unfolding specific_at ipn_part array ipn_at
there_two node service node_fits service_fits =
    there_then (row_at ipn_part) _ (there_row ipn_part 2 4 2 (omega arith) (omega arith) refl)
    (there_then (row_at unsigned) _ (there_unsigned node node_fits)
    (there_last (row_at unsigned) _ (there_unsigned service service_fits) (λ bytes offset. refl)))

there_three : (allocator node service : ℕ)
    → allocator < 2 ^ 64 → node < 2 ^ 64 → service < 2 ^ 64
    → ReadsThere (specific_at scheme_of.Ipn) (Ipn3 allocator node service)
    (head_bytes 4 3 ++ (head_bytes 0 allocator ++ (head_bytes 0 node ++ head_bytes 0 service)))
unfolding specific_at ipn_part array ipn_at
there_three allocator node service allocator_fits node_fits service_fits =
    there_then (row_at ipn_part) _ (there_row ipn_part 3 4 3 (omega arith) (omega arith) refl)
    (there_then (row_at unsigned) _ (there_unsigned allocator allocator_fits)
    (there_then (row_at unsigned) _ (there_unsigned node node_fits)
    (there_last (row_at unsigned) _ (there_unsigned service service_fits) (λ bytes offset. refl))))

pub there_eid : (eid : Eid) → EidFits eid → is_short eid ≡ true → ReadsThere eid_at eid (eid_bytes eid)
unfolding eid_bytes
there_eid DtnNone fits short = regrouped (there_part there_dtn there_none) (simp append_assoc)
there_eid (Dtn name) fits short =
    let below : length name.items ≤ 1024 = grind (arith, nat_tests) in
    regrouped (there_part there_dtn (there_name name.items below)) (simp append_assoc)
there_eid (Ipn node service) fits short =
    regrouped (there_part there_ipn (there_two node service fits.0 fits.1)) (simp append_assoc)
there_eid (Ipn3 allocator node service) fits short =
    regrouped (there_part there_ipn (there_three allocator node service fits.0 fits.1 fits.2))
    (simp append_assoc)

-- a part that is all of some bytes
at_start : {A : Type 0} (read : List ℕ → ℕ → ReadAt A) (value : A) (bytes : List ℕ)
    → ReadsThere read value bytes → read bytes 0 ≡ Ok (value, length bytes)
at_start read value bytes there =
    there.by bytes 0 [] (omega arith) (sym (append-nil bytes)) ∙ ap (λ n. Ok (value, n)) (zero-add (length bytes))

alone-all : (bytes : List ℕ) (found : BlockData) → alone bytes (length bytes) found ≡ Ok found
unfolding alone
alone-all bytes found = let same : (length bytes == length bytes) ≡ true = grind (arith, nat_tests) in rw same refl

pub node_back : PreviousNodeReadsBack
unfolding data_of previous_node
node_back node fits short =
    rw (
      at_start eid_at node (eid_bytes node) (there_eid node fits short),
      alone-all (eid_bytes node) (PreviousNode node),
    ) refl

pub age_back : BundleAgeReadsBack
unfolding data_of bundle_age age_bytes
age_back age fits =
    rw (
      at_start (row_at unsigned) age (head_bytes 0 age) (there_unsigned age fits),
      alone-all (head_bytes 0 age) (BundleAge age),
    ) refl

pub hop_count_back : HopCountReadsBack
unfolding data_of hop_count hop_count_bytes
hop_count_back limit count limit_fits count_fits =
    let a = head_bytes 4 2 in
    let l = head_bytes 0 limit in
    let k = head_bytes 0 count in
    let b = a ++ l ++ k in
    let front : length (a ++ l) ≡ length a + length l = length-append a l in
    let whole : length a + length l + length k ≡ length b =
    omega (arith, front, length-append (a ++ l) k) in
    let one : row_at pair b 0 ≡ Ok (2, length a) =
    there_pair.by b 0 (l ++ k) (omega arith) (append_assoc a l k)
    ∙ ap (λ n. Ok (2, n)) (zero-add (length a)) in
    let second : drop (length a) b ≡ l ++ k =
    ap (λ (all : List ℕ). drop (length a) all) (append_assoc a l k) ∙ drop-append_seam a (l ++ k) in
    let two : row_at unsigned b (length a) ≡ Ok (limit, length a + length l) =
    (there_unsigned limit limit_fits).by b (length a) k (omega (arith, whole)) second in
    let last : drop (length a + length l) b ≡ k ++ [] =
    rw (← front, append-nil k) (drop-append_seam (a ++ l) k) in
    let third : row_at unsigned b (length a + length l) ≡ Ok (count, length b) =
    (there_unsigned count count_fits).by b (length a + length l) [] (omega (arith, whole)) last
    ∙ ap (λ n. Ok (count, n)) whole in
    rw (one, two, third, alone-all b (HopCount limit count)) refl
