-- What `pack` writes is the prelude and then the segments alone, and which IDs the lines have.
use Rattle.std.proofs.Common.{◌≡◌, ℕ, zero, suc, Result, drop, ◌+◌, ◌≤◌, ◌^◌, List, [], ◌∷◌, ◌++◌, length, refl, ap, sym, append_assoc, zero-add, arith}
use Rattle.link_bundle_types.specs.declared.info.BundleInfo.{BundleInfo}
use Rattle.link_run_over_bundle_files.specs.Bundles.{BundleWithInfo, Refusal, Divided, bundle_prefix, divided_by, divided_in, divided}
use Rattle.link_tool_option_types.specs.declared.pack.PackOptions.{PackOptions}
use Rattle.link_tool_pack.specs.Packing.{prelude_bytes, transfer_bytes, rest_segments, end_bytes, bundles_output, report_lines, packing_of}
use Rattle.link_tool_pack.specs.More.{id_at, more_output, more_lines, more_of}
use Rattle.link_tool_pack.specs.MoreLaws.{from, IsPreludeThenPackMore, HasNoMoreBundlesThanBytes, HasLinesFromFirst}
use Rattle.link_tool_pack.specs.declared.more.MoreOptions.{MoreOptions}

output_is : (options : PackOptions) (input : Divided)
    → bundles_output options input ≡ prelude_bytes options ++ more_output (from 0 options) input
output_is options input =
    rw zero-add
    (append_assoc (prelude_bytes options) (transfer_bytes options 0 input.bundles)
    (rest_segments options (length input.bundles) input.rest))

-- IDs that fit are in the lines as they are
lines_are : (options : MoreOptions) (number id : ℕ) (bundles : List BundleWithInfo)
    → id ≡ options.first + number → id + length bundles ≤ 2 ^ 64
    → more_lines options number bundles ≡ report_lines options.pack id bundles
unfolding report_lines more_lines
lines_are options number id [] is few = refl
lines_are options number id (bundle ∷ more) is few =
    let known : id_at options number ≡ id = omega arith in
    rw (known, lines_are options (suc number) (suc id) more (omega arith) (omega arith)) refl

-- at most as many bundles as are looked for
few_by : (next : List ℕ → Divided) (count : ℕ) (front bytes : List ℕ)
    (said : Result BundleInfo Refusal)
    → ((left : List ℕ) → length (next left).bundles ≤ count)
    → length (divided_by next front bytes said).bundles ≤ suc count
few_by next count front bytes said few = grind (arith, few (drop (length front) bytes))

few_in : (count limit : ℕ) (bytes : List ℕ) → length (divided_in count limit bytes).bundles ≤ count
unfolding divided_in
few_in count limit [] = omega arith
few_in zero limit (byte ∷ bytes) = omega arith
few_in (suc count) limit (byte ∷ bytes) =
    few_by (divided_in count limit) count (bundle_prefix (byte ∷ bytes)) (byte ∷ bytes) _
    (few_in count limit)

pub has_few : (limit : ℕ) (bytes : List ℕ) → HasNoMoreBundlesThanBytes limit bytes
unfolding divided
has_few limit bytes = few_in (length bytes) limit bytes

pub has_lines : (options : MoreOptions) (bytes : List ℕ) → HasLinesFromFirst options bytes
unfolding more_of
has_lines options bytes few = lines_are options 0 options.first _ (omega arith) few

pub is_packed : (options : PackOptions) (bytes : List ℕ) → IsPreludeThenPackMore options bytes
unfolding packing_of more_of
is_packed options bytes =
    let input = divided options.peer_transfer bytes in
    record {
      output = output_is options input;
      ended = ap (λ all. all ++ end_bytes options) (output_is options input);
      report = λ few. sym (lines_are (from 0 options) 0 0 input.bundles refl (omega arith));
      stop = refl;
    }
