-- What `pack_more` makes of an input, and what it has written once bytes have come.
use Rattle.std.proofs.Common.{◌≡◌, ℕ, zero, suc, ◌+◌, ◌<◌, ◌%◌, ◌^◌, Bool, true, false, List, [], ◌∷◌, ◌++◌, length, Option, Some, None, refl, ap, sym, ◌∙◌, append-nil, append_assoc, arith}
use Rattle.std.proofs.Math.Path.{fun_ext}
use Rattle.std.proofs.lemmas.Nat.{field_of}
use Rattle.std.specs.Int.{byte_at}
use Rattle.link_wire.specs.{Codes.{xfer_segment, is_start}, Spelling.{list_bytes, segment_head_bytes}}
use Rattle.link_writing.specs.Numbers.{be}
use Rattle.link_transfer.specs.Chunks.{chunk_at}
use Rattle.link_run.specs.Made.{tool_of}
use Rattle.link_run.specs.Run.{◌then◌, no_texts}
use Rattle.link_run.specs.Writers.{on_output}
use Rattle.link_run.proofs.Runs.{texts_as}
use Rattle.link_run_over_bundle_files.specs.Bundles.{BundleWithInfo, TailAfterBundles, Divided}
use Rattle.link_run_over_bundle_files.specs.Telling.{BundleTelling, told_by, told_of}
use Rattle.link_run_over_bundle_files.proofs.{Outcomes.whole_of}
use Rattle.link_tool_pack.specs.Segments.{flags_of, BundleToCut, cut_at, segments_from, segments_of}
use Rattle.link_tool_pack.specs.Packing.{segment_size, sending, transfer_bytes, report_line}
use Rattle.link_tool_pack.specs.More.{id_at, more_lines, more_by, more_of, more_tool}
use Rattle.link_tool_pack.specs.MoreRun.{more_texts_of, more_telling}
use Rattle.link_tool_pack.specs.declared.more.MoreOptions.{MoreOptions}
use Rattle.link_tool_pack.proofs.Sending.{segments_none}
use Rattle.link_tool_pack.proofs.Outcomes.{due_with, grown_any, segments_of-append, transfers_of_push}

-- ---- a segment has the lowest 64 bits of its ID

low_bytes : (id : ℕ) → be 8 (id % 2 ^ 64) ≡ be 8 id
low_bytes id =
    let low = id % 2 ^ 64 in
    let b0 : byte_at 0 low ≡ byte_at 0 id = omega arith in
    let b1 : byte_at 1 low ≡ byte_at 1 id = omega (arith, field_of id 56 8) in
    let b2 : byte_at 2 low ≡ byte_at 2 id = omega (arith, field_of id 48 16) in
    let b3 : byte_at 3 low ≡ byte_at 3 id = omega (arith, field_of id 40 24) in
    let b4 : byte_at 4 low ≡ byte_at 4 id = omega (arith, field_of id 32 32) in
    let b5 : byte_at 5 low ≡ byte_at 5 id = omega (arith, field_of id 24 40) in
    let b6 : byte_at 6 low ≡ byte_at 6 id = omega (arith, field_of id 16 48) in
    let b7 : byte_at 7 low ≡ byte_at 7 id = omega (arith, field_of id 8 56) in
    rw (b0, b1, b2, b3, b4, b5, b6, b7) refl

low_head : (flags id size : ℕ) (announce : Option ℕ)
    → segment_head_bytes flags (id % 2 ^ 64) size announce
    ≡ segment_head_bytes flags id size announce
unfolding segment_head_bytes
low_head flags id size announce =
    ap (λ (field : List ℕ). be 1 xfer_segment ++ be 1 flags ++ field
    ++ list_bytes (is_start flags) announce ++ be 8 size) (low_bytes id)

low_segments : (id : ℕ) (parts : BundleToCut) (k count : ℕ)
    → segments_from (id % 2 ^ 64) parts k count ≡ segments_from id parts k count
unfolding segments_from
low_segments id parts k zero = refl
low_segments id parts k (suc count) =
    let cut = cut_at parts k in
    let size = length (chunk_at parts.segment k parts.bundle) in
    rw (
      low_head (flags_of cut.first cut.last) id size cut.announce,
      low_segments id parts (suc k) count,
    ) refl

module _ (options : MoreOptions) where
  -- the ID of the transfer of the next bundle
  abbrev next_id : List BundleWithInfo → ℕ
  next_id bundles = options.first + length bundles

  -- ---- one more bundle, which has the number `n`

  lines_of_push : (number n : ℕ) (bundles : List BundleWithInfo) (bundle : BundleWithInfo)
      → n ≡ number + length bundles
      → more_lines options number (bundles ++ bundle ∷ [])
      ≡ more_lines options number bundles ++ report_line options.pack (id_at options n) bundle
  unfolding more_lines
  lines_of_push number n [] bundle is =
      let same : n ≡ number = omega arith in
      rw (append-nil, same) refl
  lines_of_push number n (first ∷ bundles) bundle is =
      rw (lines_of_push (suc number) n bundles bundle (omega arith), append_assoc) refl

  -- ---- more bytes of a bundle, whose segments are written with the ID `id`

  segments_with_id : (id : ℕ) (bundles : List BundleWithInfo) (begun run : List ℕ) (whole : Bool)
      → id ≡ id_at options (length bundles)
      → due_with options.pack id begun run whole
      ≡ due_with options.pack (next_id bundles) begun run whole
  segments_with_id id bundles begun run whole known =
      rw known (low_segments (next_id bundles) _ _ _)

  -- the bundle goes on
  pub texts_grown : (id : ℕ) (bundles : List BundleWithInfo) (begun run : List ℕ)
      → id ≡ id_at options (length bundles)
      → more_texts_of options bundles begun
      then on_output (due_with options.pack id begun run false)
      ≡ more_texts_of options bundles (begun ++ run)
  texts_grown id bundles begun run known =
      let before = transfer_bytes options.pack options.first bundles in
      texts_as
      (append_assoc before _ _
      ∙ ap (λ (due : List ℕ). before ++ (segments_of (next_id bundles) (sending options.pack false begun) ++ due))
      (segments_with_id id bundles begun run false known)
      ∙ ap (λ (all : List ℕ). before ++ all) (grown_any options.pack (next_id bundles) begun run))
      (append-nil (more_lines options 0 bundles))

  -- the bundle is whole, and no byte of the next one has come
  pub texts_whole : (id : ℕ) (bundles : List BundleWithInfo) (begun run : List ℕ) (bundle : BundleWithInfo)
      → id ≡ id_at options (length bundles) → bundle.bytes ≡ begun ++ run → 0 < length run
      → more_texts_of options bundles begun
      then (record {
        output = due_with options.pack id begun run true;
        report = report_line options.pack id bundle;
      })
      ≡ more_texts_of options (bundles ++ bundle ∷ []) []
  texts_whole id bundles begun run bundle known is some =
      let n = next_id bundles in
      let all = bundles ++ bundle ∷ [] in
      let before = transfer_bytes options.pack options.first bundles in
      let segments = λ (bytes : List ℕ). segments_of n (sending options.pack true bytes) in
      texts_as
      (append_assoc before _ _
      ∙ ap (λ (due : List ℕ). before ++ (segments_of n (sending options.pack false begun) ++ due))
      (segments_with_id id bundles begun run true known)
      ∙ ap (λ (all : List ℕ). before ++ all)
      (segments_of-append options.pack n begun run true some ∙ ap segments (sym is))
      ∙ rw (
        segments_none (next_id all) (segment_size options.pack) options.pack.announce,
        transfers_of_push options.pack options.first n bundles bundle refl,
        append-nil,
      ) refl)
      (rw known (sym (lines_of_push 0 (length bundles) bundles bundle (omega arith))))

  -- ---- the input, from its bundles and the bytes of the next one

  pub nothing_yet : no_texts ≡ more_texts_of options [] []
  unfolding transfer_bytes more_lines
  nothing_yet =
      rw (segments_none (next_id []) (segment_size options.pack) options.pack.announce) refl

  abbrev telling : BundleTelling
  telling = more_telling options

  same_by : (bundles : List BundleWithInfo) (rest : Option TailAfterBundles)
      → (let input : Divided = record { bundles = bundles; rest = rest } in
      ((told_by telling input).texts ≡ (more_by options input).texts)
      × (whole_of (told_by telling input) ≡ whole_of (more_by options input)))
  same_by bundles None =
      rw (segments_none (next_id bundles) (segment_size options.pack) options.pack.announce)
      (refl, refl)
  same_by bundles (Some rest) = (refl, refl)

  pub same_tool : tool_of (told_of telling) ≡ more_tool options
  unfolding told_of more_of
  same_tool = grind (arith, fun_ext, same_by)
