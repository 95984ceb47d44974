-- What `pack` makes of an input, and what it has written and keeps once bytes have come.
use Rattle.std.proofs.Common.{◌≡◌, ℕ, false, List, [], ◌∷◌, ◌++◌, length, Option, Some, None, refl, ap, sym, ◌∙◌, append-nil, suc, ◌+◌, ◌<◌, Bool, true, append_assoc, arith, ◌-◌, ◌*◌, ◌/◌, ◌≤◌, max, ◌%◌, min, OnOk, Result, Ok, Err}
use Rattle.std.proofs.Math.Path.{fun_ext}
use Rattle.link_run.specs.Made.{tool_of}
use Rattle.link_run.specs.Run.{Texts, ◌then◌}
use Rattle.link_run.proofs.Runs.{texts_as, part_of_more, output_then}
use Rattle.link_run_over_bundle_files.specs.Bundles.{BundleWithInfo, TailAfterBundles, Divided}
use Rattle.link_run_over_bundle_files.specs.Telling.{SoFar, BundleTelling, told_by, told_of, between, WritesRestOfTexts, with_run}
use Rattle.link_run_over_bundle_files.proofs.{Outcomes.whole_of, Told.on_ok_by}
use Rattle.link_tool_pack.specs.Packing.{prelude_bytes, segment_size, sending, transfer_bytes, report_lines, packing_of, packing_by, pack_tool, report_line}
use Rattle.link_tool_pack.specs.PackRun.{texts_of, pack_telling, Sends}
use Rattle.link_tool_pack.specs.Segments.{segments_of, segments_left}
use Rattle.link_tool_option_types.specs.declared.pack.PackOptions.{PackOptions}
use Rattle.link_tool_pack.proofs.Sending.{segments_none, segments_grow, segments_idle, first_chunks-length, all_given_open, all_given_ended, open_none, holds_if}
use Rattle.link_transfer.specs.Cutting.{with_bytes, due_of, Cutting}
use Rattle.link_run.specs.Writers.{on_output, on_report, AfterWrite}
use Rattle.link_tool_pack.specs.Packer.{cutting, IsCutterIn}
use Rattle.std.proofs.lemmas.{Bool.Decides.nat_tests, List.length-drop}
use Rattle.link_transfer.specs.{Cutter.{IsCutterAt, kept_size}, declared.cutter.Cutter.Cutter}
use Rattle.link_transfer.proofs.Due.{fits_back, fits}
use Rattle.std.proofs.lemmas.Grind.{div_ceil_times}
use Rattle.link_wire.specs.{Device.Output, declared.IoFault.IoFault}
use Rattle.link_run.specs.declared.writers.Writers.{Writers}
use Rattle.link_transfer.specs.Chunks.{chunk_count}

module _ (options : PackOptions) where
  -- ---- one more bundle, which has the number `n`

  pub transfers_of_push : (number n : ℕ) (bundles : List BundleWithInfo) (bundle : BundleWithInfo)
      → n ≡ number + length bundles
      → transfer_bytes options number (bundles ++ bundle ∷ [])
      ≡ transfer_bytes options number bundles ++ segments_of n (sending options true bundle.bytes)
  unfolding transfer_bytes
  transfers_of_push number n [] bundle is =
      let same : n ≡ number = omega arith in
      rw (append-nil, same) refl
  transfers_of_push number n (first ∷ bundles) bundle is =
      rw (transfers_of_push (suc number) n bundles bundle (omega arith), append_assoc) refl

  lines_of_push : (number n : ℕ) (bundles : List BundleWithInfo) (bundle : BundleWithInfo)
      → n ≡ number + length bundles
      → report_lines options number (bundles ++ bundle ∷ [])
      ≡ report_lines options number bundles ++ report_line options n bundle
  unfolding report_lines
  lines_of_push number n [] bundle is =
      let same : n ≡ number = omega arith in
      rw (append-nil, same) refl
  lines_of_push number n (first ∷ bundles) bundle is =
      rw (lines_of_push (suc number) n bundles bundle (omega arith), append_assoc) refl

  -- ---- more bytes of a bundle

  -- the segments that are due once the bytes `run` have come
  abbrev pub due_with : (number : ℕ) → (begun run : List ℕ) → (whole : Bool) → List ℕ
  due_with number begun run whole =
      segments_left number (with_bytes run whole (cutting options begun))

  pub segments_of-append : (number : ℕ) (begun run : List ℕ) (whole : Bool) → 0 < length run
      → segments_of number (sending options false begun) ++ due_with number begun run whole
      ≡ segments_of number (sending options whole (begun ++ run))
  segments_of-append number begun run whole some =
      let positive = options.some in
      segments_grow number (segment_size options) options.announce begun run whole
      (omega arith) some

  pub grown_any : (number : ℕ) (begun run : List ℕ)
      → segments_of number (sending options false begun) ++ due_with number begun run false
      ≡ segments_of number (sending options false (begun ++ run))
  grown_any number begun run =
      grind (
        arith,
        segments_idle number (segment_size options) options.announce begun,
        append-nil {A = ℕ},
        segments_of-append number begun run false,
      )

  -- the same, after the texts of the bundles before it
  prelude_bytes-append : (bundles : List BundleWithInfo) (segments more all : List ℕ) → segments ++ more ≡ all
      → (prelude_bytes options ++ transfer_bytes options 0 bundles ++ segments) ++ more
      ≡ prelude_bytes options ++ transfer_bytes options 0 bundles ++ all
  prelude_bytes-append bundles segments more all is =
      rw (append_assoc (prelude_bytes options ++ transfer_bytes options 0 bundles), is) refl

  -- the bundle with this number goes on
  pub texts_grown : (number : ℕ) (bundles : List BundleWithInfo) (begun run : List ℕ)
      → number ≡ length bundles
      → texts_of options bundles begun then on_output (due_with number begun run false)
      ≡ texts_of options bundles (begun ++ run)
  texts_grown number bundles begun run numbered =
      rw numbered (texts_as
      (prelude_bytes-append bundles _ _ _ (grown_any (length bundles) begun run))
      (append-nil (report_lines options 0 bundles)))

  -- it is whole, and no byte of the next one has come
  pub texts_whole : (number : ℕ) (bundles : List BundleWithInfo) (begun run : List ℕ) (bundle : BundleWithInfo)
      → number ≡ length bundles → bundle.bytes ≡ begun ++ run → 0 < length run
      → texts_of options bundles begun
      then (record {
        output = due_with number begun run true;
        report = report_line options number bundle;
      })
      ≡ texts_of options (bundles ++ bundle ∷ []) []
  texts_whole number bundles begun run bundle numbered is some =
      let n = length bundles in
      let segments = λ (bytes : List ℕ). segments_of n (sending options true bytes) in
      let all = bundles ++ bundle ∷ [] in
      rw numbered (texts_as
      (prelude_bytes-append bundles _ _ _ (segments_of-append n begun run true some ∙ ap segments (sym is))
      ∙ rw (
        segments_none (length all) (segment_size options) options.announce,
        transfers_of_push 0 n bundles bundle (omega arith),
        append-nil,
        append_assoc (prelude_bytes options),
      ) refl)
      (sym (lines_of_push 0 n bundles bundle (omega arith))))

-- ---- how many bytes the cutter keeps between two steps

-- what is left of an incomplete bundle once all due chunks were cut
left_few : (segment hold size : ℕ) → 0 < segment
    → size - due_of false segment hold size * segment ≤ max (segment - 1) hold
left_few segment hold size some = grind (arith, nat_tests, full_count)
  where
    full_count : size < (size / segment + 1) * segment
    full_count = grind (arith, fits_back segment (size / segment + 1) size some)

pub kept_few : (options : PackOptions) (cutter : Cutter) (begun : List ℕ)
    → IsCutterAt cutter (cutting options begun)
    → kept_size cutter ≤ max (segment_size options - 1) options.announce
kept_few options cutter begun at =
    let segment = segment_size options in
    let count = due_of false segment options.announce (length begun) in
    let none : length cutter.held.given ≡ 0 = ap length at.chunk in
    let left : length cutter.held.bytes ≡ length begun - count * segment =
    ap length at.held ∙ rw (length-drop _ begun, first_chunks-length segment count begun) refl in
    omega (arith, none, left, left_few segment options.announce (length begun) at.some)

-- ---- the line of a bundle

rounded_up : (segment size count : ℕ) → 0 < segment → size ≤ count * segment
    → count * segment < size + segment → count ≡ chunk_count segment size
rounded_up segment size count some least most =
    grind (arith, fits_back segment count (size + (segment - 1)) some, fits segment (count + 1) (size + (segment - 1)) some)

-- a division that rounds up counts the chunks of `size` bytes
pub chunks_counted : (segment size : ℕ) → 0 < segment
    → size / segment + min 1 (size % segment) ≡ chunk_count segment size
chunks_counted segment size some =
    let within = div_ceil_times size segment some in
    rounded_up segment size (size / segment + min 1 (size % segment)) some within.0 within.1

-- ---- the bytes of a run, where `texts` are those for some bundles and for bytes of the next one

kept_as : (options : PackOptions) (cutter : Cutter) (begun : List ℕ) (cuts : Cutting)
    → cuts ≡ cutting options begun → IsCutterAt cutter cuts → IsCutterIn options cutter begun
kept_as options cutter begun cuts is at =
    let here = rw is at at in
    record { cut = here; kept = kept_few options cutter begun here }

module _ {W E : Type 0} (out_look : W → Output) (report_look : E → Output) (options : PackOptions)
    (texts : List BundleWithInfo → List ℕ → Texts) (before : SoFar) (run : List ℕ) (id : ℕ)
    (cutter : Cutter) where
  abbrev pushed : (last : Bool) → Cutting
  pushed last = with_bytes run last (cutting options before.begun)

  abbrev TellsRun : (now : SoFar) → (old new : Writers W E) → Result (Unit {0}) IoFault → Type 0
  TellsRun now old new result =
      WritesRestOfTexts out_look report_look (texts before.bundles before.begun)
      (texts now.bundles now.begun) (IsCutterIn options cutter now.begun) old new result

  -- the bundle goes on
  pub went_on : texts before.bundles before.begun
      then on_output (segments_left id (pushed false))
      ≡ texts before.bundles (before.begun ++ run)
      → (old new : Writers W E) (result : Result (Unit {0}) IoFault)
      → Sends out_look report_look id (pushed false) old new cutter result
      → TellsRun (with_run before run None) old new result
  went_on said old new result sends = record {
    texts = on_output (segments_left id (pushed false));
    said = said;
    wrote = sends.wrote;
    known = on_ok_by result (kept_as _ cutter _ _ (all_given_open _ _ _ run)) sends.after;
  }

  -- the bundle is whole: its last segments are written, and then its line
  module _ (bundle : BundleWithInfo) (line : List ℕ) (some : 0 < length run)
      (said : texts before.bundles before.begun
      then (record { output = segments_left id (pushed true); report = line })
      ≡ texts (before.bundles ++ bundle ∷ []) [])
      (old mid : Writers W E) where
    abbrev ended : SoFar
    ended = between (before.bundles ++ bundle ∷ [])

    last : List ℕ
    last = segments_left id (pushed true)

    tells_ended : (new : Writers W E) (result : Result (Unit {0}) IoFault)
        → AfterWrite out_look report_look old new (on_output last then on_report line) result
        → OnOk result (IsCutterIn options cutter []) → TellsRun ended old new result
    unfolding last
    tells_ended new result wrote known = record {
      texts = on_output last then on_report line;
      said = rw (append-nil last) said;
      wrote = wrote;
      known = known;
    }

    pub lost : (fault : IoFault)
        → Sends out_look report_look id (pushed true) old mid cutter (Err fault)
        → TellsRun ended old mid (Err fault)
    unfolding last
    lost fault sends =
        tells_ended mid (Err fault) (part_of_more out_look report_look old mid (on_output last)
        (on_report line) fault (λ none. refl) sends.wrote) tt

    pub with_line : (done : Unit {0})
        → Sends out_look report_look id (pushed true) old mid cutter (Ok done)
        → (new : Writers W E) (result : Result (Unit {0}) IoFault)
        → AfterWrite out_look report_look mid new (on_report line) result
        → TellsRun ended old new result
    unfolding last
    with_line done sends new result wrote =
        tells_ended new result
        (output_then _ _ old mid new last _ result sends.wrote wrote)
        (holds_if result (kept_as _ cutter [] _ (all_given_ended _ _ _ run some
        ∙ sym (open_none _ _)) sends.after))

-- ---- the input, from its bundles and the bytes of the next one

module _ (options : PackOptions) where
  pub prelude_texts : texts_of options [] [] ≡ record { output = prelude_bytes options; report = [] }
  unfolding transfer_bytes report_lines
  prelude_texts =
      rw (segments_none 0 (segment_size options) options.announce, append-nil, append-nil) refl

  -- ---- `pack` as a tool over bundles

  abbrev telling : BundleTelling
  telling = pack_telling options

  same_by : (bundles : List BundleWithInfo) (rest : Option TailAfterBundles)
      → (let input : Divided = record { bundles = bundles; rest = rest } in
      ((told_by telling input).texts ≡ (packing_by options input).texts)
      × (whole_of (told_by telling input) ≡ whole_of (packing_by options input)))
  same_by bundles None =
      rw (
        segments_none (length bundles) (segment_size options) options.announce,
        append-nil (report_lines options 0 bundles),
      ) (refl, refl)
  same_by bundles (Some rest) = (refl, refl)

  pub same_tool : tool_of (told_of telling) ≡ pack_tool options
  unfolding told_of packing_of
  same_tool = grind (arith, fun_ext, same_by)
