-- What a tool was told of the blocks of a bundle, and what it has written.
use Rattle.std.proofs.Common.{◌≡◌, ℕ, List, ◌++◌, length, Result, Ok, Err, refl, ap, sym, ◌∙◌, arith}
use Rattle.std.specs.Prelude.{OnOk}
use Rattle.link_wire.specs.Device.{Output}
use Rattle.link_wire.specs.declared.IoFault.{IoFault}
use Rattle.link_bundle_blocks.specs.Blocks.{Block, PrimaryOf, CanonicalOf}
use Rattle.link_bundle_blocks.specs.declared.block.CanonicalBlock.{CanonicalBlock}
use Rattle.link_bundle_data_in_pieces.specs.DataReader.{IsDataReaderIn}
use Rattle.link_bundle_data_in_pieces.specs.declared.data.DataReader.{DataReader}
use Rattle.link_run.specs.Run.{Texts, ◌then◌, no_texts}
use Rattle.link_run.specs.Writers.{on_output}
use Rattle.link_run.specs.declared.writers.Writers.{Writers}
use Rattle.link_run.proofs.Runs.{then_assoc, then_none, output_then, part_of_more, writes_none}
use Rattle.link_run_over_bundle_files.specs.{Blocks.HasReadData, Telling.WritesRestOfTexts}

-- ---- the data of a block

pub read_data : (reader : DataReader) (seen : List ℕ) (block : Block)
    → ((canonical : CanonicalBlock) → block ≡ CanonicalOf canonical
    → IsDataReaderIn reader seen canonical)
    → HasReadData reader seen block
read_data reader seen (PrimaryOf primary check end) reads = tt
read_data reader seen (CanonicalOf canonical) reads = reads canonical refl

-- ---- texts

-- texts that complete an output have no report
only_output : (had due : List ℕ) (texts : Texts) → on_output had then texts ≡ on_output due
    → texts ≡ on_output texts.output
only_output had due texts said =
    ap (λ (report : List ℕ). record { output = texts.output; report = report })
    (ap (λ (texts : Texts). texts.report) said)

-- what holds if nothing failed
pub on_ok_by : {P Q : Type 0} (result : Result (Unit {0}) IoFault) → (P → Q) → OnOk result P
    → OnOk result Q
on_ok_by (Ok done) step holds = step holds
on_ok_by (Err fault) step holds = tt

module _ {W E : Type 0} {out_look : W → Output} {report_look : E → Output} where
  -- all that is due was written before
  pub told_none : {P : Type 0} {had due : Texts} {writers : Writers W E} → had ≡ due → P
      → WritesRestOfTexts out_look report_look had due P writers writers (Ok tt)
  told_none {had = had} {writers = writers} same known = record {
    texts = no_texts;
    said = then_none had ∙ same;
    wrote = writes_none out_look report_look writers;
    known = known;
  }

  module _ {P : Type 0} {had due : Texts} {old new : Writers W E}
      {result : Result (Unit {0}) IoFault}
      (told : WritesRestOfTexts out_look report_look had due P old new result) where
    -- what holds then
    pub told_known : {Q : Type 0} → (P → Q) → WritesRestOfTexts out_look report_look had due Q old new result
    told_known step = record {
      texts = told.texts;
      said = told.said;
      wrote = told.wrote;
      known = on_ok_by result step told.known;
    }

    -- what was written comes after what was said before
    pub told_after : (front : Texts)
        → WritesRestOfTexts out_look report_look (front then had) (front then due) P old new result
    told_after front = record {
      texts = told.texts;
      said = sym (then_assoc front had told.texts)
          ∙ ap (λ (texts : Texts). front then texts) told.said;
      wrote = told.wrote;
      known = told.known;
    }

module _ {W E : Type 0} {out_look : W → Output} {report_look : E → Output} {P Q : Type 0}
    {old new : Writers W E} {had some : List ℕ} where
  -- texts were written, and then others, or a writer failed in these
  pub told_then : {mid : Writers W E} {due : List ℕ} {result : Result (Unit {0}) IoFault}
      → WritesRestOfTexts out_look report_look (on_output had) (on_output some) P old mid (Ok tt)
      → WritesRestOfTexts out_look report_look (on_output some) (on_output due) Q mid new result
      → WritesRestOfTexts out_look report_look (on_output had) (on_output due) Q old new result
  told_then {mid = mid} {result = result} first second =
      let only = only_output had some first.texts first.said in
      record {
        texts = first.texts then second.texts;
        said = then_assoc (on_output had) first.texts second.texts
            ∙ ap (λ (texts : Texts). texts then second.texts) first.said ∙ second.said;
        wrote = rw only (output_then out_look report_look old mid new first.texts.output
            second.texts result (rw only at first.wrote) second.wrote);
        known = second.known;
      }

  -- a writer failed before more texts were written
  pub told_part : {fault : IoFault} (more : List ℕ)
      → WritesRestOfTexts out_look report_look (on_output had) (on_output some) P old new (Err fault)
      → WritesRestOfTexts out_look report_look (on_output had) (on_output (some ++ more)) Q old new (Err fault)
  told_part {fault = fault} more told = record {
    texts = told.texts then on_output more;
    said = then_assoc (on_output had) told.texts (on_output more)
        ∙ ap (λ (texts : Texts). texts then on_output more) told.said;
    wrote = part_of_more out_look report_look old new told.texts (on_output more) fault
        (λ reported. absurd (omega (
          arith,
          ap (λ (texts : Texts). length texts.report) (only_output had some told.texts told.said),
        ))) told.wrote;
    known = tt;
  }
