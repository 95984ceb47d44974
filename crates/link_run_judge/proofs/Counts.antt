-- What is counted of the events so far, after more of them.
use Rattle.std.proofs.Common.{◌≡◌, ℕ, ◌+◌, Bool, true, false, not, ◌&&◌, List, [], ◌∷◌, ◌++◌, length, Result, Ok, Err, OnOk, refl, ◌∙◌, arith}
use Rattle.std.specs.List.{fold}
use Rattle.std.proofs.lemmas.Grind.{fold-append}
use Rattle.link_wire.specs.declared.IoFault.{IoFault}
use Rattle.link_run_over_transfers.specs.Walk.{WalkEvent, open_after_event, data_size_of, data_size, has_open}
use Rattle.link_run_over_transfers.specs.Telling.{data_ends}
use Rattle.link_run_over_transfers.proofs.Heads.{has_open-append}

pub on_ok : {P : Type 0} → (result : Result (Unit {0}) IoFault) → P → OnOk result P
on_ok (Ok done) holds = holds
on_ok (Err fault) holds = tt

module _ (before : List WalkEvent) where
  pub size_then : (event : WalkEvent)
      → data_size (before ++ event ∷ []) ≡ data_size before + data_size_of event
  unfolding data_size
  size_then event = fold-append (λ size e. size + data_size_of e) 0 before (event ∷ [])

  pub open_then : (event : WalkEvent)
      → has_open (before ++ event ∷ []) ≡ open_after_event (has_open before) event
  open_then event = has_open-append before (event ∷ [])

size_of_data : (bytes : List ℕ) (whole : Bool) (size : ℕ)
    → fold (λ total e. total + data_size_of e) size (data_ends bytes whole) ≡ size + length bytes
size_of_data [] true size = omega arith
size_of_data [] false size = omega arith
size_of_data (byte ∷ bytes) whole size = size_of_data bytes whole (size + 1) ∙ omega arith

open_of_data : (bytes : List ℕ) (whole opened : Bool)
    → fold open_after_event opened (data_ends bytes whole) ≡ (not whole && opened)
open_of_data [] true opened = refl
open_of_data [] false opened = refl
open_of_data (byte ∷ bytes) whole opened = open_of_data bytes whole opened

module _ (before : List WalkEvent) (bytes : List ℕ) (whole : Bool) where
  pub size_with_data : data_size (before ++ data_ends bytes whole) ≡ data_size before + length bytes
  unfolding data_size
  size_with_data =
      fold-append (λ size e. size + data_size_of e) 0 before (data_ends bytes whole)
      ∙ size_of_data bytes whole _

  pub open_with_data : has_open (before ++ data_ends bytes whole) ≡ (not whole && has_open before)
  open_with_data = has_open-append before (data_ends bytes whole) ∙ open_of_data bytes whole _
