-- What the export that reads the text of an endpoint ID returns.
use Rattle.std.specs.Prelude.{◌≡◌, ◌⊎◌, ℕ, ◌<◌, List, take, drop, length}
use Rattle.link_bundle_types.specs.declared.eid.Eid.{Eid}
use Rattle.link_report_eid_parser.specs.TextOf.{IsTextOf, IsNoText}
use Rattle.link_ffi_numbers.specs.Bundle.{no_eid, eid_shown, name_of}
use Rattle.link_ffi_numbers.specs.Status.{status_ok, status_too_small, status_range}
use Rattle.link_ffi_numbers.specs.declared.bundle.EidNumbers.{EidNumbers}

-- TCPCLKIT_OK: the endpoint ID with these numbers has this text. The slice begins with its name,
-- and the bytes after the name are as they were.
pub record ReturnsFittingEid (text old slice : List ℕ) (numbers : EidNumbers) : Type 0 where
  pub eid : Eid
  pub is : IsTextOf eid text
  pub numbers_are : numbers ≡ eid_shown eid
  pub name : take (length (name_of eid)) slice ≡ name_of eid
  pub rest : drop (length (name_of eid)) slice ≡ drop (length (name_of eid)) old

-- TCPCLKIT_TOO_SMALL: the endpoint ID with these numbers has this text. The slice is too small for
-- its name, and is as it was.
pub record ReturnsEidLongerThanSlice (text old slice : List ℕ) (numbers : EidNumbers) : Type 0 where
  pub eid : Eid
  pub is : IsTextOf eid text
  pub numbers_are : numbers ≡ eid_shown eid
  pub longer : length slice < length (name_of eid)
  pub same : slice ≡ old

-- TCPCLKIT_RANGE: no endpoint ID has this text. Each number is 0, and the slice is as it was.
pub record ReturnsNoEid (text old slice : List ℕ) (numbers : EidNumbers) : Type 0 where
  pub none : IsNoText text
  pub numbers_are : numbers ≡ no_eid
  pub same : slice ≡ old

-- What the call that reads a text returns, case by case of its status: TCPCLKIT_OK,
-- TCPCLKIT_TOO_SMALL or TCPCLKIT_RANGE.
pub record ReturnsEidOfText (text old slice : List ℕ) (numbers : EidNumbers) (status : ℕ)
    : Type 0 where
  pub read : status ≡ status_ok → ReturnsFittingEid text old slice numbers
  pub too_small : status ≡ status_too_small → ReturnsEidLongerThanSlice text old slice numbers
  pub range : status ≡ status_range → ReturnsNoEid text old slice numbers
  pub one : (status ≡ status_ok) ⊎ ((status ≡ status_too_small) ⊎ (status ≡ status_range))
