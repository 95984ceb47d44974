-- The endpoint ID that a text was written from.
use Rattle.std.specs.Prelude.{◌≡◌, ◌≢◌, ◌⊎◌, ℕ, ◌^◌, ◌<◌, ◌≤◌, List, length, take, drop, codes, Result, Ok, Err}
use Rattle.link_io.specs.Bytes.{AreBytes}
use Rattle.link_bundle_types.specs.declared.eid.{Eid.Eid, Eid.TheVariants.{DtnNone, Dtn, Ipn, Ipn3}}
use Rattle.link_bundle_types.specs.declared.kept_eid.EidForm.{EidForm}
use Rattle.link_bundle_types.specs.declared.kept_eid.EidForm.TheVariants as form
use Rattle.link_bundle_types.specs.KeptEid.{formed_eid}
use Rattle.link_report_eid_parser.specs.declared.text.TextFault.{TextFault}
use Rattle.link_report_eid_parser.specs.declared.text.TextFault.TheVariants.{NoText, NameTooLong}
use Rattle.link_report.specs.Eid.{eid_text}

-- An endpoint ID that a bundle can have: each number fits in 64 bits, and a dtn name has at most
-- 1,024 bytes. The dtn name `none` has the text of the null endpoint, and is not meant here.
abbrev pub IsPossibleEid : Eid → Type 0
IsPossibleEid DtnNone = Unit {0}
IsPossibleEid (Dtn name) =
    AreBytes name.items × (length name.items ≤ 1024) × (name.items ≢ codes "none")
IsPossibleEid (Ipn node service) = (node < 2 ^ 64) × (service < 2 ^ 64)
IsPossibleEid (Ipn3 allocator node service) =
    (allocator < 2 ^ 64) × (node < 2 ^ 64) × (service < 2 ^ 64)

-- this is the text of the endpoint ID, which a bundle can have
pub record IsTextOf (eid : Eid) (text : List ℕ) : Type 0 where
  pub shown : IsPossibleEid eid
  pub is : eid_text eid ≡ text

-- no endpoint ID has this text
abbrev pub IsNoText : List ℕ → Type 0
IsNoText text = (eid : Eid) → IsPossibleEid eid → eid_text eid ≢ text

-- An endpoint ID of this form was read. The slice begins with its dtn name, which has `size` bytes.
-- If there is no dtn name, `size` is 0. The rest of the slice is as it was.
pub record ReadEid (text old new : List ℕ) (read : EidForm) (size : ℕ) : Type 0 where
  pub within : size ≤ length new
  pub is : IsTextOf (formed_eid read (take size new)) text
  pub named : (read ≡ form.Dtn) ⊎ (size ≡ 0)
  pub rest : drop size new ≡ drop size old

-- a dtn name has more bytes than the slice, which is as it was
pub record RefusedNameLongerThanSlice (text old new : List ℕ) (size : ℕ) : Type 0 where
  pub name : List ℕ
  pub is : IsTextOf (Dtn (record { items = name })) text
  pub size_is : size ≡ length name
  pub longer : length new < length name
  pub same : new ≡ old

-- What the reading of a text returns: the form and the length of the dtn name, or a fault. After a
-- fault, the slice is as it was.
abbrev pub ReadsText : (text old new : List ℕ) → Result (EidForm × ℕ) TextFault → Type 0
ReadsText text old new (Ok (form, size)) = ReadEid text old new form size
ReadsText text old new (Err NoText) = IsNoText text × (new ≡ old)
ReadsText text old new (Err (NameTooLong size)) = RefusedNameLongerThanSlice text old new size

-- No two endpoint IDs have the same text.
abbrev pub TextDeterminesEid : Type 0
TextDeterminesEid = (one other : Eid) → IsPossibleEid one → IsPossibleEid other
    → eid_text one ≡ eid_text other → one ≡ other
