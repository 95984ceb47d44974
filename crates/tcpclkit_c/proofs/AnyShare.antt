-- A `&` to a scan is made of any share of the memory that the scan lies in.
use Prim.Native.Nat.{ℕ}
use mathlib.Core.Path.{◌≡◌, subst}
use mathlib.Core.List.{List, [], ◌∷◌}
use seplogic.Ra.Ura.{Ura}
use mir.Val.{Val}
use base.Stored.{Coded}
use base.Logic.{ent}
use base.Fml.{Fml, Lft, Share, ftrue, fsep, fex}
use types.Logic.{Logic, sem}
use types.Kit.{‵, ◌$◌, ◌∵◌, !, qed, move, fsplit, fjoin, fpick, fpack, done}
use denote.Sharing.{nothing, beside, some}
use denote.RattleType.{RattleType}
use denote.Memory.{part_of, part_at, cell_raw, raw_all, shared_of}
use denote.Shares.{SharesAsFrom, SharesAllFrom, shares_Struct_from, shares_Recorded_from}
use denote.Copied.{Ones, members_of, rows_of_lem}
use denote.Struct.Members.{Member, rows_of, Lones}
use denote.Struct.Struct.{Struct}
use denote.Struct.Field.{Field, rows}
use denote.Struct.Declared.{Declared, fields, shape, row}
use denote.Struct.Laws.{Copyable, Copyables}
use denote.Struct.Lending.{Lends-both, Lends-nothing}
use denote.Model.{viewed, View, owned}
use denote.Model.Laws.{Lends-as, Lends-some}
use denote.Param.Shared.{Sharables}
use denote.Builtin.{u64}
use denote.Param.Laws.{of_field, of_copyable}
use denote.Param.Shared.{copy_shared}
use denote.Struct.Field.{u64-field, bool-field}
use denote.Struct.Laws.{u64-laws, u64-copy, bool-copy}
use denote.Struct.Tuple.{Tuple, tuple_laws, tuple_copy}
use mathlib.Core.Path.{refl}
use Rattle.std.proofs.option.Option.TheLaws as option
use Rattle.std.specs.contracts.option.Option as option_row
use Rattle.link_cbor.proofs.check.CheckKind.TheLaws as kind_laws
use Rattle.link_cbor.specs.contracts.check.CheckKind as kind
use Rattle.link_cbor.specs.contracts.check.Check as check
use Rattle.link_cbor.proofs.check.Check.TheLaws as check_laws
use Rattle.link_bundle_blocks.specs.contracts.block.CanonicalBlock as block
use Rattle.link_bundle_blocks.proofs.block.CanonicalBlock.TheLaws as block_laws
use Rattle.link_bundle_types.specs.contracts.kept_eid.KeptEid.{the_view as eid_view, the_invariant as eid_invariant}
use Rattle.link_bundle_types.specs.contracts.kept_eid.KeptEid.TheInside as eid
use Rattle.link_bundle_types.specs.declared.kept_eid.KeptEid as eid_type
use Rattle.link_bundle_types.proofs.kept_eid.KeptEid.TheInside.TheLaws as eid_laws
use Rattle.link_bundle_types.specs.contracts.numbers.BlockNumbers.{the_view as numbers_view, the_invariant as numbers_invariant}
use Rattle.link_bundle_types.specs.contracts.numbers.BlockNumbers.TheInside as numbers
use Rattle.link_bundle_types.specs.declared.numbers.BlockNumbers as numbers_type
use Rattle.link_bundle_types.proofs.numbers.BlockNumbers.TheInside.TheLaws as numbers_laws
use Rattle.link_bundle.specs.contracts.hold.Hold.{the_view as hold_view, the_invariant as hold_invariant}
use Rattle.link_bundle.specs.contracts.hold.Hold.TheInside as hold
use Rattle.link_bundle.specs.declared.hold.Hold as hold_type
use Rattle.link_bundle.proofs.hold.Hold.TheInside.TheLaws as hold_laws
use Rattle.link_bundle.specs.contracts.stage.ScanStage as stage
use Rattle.link_bundle.proofs.stage.ScanStage.TheLaws as stage_laws
use Rattle.link_bundle.specs.contracts.cursor.Cursor as cursor
use Rattle.link_bundle.proofs.cursor.Cursor.TheLaws as cursor_laws
use Rattle.link_bundle.specs.contracts.draft.Draft as draft
use Rattle.link_bundle.proofs.draft.Draft.TheLaws as draft_laws
use Rattle.link_bundle.specs.contracts.scan.BundleScan as bundle
use Rattle.link_bundle.proofs.scan.BundleScan.TheLaws as bundle_laws
use Rattle.tcpclkit_c.specs.contracts.scan.MarkedScan as marked
use Rattle.tcpclkit_c.proofs.scan.MarkedScan.TheLaws as marked_laws

-- a `&` is made of any share of a value, whatever the lifetime
abbrev pub AnyShare : RattleType → Type 2
AnyShare R = (M : Type 1) (𝓤 : Ura M) (𝓛 : Logic 𝓤) (q : Share) (l : Lft) → SharesAsFrom 𝓛 q R (shared_of R) l

abbrev pub AnyShares : List Field → Type 2
AnyShares [] = Unit {2}
AnyShares (F ∷ Fs) = AnyShare F.row × AnyShares Fs

pub copy_any : (F : Field) → Copyable F → AnyShare F.row
copy_any F c M 𝓤 𝓛 = (c.copied M 𝓤 𝓛).shares

pub copy_all : (Fs : List Field) → Copyables Fs → AnyShares Fs
copy_all [] cs = tt
copy_all (F ∷ Fs) cs = (copy_any F cs.0, copy_all Fs cs.1)

-- ---- a struct, from its fields
ones : (Fs : List Field) → Sharables Fs → Ones (rows Fs)
ones [] ss = tt
ones (F ∷ Fs) ss = (ss.0.alone, ones Fs ss.1)

module _ {M : Type 1} {𝓤 : Ura M} (𝓛 : Logic 𝓤) (q : Share) (l : Lft) where
  lones : (Fs : List Field) → Sharables Fs → Lones (rows Fs)
  lones [] ss = tt
  lones (F ∷ Fs) ss = (ss.0.single M 𝓤 𝓛, lones Fs ss.1)

  abbrev Each : List RattleType → Type 1
  Each [] = Unit {1}
  Each (R ∷ Rs) = SharesAsFrom 𝓛 q R (shared_of R) l × Each Rs

  each : (Fs : List Field) → AnyShares Fs → Each (rows Fs)
  each [] cs = tt
  each (F ∷ Fs) cs = (cs.0 M 𝓤 𝓛 q l, each Fs cs.1)

  of_members : (ms : List Member) → Each (rows_of ms) → SharesAllFrom 𝓛 q ms l
  of_members [] es = tt
  of_members (m ∷ ms) es = (es.0, of_members ms es.1)

  bare : (T : Declared) → Sharables T.parts → AnyShares T.parts → SharesAsFrom 𝓛 q (Struct (shape T)) (shared_of (Struct (shape T))) l
  bare T ss cs =
      subst (λ (Rs : List RattleType). Lones Rs → Each Rs → SharesAsFrom 𝓛 q (Struct (record { name = T.name; args = T.args; types = T.types; fields = Rs })) (shared_of (Struct (record { name = T.name; args = T.args; types = T.types; fields = Rs }))) l)
      (rows_of_lem (fields T) (ones T.parts ss))
      (λ ls es. shares_Struct_from 𝓛 q T.name (members_of (fields T)) ls l (of_members (members_of (fields T)) es))
      (lones T.parts ss) (each T.parts cs)

pub struct_field_any : (T : Declared) → Sharables T.parts → AnyShares T.parts → AnyShare (Struct (shape T))
struct_field_any T ss cs M 𝓤 𝓛 q l = bare 𝓛 q l T ss cs

pub struct_any : (T : Declared) → Sharables T.parts → AnyShares T.parts → AnyShare (row T)
struct_any T ss cs M 𝓤 𝓛 q l =
    shares_Recorded_from 𝓛 q (Struct (shape T)) T.D T.to T.to_one (shared_of (Struct (shape T))) l (bare 𝓛 q l T ss cs)

-- ---- a type with a view, from its fields
module _ (F : RattleType) (D : Type 0) (c : Coded D) (view : F.Denot → D) (holds : F.Denot → Type 0) where
  abbrev V : RattleType
  V = View F D c view holds

  abbrev Fields : D → Type 0
  Fields d = (a : F.Denot) × ((view a ≡ d) × holds a)

  module _ {M : Type 1} {𝓤 : Ura M} (𝓛 : Logic 𝓤) (q : Share) (d : D) (b o : ℕ) where
    abbrev apart : Fields d → Fml
    apart x = fsep (part_at F q x.0 b o) ftrue

    opens : ent 𝓤 (sem 𝓛 (part_at V q d b o)) (sem 𝓛 (fex (Fields d) apart))
    unfolding part_of
    opens = qed 𝓛 (‵ (part_at V q d b o) ∷ []) ∵ fpick ! (λ vs. fsplit ! $ move ! (1 ∷ []) $ fpick ! (λ x. fsplit ! $ move ! (2 ∷ 0 ∷ []) $ fjoin ! $
        fpack ! (List Val) (λ us. fsep (cell_raw q (raw_all F.mir) us b o) (F.own_val x.0 us)) vs $ fjoin ! $ fpack ! (Fields d) apart x $ done !))

    closes : ent 𝓤 (sem 𝓛 (fex (Fields d) apart)) (sem 𝓛 (part_at V q d b o))
    unfolding part_of
    closes = qed 𝓛 (‵ (fex (Fields d) apart) ∷ []) ∵ fpick ! (λ x. fsplit ! $ fpick ! (λ vs. fsplit ! $ move ! (1 ∷ 2 ∷ []) $ fjoin ! $
        fpack ! (Fields d) (λ y. fsep (F.own_val y.0 vs) ftrue) x $ move ! (1 ∷ 0 ∷ []) $ fjoin ! $
        fpack ! (List Val) (λ us. fsep (cell_raw q (raw_all F.mir) us b o) (owned F (viewed F D c view holds (λ a. ftrue)) d us)) vs $ done !))

  pub view_any : AnyShare F → AnyShare V
  view_any any M 𝓤 𝓛 q l d κ ts b o =
      Lends-as 𝓛 (part_at V q d b o) (fex (Fields d) (apart 𝓛 q d b o)) (V.shr_at d b o) l (opens 𝓛 q d b o) (closes 𝓛 q d b o)
      (Lends-some 𝓛 (Fields d) (apart 𝓛 q d b o) (λ x. beside (F.shr_at x.0 b o) nothing) l
      (λ x. Lends-both 𝓛 (part_at F q x.0 b o) ftrue (F.shr_at x.0 b o) nothing l
      (λ κ' ts'. any M 𝓤 𝓛 q l x.0 κ' ts' b o) (Lends-nothing 𝓛 ftrue l))) κ ts

-- ---- the parts of a scan
number_any : AnyShare u64-field.row
number_any = copy_any u64-field u64-copy

pair_any : AnyShare (option_row.the_field (Tuple (u64 ∷ u64 ∷ []))).row
pair_any =
    copy_any (option_row.the_field (Tuple (u64 ∷ u64 ∷ []))) (option.the_field_copy (Tuple (u64 ∷ u64 ∷ []))
    (tuple_laws (u64 ∷ u64 ∷ []) (of_field u64-field u64-laws refl (copy_shared u64-field u64-copy), (of_field u64-field u64-laws refl (copy_shared u64-field u64-copy), tt)))
    (tuple_copy (u64 ∷ u64 ∷ []) (of_copyable u64-field u64-copy, (of_copyable u64-field u64-copy, tt))))

kind_any : AnyShare (option_row.the_field kind.the_row).row
kind_any = copy_any (option_row.the_field kind.the_row) (option.the_field_copy kind.the_row kind_laws.the_row_laws kind_laws.the_row_copy)

eid_any : AnyShare (View eid.the_row eid_type.KeptEid eid_type.the_code eid_view eid_invariant)
eid_any = view_any eid.the_row eid_type.KeptEid eid_type.the_code eid_view eid_invariant (struct_any eid.the_type eid_laws.the_shared (copy_all eid.the_type.parts eid_laws.the_copy))

numbers_any : AnyShare (View numbers.the_row numbers_type.BlockNumbers numbers_type.the_code numbers_view numbers_invariant)
numbers_any = view_any numbers.the_row numbers_type.BlockNumbers numbers_type.the_code numbers_view numbers_invariant (struct_any numbers.the_type numbers_laws.the_shared (copy_all numbers.the_type.parts numbers_laws.the_copy))

hold_any : AnyShare (View hold.the_row hold_type.Hold hold_type.the_code hold_view hold_invariant)
hold_any = view_any hold.the_row hold_type.Hold hold_type.the_code hold_view hold_invariant (struct_any hold.the_type hold_laws.the_shared (copy_all hold.the_type.parts hold_laws.the_copy))

cursor_any : AnyShare cursor.the_field.row
cursor_any = struct_field_any cursor.the_type cursor_laws.the_shared (number_any, (hold_any, (copy_any check.the_field check_laws.the_field_copy, tt)))

draft_any : AnyShare draft.the_field.row
draft_any =
    struct_field_any draft.the_type draft_laws.the_shared (
      copy_any bool-field bool-copy,
      (
        number_any,
        (
          eid_any,
          (
            eid_any,
            (
              eid_any,
              (
                number_any,
                (
                  number_any,
                  (
                    number_any,
                    (pair_any, (kind_any, (copy_any block.the_field block_laws.the_field_copy, (numbers_any, (pair_any, tt))))),
                  ),
                ),
              ),
            ),
          ),
        ),
      ),
    )

bundle_any : AnyShare bundle.the_field.row
bundle_any = struct_field_any bundle.the_type bundle_laws.the_shared (copy_any stage.the_field stage_laws.the_field_copy, (cursor_any, (draft_any, tt)))

-- a `&` to a scan is made of any share of it
pub scan_any : AnyShare marked.the_row
scan_any = struct_any marked.the_type marked_laws.the_shared (number_any, (bundle_any, tt))
