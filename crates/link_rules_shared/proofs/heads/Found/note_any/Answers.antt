use Rattle.std.proofs.Common.{◌≡◌, ℕ, Bool, true, false, Option, Some, sym, ◌∙◌, refl}
use Rattle.std.specs.{Bool.then_some, Option.option_or}
use Rattle.link_cbor.specs.declared.head.Head.{Head as HeadItem}
use Rattle.link_rules_shared.specs.declared.heads.Found.{Found}
use Rattle.link_rules_shared.specs.Heads.{is_long, is_open_string, is_open_item, is_encoded}
use Rattle.link_rules_shared.specs.HeadWalk.{NotesCborHead, noted}
use Rattle.link_rules_shared.proofs.Walks.{or_none}
use Rattle.link_rules_shared.proofs.heads.Found.note_any.Goals as goal
use Rattle.link_rules_shared.proofs.heads.Found.note_any.Goals.{then-is_long, else-is_long}

-- the others, where only a long head was noted
others : (old middle new : Found) (offset : ℕ) (head : HeadItem) (size : ℕ)
    (string item encoded : Bool) → middle.long ≡ noted is_long old.long offset head size
    → middle.string ≡ old.string → middle.item ≡ old.item → middle.encoded ≡ old.encoded
    → new.long ≡ middle.long → new.string ≡ option_or middle.string (then_some string offset)
    → new.item ≡ option_or middle.item (then_some item offset)
    → new.encoded ≡ option_or middle.encoded (then_some encoded offset)
    → string ≡ is_open_string head size → item ≡ is_open_item head size
    → encoded ≡ is_encoded head size → NotesCborHead old new offset head size
others old middle new offset head size string item encoded l s i e long strings items encodeds is
    are has = record {
      long = long ∙ l;
      string = rw (strings, s, is) refl;
      item = rw (items, i, are) refl;
      encoded = rw (encodeds, e, has) refl;
    }

is_noted : (old : Option ℕ) (offset : ℕ) (long : Bool) → long ≡ true
    → option_or old (Some offset) ≡ option_or old (then_some long offset)
is_noted old offset long is = rw is refl

none_noted : (old : Option ℕ) (offset : ℕ) (long : Bool) → long ≡ false
    → old ≡ option_or old (then_some long offset)
none_noted old offset long is = rw is (sym (or_none old))

pub returns-then-is_indefinite : goal.returns-then-is_indefinite
returns-then-is_indefinite c =
    let after = c.note_unread.ensures in
    let size = c.args.size in
    elim c.if-is_long.branch [
      | then-is_long w ↦ others c.args.self.now c.if-is_long.self c.note_unread.new.self c.args.offset
          c.args.head size _ _ _
          (rw w.self-is (w.note_long.ensures.long
          ∙ is_noted _ _ _ (sym c.is_long.ensures ∙ w.if-is_long.true)))
          (rw w.self-is w.note_long.ensures.string) (rw w.self-is w.note_long.ensures.item)
          (rw w.self-is w.note_long.ensures.encoded)
          after.long after.string after.item after.encoded (c.is_open_string.ensures size)
          (c.is_open_item.ensures size) c.is_encoded-encoded.ensures
      | else-is_long w ↦ others c.args.self.now c.if-is_long.self c.note_unread.new.self c.args.offset
          c.args.head size _ _ _
          (rw w.self-is (none_noted _ _ _ (sym c.is_long.ensures ∙ w.if-is_long.false)))
          (rw w.self-is refl) (rw w.self-is refl) (rw w.self-is refl)
          after.long after.string after.item after.encoded (c.is_open_string.ensures size)
          (c.is_open_item.ensures size) c.is_encoded-encoded.ensures
    ]
