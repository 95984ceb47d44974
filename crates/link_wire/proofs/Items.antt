-- The items of a list, one after another.
use Rattle.std.proofs.Common.{◌≡◌, ℕ, zero, suc, ◌+◌, ◌-◌, ◌<◌, List, [], ◌∷◌, ◌++◌, Option, Result, Ok, Err, eqb, false, arith, refl, ap, sym, append_assoc}
use Rattle.std.proofs.lemmas.Bool.{ne_eqb}
use Rattle.link_io.specs.{Device.Input, Source.IsLive}
use Rattle.link_wire.specs.Getting.{ReadsPart}
use Rattle.link_wire.proofs.Gettings.{exit, after, pure, refuse, is_live, if_false}
use Rattle.link_wire.specs.declared.message.ListOf.{ListOf}
use Rattle.link_wire.specs.Message.{item_head_at, total_at, items_at}
use Rattle.link_wire.specs.declared.fault.WireFault.TheVariants as wire
use Rattle.link_wire.specs.declared.halt.Halt.{Halt}
use Rattle.link_wire.specs.declared.halt.Halt.TheVariants as halt
use Rattle.link_wire.specs.declared.{list.ItemHead.ItemHead, message.Item.Item}
use Rattle.link_io.specs.declared.source.Source.{Source}

-- puts items before those that were read
abbrev pub with_before : List Item → Result (List Item) Halt → Result (List Item) Halt
with_before before (Ok items) = Ok (before ++ items)
with_before before (Err stop) = Err stop

pub with_before-append : (xs ys : List Item) (outcome : Result (List Item) Halt)
    → with_before xs (with_before ys outcome) ≡ with_before (xs ++ ys) outcome
with_before-append xs ys (Ok items) = ap Ok (sym (append_assoc xs ys items))
with_before-append xs ys (Err stop) = refl

abbrev pub item_of : ItemHead → Option ℕ → Item
item_of head total = record { flags = head.flags; kind = head.kind; length = head.length; total = total }

pub some_left : (left : ℕ) → 0 < left → eqb left 0 ≡ false
some_left left some = ne_eqb left 0 (λ none. omega arith)

module _ {R : Type 0} {look : R → Input} (owner : ListOf) where
  -- no bytes of the list are left
  pub items_none : (room left : ℕ) {source : Source R} → left ≡ 0 → IsLive look source
      → ReadsPart look (items_at owner room left) source source (Ok [])
  unfolding items_at
  items_none zero left none live = rw none (pure live)
  items_none (suc room) left none live = rw none (pure live)

  module _ {old mid : Source R} (left : ℕ) (some : 0 < left) where
    -- the head of the next item was not read
    pub items_exit : (room : ℕ) {stop : Halt} → ReadsPart look (item_head_at left) old mid (Err stop)
        → ReadsPart look (items_at owner room left) old mid (Err stop)
    unfolding items_at
    items_exit zero met = if_false _ _ (some_left left some) (exit _ met)
    items_exit (suc room) met = if_false _ _ (some_left left some) (exit _ met)

    module _ {head : ItemHead} (got : ReadsPart look (item_head_at left) old mid (Ok head)) where
      -- there is no room for the next item
      pub items_full : (room : ℕ) → room ≡ 0
          → ReadsPart look (items_at owner room left) old mid (Err (halt.Wire wire.TooManyItems))
      unfolding items_at
      items_full room none =
          rw none (if_false _ _ (some_left left some) (after _ got (refuse (λ e. cc))))

      -- the value of the next item was not read
      pub items_exit_total : (room less : ℕ) {new : Source R} {stop : Halt} → room ≡ suc less
          → ReadsPart look (total_at owner head.kind head.length) mid new (Err stop)
          → ReadsPart look (items_at owner room left) old new (Err stop)
      unfolding items_at
      items_exit_total room less is met =
          rw is (if_false _ _ (some_left left some) (after _ got (exit _ met)))

      -- the next item, and those after it
      pub items_more : (room less : ℕ) {next new : Source R} (total : Option ℕ)
          (outcome : Result (List Item) Halt) → room ≡ suc less
          → ReadsPart look (total_at owner head.kind head.length) mid next (Ok total)
          → ReadsPart look (items_at owner less (left - (5 + head.length))) next new outcome
          → ReadsPart look (items_at owner room left) old new
          (with_before (item_of head total ∷ []) outcome)
      unfolding items_at
      items_more room less total (Ok items) is known others =
          rw is (if_false _ _ (some_left left some)
          (after _ got (after _ known (after _ others (pure (is_live others))))))
      items_more room less total (Err stop) is known met =
          rw is (if_false _ _ (some_left left some) (after _ got (after _ known (exit _ met))))
