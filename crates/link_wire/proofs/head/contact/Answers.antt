use Rattle.std.proofs.{Common.{eq-eqb, slice_index, sym, ◌∙◌}, lemmas.Bool.ne_eqb}
use Rattle.byteorder.specs.Endian.{big_number}
use Rattle.link_wire.proofs.Gettings.{exit, exiting, after, pure, refuse, is_live, if_true, if_false}
use Rattle.link_wire.specs.Message.{contact_at}
use Rattle.link_wire.proofs.head.contact.Goals as goal

pub returns-in_err-header : goal.returns-in_err-header
unfolding contact_at
returns-in_err-header g c = λ live. exiting _ c.from_residual.ensures.1 (exit _ (c.in_err-header.ensures live))

pub returns-then-read_u32-ne-MAGIC : goal.returns-then-read_u32-ne-MAGIC
unfolding contact_at
returns-then-read_u32-ne-MAGIC g c = λ live.
    let header = c.in_ok-header.header in
    after _ (c.in_ok-header.ensures live)
    (if_false _ _ (ne_eqb (big_number 4 header) _ (λ e. c.if-read_u32-ne-MAGIC.true (c.read_u32.ensures ∙ e))) (refuse (λ e. cc)))

pub returns-then-header-ne-VERSION : goal.returns-then-header-ne-VERSION
unfolding contact_at
returns-then-header-ne-VERSION g c = λ live.
    let header = c.in_ok-header.header in
    after _ (c.in_ok-header.ensures live)
    (if_true _ _ (eq-eqb (big_number 4 header) _ (sym c.read_u32.ensures ∙ c.if-read_u32-ne-MAGIC.false))
    (if_false _ _ (ne_eqb (slice_index header 4) _ c.if-header-ne-VERSION.true) (refuse (λ e. cc))))

pub returns : goal.returns
unfolding contact_at
returns g c = λ live.
    let header = c.in_ok-header.header in
    let read = c.in_ok-header.ensures live in
    after _ read
    (if_true _ _ (eq-eqb (big_number 4 header) _ (sym c.read_u32.ensures ∙ c.if-read_u32-ne-MAGIC.false))
    (if_true _ _ (eq-eqb (slice_index header 4) _ c.if-header-ne-VERSION.false) (pure (is_live read))))
