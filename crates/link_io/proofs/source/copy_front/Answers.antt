use Rattle.std.proofs.Common.{◌≡◌, take, ap, sym, ◌∙◌, arith, length-take}
use Rattle.link_io.proofs.source.copy_front.Goals as goal

pub returns-clause-size : goal.returns-clause-size
returns-clause-size c =
    omega (
      arith,
      c.copy_into.ensures.end,
      c.min-size.ensures,
      c.requires,
      length-take c.min-size.result c.args.bytes.now,
    )

pub returns-clause-bytes : goal.returns-clause-bytes
returns-clause-bytes c =
    let size : c.copy_into.result ≡ c.min-size.result =
    omega (
      arith,
      c.copy_into.ensures.end,
      c.min-size.ensures,
      length-take c.min-size.result c.args.bytes.now,
    ) in
    c.copy_into.ensures.text ∙ ap (λ n. take n c.args.bytes.now) (sym size)
