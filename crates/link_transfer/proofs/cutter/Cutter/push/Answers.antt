use Rattle.std.proofs.{Common.{[], ◌∷◌, ap, refl, arith}, lemmas.List.Elements.{All-nil, All-push}}
use Rattle.link_wire.specs.Bytes.{IsByte}
use Rattle.link_transfer.specs.Held.{HeldBytes}
use Rattle.link_transfer.proofs.Steps.{IsCutterAt-push, quiet_room}
use Rattle.link_transfer.proofs.cutter.Cutter.push.Goals as goal

pub returns : goal.returns
returns c = λ so_far at.
    IsCutterAt-push c.args.self.now _ so_far (c.args.byte ∷ []) c.args.last (omega arith)
    (All-push IsByte [] c.args.byte (All-nil IsByte) (omega arith)) c.requires
    (record {
      segment = refl;
      hold = refl;
      given = ap (λ (h : HeldBytes). h.given) c.push.ensures;
      bytes = ap (λ (h : HeldBytes). h.bytes) c.push.ensures;
      begun = refl;
      ended = refl;
      room = quiet_room _ _ _ _ _ c.requires;
    })
    at
