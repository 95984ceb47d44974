use Rattle.std.proofs.Common.{◌≡◌, ◌≢◌, ◌<◌, [], ◌++◌, refl, length, take, drop, ap, sym, ◌∙◌, arith, length-append, length-take, length-drop}
use Rattle.std.proofs.{Math.Seq.take-append_seam, lemmas.Bool.Decides.nat_tests}
use Rattle.link_io.proofs.Sources.{Takes-none}
use Rattle.link_wire.specs.Session.{left_of}
use Rattle.link_wire.proofs.Sessions.{data_given, gave_then, data_stopped}
use Rattle.link_wire.proofs.session.Session.data.Goals as goal

pub returns-in_err-ready-clause-gives : goal.returns-in_err-ready-clause-gives
returns-in_err-ready-clause-gives g c = λ history at.
    data_stopped g.R.InDevice.state c.args.self.now c.load.new.self history c.args.buffer.now
    c.from_residual.result _ c.from_residual.ensures.1 (c.in_err-ready.ensures.loads.gives history at)

pub returns-clause-gives : goal.returns-clause-gives
returns-clause-gives g c = λ history at.
    let loaded = c.in_ok-ready.ensures.loads.gives history at in
    let part = c.copy.new.part in
    let count = c.min-count.result in
    let buffer = c.args.buffer.now in
    let rest = drop count buffer in
    let size : length part ≡ count = omega (arith, c.copy.auto.part, length-take count buffer) in
    let given : take count (part ++ rest) ≡ part =
    ap (λ n. take n (part ++ rest)) (sym size) ∙ take-append_seam part rest in
    let copied = c.copy.ensures.gives history loaded.at in
    let ready : c.in_ok-ready.ready ≢ 0 = c.if-ready-eq0.false in
    let room : 0 < length buffer =
    grind (arith, nat_tests, c.is_empty.ensures, c.if-is_empty.false) in
    let old = c.args.self.now in
    let some : 0 < length part = omega (arith, size, c.min-count.ensures) in
    record {
      room = omega (arith, length-append part rest, size);
      gave = rw given
          (gave_then old c.load.new.self c.copy.new.self history part _ loaded copied some);
      some = λ left room.
          let long = length-append part rest in
          omega (arith, c.min-count.ensures, long, size, length-drop count buffer);
    }

-- no data was left, and nothing was read
pub returns-then-ready-eq0-clause-gives : goal.returns-then-ready-eq0-clause-gives
returns-then-ready-eq0-clause-gives g c = λ history at.
    let old = c.args.self.now in
    let loaded = c.in_ok-ready.ensures.loads.gives history at in
    let some = loaded.some in
    let empty : c.in_ok-ready.ready ≡ 0 = c.if-ready-eq0.true in
    let none : left_of old ≡ 0 = grind (arith, some, empty) in
    let same = (c.in_ok-ready.ensures.loads.none_left none (λ stop stopped. let going = at.going in cc)).0 in
    rw same (record {
      room = omega arith;
      gave = data_given old old history [] at (Takes-none g.R.InDevice.state old.source) at.live
          at.going refl (omega arith);
      some = λ left room. absurd (omega (arith, none));
    })
