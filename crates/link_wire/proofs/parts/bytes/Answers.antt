use Rattle.std.proofs.Common.{◌≡◌, ◌≤◌, ℕ, List, length, take, Ok, Err, ⊎_elim, refl, arith, ap, ◌∙◌, append-nil, length-take}
use Rattle.std.proofs.lemmas.Bool.{cases_lt}
use Rattle.link_io.specs.Source.{at_hand}
use Rattle.link_wire.specs.{Getting.IsEnoughFor, Part.bytes_at}
use Rattle.link_wire.proofs.FieldReads.{bytes_at-there, bytes_at-short}
use Rattle.link_wire.proofs.parts.bytes.Goals as goal

-- bytes that are enough for a field are as many as it has
as_many : (n : ℕ) (bytes : List ℕ) → IsEnoughFor (bytes_at n) bytes → n ≤ length bytes
as_many n bytes enough =
    ⊎_elim (λ short. absurd (enough (bytes_at-short n bytes short))) (λ all. all)
    (cases_lt (length bytes) n)

pub returns-in-Ok-Whole : goal.returns-in-Ok-Whole
returns-in-Ok-Whole g c = λ live.
    let look = g.R.InDevice.state in
    let whole = rw c.in-Ok-Whole.field-0-is at (c.in-Ok-Whole.ensures.fills.gives live) in
    let field = c.fill.new.buffer in
    record {
      by = record {
        given = field;
        takes = whole.takes;
        live = whole.live;
        is = record { is_part = bytes_at-there field; needs = λ count fewer. bytes_at-short _ _ (omega (arith, length-take count field)) };
      };
      here = λ enough.
          let many = as_many (length field) (at_hand look c.args.source.now) enough in
          let gives =
          c.in-Ok-Whole.ensures.here (omega (arith, many, c.fill.auto.buffer))
          (ap Ok c.in-Ok-Whole.field-0-is) in (
            gives.unread,
            ap (bytes_at (length field)) gives.parts
                ∙ bytes_at-there field (at_hand look c.fill.new.self),
          );
    }

pub returns-in-Ok-Ended : goal.returns-in-Ok-Ended
returns-in-Ok-Ended g c = λ live.
    let part = rw c.in-Ok-Ended.field-0-is at (c.in-Ok-Ended.ensures.fills.gives live) in
    let field = take c.in-Ok-Ended.field-0-0 c.fill.new.buffer in
    let fewer = part.part in
    record {
      by = record {
        given = field;
        takes = part.takes;
        is = record {
          is_fault = λ more may.
              let none = may refl in
              rw none (ap (bytes_at _) (append-nil field) ∙ bytes_at-short _ _ (omega (arith, length-take c.in-Ok-Ended.field-0-0 c.fill.new.buffer)));
          needs = λ count less. bytes_at-short _ _ (omega (arith, length-take count field, length-take c.in-Ok-Ended.field-0-0 c.fill.new.buffer));
        };
        over = λ _. part.over;
      };
      here = λ enough.
          let many = as_many (length c.fill.new.buffer) _ enough in
          c.in-Ok-Ended.ensures.unread (omega (arith, many, c.fill.auto.buffer));
    }

pub returns-in-Err : goal.returns-in-Err
returns-in-Err g c = λ live.
    let before = c.in-Err.ensures.fills.gives live in
    let fewer = before.part in
    record {
      by = record {
        given = take before.count c.fill.new.buffer;
        stops = before.stops;
        is_cut = bytes_at-short _ _ (omega (arith, length-take before.count c.fill.new.buffer));
      };
      here = λ enough.
          let many = as_many (length c.fill.new.buffer) _ enough in
          c.in-Err.ensures.unread (omega (arith, many, c.fill.auto.buffer));
    }
