use Rattle.std.proofs.Common.{◌≡◌, ℕ, suc, zero, length, Result, Ok, Err, IfOk, ap, sym, refl, arith, ◌∙◌}
use Rattle.link_io.specs.Device.{Input}
use Rattle.link_io.specs.Source.{front_of, window_of, HasEnded, AfterReady, AfterReadyFront}
use Rattle.link_io.specs.declared.{fault.IoFault.IoFault, source.Source.Source}
use Rattle.link_io.proofs.Sources.{front_empty, front_ended, front_failed, front_window, gives_none}
use Rattle.link_io.proofs.source.Source.ready_front.Goals as goal

module _ {R : Type 0} (look : R → Input) (s : Source R) where
  -- after a read, what lies in the window is at hand
  front_size : (n : ℕ) → n ≡ length (window_of s) → (n ≡ 0 → HasEnded s)
      → n ≡ length (front_of look s)
  front_size zero size over = sym (ap length (front_ended look s (over refl)))
  front_size (suc n) size over = size ∙ sym (ap length (front_window look s (omega arith)))

  size_by : (result : Result ℕ IoFault) → IfOk result (λ n. n ≡ length (window_of s))
      → IfOk result (λ n. n ≡ 0 → HasEnded s) → IfOk result (λ n. n ≡ length (front_of look s))
  size_by (Ok n) size over = front_size n size over
  size_by (Err fault) size over = tt

by_window : {R : Type 0} (look : R → Input) (old new : Source R) (result : Result ℕ IoFault)
    → AfterReady look old new result → AfterReadyFront look old new result
by_window look old new (Ok n) gives = record {
  readies = gives.readies;
  live = gives.live;
  size = front_size look new n gives.size (λ none. (gives.over none).ended);
  over = gives.over;
}
by_window look old new (Err fault) gives = gives

pub returns-then-ready-gt0-clause-ended : goal.returns-then-ready-gt0-clause-ended
returns-then-ready-gt0-clause-ended g c = λ ended.
    absurd (omega (arith, c.if-ready-gt0.true, ap length c.front-ready.ensures.front, ap length (front_ended g.R.InDevice.state c.args.self.now ended)))

pub returns-then-ready-gt0-clause-failed : goal.returns-then-ready-gt0-clause-failed
returns-then-ready-gt0-clause-failed g c = λ fault failed.
    absurd (omega (arith, c.if-ready-gt0.true, ap length c.front-ready.ensures.front, ap length (front_failed g.R.InDevice.state c.args.self.now fault failed)))

pub read_on-requires : goal.read_on-requires
read_on-requires g c =
    let s = c.args.self.now in
    let order = s.ordered in
    let room = s.room in
    front_empty g.R.InDevice.state s order (omega (arith, room)) (omega (arith, c.if-ready-gt0.false, ap length c.front-ready.ensures.front))

pub returns-clause-size : goal.returns-clause-size
returns-clause-size g c = size_by g.R.InDevice.state c.read_on.new.self c.read_on.result c.read_on.ensures.size c.read_on.ensures.over

pub returns-clause-gives : goal.returns-clause-gives
returns-clause-gives g c = λ live. by_window g.R.InDevice.state c.args.self.now c.read_on.new.self c.read_on.result (c.read_on.ensures.gives live)

pub returns-then-ready-gt0-clause-here : goal.returns-then-ready-gt0-clause-here
returns-then-ready-gt0-clause-here g c = λ some. gives_none g.R.InDevice.state c.args.self.now
