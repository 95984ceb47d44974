use Rattle.std.proofs.Common.{ℕ, ◌-◌, List, Some, ◌∙◌}
use Rattle.link_io.specs.{Limits.longest_input, Source.{held_from, taken_by}}
use Rattle.link_io.proofs.Windows.{window_next, held_next, begins_all, drop_later}
use Rattle.link_io.proofs.source.Source.peek.Goals as goal

pub returns-then-window-bytes-clause-next : goal.returns-then-window-bytes-clause-next
returns-then-window-bytes-clause-next g c =
    rw (c.copy_into.ensures.text, c.window-window.ensures.window) (window_next _ _ _)

pub returns-clause-next : goal.returns-clause-next
returns-clause-next g c =
    rw (c.copy_into-2.ensures.text, c.copy_into-at.ensures.text, c.window-window.ensures.window) (held_next _ _ _ _ c.held_ahead-held.ensures.next)

pub returns-clause-rest : goal.returns-clause-rest
returns-clause-rest g c =
    c.copy_into-2.ensures.rest ∙ drop_later _ _ _ _ _ c.copy_into-2.ensures.end c.copy_into-at.ensures.rest

pub returns-then-window-bytes-clause-here : goal.returns-then-window-bytes-clause-here
returns-then-window-bytes-clause-here g c =
    let s = c.args.self.now in
    let held : List ℕ =
    held_from s.flow (longest_input - taken_by s) (g.R.InDevice.state s.reader).held in
    rw (c.copy_into.ensures.text, c.window-window.ensures.window) (window_next (Some held) _ _)

pub returns-clause-here : goal.returns-clause-here
returns-clause-here g c =
    let s = c.args.self.now in
    let held : List ℕ =
    held_from s.flow (longest_input - taken_by s) (g.R.InDevice.state s.reader).held in
    rw (c.copy_into-2.ensures.text, c.copy_into-at.ensures.text, c.window-window.ensures.window, c.held_ahead-held.ensures.held) (held_next (Some held) _ held _ (begins_all held))
