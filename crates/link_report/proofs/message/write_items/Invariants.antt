use Rattle.std.proofs.Common.{◌*◌, take}
use Rattle.std.specs.List.{flat_map}
use Rattle.link_report.specs.{Message.item_text, Written.PutsText}
use Rattle.link_report.proofs.message.write_items.Given as goal

abbrev pub invariant-loop-item : goal.invariant-loop-item
invariant-loop-item l = PutsText l.initial.page l.page l.initial.end l.end (34 * l.item-index)
    (flat_map item_text (take l.item-index l.items))
