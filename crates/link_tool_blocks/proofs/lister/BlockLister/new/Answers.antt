use Rattle.std.proofs.Common.{refl}
use Rattle.link_tool_blocks.proofs.Told.{knows_nothing}
use Rattle.link_tool_blocks.proofs.lister.BlockLister.new.Goals as goal

pub returns : goal.returns
returns c = λ options. knows_nothing options _ c.new.ensures.size refl
