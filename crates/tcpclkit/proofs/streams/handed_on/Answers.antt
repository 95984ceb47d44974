use Rattle.std.proofs.Common.{sym, ◌∙◌}
use Rattle.tcpclkit.proofs.Buffered.{handed_part}
use Rattle.tcpclkit.proofs.streams.handed_on.Goals as goal

pub returns-else-is_ok : goal.returns-else-is_ok
returns-else-is_ok g c =
    handed_part c.into_device-device.result.1 _ _ _ (sym c.is_ok.ensures.value ∙ c.if-is_ok.false) c.into_device-device.ensures.part c.into_device-device.ensures.failed
