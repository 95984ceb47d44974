use Rattle.link_tools_laws.proofs.Packed.{keeps, is_packed}
use Rattle.link_tools_laws.proofs.laws.keeps_limits.Goals as goal

pub returns : goal.returns
returns c =
    keeps _ _
    (is_packed _ _ c.options_fit.ensures c.input_fits.ensures c.exactly_one_reading.ensures.only)
