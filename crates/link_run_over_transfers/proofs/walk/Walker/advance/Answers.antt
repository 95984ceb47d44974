use Rattle.link_run_over_transfers.proofs.walk.Walker.advance.Goals as goal

pub returns-in-Data-clause-gives : goal.returns-in-Data-clause-gives
returns-in-Data-clause-gives g c = rw c.in-Data.is c.take_data.ensures.gives

pub returns-in-Stray-clause-gives : goal.returns-in-Stray-clause-gives
returns-in-Stray-clause-gives g c =
    rw c.in-Stray.is (c.pass_stray.ensures.gives c.args.options.now c.args.self.now)
