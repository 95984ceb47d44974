use Rattle.link_run.proofs.run.RunEnd.unbegun.Given as goal

abbrev pub ghost-new : goal.ghost-new
ghost-new g a = λ reader. reader
