use Rattle.link_transfer.proofs.Cuttings.{AreChunks-chunks, chunks_only}
use Rattle.link_transfer.proofs.laws.one_cutting.Goals as goal

pub returns : goal.returns
returns c segment bundle list some =
    (λ are. chunks_only segment bundle list some are, λ is. rw is (AreChunks-chunks segment bundle some))
