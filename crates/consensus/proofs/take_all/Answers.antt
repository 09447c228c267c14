-- `consensus::take_all` meets its contract: the first table, and then the others. Assumes nothing.
use Rattle.consensus.proofs.take_all.Goals as goal

pub take_others-requires : goal.take_others-requires
take_others-requires c = (c.requires.0, c.take_first.ensures.accepted _ c.in_ok-first.was)
