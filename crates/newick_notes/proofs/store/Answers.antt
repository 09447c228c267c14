-- `newick_notes::store` meets its contract: a row is stored where there is room. Assumes nothing.
use Rattle.newick_notes.specs.Laws.Storing.{stored_room}
use Rattle.newick_notes.proofs.store.Goals as goal

pub returns-then-rows-lt128 : goal.returns-then-rows-lt128
returns-then-rows-lt128 c = stored_room _ _ _ _ _ c.if-rows-lt128.true c.requires.1
