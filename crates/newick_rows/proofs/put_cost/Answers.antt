-- `newick_rows::put_cost` meets its contract: colon, digits and the byte behind them, one behind the other. Assumes nothing.
use Rattle.text.specs.Laws.Putting.{put_then}
use Rattle.newick_rows.proofs.put_cost.Goals as goal

pub returns : goal.returns
returns c = rw (← c.from.ensures) (put_then c.put_byte-colon.ensures (put_then c.put_number-cost.ensures c.put_byte.ensures))
