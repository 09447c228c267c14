-- `text::put_fields` meets its contract: what is left to write loses its first field in each turn. Assumes nothing.
use Rattle.std.proofs.Common.{rules}
use Rattle.text.proofs.Laws.Turns.{field_step}
use Rattle.text.proofs.put_fields.Goals as goal

pub loop-x-preserved : goal.loop-x-preserved
loop-x-preserved c = search (rules, field_step)
