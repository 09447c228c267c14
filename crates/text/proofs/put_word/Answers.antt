-- `text::put_word` meets its contract: what is left to write loses its first byte in each turn. Assumes nothing.
use Rattle.std.proofs.Common.{rules}
use Rattle.text.proofs.Laws.Turns.{word_step}
use Rattle.text.proofs.put_word.Goals as goal

pub loop-byte-preserved : goal.loop-byte-preserved
loop-byte-preserved c = search (rules, word_step)
