-- `newick_writer::write_rows` meets its contract: the text is put where its bytes have room. Assumes nothing.
use Rattle.ground.specs.Laws.Outcomes.{written_goes}
use Rattle.text.specs.Laws.Putting.{put_front}
use Rattle.newick_writer.proofs.write_rows.Goals as goal

pub returns : goal.returns
returns c = let f = put_front c.put_rows.ensures in written_goes _ _ _ c.in_ok-refuse_if.was (cc) f.0 f.1
