-- `refusal_text::refusal_text` meets its contract: the table, what is said, and the zero byte, where there is room. Assumes nothing.
use Rattle.ground.specs.Laws.Outcomes.{written_goes}
use Rattle.text.specs.Laws.Putting.{put_front, put_then}
use Rattle.refusal_text.specs.Text.{refusal_text}
use Rattle.refusal_text.proofs.refusal_text.Goals as goal

pub returns : goal.returns
unfolding refusal_text
returns c =
    let p = put_front (put_then (put_then c.put_table-p.ensures c.put_said-q.ensures) c.put_byte.ensures) in
    written_goes _ _ _ c.in_ok-refuse_if.was c.refuse_if.ensures p.0 p.1
