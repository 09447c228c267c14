-- `near_images::with_near` meets its contract: the bit of y is put on top, or not. Assumes nothing.
use Rattle.std.proofs.Common.{sym, ◌∙◌}
use Rattle.near_images.specs.Laws.Turns.{near_no, near_yes}
use Rattle.near_images.proofs.with_near.Goals as goal

pub returns-then-is_near : goal.returns-then-is_near
returns-then-is_near c =
    let p = c.requires in
    rw c.bit_alone.ensures (near_yes _ _ _ _ _ p.2 p.4 (sym c.is_near.ensures ∙ c.if-is_near.true))

pub returns-else-is_near : goal.returns-else-is_near
returns-else-is_near c = near_no _ _ _ _ _ c.requires.4 (sym c.is_near.ensures ∙ c.if-is_near.false)
