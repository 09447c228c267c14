-- `choice::take_one` meets its contract: a table includes the other where the common far sides are all of the other's. Assumes nothing.
use Rattle.std.specs.Prelude.{Err}
use Rattle.std.proofs.Common.{ap, ◌^◌, ◌∙◌}
use Rattle.choice.proofs.Laws.Chain.{takes_first, takes_none, takes_second}
use Rattle.choice.proofs.take_one.Goals as goal

pub returns-then-d : goal.returns-then-d
returns-then-d c =
    let a = c.args in
    takes_first a.n (2 ^ a.n) a.first.now a.second.now c.requires.2 c.requires.3 a.i a.j c.differ-d.ensures c.if-d.true

pub returns-then-d-2 : goal.returns-then-d-2
returns-then-d-2 c =
    let a = c.args in
    takes_second a.n (2 ^ a.n) a.first.now a.second.now c.requires.2 c.requires.3 a.i a.j c.differ-d.ensures
    c.if-d.false c.if-d-2.true

pub returns : goal.returns
returns c =
    let a = c.args in
    ap Err c.plain.ensures
    ∙ takes_none a.n (2 ^ a.n) a.first.now a.second.now c.requires.2 c.requires.3 a.i a.j c.differ-d.ensures
    c.if-d.false c.if-d-2.false
