-- `choice::against_second` meets its contract: the far sides of a table that was read ascend. Assumes nothing.
use Rattle.std.specs.Prelude.{Ok}
use Rattle.std.proofs.Common.{rules, ◌≡◌}
use Rattle.choice.specs.Laws.Read.{read_listed}
use Rattle.link_forms.specs.Form.{link_form_at}
use Rattle.choice.proofs.against_second.Goals as goal

pub take_one-requires : goal.take_one-requires
take_one-requires c =
    let was : c.read.result ≡ Ok c.in_ok-read.read = search rules in
    let q = read_listed (link_form_at c.args.second.now 0) c.args.second.now c.read.ensures was in
    let h = c.if-n-read.false in
    (c.requires.0, c.requires.1, c.requires.2, rw h q.ascending, c.requires.3, q.short)
