-- `choice::choice` meets its contract: the far sides of a table that was read ascend. Assumes nothing.
use Rattle.std.specs.Prelude.{Ok}
use Rattle.std.proofs.Common.{rules, ◌≡◌}
use Rattle.choice.specs.Laws.Read.{read_listed}
use Rattle.link_forms.specs.Form.{link_form_at}
use Rattle.choice.proofs.choice.Goals as goal

pub against_second-requires : goal.against_second-requires
against_second-requires c =
    let was : c.read.result ≡ Ok c.in_ok-read.read = search rules in
    let q = read_listed (link_form_at c.args.first.now 0) c.args.first.now c.read.ensures was in
    (q.least, q.most, q.ascending, q.short)
