-- `choice::read` meets its contract: what `stored_links::read_links` promises, from the first byte on and with 128 places. Assumes nothing.
use Rattle.std.proofs.Common.{refl, replicate}
use Rattle.choice.specs.Laws.Read.{read_is}
use Rattle.link_forms.specs.Form.{link_form_at}
use Rattle.choice.proofs.read.Goals as goal

pub returns : goal.returns
returns c =
    read_is (link_form_at c.args.bytes.now 0) c.args.bytes.now c.args.fars.now (replicate 128 0) _ _ c.requires refl c.read_links.ensures
