-- `cost_fields::put_form` meets its contract: the mark and n, the entries and the fill bits, one behind the other, make the form. Assumes nothing.
use Rattle.cost_fields.specs.Laws.Putting.{form_put}
use Rattle.cost_fields.proofs.put_form.Goals as goal

pub returns : goal.returns
returns c = form_put _ _ _ (λ i. (c.type_inv.out i).fits) c.start-begun.ensures c.put_entries-entered.ensures c.finish.ensures
