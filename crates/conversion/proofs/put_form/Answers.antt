-- `conversion::put_form` meets its contract: the mark and n, the entries and the fill bits, one behind the other, make the form. Assumes nothing.
use Rattle.cost_fields.specs.Laws.Putting.{entries_room, fill_room, form_put}
use Rattle.conversion.specs.Laws.Taken.{entries_taken}
use Rattle.conversion.proofs.put_form.Goals as goal

pub finish-requires : goal.finish-requires
finish-requires c =
    fill_room _ _ _ (entries_room c.args.to _ c.requires.2 c.start-begun.auto.out c.start-begun.ensures) c.put_entries-entered.auto.out
    (entries_taken c.args.from _ _ _ c.put_entries-entered.ensures)

pub returns : goal.returns
returns c =
    form_put _ _ _ (λ i. (c.type_inv.out i).fits) c.start-begun.ensures (entries_taken c.args.from _ _ _ c.put_entries-entered.ensures) c.finish.ensures
