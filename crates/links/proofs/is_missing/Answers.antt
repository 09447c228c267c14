-- `links::is_missing` meets its contract: the place of a far side that is not there is 0. Assumes nothing.
use Rattle.theory.specs.FarSides.{own}
use Rattle.bad_rows.specs.BadRows.{missing}
use Rattle.links.specs.Laws.Searches.{place_none}
use Rattle.links.proofs.is_missing.Goals as goal

pub returns : goal.returns
unfolding missing
returns c =
    let a = c.args in
    rw (c.place_of.ensures, c.own_link.ensures) (place_none 0 (own a.n a.i) a.fars.now)
