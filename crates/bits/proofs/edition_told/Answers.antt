-- `bits::edition_told` meets its contract: each return by what the tests before it say of the first seven bits. Assumes nothing.
use Rattle.std.proofs.Common.{arith, eqb-true, sym}
use Rattle.bits.specs.Laws.Editions.{edition_new, edition_none, edition_old}
use Rattle.bits.proofs.edition_told.Goals as goal

pub returns-then-is_empty : goal.returns-then-is_empty
returns-then-is_empty c = sym (edition_none c.args.bytes.now (eqb-true _ _ (sym c.if-is_empty.ensures)))

pub returns-then-get-eq-NEW_MARK : goal.returns-then-get-eq-NEW_MARK
returns-then-get-eq-NEW_MARK c =
    sym (edition_new c.args.bytes.now (omega (arith, c.if-get-eq-NEW_MARK.true, c.get.ensures)))

pub returns : goal.returns
returns c = sym (edition_old c.args.bytes.now (λ e. omega (arith, e, c.if-get-eq-NEW_MARK.false, c.get.ensures)))
