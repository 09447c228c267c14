-- `recognition::can_graft` meets its contract: the own link, and then the formula gives the entries of the first i images placed before.
-- Assumes nothing.
use Rattle.std.proofs.Common.{Bool, List, arith, suc, sym, ℕ, ◌+◌, ◌∙◌, ◌≡◌}
use Rattle.tables.specs.Entries.{costs_in}
use Rattle.recognition.specs.Laws.Below.{below_end, below_fails, below_more, below_none}
use Rattle.recognition.proofs.Laws.Facts.{grafts-both}
use Rattle.recognition.proofs.Laws.Seats.{own-reached, seats_formula}
use Rattle.recognition.specs.Recognition.{formula, placed, recognised}
use Rattle.recognition.specs.Seats.{seat}
use Rattle.recognition.proofs.can_graft.Goals as goal

-- what the formula answers at a place is whether its entry is recognised
asked : (d : ℕ → ℕ → ℕ) (l : List ℕ) (p i : ℕ) {x z j : ℕ} {r b : Bool} → x ≡ seat l p → z ≡ seat l (p + 1) → seat l 0 ≡ 0 → j ≡ seat l i
    → r ≡ formula d 0 x z j → r ≡ b → recognised (placed d (seat l)) p i ≡ b
asked d l p i x-is z-is first j-is r-is b-is = sym (seats_formula d l p _ _ x-is z-is first i _ j-is) ∙ sym r-is ∙ b-is

pub loop-i-init : goal.loop-i-init
loop-i-init c = below_none _

pub loop-i-preserved : goal.loop-i-preserved
loop-i-preserved c =
    let a = c.args in
    below_more _ _ c.loop-i.invariant
    (asked (costs_in a.t.now) a.o.now a.p _ c.seat_of-x.ensures.0 c.seat_of-z.ensures.0 c.requires.0.places.first c.seat_of.ensures.0 c.is_recognised.ensures
    c.if-not-is_recognised.false)

pub returns-then-not-is_recognised : goal.returns-then-not-is_recognised
returns-then-not-is_recognised c =
    let a = c.args in
    let reached = own-reached (costs_in a.t.now) a.o.now a.p _ _ c.seat_of-x.ensures.0 c.seat_of-z.ensures.0 c.requires.0.places.first _ _ _ c.entry-fx.ensures.0 c.entry-fz.ensures.0 c.entry-xz.ensures.0 (omega (arith, c.if-fz-xz.false)) in
    grafts-both (placed (costs_in a.t.now) (seat a.o.now)) a.p _ reached
    (below_fails (recognised (placed (costs_in a.t.now) (seat a.o.now)) a.p) c.loop-i.i (suc a.p) (omega arith)
    (asked (costs_in a.t.now) a.o.now a.p _ c.seat_of-x.ensures.0 c.seat_of-z.ensures.0 c.requires.0.places.first c.seat_of.ensures.0 c.is_recognised.ensures
    c.if-not-is_recognised.true))

pub returns-else-not-is_recognised : goal.returns-else-not-is_recognised
returns-else-not-is_recognised c =
    let a = c.args in
    let reached = own-reached (costs_in a.t.now) a.o.now a.p _ _ c.seat_of-x.ensures.0 c.seat_of-z.ensures.0 c.requires.0.places.first _ _ _ c.entry-fx.ensures.0 c.entry-fz.ensures.0 c.entry-xz.ensures.0 (omega (arith, c.if-fz-xz.false)) in
    grafts-both (placed (costs_in a.t.now) (seat a.o.now)) a.p _ reached
    (below_end (recognised (placed (costs_in a.t.now) (seat a.o.now)) a.p) (c.loop-i.i + 1) (suc a.p) (omega arith) (omega arith)
    (below_more _ _ c.loop-i.invariant
    (asked (costs_in a.t.now) a.o.now a.p _ c.seat_of-x.ensures.0 c.seat_of-z.ensures.0 c.requires.0.places.first c.seat_of.ensures.0 c.is_recognised.ensures
    c.if-not-is_recognised.false)))
