-- `chains::turn_image` meets its contract: the sides that hold z and have q of them below are lowered. Assumes nothing.
use Rattle.std.proofs.Common.{List, ap, arith, suc, ℕ, ◌+◌, ◌-◌, ◌<◌, ◌∙◌, ◌≡◌}
use Rattle.theory.proofs.Laws.FourPoint.{well_formed_less}
use Rattle.theory.specs.Tables.{WellFormed, limit}
use Rattle.tables.specs.Entries.{costs_in}
use Rattle.tables.specs.declared.costs.Costs.{Costs}
use Rattle.chains.specs.Laws.Descents.{Down, down_cap, down-known, down_none, down_turn}
use Rattle.chains.specs.Laws.Walked.{least_more}
use Rattle.chains.proofs.turn_image.Goals as goal

formed : (t : Costs) (k : ℕ) → k < t.n → WellFormed limit (costs_in t) (suc k)
formed t k h = well_formed_less _ _ _ _ h t.formed.formed

-- with a side below, one further down is asked
one_less : {L k z m q a : ℕ} {d : ℕ → ℕ → ℕ} {B best best' : List ℕ} → 0 < q → Down L d k z B m q a best best'
    → Down L d k z B m (suc (q - 1)) a best best'
one_less {q = q} h n = let e : q ≡ suc (q - 1) = omega arith in rw (← e) n

pub loop-q-init : goal.loop-q-init
loop-q-init c =
    let p = c.requires in
    down_none _ _ _ _ (formed c.args.t.now _ p.0) p.1 _ _ p.2 _ c.up-depth.ensures.deep (ap (λ x. limit + x) c.entry-alone.ensures.0)

pub turn_down-a-requires : goal.turn_down-a-requires
turn_down-a-requires c =
    let p = c.requires in
    let u = c.up-depth.ensures in
    let i = c.loop-q.invariant in
    let w = formed c.args.t.now _ p.0 in
    let q = down-known _ _ _ _ w p.1 _ _ p.2.few p.2.chained _ _ u _ _ _ _ (one_less c.loop-q-test.true i) in
    (q.0, u.room, i.to.room ∙ p.5.room, q.1, q.2, down_cap _ _ _ _ w p.1 _ i)

pub loop-q-preserved : goal.loop-q-preserved
loop-q-preserved c =
    let p = c.requires in
    let t = c.turn_down-a.ensures in
    down_turn _ _ _ _ (formed c.args.t.now _ p.0) p.1 _ _ p.2.few p.2.chained _ _ c.up-depth.ensures _ _ _ _ (one_less c.loop-q-test.true c.loop-q.invariant)
    p.5.room t.0 t.1

pub overflow_add-best : goal.overflow_add-best
overflow_add-best c =
    omega (arith, c.entry-alone.ensures.1, down_cap _ _ _ _ (formed c.args.t.now _ c.requires.0) c.requires.1 _ c.loop-q.invariant)

pub returns : goal.returns
returns c =
    let p = c.requires in
    let z : c.loop-q.q ≡ 0 = omega arith in
    least_more _ _ _ _ (formed c.args.t.now _ p.0) p.1 _ _ _ _ _ (rw z at c.loop-q.invariant) _ (ap (λ x. limit + x) c.entry-alone.ensures.0)
    (omega (arith, c.args.t.now.formed.few)) p.5
