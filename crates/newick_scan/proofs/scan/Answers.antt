-- `newick_scan::scan` meets its contract: what is noted of the first i bytes is what was read of them. Assumes nothing.
use Rattle.std.proofs.Common.{arith, length, refl, sym, ◌∙◌, ◌≡◌}
use Rattle.newick_bytes.specs.Laws.Reached.{reached_bounded}
use Rattle.newick_scan.specs.Laws.Scans.{scans_able, scans_more, scans_none, scans_short, scans_stop}
use Rattle.newick_scan.proofs.scan.Goals as goal

pub loop-i-init : goal.loop-i-init
loop-i-init c =
    rw c.nothing-w.ensures (scans_none _ _ _ _ _ refl (record { masks = refl; lasts = refl; places = refl }) c.requires.0 c.requires.1)

pub step-next-requires : goal.step-next-requires
step-next-requires c =
    let k = c.loop-i.invariant.reached in
    (reached_bounded k, k.full)

pub returns-then-is_dead : goal.returns-then-is_dead
returns-then-is_dead c =
    let m = c.step-next.ensures in
    scans_stop _ _ _ _ _ c.loop-i.invariant _ refl c.loop-i-test.true _ _ m.0 m.1 (sym c.is_dead.ensures ∙ c.if-is_dead.true)

pub note-w-requires : goal.note-w-requires
note-w-requires c = scans_able _ _ _ _ _ c.loop-i.invariant

pub loop-i-preserved : goal.loop-i-preserved
loop-i-preserved c =
    let m = c.step-next.ensures in
    scans_more _ _ _ _ _ c.loop-i.invariant _ refl c.loop-i-test.true _ _ m.0 m.1 _ (sym c.is_dead.ensures ∙ c.if-is_dead.false)
    c.note-w.ensures

pub returns : goal.returns
returns c =
    let e : length c.args.text.now ≡ c.loop-i.i = omega arith in
    rw e (scans_short _ _ _ _ _ c.loop-i.invariant c.loop-i-test.false (sym c.is_done.ensures ∙ c.if-is_done.false))
