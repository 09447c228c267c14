-- `newick_scan::scan` meets its contract: what is noted of the first i bytes is what was read of them. What falls is the bytes left. Assumes nothing.
use Rattle.newick_notes.specs.Stacks.{stacks}
use Rattle.newick_scan.specs.Noting.{kept}
use Rattle.newick_scan.specs.Laws.Scans.{Scans}
use Rattle.newick_scan.proofs.scan.Given as goal

abbrev pub invariant-loop-i : goal.invariant-loop-i
invariant-loop-i l = Scans l.text l.i l.s l.outer (kept l.w (stacks l.masks l.lasts l.places) l.fars l.costs)
