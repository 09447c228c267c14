-- `term::main` is safe: the array is as long as it says, by a law and not by counting its places. Assumes nothing.
use Rattle.std.proofs.Common.{ℕ, sym}
use Rattle.std.proofs.lemmas.List.{length-replicate}
use Rattle.term.proofs.main.Goals as goal

pub slice_bounds-print_report-end : goal.slice_bounds-print_report-end
slice_bounds-print_report-end g = sym (length-replicate {A = ℕ} 2899000 0)
