-- Examples A and H of document 01 as Newick text, and whole calls on example G, computed. Assumes nothing.
use Rattle.std.specs.Prelude.{[], ◌∷◌, ℕ, replicate}
use Rattle.ground.specs.Outcomes.{Outcome}
use Rattle.ground.specs.Refusals.{Written}
use Rattle.newick_writer.specs.Writing.{write_outcome}

-- example G with the far side x in its third row and the cost c in its last, into bytes that are all 7
abbrev pub call_g : ℕ → ℕ → ℕ → Outcome Written
call_g x c room = write_outcome 4 4 (2 ∷ 4 ∷ x ∷ 14 ∷ []) (2 ∷ 2 ∷ 2 ∷ c ∷ []) (replicate room 7)
