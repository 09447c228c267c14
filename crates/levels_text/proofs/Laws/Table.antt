-- The two ways out of the reading of levels of a cost table, into two arrays of 64 zeros. Assumes nothing.
use Rattle.std.specs.Prelude.{List, ◌≡◌, ℕ, ◌≤◌, length, replicate, Ok, Err}
use Rattle.std.proofs.Common.{arith}
use lib.ListN.{length-replicate}
use Rattle.ground.specs.declared.Refusal.{Refusal}
use Rattle.theory.specs.Tables.{limit}
use Rattle.tables.specs.declared.costs.Costs.{Costs}
use Rattle.levels.specs.Outcome.{LeftLevels, levels_outcome}
use Rattle.listing_lines.specs.Lines.{refused_line}
use Rattle.levels_text.specs.Laws.Left.{LevelsRead, levels_read, levels_refused}
use Rattle.levels_text.specs.Laws.Lengths.{refused_fits}
use Rattle.levels_text.specs.Listing.{table_levels}

enough : 64 ≤ length {A = ℕ} (replicate 64 0)
enough = omega (arith, length-replicate {A = ℕ} 64 0)

module _ (t : Costs) (g v : List ℕ) where
  pub table_refused : (q : Refusal) → LeftLevels (levels_outcome limit t.n t.entries.now (replicate 64 0) (replicate 64 0)) (Err q) g v
      → table_levels t.n t.entries.now ≡ refused_line q
  table_refused q l = levels_refused t.n t.entries.now (replicate 64 0) (replicate 64 0) t.formed enough enough q g v l

  pub table_read : (r : ℕ) → LeftLevels (levels_outcome limit t.n t.entries.now (replicate 64 0) (replicate 64 0)) (Ok r) g v
      → LevelsRead t.n t.entries.now r g v
  table_read r l = levels_read t.n t.entries.now (replicate 64 0) (replicate 64 0) t.formed enough enough r g v l

pub ruleset table_ways = (refused_fits, table_refused, table_read)
