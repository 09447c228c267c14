-- What keeps the numbers small enough, and the arrays long enough, where a row is stored and where a bracket closes. Assumes nothing.
use Rattle.std.specs.Prelude.{List, ◌≡◌, ℕ, ◌-◌, ◌≤◌, get_or, length}
use Rattle.newick_notes.specs.declared.Noted.{Noted}
use Rattle.newick_notes.specs.Stacks.{Sized, Stacks}

-- the innermost of d brackets may close: what was named before it is named now
pub record Closing (d : ℕ) (w : Noted) (a : Stacks) : Type 0 where
  pub most : d ≤ 62
  pub sized : Sized a
  pub less : 2 ≤ d → get_or a.masks (d - 2) 0 ≤ w.marked

-- so many rows stand in the two arrays
pub record Room (rows : ℕ) (f v : List ℕ) : Type 0 where
  pub most : rows ≤ 128
  pub far-size : length f ≡ 128
  pub cost-size : length v ≡ 128
