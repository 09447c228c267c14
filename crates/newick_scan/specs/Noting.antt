-- What the next byte makes of all that was noted. Assumes nothing.
use Rattle.std.specs.Prelude.{Bool, false, true, List, ◌≡◌, ℕ, eqb}
use Rattle.newick_bytes.specs.declared.Seen.{Seen}
use Rattle.newick_bytes.specs.declared.Seen.TheVariants.{Blank, Closed, Cost, Dead, Done, Ended, Image, Start, Vertex}
use Rattle.newick_notes.specs.declared.Noted.{Noted}
use Rattle.newick_notes.specs.Stacks.{Stacks}
use Rattle.newick_notes.specs.Turns.{Begun, Completed, closed, named_by}

-- all that was noted, with the two arrays of rows
pub record Kept : Type 0 where
  pub noted : Noted
  pub stacks : Stacks
  pub fars : List ℕ
  pub costs : List ℕ

abbrev pub kept : Noted → Stacks → List ℕ → List ℕ → Kept
kept w a f v = record { noted = w; stacks = a; fars = f; costs = v }

-- a vertex with the cost c is complete: x before, y after
pub record Completes (c : ℕ) (x y : Kept) : Type 0 where
  pub complete : Completed c x.noted x.fars x.costs y.noted y.fars y.costs
  pub stacks : y.stacks ≡ x.stacks

-- and with it the innermost of d brackets closes
pub record Closes (c d : ℕ) (x y : Kept) : Type 0 where
  pub inner : Noted
  pub complete : Completed c x.noted x.fars x.costs inner y.fars y.costs
  pub told : y.noted ≡ closed d x.stacks inner
  pub stacks : y.stacks ≡ x.stacks

-- the byte behind a digit of the cost c is a comma, a closed bracket, or neither
abbrev pub EndsBy : Bool → Bool → ℕ → ℕ → Kept → Kept → Type 0
EndsBy true u c d x y = Completes c x y
EndsBy false true c d x y = Closes c d x y
EndsBy false false c d x y = y ≡ x

-- the byte b stands at place p, behind what was read and s is kept of
abbrev pub Noting : Seen → ℕ → ℕ → Kept → Kept → Type 0
Noting Start b p x y = y ≡ x
Noting (Vertex d k) b p x y = Begun d b p x.noted x.stacks y.noted y.stacks × (y.fars ≡ x.fars) × (y.costs ≡ x.costs)
Noting (Image i d k) b p x y = y ≡ kept (named_by b i x.noted) x.stacks x.fars x.costs
Noting (Closed d k) b p x y = y ≡ x
Noting (Blank d k) b p x y = y ≡ x
Noting (Cost c d k) b p x y = EndsBy (eqb b 44) (eqb b 41) c d x y
Noting Ended b p x y = y ≡ x
Noting Done b p x y = y ≡ x
Noting Dead b p x y = y ≡ x
