-- What the promise of the index call is worth: what an accepted answer says, and that there is no second answer. Assumes nothing.
use Rattle.std.specs.Prelude.{List, ℕ, ℤ}
use Rattle.theory.specs.Tables.{cost}
use Rattle.index.specs.AtZero.{AtZero}
use Rattle.index.specs.Call.{IndexAsked}
use Rattle.index.specs.Ends.{Ends, Nearest}
use Rattle.index.specs.IndexIs.{IndexIs}

-- an accepted answer: the table is a cost table, S is a far side, and v is its index; with that, what its sign says, where it ends and how near to
-- its ends it comes
pub record Answered (L n : ℕ) (t : List ℕ) (S : ℕ) (v : ℤ) : Type 0 where
  pub accepted : IndexAsked L n t S
  pub value : IndexIs (cost t n) n S v
  pub zero : AtZero L (cost t n) n S v
  pub ends : Ends L n S v
  pub nearest : Nearest L n S v
