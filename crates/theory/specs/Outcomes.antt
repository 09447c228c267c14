-- An answer, and the two lent slices of far sides and costs as a call leaves them. Assumes nothing.
use Rattle.std.specs.Prelude.{List, ◌≡◌, ℕ}

pub record RowsOutcome (A : Type 0) : Type 0 where
  pub answer : A
  pub far_list : List ℕ
  pub cost_list : List ℕ

-- a call answered r and left the far sides f and the costs v, as o says
pub record LeftRows {A : Type 0} (o : RowsOutcome A) (r : A) (f v : List ℕ) : Type 0 where
  pub answered : r ≡ o.answer
  pub far-sides : f ≡ o.far_list
  pub doubled : v ≡ o.cost_list
