-- An answer, and the lent places of two tables as a call leaves them. Assumes nothing.
use Rattle.std.specs.Prelude.{List, ◌≡◌, ℕ}

pub record TwoOutcome (A : Type 0) : Type 0 where
  pub answer : A
  pub first_list : List ℕ
  pub second_list : List ℕ

-- a call answered r and left the places f and g, as o says
pub record TwoLeft {A : Type 0} (o : TwoOutcome A) (r : A) (f g : List ℕ) : Type 0 where
  pub answered : r ≡ o.answer
  pub first : f ≡ o.first_list
  pub second : g ≡ o.second_list
