-- What is said of an order around the tree: the rule by which it is built, in document 01's words, and runs of neighbours.
use Rattle.std.specs.Prelude.{false, true, List, map, ◌++◌, ◌≡◌, ℕ, ◌+◌, ◌-◌, ◌<◌, ◌≤◌}
use Rattle.ground.specs.Filters.{Each}
use Rattle.theory.specs.LinkTables.{apart}
use Rattle.theory.specs.Order.{free}

-- w is the next to the left of x, where the images of l are placed: an image below m that is not yet placed, other than f, with the
-- least d(x,w) - d(f,w), said without a sign; the lowest number on a tie
pub record IsNext (d : ℕ → ℕ → ℕ) (f x : ℕ) (l : List ℕ) (m w : ℕ) : Type 0 where
  pub below : w < m
  pub is_free : free f l w ≡ true
  pub least : (u : ℕ) → u < m → free f l u ≡ true → d x w + d f u ≤ d x u + d f w
  pub lowest : (u : ℕ) → u < w → free f l u ≡ true → d x w + d f u < d x u + d f w

-- the division S is a run of neighbours in l: images of f's group, then all of the other group, then f's group again
pub record OneRun (S f : ℕ) (l : List ℕ) : Type 0 where
  pub before : List ℕ
  pub run : List ℕ
  pub after : List ℕ
  pub is : l ≡ before ++ (run ++ after)
  pub all_before : Each before (λ i. apart S f i ≡ false)
  pub all-run : Each run (λ i. apart S f i ≡ true)
  pub all_after : Each after (λ i. apart S f i ≡ false)

-- images 1 to n, as calls have them, counted from 0
abbrev pub counted_from0 : List ℕ → List ℕ
counted_from0 l = map (λ i. i - 1) l
