-- The images of the two sides of a division, gathered in two lists, and least values over such lists. Assumes nothing.
use Rattle.std.specs.Prelude.{List, ◌≡◌, ℕ, ◌*◌, ◌+◌, ◌-◌, ◌<◌, ◌≤◌, get_or, length}
use Rattle.ground.specs.Least.{least_on}

-- the least of cap and f's values at the images in the first c places of l
abbrev pub least_at : ℕ → List ℕ → ℕ → (ℕ → ℕ) → ℕ
least_at c l cap f = least_on c (λ i. 0) 0 cap (λ i. f (get_or l i 0))

-- the first c places of l hold images below n
pub record Images (n c : ℕ) (l : List ℕ) : Type 0 where
  pub room : c ≤ length l
  pub below : (i : ℕ) → i < c → get_or l i 0 < n

-- the first c places of l hold the images below n on the side g of s: what is least over them is least over that side
pub record Gathered (n : ℕ) (s : ℕ → ℕ) (g c : ℕ) (l : List ℕ) : Type 0 where
  pub images : Images n c l
  pub least : (cap : ℕ) (f : ℕ → ℕ) → least_at c l cap f ≡ least_on n s g cap f

-- both sides of the images below n: own has c of side h, other has all the others
pub record BothSides (s : ℕ → ℕ) (h n c : ℕ) (own other : List ℕ) : Type 0 where
  pub few : c ≤ n
  pub mine : Gathered n s h c own
  pub rest : Gathered n s (1 - h) (n - c) other

-- ## The choices that image k brings, over the lists of both sides

-- the least over b of the other side
abbrev pub near_at : ℕ → (ℕ → ℕ → ℕ) → ℕ → List ℕ → ℕ → ℕ → ℕ
near_at L d k other r e = least_at r other (4 * L) (λ b. L + d k b - d b e)

-- the least over a of k's own side, where low is that over b
abbrev pub side_at : ℕ → (ℕ → ℕ → ℕ) → ℕ → List ℕ → ℕ → ℕ → ℕ → ℕ
side_at L d k own c e low = least_at c own (4 * L) (λ a. low + (L + d a e - d k a))

-- the least of those with e on the other side
abbrev pub choices_at : ℕ → (ℕ → ℕ → ℕ) → ℕ → List ℕ → ℕ → List ℕ → ℕ → ℕ → ℕ
choices_at L d k own c other r e = side_at L d k own c e (near_at L d k other r e)

-- the least of all
abbrev pub more_at : ℕ → (ℕ → ℕ → ℕ) → ℕ → List ℕ → ℕ → List ℕ → ℕ → ℕ
more_at L d k own c other r = least_at r other (4 * L) (choices_at L d k own c other r)
