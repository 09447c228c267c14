-- The Robinson-Foulds count from the three numbers before it. Assumes nothing.
use Rattle.std.specs.Prelude.{Bool, List, [], ◌∷◌, refl, ◌≡◌, ℕ, ◌*◌, ◌+◌, ◌-◌, ◌≤◌, length}
use Rattle.std.proofs.Common.{ap₂, ◌∙◌, arith}
use borrow.Table.Steps.{cases}
use Rattle.ground.specs.Ascending.{Between}
use Rattle.ground.specs.Laws.Ascending.{between_filter}
use Rattle.ground.specs.Filters.{filter}
use Rattle.theory.specs.Comparison.{common, differing, inners}
use Rattle.theory.specs.FarSides.{inner}
use Rattle.theory.specs.Laws.Comparison.{differing_is}
use Rattle.counts.specs.Differ.{differ, over_of}
use Rattle.counts.specs.declared.Difference.{Difference}

pub filter_le : {A : Type 0} (p : A → Bool) (l : List A) → length (filter p l) ≤ length l
filter_le p [] = omega arith
filter_le p (x ∷ l) = let ih = filter_le p l in cases (p x) (λ e. rw e (omega arith)) (λ e. rw e (omega arith))

pub length_zero : (l : List ℕ) → length l ≡ 0 → l ≡ []
length_zero [] e = refl
length_zero (x ∷ l) e = absurd (omega arith)

pub inners_le : (n : ℕ) (l : List ℕ) → length (inners n l) ≤ length l
inners_le n l = filter_le (inner n) l

-- the same five numbers are the same difference
pub same_numbers : {a b c d e a' b' c' d' e' : ℕ} → a ≡ a' → b ≡ b' → c ≡ c' → d ≡ d' → e ≡ e'
    → ◌≡◌ {A = Difference} (record { first = a; second = b; common = c; count = d; over = e })
    (record { first = a'; second = b'; common = c'; count = d'; over = e' })
same_numbers p q r s t = rw (p, q, r, s, t)

module _ (n k : ℕ) (l r : List ℕ) (a : Between 1 l k) (b : Between 1 r k) where
  -- the count, and twice the common inner far sides, are the inner far sides of both
  pub formula : differing (inners n l) (inners n r) + 2 * length (common (inners n l) (inners n r)) ≡ length (inners n l) + length (inners n r)
  formula = differing_is 1 k (inners n l) (inners n r) (between_filter (inner n) 1 k l a) (between_filter (inner n) 1 k r b)

  -- as the code has it
  pub difference_is : {x y z v : ℕ} → x ≡ length (inners n l) → y ≡ length (inners n r) → z ≡ length (common (inners n l) (inners n r))
      → v ≡ over_of (x + y)
      → ◌≡◌ {A = Difference} (record { first = x; second = y; common = z; count = x + y - 2 * z; over = v }) (differ n l r)
  difference_is e f g h = same_numbers e f g (omega (arith, e, f, g, formula)) (h ∙ ap₂ (λ (a b : ℕ). over_of (a + b)) e f)
