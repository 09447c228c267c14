-- The Robinson-Foulds count from the three numbers of the answer.
-- Assumes nothing.
use Rattle.std.specs.Prelude.{Bool, not, List, [], ◌∷◌, refl, ◌≡◌, ℕ, ◌*◌, ◌+◌, length}
use Rattle.std.proofs.Common.{ap, arith}
use borrow.Table.Steps.{cases}
use Rattle.ground.specs.Ascending.{Between}
use Rattle.ground.specs.Laws.Ascending.{between_ext, between_filter}
use Rattle.ground.specs.Filters.{filter}
use Rattle.ground.specs.Laws.Filters.{filter-mem, mem-filter}
use Rattle.ground.specs.Members.{is_in}
use Rattle.ground.specs.Laws.Members.{is_in-mem, mem-is_in}
use Rattle.theory.specs.Comparison.{common, differing}

-- what passes a test and what does not
pub split_length : (p : ℕ → Bool) (l : List ℕ) → length (filter p l) + length (filter (λ x. not (p x)) l) ≡ length l
split_length p [] = refl
split_length p (x ∷ l) = let r = split_length p l in cases (p x) (λ e. rw e (omega arith)) (λ e. rw e (omega arith))

pub common_same : (m k : ℕ) (l r : List ℕ) → Between m l k → Between m r k → common l r ≡ common r l
common_same m k l r a b =
    between_ext m k (common l r) (common r l) (between_filter (λ x. is_in x r) m k l a) (between_filter (λ x. is_in x l) m k r b)
    (λ x t. let q = filter-mem (λ x. is_in x r) l x t in mem-filter (λ x. is_in x l) x (mem-is_in x l q.1) r (is_in-mem x r q.0))
    (λ x t. let q = filter-mem (λ x. is_in x l) r x t in mem-filter (λ x. is_in x r) x (mem-is_in x r q.1) l (is_in-mem x l q.0))

-- the count from the three numbers of the answer
pub differing_is : (m k : ℕ) (l r : List ℕ) → Between m l k → Between m r k → differing l r + 2 * length (common l r) ≡ length l + length r
differing_is m k l r a b =
    omega (arith, split_length (λ x. is_in x r) l, split_length (λ x. is_in x l) r, ap length (common_same m k l r a b))
