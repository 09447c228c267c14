-- What an accepted and a refused comparison say of the two tables. Assumes nothing.
use Rattle.std.specs.Prelude.{List, ◌≡◌, ℕ, Ok, Err}
use Rattle.ground.specs.declared.Refusal.{Refusal}
use Rattle.theory.specs.Checks.{images_check}
use Rattle.tree.specs.Exact.{Wired, exact_sides, table_check}
use Rattle.counts.specs.Differ.{differ}
use Rattle.counts.specs.declared.Difference.{Difference}

module _ (L n : ℕ) (t u : List ℕ) where
  -- some wiring gives each table, and the answer is the difference of their trees
  pub record BothWired (x : Difference) : Type 0 where
    pub first : Wired L n t
    pub second : Wired L n u
    pub answer : x ≡ differ n (exact_sides L n t) (exact_sides L n u)

  -- refused by 1 with number 0, by the first table with number 1, or by the second with number 2 once the first has passed
  pub data FirstRefusal (m : ℕ) (r : Refusal) : Type 0 where
    of_images : m ≡ 0 → images_check n ≡ Err r → FirstRefusal m r
    of_first : m ≡ 1 → images_check n ≡ Ok tt → table_check L n t ≡ Err r → FirstRefusal m r
    of_second : m ≡ 2 → images_check n ≡ Ok tt → table_check L n t ≡ Ok tt → table_check L n u ≡ Err r → FirstRefusal m r
