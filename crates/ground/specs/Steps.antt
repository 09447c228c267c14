-- The checks of a call one after another, each with the number that it refuses by. Assumes nothing.
use Rattle.std.specs.Prelude.{List, [], ◌++◌, ◌∷◌, map, ◌≡◌, ℕ, Ok, Err}
use Rattle.ground.specs.Filters.{Each}
use Rattle.ground.specs.Refusals.{if_passed, Check}
use Rattle.ground.specs.declared.Refusal.{Refusal}

-- one check, the number that it refuses by, and the table that it is about, 0 where a call takes one table
pub record Step : Type 0 where
  pub table : ℕ
  pub number : ℕ
  pub check : Check

-- number k, by the check c
infix 70 ◌by◌
abbrev pub ◌by◌ : ℕ → Check → Step
◌by◌ k c = record { table = 0; number = k; check = c }

-- the same steps, about table m
abbrev pub about : ℕ → List Step → List Step
about m l = map (λ s. record { table = m; number = s.number; check = s.check }) l

-- the numbers l, each with the table's number m beside it
abbrev pub of_table : ℕ → List ℕ → List (ℕ × ℕ)
of_table m l = map (λ k. (m, k)) l

-- the table and the number of each step, in order
abbrev pub numbers_of : List Step → List (ℕ × ℕ)
numbers_of l = map (λ s. (s.table, s.number)) l

-- the first refusal, with its table's number; y where every check passed
abbrev pub decided : {A : Type 0} → (ℕ → Refusal → A) → List Step → A → A
decided refused [] y = y
decided refused (s ∷ l) y = if_passed (refused s.table) s.check (decided refused l y)

-- every check passed
abbrev pub Passes : List Step → Type 0
Passes l = Each l (λ s. s.check ≡ Ok tt)

-- s is the first step that refuses, with the refusal r: all before it passed
pub record FirstRefused (l : List Step) (s : Step) (r : Refusal) : Type 0 where
  pub before : List Step
  pub after : List Step
  pub steps : l ≡ before ++ (s ∷ after)
  pub passed : Passes before
  pub refused : s.check ≡ Err r

-- some step refuses
abbrev pub Refuses : List Step → Type 0
Refuses l = (s : Step) × (r : Refusal) × FirstRefused l s r
