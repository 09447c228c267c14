-- What it means that a call refuses by fixed numbers in a fixed order. Assumes nothing.
use Rattle.ground.specs.Refusals.{Check}
use Rattle.std.specs.Prelude.{List, ◌≡◌, ℕ, ◌<◌, Ok, Err}
use Rattle.ground.specs.Filters.{Each}
use Rattle.ground.specs.Steps.{Step, decided}
use Rattle.ground.specs.declared.Refusal.{Refusal}

-- the check refuses by number k and by no other, if at all
abbrev pub Only : ℕ → Check → Type 0
Only k c = (r : Refusal) → c ≡ Err r → r.number ≡ k

-- a step refuses by its own number alone, and that is not 0, which means accepted
pub record Own (s : Step) : Type 0 where
  pub some : 0 < s.number
  pub alone : Only s.number s.check

-- the answer x is the first refusal of these steps, y where every check passed; each step refuses by its own number alone
pub record Decides {A : Type 0} (refused : ℕ → Refusal → A) (l : List Step) (y x : A) : Type 0 where
  pub same : x ≡ decided refused l y
  pub own : Each l Own

-- c is the checks of these steps one after another
abbrev pub InOrder : List Step → Check → Type 0
InOrder l c = Decides (λ m. Err) l (Ok tt) c
