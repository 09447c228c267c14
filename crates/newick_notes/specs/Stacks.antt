-- What is kept of the open brackets. Assumes nothing.
use Rattle.std.specs.Prelude.{cond, List, ◌≡◌, ℕ, ◌-◌, eqb, length, set}

-- for each open bracket but the innermost, what was noted where the next one opened: the images named, the far side of the sibling before, the place
pub record Stacks : Type 0 where
  pub masks : List ℕ
  pub lasts : List ℕ
  pub places : List ℕ

abbrev pub stacks : List ℕ → List ℕ → List ℕ → Stacks
stacks m l p = record { masks = m; lasts = l; places = p }

pub record Sized (a : Stacks) : Type 0 where
  pub masks : length a.masks ≡ 64
  pub lasts : length a.lasts ≡ 64
  pub places : length a.places ≡ 64

-- the byte b where d brackets are open: with 40 one more opens, and x is kept for when it closes
abbrev pub pushed : ℕ → ℕ → ℕ → List ℕ → List ℕ
pushed b d x a = cond (eqb b 40) (set a (d - 1) x) a
