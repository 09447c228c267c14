-- When two lists of inner far sides disagree wholly, in document 02's words: no inner far side is common, and at least one exists.
use mathlib.Core.List.{List, Memᴰ}
use Rattle.std.specs.Prelude.{◌⊎◌, ℕ}
use Rattle.ground.specs.Filters.{Each}

-- none of the first is in the second
abbrev pub NoneCommon : List ℕ → List ℕ → Type 0
NoneCommon l r = Each l (λ S. Memᴰ S r → ⊥)

-- one is in the first or in the second
abbrev pub OneExists : List ℕ → List ℕ → Type 0
OneExists l r = (S : ℕ) × (Memᴰ S l ⊎ Memᴰ S r)
