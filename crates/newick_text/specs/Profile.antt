-- The profile of Newick text, in document 02's words: its trees, its texts, and the beginnings of these. Assumes nothing.
use Rattle.std.specs.Prelude.{List, ◌++◌, ◌≡◌, suc, ℕ, ◌<◌, ◌≤◌, length, take}
use Rattle.newick_text.specs.Trees.{Siblings, bracket, image, none, size, text}

-- an image has one or two digits and is at least 1
abbrev pub ImageFits : ℕ → Type 0
ImageFits i = (1 ≤ i) × (i < 100)

-- a cost has one to eight digits
abbrev pub CostFits : ℕ → Type 0
CostFits c = c < 100000000

-- with d brackets open: numbers fit, a bracket holds two or more vertices, at most 62 are open at once
abbrev pub Formed : ℕ → Siblings → Type 0
Formed d none = Unit {0}
Formed d (image i c r) = ImageFits i × CostFits c × Formed d r
Formed d (bracket g c r) = (d < 62) × (2 ≤ size g) × Formed (suc d) g × CostFits c × Formed d r

-- image 1 stands in the first place
abbrev pub OneFirst : Siblings → Type 0
OneFirst none = Unit {0}
OneFirst (image i c r) = i ≡ 1
OneFirst (bracket g c r) = ⊥

-- a tree of the profile: image 1 first, and the outermost brackets hold three or more
pub record Tree (f : Siblings) : Type 0 where
  pub one : OneFirst f
  pub three : 3 ≤ size f
  pub formed : Formed 1 f

-- a text of the profile
pub record Profile (t : List ℕ) : Type 0 where
  pub tree : Siblings
  pub fine : Tree tree
  pub spelled : t ≡ text tree

-- a beginning of some text of the profile
pub record Begins (t : List ℕ) : Type 0 where
  pub rest : List ℕ
  pub whole : Profile (t ++ rest)

-- k bytes of t begin some text of the profile, and with the byte behind them, where there is one, they begin none
pub record FirstImpossible (t : List ℕ) (k : ℕ) : Type 0 where
  pub before : Begins (take k t)
  pub at : k < length t → Begins (take (suc k) t) → ⊥
  pub most : k ≤ length t
