-- Filters by a test, and what holds of each element of a list. Assumes nothing.
use Rattle.std.specs.Prelude.{Bool, false, true, ◌&&◌}
use mathlib.Core.List.{List, Memᴰ, [], ◌∷◌}

module _ {A : Type 0} where
  -- x in front of l where the test b passes
  abbrev pub keep : Bool → A → List A → List A
  keep true x l = x ∷ l
  keep false x l = l

  abbrev pub filter : (A → Bool) → List A → List A
  filter p [] = []
  filter p (x ∷ l) = keep (p x) x (filter p l)

  -- P holds of each element of l
  abbrev pub Each : List A → (A → Type 0) → Type 0
  Each l P = (x : A) → Memᴰ x l → P x

  -- x passes both tests
  abbrev pub both : (A → Bool) → (A → Bool) → A → Bool
  both p q x = p x && q x
