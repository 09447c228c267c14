-- When the choice is accepted and which table it takes, and which refusal comes first, said without checks. Assumes nothing.
use mathlib.Core.List.{List, Memᴰ}
use Rattle.std.specs.Prelude.{◌≡◌, ℕ, Err}
use Rattle.ground.specs.Filters.{Each}
use Rattle.ground.specs.Refusals.{refusal}
use Rattle.ground.specs.declared.Refusal.{Refusal}
use Rattle.bits.specs.declared.Form.{Form}
use Rattle.stored_links.specs.Reading.{table_checks}
use Rattle.link_forms.specs.Said.{count_of, images_of, used_of}
use Rattle.stored_links.specs.Stored.{Stored}
use Rattle.choice.specs.Call.{inners_of}

-- the bytes s begin with a stored link table
abbrev pub Begins : Form → List ℕ → Type 0
Begins form s = Stored form (images_of form s) (count_of form s) s

-- the inner far sides of the table that s begins with, in the form f, include all of that of t, in the form g
abbrev pub Includes : Form → Form → List ℕ → List ℕ → Type 0
Includes f g s t = Each (inners_of g t) (λ S. Memᴰ S (inners_of f s))

module _ (f g : Form) (s t : List ℕ) where
  -- which table is taken: the first where its inner far sides include the second's, the second where only its do
  pub data Taken (k u : ℕ) : Type 0 where
    the_first : k ≡ 1 → u ≡ used_of f s → Includes f g s t → Taken k u
    the_second : k ≡ 2 → u ≡ used_of g t → Includes g f t s → (Includes f g s t → ⊥) → Taken k u

  -- both are stored link tables over the same images, and one is taken
  pub record ChoiceMade (k u : ℕ) : Type 0 where
    pub first : Begins f s
    pub second : Begins g t
    pub same : images_of f s ≡ images_of g t
    pub chosen : Taken k u

  -- the refusal that comes first: of the first table, of the second, 15, 14
  pub data FirstRefusal (m : ℕ) (r : Refusal) : Type 0 where
    of_first : m ≡ 1 → table_checks f s ≡ Err r → FirstRefusal m r
    of_second : m ≡ 2 → Begins f s → table_checks g t ≡ Err r → FirstRefusal m r
    of_images : m ≡ 0 → r ≡ refusal 15 0 0 0 0 → Begins f s → Begins g t → (images_of f s ≡ images_of g t → ⊥) → FirstRefusal m r
    of_neither : m ≡ 0 → r ≡ refusal 14 0 0 0 0 → Begins f s → Begins g t → images_of f s ≡ images_of g t
        → (Includes f g s t → ⊥) → (Includes g f t s → ⊥) → FirstRefusal m r
