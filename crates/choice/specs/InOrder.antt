-- The checks of the choice by their numbers, and by the table that each is about: s and t are the lent bytes of the first and the second, in the
-- forms f and g. Assumes nothing.
use Rattle.std.specs.Prelude.{List, [], ◌++◌, ◌∷◌, ℕ}
use Rattle.ground.specs.Steps.{Step, about, ◌by◌}
use Rattle.bits.specs.declared.Form.{Form}
use Rattle.stored_links.specs.InOrder.{stored_steps}
use Rattle.link_forms.specs.Said.{images_of}
use Rattle.choice.specs.Call.{images_agree, inclusion, inners_of}

-- the first table's, then the second's, then 15, then 14
abbrev pub choice_steps : Form → Form → List ℕ → List ℕ → List Step
choice_steps f g s t =
    about 1 (stored_steps f s)
    ++ (about 2 (stored_steps g t) ++ (15 by images_agree (images_of f s) (images_of g t) ∷ 14 by inclusion (inners_of f s) (inners_of g t) ∷ []))
