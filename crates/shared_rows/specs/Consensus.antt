-- Links shared by a team, in document 02's words: the strict consensus of several trees over the same images. A tree is its rows.
use Rattle.std.specs.Prelude.{Bool, true, ◌&&◌, List, [], map, ◌∷◌, min, ℕ}
use Rattle.ground.specs.Filters.{filter}
use Rattle.ground.specs.Members.{is_in}
use Rattle.theory.specs.FarSides.{sides}
use Rattle.theory.specs.LinkTables.{Row, cost_of, fars}

-- S is a far side present in every tree
abbrev pub in_every : List (List Row) → ℕ → Bool
in_every [] S = true
in_every (T ∷ Ts) S = is_in S (fars T) && in_every Ts S

-- the smallest of c and the doubled costs that the trees give S
abbrev pub smallest_from : ℕ → List (List Row) → ℕ → ℕ
smallest_from c [] S = c
smallest_from c (T ∷ Ts) S = smallest_from (min c (cost_of T S)) Ts S

-- the smallest of the doubled costs that the trees give S
abbrev pub smallest : List (List Row) → ℕ → ℕ
smallest [] S = 0
smallest (T ∷ Ts) S = smallest_from (cost_of T S) Ts S

-- of all far sides over n images, ascending, those present in every tree, each with the smallest of its doubled costs
unfoldable pub consensus : ℕ → List (List Row) → List Row
consensus n Ts = map (λ S. (S, smallest Ts S)) (filter (in_every Ts) (sides n))
