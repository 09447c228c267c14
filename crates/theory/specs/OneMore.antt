-- One image more: the choices that image k brings to a division of the first k images, and the rows over one image more from the rows
-- that are there. Document 01 does not speak of it; its laws (Laws/OneMore, FewSteps, ReadingGrows) say that it is the same. Assumes nothing.
use Rattle.std.specs.Prelude.{Bool, not, ◌||◌, List, map, ◌++◌, ◌∷◌, min, suc, ℕ, ◌*◌, ◌+◌, ◌-◌, ◌^◌, ltb}
use Rattle.ground.specs.Bits.{bit}
use Rattle.ground.specs.Filters.{filter}
use Rattle.ground.specs.Least.{least_on}
use Rattle.theory.specs.FarSides.{inner}
use Rattle.theory.specs.LinkTables.{Row}

-- one pairing of a choice with image k: a on k's side, b and b' on the other
abbrev pub pairing : ℕ → (ℕ → ℕ → ℕ) → ℕ → ℕ → ℕ → ℕ → ℕ
pairing L d k a b b' = 2 * L + (d k b + d a b') - (d k a + d b b')

-- the least of those that image k brings
unfoldable pub brought : ℕ → (ℕ → ℕ → ℕ) → ℕ → (ℕ → ℕ) → ℕ
brought L d k s = least_on (suc k) s (s k) (4 * L) (λ a. least_on k s (1 - s k) (4 * L) (λ b. least_on k s (1 - s k) (4 * L) (λ b'. pairing L d k a b b')))

-- in k * k steps: for each b' first the least over b, then the least over a
unfoldable pub brought_near : ℕ → (ℕ → ℕ → ℕ) → ℕ → (ℕ → ℕ) → ℕ → ℕ
brought_near L d k s b' = least_on k s (1 - s k) (4 * L) (λ b. L + d k b - d b b')

unfoldable pub brought_side : ℕ → (ℕ → ℕ → ℕ) → ℕ → (ℕ → ℕ) → ℕ → ℕ
brought_side L d k s b' = least_on (suc k) s (s k) (4 * L) (λ a. brought_near L d k s b' + (L + d a b' - d k a))

unfoldable pub brought_fast : ℕ → (ℕ → ℕ → ℕ) → ℕ → (ℕ → ℕ) → ℕ
brought_fast L d k s = least_on k s (1 - s k) (4 * L) (brought_side L d k s)

-- the row of S over k + 1 images, from its cost v over the first k
abbrev pub more : ℕ → (ℕ → ℕ → ℕ) → ℕ → ℕ → ℕ → Row
more L d k S v = (S, min v (brought_fast L d k (bit S) - 2 * L))

-- own link, or cost above 0
abbrev pub stays : ℕ → Row → Bool
stays n r = not (inner n r.0) || ltb 0 r.1

-- old rows with image k outside, its own link, old rows with image k inside
abbrev pub step : ℕ → (ℕ → ℕ → ℕ) → ℕ → List Row → List Row
step L d k T =
    filter (stays (suc k)) (map (λ r. more L d k r.0 r.1) T)
    ++ (more L d k (2 ^ k) (2 * L) ∷ filter (stays (suc k)) (map (λ r. more L d k (2 ^ k + r.0) r.1) T))
