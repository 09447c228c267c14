-- Which far sides are seen. Assumes nothing.
use Rattle.std.proofs.lemmas.Bool.{false≢true}
use Rattle.std.specs.Prelude.{true, ◌&&◌, ◌↔◌, refl, ◌≡◌, ℕ, ◌^◌}
use mathlib.Core.List.{List, Memᴰ, [], ◌∷◌}
use borrow.Table.Steps.{cases}
use Rattle.ground.specs.Ascending.{Between}
use Rattle.ground.specs.Filters.{Each}
use Rattle.ground.specs.Laws.Ascending.{between_filter}
use Rattle.ground.specs.Laws.Filters.{filter-mem, mem-filter}
use Rattle.ground.specs.Laws.Maps.{map-mem}
use Rattle.ground.specs.Laws.Members.{is_in-mem, mem-is_in}
use Rattle.ground.specs.Laws.Tests.{and_l, and_r, or_l, or_r}
use Rattle.theory.specs.FarSides.{inner, sides}
use Rattle.theory.specs.Laws.FarSides.{sides_between}
use Rattle.theory.specs.LinkTables.{LinkTable, Row, far, fars}
use Rattle.seen.specs.Seen.{has, in_some, seen}
use Rattle.seen.specs.Laws.OneMore.{tree_sides}

pub seen_ascends : (n : ℕ) (Ts : List (List Row)) → Between 1 (seen n Ts) (2 ^ n)
unfolding seen
seen_ascends n Ts = between_filter (λ S. inner n S && in_some Ts S) 1 (2 ^ n) (sides n) (sides_between n)

some-mem : (Ts : List (List Row)) (S : ℕ) → in_some Ts S ≡ true → (T : List Row) × Memᴰ T Ts × Memᴰ S (fars T)
some-mem [] S e = absurd (false≢true e)
some-mem (T ∷ Ts) S e =
    let ih = some-mem Ts S in
    cases (has T S) (λ h. (T, Memᴰ.head refl, is_in-mem S (fars T) h)) (λ h. let r = ih (rw h at e) in (r.0, Memᴰ.tail r.1, r.2))

mem-some : (Ts : List (List Row)) (S : ℕ) (T : List Row) → Memᴰ T Ts → Memᴰ S (fars T) → in_some Ts S ≡ true
mem-some [] S T m h = elim m [ ]
mem-some (U ∷ Ts) S T (Memᴰ.head e) h = or_l (has U S) (in_some Ts S) (mem-is_in S (fars U) (rw (← e) h))
mem-some (U ∷ Ts) S T (Memᴰ.tail m) h = or_r (has U S) (in_some Ts S) (mem-some Ts S T m h)

-- exactly the inner far sides that some tree has
pub seen-mem : (L n : ℕ) (Ts : List (List Row)) → Each Ts (LinkTable L n) → (S : ℕ)
    → Memᴰ S (seen n Ts) ↔ ((inner n S ≡ true) × ((T : List Row) × Memᴰ T Ts × Memᴰ S (fars T)))
unfolding seen
seen-mem L n Ts h S = (
  λ m. let q = filter-mem (λ S. inner n S && in_some Ts S) (sides n) S m in
      (and_l (inner n S) (in_some Ts S) q.0, some-mem Ts S (and_r (inner n S) (in_some Ts S) q.0)),
  λ p.
      let T = p.1.0 in
      let r = map-mem far T S p.1.2 in
      mem-filter (λ S. inner n S && in_some Ts S) S (rw p.0 (mem-some Ts S T p.1.1 p.1.2))
      (sides n) (rw r.1 (tree_sides L n T (h T p.1.1) r.0 r.2)),
)
