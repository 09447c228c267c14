-- How large the figures of the far sides seen are. Assumes nothing.
use Rattle.std.specs.Prelude.{false, List, [], ◌∷◌, refl, ◌≡◌, suc, ℕ, ◌*◌, ◌<◌, ◌^◌, ◌≤◌, eqb, length}
use mathlib.Core.List.Memᴰ
use Rattle.std.proofs.Common.{suc-mul, arith, eqb-true, ne_eqb}
use borrow.Table.Steps.{cases}
use Rattle.ground.specs.Ascending.{Between}
use Rattle.ground.specs.Filters.{Each}
use Rattle.ground.specs.Laws.Maps.{map-mem}
use Rattle.ground.specs.Members.{is_in}
use Rattle.theory.specs.LinkTables.{LinkTable, Row, cost_of, fars}
use Rattle.seen.specs.Columns.{Small}
use Rattle.seen.specs.Seen.{cost_sum, entries, has, in_trees, seen, Entry}
use Rattle.seen.specs.Laws.OneMore.{absent}

is_in-below : (m k x : ℕ) (l : List ℕ) → x < m → Between m l k → is_in x l ≡ false
is_in-below m k x [] h b = refl
is_in-below m k x (y ∷ l) h b = rw (ne_eqb x y (λ e. omega arith)) (is_in-below (suc y) k x l (omega arith) b.1)

-- no far side has more than the greatest doubled cost
cost_cap : (L m k : ℕ) (T : List Row) (X : ℕ) → Between m (fars T) k → Each T (λ r. r.1 ≤ 2 * L) → cost_of T X ≤ 2 * L
cost_cap L m k [] X b h = omega arith
cost_cap L m k (r ∷ T) X b h =
    let ih = cost_cap L (suc r.0) k T X b.1 (λ q t. h q (Memᴰ.tail t)) in
    let c = h r (Memᴰ.head refl) in
    cases (eqb r.0 X)
    (λ e. let q = eqb-true r.0 X e in
    rw e (omega (arith, absent T X (is_in-below (suc r.0) k X (fars T) (omega arith) b.1))))
    (λ e. rw e (omega arith))

trees_cap : (Ts : List (List Row)) (X : ℕ) → in_trees Ts X ≤ length Ts
trees_cap [] X = omega arith
trees_cap (T ∷ Ts) X = cases (has T X) (λ e. rw e (omega (arith, trees_cap Ts X))) (λ e. rw e (omega (arith, trees_cap Ts X)))

costs_cap : (L n : ℕ) (Ts : List (List Row)) → Each Ts (LinkTable L n) → (X : ℕ) → cost_sum Ts X ≤ length Ts * (2 * L)
costs_cap L n [] h X = omega arith
costs_cap L n (T ∷ Ts) h X =
    let t = h T (Memᴰ.head refl) in
    rw (suc-mul (length Ts) (2 * L)) (omega (arith, costs_cap L n Ts (λ U m. h U (Memᴰ.tail m)) X, cost_cap L 1 (2 ^ n) T X t.ascending t.small))

pub entries_small : (L n : ℕ) (Ts : List (List Row)) → Each Ts (LinkTable L n) → Small L (length Ts) (entries n Ts)
unfolding entries
entries_small L n Ts h = record {
  few = λ e m. let r = map-mem (λ S. (S, in_trees Ts S, cost_sum Ts S)) (seen n Ts) e m in rw r.1 (trees_cap Ts r.0);
  low = λ e m. let r = map-mem (λ S. (S, in_trees Ts S, cost_sum Ts S)) (seen n Ts) e m in rw r.1 (costs_cap L n Ts h r.0);
}

-- a larger bound
pub small_to : (L m k : ℕ) (E : List Entry) → m ≤ k → m * (2 * L) ≤ k * (2 * L) → Small L m E → Small L k E
small_to L m k E h g s = record { few = λ e t. omega (arith, s.few e t); low = λ e t. omega (arith, s.low e t) }
