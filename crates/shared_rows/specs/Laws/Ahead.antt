-- How the merge meets what the rows held share with one tree more: before its loop, one turn, after it. Assumes nothing.
use mathlib.Core.List.{List, [], append_assoc, append-nil, ◌++◌}
use Rattle.std.proofs.Common.{ap, ◌∙◌, arith, drop_of_length-le, get_or-take}
use Rattle.std.proofs.Math.Path.{refl, sym}
use Rattle.std.specs.Prelude.{◌≡◌, min, suc, ℕ, ◌+◌, ◌<◌, ◌≤◌, eqb, get_or, length, take}
use Rattle.std.proofs.Math.ListN.{drop}
use Rattle.std.proofs.Math.Seq.{length-take-le}
use Rattle.ground.specs.Ascending.{Between}
use Rattle.ground.specs.Filters.{keep}
use Rattle.ground.specs.Merges.{advance}
use Rattle.theory.specs.LinkTables.{fars, rows_of}
use Rattle.tree.specs.Writing.{rows_left}
use Rattle.shared_rows.specs.Laws.Merge.{meet_none, merge-turn}
use Rattle.shared_rows.specs.Laws.Turns.{ascends, kept-turn, met_stays, rest_cons, rest-drop, rest-fars, rest_rows, same_advance, same_at, stay}
use Rattle.shared_rows.specs.Meet.{meet}
use Rattle.shared_rows.specs.Merge.{Met, RowKept}

-- ## One turn, over the rows f, v and g, w

module _ (k : ℕ) (f v g w : List ℕ) (a : Between 1 f k) (b : Between 1 g k) (ev : length v ≡ length f) (ew : length w ≡ length g) where
  -- what is shared ahead of the places i and j is the row in front, where the two are the same, and what is shared ahead of it
  ahead-front : (i j : ℕ) → i < length f → j < length g
      → keep (eqb (get_or f i 0) (get_or g j 0)) (get_or f i 0, min (get_or v i 0) (get_or w j 0)) []
      ++ meet (rest_rows (i + advance (get_or f i 0) (get_or g j 0)) f v) (rest_rows (j + advance (get_or g j 0) (get_or f i 0)) g w)
      ≡ meet (rest_rows i f v) (rest_rows j g w)
  ahead-front i j hi hj =
      let x = get_or f i 0 in
      let y = get_or g j 0 in
      let r = rest_cons i f v hi (omega arith) in
      let q = rest_cons j g w hj (omega arith) in
      let p : Between (suc x) (fars (rest_rows (suc i) f v)) k = rw (rest-fars (suc i) f v ev) (ascends 1 k i f a hi) in
      let t : Between (suc y) (fars (rest_rows (suc j) g w)) k = rw (rest-fars (suc j) g w ew) (ascends 1 k j g b hj) in
      rw (rest-drop i (advance x y) f v ev, rest-drop j (advance y x) g w ew, q, r)
      (sym (merge-turn k (x, get_or v i 0) (y, get_or w j 0) (rest_rows (suc i) f v) (rest_rows (suc j) g w) p t))

-- a turn keeps no more rows than it goes in the rows held
pub kept-count : (i y e at : ℕ) (f v : List ℕ) (r : ℕ) (f' v' : List ℕ) {s : ℕ} → RowKept i y e at f v r f' v' → s ≡ advance (get_or f i 0) y → at ≤ i → r ≤ i + s
kept-count i y e at f v r f' v' q es h = omega (arith, q.count, same_advance (get_or f i 0) y)

-- ## The loop, over the first c rows of f, v and all of g, w

module _ (c : ℕ) (f v g w : List ℕ) where
  -- the rows in the first `at` places and what is still shared ahead are all that is shared, and the rows held from place i on are as they were
  pub record Ahead (f' v' : List ℕ) (at i j : ℕ) : Type 0 where
    pub all : rows_left at f' v' ++ meet (rest_rows i (take c f) (take c v)) (rest_rows j g w) ≡ meet (rows_left c f v) (rows_of g w)
    pub far-rest : drop i f' ≡ drop i f
    pub cost-rest : drop i v' ≡ drop i v

  pub ahead-all : Ahead f v 0 0 0
  unfolding rest_rows
  ahead-all = record { all = refl; far-rest = refl; cost-rest = refl }

  module _ (k : ℕ) (a : Between 1 (take c f) k) (b : Between 1 g k) (e : length w ≡ length g) (hf : c ≤ length f) (hv : c ≤ length v) where
    pub ahead-turn : (f' v' f'' v'' : List ℕ) (at i j : ℕ) {r s u : ℕ} → Ahead f' v' at i j → i < c → j < length g → at ≤ i → length f' ≡ length f
        → length v' ≡ length v → RowKept i (get_or g j 0) (get_or w j 0) at f' v' r f'' v'' → s ≡ advance (get_or f' i 0) (get_or g j 0)
        → u ≡ advance (get_or g j 0) (get_or f' i 0) → Ahead f'' v'' r (i + s) (j + u)
    ahead-turn f' v' f'' v'' at i j {s = s} h hi hj ha lf lv q es eu =
        let x = get_or f' i 0 in
        let y = get_or g j 0 in
        let ex : get_or (take c f) i 0 ≡ x = get_or-take c f i 0 hi ∙ sym (same_at i f' f h.far-rest) in
        let ev : get_or (take c v) i 0 ≡ get_or v' i 0 = get_or-take c v i 0 hi ∙ sym (same_at i v' v h.cost-rest) in
        let l = length-take-le c f hf in
        let m = length-take-le c v hv in
        let z = ahead-front k (take c f) (take c v) g w a b (m ∙ sym l) e i j (omega arith) hj in
        record {
          all =
              rw (q.count, q.fars, q.costs, es, eu, kept-turn at f' v' x y (get_or v' i 0) (get_or w j 0) (omega arith) (omega arith), append_assoc)
              (ap (λ r. rows_left at f' v' ++ r) (rw (ex, ev) at z) ∙ h.all);
          far-rest = rw q.fars (stay f' f at i s x h.far-rest ha (λ o. refl));
          cost-rest = rw q.costs (stay v' v at i s _ h.cost-rest ha (λ o. met_stays x y (get_or v' i 0) (get_or w j 0) (sym es ∙ o)));
        }

  -- the two ways out
  pub held_ends : (f' v' : List ℕ) (at i j : ℕ) → c ≤ length f → c ≤ i → at ≤ c → Ahead f' v' at i j → Met c f v g w at f' v'
  unfolding rest_rows
  held_ends f' v' at i j l m n h = record {
    few = n;
    rows = sym (append-nil (rows_left at f' v')) ∙ go (drop_of_length-le (take c f) {i = i} (omega (arith, length-take-le c f l)));
  }
    where
      go : drop i (take c f) ≡ [] → rows_left at f' v' ++ [] ≡ meet (rows_left c f v) (rows_of g w)
      go e = let z = h.all in rw e at z

  pub other_ends : (f' v' : List ℕ) (at i j : ℕ) → length g ≤ j → at ≤ c → Ahead f' v' at i j → Met c f v g w at f' v'
  unfolding rest_rows
  other_ends f' v' at i j l n h = record { few = n; rows = sym (append-nil (rows_left at f' v')) ∙ go (drop_of_length-le g {i = j} l) }
    where
      go : drop j g ≡ [] → rows_left at f' v' ++ [] ≡ meet (rows_left c f v) (rows_of g w)
      go e = let z = h.all in rw (e, meet_none (rows_of (drop i (take c f)) (drop i (take c v)))) at z
