-- The counts over each tree and the next, once a tree more is there. Assumes nothing.
use Rattle.std.specs.Prelude.{not, List, [], map, ◌++◌, ◌∷◌, refl, ◌≡◌, max, suc, ℕ, ◌*◌, ◌+◌, ◌≤◌, eqb, length}
use mathlib.Core.List.Memᴰ
use Rattle.std.proofs.Common.{sym, arith, ne_eqb}
use borrow.Table.Steps.{cases}
use Rattle.ground.specs.Ascending.{Between}
use Rattle.ground.specs.Filters.{Each}
use Rattle.ground.specs.Laws.Ascending.{between_filter}
use Rattle.ground.specs.Members.{is_in}
use Rattle.ground.specs.Sums.{sum}
use Rattle.theory.specs.Comparison.{common, differing, inners}
use Rattle.theory.specs.Laws.Comparison.{common_same}
use Rattle.theory.specs.FarSides.{inner}
use Rattle.theory.specs.LinkTables.{Row, fars}
use Rattle.counts.proofs.Laws.Formula.{filter_le}
use Rattle.figures.specs.Figures.{count_of, largest, neighbours, pairs_from}
use Rattle.figures.specs.Pairing.{last_from, last_tree, pair_count}

pub last_more : (Ts : List (List Row)) (T : List Row) → last_tree (Ts ++ (T ∷ [])) ≡ T
last_more [] T = refl
last_more (U ∷ Ts) T = go U Ts
  where
    go : (U : List Row) (Ts : List (List Row)) → last_from U (Ts ++ (T ∷ [])) ≡ T
    go U [] = refl
    go U (Q ∷ Ts) = go Q Ts

pair_some : (n k : ℕ) (l r : List ℕ) → pair_count n (suc k) l r ≡ differing (inners n l) (inners n r)
unfolding pair_count
pair_some n k l r = rw (ne_eqb (suc k) 0 (λ e. omega arith))

pair_none : (n : ℕ) (l r : List ℕ) → pair_count n 0 l r ≡ 0
unfolding pair_count
pair_none n l r = refl

-- as the code tests it
pub pair_first : (n k : ℕ) (l r : List ℕ) → k ≡ 0 → 0 ≡ pair_count n k l r
pair_first n k l r e = rw e (sym (pair_none n l r))

pub pair_next : (n k : ℕ) (l r : List ℕ) → (k ≡ 0 → ⊥) → pair_count n k l r ≡ differing (inners n l) (inners n r)
unfolding pair_count
pair_next n k l r h = rw (ne_eqb k 0 h)

-- no more are in both than in the second
pub common_few : (n k : ℕ) (l r : List ℕ) → Between 1 l k → Between 1 r k → length (common (inners n l) (inners n r)) ≤ length (inners n r)
common_few n k l r a b =
    rw (common_same 1 k (inners n l) (inners n r) (between_filter (inner n) 1 k l a) (between_filter (inner n) 1 k r b))
    (filter_le (λ x. is_in x (inners n l)) (inners n r))

module _ (n : ℕ) (T : List Row) where
  pub pairs_more : (Ts : List (List Row)) → length (map (count_of n) (neighbours (Ts ++ (T ∷ [])))) ≡ length Ts
  pairs_more [] = refl
  pairs_more (U ∷ Ts) = go U Ts
    where
      go : (U : List Row) (Ts : List (List Row)) → length (map (count_of n) (pairs_from U (Ts ++ (T ∷ [])))) ≡ suc (length Ts)
      go U [] = refl
      go U (Q ∷ Ts) = omega (arith, go Q Ts)

  pub sum_more : (Ts : List (List Row)) → sum (map (count_of n) (neighbours (Ts ++ (T ∷ [])))) (λ c. c)
      ≡ sum (map (count_of n) (neighbours Ts)) (λ c. c) + pair_count n (length Ts) (fars (last_tree Ts)) (fars T)
  sum_more [] = omega (arith, pair_none n [] (fars T))
  sum_more (U ∷ Ts) = rw (pair_some n (length Ts) (fars (last_from U Ts)) (fars T)) (go U Ts)
    where
      go : (U : List Row) (Ts : List (List Row)) → sum (map (count_of n) (pairs_from U (Ts ++ (T ∷ [])))) (λ c. c)
          ≡ sum (map (count_of n) (pairs_from U Ts)) (λ c. c) + count_of n (last_from U Ts, T)
      go U [] = omega arith
      go U (Q ∷ Ts) = omega (arith, go Q Ts)

  pub most-more : (Ts : List (List Row)) → largest (map (count_of n) (neighbours (Ts ++ (T ∷ []))))
      ≡ max (largest (map (count_of n) (neighbours Ts))) (pair_count n (length Ts) (fars (last_tree Ts)) (fars T))
  most-more [] = omega (arith, pair_none n [] (fars T))
  most-more (U ∷ Ts) = rw (pair_some n (length Ts) (fars (last_from U Ts)) (fars T)) (go U Ts)
    where
      go : (U : List Row) (Ts : List (List Row)) → largest (map (count_of n) (pairs_from U (Ts ++ (T ∷ []))))
          ≡ max (largest (map (count_of n) (pairs_from U Ts))) (count_of n (last_from U Ts, T))
      go U [] = omega arith
      go U (Q ∷ Ts) = omega (arith, go Q Ts)

-- ## How large the counts are

differing_cap : (l r : List ℕ) → differing l r ≤ length l + length r
differing_cap l r = omega (arith, filter_le (λ x. not (is_in x r)) l, filter_le (λ x. not (is_in x l)) r)

pub sum_cap : (n : ℕ) (Ts : List (List Row)) → Each Ts (λ T. length (inners n (fars T)) ≤ 128) → sum (map (count_of n) (neighbours Ts)) (λ c. c) ≤ length Ts * 256
sum_cap n [] h = omega arith
sum_cap n (U ∷ Ts) h = omega (arith, go U Ts (h U (Memᴰ.head refl)) (λ Q m. h Q (Memᴰ.tail m)))
  where
    go : (U : List Row) (Ts : List (List Row)) → length (inners n (fars U)) ≤ 128 → Each Ts (λ T. length (inners n (fars T)) ≤ 128)
        → sum (map (count_of n) (pairs_from U Ts)) (λ c. c) ≤ length Ts * 256
    go U [] a h = omega arith
    go U (Q ∷ Ts) a h =
        let b = h Q (Memᴰ.head refl) in
        omega (arith, differing_cap (inners n (fars U)) (inners n (fars Q)), go Q Ts b (λ W m. h W (Memᴰ.tail m)))

pub pair_cap : (n k : ℕ) (l r : List ℕ) → length l ≤ 128 → length r ≤ 128 → pair_count n k l r ≤ 256
unfolding pair_count
pair_cap n k l r a b =
    cases (eqb k 0) (λ e. rw e (omega arith))
    (λ e. rw e (omega (arith, differing_cap (inners n l) (inners n r), filter_le (inner n) l, filter_le (inner n) r)))
