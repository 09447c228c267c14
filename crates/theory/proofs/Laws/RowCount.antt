-- Every link table over n images has n to 2 n - 3 rows (C3, C4).
-- Assumes nothing.
use Rattle.std.specs.Prelude.{Bool, false, true, refl, ◌≡◌, suc, zero, ℕ, ◌*◌, ◌+◌, ◌<◌, ◌≤◌, eqb, length}
use mathlib.Core.List.{List, Memᴰ, [], map, ◌∷◌}
use Rattle.std.proofs.Common.{ap, sym, ◌∙◌, le_trans, arith, pow_mono, pow_pos, eq-eqb, eqb-true, ne_eqb}
use Rattle.std.proofs.lemmas.List.{length-map}
use Rattle.std.proofs.Math.Pow.{pow-lt}
use borrow.Table.Steps.{cases}
use Rattle.ground.specs.Counts.{count}
use Rattle.ground.specs.Laws.Counts.{sum_count_all}
use Rattle.ground.specs.Laws.Maps.{map-mem}
use Rattle.ground.specs.Sums.{sum, when}
use Rattle.ground.specs.Laws.Sums.{sum_le}
use Rattle.theory.specs.FarSides.{own}
use Rattle.theory.proofs.Laws.OnlyOne.{unique}
use Rattle.theory.specs.Laws.OwnParts.{own_parts}
use Rattle.theory.proofs.Laws.Paths.{path_same, path_self}
use Rattle.theory.proofs.Laws.RowsGrow.{rows-most}
use Rattle.theory.specs.LinkTables.{LinkTable, Row, all_costs, apart, far, fars, path}
use Rattle.theory.specs.Readings.{drawn, measured, rows}
use Rattle.theory.specs.Tables.{WellFormed}
use denote.RattleType.{owns}

-- ## At least n rows

-- own links of different images differ, from three images on
pub own-differ : (k i j : ℕ) → i < j → j < suc (suc (suc k)) → own (suc (suc (suc k))) i ≡ own (suc (suc (suc k))) j → ⊥
own-differ k i zero h l e = omega arith
own-differ k zero (suc j) h l e = omega (arith, pow_mono {i = suc j} {j = suc (suc k)} (omega arith), pow_pos k)
own-differ k (suc i) (suc j) h l e = omega (arith, pow-lt h)

-- at most one t passes
count_once : (p : ℕ → Bool) (N : ℕ) → ((s t : ℕ) → s < t → t < N → p s ≡ true → p t ≡ true → ⊥) → count N p ≤ 1
count_once p zero h = omega arith
count_once p (suc N) h =
    cases (p N)
    (λ e. rw e (omega (arith, none p N (λ t l. cases (p t) (λ f. absurd (h t N l (omega arith) f e)) (λ f. f)))))
    (λ e. rw e (omega (arith, count_once p N (λ s t l u. h s t l (omega arith)))))
  where
    none : (p : ℕ → Bool) (N : ℕ) → ((t : ℕ) → t < N → p t ≡ false) → count N p ≡ 0
    none p zero h = refl
    none p (suc N) h = rw (h N (omega arith)) (omega (arith, none p N (λ t l. h t (omega arith))))

sum-length : (l : List ℕ) (f : ℕ → ℕ) → ((x : ℕ) → f x ≤ 1) → sum l f ≤ length l
sum-length [] f h = omega arith
sum-length (x ∷ l) f h = omega (arith, h x, sum-length l f h)

-- n different elements
pub length_least : (f : ℕ → ℕ) (n : ℕ) (l : List ℕ) → ((i : ℕ) → i < n → Memᴰ (f i) l) → ((i j : ℕ) → i < j → j < n → f i ≡ f j → ⊥) → n ≤ length l
length_least f n l m h =
    le_trans (sum_count_all f n l m)
    (sum-length l (λ y. count n (λ t. eqb (f t) y))
    (λ y. count_once (λ t. eqb (f t) y) n (λ s t l u a b. h s t l u (eqb-true (f s) y a ∙ sym (eqb-true (f t) y b)))))

pub rows_at_least : (L k : ℕ) (T : List Row) → LinkTable L (suc (suc (suc k))) T → suc (suc (suc k)) ≤ length T
rows_at_least L k T t =
    let r = length_least (own (suc (suc (suc k)))) (suc (suc (suc k))) (fars T) t.owns (own-differ k) in
    rw length-map at r

-- ## At most 2 n - 3: with every cost one more, so that no two images cost nothing, its path costs are a table, whose one reading it is, with
-- those costs doubled

abbrev raised : Row → Row
raised r = (r.0, r.1 + 1)

abbrev twice : Row → Row
twice r = (r.0, 2 * (r.1 + 1))

-- a link between i and j costs them something
raised-path : (T : List Row) (S i j : ℕ) → apart S i j ≡ true → Memᴰ S (fars T) → 0 < path (map raised T) i j
raised-path [] S i j e m = elim m [ ]
raised-path (r ∷ T) S i j e (Memᴰ.head q) = rw (← q, e) (omega arith)
raised-path (r ∷ T) S i j e (Memᴰ.tail m) = omega (arith, raised-path T S i j e m)

module _ (L k : ℕ) (T : List Row) (t : LinkTable L (suc (suc k)) T) where
  abbrev n : ℕ
  n = suc (suc k)

  abbrev table : ℕ → ℕ → ℕ
  table = path (map raised T)

  abbrev all : ℕ
  all = L + all_costs (map raised T)

  fars-twice : (T : List Row) → fars (map twice T) ≡ fars T
  fars-twice [] = refl
  fars-twice (r ∷ T) = ap (λ l. r.0 ∷ l) (fars-twice T)

  doubled : (T : List Row) (i j : ℕ) → path (map twice T) i j ≡ 2 * path (map raised T) i j
  doubled [] i j = refl
  doubled (r ∷ T) i j = cases (apart r.0 i j) (λ e. rw e (omega (arith, doubled T i j))) (λ e. rw e (omega (arith, doubled T i j)))

  path_small : (i j : ℕ) → table i j ≤ all
  path_small i j =
      omega (
        arith,
        sum_le (λ r. when (apart r.0 i j) r.1) (λ r. r.1) (map raised T)
            (λ r m. cases (apart r.0 i j) (λ e. rw e (omega arith)) (λ e. rw e (omega arith))),
      )

  own-apart : (i j : ℕ) → i < n → j < n → (i ≡ j → ⊥) → apart (own n i) i j ≡ true
  own-apart i j hi hj h = own_parts n i i j hi hj ∙ rw (eq-eqb i i refl, ne_eqb i j h)

  costs : WellFormed all table n
  costs = record {
    small = λ {i} {j} hi hj. path_small i j;
    self = λ {i} hi. path_self (map raised T) i;
    same = λ {i} {j} hi hj. path_same (map raised T) i j;
    nonzero = λ {i} {j} hi hj h. raised-path T (own n i) i j (own-apart i j hi hj h) (t.owns i hi);
  }

  tree : LinkTable all n (map twice T)
  tree = record {
    ascending = rw (fars-twice T) t.ascending;
    near = λ r m. let q = map-mem twice T r m in rw (ap far q.1) (t.near q.0 q.2);
    owns = λ i h. rw (fars-twice T) (t.owns i h);
    nested = λ r m s l. let q = map-mem twice T r m in let p = map-mem twice T s l in rw (ap far q.1, ap far p.1) (t.nested q.0 q.2 p.0 p.2);
    drawn = λ r m e. let q = map-mem twice T r m in omega (arith, ap (λ (x : Row). x.1) q.1);
    small = λ r m. let q = map-mem twice T r m in omega (arith, ap (λ (x : Row). x.1) q.1, one T q.0 q.2);
  }
    where
      one : (T : List Row) (r : Row) → Memᴰ r T → r.1 + 1 ≤ all_costs (map raised T)
      one [] r m = elim m [ ]
      one (q ∷ T) r (Memᴰ.head e) = omega (arith, ap (λ (x : Row). x.1) e)
      one (q ∷ T) r (Memᴰ.tail m) = omega (arith, one T r m)

  pub rows_at_most : length T ≤ 2 * k + 1
  rows_at_most =
      let u = unique all table n costs (map twice T) tree (record { meets = λ {i} {j} hi hj. doubled T i j }) in
      let s = ap length u in
      let m = rows-most all table k costs in
      let a : length (map twice T) ≡ length T = simp length-map in
      let b : length (measured all table n) ≡ length (rows all table n) = simp length-map in
      omega arith

pub row_count : (L n : ℕ) (T : List Row) → 3 ≤ n → LinkTable L n T → (n ≤ length T) × (length T + 3 ≤ 2 * n)
row_count L zero T h t = absurd (omega arith)
row_count L (suc zero) T h t = absurd (omega arith)
row_count L (suc (suc zero)) T h t = absurd (omega arith)
row_count L (suc (suc (suc k))) T h t = (rows_at_least L k T t, omega (arith, rows_at_most L (suc k) T t))
