-- The grafted table is the exact reading: its path costs are twice the entries, and it is a link table. Assumes nothing.
use Rattle.std.specs.Prelude.{Bool, true, List, ◌≡◌, suc, ℕ, ◌*◌, ◌+◌, ◌<◌, ◌^◌, ◌≤◌, leb, ltb}
use Rattle.std.proofs.Common.{inr, ap, ◌∙◌, arith, leb-false, leb-true, ltb-true}
use borrow.Table.Steps.{cases}
use Rattle.ground.specs.Filters.{Each}
use Rattle.ground.specs.Laws.Filters.{filter-mem}
use Rattle.ground.specs.Laws.Sums.{sum_one}
use Rattle.ground.specs.Sums.{sum, when}
use Rattle.theory.specs.FarSides.{inner, own}
use Rattle.theory.specs.Laws.FarSides.{far_image}
use Rattle.theory.specs.Laws.Nested.{bit-holds, bit_holds_not, uncrossed_nested}
use Rattle.theory.proofs.Laws.OnlyOne.{unique}
use Rattle.theory.proofs.Laws.Paths.{path_same}
use Rattle.theory.specs.LinkTables.{LinkTable, Row, apart, path}
use Rattle.theory.specs.Readings.{Exact, Meets, measured}
use Rattle.theory.specs.Tables.{WellFormed}
use Rattle.recognition.specs.Recognition.{Places, Recognised, placed}
use Rattle.rows.proofs.Laws.Put.{Costs}
use Rattle.rows.proofs.Laws.PutAll.{costly-sum, put_all_between, put_all-costs, put_all_keeps, put_all-sum}
use Rattle.rows.specs.Rows.{cost_if, costly}
use Rattle.path_cuts.specs.Cuts.{height}
use Rattle.grafting.specs.Grafting.{closed_to, grafted, own_rows, path_to, table_to}
use Rattle.grafting.specs.Laws.Heights.{height_is, height_self}
use Rattle.grafting.specs.Laws.OwnRows.{own_between, own-costs, own-sum, own_there}
use Rattle.grafting.specs.Laws.Sound.{Sound, grafted_sound, on_path, sound_uncrossed, when-closed}
use Rattle.grafting.specs.Laws.Sums.{all-sum, both_in, path-both}

costly-costs : (t : ℕ → Bool) (R : List Row) → Each (costly R) (Costs t)
costly-costs t R q m s = ltb-true 0 q.1 (filter-mem (λ r. ltb 0 r.1) R q m).0

module _ (L : ℕ) (d : ℕ → ℕ → ℕ) (o : ℕ → ℕ) (k : ℕ) (some : 1 ≤ k) (w : Places o (suc (suc k))) (cd : WellFormed L d (suc (suc k)))
    (c : WellFormed L (placed d o) (suc (suc k))) (t : Recognised (placed d o) (suc k)) where
  abbrev n : ℕ
  n = suc k

  abbrev e : ℕ → ℕ → ℕ
  e = placed d o

  abbrev T : List Row
  T = grafted e o (suc n) n

  sound : Each T (λ r. Sound d (suc n) r.0)
  sound = grafted_sound L d o k w c t

  -- ## Path costs

  grafted-sum : (s : ℕ → Bool) → sum T (cost_if s) ≡ sum (path_to e o n) (cost_if s) + sum (closed_to e o n) (cost_if s)
  grafted-sum s =
      omega (
        arith,
        put_all-sum s (costly (path_to e o n)) (table_to e o (suc n) n),
        put_all-sum s (costly (closed_to e o n)) (own_rows (suc n)),
        own-sum (suc n) s,
        costly-sum s (path_to e o n),
        costly-sum s (closed_to e o n),
      )

  both-sum : (i j : ℕ) → i ≤ j → j ≤ n → sum T (cost_if (both_in (o i) (o j))) ≡ height e i j
  both-sum i j l m = grafted-sum (both_in (o i) (o j)) ∙ all-sum L e n c t o w i j l m

  up_meets : (i j : ℕ) → i ≤ j → j ≤ n → path T (o i) (o j) ≡ 2 * d (o i) (o j)
  up_meets i j l m =
      omega (
        arith,
        path-both (o i) (o j) T,
        both-sum i j l m,
        both-sum i i (omega arith) (omega arith),
        both-sum j j (omega arith) m,
        height_is L e n c t i j (omega arith) m,
        height_self L e n c t i (omega arith),
        height_self L e n c t j m,
      )

  pub grafted_meets : Meets d (suc n) T
  grafted_meets = record { meets = λ {i} {j} hi hj. go i j (w.all i hi) (w.all j hj) }
    where
      go : (x y : ℕ) → (i : ℕ) × (i < suc n) × (o i ≡ x) → (j : ℕ) × (j < suc n) × (o j ≡ y) → path T x y ≡ 2 * d x y
      go x y (i, hi, p) (j, hj, q) =
          cases (leb i j)
          (λ s. rw (← p, ← q) (up_meets i j (leb-true i j s) (omega arith)))
          (λ s. rw (← p, ← q) (path_same T (o i) (o j) ∙ up_meets j i (omega (arith, leb-false i j s)) (omega arith) ∙ ap (λ (z : ℕ). 2 * z) (c.same hj hi)))

  -- ## A link table

  bounds : (R : List Row) → Each R (λ r. Sound d (suc n) r.0) → Each R (λ r. (1 ≤ r.0) × (r.0 < 2 ^ suc n))
  bounds R h q m = let x = (h q m).0 in (x.some, x.fits)

  pub grafted_tree : LinkTable L (suc n) T
  grafted_tree = record {
    ascending =
        put_all_between 1 (2 ^ suc n) (costly (path_to e o n)) (table_to e o (suc n) n) (bounds (costly (path_to e o n)) (on_path L d o k w c t))
        (put_all_between 1 (2 ^ suc n) (costly (closed_to e o n)) (own_rows (suc n)) (bounds (costly (closed_to e o n)) (when-closed L d o k w c t))
        (own_between k some));
    near = λ r m. (sound r m).0.near;
    owns = λ i h.
        put_all_keeps (own (suc n) i) (costly (path_to e o n)) (table_to e o (suc n) n)
        (inr (put_all_keeps (own (suc n) i) (costly (closed_to e o n)) (own_rows (suc n)) (inr (own_there (suc n) (omega arith) i h))));
    nested = λ r m q s. uncrossed_nested (suc n) r.0 q.0 (sound_uncrossed L d (suc n) r.0 q.0 cd (sound r m) (sound q s));
    drawn =
        put_all-costs (inner (suc n)) (costly (path_to e o n)) (table_to e o (suc n) n) (costly-costs (inner (suc n)) (path_to e o n))
        (put_all-costs (inner (suc n)) (costly (closed_to e o n)) (own_rows (suc n)) (costly-costs (inner (suc n)) (closed_to e o n)) (own-costs k));
    small = λ r m.
        let f = (sound r m).0 in
        let b = far_image (suc n) r.0 f in
        let a : apart r.0 0 b.0 ≡ true = rw (bit_holds_not r.0 0 f.near, bit-holds r.0 b.0 b.2) in
        let s = sum_one (λ q. when (apart q.0 0 b.0) q.1) T r m in
        let s = rw a at s in
        omega (arith, grafted_meets.meets {i = 0} {j = b.0} (omega arith) b.1, cd.small {i = 0} {j = b.0} (omega arith) b.1);
  }

  -- so no other link table has these path costs
  pub grafted_exact : Exact L d (suc n) T
  grafted_exact = record { tree = grafted_tree; meets = grafted_meets }

  pub grafted-measured : T ≡ measured L d (suc n)
  grafted-measured = unique L d (suc n) cd T grafted_tree grafted_meets
