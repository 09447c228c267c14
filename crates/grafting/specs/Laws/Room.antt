-- How many rows path and table have at most, what they cost, and which far sides the path has: so there is room in the arrays, and the
-- costs fit. Of any table, recognised or not. Assumes nothing.
use mathlib.Core.List.Memᴰ
use mathlib.Core.List.{List, Memᴰ}
use Rattle.std.specs.Prelude.{[], ◌++◌, ◌∷◌, ◌⊎◌, ◌≡◌, min, suc, zero, ℕ, ◌*◌, ◌+◌, ◌-◌, ◌<◌, ◌^◌, ◌≤◌, length}
use Rattle.std.proofs.Common.{inl, inr, sym, ◌∙◌, arith, length-append}
use Rattle.std.proofs.Math.Path.{ap, refl}
use Rattle.ground.specs.Filters.{Each}
use Rattle.ground.specs.Laws.Sums.{sum-append}
use Rattle.theory.specs.LinkTables.{Row, all_costs, far}
use Rattle.theory.specs.Tables.{limit}
use Rattle.rows.proofs.Laws.PutAll.{costly-append, costly-total, put_all-append, put_all-length, put_all-total}
use Rattle.rows.specs.Rows.{costly, put_all}
use Rattle.path_cuts.specs.Cuts.{closed, height, kept, own_cost}
use Rattle.grafting.specs.Grafting.{closed_to, own_rows, path_to, table_to}
use Rattle.path_cuts.specs.Laws.Cutting.{costly_few, cut_few, cut-total}
use Rattle.grafting.specs.Laws.OwnRows.{own-free, own-length}
use Rattle.grafting.specs.Laws.Sides.{side-more, side-own}
use Rattle.grafting.specs.Sides.{side}

-- ## One place more

module _ (e : ℕ → ℕ → ℕ) (o : ℕ → ℕ) where
  pub path_none : path_to e o 0 ≡ []
  unfolding path_to
  path_none = refl

  pub path-more : (p : ℕ) → path_to e o (suc p) ≡ kept (height e p (suc p)) (2 ^ o (suc p)) (path_to e o p) ++ ((2 ^ o (suc p), own_cost e p) ∷ [])
  unfolding path_to
  path-more p = refl

  module _ (n : ℕ) where
    pub table_none : table_to e o n 0 ≡ own_rows n
    unfolding closed_to put_all
    table_none = refl

    pub table_more : (p : ℕ) → table_to e o n (suc p) ≡ put_all (costly (closed (height e p (suc p)) (path_to e o p))) (table_to e o n p)
    unfolding closed_to
    table_more p =
        ap (λ R. put_all R (own_rows n)) (costly-append (closed_to e o p) (closed (height e p (suc p)) (path_to e o p)))
        ∙ put_all-append (costly (closed_to e o p)) (costly (closed (height e p (suc p)) (path_to e o p))) (own_rows n)

    -- ## How many rows, and how much they cost

    pub few : (p : ℕ) → 0 < n → length (table_to e o n p) + length (costly (path_to e o p)) ≤ n + 2 * p
    few zero h = rw (table_none, path_none) (omega (arith, own-length n h))
    few (suc p) h =
        let P = path_to e o p in
        let a = height e p (suc p) in
        let b = 2 ^ o (suc p) in
        let last : List Row = (b, own_cost e p) ∷ [] in
        let c = ap (λ R. length (costly R)) (path-more p) ∙ ap length (costly-append (kept a b P) last)
        ∙ length-append (costly (kept a b P)) (costly last) in
        omega (arith, ap length (table_more p), put_all-length (costly (closed a P)) (table_to e o n p), c, cut_few a b P, few p h, costly_few last)

    pub total : (p : ℕ) → ((i j : ℕ) → i ≤ p → j ≤ p → e i j ≤ limit) → all_costs (table_to e o n p) + all_costs (path_to e o p) ≤ 2 * limit * p
    total zero h = rw (table_none, path_none) (omega (arith, own-free n))
    total (suc p) h =
        let P = path_to e o p in
        let a = height e p (suc p) in
        let b = 2 ^ o (suc p) in
        let x = ap all_costs (table_more p) ∙ put_all-total (costly (closed a P)) (table_to e o n p) in
        let y = ap all_costs (path-more p) ∙ sum-append (λ r. r.1) (kept a b P) ((b, own_cost e p) ∷ []) in
        omega (
          arith,
          x,
          y,
          costly-total (closed a P),
          cut-total a b P,
          total p (λ i j hi hj. h i j (omega arith) (omega arith)),
          h 0 (suc p) (omega arith) (omega arith),
          h p (suc p) (omega arith) (omega arith),
        )

  pub path-length : (p : ℕ) → length (path_to e o p) ≡ p
  path-length zero = rw path_none
  path-length (suc p) =
      ap length (path-more p) ∙ length-append (kept (height e p (suc p)) (2 ^ o (suc p)) (path_to e o p)) ((2 ^ o (suc p), own_cost e p) ∷ [])
      ∙ omega (arith, kept-length (height e p (suc p)) (2 ^ o (suc p)) (path_to e o p), path-length p)
    where
      kept-length : (h b : ℕ) (P : List Row) → length (kept h b P) ≡ length P
      kept-length h b [] = refl
      kept-length h b (r ∷ P) = ap suc (kept-length (h - r.1) b P)

-- ## The far sides of the path

kept-mem : (h b : ℕ) (P : List Row) → Each (kept h b P) (λ r. (q : Row) × Memᴰ q P × (r.0 ≡ b + q.0))
kept-mem h b [] r m = absurd (Memᴰ.not-nil m)
kept-mem h b (q ∷ P) r m = go (Memᴰ.cases_cons m) (kept-mem (h - q.1) b P r)
  where
    go : (r ≡ (b + q.0, min h q.1)) ⊎ Memᴰ r (kept (h - q.1) b P)
        → (Memᴰ r (kept (h - q.1) b P) → (x : Row) × Memᴰ x P × (r.0 ≡ b + x.0)) → (x : Row) × Memᴰ x (q ∷ P) × (r.0 ≡ b + x.0)
    go (inl e) ih = (q, Memᴰ.head refl, ap far e)
    go (inr t) ih = let x = ih t in (x.0, Memᴰ.tail x.1, x.2)

-- the images at some places up to p
abbrev pub Behind : (ℕ → ℕ) → ℕ → ℕ → Type 0
Behind o p S = (q : ℕ) × (q < p) × (S ≡ side o (suc q) p)

pub path-sides : (e : ℕ → ℕ → ℕ) (o : ℕ → ℕ) (p : ℕ) → Each (path_to e o p) (λ r. Behind o p r.0)
unfolding path_to
path-sides e o zero r m = absurd (Memᴰ.not-nil m)
path-sides e o (suc p) r m = go (path-sides e o p) (Memᴰ.append_cases (kept a b (path_to e o p)) m)
  where
    a : ℕ
    a = height e p (suc p)

    b : ℕ
    b = 2 ^ o (suc p)

    own-one : (r ≡ (b, own_cost e p)) ⊎ Memᴰ r [] → Behind o (suc p) r.0
    own-one (inl e) = (p, omega arith, ap far e ∙ sym (side-own o p))
    own-one (inr m) = absurd (Memᴰ.not-nil m)

    go : Each (path_to e o p) (λ r. Behind o p r.0) → Memᴰ r (kept a b (path_to e o p)) ⊎ Memᴰ r ((b, own_cost e p) ∷ [])
        → Behind o (suc p) r.0
    go ih (inl m) =
        let x = kept-mem a b (path_to e o p) r m in
        let y = ih x.0 x.1 in
        (y.0, omega (arith, y.1), x.2 ∙ ap (λ (S : ℕ). b + S) y.2 ∙ sym (side-more o (suc y.0) p (omega (arith, y.1))))
    go ih (inr m) = own-one (Memᴰ.cases_cons m)
