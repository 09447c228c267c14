-- A path cut in two: row by row, without the rows that have no cost, how many rows, and how much they cost. Assumes nothing.
use Rattle.std.specs.Prelude.{List, [], ◌++◌, ◌∷◌, refl, ◌≡◌, min, suc, ℕ, ◌+◌, ◌-◌, ◌≤◌, ltb, length}
use Rattle.std.proofs.Common.{ap, ap₂, arith, le-ltb, lt-ltb, ltb-false, ltb-true}
use borrow.Table.Steps.{cases}
use Rattle.theory.specs.LinkTables.{Row, all_costs}
use Rattle.rows.specs.Rows.{costly}
use Rattle.path_cuts.specs.Cuts.{closed, kept}

-- what is left of h behind a path
abbrev pub left : ℕ → List Row → ℕ
left h [] = h
left h (r ∷ P) = left (h - r.1) P

-- ## Rows more at its end

pub kept_append : (h b : ℕ) (P Q : List Row) → kept h b (P ++ Q) ≡ kept h b P ++ kept (left h P) b Q
kept_append h b [] Q = refl
kept_append h b (r ∷ P) Q = ap (λ l. (b + r.0, min h r.1) ∷ l) (kept_append (h - r.1) b P Q)

pub closed-append : (h : ℕ) (P Q : List Row) → closed h (P ++ Q) ≡ closed h P ++ closed (left h P) Q
closed-append h [] Q = refl
closed-append h (r ∷ P) Q = ap (λ l. (r.0, r.1 - h) ∷ l) (closed-append (h - r.1) P Q)

pub left-append : (h : ℕ) (P Q : List Row) → left h (P ++ Q) ≡ left (left h P) Q
left-append h [] Q = refl
left-append h (r ∷ P) Q = left-append (h - r.1) P Q

-- ## Rows without cost play no part

-- at the height 0 nothing is kept, and all is closed
pub kept_none : (h b : ℕ) (P : List Row) → h ≡ 0 → costly (kept h b P) ≡ []
kept_none h b [] e = refl
kept_none h b (r ∷ P) e = rw (le-ltb 0 (min h r.1) (omega arith)) (kept_none (h - r.1) b P (omega arith))

pub closed_all : (P : List Row) → closed 0 P ≡ P
closed_all [] = refl
closed_all (r ∷ P) =
    let a : r.1 - 0 ≡ r.1 = omega arith in
    let b : 0 - r.1 ≡ 0 = omega arith in
    ap₂ (λ (x : Row) l. x ∷ l) (ap (λ (x : ℕ). (r.0, x)) a) (rw b (closed_all P))

pub costly-kept : (h b : ℕ) (P : List Row) → costly (kept h b (costly P)) ≡ costly (kept h b P)
costly-kept h b [] = refl
costly-kept h b (r ∷ P) =
    cases (ltb 0 r.1)
    (λ s. rw s (cases (ltb 0 (min h r.1))
    (λ z. rw z (ap (λ l. (b + r.0, min h r.1) ∷ l) (costly-kept (h - r.1) b P)))
    (λ z. rw z (costly-kept (h - r.1) b P))))
    (λ s.
    let a : h - r.1 ≡ h = omega (arith, ltb-false 0 r.1 s) in
    rw (s, le-ltb 0 (min h r.1) (omega (arith, ltb-false 0 r.1 s)), a) (costly-kept h b P))

pub costly-closed : (h : ℕ) (P : List Row) → costly (closed h (costly P)) ≡ costly (closed h P)
costly-closed h [] = refl
costly-closed h (r ∷ P) =
    cases (ltb 0 r.1)
    (λ s. rw s (cases (ltb 0 (r.1 - h))
    (λ z. rw z (ap (λ l. (r.0, r.1 - h) ∷ l) (costly-closed (h - r.1) P)))
    (λ z. rw z (costly-closed (h - r.1) P))))
    (λ s.
    let a : h - r.1 ≡ h = omega (arith, ltb-false 0 r.1 s) in
    rw (s, le-ltb 0 (r.1 - h) (omega (arith, ltb-false 0 r.1 s)), a) (costly-closed h P))

-- ## How many

pub closed-length : (h : ℕ) (P : List Row) → length (closed h P) ≡ length P
closed-length h [] = refl
closed-length h (r ∷ P) = ap suc (closed-length (h - r.1) P)

pub costly_few : (P : List Row) → length (costly P) ≤ length P
costly_few [] = omega arith
costly_few (r ∷ P) = let ih = costly_few P in cases (ltb 0 r.1) (λ s. rw s (omega arith)) (λ s. rw s (omega arith))

closed_few : (h : ℕ) (P : List Row) → length (costly (closed h P)) ≤ length (costly P)
closed_few h [] = omega arith
closed_few h (r ∷ P) =
    let ih = closed_few (h - r.1) P in
    cases (ltb 0 (r.1 - h))
    (λ s. rw (s, lt-ltb 0 r.1 (omega (arith, ltb-true 0 (r.1 - h) s))) (omega arith))
    (λ s. rw s (cases (ltb 0 r.1) (λ z. rw z (omega arith)) (λ z. rw z ih)))

-- at most one row is cut in two
pub cut_few : (h b : ℕ) (P : List Row) → length (costly (kept h b P)) + length (costly (closed h P)) ≤ suc (length (costly P))
cut_few h b [] = omega arith
cut_few h b (r ∷ P) =
    let ih = cut_few (h - r.1) b P in
    let cl = closed_few (h - r.1) P in
    cases (ltb h r.1)
    (λ s.
    let l = ltb-true h r.1 s in
    let z = ap length (kept_none (h - r.1) b P (omega arith)) in
    rw (lt-ltb 0 (r.1 - h) (omega arith), lt-ltb 0 r.1 (omega arith))
    (cases (ltb 0 (min h r.1)) (λ y. rw y (omega arith)) (λ y. rw y (omega arith))))
    (λ s.
    let l = ltb-false h r.1 s in
    rw (le-ltb 0 (r.1 - h) (omega arith))
    (cases (ltb 0 r.1) (λ z. rw (z, lt-ltb 0 (min h r.1) (omega (arith, ltb-true 0 r.1 z))) (omega arith))
    (λ z. rw (z, le-ltb 0 (min h r.1) (omega (arith, ltb-false 0 r.1 z))) ih)))

-- ## How much

pub cut-total : (h b : ℕ) (P : List Row) → all_costs (kept h b P) + all_costs (closed h P) ≡ all_costs P
cut-total h b [] = refl
cut-total h b (r ∷ P) = omega (arith, cut-total (h - r.1) b P)
