-- Which row is the upper row of another, row by row. Assumes nothing.
use Rattle.std.specs.Prelude.{Bool, false, not, true, ◌&&◌, List, [], ◌∷◌, ◌⊎◌, refl, ◌≡◌, suc, zero, ℕ, ◌+◌, ◌-◌, ◌<◌, ◌≤◌, eqb, drop, get_or, length}
use Rattle.std.proofs.Common.{inl, inr, ap, subst, ◌∙◌, arith, length-drop, get_or-drop, eq-eqb, le-leb, ne_eqb}
use Rattle.std.proofs.lemmas.Bool.{lt-leb}
use borrow.Table.Steps.{cases}
use Rattle.theory.specs.Routes.{contains, upper_from, uppers_from}
use Rattle.newick_text.specs.UpperRows.{unseen, up}

upper_least : (i S : ℕ) (r : List ℕ) → (upper_from i S r ≡ 0) ⊎ (i ≤ upper_from i S r)
upper_least i S [] = inl refl
upper_least i S (R ∷ r) = cases (contains R S) (λ e. rw e (inr (omega arith))) (λ e. rw e (go (upper_least (suc i) S r)))
  where
    go : (upper_from (suc i) S r ≡ 0) ⊎ (suc i ≤ upper_from (suc i) S r) → (upper_from (suc i) S r ≡ 0) ⊎ (i ≤ upper_from (suc i) S r)
    go (inl e) = inl e
    go (inr h) = inr (omega arith)

unseen_of : (m x : ℕ) → (x ≡ 0) ⊎ (m ≤ x) → unseen m x ≡ true
unseen_of m x (inl e) = rw (eq-eqb x 0 e) refl
unseen_of m x (inr h) = cases (eqb x 0) (λ e. rw e refl) (λ e. rw (e, le-leb m x h) refl)

seen_of : (m x : ℕ) → 1 ≤ x → x < m → unseen m x ≡ false
seen_of m x l h = rw (ne_eqb x 0 (λ e. omega arith), lt-leb m x h) refl

-- the next row is the upper row where it contains S and none before did
pub record Next (m x : ℕ) (t : Bool) : Type 0 where
  pub taken : (unseen m x && t) ≡ eqb x m
  pub left : (unseen m x && not t) ≡ unseen (suc m) x

next_here : (i S R : ℕ) (r : List ℕ) → 1 ≤ i → Next i (upper_from i S (R ∷ r)) (contains R S)
next_here i S R r h =
    cases (contains R S)
    (λ e. rw e (record {
      taken = rw (unseen_of i i (inr (omega arith)), eq-eqb i i refl) refl;
      left = rw (unseen_of i i (inr (omega arith)), seen_of (suc i) i h (omega arith)) refl;
    }))
    (λ e. rw e (go (upper_least (suc i) S r)))
  where
    go : (upper_from (suc i) S r ≡ 0) ⊎ (suc i ≤ upper_from (suc i) S r) → Next i (upper_from (suc i) S r) false
    go (inl q) = record { taken = rw (q, ne_eqb 0 i (λ e. omega arith)) refl; left = rw q refl }
    go (inr q) = record {
      taken = rw (unseen_of i (upper_from (suc i) S r) (inr (omega arith)), ne_eqb (upper_from (suc i) S r) i (λ e. omega arith)) refl;
      left = rw (unseen_of i (upper_from (suc i) S r) (inr (omega arith)), unseen_of (suc i) (upper_from (suc i) S r) (inr q)) refl;
    }

next_row : (r : List ℕ) (i S q : ℕ) → 1 ≤ i → q < length r → Next (i + q) (upper_from i S r) (contains (get_or r q 0) S)
next_row [] i S q h l = absurd (omega arith)
next_row (R ∷ r) i S zero h l = subst (λ (m : ℕ). Next m (upper_from i S (R ∷ r)) (contains R S)) (omega arith) (next_here i S R r h)
next_row (R ∷ r) i S (suc q) h l =
    let ih = next_row r (suc i) S q (omega arith) (omega arith) in
    let m : suc i + q ≡ i + suc q = omega arith in
    cases (contains R S)
    (λ e. rw e (record {
      taken = rw (seen_of (i + suc q) i h (omega arith), ne_eqb i (i + suc q) (λ x. omega arith)) refl;
      left = rw (seen_of (i + suc q) i h (omega arith), seen_of (suc (i + suc q)) i h (omega arith)) refl;
    }))
    (λ e. rw e (subst (λ (x : ℕ). Next x (upper_from (suc i) S r) (contains (get_or r q 0) S)) m ih))

up_from : (i : ℕ) (l : List ℕ) (j : ℕ) → j < length l → get_or (uppers_from i l) j 0 ≡ upper_from (suc (i + j)) (get_or l j 0) (drop (suc j) l)
up_from i [] j h = absurd (omega arith)
up_from i (S ∷ l) zero h = ap (λ (x : ℕ). upper_from (suc x) S l) (omega arith)
up_from i (S ∷ l) (suc j) h = up_from (suc i) l j (omega arith) ∙ ap (λ (x : ℕ). upper_from (suc x) (get_or l j 0) (drop (suc j) l)) (omega arith)

-- rows j and k, counted from 0
pub upper-next : (l : List ℕ) (j k : ℕ) → j < k → k < length l → Next (suc k) (up l j) (contains (get_or l k 0) (get_or l j 0))
upper-next l j k h n =
    let e = up_from 1 l j (omega arith) in
    let q = k - suc j in
    let r = drop (suc j) l in
    let d : get_or r q 0 ≡ get_or l k 0 = get_or-drop (suc j) l q 0 ∙ ap (λ (x : ℕ). get_or l x 0) (omega arith) in
    let w = next_row r (suc (1 + j)) (get_or l j 0) q (omega arith) (omega (arith, length-drop (suc j) l)) in
    rw (e, ← d) (subst (λ (m : ℕ). Next m (upper_from (suc (1 + j)) (get_or l j 0) r) (contains (get_or r q 0) (get_or l j 0))) (omega arith) w)

-- no row so far is the upper row of the next
pub upper_new : (l : List ℕ) (k : ℕ) → k < length l → unseen (suc (suc k)) (up l k) ≡ true
upper_new l k h =
    let e = up_from 1 l k h in
    let w = unseen_of (suc (1 + k)) _ (upper_least (suc (1 + k)) (get_or l k 0) (drop (suc k) l)) in
    rw e (subst (λ (m : ℕ). unseen m (upper_from (suc (1 + k)) (get_or l k 0) (drop (suc k) l)) ≡ true) (omega arith) w)
