-- The merge of two ascending lists counts the numbers that they have in common. Assumes nothing.
use Rattle.std.specs.Prelude.{Bool, false, true, ◌&&◌, List, [], ◌∷◌, refl, ◌≡◌, suc, zero, ℕ, ◌+◌, ◌<◌, ◌≤◌, eqb, leb, ltb, drop, get_or, length}
use Rattle.std.proofs.lemmas.Bool.{false≢true, eqb-false, lt-leb}
use Rattle.std.proofs.Common.{ap, sym, ◌∙◌, arith, drop_of_length-le, drop-cons, drop-drop, eq-eqb, eqb-true, le-leb, ltb-false, ltb-true, ne_eqb}
use borrow.Table.Steps.{cases}
use Rattle.ground.specs.Ascending.{Between}
use Rattle.ground.specs.Laws.Ascending.{between_from}
use Rattle.ground.specs.Counts.{one_if}
use Rattle.ground.specs.Filters.{filter}
use Rattle.ground.specs.Laws.Counts.{one_if_le}
use Rattle.ground.specs.Laws.Filters.{filter_none}
use Rattle.ground.specs.Members.{is_in}
use Rattle.ground.specs.Merges.{advance}
use Rattle.theory.specs.Comparison.{common, inners}
use Rattle.theory.specs.FarSides.{inner}
use Rattle.counts.specs.Merge.{one_common, shared}

-- a number below an ascending list does not stand in it
is_in-below : (m k x : ℕ) (l : List ℕ) → x < m → Between m l k → is_in x l ≡ false
is_in-below m k x [] h b = refl
is_in-below m k x (y ∷ l) h b = rw (ne_eqb x y (λ e. omega arith)) (is_in-below (suc y) k x l (omega arith) b.1)

common_skip : (m k y : ℕ) (l r : List ℕ) → y < m → Between m l k → common l (y ∷ r) ≡ common l r
common_skip m k y [] r h b = refl
common_skip m k y (x ∷ l) r h b = rw (ne_eqb x y (λ e. omega arith), common_skip (suc x) k y l r (omega arith) b.1)

-- ## The three cases of the two numbers in front

less : (k x y : ℕ) (l r : List ℕ) → Between 0 (y ∷ r) k → x < y → common (x ∷ l) (y ∷ r) ≡ common l (y ∷ r)
less k x y l r b h = rw (ne_eqb x y (λ e. omega arith), is_in-below (suc y) k x r (omega arith) b.1)

more : (k x y : ℕ) (l r : List ℕ) → Between 0 (x ∷ l) k → y < x → common (x ∷ l) (y ∷ r) ≡ common (x ∷ l) r
more k x y l r a h = common_skip x k y (x ∷ l) r h (omega arith, a.1)

same : (k x y : ℕ) (l r : List ℕ) → Between 0 (x ∷ l) k → x ≡ y → common (x ∷ l) (y ∷ r) ≡ x ∷ common l r
same k x y l r a e = rw (eq-eqb x y e) (ap (λ t. x ∷ t) (common_skip (suc x) k y l r (omega arith) a.1))

between_drop : (m k i : ℕ) (l : List ℕ) → Between m l k → Between 0 (drop i l) k
between_drop m k zero l b = between_from 0 m k l (omega arith) b
between_drop m k (suc i) [] b = omega arith
between_drop m k (suc i) (x ∷ l) b = between_drop (suc x) k i l b.1

-- the lesser is left behind, both where they are the same
heads : (p : ℕ → Bool) (k x y : ℕ) (l r : List ℕ) → Between 0 (x ∷ l) k → Between 0 (y ∷ r) k
    → length (filter p (common (x ∷ l) (y ∷ r)))
    ≡ one_if (eqb x y && p x) + length (filter p (common (drop (one_if (leb x y)) (x ∷ l)) (drop (one_if (leb y x)) (y ∷ r))))
heads p k x y l r a b =
    cases (eqb x y)
    (λ e. let q = eqb-true x y e in
    rw (same k x y l r a q, e, le-leb x y (omega arith), le-leb y x (omega arith)) (cases (p x) (λ f. rw f (omega arith)) (λ f. rw f (omega arith))))
    (λ e. cases (ltb x y)
    (λ f. let q = ltb-true x y f in rw (less k x y l r b q, e, le-leb x y (omega arith), lt-leb y x q) (omega arith))
    (λ f. let q : y < x = omega (arith, ltb-false x y f, eqb-false x y e) in
    rw (more k x y l r a q, e, le-leb y x (omega arith), lt-leb x y q) (omega arith)))

-- ## Inner ones in common are the common ones that are inner

is_in-filter : (p : ℕ → Bool) (x : ℕ) (r : List ℕ) → p x ≡ true → is_in x (filter p r) ≡ is_in x r
is_in-filter p x [] e = refl
is_in-filter p x (y ∷ r) e =
    let ih = is_in-filter p x r e in
    cases (p y) (λ t. rw (t, ih))
    (λ t. cases (eqb x y) (λ f. absurd (false≢true (sym t ∙ ap p (sym (eqb-true x y f)) ∙ e))) (λ f. rw (t, f) ih))

common-filter : (p : ℕ → Bool) (l r : List ℕ) → common (filter p l) (filter p r) ≡ filter p (common l r)
common-filter p [] r = refl
common-filter p (x ∷ l) r =
    let ih = common-filter p l r in
    cases (p x)
    (λ e. rw (e, is_in-filter p x r e, ih) (cases (is_in x r) (λ f. rw (f, e)) (λ f. rw f)))
    (λ e. rw (e, ih) (cases (is_in x r) (λ f. rw (f, e)) (λ f. rw f)))

pub shared-all : (n : ℕ) (l r : List ℕ) → 0 + shared n l r 0 0 ≡ length (common (inners n l) (inners n r))
unfolding shared
shared-all n l r = omega (arith, ap length (common-filter (inner n) l r))

shared-more : (n m k : ℕ) (l r : List ℕ) (i j : ℕ) → Between m l k → Between m r k → i < length l → j < length r
    → shared n l r i j
    ≡ one_common n (get_or l i 0) (get_or r j 0) + shared n l r (i + advance (get_or l i 0) (get_or r j 0)) (j + advance (get_or r j 0) (get_or l i 0))
unfolding shared advance one_common
shared-more n m k l r i j a b hi hj =
    let x = get_or l i 0 in
    let y = get_or r j 0 in
    let e = drop-cons l i 0 hi in
    let f = drop-cons r j 0 hj in
    rw (← (drop-drop (one_if (leb x y)) i l), ← (drop-drop (one_if (leb y x)) j r), f, e)
    (heads (inner n) k x y (drop (suc i) l) (drop (suc j) r) (rw e at (between_drop m k i l a)) (rw f at (between_drop m k j r b)))

-- one turn, what is counted and what is ahead being t
pub shared-turn : (n m k : ℕ) (l r : List ℕ) (i j c : ℕ) {t o s u : ℕ} → Between m l k → Between m r k → i < length l → j < length r
    → c + shared n l r i j ≡ t → o ≡ one_common n (get_or l i 0) (get_or r j 0) → s ≡ advance (get_or l i 0) (get_or r j 0) → u ≡ advance (get_or r j 0) (get_or l i 0)
    → c + o + shared n l r (i + s) (j + u) ≡ t
shared-turn n m k l r i j c a b hi hj e f g h = rw (f, g, h) (omega (arith, shared-more n m k l r i j a b hi hj))

-- the two ways out
pub first_ends : (n : ℕ) (l r : List ℕ) (i j : ℕ) {c t : ℕ} → length l ≤ i → c + shared n l r i j ≡ t → c ≡ t
unfolding shared
first_ends n l r i j h e = let z = rw (drop_of_length-le l {i = i} h) at e in omega arith

pub second_ends : (n : ℕ) (l r : List ℕ) (i j : ℕ) {c t : ℕ} → length r ≤ j → c + shared n l r i j ≡ t → c ≡ t
unfolding shared
second_ends n l r i j h e =
    let z = rw (drop_of_length-le r {i = j} h, filter_none (λ x. is_in x []) (drop i l) (λ x t. refl)) at e in omega arith

-- a turn counts no more than it goes in the first list
pub one_common_le : (n x y : ℕ) → one_common n x y ≤ advance x y
unfolding one_common advance
one_common_le n x y =
    cases (eqb x y) (λ e. rw (e, le-leb x y (omega (arith, eqb-true x y e))) (one_if_le (inner n x))) (λ e. rw e (omega arith))
