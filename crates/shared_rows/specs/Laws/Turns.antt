-- What one turn of the merge does to the rows kept and to those ahead. Assumes nothing.
use Rattle.std.specs.Prelude.{List, [], ◌++◌, ◌∷◌, refl, ◌≡◌, min, suc, zero, ℕ, ◌+◌, ◌-◌, ◌<◌, ◌≤◌, eqb, drop, get_or, length, set, take}
use Rattle.std.proofs.Common.{append-nil, ap, ap₂, sym, ◌∙◌, add-one, arith, length-drop, drop-cons, drop-drop, drop-set-lt, get_or-drop, length-take-le, take-suc-set, eqb-true, le-leb}
use Rattle.std.proofs.lemmas.List.{set-get_or, take-set-le}
use Rattle.std.proofs.lemmas.Bool.{eqb-false}
use borrow.Table.Steps.{cases}
use Rattle.ground.specs.Ascending.{Between}
use Rattle.ground.specs.Filters.{keep}
use Rattle.ground.specs.Laws.Merges.{advance_le}
use Rattle.ground.specs.Merges.{advance}
use Rattle.theory.specs.Laws.JoinedRows.{rows_of-fars}
use Rattle.theory.specs.LinkTables.{Row, fars, rows_of}
use Rattle.tree.specs.Writing.{rows_left}
use Rattle.shared_rows.specs.Merge.{met_cost, one_same}

-- the rows from place i on
unfoldable pub rest_rows : ℕ → List ℕ → List ℕ → List Row
rest_rows i f v = rows_of (drop i f) (drop i v)

-- ## One row

-- a turn keeps no more rows than it goes in the rows held
pub same_advance : (x y : ℕ) → one_same x y ≤ advance x y
unfolding one_same advance
same_advance x y =
    cases (eqb x y) (λ e. rw (e, le-leb x y (omega (arith, eqb-true x y e))) (omega arith)) (λ e. rw e (omega arith))

pub same_le : (x y : ℕ) → one_same x y ≤ 1
same_le x y = omega (arith, same_advance x y, advance_le x y)

-- the row read stays as it is where it is not left behind
pub met_stays : (x y c e : ℕ) → advance x y ≡ 0 → met_cost x y c e ≡ c
unfolding met_cost advance
met_stays x y c e h = cases (eqb x y) (λ q. absurd (omega (arith, rw (le-leb x y (omega (arith, eqb-true x y q))) at h))) (λ q. rw q)

-- ## Rows kept and rows ahead

rows_of_end : (l v : List ℕ) (x c : ℕ) → length l ≡ length v → rows_of (l ++ (x ∷ [])) (v ++ (c ∷ [])) ≡ rows_of l v ++ ((x, c) ∷ [])
rows_of_end [] [] x c e = refl
rows_of_end [] (b ∷ v) x c e = absurd (omega arith)
rows_of_end (a ∷ l) [] x c e = absurd (omega arith)
rows_of_end (a ∷ l) (b ∷ v) x c e = ap (λ z. (a, b) ∷ z) (rows_of_end l v x c (omega arith))

-- a row more is kept where the two are the same; what is stored behind those kept is not seen
pub kept-turn : (at : ℕ) (f v : List ℕ) (x y c e : ℕ) → at < length f → at < length v
    → rows_left (at + one_same x y) (set f at x) (set v at (met_cost x y c e)) ≡ rows_left at f v ++ keep (eqb x y) (x, min c e) []
unfolding one_same met_cost
kept-turn at f v x y c e l m =
    cases (eqb x y)
    (λ q. rw (q, add-one, take-suc-set f at x l, take-suc-set v at (min c e) m)
    (rows_of_end (take at f) (take at v) x (min c e) (length-take-le at f (omega arith) ∙ sym (length-take-le at v (omega arith)))))
    (λ q. let o : at + 0 ≡ at = omega arith in
    rw (q, o, append-nil (rows_left at f v)) (ap₂ rows_of (take-set-le at f at x (omega arith)) (take-set-le at v at c (omega arith))))

-- the row in front of those ahead
pub rest_cons : (i : ℕ) (f v : List ℕ) → i < length f → i < length v → rest_rows i f v ≡ (get_or f i 0, get_or v i 0) ∷ rest_rows (suc i) f v
unfolding rest_rows
rest_cons i f v l m = rw (drop-cons f i 0 l, drop-cons v i 0 m)

rows_of-drop : (s : ℕ) (l v : List ℕ) → length l ≡ length v → rows_of (drop s l) (drop s v) ≡ drop s (rows_of l v)
rows_of-drop zero l v e = refl
rows_of-drop (suc s) [] v e = refl
rows_of-drop (suc s) (a ∷ l) [] e = absurd (omega arith)
rows_of-drop (suc s) (a ∷ l) (b ∷ v) e = rows_of-drop s l v (omega arith)

-- those ahead of s places more
pub rest-drop : (i s : ℕ) (f v : List ℕ) → length v ≡ length f → rest_rows (i + s) f v ≡ drop s (rest_rows i f v)
unfolding rest_rows
rest-drop i s f v e = rows_of-drop (i + s) f v (sym e) ∙ sym (drop-drop s i (rows_of f v)) ∙ ap (drop s) (sym (rows_of-drop i f v (sym e)))

pub rest-fars : (i : ℕ) (f v : List ℕ) → length v ≡ length f → fars (rest_rows i f v) ≡ drop i f
unfolding rest_rows
rest-fars i f v e = rows_of-fars (drop i f) (drop i v) (length-drop i f ∙ ap (λ m. m - i) (sym e) ∙ sym (length-drop i v))

-- the far sides ahead ascend from behind the one in front
pub ascends : (m k i : ℕ) (f : List ℕ) → Between m f k → i < length f → Between (suc (get_or f i 0)) (drop (suc i) f) k
ascends m k i [] b l = absurd (omega arith)
ascends m k zero (x ∷ f) b l = b.1
ascends m k (suc i) (x ∷ f) b l = ascends (suc x) k i f b.1 (omega arith)

-- what is ahead is as it was, since a turn stores no further than it reads
pub stay : (l m : List ℕ) (at i s x : ℕ) → drop i l ≡ drop i m → at ≤ i → (s ≡ 0 → x ≡ get_or l i 0) → drop (i + s) (set l at x) ≡ drop (i + s) m
stay l m at i s x e h q =
    cases (eqb s 0)
    (λ t.
    let z = eqb-true s 0 t in
    let o : i + s ≡ i = omega arith in
    cases (eqb at i) (λ u. rw (o, eqb-true at i u, q z, set-get_or l i 0) e) (λ u. rw o (drop-set-lt i l at x (omega (arith, eqb-false at i u)) ∙ e)))
    (λ t. drop-set-lt (i + s) l at x (omega (arith, eqb-false s 0 t)) ∙ sym (drop-drop s i l) ∙ ap (drop s) e ∙ drop-drop s i m)

pub same_at : (i : ℕ) (l m : List ℕ) → drop i l ≡ drop i m → get_or l i 0 ≡ get_or m i 0
same_at i l m e =
    let o : i + 0 ≡ i = omega arith in
    let a = get_or-drop i l 0 0 in
    let b = get_or-drop i m 0 0 in
    sym (rw o at a) ∙ ap (λ z. get_or z 0 0) e ∙ rw o at b
