-- Laws of rows kept in two local arrays. Assumes nothing.
use Rattle.std.specs.Prelude.{List, [], map, ◌++◌, ◌∷◌, refl, ◌≡◌, suc, zero, ℕ, ◌+◌, ◌<◌, ◌≤◌, get_or, length, set, take}
use Rattle.std.proofs.Common.{ap, ap₂, sym, ◌∙◌, add-one, arith, length-append, get_or-set_other, get_or-set_same, take-suc}
use Rattle.ground.specs.Laws.Maps.{map-append}
use Rattle.theory.specs.LinkTables.{costs, far, fars}
use Rattle.lowered_rows.specs.LocalRows.{rows_in}

pub rows_in_none : (f v : List ℕ) → rows_in f v 0 ≡ []
unfolding rows_in
rows_in_none f v = refl

pub rows_in-more : (f v : List ℕ) (n : ℕ) → rows_in f v (n + 1) ≡ rows_in f v n ++ ((get_or f n 0, get_or v n 0) ∷ [])
unfolding rows_in
rows_in-more f v n = rw add-one

pub rows_in-length : (f v : List ℕ) (n : ℕ) → length (rows_in f v n) ≡ n
unfolding rows_in
rows_in-length f v zero = refl
rows_in-length f v (suc n) = rw length-append (omega (arith, rows_in-length f v n))

-- a store at place n or later does not reach the first n
before : (f v : List ℕ) (m n S c : ℕ) → m ≤ n → rows_in (set f n S) (set v n c) m ≡ rows_in f v m
unfolding rows_in
before f v zero n S c h = refl
before f v (suc m) n S c h =
    ap₂ ◌++◌ (before f v m n S c (omega arith))
    (ap₂ (λ a b. (a, b) ∷ []) (get_or-set_other f n m S 0 (λ e. omega arith)) (get_or-set_other v n m c 0 (λ e. omega arith)))

pub stored_before : (f v : List ℕ) (n S c : ℕ) → rows_in (set f n S) (set v n c) n ≡ rows_in f v n
stored_before f v n S c = before f v n n S c (omega arith)

pub stored_more : (f v : List ℕ) (n S c : ℕ) → n < length f → n < length v → rows_in (set f n S) (set v n c) (n + 1) ≡ rows_in f v n ++ ((S, c) ∷ [])
stored_more f v n S c h l =
    rows_in-more (set f n S) (set v n c) n
    ∙ ap₂ ◌++◌ (stored_before f v n S c) (ap₂ (λ a b. (a, b) ∷ []) (get_or-set_same f n S 0 h) (get_or-set_same v n c 0 l))

-- the far sides and the costs of these rows are the fronts of the arrays
map_snoc : {A B : Type 0} (g : A → B) (l : List A) (x : A) → map g (l ++ (x ∷ [])) ≡ map g l ++ (g x ∷ [])
map_snoc g l x = map-append g l (x ∷ [])

pub rows_in-fars : (f v : List ℕ) (n : ℕ) → n ≤ length f → take n f ≡ fars (rows_in f v n)
unfolding rows_in
rows_in-fars f v zero h = refl
rows_in-fars f v (suc n) h =
    take-suc f n 0 h ∙ ap (λ l. l ++ (get_or f n 0 ∷ [])) (rows_in-fars f v n (omega arith)) ∙ sym (map_snoc far (rows_in f v n) (get_or f n 0, get_or v n 0))

pub rows_in-costs : (f v : List ℕ) (n : ℕ) → n ≤ length v → take n v ≡ costs (rows_in f v n)
unfolding rows_in
rows_in-costs f v zero h = refl
rows_in-costs f v (suc n) h =
    take-suc v n 0 h ∙ ap (λ l. l ++ (get_or v n 0 ∷ [])) (rows_in-costs f v n (omega arith)) ∙ sym (map_snoc (λ r. r.1) (rows_in f v n) (get_or f n 0, get_or v n 0))
