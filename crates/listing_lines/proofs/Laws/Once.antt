-- The numbers of an order line can be read off it, so no two lists of numbers have the same line. Assumes nothing.
use Rattle.std.specs.Prelude.{cond, List, [], ◌++◌, ◌∷◌, refl, ◌≡◌, suc, zero, ℕ, ◌%◌, ◌/◌, ◌<◌, ◌^◌, ltb}
use mathlib.Core.List.Memᴰ
use Rattle.std.proofs.Common.{append_assoc, append-nil, ap, ap₂, sym, ◌∙◌, arith, le-ltb}
use borrow.Table.Steps.{cases}
use Rattle.ground.specs.Filters.{Each}
use Rattle.text.specs.Decimal.{decimal, digit, digits, number}
use Rattle.text.specs.Fields.{field, fields}
use Rattle.text.proofs.Laws.Numbers.{decimal-number}
use Rattle.text.specs.Words.{bytes_of}
use Rattle.listing_lines.specs.Lines.{order_line}

-- the digits in front of a text, and what stands behind them; blank and newline are below every digit
front_digits : List ℕ → List ℕ
front_digits [] = []
front_digits (c ∷ l) = cond (ltb c 48) [] (c ∷ front_digits l)

behind_digits : List ℕ → List ℕ
behind_digits [] = []
behind_digits (c ∷ l) = cond (ltb c 48) (c ∷ l) (behind_digits l)

front-one : (d : ℕ) (r : List ℕ) → front_digits (digit d ∷ r) ≡ digit d ∷ front_digits r
unfolding front_digits
front-one d r = rw (le-ltb (digit d) 48 (omega arith)) refl

behind-one : (d : ℕ) (r : List ℕ) → behind_digits (digit d ∷ r) ≡ behind_digits r
unfolding behind_digits
behind-one d r = rw (le-ltb (digit d) 48 (omega arith)) refl

-- those of a number are all in front
front-digits : (k x : ℕ) (r : List ℕ) → front_digits (digits k x ++ r) ≡ digits k x ++ front_digits r
unfolding digits
front-digits zero x r = refl
front-digits (suc k) x r =
    let d = digit (x % 10) in
    let ih = front-digits k (x / 10) (d ∷ r) in
    cases (ltb x 10) (λ e. rw e (front-one x r))
    (λ e. rw (e, append_assoc (digits k (x / 10)) (d ∷ []) r, append_assoc (digits k (x / 10)) (d ∷ []) (front_digits r))
    (ih ∙ ap (λ (z : List ℕ). digits k (x / 10) ++ z) (front-one (x % 10) r)))

behind-digits : (k x : ℕ) (r : List ℕ) → behind_digits (digits k x ++ r) ≡ behind_digits r
unfolding digits
behind-digits zero x r = refl
behind-digits (suc k) x r =
    let d = digit (x % 10) in
    let ih = behind-digits k (x / 10) (d ∷ r) in
    cases (ltb x 10) (λ e. rw e (behind-one x r)) (λ e. rw (e, append_assoc (digits k (x / 10)) (d ∷ []) r) (ih ∙ behind-one (x % 10) r))

-- the rest of an order line
abbrev rest : List ℕ → List ℕ
rest o = fields o ++ (10 ∷ [])

front_rest : (o : List ℕ) → front_digits (rest o) ≡ []
unfolding front_digits fields field
front_rest [] = refl
front_rest (x ∷ o) = refl

behind-rest : (o : List ℕ) → behind_digits (rest o) ≡ rest o
unfolding behind_digits fields field
behind-rest [] = refl
behind-rest (x ∷ o) = refl

-- a number and the rest behind it are read off
number_once : (x y : ℕ) (o p : List ℕ) → x < 2 ^ 64 → y < 2 ^ 64 → decimal x ++ rest o ≡ decimal y ++ rest p → (x ≡ y) × (rest o ≡ rest p)
unfolding decimal
number_once x y o p h g e =
    let front : (z : ℕ) (q : List ℕ) → front_digits (digits 20 z ++ rest q) ≡ digits 20 z =
    λ z q. front-digits 20 z (rest q) ∙ ap (λ (m : List ℕ). digits 20 z ++ m) (front_rest q) ∙ append-nil (digits 20 z) in
    let behind : (z : ℕ) (q : List ℕ) → behind_digits (digits 20 z ++ rest q) ≡ rest q = λ z q. behind-digits 20 z (rest q) ∙ behind-rest q in
    let same : decimal x ≡ decimal y = sym (front x o) ∙ ap front_digits e ∙ front y p in
    (sym (decimal-number x h) ∙ ap number same ∙ decimal-number y g, sym (behind x o) ∙ ap behind_digits e ∙ behind y p)

rest_once : (o p : List ℕ) → Each o (λ i. i < 2 ^ 64) → Each p (λ i. i < 2 ^ 64) → rest o ≡ rest p → o ≡ p
unfolding fields field
rest_once [] [] a b e = refl
rest_once [] (y ∷ p) a b e = absurd (let z : ◌≡◌ {A = ℕ} 10 32 = cc in omega arith)
rest_once (x ∷ o) [] a b e = absurd (let z : ◌≡◌ {A = ℕ} 32 10 = cc in omega arith)
rest_once (x ∷ o) (y ∷ p) a b e =
    let t : (decimal x ++ fields o) ++ (10 ∷ []) ≡ (decimal y ++ fields p) ++ (10 ∷ []) = cc in
    let q = number_once x y o p (a x (Memᴰ.head refl)) (b y (Memᴰ.head refl))
    (sym (append_assoc (decimal x) (fields o) (10 ∷ [])) ∙ t ∙ append_assoc (decimal y) (fields p) (10 ∷ [])) in
    ap₂ ◌∷◌ q.0 (rest_once o p (λ i m. a i (Memᴰ.tail m)) (λ i m. b i (Memᴰ.tail m)) q.1)

-- no two orders have the same line
pub order_line_once : (o p : List ℕ) → Each o (λ i. i < 2 ^ 64) → Each p (λ i. i < 2 ^ 64) → order_line o ≡ order_line p → o ≡ p
unfolding order_line bytes_of
order_line_once o p a b e = let t : rest o ≡ rest p = cc in rest_once o p a b t
