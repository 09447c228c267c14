-- What the tests of one row say, and rows by their numbers. Assumes nothing.
use Rattle.std.specs.Prelude.{false, not, true, ◌||◌, ◌⊎◌, refl, ◌≡◌, suc, zero, ℕ, ◌*◌, ◌<◌, ◌^◌, ◌≤◌, eqb, leb, ltb, get_or, length}
use Rattle.std.proofs.lemmas.Bool.{false≢true, eqb-false, lt-leb, not-false}
use mathlib.Core.List.Memᴰ
use mathlib.Core.List.{List, Memᴰ, [], ◌∷◌}
use Rattle.std.proofs.Common.{inl, inr, ap, sym, ◌∙◌, arith, pow_pos, eq-eqb, eqb-true, le-ltb, leb-false, ltb-false, ne_eqb}
use Rattle.std.proofs.lemmas.Nat.{and_comm, and_le_l}
use Rattle.std.specs.Int.Bits.{bit_and}
use borrow.Table.Steps.{cases}
use Rattle.ground.specs.Ascending.{Between}
use Rattle.ground.specs.Laws.Ascending.{between_mem}
use Rattle.ground.specs.Bits.{bit}
use Rattle.ground.specs.Laws.Bits.{bit_and_lem, bit_ext, bit_none}
use Rattle.ground.specs.Filters.{Each}
use Rattle.ground.specs.Laws.First.{first-all, first_none}
use Rattle.ground.specs.Laws.Tests.{and_not_both, or_cases, or_false, or_l, or_r}
use Rattle.theory.specs.FarSides.{Disjoint, Nested, holds, inner}
use Rattle.theory.specs.Laws.Contained.{and_within, within_and}
use Rattle.theory.specs.Laws.Nested.{bit_holds_not, holds_false, holds_true}
use Rattle.theory.specs.LinkTables.{rows_of}
use Rattle.bad_rows.specs.BadRows.{bad_cost, bad_row, bad_side, crosses, first_crossed, row_before}

-- ## Nested or disjoint, by what both hold

and_disjoint : (n S R : ℕ) → bit_and S R ≡ 0 → Disjoint n S R
and_disjoint n S R e i h s = bit_holds_not R i (omega (arith, bit_and_lem i S R, ap (λ (x : ℕ). bit x i) e, bit_none i, holds_true S i s))

disjoint_and : (n S R : ℕ) → S < 2 ^ n → Disjoint n S R → bit_and S R ≡ 0
disjoint_and n S R f w =
    bit_ext n (bit_and S R) 0 (omega (arith, and_le_l S R)) (pow_pos n) (λ i h.
    cases (holds S i)
    (λ s. omega (arith, bit_and_lem i S R, bit_none i, holds_false R i (w i h s)))
    (λ s. omega (arith, bit_and_lem i S R, bit_none i, holds_false S i s)))

pub clear_nested : (n S R : ℕ) → crosses S R ≡ false → Nested n S R
clear_nested n S R e = go (or_cases (eqb (bit_and S R) S) (eqb (bit_and S R) R || eqb (bit_and S R) 0) (not-false _ e))
  where
    rest : (eqb (bit_and S R) R ≡ true) ⊎ (eqb (bit_and S R) 0 ≡ true) → Nested n S R
    rest (inl t) = inr (inl (and_within n R S (and_comm R S ∙ eqb-true (bit_and S R) R t)))
    rest (inr t) = inr (inr (and_disjoint n S R (eqb-true (bit_and S R) 0 t)))

    go : (eqb (bit_and S R) S ≡ true) ⊎ ((eqb (bit_and S R) R || eqb (bit_and S R) 0) ≡ true) → Nested n S R
    go (inl t) = inl (and_within n S R (eqb-true (bit_and S R) S t))
    go (inr t) = rest (or_cases (eqb (bit_and S R) R) (eqb (bit_and S R) 0) t)

pub nested_clear : (n S R : ℕ) → S < 2 ^ n → R < 2 ^ n → Nested n S R → crosses S R ≡ false
nested_clear n S R f g t = ap not (go t)
  where
    go : Nested n S R → (eqb (bit_and S R) S || (eqb (bit_and S R) R || eqb (bit_and S R) 0)) ≡ true
    go (inl w) = or_l (eqb (bit_and S R) S) _ (eq-eqb (bit_and S R) S (within_and n S R f w))
    go (inr (inl w)) = or_r (eqb (bit_and S R) S) _ (or_l (eqb (bit_and S R) R) _ (eq-eqb (bit_and S R) R (and_comm S R ∙ within_and n R S g w)))
    go (inr (inr w)) = or_r (eqb (bit_and S R) S) _ (or_r (eqb (bit_and S R) R) _ (eq-eqb (bit_and S R) 0 (disjoint_and n S R f w)))

pub nested_sym : (n S R : ℕ) → Nested n S R → Nested n R S
nested_sym n S R (inl w) = inr (inl w)
nested_sym n S R (inr (inl w)) = inl w
nested_sym n S R (inr (inr w)) = inr (inr (λ i h e. cases (holds S i) (λ s. absurd (false≢true (sym (w i h s) ∙ e))) (λ s. s)))

-- ## Rows by their numbers

pub mem-rows : (l v : List ℕ) (k : ℕ) → length l ≡ length v → k < length l → Memᴰ (get_or l k 0, get_or v k 0) (rows_of l v)
mem-rows [] v k e h = absurd (omega arith)
mem-rows (S ∷ l) [] k e h = absurd (omega arith)
mem-rows (S ∷ l) (x ∷ v) zero e h = Memᴰ.head refl
mem-rows (S ∷ l) (x ∷ v) (suc k) e h = Memᴰ.tail (mem-rows l v k (omega arith) (omega arith))

pub rows-mem : (l v : List ℕ) → Each (rows_of l v) (λ r. (k : ℕ) × (k < length l) × (r ≡ (get_or l k 0, get_or v k 0)))
rows-mem [] v r m = absurd (Memᴰ.not-nil m)
rows-mem (S ∷ l) [] r m = absurd (Memᴰ.not-nil m)
rows-mem (S ∷ l) (x ∷ v) r (Memᴰ.head e) = (0, omega arith, e)
rows-mem (S ∷ l) (x ∷ v) r (Memᴰ.tail m) = let q = rows-mem l v r m in (suc q.0, omega arith, q.2)

-- a list that ascends strictly, step by step
pub steps_between : (b M : ℕ) (l : List ℕ) → b < M → ((k : ℕ) → k < length l → (get_or (b ∷ l) k 0 < get_or l k 0) × (get_or l k 0 < M)) → Between (suc b) l M
steps_between b M [] g h = g
steps_between b M (x ∷ l) g h = let s = h 0 (omega arith) in (s.0, steps_between x M l s.1 (λ k a. h (suc k) (omega arith)))

pub between_steps : (b M : ℕ) (l : List ℕ) → Between (suc b) l M → (k : ℕ) → k < length l → (get_or (b ∷ l) k 0 < get_or l k 0) × (get_or l k 0 < M)
between_steps b M [] g k h = absurd (omega arith)
between_steps b M (x ∷ l) g zero h = (g.0, (between_mem (suc b) M (x ∷ l) g x (Memᴰ.head refl)).1)
between_steps b M (x ∷ l) g (suc k) h = between_steps x M l g.1 k (omega arith)

-- ## A row that is not bad

pub record GoodRow (L n : ℕ) (l v : List ℕ) (k : ℕ) : Type 0 where
  pub above : row_before l k < get_or l k 0
  pub near : bit (get_or l k 0) 0 ≡ 0
  pub fits : get_or l k 0 < 2 ^ n
  pub clear : (j : ℕ) → j < k → crosses (get_or l j 0) (get_or l k 0) ≡ false
  pub small : get_or v k 0 ≤ 2 * L
  pub drawn : inner n (get_or l k 0) ≡ true → 0 < get_or v k 0

pub good_row : (L n : ℕ) (l v : List ℕ) (k : ℕ) → bad_row L n l v k ≡ false → GoodRow L n l v k
unfolding bad_row
good_row L n l v k e =
    let S = get_or l k 0 in
    let p = or_false (bad_side n (row_before l k) S) _ e in
    let q = or_false (bad_cost L n S (get_or v k 0)) _ p.1 in
    let a = or_false (leb S (row_before l k)) _ p.0 in
    let b = or_false (holds S 0) (leb (2 ^ n) S) a.1 in
    let u = or_false (ltb (2 * L) (get_or v k 0)) _ q.0 in
    record {
      above = leb-false S (row_before l k) a.0;
      near = holds_false S 0 b.0;
      fits = leb-false (2 ^ n) S b.1;
      clear = first-all (λ j. crosses (get_or l j 0) S) k q.1;
      small = ltb-false (2 * L) (get_or v k 0) u.0;
      drawn = λ t. omega (arith, eqb-false (get_or v k 0) 0 (and_not_both (inner n S) _ u.1 t));
    }

pub row_good : (L n : ℕ) (l v : List ℕ) (k : ℕ) → GoodRow L n l v k → bad_row L n l v k ≡ false
unfolding bad_row
row_good L n l v k g =
    let S = get_or l k 0 in
    rw (lt-leb S (row_before l k) g.above, bit_holds_not S 0 g.near, lt-leb (2 ^ n) S g.fits, le-ltb (2 * L) (get_or v k 0) g.small)
    (cases (inner n S)
    (λ t. rw (t, ne_eqb (get_or v k 0) 0 (λ z. omega (arith, g.drawn t))) none)
    (λ t. rw t none))
  where
    none : ltb (first_crossed l k) k ≡ false
    none = le-ltb (first_crossed l k) k (omega (arith, first_none (λ j. crosses (get_or l j 0) (get_or l k 0)) k k (omega arith) (omega arith) g.clear))
