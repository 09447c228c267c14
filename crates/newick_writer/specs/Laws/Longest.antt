-- No text of a link table over at most 64 images has more than 1,432 bytes. Assumes nothing.
use mathlib.Core.List.Memᴰ
use Rattle.std.specs.Prelude.{List, [], ◌∷◌, ◌⊎◌, refl, ◌≡◌, suc, zero, ℕ, ◌*◌, ◌+◌, ◌/◌, ◌<◌, ◌^◌, ◌≤◌, eqb, leb, ltb, length}
use Rattle.std.proofs.Common.{inl, inr, ap, ◌∙◌, arith, pow_mono, eqb-true, leb-false, leb-true, ltb-false, ltb-true}
use Rattle.std.specs.Int.Count.{ones}
use Rattle.std.proofs.lemmas.Bool.{eqb-false}
use borrow.Table.Steps.{cases}
use Rattle.ground.specs.Ascending.{Between}
use Rattle.ground.specs.Filters.{Each}
use Rattle.ground.specs.Laws.Ascending.{between_le}
use Rattle.ground.specs.Laws.Ones.{ones_one}
use Rattle.ground.specs.Sums.{sum}
use Rattle.theory.proofs.Laws.RowCount.{row_count}
use Rattle.theory.specs.LinkTables.{LinkTable, Row, fars}
use Rattle.theory.specs.Tables.{limit}
use Rattle.text.specs.Decimal.{decimal}
use Rattle.newick_text.specs.LinkTrees.{newick}
use Rattle.newick_writer.specs.Bytes.{head_bytes, longest_text, row_bytes}
use Rattle.newick_writer.specs.Laws.Bytes.{text-bytes}
use Rattle.newick_writer.specs.Laws.Summing.{more-digits, one-digit, one_image_lem, other_bytes}

-- a number below a power of ten has no more digits than this says
digits-below : (k x : ℕ) → x < 2 ^ 64 → x < 10 ^ suc k → length (decimal x) ≤ suc k
digits-below zero x f h = omega (arith, one-digit x (omega arith))
digits-below (suc k) x f h =
    let ih = digits-below k (x / 10) (omega arith) (omega arith) in
    cases (ltb x 10) (λ e. omega (arith, one-digit x (ltb-true x 10 e)))
    (λ e. omega (arith, ih, more-digits x (ltb-false x 10 e) f))

-- two digits stand before a colon where the far side is image 10 alone or a later one, and one byte everywhere else
record Late (S : ℕ) : Type 0 where
  place : ℕ
  late : 9 ≤ place
  few : place < 64
  alone : S ≡ 2 ^ place
  two : head_bytes S ≤ 2

heads : (n S : ℕ) → n ≤ 64 → S < 2 ^ n → (head_bytes S ≤ 1) ⊎ Late S
heads n S f h = cases (eqb (ones S) 1) (λ e. one (ones_one n S h (eqb-true (ones S) 1 e))) (λ e. inl (omega (arith, other_bytes S (eqb-false (ones S) 1 e))))
  where
    one : (i : ℕ) × (i < n) × (S ≡ 2 ^ i) → (head_bytes S ≤ 1) ⊎ Late S
    one (i, l, e) =
        let b : head_bytes S ≡ length (decimal (suc i)) = ap head_bytes e ∙ one_image_lem i (omega arith) in
        cases (ltb i 9) (λ t. inl (omega (arith, b, one-digit (suc i) (omega (arith, ltb-true i 9 t)))))
        (λ t. inr (record {
          place = i;
          late = ltb-false i 9 t;
          few = omega arith;
          alone = e;
          two = omega (arith, b, digits-below 1 (suc i) (omega arith) (omega arith));
        }))

-- rows from the far side a on, where the images from 10 on that may still come alone are those above j
rows-most : (n : ℕ) → n ≤ 64 → (T : List Row) (a j : ℕ) → Between a (fars T) (2 ^ n) → Each T (λ r. r.1 ≤ 2 * limit)
    → ((i : ℕ) → 9 ≤ i → a ≤ 2 ^ i → j ≤ i) → j ≤ 64 → sum T row_bytes + j ≤ 11 * length T + 64
unfolding row_bytes
rows-most n f [] a j b c h k = omega arith
rows-most n f (r ∷ T) a j b c h k =
    let ih = rows-most n f T (suc r.0) in
    let d : length (decimal r.1) ≤ 8 = digits-below 7 r.1 (omega (arith, c r (Memᴰ.head refl))) (omega (arith, c r (Memᴰ.head refl))) in
    go (heads n r.0 f (omega (arith, between_le (suc r.0) (2 ^ n) (fars T) b.1))) d (λ i. ih i b.1 (λ x m. c x (Memᴰ.tail m)))
  where
    go : (head_bytes r.0 ≤ 1) ⊎ Late r.0 → length (decimal r.1) ≤ 8
        → ((m : ℕ) → ((i : ℕ) → 9 ≤ i → suc r.0 ≤ 2 ^ i → m ≤ i) → m ≤ 64 → sum T row_bytes + m ≤ 11 * length T + 64)
        → head_bytes r.0 + (length (decimal r.1) + 2) + sum T row_bytes + j ≤ 11 * suc (length T) + 64
    go (inl e) d ih = omega (arith, e, d, ih j (λ i l p. h i l (omega (arith, b.0))) k)
    go (inr q) d ih =
        let m = q.place in
        let after : (i : ℕ) → 9 ≤ i → suc r.0 ≤ 2 ^ i → suc m ≤ i = λ i l p.
        cases (leb (suc m) i) (λ t. leb-true (suc m) i t)
        (λ t. absurd (omega (arith, q.alone, pow_mono {i = i} {j = m} (omega (arith, leb-false (suc m) i t))))) in
        omega (arith, q.two, d, h m q.late (omega (arith, b.0, q.alone)), ih (suc m) after (omega (arith, q.few)))

pub text_longest : (n : ℕ) (T : List Row) → 3 ≤ n → n ≤ 64 → LinkTable limit n T → length (newick T) ≤ longest_text
text_longest n T some few t =
    let m = rows-most n few T 1 9 t.ascending t.small (λ i l p. l) (omega arith) in
    omega (arith, text-bytes limit n few T t some, m, row_count limit n T some t)
