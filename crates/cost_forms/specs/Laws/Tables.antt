-- The table that given entries say: it is a cost table, its entries are those, and a cost table's entries say that table. Assumes nothing.
use Rattle.std.specs.Prelude.{List, refl, ◌≡◌, eqb, ltb, length}
use Rattle.std.proofs.Math.Path.{ap, ap₂, sym}
use Rattle.std.proofs.Common.{◌∙◌, div-add-mod', div-lt_iff_lt-mul}
use Prim.Native.Nat.{max, min, ℕ, ◌%◌, ◌*◌, ◌+◌, ◌/◌, ◌<◌, ◌≤◌}
use Rattle.std.proofs.Math.Nat.{mod-lt}
use native.Mathlib.Omega.{arith}
use Rattle.std.proofs.Math.Arith.{digits_div, digits_lt, digits_mod}
use Rattle.std.proofs.Math.ListN.{get_or}
use borrow.Author.Tests.{eq-eqb, eqb-false, eqb-true, ltb-false, ltb-true, ne_eqb}
use borrow.Table.Steps.{cases}
use Rattle.theory.specs.Tables.{CostTable, cost}
use Rattle.bits.specs.Listed.{listed}
use Rattle.bits.specs.Laws.Listed.{length-listed, listed_at, listed_is}
use Rattle.cost_forms.specs.Entries.{entry_cost, entries, entry_count, entry_number, table_of}
use Rattle.cost_forms.specs.Laws.Entries.{entries-listed, entry_is, number_lt}

-- ## Its costs

module _ (f : ℕ → ℕ) (n : ℕ) where
  pub cost_of_self : (i : ℕ) → entry_cost f n i i ≡ 0
  unfolding entry_cost
  cost_of_self i = rw (eq-eqb i i refl)

  pub cost_of_up : (i j : ℕ) → i < j → entry_cost f n i j ≡ f (entry_number n i j)
  unfolding entry_cost
  cost_of_up i j h =
      let a : min i j ≡ i = omega arith in
      let b : max i j ≡ j = omega arith in
      rw (ne_eqb i j (λ e. omega arith), a, b)

  pub cost_of_down : (i j : ℕ) → j < i → entry_cost f n i j ≡ f (entry_number n j i)
  unfolding entry_cost
  cost_of_down i j h =
      let a : min i j ≡ j = omega arith in
      let b : max i j ≡ i = omega arith in
      rw (ne_eqb i j (λ e. omega arith), a, b)

  pub cost_of_same : (i j : ℕ) → entry_cost f n i j ≡ entry_cost f n j i
  unfolding entry_cost
  cost_of_same i j =
      let a : min i j ≡ min j i = omega arith in
      let b : max i j ≡ max j i = omega arith in
      cases (eqb i j)
      (λ e. rw (e, eq-eqb j i (sym (eqb-true i j e))))
      (λ e. rw (e, ne_eqb j i (λ q. eqb-false i j e (sym q)), a, b))

  -- the table has those costs
  pub length-table : length (table_of f n) ≡ n * n
  unfolding table_of
  length-table = length-listed (λ p. entry_cost f n (p / n) (p % n)) (n * n)

  pub table-cost : (i j : ℕ) → i < n → j < n → cost (table_of f n) n i j ≡ entry_cost f n i j
  unfolding table_of
  table-cost i j hi hj =
      listed_at (λ p. entry_cost f n (p / n) (p % n)) (n * n) (i * n + j) (digits_lt hi hj)
      ∙ ap₂ (entry_cost f n) (digits_div i hj) (digits_mod i hj)

  -- its entries are f 0, f 1, ..
  pub table-entries : entries (cost (table_of f n) n) n ≡ listed f (entry_count n)
  table-entries = entries-listed (cost (table_of f n) n) f n (λ i j h k. table-cost i j (omega arith) k ∙ cost_of_up i j h)

  -- it is a cost table, where no entry is above the limit and none is 0
  pub table_formed : (L : ℕ) → 3 ≤ n → n ≤ 64 → ((i j : ℕ) → i < j → j < n → f (entry_number n i j) ≤ L)
      → ((i j : ℕ) → i < j → j < n → 0 < f (entry_number n i j)) → CostTable L n (table_of f n)
  table_formed L s t h g =
      record {
        some = s;
        few = t;
        sized = length-table;
        formed = record {
          small = λ {i} {j} hi hj. rw (table-cost i j hi hj) (small i j hi hj);
          self = λ {i} hi. table-cost i i hi hi ∙ cost_of_self i;
          same = λ {i} {j} hi hj. table-cost i j hi hj ∙ cost_of_same i j ∙ sym (table-cost j i hj hi);
          nonzero = λ {i} {j} hi hj o. rw (table-cost i j hi hj) (nonzero i j hi hj o);
        };
      }
    where
      small : (i j : ℕ) → i < n → j < n → entry_cost f n i j ≤ L
      small i j hi hj =
          cases (ltb i j) (λ e. rw (cost_of_up i j (ltb-true i j e)) (h i j (ltb-true i j e) hj))
          (λ e. cases (eqb i j) (λ q. rw (eqb-true i j q, cost_of_self j) (omega arith))
          (λ q. let l : j < i = omega (arith, ltb-false i j e, eqb-false i j q) in rw (cost_of_down i j l) (h j i l hi)))

      nonzero : (i j : ℕ) → i < n → j < n → (i ≡ j → ⊥) → 0 < entry_cost f n i j
      nonzero i j hi hj o =
          cases (ltb i j) (λ e. rw (cost_of_up i j (ltb-true i j e)) (g i j (ltb-true i j e) hj))
          (λ e. let l : j < i = let u = ltb-false i j e in omega (arith, o) in rw (cost_of_down i j l) (g j i l hi))

-- ## A cost table's own entries

module _ (L n : ℕ) (t : List ℕ) (c : CostTable L n t) (f : ℕ → ℕ) (h : (k : ℕ) → k < entry_count n → f k ≡ get_or (entries (cost t n) n) k 0) where
  up : (i j : ℕ) → i < j → j < n → f (entry_number n i j) ≡ cost t n i j
  up i j l k = h (entry_number n i j) (number_lt n i j l k) ∙ entry_is (cost t n) n i j l k

  all : (i j : ℕ) → i < n → j < n → entry_cost f n i j ≡ cost t n i j
  all i j hi hj =
      cases (ltb i j) (λ e. cost_of_up f n i j (ltb-true i j e) ∙ up i j (ltb-true i j e) hj)
      (λ e. cases (eqb i j) (λ q. let s = eqb-true i j q in rw s (cost_of_self f n j ∙ sym (c.formed.self hj)))
      (λ q. let l : j < i = omega (arith, ltb-false i j e, eqb-false i j q) in cost_of_down f n i j l ∙ up j i l hi ∙ c.formed.same hj hi))

  -- the table that its entries say is the table
  pub table_is : table_of f n ≡ t
  unfolding table_of
  table_is =
      listed_is (λ p. entry_cost f n (p / n) (p % n)) (n * n) t c.sized
      (λ p l. let i : p / n < n = (div-lt_iff_lt-mul (omega (arith, c.some))).1 l in
      let j : p % n < n = mod-lt p (omega (arith, c.some)) in
      ap (λ (x : ℕ). get_or t x 0) (sym (div-add-mod' p n)) ∙ sym (all (p / n) (p % n) i j))
