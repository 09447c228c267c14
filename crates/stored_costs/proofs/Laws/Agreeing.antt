-- More images have more entries, and entries that agree say the same: the same checks and the same table. Assumes nothing.
use Rattle.std.specs.Prelude.{refl, ◌≡◌, max, min, suc, zero, ℕ, ◌%◌, ◌*◌, ◌/◌, ◌<◌, ◌≤◌, eqb}
use Rattle.std.proofs.Common.{div-lt_iff_lt-mul, mod-lt, mul-le-mul_left, arith}
use Rattle.std.proofs.lemmas.Bool.{eqb-false}
use borrow.Table.Steps.{cases}
use Rattle.ground.specs.Laws.Refusals.{then_same}
use Rattle.tables.specs.Checks.{entry_check, least_check}
use Rattle.tables.proofs.Laws.Pairs.{pairs_agree}
use Rattle.bits.specs.Laws.Listed.{listed_same}
use Rattle.bits.specs.declared.Form.{Form}
use Rattle.cost_forms.specs.Entries.{entry_cost, entry_count, entry_number, row_start, table_of}
use Rattle.cost_forms.specs.Form.{cost_end}
use Rattle.cost_forms.specs.Laws.Entries.{number_lt, row_le_lem}
use Rattle.stored_costs.specs.Reading.{stored_check, values_check}

starts_later : (n m i : ℕ) → n ≤ m → row_start n i ≤ row_start m i
unfolding row_start
starts_later n m zero h = omega arith
starts_later n m (suc i) h = omega (arith, starts_later n m i h)

pub end_grows : (form : Form) (n m : ℕ) → n ≤ m → cost_end form n ≤ cost_end form m
end_grows form n m h =
    let more : entry_count n ≤ entry_count m = omega (arith, starts_later n m n h, row_le_lem m n m h) in
    omega (arith, mul-le-mul_left form.width more)

-- ## Entries that agree say the same

agreeing_costs : (f g : ℕ → ℕ) (n : ℕ) → ((k : ℕ) → k < entry_count n → f k ≡ g k) → (i j : ℕ) → i < n → j < n → entry_cost f n i j ≡ entry_cost g n i j
unfolding entry_cost
agreeing_costs f g n h i j hi hj =
    cases (eqb i j) (λ e. rw e)
    (λ e. rw (e, h (entry_number n (min i j) (max i j)) (number_lt n (min i j) (max i j) (omega (arith, eqb-false i j e)) (omega arith))))

pub agreeing_checks : (L : ℕ) (f g : ℕ → ℕ) (n : ℕ) → ((k : ℕ) → k < entry_count n → f k ≡ g k)
    → values_check L (entry_cost f n) n ≡ values_check L (entry_cost g n) n
agreeing_checks L f g n h =
    let same : (i j : ℕ) → i < j → j < n → entry_cost f n i j ≡ entry_cost g n i j = λ i j l k. agreeing_costs f g n h i j (omega arith) k in
    then_same (stored_check L (entry_cost g n) n)
    (pairs_agree (entry_check L (entry_cost f n)) (entry_check L (entry_cost g n)) n (λ i j l k. rw (same i j l k) refl))
    (λ p. pairs_agree (least_check 1 (entry_cost f n)) (least_check 1 (entry_cost g n)) n (λ i j l k. rw (same i j l k) refl))

pub agreeing_tables : (f g : ℕ → ℕ) (n : ℕ) → ((k : ℕ) → k < entry_count n → f k ≡ g k) → table_of f n ≡ table_of g n
unfolding table_of
agreeing_tables f g zero h = listed_same (λ p. entry_cost f 0 (p / 0) (p % 0)) (λ p. entry_cost g 0 (p / 0) (p % 0)) 0 (λ p l. absurd (omega arith))
agreeing_tables f g (suc m) h =
    let n = suc m in
    listed_same (λ p. entry_cost f n (p / n) (p % n)) (λ p. entry_cost g n (p / n) (p % n)) (n * n)
    (λ p l. agreeing_costs f g n h (p / n) (p % n) ((div-lt_iff_lt-mul (omega arith)).1 l) (mod-lt p (omega arith)))
