-- The stored order: where an entry stands, and that a table and its entries say the same. Assumes nothing.
use Rattle.std.specs.Prelude.{List, ◌++◌, ◌≡◌, ◌/◌, ltb, length}
use Rattle.std.proofs.Math.Path.{ap, refl, sym}
use Rattle.std.proofs.Common.{ap₂, ◌∙◌, add-suc, add-zero, mul-add, mul-le-mul_left, suc-mul, zero-mul, add-one, arith}
use Prim.Native.Nat.{suc, zero, ℕ, ◌*◌, ◌+◌, ◌-◌, ◌<◌, ◌≤◌}
use Rattle.std.proofs.Math.ListN.{get_or-append, get_or, length-append}
use Rattle.std.proofs.Math.Seq.{get_or-append-add}
use borrow.Author.Tests.{ltb-false, ltb-true}
use borrow.Table.Steps.{cases}
use Rattle.bits.specs.Listed.{listed}
use Rattle.bits.specs.Laws.Listed.{length-listed, listed-add, listed_at, listed_same}
use Rattle.cost_forms.specs.Entries.{entries, entries_to, entry_count, entry_number, row_entries, row_start}

-- ## Where the rows begin

pub row_more : (n i : ℕ) → row_start n (i + 1) ≡ row_start n i + (n - (i + 1))
unfolding row_start
row_more n i = ap (row_start n) (add-one i)

row_mono : (n i d : ℕ) → row_start n i ≤ row_start n (i + d)
unfolding row_start
row_mono n i zero = omega (arith, ap (row_start n) (add-zero i))
row_mono n i (suc d) = omega (arith, row_mono n i d, ap (row_start n) (add-suc i d))

pub row_le_lem : (n i k : ℕ) → i ≤ k → row_start n i ≤ row_start n k
row_le_lem n i k h = let e : i + (k - i) ≡ k = omega arith in omega (arith, row_mono n i (k - i), ap (row_start n) e)

-- twice the count, by one product: how the code finds it
pub row-twice : (n i : ℕ) → i ≤ n → 2 * row_start n i + i * (i + 1) ≡ 2 * (i * n)
unfolding row_start
row-twice n zero h = omega (arith, zero-mul n)
row-twice n (suc i) h =
    let p : suc i * (suc i + 1) ≡ i * (i + 1) + 2 * (i + 1) = ap (λ (x : ℕ). suc i * x) (omega arith) ∙ mul-add (suc i) (i + 1) 1
    ∙ omega (arith, suc-mul i (i + 1)) in
    omega (arith, row-twice n i (omega arith), p, suc-mul i n)

pub counted : (n i : ℕ) → i ≤ n → i * n - i * (i + 1) / 2 ≡ row_start n i
counted n i h = omega (arith, row-twice n i h)

pub number_lt : (n i j : ℕ) → i < j → j < n → entry_number n i j < entry_count n
number_lt n i j h k = omega (arith, row_more n i, row_le_lem n (i + 1) n (omega arith))

-- in fields of w bits: where the next row begins, and that a row ends before the end
pub row_next : (n w i : ℕ) → w * row_start n (i + 1) ≡ w * row_start n i + w * (n - (i + 1))
row_next n w i = ap (λ (x : ℕ). w * x) (row_more n i) ∙ mul-add w (row_start n i) (n - (i + 1))

pub row_within : (n w i : ℕ) → i < n → w * row_start n i + w * (n - (i + 1)) ≤ w * entry_count n
row_within n w i h = omega (arith, row_next n w i, mul-le-mul_left w (row_le_lem n (i + 1) n (omega arith)))

-- ## The entries of a table

module _ (d : ℕ → ℕ → ℕ) (n : ℕ) where
  pub length-row : (i : ℕ) → length (row_entries d n i) ≡ n - (i + 1)
  unfolding row_entries
  length-row i = length-listed (λ k. d i (i + 1 + k)) (n - (i + 1))

  pub length-entries : (i : ℕ) → length (entries_to d n i) ≡ row_start n i
  unfolding entries_to row_start
  length-entries zero = refl
  length-entries (suc i) = omega (arith, length-append (entries_to d n i) (row_entries d n i), length-entries i, length-row i)

  pub entries-more : (i : ℕ) → entries_to d n (i + 1) ≡ entries_to d n i ++ row_entries d n i
  unfolding entries_to
  entries-more i = ap (entries_to d n) (add-one i)

  row_at : (i j : ℕ) → i < j → j < n → get_or (row_entries d n i) (j - (i + 1)) 0 ≡ d i j
  unfolding row_entries
  row_at i j h k = listed_at (λ k. d i (i + 1 + k)) (n - (i + 1)) (j - (i + 1)) (omega arith) ∙ ap (d i) (omega arith)

  entry_in : (i j m : ℕ) → i < j → j < n → i < m → get_or (entries_to d n m) (entry_number n i j) 0 ≡ d i j
  unfolding entries_to
  entry_in i j zero h k l = absurd (omega arith)
  entry_in i j (suc m) h k l =
      let a = entries_to d n m in
      let b = row_entries d n m in
      let la = length-entries m in
      cases (ltb i m)
      (λ e.
      let s = ltb-true i m e in
      get_or-append a b 0 (entry_number n i j) (omega (arith, la, row_more n i, row_le_lem n (i + 1) m (omega arith)))
      ∙ entry_in i j m h k s)
      (λ e.
      let q : m ≡ i = omega (arith, ltb-false i m e) in
      ap (λ (x : ℕ). get_or (a ++ b) (x + (j - (i + 1))) 0) (ap (row_start n) (sym q) ∙ sym la)
      ∙ get_or-append-add a b (j - (i + 1)) 0 ∙ rw q (row_at i j h k))

  -- entry number (i, j) is that of i and j
  pub entry_is : (i j : ℕ) → i < j → j < n → get_or (entries d n) (entry_number n i j) 0 ≡ d i j
  entry_is i j h k = entry_in i j n h k (omega arith)

-- costs that are f of the entry's number have the entries f 0, f 1, ..
pub entries-listed : (d : ℕ → ℕ → ℕ) (f : ℕ → ℕ) (n : ℕ) → ((i j : ℕ) → i < j → j < n → d i j ≡ f (entry_number n i j)) → entries d n ≡ listed f (entry_count n)
unfolding row_entries entries_to row_start listed
entries-listed d f n h = go n
  where
    row : (i : ℕ) → row_entries d n i ≡ listed (λ k. f (row_start n i + k)) (n - (i + 1))
    row i =
        listed_same (λ k. d i (i + 1 + k)) (λ k. f (row_start n i + k)) (n - (i + 1)) (λ k l. h i (i + 1 + k) (omega arith) (omega arith) ∙ ap f (omega arith))

    go : (i : ℕ) → entries_to d n i ≡ listed f (row_start n i)
    go zero = refl
    go (suc i) = ap₂ (λ (x y : List ℕ). x ++ y) (go i) (row i) ∙ sym (listed-add f (row_start n i) (n - (i + 1)))
