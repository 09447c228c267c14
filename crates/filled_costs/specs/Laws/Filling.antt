-- The loops that fill the places: a row from its three parts, and one row more of the table. Assumes nothing.
use Rattle.std.specs.Prelude.{List, refl, ◌≡◌, ℕ, ◌%◌, ◌*◌, ◌+◌, ◌-◌, ◌/◌, ◌<◌, ◌≤◌, get_or, length, set}
use Rattle.std.proofs.Math.Path.{ap}
use Rattle.std.proofs.Common.{ap₂, sym, ◌∙◌, le_refl, mul-add, mul-le-mul, suc-mul, zero-mul, add-one}
use native.Mathlib.Omega.{arith}
use Rattle.std.proofs.Math.Arith.{digits_div, digits_lt, digits_mod}
use Rattle.ground.specs.Buffers.{front}
use Rattle.theory.specs.Tables.{cost}
use Rattle.bits.specs.Bits.{bits, over_at, part, value_of}
use Rattle.bits.specs.Forms.{field_value}
use Rattle.bits.specs.Laws.Places.{listed_front_add, listed_front_at, listed_over_add, listed_over_more}
use Rattle.bits.specs.Listed.{listed}
use Rattle.bits.specs.Laws.Listed.{listed_front_none, listed_same}
use Rattle.cost_forms.specs.Entries.{Above, entry_cost, row_start, table_of}
use Rattle.cost_forms.specs.Form.{row_at}
use Rattle.cost_forms.specs.Said.{entry_of}
use Rattle.cost_forms.specs.Laws.Tables.{cost_of_same, cost_of_self, cost_of_up}
use Rattle.bits.specs.declared.Form.{Form}

-- where the next row begins, and that it does so within the table
pub next_row : (n i : ℕ) → (i + 1) * n ≡ i * n + n
next_row n i = ap (λ (x : ℕ). x * n) (add-one i) ∙ omega (arith, suc-mul i n)

pub row_inside : (n i : ℕ) → i < n → i * n + n ≤ n * n
row_inside n i h = omega (arith, next_row n i, mul-le-mul {n₁ = i + 1} {m₁ = n} {n₂ = n} {m₂ = n} (omega arith) (le_refl n))

-- the entries of row i are the fields from where it begins on
pub row_field : (form : Form) (n i k : ℕ) (s : List ℕ) → field_value (bits s) (row_at form n i) form.width k ≡ entry_of form s (row_start n i + k)
unfolding entry_of field_value
row_field form n i k s = ap (λ (p : ℕ). value_of (part (bits s) p form.width)) (omega (arith, mul-add form.width (row_start n i) k))

module _ (f : ℕ → ℕ) (n : ℕ) where
  -- column i above the diagonal, 0 on it, and the entries behind it are row i
  pub row-filled : (i : ℕ) (g : ℕ → ℕ) (l a b : List ℕ) → i < n → i * n + n ≤ length l → length a ≡ length l → Above f n i l
      → a ≡ over_at l (i * n) (listed (λ j. cost l n j i) i)
      → ((k : ℕ) → g k ≡ f (row_start n i + k))
      → b ≡ over_at (set a (i * n + i) 0) (i * n + (i + 1)) (listed g (n - (i + 1)))
      → b ≡ over_at l (i * n) (listed (entry_cost f n i) n)
  row-filled i g l a b h room same above ea eg eb =
      let c = entry_cost f n i in
      let m = n - (i + 1) in
      let left : a ≡ over_at l (i * n) (listed c i) =
      ea ∙ ap (over_at l (i * n)) (listed_same (λ j. cost l n j i) c i (λ j k. above.holds j k ∙ cost_of_same f n j i)) in
      let middle : set a (i * n + i) 0 ≡ over_at l (i * n) (listed c (i + 1)) =
      listed_over_more c (i * n) i (i * n + i) 0 l a refl (omega arith) (omega arith) left (sym (cost_of_self f n i)) in
      let right : listed g m ≡ listed (λ k. c (i + 1 + k)) m =
      listed_same g (λ k. c (i + 1 + k)) m (λ k s. eg k ∙ sym (cost_of_up f n i (i + 1 + k) (omega arith) ∙ ap f (omega arith))) in
      eb
      ∙ ap₂ (λ (x y : List ℕ). over_at x (i * n + (i + 1)) y) middle right
      ∙ listed_over_add c (i * n) (i + 1) m (i * n + (i + 1)) l refl (omega arith)
      ∙ ap (λ (x : ℕ). over_at l (i * n) (listed c x)) (omega arith)

  -- ## Row after row

  -- the cost at a place of the table
  abbrev pub place_cost : ℕ → ℕ
  place_cost p = entry_cost f n (p / n) (p % n)

  pub rows_none : (d : List ℕ) → d ≡ front (listed place_cost (0 * n)) d
  rows_none d = rw (zero-mul n) (listed_front_none place_cost d)

  pub rows_above : (i : ℕ) (d e : List ℕ) → i < n → e ≡ front (listed place_cost (i * n)) d → Above f n i e
  rows_above i d e h q = record {
    holds = λ j k. ap (λ (x : List ℕ). get_or x (j * n + i) 0) q
        ∙ listed_front_at place_cost (i * n) (j * n + i) d (digits_lt k h)
        ∙ ap₂ (entry_cost f n) (digits_div j h) (digits_mod j h);
  }

  pub rows_more : (i : ℕ) (d e b : List ℕ) → i < n → n * n ≤ length d → e ≡ front (listed place_cost (i * n)) d
      → b ≡ over_at e (i * n) (listed (entry_cost f n i) n) → b ≡ front (listed place_cost ((i + 1) * n)) d
  rows_more i d e b h room q r =
      r
      ∙ ap₂ (λ (x y : List ℕ). over_at x (i * n) y) q
      (listed_same (entry_cost f n i) (λ k. place_cost (i * n + k)) n (λ k s. sym (ap₂ (entry_cost f n) (digits_div i s) (digits_mod i s))))
      ∙ listed_front_add place_cost (i * n) n d (omega (arith, row_inside n i h))
      ∙ ap (λ (x : ℕ). front (listed place_cost x) d) (sym (next_row n i))

  pub rows_end : (i : ℕ) (d e : List ℕ) → i ≤ n → n ≤ i → e ≡ front (listed place_cost (i * n)) d → e ≡ front (table_of f n) d
  unfolding table_of
  rows_end i d e l g q = let s : i ≡ n = omega arith in q ∙ ap (λ (x : ℕ). front (listed place_cost (x * n)) d) s
