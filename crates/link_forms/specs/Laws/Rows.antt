-- The bits of the rows: how many, one row more, and one row found again. Assumes nothing.
use Rattle.std.specs.Prelude.{List, ◌++◌, refl, ◌≡◌, ltb}
use Rattle.std.proofs.Common.{append_assoc, append-nil, ◌∙◌, mul-zero, add-one, ltb-false, ltb-true}
use Rattle.std.proofs.Math.Path.{ap, sym}
use Prim.Native.Nat.{suc, zero, ℕ, ◌*◌, ◌+◌, ◌-◌, ◌/◌, ◌<◌}
use Rattle.std.proofs.Math.Nat.{mul-suc}
use native.Mathlib.Omega.{arith}
use Rattle.std.proofs.Math.ListN.{length, length-append}
use borrow.Table.Steps.{cases}
use Rattle.bits.specs.Bits.{bits_of, part}
use Rattle.bits.specs.Forms.{field_bits}
use Rattle.bits.specs.Laws.Forms.{form_append}
use Rattle.bits.specs.Laws.Numbers.{length-bits_of}
use Rattle.bits.specs.Laws.Parts.{part_cut}
use Rattle.link_forms.specs.Form.{row_fields, row_width, rows_to}

pub row-bits : (w n S c : ℕ) → field_bits (row_fields w n S c) ≡ bits_of (n - 1) (S / 2) ++ bits_of w c
unfolding field_bits
row-bits w n S c = ap (λ (x : List ℕ). bits_of (n - 1) (S / 2) ++ x) (append-nil (bits_of w c))

pub length-row : (w n S c : ℕ) → length (field_bits (row_fields w n S c)) ≡ row_width w n
length-row w n S c =
    ap length (row-bits w n S c) ∙ omega (arith, length-append (bits_of (n - 1) (S / 2)) (bits_of w c), length-bits_of (n - 1) (S / 2), length-bits_of w c)

module _ (w n : ℕ) (f g : ℕ → ℕ) where
  pub rows-suc : (k : ℕ) → field_bits (rows_to w n f g (suc k)) ≡ field_bits (rows_to w n f g k) ++ field_bits (row_fields w n (f k) (g k))
  unfolding rows_to
  rows-suc k = form_append (rows_to w n f g k) (row_fields w n (f k) (g k))

  pub rows_more : (k : ℕ) → field_bits (rows_to w n f g (k + 1)) ≡ field_bits (rows_to w n f g k) ++ field_bits (row_fields w n (f k) (g k))
  rows_more k = ap (λ (j : ℕ). field_bits (rows_to w n f g j)) (add-one k) ∙ rows-suc k

  pub length-rows : (k : ℕ) → length (field_bits (rows_to w n f g k)) ≡ row_width w n * k
  unfolding rows_to field_bits
  length-rows zero = sym (mul-zero (row_width w n))
  length-rows (suc k) =
      ap length (rows-suc k)
      ∙ omega (
        arith,
        length-append (field_bits (rows_to w n f g k)) (field_bits (row_fields w n (f k) (g k))),
        length-rows k,
        length-row w n (f k)
            (g k),
        mul-suc (row_width w n) k,
      )

  -- ## Row k of m, found again

  row-found : (k m : ℕ) → k < m → (r : List ℕ) → (t : List ℕ)
      × (field_bits (rows_to w n f g m) ++ r ≡ field_bits (rows_to w n f g k) ++ (field_bits (row_fields w n (f k) (g k)) ++ t))
  row-found k zero h r = absurd (omega arith)
  row-found k (suc m) h r =
      let x = field_bits (row_fields w n (f m) (g m)) in
      let e : field_bits (rows_to w n f g (suc m)) ++ r ≡ field_bits (rows_to w n f g m) ++ (x ++ r) =
      ap (λ (y : List ℕ). y ++ r) (rows-suc m) ∙ append_assoc (field_bits (rows_to w n f g m)) x r in
      cases (ltb k m)
      (λ l. let i = row-found k m (ltb-true k m l) (x ++ r) in (i.0, e ∙ i.1))
      (λ l. let q : k ≡ m = omega (arith, ltb-false k m l) in (r, rw q e))

  module _ (a r : List ℕ) (position k m : ℕ) (e : length a ≡ position) (h : k < m) where
    around : (t : List ℕ)
        × (a ++ (field_bits (rows_to w n f g m) ++ r) ≡ (a ++ field_bits (rows_to w n f g k)) ++ (bits_of (n - 1) (f k / 2) ++ (bits_of w (g k) ++ t)))
    around =
        let i = row-found k m h r in
        let x = field_bits (rows_to w n f g k) in (
          i.0,
          ap (λ (y : List ℕ). a ++ y) (i.1 ∙ ap (λ (y : List ℕ). x ++ (y ++ i.0)) (row-bits w n (f k) (g k))
              ∙ ap (λ (y : List ℕ). x ++ y) (append_assoc (bits_of (n - 1) (f k / 2)) (bits_of w (g k)) i.0))
              ∙ sym (append_assoc a x (bits_of (n - 1) (f k / 2) ++ (bits_of w (g k) ++ i.0))),
        )

    length_before : length (a ++ field_bits (rows_to w n f g k)) ≡ position + row_width w n * k
    length_before = omega (arith, length-append a (field_bits (rows_to w n f g k)), length-rows k)

    pub far-found : part (a ++ (field_bits (rows_to w n f g m) ++ r)) (position + row_width w n * k) (n - 1) ≡ bits_of (n - 1) (f k / 2)
    far-found =
        ap (λ (l : List ℕ). part l (position + row_width w n * k) (n - 1)) around.1
        ∙ part_cut (a ++ field_bits (rows_to w n f g k)) (bits_of (n - 1) (f k / 2)) (bits_of w (g k) ++ around.0) (position + row_width w n * k)
        (n - 1) length_before (length-bits_of (n - 1) (f k / 2))

    pub cost-found : part (a ++ (field_bits (rows_to w n f g m) ++ r)) (position + row_width w n * k + (n - 1)) w ≡ bits_of w (g k)
    cost-found =
        let b = a ++ field_bits (rows_to w n f g k) in
        let x = bits_of (n - 1) (f k / 2) in
        ap (λ (l : List ℕ). part l (position + row_width w n * k + (n - 1)) w) (around.1 ∙ sym (append_assoc b x (bits_of w (g k) ++ around.0)))
        ∙ part_cut (b ++ x) (bits_of w (g k)) around.0 (position + row_width w n * k + (n - 1)) w
        (omega (arith, length-append b x, length_before, length-bits_of (n - 1) (f k / 2))) (length-bits_of w (g k))

-- rows with the same far sides and costs
pub rows_same : (w n : ℕ) (f g d e : ℕ → ℕ) (m : ℕ) → ((k : ℕ) → k < m → (f k ≡ d k) × (g k ≡ e k)) → rows_to w n f g m ≡ rows_to w n d e m
unfolding rows_to
rows_same w n f g d e zero h = refl
rows_same w n f g d e (suc m) h =
    let ih = rows_same w n f g d e m (λ k l. h k (omega arith)) in
    let q = h m (omega arith) in
    rw (ih, q.0, q.1)
