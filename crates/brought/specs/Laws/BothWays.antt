-- Only one row may stay both ways, that of the near images, so that the two lists have one side more than there are rows at most.
-- Assumes nothing.
use Rattle.std.specs.Prelude.{true, List, ◌⊎◌, ◌≡◌, eqb, get_or}
use Rattle.std.proofs.Common.{inl, inr, ap, sym, ◌∙◌}
use Prim.Native.Nat.{suc, zero, ℕ, ◌+◌, ◌<◌, ◌≤◌}
use native.Mathlib.Omega.{arith}
use Rattle.std.specs.Int.Bits.{bit_and}
use borrow.Author.Tests.{eqb-false, eqb-true}
use borrow.Table.Steps.{cases}
use Rattle.ground.specs.Bits.{bit}
use Rattle.ground.specs.Counts.{one_if}
use Rattle.ground.specs.Laws.Bits.{bit_and_lem}
use Rattle.ground.specs.Laws.Tests.{or_cases}
use Rattle.brought.specs.Chosen.{Rising, stored_of, is_stored}
use Rattle.brought.specs.Choosing.{in_live, in_side, out_live, out_side}
use Rattle.near_images.specs.Near.{goes_in, goes_out}
use Rattle.brought.specs.Laws.Choosing.{of_none, one-most}
use Rattle.brought.specs.Laws.Stores.{Took, left, put, took}

both_ways : (b N S : ℕ) → bit N b ≡ 1 → goes_out b N S ≡ true → goes_in N S ≡ true → S ≡ N
both_ways b N S n o i = go (or_cases (eqb (bit S b) 0) (eqb (bit_and S N) S) o)
  where
    e : bit_and S N ≡ N
    e = eqb-true (bit_and S N) N i

    go : (eqb (bit S b) 0 ≡ true) ⊎ (eqb (bit_and S N) S ≡ true) → S ≡ N
    go (inl t) = absurd (omega (arith, eqb-true (bit S b) 0 t, bit_and_lem b S N, ap (λ (v : ℕ). bit v b) e))
    go (inr t) = sym (eqb-true (bit_and S N) S t) ∙ e

module _ (k b N : ℕ) (f : List ℕ) (n : bit N b ≡ 1) where
  -- one side of a row that is not the near images
  one : (i : ℕ) → (get_or f i 0 ≡ N → ⊥) → one_if (is_stored (out_live b N f i) (out_side f i)) + one_if (is_stored (in_live N f i) (in_side k f i)) ≤ 1
  one i o =
      go (one_if (is_stored (out_live b N f i) (out_side f i))) (one_if (is_stored (in_live N f i) (in_side k f i))) (took (out_live b N f i) (out_side f i))
      (took (in_live N f i) (in_side k f i))
    where
      go : (x y : ℕ) → Took x (out_live b N f i) (out_side f i) → Took y (in_live N f i) (in_side k f i) → x + y ≤ 1
      go x y (put e l a) (put g m c) = absurd (o (both_ways b N (get_or f i 0) n l m))
      go x y (put e l a) (left g) = omega arith
      go x y (left e) (put g m c) = omega arith
      go x y (left e) (left g) = omega arith

  few_none : (i : ℕ) → ((j : ℕ) → j < i → get_or f j 0 ≡ N → ⊥) → stored_of (out_side f) (out_live b N f) i + stored_of (in_side k f) (in_live N f) i ≤ i
  unfolding stored_of
  few_none zero o = omega arith
  few_none (suc i) o = omega (arith, few_none i (λ j h. o j (omega arith)), one i (o i (omega arith)))

  few_both : (count : ℕ) → ((i j : ℕ) → i < j → j < count → get_or f i 0 < get_or f j 0)
      → stored_of (out_side f) (out_live b N f) count + stored_of (in_side k f) (in_live N f) count ≤ count + 1
  unfolding stored_of
  few_both zero up = omega arith
  few_both (suc i) up =
      cases (eqb (get_or f i 0) N)
      (λ e. omega (
        arith,
        few_none i (λ j h t. omega (arith, up j i h (omega arith), eqb-true (get_or f i 0) N e)),
        one-most (out_side f)
            (out_live b N f) i,
        one-most (in_side k f) (in_live N f) i,
      ))
      (λ e. omega (arith, few_both i (λ j l h g. up j l h (omega arith)), one i (eqb-false (get_or f i 0) N e)))

-- where there is no row, there need be no near image either
pub both_fit : (k b N : ℕ) (f : List ℕ) (count : ℕ) → (0 < count → bit N b ≡ 1) → Rising f count
    → stored_of (out_side f) (out_live b N f) count + stored_of (in_side k f) (in_live N f) count ≤ count + 1
both_fit k b N f zero n r = omega (arith, of_none (out_side f) (out_live b N f), of_none (in_side k f) (in_live N f))
both_fit k b N f (suc i) n r = few_both k b N f (n (omega arith)) (suc i) r.up
