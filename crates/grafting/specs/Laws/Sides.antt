-- Which images the far side of some neighbouring places holds. Assumes nothing.
use Rattle.std.specs.Prelude.{◌&&◌, ◌⊎◌, refl, ◌≡◌, eqb, leb}
use Rattle.std.proofs.Common.{inl, inr, ap, sym, ◌∙◌}
use Prim.Native.Nat.{suc, zero, ℕ, ◌+◌, ◌<◌, ◌^◌, ◌≤◌}
use native.Mathlib.Omega.{arith}
use Rattle.std.proofs.Math.Pow.{pow_pos}
use borrow.Author.Tests.{eqb-false, eqb-true, le-leb, leb-false, leb-true, lt-leb}
use borrow.Table.Steps.{cases}
use Rattle.ground.specs.Bits.{bit}
use Rattle.ground.specs.Laws.Bits.{bit-add, bit_add_fits, bit_add_other, bit_none}
use Rattle.theory.specs.FarSides.{FarSide, holds}
use Rattle.theory.specs.Laws.Nested.{bit-holds, bit_holds_not}
use Rattle.grafting.specs.Sides.{side}
use Rattle.recognition.specs.Recognition.{Places}

pub side_none : (o : ℕ → ℕ) (q m : ℕ) → m < q → side o q m ≡ 0
unfolding side
side_none o q zero h = refl
side_none o q (suc m) h = rw (lt-leb q (suc m) h)

pub side-more : (o : ℕ → ℕ) (q m : ℕ) → q ≤ suc m → side o q (suc m) ≡ 2 ^ o (suc m) + side o q m
unfolding side
side-more o q m h = rw (le-leb q (suc m) h)

pub side-own : (o : ℕ → ℕ) (m : ℕ) → side o (suc m) (suc m) ≡ 2 ^ o (suc m)
side-own o m = side-more o (suc m) m (omega arith) ∙ (let s = side_none o (suc m) m (omega arith) in omega arith)

module _ (o : ℕ → ℕ) (n : ℕ) (w : Places o n) (q : ℕ) (h : 0 < q) where
  pub side_out : (m i : ℕ) → m < n → i < n → (i < q) ⊎ (m < i) → bit (side o q m) (o i) ≡ 0
  unfolding side
  side_out zero i hm hi out = bit_none (o i)
  side_out (suc m) i hm hi out =
      cases (leb q (suc m))
      (λ s.
      let z = side_out m (suc m) (omega arith) hm (inr (omega arith)) in
      let ne : o i ≡ o (suc m) → ⊥ = λ t. other (leb-true q (suc m) s) out (w.once hi hm t) in
      rw s (bit_add_other (o (suc m)) (side o q m) (o i) z ne ∙ side_out m i (omega arith) hi (less out)))
      (λ s. rw s (bit_none (o i)))
    where
      other : q ≤ suc m → (i < q) ⊎ (suc m < i) → i ≡ suc m → ⊥
      other s (inl l) t = omega arith
      other s (inr l) t = omega arith

      less : (i < q) ⊎ (suc m < i) → (i < q) ⊎ (m < i)
      less (inl l) = inl l
      less (inr l) = inr (omega arith)

  pub side_in : (m i : ℕ) → m < n → i ≤ m → q ≤ i → bit (side o q m) (o i) ≡ 1
  unfolding side
  side_in zero i hm hi l = absurd (omega arith)
  side_in (suc m) i hm hi l =
      let z = side_out m (suc m) (omega arith) hm (inr (omega arith)) in
      cases (eqb i (suc m))
      (λ s. rw (eqb-true i (suc m) s, le-leb q (suc m) (omega arith)) (bit-add (o (suc m)) (side o q m) z))
      (λ s.
      let u = eqb-false i (suc m) s in
      rw (le-leb q (suc m) (omega arith))
      (bit_add_other (o (suc m)) (side o q m) (o i) z (λ t. omega (arith, u, w.once {i = i} {j = suc m} (omega arith) hm t))
      ∙ side_in m i (omega arith) (omega (arith, u)) l))

  pub side-holds : (m i : ℕ) → m < n → i < n → holds (side o q m) (o i) ≡ (leb q i && leb i m)
  side-holds m i hm hi =
      cases (leb q i)
      (λ s. cases (leb i m)
      (λ t. rw (s, t) (bit-holds (side o q m) (o i) (side_in m i hm (leb-true i m t) (leb-true q i s))))
      (λ t. rw (s, t) (bit_holds_not (side o q m) (o i) (side_out m i hm hi (inr (leb-false i m t))))))
      (λ s. rw s (bit_holds_not (side o q m) (o i) (side_out m i hm hi (inl (leb-false q i s)))))

  pub side_fits : (m : ℕ) → m < n → side o q m < 2 ^ n
  unfolding side
  side_fits zero hm = pow_pos n
  side_fits (suc m) hm =
      cases (leb q (suc m))
      (λ s. rw s (bit_add_fits n (o (suc m)) (side o q m) (w.range hm) (side_fits m (omega arith)) (side_out m (suc m) (omega arith) hm (inr (omega arith)))))
      (λ s. rw s (pow_pos n))

  pub side-far : (m : ℕ) → m < n → q ≤ m → FarSide n (side o q m)
  side-far zero hm l = absurd (omega arith)
  side-far (suc m) hm l = record {
    some = omega (arith, side-more o q m l, pow_pos (o (suc m)));
    fits = side_fits (suc m) hm;
    near = ap (bit (side o q (suc m))) (sym w.first) ∙ side_out (suc m) 0 hm (omega arith) (inl h);
  }
