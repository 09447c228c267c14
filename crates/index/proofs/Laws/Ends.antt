-- Where the index ends, by the index with two limits added. Assumes nothing.
use Rattle.std.specs.Prelude.{false, ◌⊎◌, ◌≡◌, ℕ, ◌*◌, ◌+◌, ◌<◌, ◌≤◌, leb, ltb, neg_ℤ, pos, ◌-ℤ◌, ◌<ℤ◌, ◌≤ℤ◌}
use Rattle.std.proofs.Common.{inl, inr, ap, subst, arith, leb-true, ltb-false, ltb-true}
use Rattle.std.specs.Int.Count.{ones}
use Rattle.std.proofs.Math.IntN.{+ℤ_idr}
use Rattle.std.specs.Int.Signed.{clash_ℤ}
use borrow.Table.Steps.{cases}
use Rattle.ground.specs.Bits.{bit}
use Rattle.ground.specs.Least.{On}
use Rattle.ground.specs.Laws.Ones.{ones_in_two, ones_out_two}
use Rattle.ground.proofs.Laws.Signed.{below_zero, le_signed}
use Rattle.ground.specs.Laws.Tests.{and_l, and_r}
use Rattle.theory.specs.Choices.{Choice, inside}
use Rattle.theory.specs.FarSides.{FarSide, inner}
use Rattle.theory.specs.Index.{index, shifted}
use Rattle.theory.proofs.Laws.Index.{shifted_cap}
use Rattle.theory.proofs.Laws.OwnLinks.{not_inner_ones}
use Rattle.theory.proofs.Laws.SignedIndex.{far-shifted}
use Rattle.theory.specs.Tables.{WellFormed}
use Rattle.index.specs.Ends.{Ends}
use Rattle.index.proofs.Laws.Value.{balance}
use Rattle.index.proofs.Laws.Value.{some-gain}

neither : {x y : ℕ} → (x < y → ⊥) → (y < x → ⊥) → x ≡ y
neither {x} {y} p q =
    cases (ltb x y) (λ t. absurd (p (ltb-true x y t))) (λ t. cases (ltb y x) (λ u. absurd (q (ltb-true y x u)))
    (λ u. omega (arith, ltb-false x y t, ltb-false y x u)))

-- a group of one image: two of it are the same
one-far : (n S : ℕ) → ones S ≡ 1 → {b b' : ℕ} → On n (bit S) 1 b → On n (bit S) 1 b' → b ≡ b'
one-far n S e {b} {b'} h h' =
    neither (λ l. omega (arith, ones_in_two b b' S l h.1 h'.1)) (λ l. omega (arith, ones_in_two b' b S l h'.1 h.1))

one-near : (n S : ℕ) → FarSide n S → ones S + 1 ≡ n → {a a' : ℕ} → On n (bit S) 0 a → On n (bit S) 0 a' → a ≡ a'
one-near n S f e {a} {a'} h h' =
    neither (λ l. omega (arith, ones_out_two n a a' S f.fits l h'.0 h.1 h'.1))
    (λ l. omega (arith, ones_out_two n a' a S f.fits l h.0 h'.1 h.1))

module _ (L : ℕ) (d : ℕ → ℕ → ℕ) (n : ℕ) (c : WellFormed L d n) (S : ℕ) (f : FarSide n S) where
  -- the index with two limits added
  abbrev raised : ℕ
  raised = shifted L d n (bit S)

  -- to stay inside both groups of an own link: one of them has one image, which costs nothing to itself
  pub own-inside : inner n S ≡ false → (q : Choice n (bit S)) → inside d q ≤ L
  own-inside o q = go (not_inner_ones n S f o)
    where
      go : (ones S ≡ 1) ⊎ (ones S + 1 ≡ n) → inside d q ≤ L
      go (inl e) = omega (arith, ap (d q.b) (one-far n S e q.on_b q.on_b'), c.self q.on_b.0, c.small q.on_a.0 q.on_a'.0)
      go (inr e) = omega (arith, ap (d q.a) (one-near n S f e q.on_a q.on_a'), c.self q.on_a.0, c.small q.on_b.0 q.on_b'.0)

  own_low : inner n S ≡ false → L ≤ raised
  own_low o = let s = some-gain L d n c S f in omega (arith, s.1, balance L d s.0 c, own-inside o s.0)

  own_end : inner n S ≡ false → neg_ℤ (pos L) ≤ℤ index d n (bit S)
  own_end o = rw (below_zero L, far-shifted L d n c S f) ((le_signed 0 L raised (2 * L)).1 (omega (arith, own_low o)))

  four-images : index d n (bit S) <ℤ neg_ℤ (pos L) → 4 ≤ n
  four-images h =
      cases (inner n S)
      (λ i. omega (
        arith,
        leb-true 2 (ones S) (and_l (leb 2 (ones S)) (leb (ones S + 2) n) i),
        leb-true (ones S + 2) n (and_r (leb 2 (ones S)) (leb (ones S + 2) n) i),
      ))
      (λ o. clash_ℤ h (own_end o))

  pub ends : Ends L n S (index d n (bit S))
  ends = record {
    top = rw (far-shifted L d n c S f) (subst (λ z. (pos raised -ℤ pos (2 * L)) ≤ℤ z) (+ℤ_idr (pos (2 * L)))
        ((le_signed raised (2 * L) (2 * L) 0).1 (omega (arith, shifted_cap L d n (bit S)))));
    bottom = rw (below_zero (2 * L), far-shifted L d n c S f) ((le_signed 0 (2 * L) raised (2 * L)).1 (omega arith));
    own = own_end;
    four = four-images;
  }
