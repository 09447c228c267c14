-- How near to its ends the index comes where two different images cost something: by the index with two limits added. Assumes nothing.
use Rattle.std.specs.Prelude.{false, true, ◌≡◌, ℕ, ◌*◌, ◌+◌, ◌-◌, ◌<◌, ◌≤◌, eqb, leb, neg_ℤ, pos, ◌-ℤ◌, ◌≤ℤ◌}
use Rattle.std.proofs.Common.{ap, subst, sym, ◌∙◌, arith, eqb-true, leb-true}
use Rattle.std.specs.Int.Count.{ones}
use Rattle.std.proofs.Math.IntN.{+ℤ_idr}
use Rattle.std.proofs.lemmas.Bool.{eqb-false}
use borrow.Table.Steps.{cases}
use Rattle.ground.specs.Bits.{bit}
use Rattle.ground.specs.Least.{On}
use Rattle.ground.specs.Laws.Bits.{bit_lt}
use Rattle.ground.specs.Laws.Ones.{two_in, two_out}
use Rattle.ground.proofs.Laws.Signed.{below_zero, le_signed, same_signed}
use Rattle.ground.specs.Laws.Tests.{and_l, and_r}
use Rattle.theory.specs.Choices.{Choice, across, inside}
use Rattle.theory.specs.FarSides.{FarSide, inner}
use Rattle.theory.specs.Index.{index, shifted}
use Rattle.theory.specs.Laws.FarSides.{far_image}
use Rattle.theory.proofs.Laws.SignedIndex.{far-shifted}
use Rattle.theory.specs.Tables.{WellFormed}
use Rattle.index.specs.Ends.{Nearest}
use Rattle.index.proofs.Laws.Ends.{own-inside}
use Rattle.index.proofs.Laws.Value.{balance, least_gain}
use Rattle.index.proofs.Laws.Value.{some-gain}

module _ (L : ℕ) (d : ℕ → ℕ → ℕ) (n : ℕ) (three : 3 ≤ n) (c : WellFormed L d n) (S : ℕ) (f : FarSide n S) where
  -- the index with two limits added
  abbrev raised : ℕ
  raised = shifted L d n (bit S)

  signed : index d n (bit S) ≡ pos raised -ℤ pos (2 * L)
  signed = far-shifted L d n c S f

  -- ## Below: to go across costs something, twice

  across_two : (q : Choice n (bit S)) → 2 ≤ across d q
  across_two q = omega (arith, way q.on_a q.on_b, way q.on_a' q.on_b', way q.on_a q.on_b', way q.on_a' q.on_b)
    where
      way : {x y : ℕ} → On n (bit S) 0 x → On n (bit S) 1 y → 0 < d x y
      way {x} {y} h k = c.nonzero h.0 k.0 (λ e. omega (arith, ap (bit S) e, h.1, k.1))

  low : 2 ≤ raised
  low =
      let s = some-gain L d n c S f in
      let q = s.0 in
      omega (arith, s.1, balance L d q c, across_two q, c.small q.on_a.0 q.on_a'.0, c.small q.on_b.0 q.on_b'.0)

  own_low : inner n S ≡ false → L + 2 ≤ raised
  own_low o = let s = some-gain L d n c S f in omega (arith, s.1, balance L d s.0 c, across_two s.0, own-inside L d n c S f o s.0)

  -- ## Above: of three images two are in one group, and to stay inside it costs something

  high_by : (m : ℕ) (q : Choice n (bit S)) → m ≤ inside d q → raised + m ≤ 4 * L
  high_by m q h = omega (arith, least_gain L d q, balance L d q c, c.small q.on_a.0 q.on_b.0, c.small q.on_a'.0 q.on_b'.0)

  -- b and image 0 are in the two groups, and a third image is in one of them
  third : {b : ℕ} → On n (bit S) 1 b → (x : ℕ) → x < n → (0 ≡ x → ⊥) → (b ≡ x → ⊥) → raised + 1 ≤ 4 * L
  third {b} k x h near far =
      cases (eqb (bit S x) 0)
      (λ e. high_by 1 (choice 0 x b b (omega arith, f.near) (h, eqb-true (bit S x) 0 e) k k)
      (omega (arith, c.nonzero {i = 0} {j = x} (omega arith) h near)))
      (λ e. high_by 1 (choice 0 0 b x (omega arith, f.near) (omega arith, f.near) k (h, omega (arith, bit_lt S x, eqb-false (bit S x) 0 e)))
      (omega (arith, c.nonzero {i = b} {j = x} k.0 h far)))
    where
      choice : (a a' b b' : ℕ) → On n (bit S) 0 a → On n (bit S) 0 a' → On n (bit S) 1 b → On n (bit S) 1 b' → Choice n (bit S)
      choice a a' b b' p q r s = record { a = a; a' = a'; b = b; b' = b'; on_a = p; on_a' = q; on_b = r; on_b' = s }

  high : raised + 1 ≤ 4 * L
  high =
      let b = far_image n S f in
      cases (eqb b.0 1)
      (λ e. third (b.1, b.2) 2 (omega arith) (λ z. omega arith) (λ z. omega (arith, eqb-true b.0 1 e)))
      (λ e. third (b.1, b.2) 1 (omega arith) (λ z. omega arith) (eqb-false b.0 1 e))

  inner_high : inner n S ≡ true → raised + 2 ≤ 4 * L
  inner_high i =
      let b = two_in n S f.fits (leb-true 2 (ones S) (and_l (leb 2 (ones S)) (leb (ones S + 2) n) i)) in
      let a = two_out n S f.fits (leb-true (ones S + 2) n (and_r (leb 2 (ones S)) (leb (ones S + 2) n) i)) in
      let a_in : a.first < n = omega (arith, a.apart, a.within) in
      let b-in : b.first < n = omega (arith, b.apart, b.within) in
      high_by 2 (record {
        a = a.first;
        a' = a.second;
        b = b.first;
        b' = b.second;
        on_a = (a_in, a.at_first);
        on_a' = (a.within, a.at_second);
        on_b = (b-in, b.at_first);
        on_b' = (b.within, b.at_second);
      }) (omega (
        arith,
        c.nonzero {i = a.first} {j = a.second} a_in a.within (λ e. omega (arith, a.apart)),
        c.nonzero {i = b.first} {j = b.second} b-in b.within (λ e. omega (arith, b.apart)),
      ))

  -- ## Both, without the two limits

  under : (m : ℕ) → raised + m ≤ 4 * L → m ≤ 2 * L → index d n (bit S) ≤ℤ pos (2 * L - m)
  under m h k =
      rw signed (subst (λ z. (pos raised -ℤ pos (2 * L)) ≤ℤ z) (+ℤ_idr (pos (2 * L - m))) ((le_signed raised (2 * L) (2 * L - m) 0).1 (omega arith)))

  over : (m : ℕ) → 2 * L ≤ raised + m → neg_ℤ (pos m) ≤ℤ index d n (bit S)
  over m h = rw (below_zero m, signed) ((le_signed 0 m raised (2 * L)).1 (omega arith))

  minus : (m : ℕ) → index d n (bit S) ≡ neg_ℤ (pos m) → raised + m ≡ 2 * L
  minus m e = let t = (same_signed raised (2 * L) 0 m).0 (sym signed ∙ e ∙ below_zero m) in omega arith

  pub nearest : Nearest L n S (index d n (bit S))
  nearest = record {
    most = under 1 high (omega (arith, high, low));
    inner-most = λ i. under 2 (inner_high i) (omega (arith, inner_high i, low));
    least = over (2 * L - 2) (omega (arith, low));
    own_least = λ o. over (L - 2) (omega (arith, own_low o));
    not_top = λ e. let t = (same_signed raised (2 * L) (2 * L) 0).0 (sym signed ∙ e ∙ sym (+ℤ_idr (pos (2 * L)))) in omega (arith, high);
    not_bottom = λ e. omega (arith, minus (2 * L) e, low);
    not_own = λ o e. omega (arith, minus L e, own_low o);
  }
