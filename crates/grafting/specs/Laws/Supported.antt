-- Every costly row that grafting makes is a division of index above 0. So no two cross. Assumes nothing.
use Rattle.std.proofs.Common.{inl, inr, ap, ap₂, ◌∙◌, arith, leb-false, leb-true}
use Rattle.std.specs.Prelude.{◌⊎◌, ◌≡◌, suc, ℕ, ◌+◌, ◌<◌, ◌≤◌, leb}
use borrow.Table.Steps.{cases}
use Rattle.ground.specs.Bits.{bit}
use Rattle.ground.specs.Least.{On}
use Rattle.theory.specs.Index.{AtLeast}
use Rattle.theory.specs.Tables.{WellFormed}
use Rattle.path_cuts.specs.Cuts.{height}
use Rattle.grafting.specs.Sides.{side}
use Rattle.recognition.specs.Recognition.{Places, Recognised, placed}
use Rattle.grafting.specs.Laws.Heights.{height-down, height_is, height-next, height_same, height-three, height-up}
use Rattle.grafting.specs.Laws.Sides.{side_in, side_out}

-- the places after r up to p, among the places up to n
abbrev Out : ℕ → ℕ → ℕ → Type 0
Out r p i = (i ≤ r) ⊎ (p < i)

module _ (L : ℕ) (e : ℕ → ℕ → ℕ) (n : ℕ) (c : WellFormed L e (suc n)) (t : Recognised e n) (p r v : ℕ) (hp : p ≤ n) (hr : r < p)
    (from-left : height e r p ≤ v) (from-right : p < n → height e p (suc p) ≤ v) (over : v < height e (suc r) p) where
  -- images inside part above v, one inside and one outside at v or below
  inside : (i j : ℕ) → r < i → i ≤ p → r < j → j ≤ p → v < height e i j
  inside i j li ui lj uj =
      cases (leb i j)
      (λ s. omega (arith, height-down L e n c t i j p hp (leb-true i j s) uj, height-up L e n c t (suc r) i p hp li ui))
      (λ s.
      let a = height_same L e n c t i j (omega arith) (omega arith) in
      omega (arith, a, height-down L e n c t j i p hp (omega (arith, leb-false i j s)) ui, height-up L e n c t (suc r) j p hp lj uj))

  outside : (i j : ℕ) → i ≤ n → Out r p i → r < j → j ≤ p → height e i j ≤ v
  outside i j hi (inl l) lj uj =
      omega (arith, height-up L e n c t i r p hp l (omega arith), height-three L e n c t i j p hi (omega arith) hp, height-up L e n c t (suc r) j p hp lj uj)
  outside i j hi (inr l) lj uj =
      omega (
        arith,
        height_same L e n c t i j hi (omega arith),
        height-down L e n c t j (suc p) i hi (omega arith) l,
        height-next L e n c t j p (omega arith) uj,
        from-right (omega arith),
      )

  supported : (i i' j j' : ℕ) → i ≤ n → i' ≤ n → Out r p i → Out r p i' → r < j → j ≤ p → r < j' → j' ≤ p → 1 + e i i' + e j j' ≤ e i j + e i' j'
  supported i i' j j' hi hi' oi oi' lj uj lj' uj' =
      let a = outside i j hi oi lj uj in
      let b = outside i' j' hi' oi' lj' uj' in
      let z = inside j j' lj uj lj' uj' in
      let y = height-three L e n c t i j i' hi (omega arith) hi' in
      let x = height-three L e n c t i' j' j hi' (omega arith) (omega arith) in
      let s = height_same L e n c t j i' (omega arith) hi' in
      let q = height_same L e n c t j' j (omega arith) (omega arith) in
      omega (
        arith,
        height_is L e n c t i i' hi hi',
        height_is L e n c t j j' (omega arith) (omega arith),
        height_is L e n c t i j hi (omega arith),
        height_is L e n c t i' j' hi' (omega arith),
      )

module _ (L : ℕ) (d : ℕ → ℕ → ℕ) (o : ℕ → ℕ) (n : ℕ) (w : Places o (suc n)) (c : WellFormed L (placed d o) (suc n))
    (t : Recognised (placed d o) n) (p r v : ℕ) (hp : p ≤ n) (hr : r < p) (from-left : height (placed d o) r p ≤ v)
    (from-right : p < n → height (placed d o) p (suc p) ≤ v) (over : v < height (placed d o) (suc r) p) where
  out_of : (i : ℕ) → i ≤ n → bit (side o (suc r) p) (o i) ≡ 0 → Out r p i
  out_of i hi b =
      cases (leb i r) (λ s. inl (leb-true i r s))
      (λ s. cases (leb i p)
      (λ z. absurd (omega (arith, side_in o (suc n) w (suc r) (omega arith) p i (omega arith) (leb-true i p z) (leb-false i r s))))
      (λ z. inr (leb-false i p z)))

  in_of : (i : ℕ) → i ≤ n → bit (side o (suc r) p) (o i) ≡ 1 → (r < i) × (i ≤ p)
  in_of i hi b =
      let out = side_out o (suc n) w (suc r) (omega arith) p i (omega arith) (omega arith) in
      cases (leb i r) (λ s. absurd (omega (arith, out (inl (omega (arith, leb-true i r s))))))
      (λ s. cases (leb i p) (λ z. (leb-false i r s, leb-true i p z)) (λ z. absurd (omega (arith, out (inr (leb-false i p z))))))

  pub row_supported : AtLeast d (suc n) (bit (side o (suc r) p)) 1
  row_supported = record { low = λ {a} {a'} {b} {b'} ha ha' hb hb'. go a a' b b' ha ha' hb hb' }
    where
      S : ℕ
      S = side o (suc r) p

      go : (a a' b b' : ℕ) → On (suc n) (bit S) 0 a → On (suc n) (bit S) 0 a' → On (suc n) (bit S) 1 b → On (suc n) (bit S) 1 b'
          → 1 + d a a' + d b b' ≤ d a b + d a' b'
      go a a' b b' ha ha' hb hb' =
          let x = w.all a ha.0 in
          let x' = w.all a' ha'.0 in
          let y = w.all b hb.0 in
          let y' = w.all b' hb'.0 in
          let iy = in_of y.0 (omega (arith, y.1)) (ap (bit S) y.2 ∙ hb.1) in
          let iy' = in_of y'.0 (omega (arith, y'.1)) (ap (bit S) y'.2 ∙ hb'.1) in
          let ox = out_of x.0 (omega (arith, x.1)) (ap (bit S) x.2 ∙ ha.1) in
          let ox' = out_of x'.0 (omega (arith, x'.1)) (ap (bit S) x'.2 ∙ ha'.1) in
          let s = supported L (placed d o) n c t p r v hp hr from-left from-right over x.0 x'.0 y.0 y'.0 (omega (arith, x.1))
          (omega (arith, x'.1)) ox ox' iy.0 iy.1 iy'.0 iy'.1 in
          omega (arith, s, ap₂ d x.2 x'.2, ap₂ d y.2 y'.2, ap₂ d x.2 y.2, ap₂ d x'.2 y'.2)
