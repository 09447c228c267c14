-- Recognised at every place exactly where the four-point condition holds, the order being one of document 001. Assumes nothing.
use Rattle.std.specs.Prelude.{false, ◌≡◌, max, suc, zero, ℕ, ◌+◌, ◌-◌, ◌<◌, ◌≤◌, eqb}
use Rattle.std.proofs.Common.{subst, sym, arith, eqb-true, le-ltb}
use Rattle.std.proofs.lemmas.Bool.{eqb-false}
use borrow.Table.Steps.{cases}
use Rattle.ground.specs.Filters.{Each}
use Rattle.ground.specs.Laws.Filters.{filter_none}
use Rattle.ground.specs.Laws.Maps.{map-mem}
use Rattle.ground.specs.Laws.Ranges.{from-mem, gather-mem}
use Rattle.ground.specs.Ranges.{from}
use Rattle.theory.specs.FourPoint.{FourPoint, fails, four, fours₁, fours₂, fours₃, times_largest}
use Rattle.theory.proofs.Laws.FourPoint.{above_none, four_low}
use Rattle.theory.proofs.Laws.ImageOne.{image_one}
use Rattle.theory.specs.Tables.{WellFormed}
use Rattle.recognition.specs.Recognition.{Recognised, Yushmanov}

-- ## From the four-point condition, in an order of document 001

pub condition_recognised : (L : ℕ) (e : ℕ → ℕ → ℕ) (m : ℕ) → WellFormed L e (suc m) → FourPoint e (suc m) → Yushmanov e m → Recognised e m
condition_recognised L e m c fp y = record {
  own = λ {p} h.
      let f = four_low fp {i = 0} {j = p} {k = suc p} {l = suc p} (omega arith) (omega arith) (omega arith) (omega arith) in
      omega (arith, f, c.self {i = suc p} (omega arith));
  entry = λ {p} {j} h l. entry p j h l;
}
  where
    entry : (p j : ℕ) → p < m → j ≤ p → e j (suc p) + e 0 p ≡ max (e 0 j + e p (suc p)) (e 0 (suc p) + e p j)
    entry p zero h l =
        omega (
          arith,
          four_low fp {i = p} {j = suc p} {k = 0} {l = 0} (omega arith) (omega arith) (omega arith) (omega arith),
          c.self {i = 0} (omega arith),
          c.same {i = p} {j = 0} (omega arith) (omega arith),
          c.same {i = suc p} {j = 0} (omega arith) (omega arith),
        )
    entry p (suc j) h l =
        omega (
          arith,
          y.least {p = p} {j = suc j} h (omega arith) l,
          four_low fp {i = 0} {j = p} {k = suc j} {l = suc p} (omega arith) (omega arith) (omega arith) (omega arith),
          four_low fp {i = 0} {j = suc p} {k = p} {l = suc j} (omega arith) (omega arith) (omega arith) (omega arith),
          c.same {i = suc p} {j = suc j} (omega arith) (omega arith),
          c.same {i = suc p} {j = p} (omega arith) (omega arith),
        )

-- ## Back: one image more keeps the condition of all fours with the first image

abbrev First : (ℕ → ℕ → ℕ) → ℕ → Type 0
First e m = (j k l : ℕ) → j ≤ m → k ≤ m → l ≤ m → e 0 j + e k l ≤ max (e 0 k + e j l) (e 0 l + e j k)

module _ (L : ℕ) (e : ℕ → ℕ → ℕ) (n : ℕ) (c : WellFormed L e (suc n)) (r : Recognised e n) where
  -- the first place
  none : First e 0
  none zero zero zero hj hk hl = omega arith
  none (suc j) k l hj hk hl = absurd (omega arith)
  none zero (suc k) l hj hk hl = absurd (omega arith)
  none zero zero (suc l) hj hk hl = absurd (omega arith)

  module _ (p : ℕ) (h : p < n) (ih : First e p) where
    -- the new place as the middle one, and as an end
    middle : (k l : ℕ) → k ≤ p → l ≤ p → e 0 (suc p) + e k l ≤ max (e 0 k + e (suc p) l) (e 0 l + e (suc p) k)
    middle k l hk hl =
        omega (
          arith,
          r.entry {p = p} {j = k} h hk,
          r.entry {p = p} {j = l} h hl,
          ih p k l (omega arith) hk hl,
          c.same {i = suc p} {j = l} (omega arith) (omega arith),
          c.same {i = suc p} {j = k} (omega arith) (omega arith),
        )

    end : (j k : ℕ) → j ≤ p → k ≤ p → e 0 j + e k (suc p) ≤ max (e 0 k + e j (suc p)) (e 0 (suc p) + e j k)
    end j k hj hk =
        omega (
          arith,
          r.entry {p = p} {j = k} h hk,
          r.entry {p = p} {j = j} h hj,
          ih j k p hj hk (omega arith),
          c.same {i = k} {j = p} (omega arith) (omega arith),
          c.same {i = j} {j = p} (omega arith) (omega arith),
        )

    own-own : (j : ℕ) → j ≤ p → e 0 j + e (suc p) (suc p) ≤ e 0 (suc p) + e j (suc p)
    own-own j hj =
        omega (
          arith,
          r.entry {p = p} {j = j} h hj,
          r.own {p = p} h,
          c.self {i = suc p} (omega arith),
        )

    more : First e (suc p)
    more j k l hj hk hl =
        cases (eqb j (suc p))
        (λ a. cases (eqb k (suc p))
        (λ b. rw (eqb-true j (suc p) a, eqb-true k (suc p) b) (omega arith))
        (λ b. cases (eqb l (suc p))
        (λ f. rw (eqb-true j (suc p) a, eqb-true l (suc p) f) (omega (arith, c.same {i = k} {j = suc p} (omega arith) (omega arith))))
        (λ f. rw (eqb-true j (suc p) a) (middle k l (omega (arith, eqb-false k (suc p) b)) (omega (arith, eqb-false l (suc p) f))))))
        (λ a. cases (eqb k (suc p))
        (λ b. cases (eqb l (suc p))
        (λ f. rw (eqb-true k (suc p) b, eqb-true l (suc p) f) (omega (arith, own-own j (omega (arith, eqb-false j (suc p) a)))))
        (λ f.
        let t = end j l (omega (arith, eqb-false j (suc p) a)) (omega (arith, eqb-false l (suc p) f)) in
        rw (eqb-true k (suc p) b) (omega (arith, t, c.same {i = l} {j = suc p} (omega (arith, eqb-false l (suc p) f)) (omega arith)))))
        (λ b. cases (eqb l (suc p))
        (λ f. rw (eqb-true l (suc p) f) (end j k (omega (arith, eqb-false j (suc p) a)) (omega (arith, eqb-false k (suc p) b))))
        (λ f. ih j k l (omega (arith, eqb-false j (suc p) a)) (omega (arith, eqb-false k (suc p) b)) (omega (arith, eqb-false l (suc p) f)))))

  first-all : (m : ℕ) → m ≤ n → First e m
  first-all zero h = none
  first-all (suc p) h = more p (omega arith) (first-all p (omega arith))

  pub recognised_condition : FourPoint e (suc n)
  recognised_condition = image_one L e (suc n) c (filter_none (fails e) (fours₁ (suc n) 0) holds)
    where
      holds : Each (fours₁ (suc n) 0) (λ q. fails e q ≡ false)
      holds q m =
          let b = gather-mem (fours₂ (suc n) 0) (from 0 (suc n - 0)) q m in
          let f = gather-mem (fours₃ (suc n) 0 b.0) (from b.0 (suc n - b.0)) q b.2 in
          let g = map-mem (four 0 b.0 f.0) (from f.0 (suc n - f.0)) q f.2 in
          let rb = from-mem 0 (suc n - 0) b.0 b.1 in
          let rf = from-mem b.0 (suc n - b.0) f.0 f.1 in
          let rg = from-mem f.0 (suc n - f.0) g.0 g.2 in
          subst (λ q. fails e q ≡ false) (sym g.1) (le-ltb _ 2 (with b.0 f.0 g.0 (omega arith) (omega arith) (omega arith)))
        where
          with : (j k l : ℕ) → j ≤ n → k ≤ n → l ≤ n → 2 ≤ times_largest (e 0 j + e k l) (e 0 k + e j l) (e 0 l + e j k)
          with j k l hj hk hl =
              let f = first-all n (omega arith) in
              above_none _ _ _ (f j k l hj hk hl)
              (omega (arith, f k j l hk hj hl, c.same {i = k} {j = j} (omega arith) (omega arith)))
              (omega (arith, f l j k hl hj hk, c.same {i = l} {j = j} (omega arith) (omega arith), c.same {i = l} {j = k} (omega arith) (omega arith)))
