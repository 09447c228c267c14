-- A table with every entry so many times as much: the order is the same, and so is what holds of it, so many times. Assumes nothing.
use Rattle.std.specs.Prelude.{List, [], ◌∷◌, ◌≡◌, leb, ltb}
use Rattle.std.proofs.Common.{ap, sym, ◌∙◌, mul-add, mul_comm, mul-le-mul_left, mul-one, mul-zero, arith, le-ltb, leb-false, leb-true, lt-ltb, ltb-false, ltb-true}
use Rattle.std.proofs.Math.Path.{refl}
use Prim.Native.Nat.{max, suc, zero, ℕ, ◌*◌, ◌+◌, ◌-◌, ◌<◌, ◌≤◌}
use Rattle.std.proofs.Math.Nat.{mul-lt-mul_of_pos_left}
use borrow.Table.Steps.{cases}
use Rattle.theory.specs.FourPoint.{FourPoint}
use Rattle.theory.proofs.Laws.FourPoint.{four_low, four_point_lem}
use Rattle.theory.specs.Order.{along, better, closed, grow, next, order}
use Rattle.theory.specs.Readings.{Near}
use Rattle.theory.specs.Tables.{WellFormed}

module _ (D : ℕ) (some : 0 < D) where
  abbrev pub scaled : (ℕ → ℕ → ℕ) → ℕ → ℕ → ℕ
  scaled d i j = D * d i j

  ltb_scaled : (a b : ℕ) → ltb (D * a) (D * b) ≡ ltb a b
  ltb_scaled a b =
      cases (ltb a b)
      (λ t. lt-ltb (D * a) (D * b) (mul-lt-mul_of_pos_left (ltb-true a b t) some) ∙ sym t)
      (λ t. le-ltb (D * a) (D * b) (mul-le-mul_left D (ltb-false a b t)) ∙ sym t)

  module _ (d : ℕ → ℕ → ℕ) where
    better-scaled : (f x w b : ℕ) → better (scaled d) f x w b ≡ better d f x w b
    better-scaled f x w b = rw (← mul-add D (d x w) (d f b), ← mul-add D (d x b) (d f w), ltb_scaled (d x w + d f b) (d x b + d f w))

    next-scaled : (f x : ℕ) (l : List ℕ) (m : ℕ) → next (scaled d) f x l m ≡ next d f x l m
    unfolding next
    next-scaled f x l zero = refl
    next-scaled f x l (suc m) = rw (next-scaled f x l m, better-scaled f x m (next d f x l m))

    grow-scaled : (n f m x : ℕ) (l : List ℕ) → grow (scaled d) n f m x l ≡ grow d n f m x l
    unfolding grow
    grow-scaled n f zero x l = refl
    grow-scaled n f (suc m) x l = rw (next-scaled f x (x ∷ l) n) (grow-scaled n f m (next d f x (x ∷ l) n) (x ∷ l))

    along-scaled : (f x : ℕ) (l : List ℕ) → along (scaled d) f x l ≡ D * along d f x l
    along-scaled f x [] = refl
    along-scaled f x (y ∷ l) = omega (arith, along-scaled f y l, mul-add D (d x y) (along d f y l))

    pub closed-scaled : (l : List ℕ) → closed (scaled d) l ≡ D * closed d l
    closed-scaled [] = sym (mul-zero D)
    closed-scaled (f ∷ l) = along-scaled f f l

    pub formed_scaled : (L n : ℕ) → WellFormed L d n → WellFormed (D * L) (scaled d) n
    formed_scaled L n c = record {
      small = λ hi hj. mul-le-mul_left D (c.small hi hj);
      self = λ hi. ap (λ (x : ℕ). D * x) (c.self hi) ∙ mul-zero D;
      same = λ hi hj. ap (λ (x : ℕ). D * x) (c.same hi hj);
      nonzero = λ hi hj ne. omega (arith, mul-lt-mul_of_pos_left (c.nonzero hi hj ne) some, mul-zero D);
    }

    pub four-scaled : (n : ℕ) → FourPoint d n → ((i j : ℕ) → i < n → j < n → d i j ≡ d j i) → FourPoint (scaled d) n
    four-scaled n p same = four_point_lem (scaled d) n (λ i j hi hj. ap (λ (x : ℕ). D * x) (same i j hi hj)) (record {
      low = λ {i} {j} {k} {l} hi hj hk hl. go (d i j) (d k l) (d i k) (d j l) (d i l) (d j k) (four_low p hi hj hk hl);
    })
      where
        go : (a b c g h m : ℕ) → a + b ≤ max (c + g) (h + m) → D * a + D * b ≤ max (D * c + D * g) (D * h + D * m)
        go a b c g h m u =
            rw (← mul-add D a b, ← mul-add D c g, ← mul-add D h m)
            (cases (leb (c + g) (h + m))
            (λ t. let v : a + b ≤ h + m = omega (arith, leb-true (c + g) (h + m) t) in omega (arith, mul-le-mul_left D v))
            (λ t. let v : a + b ≤ c + g = omega (arith, leb-false (c + g) (h + m) t) in omega (arith, mul-le-mul_left D v)))

  pub near-scaled : (d e : ℕ → ℕ → ℕ) (n : ℕ) → Near 1 d e n → Near D (scaled d) (scaled e) n
  near-scaled d e n p = record { up = λ {i} {j} hi hj. go (d i j) (e i j) (p.up hi hj); down = λ {i} {j} hi hj. go (e i j) (d i j) (p.down hi hj) }
    where
      go : (a b : ℕ) → a ≤ b + 1 → D * a ≤ D * b + D
      go a b u = omega (arith, mul-le-mul_left D u, mul-add D b 1, mul-one D)

  -- by how much the order's ring, by w, is longer than another, by v
  pub longer_scaled : (w v e : ℕ → ℕ → ℕ) (n f last : ℕ) (l : List ℕ) (s : ℕ) → closed w (order e n f last) ≡ closed v l + s
      → closed (scaled w) (order (scaled e) n f last) ≡ closed (scaled v) l + s * D
  longer_scaled w v e n f last l s p =
      ap (λ (r : List ℕ). closed (scaled w) (f ∷ r)) (grow-scaled e n f (n - 2) last [])
      ∙ omega (arith, closed-scaled w (order e n f last), closed-scaled v l, ap (λ (x : ℕ). D * x) p, mul-add D (closed v l) s, mul_comm D s)
