-- What it saves to take an image out of a ring, against what it costs where the order places it.
-- Assumes nothing.
use mathlib.Core.List.Memᴰ
use mathlib.Core.List.{List, Memᴰ, [], append-nil, ◌++◌, ◌∷◌}
use Rattle.std.proofs.Common.{inl, inr, ap, sym, arith}
use Rattle.std.specs.Prelude.{◌⊎◌, refl, ◌≡◌, ℕ, ◌+◌, ◌<◌, ◌≤◌, length}
use Rattle.ground.specs.Filters.{Each}
use Rattle.theory.specs.FourPoint.{FourPointWithin}
use Rattle.theory.specs.Order.{along, closed}

-- an order by the table g, from f on, the table s by which its ring is summed up, and what is asked of a table d by which another ring
-- is: s is above d by r at most, the image that g chooses costs by s more than the best by d by p at most, and the four-point
-- condition of d fails by q at most
pub record Off (g s d : ℕ → ℕ → ℕ) (n f p q r : ℕ) : Type 0 where
  pub same : {i j : ℕ} → i < n → j < n → d i j ≡ d j i
  pub above : {i j : ℕ} → i < n → j < n → s i j ≤ d i j + r
  pub chosen : {x w u : ℕ} → x < n → w < n → u < n → g x w + g f u ≤ g x u + g f w → s w x + d f u ≤ d x u + d f w + p
  pub four : FourPointWithin q d n

-- ## A ring may begin anywhere

module _ (d : ℕ → ℕ → ℕ) where
  -- to z, and on from there
  along_through : (h y z : ℕ) (a b : List ℕ) → along d h y (a ++ (z ∷ b)) ≡ along d z y a + along d h z b
  along_through h y z [] b = refl
  along_through h y z (u ∷ a) b = omega (arith, along_through h u z a b)

  pub closed-turn : (f : ℕ) (a b : List ℕ) → closed d (a ++ (f ∷ b)) ≡ closed d (f ∷ (b ++ a))
  closed-turn f [] b = ap (λ (l : List ℕ). along d f f l) (sym (append-nil b))
  closed-turn f (y ∷ a) b = omega (arith, along_through y y f a b, along_through f f y b a)

module _ (g s d : ℕ → ℕ → ℕ) (n f p q r : ℕ) (hf : f < n) (o : Off g s d n f p q r) where
  -- ## One image is taken out

  module _ (x w : ℕ) (hx : x < n) (hw : w < n) where
    -- u is one of the others, and w was chosen before it
    abbrev pub Other : ℕ → Type 0
    Other u = (u < n) × (g x w + g f u ≤ g x u + g f w)

    -- from between two others
    between : (u v : ℕ) → Other u → Other v → d u v + s w x + d f x ≤ d u x + d x v + d f w + (p + q)
    between u v a b =
        omega (
          arith,
          o.four.low a.0 b.0 hf hx,
          o.chosen hx hw a.0 a.1,
          o.chosen hx hw b.0 b.1,
          o.same a.0 hf,
          o.same a.0 hx,
          o.same b.0 hf,
          o.same b.0 hx,
        )

    pub taken : (y : ℕ) (a b : List ℕ) → Other y ⊎ ((y ≡ f) × (0 < length (a ++ b))) → Each (a ++ b) Other
        → along d f y (a ++ b) + s w x + d f x ≤ along d f y (a ++ (x ∷ b)) + d f w + (p + q)
    taken y [] [] (inl t) c = omega (arith, o.chosen hx hw t.0 t.1, o.same t.0 hf, o.same hx t.0, o.same hx hf)
    taken y [] [] (inr t) c = absurd (omega (arith, t.1))
    taken y [] (u ∷ b) (inl t) c = omega (arith, between y u t (c u (Memᴰ.head refl)))
    taken y [] (u ∷ b) (inr t) c =
        let v = c u (Memᴰ.head refl) in rw t.0 (omega (arith, o.chosen hx hw v.0 v.1))
    taken y (z ∷ a) b t c = omega (arith, taken z a b (inl (c z (Memᴰ.head refl))) (λ u m. c u (Memᴰ.tail m)))

    -- where w alone is left
    pub alone : (a b : List ℕ) → Memᴰ w (a ++ b) → length (a ++ b) ≡ 1
        → along d f f (a ++ b) + s w x + d f x ≤ along d f f (a ++ (x ∷ b)) + d f w + r
    alone [] [] m e = absurd (omega arith)
    alone [] (v ∷ []) m e = let t = Memᴰ.eq_of_singleton m in omega (arith, ap (d x) t, ap (d f) t, o.above hw hx, o.same hw hx)
    alone [] (v ∷ u ∷ b) m e = absurd (omega arith)
    alone (v ∷ []) [] m e =
        let t = Memᴰ.eq_of_singleton m in
        omega (arith, ap (λ (i : ℕ). d i x) t, ap (λ (i : ℕ). d i f) t, o.above hw hx, o.same hf hx, o.same hf hw)
    alone (v ∷ []) (u ∷ b) m e = absurd (omega arith)
    alone (v ∷ u ∷ a) b m e = absurd (omega arith)
