-- The last choice of an order by a table that is a little off: w is taken and v is left. Assumes nothing.
use mathlib.Core.List.Memᴰ
use mathlib.Core.List.{List, Memᴰ, [], ◌++◌, ◌∷◌}
use Rattle.std.proofs.Common.{inl, inr, sym, ◌∙◌, arith}
use Rattle.std.specs.Prelude.{◌⊎◌, ◌≡◌, ℕ, ◌*◌, ◌+◌, ◌<◌, ◌≤◌, length}
use Rattle.theory.specs.FourPoint.{FourPoint}
use Rattle.theory.proofs.Laws.FourPoint.{four_low, four_within}
use Rattle.theory.proofs.Laws.TakenOut.{Off}
use Rattle.theory.specs.Order.{along}
use Rattle.theory.specs.Readings.{Near}
use Rattle.theory.specs.Tables.{WellFormed}

-- two different members of a list of two are both of them
both_of_lem : (w v y z : ℕ) → (w ≡ v → ⊥) → Memᴰ w (y ∷ z ∷ []) → Memᴰ v (y ∷ z ∷ []) → ((y ≡ w) × (z ≡ v)) ⊎ ((y ≡ v) × (z ≡ w))
both_of_lem w v y z ne a b = go (Memᴰ.cases_cons a) (Memᴰ.cases_cons b)
  where
    go : (w ≡ y) ⊎ Memᴰ w (z ∷ []) → (v ≡ y) ⊎ Memᴰ v (z ∷ []) → ((y ≡ w) × (z ≡ v)) ⊎ ((y ≡ v) × (z ≡ w))
    go (inl e) (inl t) = absurd (ne (e ∙ sym t))
    go (inl e) (inr t) = inl (sym e, sym (Memᴰ.eq_of_singleton t))
    go (inr e) (inl t) = inr (sym t, sym (Memᴰ.eq_of_singleton e))
    go (inr e) (inr t) = absurd (ne (Memᴰ.eq_of_singleton e ∙ sym (Memᴰ.eq_of_singleton t)))

module _ (L D : ℕ) (d e : ℕ → ℕ → ℕ) (n f : ℕ) (hf : f < n) (c : WellFormed L d n) (c' : WellFormed L e n) (four : FourPoint d n) (p : Near D d e n) where
  pub off : Off e e d n f (3 * D) 0 D
  off = record {
    same = λ hi hj. c.same hi hj;
    above = λ hi hj. p.down hi hj;
    chosen = λ hx hw hu t. omega (arith, p.down hx hu, p.down hf hw, p.up hf hu, c'.same hw hx);
    four = four_within d n four;
  }

  module _ (x w v : ℕ) (hx : x < n) (hw : w < n) (hv : v < n) (ne : w ≡ v → ⊥) (least : e x w + e f v ≤ e x v + e f w) where
    -- what is to come
    abbrev pub coming : ℕ
    coming = e f v + e v w + e w x

    -- either way round is no cheaper by e, and so by no more than 3 D by d
    either : (y z : ℕ) → ((y ≡ w) × (z ≡ v)) ⊎ ((y ≡ v) × (z ≡ w)) → coming ≤ d f z + d z y + d y x + 3 * D
    either y z (inl t) = rw (t.0, t.1) (omega (arith, p.down hf hv, p.down hv hw, p.down hw hx))
    either y z (inr t) =
        rw (t.0, t.1) (omega (arith, c'.same hw hx, c'.same hv hx, p.down hf hw, p.down hv hw, c.same hw hv, p.down hv hx))

    turned : (y z : ℕ) → ((y ≡ w) × (z ≡ v)) ⊎ ((y ≡ v) × (z ≡ w)) → ((z ≡ w) × (y ≡ v)) ⊎ ((z ≡ v) × (y ≡ w))
    turned y z (inl t) = inr (t.1, t.0)
    turned y z (inr t) = inl (t.1, t.0)

    image : (y z : ℕ) → ((y ≡ w) × (z ≡ v)) ⊎ ((y ≡ v) × (z ≡ w)) → y < n
    image y z (inl t) = omega (arith, t.0)
    image y z (inr t) = omega (arith, t.0)

    pub last_choice : (a b : List ℕ) → length (a ++ b) ≡ 2 → Memᴰ w (a ++ b) → Memᴰ v (a ++ b)
        → coming + d f x ≤ along d f f (a ++ (x ∷ b)) + 3 * D
    last_choice [] [] k i j = absurd (omega arith)
    last_choice [] (y ∷ []) k i j = absurd (omega arith)
    last_choice [] (y ∷ z ∷ []) k i j =
        let t = both_of_lem w v y z ne i j in
        let hy = image y z t in
        let hz = image z y (turned y z t) in
        omega (arith, either y z t, c.same hf hz, c.same hz hy, c.same hy hx)
    last_choice [] (y ∷ z ∷ u ∷ b) k i j = absurd (omega arith)
    last_choice (y ∷ []) [] k i j = absurd (omega arith)
    last_choice (y ∷ []) (z ∷ []) k i j =
        let t = both_of_lem w v y z ne i j in
        let s = turned y z t in
        let hy = image y z t in
        let hz = image z y s in
        omega (arith, either y z t, either z y s, four_low four hy hz hf hx, c.same hf hz, c.same hf hy, c.same hz hx, c.same hz hy)
    last_choice (y ∷ []) (z ∷ u ∷ b) k i j = absurd (omega arith)
    last_choice (y ∷ z ∷ []) [] k i j =
        let t = both_of_lem w v y z ne i j in omega (arith, either z y (turned y z t), c.same hf hx)
    last_choice (y ∷ z ∷ []) (u ∷ b) k i j = absurd (omega arith)
    last_choice (y ∷ z ∷ u ∷ a) b k i j = absurd (omega arith)
