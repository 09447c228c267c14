-- How much longer than any other ring the order's is at most (T-12). Assumes nothing.
use mathlib.Core.List.Memᴰ
use Rattle.std.specs.Prelude.{List, [], ◌++◌, ◌∷◌, refl, ◌≡◌, ℕ, ◌*◌, ◌+◌, ◌-◌, ◌<◌, ◌≤◌, length}
use Rattle.std.proofs.Common.{ap, suc-mul, arith}
use Rattle.theory.proofs.Laws.RingLeft.{Left, among, begins, last_one, more, weaker}
use Rattle.theory.proofs.Laws.TakenOut.{Off}
use Rattle.theory.specs.Laws.Walk.{End, Placed, grow_end, start}
use Rattle.theory.specs.Order.{AnOrder, closed, grow, order}
use Rattle.theory.specs.OrderRules.{IsNext}

module _ (g s d : ℕ → ℕ → ℕ) (n f p q r : ℕ) (hf : f < n) (o : Off g s d n f p q r) (m : List ℕ) (all : AnOrder n m) where
  abbrev Rest : ℕ → ℕ → List ℕ → Type 0
  Rest = Left g s d n f p q r hf o m all

  -- where all are placed, x alone is left, and the ring is closed
  closes : (k x : ℕ) (l : List ℕ) → Placed n f x l → length l + 2 ≡ n → Rest k x l → closed s (f ∷ x ∷ l) ≤ closed d m + (k + r)
  closes k x l c e h =
      let a = among g s d n f p q r hf o m all k x l c h in
      let t = rw (a.is, none a.before a.behind (omega (arith, a.size))) at h.most in
      let hx = c.range x (Memᴰ.head refl) in
      omega (arith, t, o.above hf hx, o.same hf hx)
    where
      none : (a b : List ℕ) → length (a ++ b) ≡ 0 → a ++ (x ∷ b) ≡ x ∷ []
      none [] [] e = refl
      none [] (u ∷ b) e = absurd (omega arith)
      none (u ∷ a) b e = absurd (omega arith)

  -- so much is lost while there is a choice, and at the end
  abbrev Stage : ℕ → List ℕ → Type 0
  Stage x l = (length l + 3 ≤ n → Rest (length l * (p + q) + r) x l) × (length l + 2 ≡ n → Rest ((n - 3) * (p + q) + 2 * r) x l)

  step : (x w : ℕ) (l : List ℕ) → Placed n f x l → IsNext g f x (x ∷ l) n w → Stage x l → Stage w (x ∷ l)
  step x w l c v t = (
    λ e. let h = t.0 (omega arith) in weaker g s d n f p q r hf o m all _ _ w (x ∷ l) (omega (arith, suc-mul (length l) (p + q))) (more g s d n f p q r hf o m all _ x w l c v h),
    λ e.
        let h = t.0 (omega arith) in
        let z : length l ≡ n - 3 = omega arith in
        weaker g s d n f p q r hf o m all _ _ w (x ∷ l) (omega (arith, ap (λ (y : ℕ). y * (p + q)) z)) (last_one g s d n f p q r hf o m all _ x w l c v h (omega arith)),
  )

  pub ring_off : (last : ℕ) → last < n → (f ≡ last → ⊥) → closed s (order g n f last) ≤ closed d m + ((n - 3) * (p + q) + 3 * r)
  ring_off last hl ne =
      let h = begins g s d n f p q r hf o m all last hl in
      go (grow_end g n f hf Stage step (n - 2) last [] (omega arith) (start g n f hf last hl ne)
      (λ e. weaker g s d n f p q r hf o m all _ _ last [] (omega arith) h, λ e. weaker g s d n f p q r hf o m all _ _ last [] (omega arith) h))
    where
      go : End g n f hf Stage (grow g n f (n - 2) last []) → closed s (order g n f last) ≤ closed d m + ((n - 3) * (p + q) + 3 * r)
      go e = rw e.is (omega (arith, closes _ e.head e.tail e.placed e.full (e.kept.1 e.full)))
