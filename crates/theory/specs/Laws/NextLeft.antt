-- The order's own rule: each image is the next to the left of the one behind it. Assumes nothing.
use Rattle.std.specs.Prelude.{List, [], ◌++◌, ◌∷◌, ◌≡◌, ℕ, ◌-◌, ◌<◌, drop, get_or, length}
use Rattle.std.proofs.Common.{ap, sym, ◌∙◌, arith, length-append}
use Rattle.theory.specs.Laws.Walk.{End, Placed, grow_end, start}
use Rattle.theory.specs.Order.{grow, order}
use Rattle.theory.specs.OrderRules.{IsNext}

module _ (d : ℕ → ℕ → ℕ) (n f : ℕ) (hf : f < n) where
  -- so it is wherever two neighbours stand in x and l
  abbrev Ruled : ℕ → List ℕ → Type 0
  Ruled x l = (a : List ℕ) (w y : ℕ) (r : List ℕ) → x ∷ l ≡ a ++ (w ∷ y ∷ r) → IsNext d f y (y ∷ r) n w

  tails : {x y : ℕ} {l r : List ℕ} → x ∷ l ≡ y ∷ r → l ≡ r
  tails e = ap (drop 1) e

  heads : {x y : ℕ} {l r : List ℕ} → x ∷ l ≡ y ∷ r → x ≡ y
  heads e = ap (λ z. get_or z 0 0) e

  one_more : (x w : ℕ) (l : List ℕ) → Placed n f x l → IsNext d f x (x ∷ l) n w → Ruled x l → Ruled w (x ∷ l)
  one_more x w l p q h [] v y r e = rw (← heads e, ← heads (tails e), ← tails (tails e)) q
  one_more x w l p q h (b ∷ a) v y r e = h a v y r (tails e)

  last_alone : (x : ℕ) → Ruled x []
  last_alone x a w y r e = absurd (omega (arith, ap length e, length-append a (w ∷ y ∷ r)))

  pub next-left : (last : ℕ) → last < n → (f ≡ last → ⊥) → (a : List ℕ) (w x : ℕ) (l : List ℕ)
      → order d n f last ≡ f ∷ (a ++ (w ∷ x ∷ l)) → IsNext d f x (x ∷ l) n w
  next-left last hl ne a w x l e = go (grow_end d n f hf Ruled one_more (n - 2) last [] (omega arith) (start d n f hf last hl ne) (last_alone last))
    where
      go : End d n f hf Ruled (grow d n f (n - 2) last []) → IsNext d f x (x ∷ l) n w
      go g = g.kept a w x l (sym g.is ∙ tails e)
