-- What the ring of a table that is a little off costs by that table, against any ring by the accepted one. Assumes nothing.
use Rattle.std.specs.Prelude.{true, List, [], ◌++◌, ◌∷◌, refl, ◌≡◌, max, ℕ, ◌*◌, ◌+◌, ◌-◌, ◌<◌, ◌≤◌, eqb, leb, length}
use mathlib.Core.List.Memᴰ
use Rattle.std.proofs.Common.{ap, sym, add-mul, mul_assoc, mul-le-mul_right, suc-mul, zero-mul, arith, eq-eqb, eqb-true, leb-false, leb-true}
use borrow.Table.Steps.{cases}
use Rattle.ground.specs.Counts.{one_if}
use Rattle.ground.specs.Members.{occurs}
use Rattle.theory.specs.FourPoint.{FourPoint}
use Rattle.theory.proofs.Laws.LastChoice.{last_choice, off}
use Rattle.theory.proofs.Laws.NoShorter.{closed-near, shortest_accepted}
use Rattle.theory.proofs.Laws.RingLeft.{Left, among, begins, free_there, more, weaker}
use Rattle.theory.proofs.Laws.Stable.{near_sym}
use Rattle.theory.specs.Laws.Walk.{End, Placed, grow_end, order-all, start}
use Rattle.theory.specs.Order.{AnOrder, along, closed, free, grow, order}
use Rattle.theory.specs.OrderRules.{IsNext}
use Rattle.theory.specs.Readings.{Near}
use Rattle.theory.specs.Tables.{WellFormed}

module _ (L D : ℕ) (d e : ℕ → ℕ → ℕ) (n f : ℕ) (hf : f < n) (c : WellFormed L d n) (c' : WellFormed L e n) (four : FourPoint d n) (p : Near D d e n) where
  module _ (m : List ℕ) (all : AnOrder n m) where
    abbrev Rest : ℕ → ℕ → List ℕ → Type 0
    Rest = Left e e d n f (3 * D) 0 D hf (off L D d e n f hf c c' four p) m all

    abbrev most : ℕ
    most = closed d m + ((n - 4) * (3 * D) + 4 * D)

    ends : (k x w v : ℕ) (l : List ℕ) → Placed n f x l → IsNext e f x (x ∷ l) n w → length l + 4 ≡ n → Rest k x l → v < n
        → free f (w ∷ x ∷ l) v ≡ true → closed e (f ∷ v ∷ w ∷ x ∷ l) ≤ closed d m + (k + 3 * D)
    ends k x w v l q r s h hv t =
        let a = among e e d n f (3 * D) 0 D hf (off L D d e n f hf c c' four p) m all k x l q h in
        let z = eqb-true (occurs v (f ∷ w ∷ x ∷ l)) 0 t in
        let ne : w ≡ v → ⊥ = (λ u. let y : one_if (eqb v w) ≡ 1 = ap one_if (eq-eqb v w (sym u)) in omega (arith, z)) in
        let v-free = eq-eqb (occurs v (f ∷ x ∷ l)) 0 (omega (arith, z)) in
        let there = free_there e e d n f (3 * D) 0 D hf (off L D d e n f hf c c' four p) m all k x l h a in
        omega (
          arith,
          h.most,
          ap (along d f f) a.is,
          last_choice L D d e n f hf c c' four p x w v (q.range x (Memᴰ.head refl)) r.below hv ne (r.least v hv v-free) a.before a.behind (omega (arith, a.size))
              (there w r.below r.is_free) (there v hv v-free),
        )

    -- so much is lost while there are two choices, at the last one, and then
    abbrev Stage : ℕ → List ℕ → Type 0
    Stage x l =
        (length l + 4 ≤ n → Rest (length l * (3 * D) + D) x l)
        × (length l + 3 ≡ n → (v : ℕ) → v < n → free f (x ∷ l) v ≡ true → closed e (f ∷ v ∷ x ∷ l) ≤ most)
        × (length l + 2 ≡ n → closed e (f ∷ x ∷ l) ≤ most)

    step : (x w : ℕ) (l : List ℕ) → Placed n f x l → IsNext e f x (x ∷ l) n w → Stage x l → Stage w (x ∷ l)
    step x w l q r t = (
      λ s. weaker e e d n f (3 * D) 0 D hf (off L D d e n f hf c c' four p) m all _ _ w (x ∷ l) (omega (arith, suc-mul (length l) (3 * D)))
          (more e e d n f (3 * D) 0 D hf (off L D d e n f hf c c' four p) m all _ x w l q r (t.0 (omega arith))),
      λ s v hv u.
          let z : length l ≡ n - 4 = omega arith in
          omega (arith, ends _ x w v l q r (omega arith) (t.0 (omega arith)) hv u, ap (λ (y : ℕ). y * (3 * D)) z),
      λ s. t.1 (omega arith) w r.below r.is_free,
    )

    pub timed-sum : 4 ≤ n → (last : ℕ) → last < n → (f ≡ last → ⊥) → closed e (order e n f last) ≤ most
    timed-sum few last hl ne =
        let h = begins e e d n f (3 * D) 0 D hf (off L D d e n f hf c c' four p) m all last hl in
        go (grow_end e n f hf Stage step (n - 2) last [] (omega arith) (start e n f hf last hl ne)
        (λ s. weaker e e d n f (3 * D) 0 D hf (off L D d e n f hf c c' four p) m all _ _ last [] (omega arith) h, λ s v hv u. absurd (omega arith), λ s. absurd (omega arith)))
      where
        go : End e n f hf Stage (grow e n f (n - 2) last []) → closed e (order e n f last) ≤ most
        go g = rw g.is (g.kept.2 g.full)

  -- ## For every n

  pub told_sum : (m : List ℕ) → AnOrder n m → (last : ℕ) → last < n → (f ≡ last → ⊥) → closed e (order e n f last) ≤ closed d m + max n (3 * n - 8) * D
  told_sum m a last hl ne = cases (leb 4 n) (λ t. many (leb-true 4 n t)) (λ t. few (leb-false 4 n t))
    where
      ring : AnOrder n (order e n f last)
      ring = (order-all e n f hf last hl ne).all

      few : n < 4 → closed e (order e n f last) ≤ closed d m + max n (3 * n - 8) * D
      few h =
          let z : n - 3 ≡ 0 = omega arith in
          let top : n ≤ max n (3 * n - 8) = omega arith in
          omega (
            arith,
            closed-near D e d n (order e n f last) (near_sym D d e n p) ring,
            shortest_accepted L D d e n four p f last hf hl ne c m a,
            ap (λ (y : ℕ). y * (4 * D)) z,
            zero-mul (4 * D),
            mul-le-mul_right D top,
          )

      many : 4 ≤ n → closed e (order e n f last) ≤ closed d m + max n (3 * n - 8) * D
      many h =
          let k : 3 * n - 8 ≡ (n - 4) * 3 + 4 = omega arith in
          let top : 3 * n - 8 ≤ max n (3 * n - 8) = omega arith in
          omega (
            arith,
            timed-sum m a h last hl ne,
            ap (λ (y : ℕ). y * D) k,
            add-mul ((n - 4) * 3) 4 D,
            mul_assoc (n - 4) 3 D,
            mul-le-mul_right D top,
          )
