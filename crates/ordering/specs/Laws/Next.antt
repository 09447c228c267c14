-- The image that the code finds is the next to the left. Assumes nothing.
use Rattle.std.specs.Prelude.{◌&&◌, List, [], ◌∷◌, ◌⊎◌, refl, ◌≡◌, max, suc, zero, ℕ, ◌+◌, ◌<◌, ◌^◌, eqb}
use Rattle.std.proofs.Common.{inl, inr, ap, sym, ◌∙◌, arith, eqb-true, ne_eqb}
use Rattle.std.specs.Int.Bits.{bit_or}
use Rattle.std.proofs.lemmas.Bool.{eqb-false}
use borrow.Table.Steps.{cases}
use Rattle.ground.specs.Bits.{bit}
use Rattle.ground.specs.Laws.Bits.{bit_none, bit_or_lem, bit_pow, bit_pow_other}
use Rattle.ground.specs.Folds.{fold}
use Rattle.ground.specs.Members.{occurs}
use Rattle.theory.specs.Laws.Next.{None, next_is}
use Rattle.theory.specs.Order.{better, next}
use Rattle.theory.specs.OrderRules.{IsNext}
use Rattle.ordering.specs.Next.{Marks, next_left, turn_next}

pub turn_lt : (d : ℕ → ℕ → ℕ) (f x placed w b n : ℕ) → w < n → b < n → turn_next d f x placed w b < n
unfolding turn_next
turn_lt d f x placed w b n l h =
    cases (eqb (bit placed w) 0 && better d f x w b) (λ e. rw e l) (λ e. rw e h)

pub marks_none : Marks 0 []
marks_none = record { told = λ u. rw (bit_none u) }

pub marks-more : (placed w : ℕ) (l : List ℕ) → Marks placed l → Marks (bit_or placed (2 ^ w)) (w ∷ l)
marks-more placed w l m = record {
  told = λ u. cases (eqb u w)
      (λ e. let s = eqb-true u w e in
      ne_eqb (bit (bit_or placed (2 ^ w)) u) 0 (λ z. omega (arith, bit_or_lem u placed (2 ^ w), bit_pow w, ap (bit (2 ^ w)) s))
      ∙ sym (rw e (ne_eqb (1 + occurs u l) 0 (λ z. omega arith))))
      (λ e. rw (e, bit_or_lem u placed (2 ^ w), bit_pow_other w u (λ s. eqb-false u w e (sym s))) (let z : max (bit placed u) 0 ≡ bit placed u = omega arith in
      let y : 0 + occurs u l ≡ occurs u l = omega arith in rw (z, y) (m.told u)));
}

pub marks_swap : (placed w f : ℕ) (l : List ℕ) → Marks placed (w ∷ f ∷ l) → Marks placed (f ∷ w ∷ l)
marks_swap placed w f l m = record {
  told = λ u. let e : occurs u (f ∷ w ∷ l) ≡ occurs u (w ∷ f ∷ l) = omega arith in rw e (m.told u);
}

-- with such bits the code finds the next image of document 01
pub next-marked : (d : ℕ → ℕ → ℕ) (f x placed : ℕ) (l : List ℕ) → Marks placed (f ∷ l) → (m : ℕ) → next_left d f x placed m ≡ next d f x l m
unfolding next_left turn_next fold next
next-marked d f x placed l h zero = refl
next-marked d f x placed l h (suc m) = rw (next-marked d f x placed l h m, h.told m)

pub next_lt : (d : ℕ → ℕ → ℕ) (f x : ℕ) (l : List ℕ) (n : ℕ) → f < n → next d f x l n < n
next_lt d f x l n h = go (next_is d f x l n)
  where
    go : ((next d f x l n ≡ f) × None d f x l n) ⊎ IsNext d f x l n (next d f x l n) → next d f x l n < n
    go (inl r) = omega (arith, r.0)
    go (inr r) = r.below
