-- Law O1: the order is a list of all images, each once, first and last at the ends.
-- Assumes nothing.
use Rattle.std.proofs.Common.{true≢false, inl, inr, ap, sym, ◌∙◌, arith, eqb-true, ne_eqb}
use mathlib.Core.List.Memᴰ
use mathlib.Core.List.{List, Memᴰ, [], ◌∷◌}
use Rattle.std.specs.Prelude.{◌⊎◌, refl, ◌≡◌, eqb, length}
use Prim.Native.Nat.{suc, zero, ℕ, ◌+◌, ◌-◌, ◌<◌, ◌≤◌}
use Rattle.std.proofs.lemmas.Bool.{eqb-false}
use borrow.Table.Steps.{cases}
use Rattle.ground.specs.Filters.{Each}
use Rattle.ground.specs.Members.{occurs}
use Rattle.ground.specs.Totals.{total}
use Rattle.ground.specs.Laws.Totals.{total_each, total_least, total-occurs}
use Rattle.theory.specs.Laws.Next.{None, next_is}
use Rattle.theory.specs.Order.{AllOnce, grow, last_of, next, order}
use Rattle.theory.specs.OrderRules.{IsNext}

-- x and l, with f, are images below n, each once
pub record Placed (n f x : ℕ) (l : List ℕ) : Type 0 where
  pub range : Each (x ∷ l) (λ i. i < n)
  pub once : (i : ℕ) → occurs i (f ∷ x ∷ l) ≤ 1

module _ (d : ℕ → ℕ → ℕ) (n f : ℕ) (hf : f < n) where
  pub range_all : (x : ℕ) (l : List ℕ) → Placed n f x l → Each (f ∷ x ∷ l) (λ i. i < n)
  range_all x l p i m = go (Memᴰ.cases_cons m)
    where
      go : (i ≡ f) ⊎ Memᴰ i (x ∷ l) → i < n
      go (inl e) = omega arith
      go (inr t) = p.range i t

  size : (x : ℕ) (l : List ℕ) → Placed n f x l → total n (λ t. occurs t (f ∷ x ∷ l)) ≡ suc (suc (length l))
  size x l p = total-occurs n (f ∷ x ∷ l) (range_all x l p)

  -- while images are left, the next one is the least of them
  pub next_least : (x : ℕ) (l : List ℕ) → Placed n f x l → length l + 2 < n → IsNext d f x (x ∷ l) n (next d f x (x ∷ l) n)
  next_least x l p h = go (next_is d f x (x ∷ l) n)
    where
      go : ((next d f x (x ∷ l) n ≡ f) × None d f x (x ∷ l) n) ⊎ IsNext d f x (x ∷ l) n (next d f x (x ∷ l) n) → IsNext d f x (x ∷ l) n (next d f x (x ∷ l) n)
      go (inr r) = r
      go (inl r) =
          absurd (omega (
            arith,
            size x l p,
            total_least n (λ t. occurs t (f ∷ x ∷ l)) (λ t s.
                cases (eqb (occurs t (f ∷ x ∷ l)) 0) (λ e. absurd (true≢false (sym e ∙ r.1 t s))) (λ e. omega (arith, eqb-false (occurs t (f ∷ x ∷ l)) 0 e))),
          ))

  placed-more : (x w : ℕ) (l : List ℕ) → Placed n f x l → IsNext d f x (x ∷ l) n w → Placed n f w (x ∷ l)
  placed-more x w l p q = record { range = range; once = once }
    where
      range : Each (w ∷ x ∷ l) (λ i. i < n)
      range i m = go (Memᴰ.cases_cons m)
        where
          go : (i ≡ w) ⊎ Memᴰ i (x ∷ l) → i < n
          go (inl e) = omega (arith, q.below)
          go (inr t) = p.range i t

      once : (i : ℕ) → occurs i (f ∷ w ∷ x ∷ l) ≤ 1
      once i =
          cases (eqb i w)
          (λ e. let s = eqb-true i w e in let z = eqb-true (occurs w (f ∷ x ∷ l)) 0 q.is_free in
          rw e (omega (arith, ap (λ (j : ℕ). occurs j (f ∷ x ∷ l)) s)))
          (λ e. rw e (omega (arith, p.once i)))

  -- what each step keeps holds at the end
  pub record End (P : ℕ → List ℕ → Type 0) (r : List ℕ) : Type 0 where
    pub head : ℕ
    pub tail : List ℕ
    pub is : r ≡ head ∷ tail
    pub placed : Placed n f head tail
    pub full : length tail + 2 ≡ n
    pub kept : P head tail

  pub grow_end : (P : ℕ → List ℕ → Type 0) → ((x w : ℕ) (l : List ℕ) → Placed n f x l → IsNext d f x (x ∷ l) n w → P x l → P w (x ∷ l))
      → (m x : ℕ) (l : List ℕ) → length l + m + 2 ≡ n → Placed n f x l → P x l → End P (grow d n f m x l)
  unfolding grow
  grow_end P step zero x l s p h = record { head = x; tail = l; is = refl; placed = p; full = omega arith; kept = h }
  grow_end P step (suc m) x l s p h =
      let q = next_least x l p (omega arith) in
      grow_end P step m (next d f x (x ∷ l) n) (x ∷ l) (omega arith) (placed-more x (next d f x (x ∷ l) n) l p q) (step x (next d f x (x ∷ l) n) l p q h)

  pub placed_full : (x : ℕ) (l : List ℕ) → Placed n f x l → length l + 2 ≡ n → (i : ℕ) → i < n → occurs i (f ∷ x ∷ l) ≡ 1
  placed_full x l p h = total_each n (λ t. occurs t (f ∷ x ∷ l)) (λ t s. p.once t) (omega (arith, size x l p))

  -- ## O1

  pub start : (last : ℕ) → last < n → (f ≡ last → ⊥) → Placed n f last []
  start last h ne = record {
    range = λ i m. omega (arith, only i (Memᴰ.cases_cons m));
    once =
        λ i. cases (eqb i f) (λ e. rw (e, ne_eqb i last (λ t. ne (sym (eqb-true i f e) ∙ t))) (omega arith))
        (λ e. rw e (cases (eqb i last) (λ t. rw t (omega arith)) (λ t. rw t (omega arith))));
  }
    where
      only : (i : ℕ) → (i ≡ last) ⊎ Memᴰ i [] → i ≡ last
      only i (inl e) = e
      only i (inr m) = absurd (mathlib.Core.List.Memᴰ.not-nil m)

  pub order-all : (last : ℕ) → last < n → (f ≡ last → ⊥) → AllOnce n f last (order d n f last)
  order-all last hl ne = go (grow_end (λ x l. last_of x l ≡ last) (λ x w l p q h. h) (n - 2) last [] (omega arith) (start last hl ne) refl)
    where
      go : End (λ x l. last_of x l ≡ last) (grow d n f (n - 2) last []) → AllOnce n f last (order d n f last)
      go e = rw e.is (record {
        all = record { range = range_all e.head e.tail e.placed; once = placed_full e.head e.tail e.placed e.full };
        size = omega (arith, e.full);
        front = (e.head ∷ e.tail, refl);
        back = e.kept;
      })
