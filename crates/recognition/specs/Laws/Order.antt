-- The order from image 0 is one of document 001: every image once, and each behind the one that is least for it. Assumes nothing.
use Rattle.std.specs.Prelude.{true, refl, ◌≡◌, eqb, drop, get_or, length}
use mathlib.Core.List.{List, Memᴰ, [], ◌∷◌}
use Rattle.std.proofs.Common.{ap, sym, arith, eq-eqb, eqb-true}
use Prim.Native.Nat.{suc, zero, ℕ, ◌+◌, ◌-◌, ◌<◌, ◌≤◌}
use borrow.Table.Steps.{cases}
use Rattle.ground.specs.Members.{occurs}
use Rattle.theory.specs.Laws.Walk.{End, grow_end, order-all, start}
use Rattle.theory.specs.Order.{AllOnce, free, grow, order}
use Rattle.theory.specs.OrderRules.{IsNext}
use Rattle.recognition.specs.Recognition.{Places, Yushmanov, placed}

-- ## Places of a list

get_d_mem : (l : List ℕ) (i : ℕ) → i < length l → Memᴰ (get_or l i 0) l
get_d_mem [] i h = absurd (omega arith)
get_d_mem (x ∷ l) zero h = Memᴰ.head refl
get_d_mem (x ∷ l) (suc i) h = Memᴰ.tail (get_d_mem l i (omega arith))

occurs-drop : (x a : ℕ) (l : List ℕ) → occurs x (drop a l) ≤ occurs x l
occurs-drop x zero l = omega arith
occurs-drop x (suc a) [] = omega arith
occurs-drop x (suc a) (y ∷ l) = omega (arith, occurs-drop x a l)

-- once more than behind a later place
occurs-behind : (l : List ℕ) (b a : ℕ) → b ≤ a → b < length l → 1 + occurs (get_or l b 0) (drop (suc a) l) ≤ occurs (get_or l b 0) l
occurs-behind [] b a h s = absurd (omega arith)
occurs-behind (x ∷ l) zero a h s = rw (eq-eqb x x refl) (omega (arith, occurs-drop x a l))
occurs-behind (x ∷ l) (suc b) zero h s = absurd (omega arith)
occurs-behind (x ∷ l) (suc b) (suc a) h s = omega (arith, occurs-behind l b a (omega arith) (omega arith))

occurs-at : (l : List ℕ) (i : ℕ) → i < length l → 1 ≤ occurs (get_or l i 0) l
occurs-at l i h = omega (arith, occurs-behind l i i (omega arith) h)

-- an element that occurs once stands at one place
one_place : (l : List ℕ) (x i j : ℕ) → occurs x l ≤ 1 → i < length l → j < length l → get_or l i 0 ≡ x → get_or l j 0 ≡ x → i ≡ j
one_place [] x i j h hi hj p q = absurd (omega arith)
one_place (y ∷ l) x zero zero h hi hj p q = refl
one_place (y ∷ l) x zero (suc j) h hi hj p q =
    absurd (let z = rw (eq-eqb x y (sym p)) at h in omega (arith, occurs-at l j (omega arith), ap (λ (u : ℕ). occurs u l) q))
one_place (y ∷ l) x (suc i) zero h hi hj p q =
    absurd (let z = rw (eq-eqb x y (sym q)) at h in omega (arith, occurs-at l i (omega arith), ap (λ (u : ℕ). occurs u l) p))
one_place (y ∷ l) x (suc i) (suc j) h hi hj p q = ap suc (one_place l x i j (omega arith) (omega arith) (omega arith) p q)

some-place : (l : List ℕ) (x : ℕ) → 1 ≤ occurs x l → (i : ℕ) × (i < length l) × (get_or l i 0 ≡ x)
some-place [] x h = absurd (omega arith)
some-place (y ∷ l) x h =
    cases (eqb x y) (λ s. (0, omega arith, sym (eqb-true x y s)))
    (λ s. let z = rw s at h in let r = some-place l x (omega arith) in (suc r.0, omega (arith, r.1), r.2))

pub all_once_places : (n last : ℕ) (l : List ℕ) → 0 < n → AllOnce n 0 last l → Places (λ i. get_or l i 0) n
all_once_places n last l h a = record {
  first = ap (λ m. get_or m 0 0) a.front.1;
  range = λ {i} hi. a.all.range (get_or l i 0) (get_d_mem l i (omega (arith, a.size)));
  once = λ {i} {j} hi hj s.
      let y = get_or l j 0 in
      let o = a.all.once y (a.all.range y (get_d_mem l j (omega (arith, a.size)))) in
      one_place l y i j (omega (arith, o)) (omega (arith, a.size)) (omega (arith, a.size)) s refl;
  all = λ x hx. let r = some-place l x (omega (arith, a.all.once x hx)) in (r.0, omega (arith, r.1, a.size), r.2);
}

-- ## Each image behind the least

module _ (d : ℕ → ℕ → ℕ) (n : ℕ) where
  -- w stands before z, with l behind: of all images that stood free, w is least for z
  abbrev Next : ℕ → ℕ → List ℕ → Type 0
  Next w z l = (u : ℕ) → u < n → free 0 l u ≡ true → d z w + d 0 u ≤ d z u + d 0 w

  Chain : ℕ → List ℕ → Type 0
  Chain x [] = Unit {0}
  Chain x (z ∷ l) = Next x z (z ∷ l) × Chain z l

  chain-at : (x : ℕ) (l : List ℕ) (a : ℕ) → Chain x l → suc a < length (x ∷ l) → Next (get_or (x ∷ l) a 0) (get_or (x ∷ l) (suc a) 0) (drop (suc a) (x ∷ l))
  unfolding Chain
  chain-at x [] a h s = absurd (omega arith)
  chain-at x (z ∷ l) zero h s = h.0
  chain-at x (z ∷ l) (suc a) h s = chain-at z l a h.1 (omega arith)

  more : (x w : ℕ) (l : List ℕ) → IsNext d 0 x (x ∷ l) n w → Chain x l → Chain w (x ∷ l)
  unfolding Chain
  more x w l q h = (q.least, h)

  none : (x : ℕ) → Chain x []
  unfolding Chain
  none x = tt

-- ## The order from image 0 with the last image at the end, as places

abbrev pub around : (ℕ → ℕ → ℕ) → ℕ → ℕ → ℕ
around d k i = get_or (order d (suc (suc k)) 0 (suc k)) i 0

module _ (d : ℕ → ℕ → ℕ) (k : ℕ) where
  abbrev o : ℕ → ℕ
  o = around d k

  pub order_once : AllOnce (suc (suc k)) 0 (suc k) (order d (suc (suc k)) 0 (suc k))
  order_once = order-all d (suc (suc k)) 0 (omega arith) (suc k) (omega arith) (λ s. omega arith)

  pub order_places : Places o (suc (suc k))
  order_places = all_once_places (suc (suc k)) (suc k) (order d (suc (suc k)) 0 (suc k)) (omega arith) order_once

  pub order_yushmanov : Yushmanov (placed d o) (suc k)
  order_yushmanov = record { least = λ {p} {j} h l m. go p j h l m }
    where
      n : ℕ
      n = suc (suc k)

      E : Type 0
      E = End d n 0 (omega arith) (Chain d n) (grow d n 0 (n - 2) (suc k) [])

      ended : E
      ended =
          grow_end d n 0 (omega arith) (Chain d n) (λ x w l p q h. more d n x w l q h) (n - 2) (suc k) [] (omega arith)
          (start d n 0 (omega arith) (suc k) (omega arith) (λ s. omega arith)) (none d n (suc k))

      go : (p j : ℕ) → p < suc k → 0 < j → j ≤ p → placed d o (suc p) p + placed d o 0 j ≤ placed d o (suc p) j + placed d o 0 p
      go p zero h l m = absurd (omega arith)
      go zero (suc j) h l m = absurd (omega arith)
      go (suc a) (suc b) h l m =
          let x = ended.head in
          let r = ended.tail in
          let u = get_or (x ∷ r) b 0 in
          let f : occurs u (0 ∷ drop (suc a) (x ∷ r)) ≡ 0 =
          omega (arith, occurs-behind (x ∷ r) b a (omega arith) (omega (arith, ended.full)), ended.placed.once u) in
          let g = ended.placed.range u (get_d_mem (x ∷ r) b (omega (arith, ended.full))) in
          rw ended.is (chain-at d n x r a ended.kept (omega (arith, ended.full)) u g (eq-eqb _ _ f))
