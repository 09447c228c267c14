-- What is left of another ring while the order places its images: they are taken out of it one by one. Assumes nothing.
use Rattle.std.specs.Prelude.{true, refl, ◌≡◌, ℕ, ◌+◌, ◌<◌, ◌≤◌, eqb, length}
use mathlib.Core.List.{List, Memᴰ, [], ◌++◌, ◌∷◌}
use Rattle.std.proofs.Common.{inr, ap, ◌∙◌, arith, length-append, eq-eqb, eqb-true}
use Rattle.ground.specs.Counts.{one_if}
use Rattle.ground.specs.Filters.{Each}
use Rattle.ground.specs.Laws.Members.{mem-occurs, mem_split, occurs-mem}
use Rattle.ground.specs.Laws.Sums.{sum-append}
use Rattle.ground.specs.Laws.Totals.{total_least, total-most, total-occurs}
use Rattle.ground.specs.Members.{occurs}
use Rattle.theory.proofs.Laws.TakenOut.{Off, Other, alone, closed-turn, taken}
use Rattle.theory.specs.Laws.Walk.{Placed}
use Rattle.theory.specs.Order.{AnOrder, along, closed, free}
use Rattle.theory.specs.OrderRules.{IsNext}

pub order-size : (n : ℕ) (l : List ℕ) → AnOrder n l → length l ≡ n
order-size n l a =
    omega (
      arith,
      total-occurs n l a.range,
      total_least n (λ i. occurs i l) (λ i h. omega (arith, a.once i h)),
      total-most n (λ i. occurs i l) (λ i h. omega (arith, a.once i h)),
    )

mem-some : (x : ℕ) (l : List ℕ) → Memᴰ x l → 0 < length l
mem-some x [] h = elim h [ ]
mem-some x (y ∷ l) m = omega arith

module _ (g s d : ℕ → ℕ → ℕ) (n f p q r : ℕ) (hf : f < n) (o : Off g s d n f p q r) (m : List ℕ) (all : AnOrder n m) where
  -- what is left of the ring m where x and l are placed: x, and the images that are not yet placed; k is what was lost
  pub record Left (k x : ℕ) (l : List ℕ) : Type 0 where
    pub rest : List ℕ
    pub same : (i : ℕ) → occurs i rest + occurs i (f ∷ l) ≡ occurs i m
    pub size : length rest + length l + 1 ≡ n
    pub most : along s f x l + along d f f rest ≤ closed d m + d f x + k

  pub begins : (last : ℕ) → last < n → Left r last []
  begins last hl = go (mem_split f m (occurs-mem f m (omega (arith, all.once f hf))))
    where
      go : (a : List ℕ) × (b : List ℕ) × (m ≡ a ++ (f ∷ b)) → Left r last []
      go t =
          let turned = ap (closed d) t.2 ∙ closed-turn d f t.0 t.1 in
          record {
            rest = t.1 ++ t.0;
            same = λ i. let e : ℕ → ℕ = λ y. one_if (eqb i y) in
                omega (arith, ap (occurs i) t.2, sum-append e t.0 (f ∷ t.1), sum-append e t.1 t.0);
            size = omega (arith, order-size n m all, ap length t.2, length-append t.0 (f ∷ t.1), length-append t.1 t.0);
            most = omega (arith, turned, o.above hl hf, o.same hl hf);
          }

  -- x stands somewhere in it
  pub record Among (k x : ℕ) (l : List ℕ) (h : Left k x l) : Type 0 where
    pub before : List ℕ
    pub behind : List ℕ
    pub is : h.rest ≡ before ++ (x ∷ behind)
    pub same : (i : ℕ) → occurs i (before ++ behind) + occurs i (f ∷ x ∷ l) ≡ occurs i m
    pub size : length (before ++ behind) + length (x ∷ l) + 1 ≡ n

  pub among : (k x : ℕ) (l : List ℕ) → Placed n f x l → (h : Left k x l) → Among k x l h
  among k x l c h = go (mem_split x h.rest (occurs-mem x h.rest there))
    where
      there : 1 ≤ occurs x h.rest
      there =
          let e : one_if (eqb x x) ≡ 1 = ap one_if (eq-eqb x x refl) in
          omega (arith, c.once x, h.same x, all.once x (c.range x (Memᴰ.head refl)))

      go : (a : List ℕ) × (b : List ℕ) × (h.rest ≡ a ++ (x ∷ b)) → Among k x l h
      go t = record {
        before = t.0;
        behind = t.1;
        is = t.2;
        same = λ i. let e : ℕ → ℕ = λ y. one_if (eqb i y) in
            omega (arith, h.same i, ap (occurs i) t.2, sum-append e t.0 t.1, sum-append e t.0 (x ∷ t.1));
        size = omega (arith, h.size, ap length t.2, length-append t.0 t.1, length-append t.0 (x ∷ t.1));
      }

  -- every image that may come next does stand there
  pub free_there : (k x : ℕ) (l : List ℕ) (h : Left k x l) (a : Among k x l h) (u : ℕ) → u < n → free f (x ∷ l) u ≡ true → Memᴰ u (a.before ++ a.behind)
  free_there k x l h a u hu t =
      occurs-mem u (a.before ++ a.behind) (omega (arith, a.same u, all.once u hu, eqb-true (occurs u (f ∷ x ∷ l)) 0 t))

  module _ (k x w : ℕ) (l : List ℕ) (c : Placed n f x l) (v : IsNext g f x (x ∷ l) n w) (h : Left k x l) where
    hx : x < n
    hx = c.range x (Memᴰ.head refl)

    a : Among k x l h
    a = among k x l c h

    next_there : Memᴰ w (a.before ++ a.behind)
    next_there = free_there k x l h a w v.below v.is_free

    others : Each (a.before ++ a.behind) (Other g s d n f p q r hf o x w hx v.below)
    others u t =
        let here = mem-occurs u (a.before ++ a.behind) t in
        let hu = all.range u (occurs-mem u m (omega (arith, a.same u))) in
        (hu, v.least u hu (eq-eqb (occurs u (f ∷ x ∷ l)) 0 (omega (arith, a.same u, all.once u hu))))

    -- x is taken out, and j is lost
    without : (j : ℕ) → along d f f (a.before ++ a.behind) + s w x + d f x ≤ along d f f (a.before ++ (x ∷ a.behind)) + d f w + j → Left (k + j) w (x ∷ l)
    without j e = record {
      rest = a.before ++ a.behind;
      same = a.same;
      size = a.size;
      most = omega (arith, h.most, ap (along d f f) a.is);
    }

    pub more : Left (k + (p + q)) w (x ∷ l)
    more =
        let some = mem-some w (a.before ++ a.behind) next_there in
        without (p + q) (taken g s d n f p q r hf o x w hx v.below f a.before a.behind (inr (refl, some)) others)

    -- where w alone is left then
    pub last_one : length l + 3 ≡ n → Left (k + r) w (x ∷ l)
    last_one e = without r (alone g s d n f p q r hf o x w hx v.below a.before a.behind next_there (omega (arith, a.size)))

  pub weaker : (k j x : ℕ) (l : List ℕ) → k ≤ j → Left k x l → Left j x l
  weaker k j x l e h = record { rest = h.rest; same = h.same; size = h.size; most = omega (arith, h.most) }
