-- Law O2: on the order around the tree every division of index above 0 is one run.
-- Assumes nothing.
use Rattle.std.specs.Prelude.{Bool, false, not, true, List, [], ◌∷◌, refl, ◌≡◌, ℕ, ◌+◌, ◌-◌, ◌<◌, ◌≤◌, eqb, length}
use Rattle.std.proofs.lemmas.Bool.{false≢true}
use Rattle.std.proofs.Common.{true≢false, ap, ap₂, sym, ◌∙◌, arith, eq-eqb, eqb-true, ne_eqb}
use mathlib.Core.List.Memᴰ
use borrow.Table.Steps.{cases}
use Rattle.ground.specs.Bits.{bit}
use Rattle.ground.specs.Counts.{one_if}
use Rattle.ground.specs.Members.{occurs}
use Rattle.ground.specs.Tests.{one_of}
use Rattle.ground.specs.Laws.Tests.{one_of_from, one_of_self, one_of_sym}
use Rattle.theory.specs.FarSides.{FarSide, holds}
use Rattle.theory.specs.Index.{AtLeast}
use Rattle.theory.proofs.Laws.Divisions.{stay_far, stay_near}
use Rattle.theory.specs.Laws.FarSides.{far_image}
use Rattle.theory.specs.Laws.Nested.{bit-holds, bit_holds_not, holds_false, holds_true}
use Rattle.theory.specs.Laws.Walk.{End, Placed, grow_end, placed_full, start}
use Rattle.theory.specs.LinkTables.{apart}
use Rattle.theory.specs.Order.{along, closed, free, grow, order}
use Rattle.theory.specs.OrderRules.{IsNext}
use Rattle.theory.specs.Tables.{WellFormed}

-- 1 for neighbours that S parts
abbrev pub turn : ℕ → ℕ → ℕ → ℕ
turn S i j = one_if (apart S i j)

pub turn-away : (S f i j : ℕ) → turn S i j ≡ one_if (one_of (apart S f i) (apart S f j))
turn-away S f i j = ap one_if (one_of_from (holds S f) (holds S i) (holds S j))

pub turn-back : (S f i : ℕ) → turn S i f ≡ one_if (apart S f i)
turn-back S f i = ap one_if (one_of_sym (holds S i) (holds S f))

pub away_self : (S f : ℕ) → apart S f f ≡ false
away_self S f = one_of_self (holds S f)

-- ## O2

module _ (L : ℕ) (d : ℕ → ℕ → ℕ) (n : ℕ) (c : WellFormed L d n) (f : ℕ) (hf : f < n) (S : ℕ) (side : FarSide n S) (p : AtLeast d n (bit S) 1) where
  -- on the side without f
  abbrev away : ℕ → Bool
  away i = apart S f i

  stay : (x w u : ℕ) → x < n → w < n → u < n → away x ≡ true → away w ≡ true → away u ≡ false → d x u + d f w ≤ d x w + d f u → ⊥
  stay x w u hx hw hu ax aw au l =
      cases (holds S f)
      (λ e. stay_near L d n (bit S) c p {f = f} {x = x} {w = w} {u = u} (hf, holds_true S f e)
      (hx, holds_false S x (out (holds S x) (rw e at ax))) (hw, holds_false S w (out (holds S w) (rw e at aw)))
      (hu, holds_true S u (into (holds S u) (rw e at au))) l)
      (λ e. stay_far L d n (bit S) c p {f = f} {x = x} {w = w} {u = u} (hf, holds_false S f e)
      (hx, holds_true S x (rw e at ax)) (hw, holds_true S w (rw e at aw)) (hu, holds_false S u (rw e at au)) l)
    where
      out : (b : Bool) → not b ≡ true → b ≡ false
      out true e = absurd (false≢true e)
      out false e = refl

      into : (b : Bool) → not b ≡ false → b ≡ true
      into true e = refl
      into false e = absurd (true≢false e)

  -- none of them is placed; none of them is left
  abbrev NoneYet : ℕ → List ℕ → Type 0
  NoneYet x l = (u : ℕ) → away u ≡ true → occurs u (f ∷ x ∷ l) ≡ 0

  abbrev NoneLeft : ℕ → List ℕ → Type 0
  NoneLeft x l = (u : ℕ) → u < n → free f (x ∷ l) u ≡ true → away u ≡ false

  -- before the run, in it, behind it
  data Stage (x : ℕ) (l : List ℕ) : Type 0 where
    before : away x ≡ false → along (turn S) f x l ≡ 0 → NoneYet x l → Stage x l
    within : away x ≡ true → along (turn S) f x l ≡ 1 → Stage x l
    behind : away x ≡ false → along (turn S) f x l ≡ 2 → NoneLeft x l → Stage x l

  free_before : (u w x : ℕ) (l : List ℕ) → free f (w ∷ x ∷ l) u ≡ true → free f (x ∷ l) u ≡ true
  free_before u w x l e = eq-eqb (occurs u (f ∷ x ∷ l)) 0 (omega (arith, eqb-true (occurs u (f ∷ w ∷ x ∷ l)) 0 e))

  away-other : (u w : ℕ) → away u ≡ true → away w ≡ false → eqb u w ≡ false
  away-other u w a b = ne_eqb u w (λ e. true≢false (sym a ∙ ap away e ∙ b))

  step : (x w : ℕ) (l : List ℕ) → Placed n f x l → IsNext d f x (x ∷ l) n w → Stage x l → Stage w (x ∷ l)
  step x w l q r (before a t h) =
      cases (away w)
      (λ e. within e (omega (arith, turn-away S f w x, ap one_if (ap₂ one_of e a))))
      (λ e. before e (omega (arith, turn-away S f w x, ap one_if (ap₂ one_of e a))) (λ u au. rw (away-other u w au e) (omega (arith, h u au))))
  step x w l q r (within a t) =
      cases (away w)
      (λ e. within e (omega (arith, turn-away S f w x, ap one_if (ap₂ one_of e a))))
      (λ e. behind e (omega (arith, turn-away S f w x, ap one_if (ap₂ one_of e a)))
      (λ u hu fu. cases (away u)
      (λ au. absurd (stay x u w (q.range x (Memᴰ.head refl)) hu r.below a au e (r.least u hu (free_before u w x l fu)))) (λ au. au)))
  step x w l q r (behind a t h) =
      let e = h w r.below r.is_free in
      behind e (omega (arith, turn-away S f w x, ap one_if (ap₂ one_of e a))) (λ u hu fu. h u hu (free_before u w x l fu))

  first_stage : (last : ℕ) → last < n → Stage last []
  first_stage last h =
      cases (away last)
      (λ e. within e (omega (arith, turn-back S f last, ap one_if e)))
      (λ e. before e (omega (arith, turn-back S f last, ap one_if e)) (λ u au. rw (away-other u f au (away_self S f), away-other u last au e) refl))

  -- some image is on that side
  some-away : (u : ℕ) × (u < n) × (away u ≡ true)
  some-away =
      cases (holds S f)
      (λ e. (0, omega arith, rw (e, bit_holds_not S 0 side.near)))
      (λ e. let b = far_image n S side in (b.0, b.1, rw (e, bit-holds S b.0 b.2)))

  at_end : (x : ℕ) (l : List ℕ) → Placed n f x l → length l + 2 ≡ n → Stage x l → along (turn S) f f (x ∷ l) ≡ 2
  at_end x l q s (before a t h) =
      let u = some-away in absurd (omega (arith, h u.0 u.2, placed_full d n f hf x l q s u.0 u.1))
  at_end x l q s (within a t) = omega (arith, ap one_if a)
  at_end x l q s (behind a t h) = omega (arith, ap one_if a)

  -- around the ring S parts exactly two neighbours: each of its groups is one run
  pub one-run : (last : ℕ) → last < n → (f ≡ last → ⊥) → closed (turn S) (order d n f last) ≡ 2
  one-run last hl ne = go (grow_end d n f hf Stage step (n - 2) last [] (omega arith) (start d n f hf last hl ne) (first_stage last hl))
    where
      go : End d n f hf Stage (grow d n f (n - 2) last []) → closed (turn S) (order d n f last) ≡ 2
      go e = rw e.is (at_end e.head e.tail e.placed e.full e.kept)
