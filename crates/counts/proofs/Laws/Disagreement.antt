-- The disagreement, the count over the inner far sides of both lists: never above 1, and 1 exactly when no inner far side is common and
-- at least one exists. Nothing is divided: it is 1 where its two numbers are the same. Assumes nothing.
use Rattle.std.proofs.lemmas.Bool.{false≢true, eqb-false}
use Rattle.std.specs.Prelude.{true, ◌↔◌, ◌⊎◌, refl, ◌≡◌, ℕ, ◌*◌, ◌+◌, ◌<◌, ◌≤◌, eqb, length}
use mathlib.Core.List.Memᴰ
use mathlib.Core.List.{List, Memᴰ, [], ◌∷◌}
use Rattle.std.proofs.Common.{inl, inr, ap, sym, ◌∙◌, arith, eq-eqb, eqb-true, ne_eqb}
use borrow.Table.Steps.{cases}
use Rattle.ground.specs.Ascending.{Between}
use Rattle.ground.specs.Laws.Filters.{filter_none, none_in}
use Rattle.ground.specs.Laws.Members.{is_in-mem, mem-is_in}
use Rattle.ground.specs.Members.{is_in}
use Rattle.theory.specs.Comparison.{common, inners}
use Rattle.counts.specs.Differ.{differ, over_of}
use Rattle.counts.specs.Disagreement.{NoneCommon, OneExists}
use Rattle.counts.proofs.Laws.Formula.{formula, length_zero}

-- ## The divisor

pub over_none : (m : ℕ) → m ≡ 0 → over_of m ≡ 1
over_none m e = rw (eq-eqb m 0 e)

pub over-some : (m : ℕ) → 0 < m → over_of m ≡ m
over-some m h = rw (ne_eqb m 0 (λ e. omega arith))

-- nothing is set over 0
pub over_positive : (m : ℕ) → 0 < over_of m
over_positive m = cases (eqb m 0) (λ e. rw e (omega arith)) (λ e. rw e (omega (arith, eqb-false m 0 e)))

-- ## The disagreement in numbers: m inner far sides in the two lists, c of them in both

module _ (count c m : ℕ) (f : count + 2 * c ≡ m) where
  never_above : count ≤ over_of m
  never_above = omega (arith, f, over_least)
    where
      over_least : m ≤ over_of m
      over_least = cases (eqb m 0) (λ e. rw e (omega (arith, eqb-true m 0 e))) (λ e. rw e (omega arith))

  wholly : (count ≡ over_of m) ↔ ((c ≡ 0) × (0 < m))
  wholly = (λ e. cases (eqb m 0) (λ z. absurd (none e z)) (λ z. some e (eqb-false m 0 z)), λ p. omega (arith, f, p, over-some m p.1))
    where
      none : count ≡ over_of m → eqb m 0 ≡ true → ⊥
      none e z = let i = eqb-true m 0 z in omega (arith, f, e, i, over_none m i)

      some : count ≡ over_of m → (m ≡ 0 → ⊥) → (c ≡ 0) × (0 < m)
      some e z = let h : 0 < m = omega (arith, z) in (omega (arith, f, e, over-some m h), h)

-- ## None is common, and one exists

none_common : (l r : List ℕ) → (length (common l r) ≡ 0) ↔ NoneCommon l r
none_common l r = (
  λ e S m t. false≢true (sym (none_in (λ x. is_in x r) l (length_zero (common l r) e) S m) ∙ mem-is_in S r t),
  λ h. ap length (filter_none (λ x. is_in x r) l (λ S m. cases (is_in S r) (λ e. absurd (h S m (is_in-mem S r e))) (λ e. e))),
)

one_exists : (l r : List ℕ) → (0 < length l + length r) ↔ OneExists l r
one_exists l r = (to l r, λ p. back p.0 p.1)
  where
    to : (l r : List ℕ) → 0 < length l + length r → OneExists l r
    to (x ∷ l) r h = (x, inl (Memᴰ.head refl))
    to [] (y ∷ r) h = (y, inr (Memᴰ.head refl))
    to [] [] h = absurd (omega arith)

    some : (S : ℕ) (l : List ℕ) → Memᴰ S l → 0 < length l
    some S [] m = absurd (Memᴰ.not-nil m)
    some S (x ∷ l) m = omega arith

    back : (S : ℕ) → Memᴰ S l ⊎ Memᴰ S r → 0 < length l + length r
    back S (inl m) = omega (arith, some S l m)
    back S (inr m) = omega (arith, some S r m)

-- ## The disagreement of two lists

module _ (n k : ℕ) (l r : List ℕ) (a : Between 1 l k) (b : Between 1 r k) where
  pub at_most_one : (differ n l r).count ≤ (differ n l r).over
  at_most_one = never_above _ _ _ (formula n k l r a b)

  pub is_one : ((differ n l r).count ≡ (differ n l r).over) ↔ (NoneCommon (inners n l) (inners n r) × OneExists (inners n l) (inners n r))
  is_one =
      let w = wholly _ _ _ (formula n k l r a b) in
      let c = none_common (inners n l) (inners n r) in
      let o = one_exists (inners n l) (inners n r) in
      (λ e. let p = w.0 e in (c.0 p.0, o.0 p.1), λ p. w.1 (c.1 p.0, o.1 p.1))
