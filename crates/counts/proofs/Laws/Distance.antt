-- The Robinson-Foulds count is a distance: the same both ways, 0 only between equals, and never longer over a third. Assumes nothing.
use Rattle.std.specs.Prelude.{Bool, not, ◌&&◌, ◌↔◌, refl, ◌≡◌, ℕ, ◌+◌, ◌≤◌, length}
use mathlib.Core.List.{List, Memᴰ, [], ◌∷◌}
use Rattle.std.proofs.Common.{ap, arith}
use Rattle.std.proofs.lemmas.Bool.{not-false}
use borrow.Table.Steps.{cases}
use Rattle.ground.specs.Ascending.{Between}
use Rattle.ground.specs.Laws.Ascending.{between_ext, between_filter}
use Rattle.ground.specs.Filters.{Each, filter}
use Rattle.ground.specs.Laws.Filters.{filter-mem, filter_none, mem-filter, none_in}
use Rattle.ground.specs.Members.{is_in}
use Rattle.ground.specs.Laws.Members.{is_in-mem, mem-is_in}
use Rattle.ground.specs.Tests.{one_of}
use Rattle.ground.specs.Laws.Tests.{and_l, and_r}
use Rattle.theory.specs.Comparison.{alone, differing}
use Rattle.theory.specs.Laws.Comparison.{common_same}
use Rattle.counts.proofs.Laws.Formula.{length_zero}

filter_split : (p q : ℕ → Bool) (l : List ℕ) → length (filter q l) ≤ length (filter (λ x. not (p x)) l) + length (filter q (filter p l))
filter_split p q [] = omega arith
filter_split p q (x ∷ l) =
    let ih = filter_split p q l in
    cases (p x)
    (λ e. rw e (cases (q x) (λ f. rw f (omega arith)) (λ f. rw f ih)))
    (λ e. rw e (cases (q x) (λ f. rw f (omega arith)) (λ f. rw f (omega arith))))

filter_both_le : (p q : ℕ → Bool) (l : List ℕ) → length (filter q (filter p l)) ≤ length (filter q l)
filter_both_le p q [] = omega arith
filter_both_le p q (x ∷ l) =
    let ih = filter_both_le p q l in
    cases (p x)
    (λ e. rw e (cases (q x) (λ f. rw f (omega arith)) (λ f. rw f ih)))
    (λ e. rw e (cases (q x) (λ f. rw f (omega arith)) (λ f. rw f ih)))

-- none is in the first alone: each of the first is in the second
alone_none : (l r : List ℕ) → length (alone l r) ≡ 0 → Each l (λ x. Memᴰ x r)
alone_none l r e x m =
    is_in-mem x r (not-false (is_in x r) (none_in (λ x. not (is_in x r)) l (length_zero (alone l r) e) x m))

alone_self : (l : List ℕ) → alone l l ≡ []
alone_self l = filter_none (λ x. not (is_in x l)) l (λ x m. rw (mem-is_in x l m))

pub differing_sym : (l r : List ℕ) → differing l r ≡ differing r l
differing_sym l r = omega arith

module _ (m k : ℕ) where
  pub differing_zero : (l r : List ℕ) → Between m l k → Between m r k → (differing l r ≡ 0) ↔ (l ≡ r)
  differing_zero l r a b = (
    λ e. between_ext m k l r a b (alone_none l r (omega arith)) (alone_none r l (omega arith)),
    λ e. rw e (omega (arith, ap length (alone_self r))),
  )

  -- what is in the first alone, against the third, is alone against the second or in the second alone
  alone-over : (l r s : List ℕ) → Between m l k → Between m r k → length (alone l s) ≤ length (alone l r) + length (alone r s)
  alone-over l r s a b =
      omega (
        arith,
        filter_split (λ x. is_in x r) (λ x. not (is_in x s)) l,
        ap (λ (t : List ℕ). length (filter (λ x. not (is_in x s)) t)) (common_same m k l r a b),
        filter_both_le (λ x. is_in x l) (λ x. not (is_in x s)) r,
      )

  pub differing-over : (l r s : List ℕ) → Between m l k → Between m r k → Between m s k → differing l s ≤ differing l r + differing r s
  differing-over l r s a b c = omega (arith, alone-over l r s a b, alone-over s r l c b)

  -- ## The count over any ascending list that has all of both: how many are in exactly one

  alone_in : (t l r : List ℕ) → Between m t k → Between m l k → Each l (λ x. Memᴰ x t) → alone l r ≡ filter (λ x. is_in x l && not (is_in x r)) t
  alone_in t l r c a h =
      between_ext m k (alone l r) (filter (λ x. is_in x l && not (is_in x r)) t)
      (between_filter (λ x. not (is_in x r)) m k l a) (between_filter (λ x. is_in x l && not (is_in x r)) m k t c)
      (λ x e. let q = filter-mem (λ x. not (is_in x r)) l x e in
      mem-filter (λ x. is_in x l && not (is_in x r)) x (rw (mem-is_in x l q.1) q.0) t (h x q.1))
      (λ x e. let q = filter-mem (λ x. is_in x l && not (is_in x r)) t x e in
      mem-filter (λ x. not (is_in x r)) x (and_r (is_in x l) (not (is_in x r)) q.0) l (is_in-mem x l (and_l (is_in x l) (not (is_in x r)) q.0)))

  pub differing_exactly : (t l r : List ℕ) → Between m t k → Between m l k → Between m r k → Each l (λ x. Memᴰ x t) → Each r (λ x. Memᴰ x t)
      → differing l r ≡ length (filter (λ x. one_of (is_in x l) (is_in x r)) t)
  differing_exactly t l r c a b g h =
      omega (arith, one_of_filter (λ x. is_in x l) (λ x. is_in x r) t, ap length (alone_in t l r c a g), ap length (alone_in t r l c b h))
    where
      one_of_filter : (p q : ℕ → Bool) (t : List ℕ) → length (filter (λ x. one_of (p x) (q x)) t)
          ≡ length (filter (λ x. p x && not (q x)) t) + length (filter (λ x. q x && not (p x)) t)
      one_of_filter p q [] = refl
      one_of_filter p q (x ∷ t) =
          let ih = one_of_filter p q t in
          cases (p x)
          (λ e. rw e (cases (q x) (λ f. rw f ih) (λ f. rw f (omega arith))))
          (λ e. rw e (cases (q x) (λ f. rw f (omega arith)) (λ f. rw f ih)))
