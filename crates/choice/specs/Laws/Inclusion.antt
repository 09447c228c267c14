-- One list includes another exactly when all of the other are common to both, so a count of the common ones decides. Assumes nothing.
use Rattle.std.specs.Prelude.{true, refl, ◌≡◌, ℕ, eqb, length}
use mathlib.Core.List.{List, Memᴰ, [], ◌∷◌}
use Rattle.std.proofs.Common.{ap, sym, ◌∙◌, arith, ne_eqb}
use Rattle.std.proofs.Math.Dec.{eqb-suc-suc}
use borrow.Table.Steps.{cases}
use Rattle.ground.specs.Ascending.{Between}
use Rattle.ground.specs.Filters.{Each}
use Rattle.ground.specs.Laws.Filters.{each_cons, each_nil}
use Rattle.ground.specs.Members.{is_in}
use Rattle.ground.specs.Laws.Members.{is_in-mem, mem-is_in}
use Rattle.ground.specs.Laws.Tests.{and_l, and_r}
use Rattle.theory.specs.Comparison.{common}
use Rattle.theory.specs.Laws.Comparison.{common_same}
use Rattle.counts.proofs.Laws.Formula.{filter_le}
use Rattle.choice.specs.Inclusion.{includes}

-- ## What it says

pub includes_each : (l r : List ℕ) → includes l r ≡ true → Each r (λ S. Memᴰ S l)
includes_each l [] e = each_nil (λ S. Memᴰ S l)
includes_each l (x ∷ r) e =
    each_cons (λ S. Memᴰ S l) x r (is_in-mem x l (and_l (is_in x l) (includes l r) e)) (includes_each l r (and_r (is_in x l) (includes l r) e))

pub each_includes : (l r : List ℕ) → Each r (λ S. Memᴰ S l) → includes l r ≡ true
each_includes l [] h = refl
each_includes l (x ∷ r) h =
    rw (mem-is_in x l (h x (Memᴰ.head refl))) (each_includes l r (λ S m. h S (Memᴰ.tail m)))

-- ## How a count decides it

includes-count : (l r : List ℕ) → includes l r ≡ eqb (length (common r l)) (length r)
includes-count l [] = refl
includes-count l (x ∷ r) =
    let ih = includes-count l r in
    cases (is_in x l)
    (λ e. rw e (ih ∙ sym (eqb-suc-suc (length (common r l)) (length r))))
    (λ e. rw e (sym (ne_eqb (length (common r l)) (length (x ∷ r)) (λ q. omega (arith, q, filter_le (λ S. is_in S l) r)))))

module _ (k : ℕ) (l r : List ℕ) (a : Between 1 l k) (b : Between 1 r k) where
  -- all of the second are common
  pub first-includes : includes l r ≡ eqb (length (common l r)) (length r)
  first-includes = includes-count l r ∙ ap (λ (x : List ℕ). eqb (length x) (length r)) (common_same 1 k r l b a)

  -- all of the first are common
  pub second-includes : includes r l ≡ eqb (length (common l r)) (length l)
  second-includes = includes-count r l
