-- Laws of ranges, and of lists joined one after another. Assumes nothing.
use mathlib.Core.List.Memᴰ
use mathlib.Core.List.{List, Memᴰ}
use Rattle.std.specs.Prelude.{[], ◌++◌, ◌∷◌, ◌⊎◌, refl, ◌≡◌, suc, zero, ℕ, ◌+◌, ◌<◌, ◌≤◌, eqb, length}
use Rattle.std.proofs.Common.{inl, inr, ap, subst, arith, eqb-true}
use Rattle.std.proofs.lemmas.Bool.{eqb-false}
use borrow.Table.Steps.{cases}
use Rattle.ground.specs.Filters.{Each}
use Rattle.ground.specs.Ranges.{from, gather}

pub mem-from : (i m x : ℕ) → i ≤ x → x < i + m → Memᴰ x (from i m)
mem-from i zero x h l = absurd (omega arith)
mem-from i (suc m) x h l =
    cases (eqb x i) (λ e. Memᴰ.head (eqb-true x i e)) (λ e. Memᴰ.tail (mem-from (suc i) m x (omega (arith, eqb-false)) (omega arith)))

pub from-mem : (i m : ℕ) → Each (from i m) (λ x. (i ≤ x) × (x < i + m))
from-mem i zero x t = absurd (Memᴰ.not-nil t)
from-mem i (suc m) x t = go (Memᴰ.cases_cons t) (from-mem (suc i) m x)
  where
    go : (x ≡ i) ⊎ Memᴰ x (from (suc i) m) → (Memᴰ x (from (suc i) m) → (suc i ≤ x) × (x < suc i + m)) → (i ≤ x) × (x < i + suc m)
    go (inl e) ih = omega arith
    go (inr s) ih = omega (arith, ih s)

pub from-length : (i m : ℕ) → length (from i m) ≡ m
from-length i zero = refl
from-length i (suc m) = ap suc (from-length (suc i) m)

pub from_last : (i m : ℕ) → from i (suc m) ≡ from i m ++ ((i + m) ∷ [])
from_last i zero = ap (λ x. x ∷ []) (omega arith)
from_last i (suc m) = let e : i + suc m ≡ suc i + m = omega arith in rw e (ap (λ l. i ∷ l) (from_last (suc i) m))

module _ {A B : Type 0} where
  pub mem-gather : (f : A → List B) {x : A} {y : B} {l : List A} → Memᴰ x l → Memᴰ y (f x) → Memᴰ y (gather l f)
  mem-gather f {x} {y} (Memᴰ.head {x = a} {xs = l} e) m = Memᴰ.append_left (gather l f) (subst (λ a. Memᴰ y (f a)) e m)
  mem-gather f (Memᴰ.tail {x = a} t) m = Memᴰ.append_right (f a) (mem-gather f t m)

  pub gather-mem : (f : A → List B) (l : List A) → Each (gather l f) (λ y. (x : A) × Memᴰ x l × Memᴰ y (f x))
  gather-mem f [] y m = absurd (Memᴰ.not-nil m)
  gather-mem f (a ∷ l) y m = go (Memᴰ.append_cases (f a) m) (gather-mem f l y)
    where
      go : Memᴰ y (f a) ⊎ Memᴰ y (gather l f) → (Memᴰ y (gather l f) → (x : A) × Memᴰ x l × Memᴰ y (f x)) → (x : A)
          × Memᴰ x (a ∷ l) × Memᴰ y (f x)
      go (inl t) ih = (a, Memᴰ.head refl, t)
      go (inr t) ih = let r = ih t in (r.0, Memᴰ.tail r.1, r.2)
