-- Laws of sums over a list. Assumes nothing.
use Rattle.std.specs.Prelude.{Bool, refl, ◌≡◌, ℕ, ◌+◌, ◌≤◌}
use mathlib.Core.List.{List, Memᴰ, [], map, ◌++◌, ◌∷◌}
use Rattle.std.proofs.Common.{ap, arith}
use borrow.Table.Steps.{cases}
use Rattle.ground.specs.Filters.{Each, filter}
use Rattle.ground.specs.Sums.{sum, when}

module _ {A : Type 0} where
  pub sum_le : (f g : A → ℕ) (l : List A) → Each l (λ x. f x ≤ g x) → sum l f ≤ sum l g
  sum_le f g [] h = omega arith
  sum_le f g (x ∷ l) h = omega (arith, h x (Memᴰ.head refl), sum_le f g l (λ y m. h y (Memᴰ.tail m)))

  pub sum_same : (f g : A → ℕ) (l : List A) → Each l (λ x. f x ≡ g x) → sum l f ≡ sum l g
  sum_same f g [] h = refl
  sum_same f g (x ∷ l) h = omega (arith, h x (Memᴰ.head refl), sum_same f g l (λ y m. h y (Memᴰ.tail m)))

  -- and where one element has e to spare
  pub sum_spare : (f g : A → ℕ) (e : ℕ) (x : A) (l : List A) → Memᴰ x l → Each l (λ y. f y ≤ g y) → f x + e ≤ g x → sum l f + e ≤ sum l g
  sum_spare f g e x [] m h r = elim m [ ]
  sum_spare f g e x (y ∷ l) (Memᴰ.head s) h r =
      omega (arith, ap f s, ap g s, sum_le f g l (λ z m. h z (Memᴰ.tail m)))
  sum_spare f g e x (y ∷ l) (Memᴰ.tail m) h r =
      omega (arith, h y (Memᴰ.head refl), sum_spare f g e x l m (λ z m. h z (Memᴰ.tail m)) r)

  pub sum-add : (f g : A → ℕ) (l : List A) → sum l (λ x. f x + g x) ≡ sum l f + sum l g
  sum-add f g [] = omega arith
  sum-add f g (x ∷ l) = omega (arith, sum-add f g l)

  pub sum-append : (f : A → ℕ) (l m : List A) → sum (l ++ m) f ≡ sum l f + sum m f
  sum-append f [] m = omega arith
  sum-append f (x ∷ l) m = omega (arith, sum-append f l m)

  -- one of them is at most their sum
  pub sum_one : (f : A → ℕ) (l : List A) → Each l (λ x. f x ≤ sum l f)
  sum_one f [] x m = elim m [ ]
  sum_one f (y ∷ l) x (Memᴰ.head e) = omega (arith, ap f e)
  sum_one f (y ∷ l) x (Memᴰ.tail m) = omega (arith, sum_one f l x m)

  pub sum_zero : (l : List A) → sum l (λ x. 0) ≡ 0
  sum_zero [] = refl
  sum_zero (x ∷ l) = omega (arith, sum_zero l)

  pub sum-filter : (p : A → Bool) (f : A → ℕ) (l : List A) → sum (filter p l) f ≡ sum l (λ x. when (p x) (f x))
  sum-filter p f [] = refl
  sum-filter p f (x ∷ l) = let ih = sum-filter p f l in cases (p x) (λ e. rw e (omega arith)) (λ e. rw e (omega arith))

pub sum-map : {A B : Type 0} (f : A → B) (g : B → ℕ) (l : List A) → sum (map f l) g ≡ sum l (λ x. g (f x))
sum-map f g [] = refl
sum-map f g (x ∷ l) = omega (arith, sum-map f g l)
