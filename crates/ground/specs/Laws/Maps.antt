-- A function put over each element of a list. Assumes nothing.
use Rattle.std.specs.Prelude.{Bool, ◌⊎◌, refl, ◌≡◌}
use mathlib.Core.List.Memᴰ
use mathlib.Core.List.{List, Memᴰ, [], map, ◌++◌, ◌∷◌}
use Rattle.std.proofs.Common.{inl, inr, ap, ap₂}
use borrow.Table.Steps.{cases}
use Rattle.ground.specs.Filters.{Each, filter}

module _ {A B : Type 0} where
  pub filter_map : (p : B → Bool) (f : A → B) (l : List A) → filter p (map f l) ≡ map f (filter (λ x. p (f x)) l)
  filter_map p f [] = refl
  filter_map p f (x ∷ l) = let ih = filter_map p f l in cases (p (f x)) (λ e. rw (e, ih)) (λ e. rw e ih)

  pub mem-map : (f : A → B) {x : A} {l : List A} → Memᴰ x l → Memᴰ (f x) (map f l)
  mem-map f (Memᴰ.head e) = Memᴰ.head (ap f e)
  mem-map f (Memᴰ.tail m) = Memᴰ.tail (mem-map f m)

  pub map-mem : (f : A → B) (l : List A) → Each (map f l) (λ y. (x : A) × (y ≡ f x) × Memᴰ x l)
  map-mem f [] y m = absurd (Memᴰ.not-nil m)
  map-mem f (a ∷ l) y m = go (Memᴰ.cases_cons m) (map-mem f l y)
    where
      go : (y ≡ f a) ⊎ Memᴰ y (map f l) → (Memᴰ y (map f l) → (x : A) × (y ≡ f x) × Memᴰ x l) → (x : A) × (y ≡ f x) × Memᴰ x (a ∷ l)
      go (inl e) ih = (a, e, Memᴰ.head refl)
      go (inr t) ih = let r = ih t in (r.0, r.1, Memᴰ.tail r.2)

  pub map_same : (f g : A → B) (l : List A) → Each l (λ x. f x ≡ g x) → map f l ≡ map g l
  map_same f g [] h = refl
  map_same f g (x ∷ l) h = ap₂ ◌∷◌ (h x (Memᴰ.head refl)) (map_same f g l (λ y m. h y (Memᴰ.tail m)))

  pub map-append : (f : A → B) (l r : List A) → map f (l ++ r) ≡ map f l ++ map f r
  map-append f [] r = refl
  map-append f (x ∷ l) r = ap (λ t. f x ∷ t) (map-append f l r)
