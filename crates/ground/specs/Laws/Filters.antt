-- Laws of filters, and of what holds of each element of a list. Assumes nothing.
use Rattle.std.specs.Prelude.{Bool, false, true, ◌&&◌, ◌⊎◌, refl, ◌≡◌, suc, ◌+◌, ◌≤◌, length}
use Rattle.std.proofs.lemmas.Bool.{false≢true}
use mathlib.Core.List.Memᴰ
use mathlib.Core.List.{List, Memᴰ, [], ◌++◌, ◌∷◌}
use Rattle.std.proofs.Common.{inl, inr, ap, subst, sym, ◌∙◌, arith}
use borrow.Table.Steps.{cases}
use Rattle.ground.specs.Filters.{Each, both, filter, keep}

module _ {A : Type 0} where
  pub mem-filter : (p : A → Bool) (x : A) → p x ≡ true → (l : List A) → Memᴰ x l → Memᴰ x (filter p l)
  mem-filter p x e [] m = elim m [ ]
  mem-filter p x e (y ∷ l) (Memᴰ.head f) = rw (ap p (sym f) ∙ e) (Memᴰ.head f)
  mem-filter p x e (y ∷ l) (Memᴰ.tail m) =
      let r = mem-filter p x e l m in cases (p y) (λ t. rw t (Memᴰ.tail r)) (λ t. rw t r)

  pub filter-mem : (p : A → Bool) (l : List A) → Each (filter p l) (λ x. (p x ≡ true) × Memᴰ x l)
  filter-mem p [] x m = absurd (Memᴰ.not-nil m)
  filter-mem p (y ∷ l) x m =
      let ih = filter-mem p l x in
      cases (p y) (λ t. go t (Memᴰ.cases_cons (rw t at m)) ih)
      (λ t. let r = ih (rw t at m) in (r.0, Memᴰ.tail r.1))
    where
      go : p y ≡ true → (x ≡ y) ⊎ Memᴰ x (filter p l) → (Memᴰ x (filter p l) → (p x ≡ true) × Memᴰ x l) → (p x ≡ true) × Memᴰ x (y ∷ l)
      go t (inl e) ih = (ap p e ∙ t, Memᴰ.head e)
      go t (inr m) ih = let r = ih m in (r.0, Memᴰ.tail r.1)

  -- a filter of a wider filter
  pub filter-filter : (p q : A → Bool) (l : List A) → Each l (λ x. p x ≡ true → q x ≡ true) → filter p (filter q l) ≡ filter p l
  filter-filter p q [] h = refl
  filter-filter p q (x ∷ l) h =
      let ih = filter-filter p q l (λ y m. h y (Memᴰ.tail m)) in
      cases (q x) (λ f. rw (f, ih)) (λ f. cases (p x) (λ e. absurd (false≢true (sym f ∙ h x (Memᴰ.head refl) e))) (λ e. rw (f, e) ih))

  pub filter_none : (p : A → Bool) (l : List A) → Each l (λ x. p x ≡ false) → filter p l ≡ []
  filter_none p [] h = refl
  filter_none p (x ∷ l) h = rw (h x (Memᴰ.head refl), filter_none p l (λ y m. h y (Memᴰ.tail m)))

  pub filter-append : (p : A → Bool) (l m : List A) → filter p (l ++ m) ≡ filter p l ++ filter p m
  filter-append p [] m = refl
  filter-append p (x ∷ l) m = let ih = filter-append p l m in cases (p x) (λ e. rw (e, ih)) (λ e. rw e ih)

  pub filter_two : (p q : A → Bool) (l : List A) → length (filter p l) + length (filter q l) ≤ length l + length (filter (both p q) l)
  filter_two p q [] = omega arith
  filter_two p q (x ∷ l) = go (p x) (q x) (filter_two p q l)
    where
      go : (a b : Bool) → length (filter p l) + length (filter q l) ≤ length l + length (filter (both p q) l)
          → length (keep a x (filter p l)) + length (keep b x (filter q l)) ≤ suc (length l) + length (keep (a && b) x (filter (both p q) l))
      go true true ih = omega arith
      go true false ih = omega arith
      go false true ih = omega arith
      go false false ih = omega arith

  pub each_nil : (P : A → Type 0) → Each [] P
  each_nil P y m = absurd (Memᴰ.not-nil m)

  pub each_cons : (P : A → Type 0) (x : A) (l : List A) → P x → Each l P → Each (x ∷ l) P
  each_cons P x l p h y m = go (Memᴰ.cases_cons m)
    where
      go : (y ≡ x) ⊎ Memᴰ y l → P y
      go (inl e) = rw e p
      go (inr t) = h y t

  pub each_append : (P : A → Type 0) (l m : List A) → Each l P → Each m P → Each (l ++ m) P
  each_append P [] m p q = q
  each_append P (x ∷ l) m p q = each_cons P x (l ++ m) (p x (Memᴰ.head refl)) (each_append P l m (λ y t. p y (Memᴰ.tail t)) q)

  -- one more at the end
  pub each_end : (P : A → Type 0) (l : List A) (x : A) → Each l P → P x → Each (l ++ (x ∷ [])) P
  each_end P l x h p = each_append P l (x ∷ []) h (each_cons P x [] p (each_nil P))

-- some element passes the test, or none does
pub any : {A : Type 0} (p : A → Bool) (l : List A) → ((x : A) × Memᴰ x l × (p x ≡ true)) ⊎ Each l (λ x. p x ≡ false)
any p [] = inr (λ x m. absurd (Memᴰ.not-nil m))
any {A} p (x ∷ l) = cases (p x) (λ e. inl (x, Memᴰ.head refl, e)) (λ e. go e (any p l))
  where
    go : p x ≡ false → ((y : A) × Memᴰ y l × (p y ≡ true)) ⊎ Each l (λ y. p y ≡ false)
        → ((y : A) × Memᴰ y (x ∷ l) × (p y ≡ true)) ⊎ Each (x ∷ l) (λ y. p y ≡ false)
    go e (inl r) = inl (r.0, Memᴰ.tail r.1, r.2)
    go e (inr h) = inr (λ y m. each y (Memᴰ.cases_cons m))
      where
        each : (y : A) → (y ≡ x) ⊎ Memᴰ y l → p y ≡ false
        each y (inl f) = ap p f ∙ e
        each y (inr m) = h y m

-- what a filter leaves out passes no test
pub none_in : {A : Type 0} (p : A → Bool) (l : List A) → filter p l ≡ [] → Each l (λ x. p x ≡ false)
none_in p l e x m = cases (p x) (λ t. absurd (Memᴰ.not-nil (subst (Memᴰ x) e (mem-filter p x t l m)))) (λ t. t)
