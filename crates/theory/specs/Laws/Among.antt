-- Rows that are some of an ascending list of far sides, and their sums.
-- Assumes nothing.
use Rattle.std.specs.Prelude.{false, ◌⊎◌, refl, ◌≡◌, suc, ℕ, ◌<◌, ◌≤◌, eqb}
use mathlib.Core.List.Memᴰ
use mathlib.Core.List.{List, Memᴰ, [], ◌∷◌}
use Rattle.std.proofs.Common.{inl, inr, ap, subst, sym, ◌∙◌, arith, eqb-true}
use Rattle.std.proofs.lemmas.Bool.{eqb-false}
use borrow.Table.Steps.{cases}
use Rattle.ground.specs.Ascending.{Between}
use Rattle.ground.specs.Laws.Ascending.{between_le, between_mem}
use Rattle.ground.specs.Filters.{Each}
use Rattle.ground.specs.Laws.Maps.{mem-map}
use Rattle.ground.specs.Sums.{sum}
use Rattle.theory.specs.LinkTables.{Row, far, fars}

-- T's far sides are some of l, in order
pub data Among : List Row → List ℕ → Type 0 where
  done : Among [] []
  skip : {S : ℕ} {T : List Row} {l : List ℕ} → Among T l → Among T (S ∷ l)
  take : {r : Row} {S : ℕ} {T : List Row} {l : List ℕ} → r.0 ≡ S → Among T l → Among (r ∷ T) (S ∷ l)

pub among : (m k : ℕ) (l : List ℕ) (T : List Row) → Between m l k → Between m (fars T) k → Each T (λ r. Memᴰ r.0 l) → Among T l
among m k [] [] a b h = done
among m k [] (r ∷ T) a b h = absurd (Memᴰ.not-nil (h r (Memᴰ.head refl)))
among m k (S ∷ l) [] a b h = skip (among (suc S) k l [] a.1 (omega (arith, between_le (suc S) k l a.1)) (λ r t. absurd (Memᴰ.not-nil t)))
among m k (S ∷ l) (r ∷ T) a b h =
    cases (eqb r.0 S)
    (λ e. take (eqb-true r.0 S e) (among (suc S) k l T a.1 (subst (λ x. Between (suc x) (fars T) k) (eqb-true r.0 S e) b.1)
    (λ q t. later q t (eqb-true r.0 S e) (Memᴰ.cases_cons (h q (Memᴰ.tail t))))))
    (λ e. skip (among (suc S) k l (r ∷ T) a.1 (first e (Memᴰ.cases_cons (h r (Memᴰ.head refl))), b.1)
    (λ q t. rest e q (Memᴰ.cases_cons t) (Memᴰ.cases_cons (h q t)))))
  where
    later : (q : Row) → Memᴰ q T → r.0 ≡ S → (q.0 ≡ S) ⊎ Memᴰ q.0 l → Memᴰ q.0 l
    later q t e (inl f) = absurd (omega (arith, between_mem (suc r.0) k (fars T) b.1 q.0 (mem-map far t)))
    later q t e (inr s) = s

    first : eqb r.0 S ≡ false → (r.0 ≡ S) ⊎ Memᴰ r.0 l → suc S ≤ r.0
    first e (inl f) = absurd (eqb-false r.0 S e f)
    first e (inr s) = (between_mem (suc S) k l a.1 r.0 s).0

    rest : eqb r.0 S ≡ false → (q : Row) → (q ≡ r) ⊎ Memᴰ q T → (q.0 ≡ S) ⊎ Memᴰ q.0 l → Memᴰ q.0 l
    rest e q s (inr t) = t
    rest e q (inl g) (inl f) = absurd (eqb-false r.0 S e (sym (ap far g) ∙ f))
    rest e q (inr s) (inl f) =
        absurd (omega (arith, between_mem (suc r.0) k (fars T) b.1 q.0 (mem-map far s), first e (Memᴰ.cases_cons (h r (Memᴰ.head refl)))))

-- where f is at most g on T, so are the sums; where the sums are equal, f is g, and what is not in T has g 0
module _ (f : Row → ℕ) (g : ℕ → ℕ) where
  pub among_sum : {T : List Row} {l : List ℕ} → Among T l → Each T (λ r. f r ≤ g r.0) → sum T f ≤ sum l g
  among_sum done h = omega arith
  among_sum (skip m) h = omega (arith, among_sum m h)
  among_sum (take {r} e m) h = omega (arith, ap g e, h r (Memᴰ.head refl), among_sum m (λ q t. h q (Memᴰ.tail t)))

  pub among_each : {T : List Row} {l : List ℕ} → Among T l → Each T (λ r. f r ≤ g r.0) → sum l g ≤ sum T f → Each T (λ r. f r ≡ g r.0)
  among_each done h s r t = absurd (Memᴰ.not-nil t)
  among_each (skip m) h s r t = among_each m h (omega arith) r t
  among_each (take {r = q} {S} {T} {l} e m) h s r t =
      let lo = among_sum m (λ q t. h q (Memᴰ.tail t)) in
      let hd = h q (Memᴰ.head refl) in
      let eq = ap g e in
      go hd lo eq (Memᴰ.cases_cons t) (λ u. among_each m (λ q t. h q (Memᴰ.tail t)) (omega arith) r u)
    where
      go : f q ≤ g q.0 → sum T f ≤ sum l g → g q.0 ≡ g S → (r ≡ q) ⊎ Memᴰ r T → (Memᴰ r T → f r ≡ g r.0) → f r ≡ g r.0
      go hd lo eq (inl u) ih = omega (arith, ap f u, ap (λ (x : Row). g x.0) u)
      go hd lo eq (inr u) ih = ih u

  pub among_all : {T : List Row} {l : List ℕ} → Among T l → Each T (λ r. f r ≤ g r.0) → sum l g ≤ sum T f → (S : ℕ) → Memᴰ S l → 0 < g S
      → Memᴰ S (fars T)
  among_all done h s R t p = absurd (Memᴰ.not-nil t)
  among_all (skip {S} {T} {l} m) h s R t p =
      go (among_sum m h) (Memᴰ.cases_cons t) (λ u. among_all m h (omega arith) R u p)
    where
      go : sum T f ≤ sum l g → (R ≡ S) ⊎ Memᴰ R l → (Memᴰ R l → Memᴰ R (fars T)) → Memᴰ R (fars T)
      go lo (inl u) ih = absurd (omega (arith, ap g u))
      go lo (inr u) ih = ih u
  among_all (take {r = q} {S} {T} {l} e m) h s R t p =
      go (Memᴰ.cases_cons t) (λ u. among_all m (λ q t. h q (Memᴰ.tail t)) (omega (arith, ap g e, h q (Memᴰ.head refl))) R u p)
    where
      go : (R ≡ S) ⊎ Memᴰ R l → (Memᴰ R l → Memᴰ R (fars T)) → Memᴰ R (q.0 ∷ fars T)
      go (inl u) ih = Memᴰ.head (u ∙ sym e)
      go (inr u) ih = Memᴰ.tail (ih u)
