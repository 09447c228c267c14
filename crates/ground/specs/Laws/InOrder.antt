-- How a call's checks are found to be in order. Assumes nothing.
use Rattle.std.specs.Prelude.{Bool, false, true, ◌⊎◌, refl, ◌≡◌, suc, zero, ℕ, ◌<◌, ltb, Ok, Err}
use mathlib.Core.List.{List, Memᴰ, [], ◌++◌, ◌∷◌}
use Rattle.std.proofs.Common.{inl, inr, ap, sym, ◌∙◌, arith}
use Rattle.ground.specs.Filters.{Each}
use Rattle.ground.specs.Laws.Filters.{each_append, each_cons, each_nil}
use Rattle.ground.specs.Laws.Steps.{decided-about, decided-join, first-decided, first_in, passes-decided, passes_or_refuses}
use Rattle.ground.specs.Lowest.{check_all}
use Rattle.ground.specs.Refusals.{◌then◌, if_passed, refusal, refuse_if, room_check, Check}
use Rattle.ground.specs.Steps.{FirstRefused, Passes, Refuses, Step, about, decided, ◌by◌}
use Rattle.ground.specs.declared.Refusal.{Refusal}
use Rattle.ground.specs.InOrder.{Decides, InOrder, Only, Own}

-- ## Checks that refuse by one number

pub refuse_if_only : (b : Bool) (r : Refusal) → Only r.number (refuse_if b r)
refuse_if_only true r q e = let s : r ≡ q = cc in ap (λ (x : Refusal). x.number) (sym s)
refuse_if_only false r q e = absurd (let z : ◌≡◌ {A = ℕ} 0 1 = cc in omega arith)

pub then_only : (k : ℕ) (c d : Check) → Only k c → Only k d → Only k (c then d)
then_only k (Ok tt) d p q r e = q r e
then_only k (Err s) d p q r e = p r e

pub all_only : (k : ℕ) (f : ℕ → Check) (i m : ℕ) → ((j : ℕ) → Only k (f j)) → Only k (check_all f i m)
unfolding check_all
all_only k f i zero h r e = absurd (let z : ◌≡◌ {A = ℕ} 0 1 = cc in omega arith)
all_only k f i (suc m) h r e = then_only k (f i) (check_all f (suc i) m) (h i) (all_only k f (suc i) m h) r e

-- ## One of them, as a step

then_end : (c : Check) → c ≡ if_passed Err c (Ok tt)
then_end (Ok tt) = refl
then_end (Err r) = refl

pub step-order : (k : ℕ) (c : Check) → 0 < k → Only k c → InOrder (k by c ∷ []) c
step-order k c h o = record { same = then_end c; own = each_cons Own (k by c) [] (record { some = h; alone = o }) (each_nil Own) }

pub refuse_order : (b : Bool) (r : Refusal) → 0 < r.number → InOrder (r.number by refuse_if b r ∷ []) (refuse_if b r)
refuse_order b r h = step-order r.number (refuse_if b r) h (refuse_if_only b r)

-- 3
pub room-order : (needed room : ℕ) → InOrder (3 by room_check needed room ∷ []) (room_check needed room)
room-order needed room = refuse_order (ltb room needed) (refusal 3 0 0 0 0) (omega arith)

-- ## Several

decided_then : (l : List Step) (d : Check) → (decided (λ k. Err) l (Ok tt) then d) ≡ decided (λ k. Err) l d
decided_then [] d = refl
decided_then (s ∷ l) d = go s.check (decided (λ k. Err) l (Ok tt)) (decided_then l d)
  where
    go : (c x : Check) {y : Check} → (x then d) ≡ y → (if_passed Err c x then d) ≡ if_passed Err c y
    go (Ok tt) x e = e
    go (Err r) x e = refl

-- one check and then another
pub join-order : {l m : List Step} {c d : Check} → InOrder l c → InOrder m d → InOrder (l ++ m) (c then d)
join-order {l} {m} p q = record {
  same = rw (p.same, q.same) (decided_then l (decided (λ k. Err) m (Ok tt)) ∙ decided-join (λ k. Err) l m (Ok tt));
  own = each_append Own l m p.own q.own;
}

about-own : (m : ℕ) (l : List Step) → Each l Own → Each (about m l) Own
about-own m [] h = each_nil Own
about-own m (s ∷ l) h =
    let o = h s (Memᴰ.head refl) in
    each_cons Own (record { table = m; number = s.number; check = s.check }) (about m l) (record { some = o.some; alone = o.alone })
    (about-own m l (λ x t. h x (Memᴰ.tail t)))

-- ## The answer of a call

-- one check, with the table's number m beside its refusal
pub decides_last : {A : Type 0} (refused : ℕ → Refusal → A) (m : ℕ) {l : List Step} {c : Check} (y : A) → InOrder l c
    → Decides refused (about m l) y (if_passed (refused m) c y)
decides_last refused m {l = l} y p = record { same = rw p.same (decided-about refused m l y); own = about-own m l p.own }

-- the same, and then what follows
pub decides_next : {A : Type 0} (refused : ℕ → Refusal → A) (m : ℕ) {l k : List Step} {c : Check} {x y : A} → InOrder l c → Decides refused k y x
    → Decides refused (about m l ++ k) y (if_passed (refused m) c x)
decides_next refused m {l = l} {k = k} {y = y} p q = record {
  same = rw (p.same, q.same) (decided-about refused m l (decided refused k y) ∙ decided-join refused (about m l) k y);
  own = each_append Own (about m l) k (about-own m l p.own) q.own;
}

-- the number of the first refusal is its step's
pub first-own : {l : List Step} {s : Step} {r : Refusal} → Each l Own → FirstRefused l s r → (0 < s.number) × (r.number ≡ s.number)
first-own {l} {s} {r} h f = let o = h s (first_in f) in (o.some, o.alone r f.refused)

-- what the checks of a call refuse is refused by one of its steps, that of the refusal's number
pub refused_by : {l : List Step} {c : Check} {r : Refusal} → InOrder l c → c ≡ Err r
    → (s : Step) × Memᴰ s l × (s.number ≡ r.number) × (s.check ≡ Err r)
refused_by {l} {c} {r} o e = go (passes_or_refuses l)
  where
    go : Passes l ⊎ Refuses l → (s : Step) × Memᴰ s l × (s.number ≡ r.number) × (s.check ≡ Err r)
    go (inl p) = absurd (let q = sym e ∙ o.same ∙ passes-decided (λ k. Err) l (Ok tt) p in let z : ◌≡◌ {A = ℕ} 0 1 = cc in omega arith)
    go (inr p) =
        let f = p.2 in
        let q : Err r ≡ Err p.1 = sym e ∙ o.same ∙ first-decided (λ k. Err) l (Ok tt) f in
        let same : r ≡ p.1 = cc in
        (p.0, first_in f, sym (ap (λ (x : Refusal). x.number) same ∙ (first-own o.own f).1), f.refused ∙ ap Err (sym same))
