-- What the first refusal of steps is. Assumes nothing.
use mathlib.Core.List.{List, Memᴰ, [], ◌++◌, ◌∷◌}
use Rattle.std.proofs.Common.{inl, inr, ap, subst, sym}
use Rattle.std.specs.Prelude.{◌⊎◌, refl, ◌≡◌, ℕ, Ok, Err}
use Rattle.ground.specs.Laws.Filters.{each_cons, each_nil}
use Rattle.ground.specs.Refusals.{if_passed, Check}
use Rattle.ground.specs.declared.Refusal.{Refusal}
use Rattle.ground.specs.Steps.{FirstRefused, Passes, Refuses, Step, about, decided}

module _ {A : Type 0} (refused : ℕ → Refusal → A) where
  -- steps about one table, which one check stands for, and then what follows
  pub decided-about : (m : ℕ) (l : List Step) (y : A) → if_passed (refused m) (decided (λ k. Err) l (Ok tt)) y ≡ decided refused (about m l) y
  decided-about m [] y = refl
  decided-about m (s ∷ l) y = go s.check (decided-about m l y)
    where
      go : (c : Check) → if_passed (refused m) (decided (λ k. Err) l (Ok tt)) y ≡ decided refused (about m l) y
          → if_passed (refused m) (if_passed Err c (decided (λ k. Err) l (Ok tt))) y ≡ if_passed (refused m) c (decided refused (about m l) y)
      go (Ok tt) e = e
      go (Err r) e = refl

  -- steps and then further ones
  pub decided-join : (l m : List Step) (y : A) → decided refused l (decided refused m y) ≡ decided refused (l ++ m) y
  decided-join [] m y = refl
  decided-join (s ∷ l) m y = ap (if_passed (refused s.table) s.check) (decided-join l m y)

  pub passes-decided : (l : List Step) (y : A) → Passes l → decided refused l y ≡ y
  passes-decided [] y h = refl
  passes-decided (s ∷ l) y h = rw (h s (Memᴰ.head refl)) (passes-decided l y (λ x t. h x (Memᴰ.tail t)))

  pub first-decided : (l : List Step) (y : A) {s : Step} {r : Refusal} → FirstRefused l s r → decided refused l y ≡ refused s.table r
  first-decided l y {s} {r} f =
      rw (f.steps, ← (decided-join f.before (s ∷ f.after) y), passes-decided f.before (decided refused (s ∷ f.after) y) f.passed, f.refused)

-- every check passed, or one of them is the first to refuse
pub passes_or_refuses : (l : List Step) → Passes l ⊎ Refuses l
passes_or_refuses [] = inl (each_nil (λ s. s.check ≡ Ok tt))
passes_or_refuses (s ∷ l) = go s.check refl (passes_or_refuses l)
  where
    go : (c : Check) → s.check ≡ c → Passes l ⊎ Refuses l → Passes (s ∷ l) ⊎ Refuses (s ∷ l)
    go (Err r) e h = inr (s, r, record { before = []; after = l; steps = refl; passed = each_nil (λ t. t.check ≡ Ok tt); refused = e })
    go (Ok tt) e (inl h) = inl (each_cons (λ t. t.check ≡ Ok tt) s l e h)
    go (Ok tt) e (inr f) = inr (
      f.0,
      f.1,
      record {
        before = s ∷ f.2.before;
        after = f.2.after;
        steps = ap (λ (t : List Step). s ∷ t) f.2.steps;
        passed = each_cons (λ t. t.check ≡ Ok tt) s f.2.before e f.2.passed;
        refused = f.2.refused;
      },
    )

mem_between : {A : Type 0} (l : List A) (x : A) (m : List A) → Memᴰ x (l ++ (x ∷ m))
mem_between [] x m = Memᴰ.head refl
mem_between (y ∷ l) x m = Memᴰ.tail (mem_between l x m)

-- the first step that refuses is one of the steps
pub first_in : {l : List Step} {s : Step} {r : Refusal} → FirstRefused l s r → Memᴰ s l
first_in {l} {s} f = subst (Memᴰ s) (sym f.steps) (mem_between f.before s f.after)
