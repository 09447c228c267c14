-- A call whose answer is the first refusal of its checks meets demand 1. Assumes nothing.
use mathlib.Core.List.{List, Memᴰ, [], ◌∷◌}
use Rattle.std.proofs.Common.{inl, inr, ap, ap₂, subst, sym, ◌∙◌, arith}
use Rattle.std.specs.Prelude.{◌⊎◌, refl, ◌≡◌, ℕ, Ok, Err}
use Rattle.ground.specs.InOrder.{Decides, InOrder}
use Rattle.ground.specs.Laws.InOrder.{decides_last, first-own}
use Rattle.ground.specs.Laws.Outcomes.{front_stops}
use Rattle.ground.specs.Laws.Maps.{mem-map}
use Rattle.ground.specs.Laws.Steps.{first-decided, first_in, passes-decided, passes_or_refuses}
use Rattle.ground.specs.Outcomes.{Left, front_if}
use Rattle.ground.specs.Refusals.{if_passed, Check}
use Rattle.ground.specs.Steps.{FirstRefused, Passes, Refuses, Step, about, numbers_of}
use Rattle.ground.specs.declared.Refusal.{Refusal}
use Rattle.theory.specs.Outcomes.{LeftRows, RowsOutcome}
use Rattle.numbers.specs.Heads.{refused}
use Rattle.numbers.specs.declared.KemotuikiHead.{KemotuikiHead}
use Rattle.kemotuiki.specs.Crossing.{crossed, crossed_rows}
use Rattle.kemotuiki.specs.Refusals.{Refusals}

-- ## From the first refusal to demand 1

-- refusals cross as they are, and what is accepted crosses with number 0
pub refusals : {A K : Type 0} (head : K → KemotuikiHead) (numbers : A → K) (refuse : ℕ → Refusal → A)
    → ((m : ℕ) (q : Refusal) → head (numbers (refuse m q)) ≡ refused m q)
    → {l : List (ℕ × ℕ)} {steps : List Step} {x y : A} {r : K} {before after : List (List ℕ)}
    → numbers_of steps ≡ l → (head (numbers y)).number ≡ 0 → Decides refuse steps y x → r ≡ numbers x
    → ((s : Step) (q : Refusal) → FirstRefused steps s q → after ≡ before) → Refusals l steps (head r) before after
refusals head numbers refuse h {l} {steps} {x} {y} {r} {before} {after} k z d e u = record {
  in_order = k;
  own = d.own;
  accepted = (λ n. passes n (passes_or_refuses steps), zero);
  first = λ s q f. (is s q f, number s q f, u s q f);
  one_of = either (passes_or_refuses steps);
}
  where
    is : (s : Step) (q : Refusal) → FirstRefused steps s q → head r ≡ refused s.table q
    is s q f = ap head (e ∙ ap numbers (d.same ∙ first-decided refuse steps y f)) ∙ h s.table q

    number : (s : Step) (q : Refusal) → FirstRefused steps s q → (head r).number ≡ s.number
    number s q f = ap (λ (a : KemotuikiHead). a.number) (is s q f) ∙ (first-own d.own f).1

    zero : Passes steps → (head r).number ≡ 0
    zero p = ap (λ k. (head k).number) (e ∙ ap numbers (d.same ∙ passes-decided refuse steps y p)) ∙ z

    passes : (head r).number ≡ 0 → Passes steps ⊎ Refuses steps → Passes steps
    passes n (inl p) = p
    passes n (inr f) = absurd (omega (arith, n, number f.0 f.1 f.2, (first-own d.own f.2).0))

    either : Passes steps ⊎ Refuses steps → ((head r).number ≡ 0) ⊎ (Memᴰ ((head r).table, (head r).number) l × (after ≡ before))
    either (inl p) = inl (zero p)
    either (inr f) =
        let m : Memᴰ (f.0.table, f.0.number) (numbers_of steps) = mem-map (λ (s : Step). (s.table, s.number)) (first_in f.2) in
        let t : (head r).table ≡ f.0.table = ap (λ (a : KemotuikiHead). a.table) (is f.0 f.1 f.2) in
        inr (rw (t, number f.0 f.1 f.2) (subst (Memᴰ (f.0.table, f.0.number)) k m), u f.0 f.1 f.2)

-- ## A call with one check c, about one table

refused_check : (c : Check) {q : Refusal} → ◌≡◌ {A = Check} (if_passed Err c (Ok tt)) (Err q) → c ≡ Err q
refused_check (Ok tt) e = e
refused_check (Err r) e = e

module _ {A K : Type 0} (head : K → KemotuikiHead) (numbers : A → K) (refuse : Refusal → A)
    (h : (q : Refusal) → head (numbers (refuse q)) ≡ refused 0 q) where
  -- without a lent buffer, or with any
  pub by_check : {l : List (ℕ × ℕ)} {steps : List Step} (c : Check) (y : A) {r : K} {before after : List (List ℕ)}
      → numbers_of (about 0 steps) ≡ l → (head (numbers y)).number ≡ 0 → InOrder steps c → r ≡ numbers (if_passed refuse c y)
      → ((q : Refusal) → c ≡ Err q → after ≡ before) → Refusals l (about 0 steps) (head r) before after
  by_check {steps = steps} c y k z o e u =
      refusals (λ a. a) (λ a. a) refused (λ m q. refl) k z (decides_last refused 0 (head (numbers y)) o) (ap head e ∙ crossing c)
      (λ s q f. u q (refused_check c ((decides_last (λ m. Err) 0 (Ok tt) o).same ∙ first-decided (λ m. Err) (about 0 steps) (Ok tt) f)))
    where
      crossing : (d : Check) → head (numbers (if_passed refuse d y)) ≡ if_passed (refused 0) d (head (numbers y))
      crossing (Ok tt) = refl
      crossing (Err q) = h q

  -- with one lent buffer, o before and e after
  pub by_left : {l : List (ℕ × ℕ)} {steps : List Step} (c : Check) (y : A) (m o : List ℕ) {r : K} {e : List ℕ}
      → numbers_of (about 0 steps) ≡ l → (head (numbers y)).number ≡ 0 → InOrder steps c
      → Left (crossed numbers (record { answer = if_passed refuse c y; places = front_if c m o })) r e → Refusals l (about 0 steps) (head r) (o ∷ []) (e ∷ [])
  by_left c y m o k z i p =
      by_check c y k z i p.answered (λ q u. ap (λ (x : List ℕ). x ∷ []) (p.left ∙ sym (front_stops c m o u)))

  -- with two
  pub by_rows : {l : List (ℕ × ℕ)} {steps : List Step} (c : Check) (y : A) (w : RowsOutcome A) (f v : List ℕ) {r : K} {f' v' : List ℕ}
      → numbers_of (about 0 steps) ≡ l → (head (numbers y)).number ≡ 0 → InOrder steps c → w.answer ≡ if_passed refuse c y
      → ((q : Refusal) → c ≡ Err q → (w.far_list ≡ f) × (w.cost_list ≡ v))
      → LeftRows (crossed_rows numbers w) r f' v' → Refusals l (about 0 steps) (head r) (f ∷ v ∷ []) (f' ∷ v' ∷ [])
  by_rows c y w f v k z i a u p =
      by_check c y k z i (p.answered ∙ ap numbers a)
      (λ q t. ap₂ (λ (g x : List ℕ). g ∷ x ∷ []) (p.far-sides ∙ (u q t).0) (p.doubled ∙ (u q t).1))
