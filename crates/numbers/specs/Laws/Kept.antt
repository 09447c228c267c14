-- Every kind of answer crosses and nothing is lost: it can be read back from its numbers. Those of stored tables are in KeptStored.antt.
-- Assumes nothing.
use Rattle.std.specs.Prelude.{cond, ◌⊎◌, ◌≡◌, ℕ, eqb}
use Rattle.std.proofs.Common.{inl, inr, ap, sym, ◌∙◌, arith, ne_eqb}
use Rattle.ground.specs.declared.Refusal.{Refusal}
use Rattle.numbers.specs.Heads.{refused}
use Rattle.numbers.specs.Kept.{Kept, Numbered}
use Rattle.numbers.specs.declared.KemotuikiHead.{KemotuikiHead}

-- the refusal
abbrev pub refusal_of : KemotuikiHead → Refusal
refusal_of h = record { number = h.number; a = h.a; b = h.b; c = h.c; d = h.d }

-- an answer is a refusal that crosses with its number and places, or is accepted and read back
abbrev pub ReadBack : {A K : Type 0} → (K → KemotuikiHead) → (A → K) → (ℕ → Refusal → A) → (K → A) → A → Type 0
ReadBack head numbers refuse value x =
    ((m : ℕ) × (q : Refusal) × (x ≡ refuse m q) × (head (numbers x) ≡ refused m q)) ⊎ (((head (numbers x)).number ≡ 0) × (value (numbers x) ≡ x))

module _ {A K : Type 0} (head : K → KemotuikiHead) (numbers : A → K) (refuse : ℕ → Refusal → A) (value : K → A) where
  -- what was accepted where the number is 0, else the refusal
  abbrev pub back : K → A
  back k = cond (eqb (head k).number 0) (value k) (refuse (head k).table (refusal_of (head k)))

  -- nothing is lost where refusals cross by their numbers and every answer is read back
  pub kept : ((m : ℕ) (q : Refusal) → (head (numbers (refuse m q))).number ≡ q.number) → ((x : A) → ReadBack head numbers refuse value x)
      → Kept head numbers refuse
  kept h r = record {
    zero = λ x n. (λ e m q f. omega (arith, e, ap (λ y. (head (numbers y)).number) f, h m q, n m q f), zero x (r x));
    once = λ x y n o e. sym (read x n (r x)) ∙ ap back e ∙ read y o (r y);
  }
    where
      zero : (x : A) → ReadBack head numbers refuse value x → ((m : ℕ) (q : Refusal) → x ≡ refuse m q → ⊥) → (head (numbers x)).number ≡ 0
      zero x (inl (m, q, e, k)) u = absurd (u m q e)
      zero x (inr p) u = p.0

      read : (x : A) → Numbered refuse x → ReadBack head numbers refuse value x → back (numbers x) ≡ x
      read x n (inl (m, q, e, k)) = rw (k, ne_eqb q.number 0 (λ z. omega (arith, z, n m q e))) (sym e)
      read x n (inr (z, e)) = rw z e
