-- Where an image stands between i and j, and the division of the images at each place between them.
-- Assumes nothing.
use Rattle.std.specs.Prelude.{Bool, false, true, ◌≡◌, ℕ, ◌%◌, ◌*◌, ◌+◌, ◌-◌, ◌<◌, ◌^◌, ◌≤◌, eqb, ltb}
use Rattle.std.proofs.lemmas.Bool.{false≢true}
use Rattle.std.proofs.Common.{true≢false, ap, sym, ◌∙◌, arith, ltb-false, ltb-true}
use borrow.Table.Steps.{cases}
use Rattle.ground.specs.Bits.{bit, num}
use Rattle.ground.specs.Laws.Bits.{num-bit, num_lt}
use Rattle.ground.specs.Counts.{count, one_if}
use Rattle.ground.specs.Tests.{one_of}
use Rattle.theory.specs.FarSides.{holds}
use Rattle.theory.specs.Laws.Nested.{holds_false, holds_true}
use Rattle.theory.specs.LinkTables.{apart}

-- the place of x on the way from i to j, plus the limit
abbrev pub pos : ℕ → (ℕ → ℕ → ℕ) → ℕ → ℕ → ℕ → ℕ
pos L d i j x = L + d i x - d j x

-- 1 for the images that stand behind t
abbrev pub cut : ℕ → (ℕ → ℕ → ℕ) → ℕ → ℕ → ℕ → ℕ → ℕ
cut L d i j t x = one_if (ltb t (pos L d i j x))

-- the far side of the division at t: the images that are not on image 0's side
abbrev pub code : ℕ → (ℕ → ℕ → ℕ) → ℕ → ℕ → ℕ → ℕ → ℕ
code L d n i j t = num n (λ m. (cut L d i j t m + cut L d i j t 0) % 2)

-- the far side at place t of the 2 d i j places from i to j
abbrev pub place : ℕ → (ℕ → ℕ → ℕ) → ℕ → ℕ → ℕ → ℕ → ℕ
place L d n i j t = code L d n i j (pos L d i j i + t)

-- how many of these places are S's
abbrev pub found : ℕ → (ℕ → ℕ → ℕ) → ℕ → ℕ → ℕ → ℕ → ℕ
found L d n i j S = count (2 * d i j) (λ t. eqb (place L d n i j t) S)

-- ## From the bits of a far side to `apart` and back

pub apart-bits : (S i j : ℕ) → apart S i j ≡ true → bit S i ≡ bit S j → ⊥
apart-bits S i j e f = go (holds S i) (holds S j) (ap (λ b. eqb b 1) f) e
  where
    go : (a b : Bool) → a ≡ b → one_of a b ≡ true → ⊥
    go true true s t = false≢true t
    go true false s t = true≢false s
    go false true s t = false≢true s
    go false false s t = false≢true t

pub bits-apart : (S i j : ℕ) → (bit S i ≡ bit S j → ⊥) → apart S i j ≡ true
bits-apart S i j h =
    cases (holds S i)
    (λ e. cases (holds S j) (λ f. absurd (h (holds_true S i e ∙ sym (holds_true S j f)))) (λ f. rw (e, f)))
    (λ e. cases (holds S j) (λ f. rw (e, f)) (λ f. absurd (h (holds_false S i e ∙ sym (holds_false S j f)))))

pub cut_lt : (L : ℕ) (d : ℕ → ℕ → ℕ) (i j t a : ℕ) → cut L d i j t a < 2
cut_lt L d i j t a = cases (ltb t (pos L d i j a)) (λ e. rw e (omega arith)) (λ e. rw e (omega arith))

pub cut-near : (L : ℕ) (d : ℕ → ℕ → ℕ) (i j t a : ℕ) → cut L d i j t a ≡ 0 → pos L d i j a ≤ t
cut-near L d i j t a h = cases (ltb t (pos L d i j a)) (λ e. absurd (let z = rw e at h in omega arith)) (λ e. ltb-false t (pos L d i j a) e)

pub cut-far : (L : ℕ) (d : ℕ → ℕ → ℕ) (i j t a : ℕ) → cut L d i j t a ≡ 1 → t < pos L d i j a
cut-far L d i j t a h = cases (ltb t (pos L d i j a)) (λ e. ltb-true t (pos L d i j a) e) (λ e. absurd (let z = rw e at h in omega arith))

pub bit-code : (L : ℕ) (d : ℕ → ℕ → ℕ) (n i j t a : ℕ) → a < n → bit (code L d n i j t) a ≡ (cut L d i j t a + cut L d i j t 0) % 2
bit-code L d n i j t a h = num-bit n (λ m. (cut L d i j t m + cut L d i j t 0) % 2) (λ m. omega arith) a h

pub code_lt : (L : ℕ) (d : ℕ → ℕ → ℕ) (n i j t : ℕ) → code L d n i j t < 2 ^ n
code_lt L d n i j t = num_lt n (λ m. (cut L d i j t m + cut L d i j t 0) % 2) (λ m. omega arith)
