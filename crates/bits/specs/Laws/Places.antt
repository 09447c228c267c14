-- A lent slice written over from a place on, one place after another, and a front that grows by what is written behind it. Assumes nothing.
use Rattle.std.specs.Prelude.{List, [], ◌++◌, ◌∷◌, ◌≡◌, ℕ, ◌+◌, ◌<◌, ◌≤◌, drop, get_or, length, set, take}
use Rattle.std.proofs.Common.{ap, ◌∙◌, zero-add, add-one, arith, get_or-take, length-take-le}
use Rattle.std.proofs.Math.Path.{sym}
use Rattle.std.proofs.Math.ListN.{get_or-append}
use Rattle.std.proofs.lemmas.List.{set_split}
use Rattle.ground.specs.Buffers.{front}
use Rattle.bits.specs.Bits.{over_at}
use Rattle.bits.specs.Laws.Parts.{over_at_none, over_at_twice}
use Rattle.bits.specs.Listed.{listed}
use Rattle.bits.specs.Laws.Listed.{length-listed, listed-add, listed_at, listed_more}

-- one store writes one place over
pub set-over : (l : List ℕ) (p v : ℕ) → p < length l → set l p v ≡ over_at l p (v ∷ [])
unfolding over_at
set-over l p v h = set_split l p v h ∙ ap (λ (x : ℕ). take p l ++ (v ∷ drop x l)) (sym (add-one p))

-- what stands before is not altered
pub over_at_before : (l m : List ℕ) (position q : ℕ) → q < position → position ≤ length l → get_or (over_at l position m) q 0 ≡ get_or l q 0
unfolding over_at
over_at_before l m position q h k =
    get_or-append (take position l) (m ++ drop (position + length m) l) 0 q (omega (arith, length-take-le position l k)) ∙ get_or-take position l q 0 h

-- a front is written over from place 0 on
front-over : (m d : List ℕ) → front m d ≡ over_at d 0 m
unfolding over_at
front-over m d = ap (λ (x : ℕ). m ++ drop x d) (sym (zero-add (length m)))

module _ (f : ℕ → ℕ) where
  -- ## The loop that writes f 0, f 1, .. from a position on

  pub listed_over_none : (l : List ℕ) (position : ℕ) → l ≡ over_at l position (listed f 0)
  unfolding listed
  listed_over_none l position = sym (over_at_none l position)

  pub listed_over_more : (position k p v : ℕ) (l e : List ℕ) → p ≡ position + k → p < length l → p < length e → e ≡ over_at l position (listed f k) → v ≡ f k
      → set e p v ≡ over_at l position (listed f (k + 1))
  listed_over_more position k p v l e s h g q r =
      set-over e p v g
      ∙ ap (λ (x : List ℕ). over_at x p (v ∷ [])) q
      ∙ over_at_twice l position (listed f k) (v ∷ []) p (omega (arith, length-listed f k)) (omega arith)
      ∙ ap (λ (x : ℕ). over_at l position (listed f k ++ (x ∷ []))) r
      ∙ ap (over_at l position) (sym (listed_more f k))

  pub listed_over_end : (position k n : ℕ) (l e : List ℕ) → k ≤ n → n ≤ k → e ≡ over_at l position (listed f k) → e ≡ over_at l position (listed f n)
  listed_over_end position k n l e h g q = let s : k ≡ n = omega arith in rw (← s) q

  -- a further c of them behind the first n
  pub listed_over_add : (position n c p : ℕ) (l : List ℕ) → p ≡ position + n → p + c ≤ length l
      → over_at (over_at l position (listed f n)) p (listed (λ k. f (n + k)) c) ≡ over_at l position (listed f (n + c))
  listed_over_add position n c p l s h =
      over_at_twice l position (listed f n) (listed (λ k. f (n + k)) c) p (omega (arith, length-listed f n)) (omega (arith, length-listed (λ k. f (n + k)) c))
      ∙ ap (over_at l position) (sym (listed-add f n c))

  -- ## A front that grows

  pub listed_front_add : (n c : ℕ) (d : List ℕ) → n + c ≤ length d → over_at (front (listed f n) d) n (listed (λ k. f (n + k)) c) ≡ front (listed f (n + c)) d
  listed_front_add n c d h =
      ap (λ (x : List ℕ). over_at x n (listed (λ k. f (n + k)) c)) (front-over (listed f n) d)
      ∙ listed_over_add 0 n c n d (omega arith) h
      ∙ sym (front-over (listed f (n + c)) d)

  -- a place of the front
  pub listed_front_at : (n q : ℕ) (d : List ℕ) → q < n → get_or (front (listed f n) d) q 0 ≡ f q
  listed_front_at n q d h = get_or-append (listed f n) (drop (length (listed f n)) d) 0 q (omega (arith, length-listed f n)) ∙ listed_at f n q h
