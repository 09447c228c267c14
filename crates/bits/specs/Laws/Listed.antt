-- Laws of a list made place by place, and of a buffer whose front is written with it place by place. Assumes nothing.
use mathlib.Core.List.{List, [], append_assoc, append-nil, ◌++◌, ◌∷◌}
use Rattle.std.proofs.Common.{ap, ap₂, sym, ◌∙◌, add-suc, add-zero, arith, drop-cons, ext_get_or}
use Rattle.std.proofs.Math.Path.{refl}
use Rattle.std.specs.Prelude.{◌≡◌, ltb, drop, get_or, length, set}
use Prim.Native.Nat.{suc, zero, ℕ, ◌+◌, ◌<◌, ◌≤◌}
use Rattle.std.proofs.Math.Numerals.{add-one}
use Rattle.std.proofs.Math.ListN.{get_or-append, length-append}
use Rattle.std.proofs.Math.Seq.{append_snoc}
use Rattle.std.proofs.lemmas.List.{get_or_at, set_at}
use borrow.Author.Tests.{ltb-false, ltb-true}
use borrow.Table.Steps.{cases}
use Rattle.ground.specs.Buffers.{front}
use Rattle.bits.specs.Listed.{listed}

module _ (f : ℕ → ℕ) where
  pub length-listed : (n : ℕ) → length (listed f n) ≡ n
  unfolding listed
  length-listed zero = refl
  length-listed (suc n) = omega (arith, length-append (listed f n) (f n ∷ []), length-listed n)

  pub listed_more : (n : ℕ) → listed f (n + 1) ≡ listed f n ++ (f n ∷ [])
  unfolding listed
  listed_more n = rw add-one

  pub listed_at : (n i : ℕ) → i < n → get_or (listed f n) i 0 ≡ f i
  unfolding listed
  listed_at zero i h = absurd (omega arith)
  listed_at (suc n) i h =
      let m = length-listed n in
      cases (ltb i n)
      (λ e. get_or-append (listed f n) (f n ∷ []) 0 i (omega (arith, ltb-true i n e)) ∙ listed_at n i (ltb-true i n e))
      (λ e. let q : i ≡ n = omega (arith, ltb-false i n e) in rw q (get_or_at (listed f n) (f n) [] 0 n m))

  -- a list with those elements is that list
  pub listed_is : (n : ℕ) (l : List ℕ) → length l ≡ n → ((i : ℕ) → i < n → get_or l i 0 ≡ f i) → listed f n ≡ l
  listed_is n l e h =
      ext_get_or 0 (listed f n) l (length-listed n ∙ sym e)
      (λ i k. let p : i < n = omega (arith, length-listed n) in listed_at n i p ∙ sym (h i p))

  -- ## The loop that writes a buffer's front place by place

  pub listed_front_none : (d : List ℕ) → d ≡ front (listed f 0) d
  unfolding listed
  listed_front_none d = refl

  pub listed_front_more : (p v : ℕ) (d e : List ℕ) → p < length d → e ≡ front (listed f p) d → v ≡ f p → set e p v ≡ front (listed f (p + 1)) d
  listed_front_more p v d e h q r =
      let t = listed f p in
      let m = length-listed p in
      let c : drop (length t) d ≡ get_or d p 0 ∷ drop (suc p) d = ap (λ (x : ℕ). drop x d) m ∙ drop-cons d p 0 h in
      rw (q, r, c)
      (set_at t (get_or d p 0) (drop (suc p) d) (f p) p m
      ∙ sym (append_snoc t (f p) (drop (suc p) d))
      ∙ ap₂ (λ (x : List ℕ) (y : ℕ). x ++ drop y d) (sym (listed_more p)) (sym (length-listed (p + 1) ∙ add-one p)))

  pub listed_front_end : (p n : ℕ) (d e : List ℕ) → p ≤ n → n ≤ p → e ≡ front (listed f p) d → e ≡ front (listed f n) d
  listed_front_end p n d e l g q = let s : p ≡ n = omega arith in rw (← s) q

pub listed_same : (f g : ℕ → ℕ) (n : ℕ) → ((i : ℕ) → i < n → f i ≡ g i) → listed f n ≡ listed g n
listed_same f g n h = listed_is f n (listed g n) (length-listed g n) (λ i k. listed_at g n i k ∙ sym (h i k))

-- a + b of them are the first a, then b from there on
pub listed-add : (f : ℕ → ℕ) (a b : ℕ) → listed f (a + b) ≡ listed f a ++ listed (λ k. f (a + k)) b
unfolding listed
listed-add f a zero = ap (listed f) (add-zero a) ∙ sym (append-nil (listed f a))
listed-add f a (suc b) =
    ap (listed f) (add-suc a b) ∙ ap (λ (l : List ℕ). l ++ (f (a + b) ∷ [])) (listed-add f a b)
    ∙ append_assoc (listed f a) (listed (λ k. f (a + k)) b) (f (a + b) ∷ [])
