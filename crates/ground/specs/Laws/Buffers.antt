-- How code writes a lent buffer place by place, and lends its rest. Assumes nothing.
use Rattle.std.specs.Prelude.{List, [], ◌++◌, ◌∷◌, refl, ◌≡◌, suc, zero, ℕ, ◌+◌, ◌-◌, ◌<◌, ◌≤◌, drop, get_or, length, set, take}
use Rattle.std.proofs.Common.{append-nil, ap, ◌∙◌, add-one, arith, drop_of_length-le, length-drop, get_or-take, length-take-le, take_all}
use Rattle.std.proofs.Math.ListN.{get_or-append}
use Rattle.std.proofs.lemmas.List.Edits.{sets, sets-eq}
use Rattle.ground.specs.Buffers.{front, over}

-- ## The loop that writes place by place: before it, one place more, after it

pub over_none : (s d : List ℕ) → d ≡ over 0 s d
unfolding over
over_none s d = refl

over-suc : (n : ℕ) (s d : List ℕ) → n < length s → n < length d → set (take n s ++ drop n d) n (get_or s n 0) ≡ take (suc n) s ++ drop (suc n) d
over-suc n s [] l h = absurd (omega arith)
over-suc n [] (x ∷ d) l h = absurd (omega arith)
over-suc zero (y ∷ s) (x ∷ d) l h = refl
over-suc (suc n) (y ∷ s) (x ∷ d) l h = ap (λ z. y ∷ z) (over-suc n s d (omega arith) (omega arith))

pub over-more : (n : ℕ) (s d e : List ℕ) → n < length s → n < length d → e ≡ over n s d → set e n (get_or s n 0) ≡ over (n + 1) s d
unfolding over
over-more n s d e l h q = rw (q, add-one) (over-suc n s d l h)

pub over_end : (i n : ℕ) (s d e : List ℕ) → i ≤ n → n ≤ i → e ≡ over i s d → e ≡ over n s d
over_end i n s d e l g q = let p : i ≡ n = omega arith in rw (← p) q

-- what stands in the first n places
pub over-at : (n i : ℕ) (s d : List ℕ) → i < n → n ≤ length s → get_or (over n s d) i 0 ≡ get_or s i 0
unfolding over
over-at n i s d h l = get_or-append (take n s) (drop n d) 0 i (omega (arith, length-take-le n s l)) ∙ get_or-take n s i 0 h

-- ## The loop that writes from the back: the first n places are still those of d, the others are those of s

back-suc : (n : ℕ) (s d : List ℕ) → n < length s → n < length d → set (take (suc n) d ++ drop (suc n) s) n (get_or s n 0) ≡ take n d ++ drop n s
back-suc n [] d l h = absurd (omega arith)
back-suc n (y ∷ s) [] l h = absurd (omega arith)
back-suc zero (y ∷ s) (x ∷ d) l h = refl
back-suc (suc n) (y ∷ s) (x ∷ d) l h = ap (λ z. x ∷ z) (back-suc n s d (omega arith) (omega arith))

pub back_more : (n : ℕ) (s d e : List ℕ) → n < length s → n < length d → e ≡ over (n + 1) d s → set e n (get_or s n 0) ≡ over n d s
unfolding over
back_more n s d e l h q = rw (q, add-one) (back-suc n s d l h)

-- ## Fronts

-- the front of s is m: then m stands at the front of d
pub over-front : (n : ℕ) (s d m : List ℕ) → take n s ≡ m → length m ≡ n → over n s d ≡ front m d
unfolding over
over-front n s d m e f = rw (e, f)

pub over-all : (m o : List ℕ) (n : ℕ) → length m ≡ n → over n m o ≡ front m o
over-all m o n e = over-front n m o m (take_all n m (omega arith)) e

pub sets_front : (m o : List ℕ) → length m ≤ length o → sets o 0 m ≡ front m o
sets_front m o h = let e : 0 + length m ≡ length m = omega arith in let q = sets-eq m o 0 (omega arith) in rw e at q

-- a front over a shorter one
pub front-front : (m w d : List ℕ) → length m ≤ length w → length m ≤ length d → front w (front m d) ≡ front w d
front-front m w d h g = ap (λ (z : List ℕ). w ++ z) (go (length w) m d h g)
  where
    go : (k : ℕ) (m d : List ℕ) → length m ≤ k → length m ≤ length d → drop k (m ++ drop (length m) d) ≡ drop k d
    go k [] d h g = refl
    go zero (x ∷ m) d h g = absurd (omega arith)
    go (suc k) (x ∷ m) [] h g = absurd (omega arith)
    go (suc k) (x ∷ m) (y ∷ d) h g = go k m d (omega arith) (omega arith)

-- ## The rest from `at` on, lent as `&mut b[at..]`: what is lent, and the whole once m stands there

pub rest_part : (b : List ℕ) (at : ℕ) → take (length b - at) (drop at b) ≡ drop at b
rest_part b at = take_all (length b - at) (drop at b) (omega (arith, length-drop at b))

pub rest_put : (b m : List ℕ) (at : ℕ) → take at b ++ (m ++ drop (length b - at) (drop at b)) ≡ take at b ++ m
rest_put b m at = rw (drop_of_length-le (drop at b) {i = length b - at} (omega (arith, length-drop at b)), append-nil m)
