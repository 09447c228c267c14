-- Text written piece by piece: one piece more, and all of them. Assumes nothing.
use Rattle.std.specs.Prelude.{List, [], ◌++◌, ◌∷◌, refl, ◌≡◌, ℕ, ◌+◌, ◌<◌, ◌≤◌, ◌⊎◌, length, set}
use Rattle.std.proofs.Common.{inl, inr, append_assoc, append-nil, drop, drop_at, drop-drop, take, take_at, ap, sym, ◌∙◌, add-one, arith, length-append, length-drop, length-take-le}
use Rattle.std.proofs.lemmas.Bool.{cases_lt}
use Rattle.std.proofs.lemmas.List.{drop_all, length-take, set_split, take_all}
use Rattle.ground.specs.Buffers.{front}
use Rattle.bits.specs.Bits.{over_at}
use Rattle.bits.specs.Laws.Parts.{over_at_none, over_at_twice}
use Rattle.bits.specs.Laws.Written.{over_at_front}
use Rattle.text.specs.Putting.{Fits, Put, Rest}

pub length_over_at : (o : List ℕ) (p : ℕ) (m : List ℕ) → Fits m p o → length (over_at o p m) ≡ length o
unfolding over_at
length_over_at o p m h = simp (length-append, length-drop, length-take-le p o (omega arith)) (omega arith)

pub put-length : {m : List ℕ} {p : ℕ} {o : List ℕ} {p' : ℕ} {o' : List ℕ} → Fits m p o → Put m p o p' o' → length o' ≡ length o
put-length {m} {p} {o} h t = ap length t.left ∙ length_over_at o p m h

-- the first of two pieces fits where both do
pub fits_left : (s m : List ℕ) (p : ℕ) (o : List ℕ) {text : List ℕ} → text ≡ s ++ m → Fits text p o → Fits s p o
fits_left s m p o e f = omega (arith, ap length e, length-append s m)

-- ## From the beginning to the end

pub rest_begin : (text : List ℕ) (p : ℕ) (o : List ℕ) → Rest text p o text p o
rest_begin text p o = record { ends = refl; whole = refl; size = refl }

pub rest_fits : (s m : List ℕ) {p : ℕ} {o text : List ℕ} {p₀ : ℕ} {o₀ : List ℕ} → Rest (s ++ m) p o text p₀ o₀ → Fits text p₀ o₀ → Fits s p o
rest_fits s m r f = omega (arith, r.ends, r.size, length-append s m)

pub rest-step : (s m : List ℕ) {p : ℕ} {o text : List ℕ} {p₀ : ℕ} {o₀ : List ℕ} {p' : ℕ} {o' : List ℕ}
    → Rest (s ++ m) p o text p₀ o₀ → Fits text p₀ o₀ → Put s p o p' o' → Rest m p' o' text p₀ o₀
rest-step s m {p} {o} {text} {p₀} {o₀} {p'} {o'} r f t =
    record {
      ends = omega (arith, t.behind, r.ends, length-append s m);
      whole =
          ap (λ (x : List ℕ). over_at x p' m) t.left
          ∙ over_at_twice o p s m p' t.behind (omega (arith, t.behind, r.ends, r.size, length-append s m)) ∙ r.whole;
      size = put-length (rest_fits s m r f) t ∙ r.size;
    }

pub last_fits : {s : List ℕ} {p : ℕ} {o text : List ℕ} {p₀ : ℕ} {o₀ : List ℕ} → Rest s p o text p₀ o₀ → Fits text p₀ o₀ → Fits s p o
last_fits r f = omega (arith, r.ends, r.size)

pub rest_last : {s : List ℕ} {p : ℕ} {o text : List ℕ} {p₀ : ℕ} {o₀ : List ℕ} {p' : ℕ} {o' : List ℕ}
    → Rest s p o text p₀ o₀ → Put s p o p' o' → Put text p₀ o₀ p' o'
rest_last r t = record { behind = omega (arith, t.behind, r.ends); left = t.left ∙ r.whole }

pub rest_end : {p : ℕ} {o text : List ℕ} {p₀ : ℕ} {o₀ : List ℕ} → Rest [] p o text p₀ o₀ → Put text p₀ o₀ p o
rest_end {p} {o} r = record { behind = omega (arith, r.ends); left = sym (over_at_none o p) ∙ r.whole }

-- ## One piece behind another

-- a list is cut behind its first two parts, or behind its end
cut_behind : (a k b : List ℕ) (n : ℕ) → (n ≡ length (a ++ k)) ⊎ ((b ≡ []) × (length (a ++ k) ≤ n)) → (take n (a ++ (k ++ b)) ≡ a ++ k) × (drop n (a ++ (k ++ b)) ≡ b)
cut_behind a k b n (inl e) = rw (← append_assoc a k b) (take_at (a ++ k) b n (sym e), drop_at (a ++ k) b n (sym e))
cut_behind a k b n (inr (e, h)) = rw (← append_assoc a k b, e, append-nil (a ++ k)) (take_all n (a ++ k) h, drop_all n (a ++ k) h)

over_behind : (l : List ℕ) (p : ℕ) (k m : List ℕ) (n : ℕ) → n ≡ p + length k → over_at (over_at l p k) n m ≡ over_at l p (k ++ m)
unfolding over_at
over_behind l p k m n e =
    let a = take p l in
    let b = drop (p + length k) l in
    let w : List ℕ = a ++ (k ++ b) in
    let c : (take n w ≡ a ++ k) × (drop n w ≡ b) = cut_behind a k b n (elim (cases_lt (length l) p) [ inl h ↦ inr (drop_all (p + length k) l (omega arith), omega (arith, length-append a k, length-take p l)) | inr h ↦ inl (omega (arith, length-append a k, length-take-le p l h)) ]) in
    let d : drop (n + length m) w ≡ drop (p + length (k ++ m)) l =
    sym (drop-drop (length m) n w) ∙ ap (drop (length m)) c.1 ∙ drop-drop (length m) (p + length k) l ∙ ap (λ (i : ℕ). drop i l) (omega (arith, length-append k m)) in
    rw (c.0, d) (simp append_assoc)

pub over_split : (o : List ℕ) (p : ℕ) (s m : List ℕ) → over_at o p (s ++ m) ≡ over_at (over_at o p s) (p + length s) m
over_split o p s m = sym (over_behind o p s m (p + length s) refl)

pub put_then : {s m : List ℕ} {p : ℕ} {o : List ℕ} {q : ℕ} {i : List ℕ} {p' : ℕ} {o' : List ℕ}
    → Put s p o q i → Put m q i p' o' → Put (s ++ m) p o p' o'
put_then {s} {m} {p} {o} {q} {i} {p'} {o'} a b = record {
  behind = omega (arith, a.behind, b.behind, length-append s m);
  left = b.left ∙ ap (λ (x : List ℕ). over_at x q m) a.left ∙ over_behind o p s m q a.behind;
}

-- nothing is written
pub over_nothing : (o : List ℕ) (p : ℕ) → over_at o p [] ≡ o
over_nothing o p = over_at_none o p

-- nothing behind it
pub put_end : {s : List ℕ} {p : ℕ} {o : List ℕ} {p' : ℕ} {o' : List ℕ} → Put s p o p' o' → Put (s ++ []) p o p' o'
put_end {s} t = rw (append-nil s) t

-- ## One byte

pub byte_fits : (b : ℕ) (m : List ℕ) {p : ℕ} {o text : List ℕ} {p₀ : ℕ} {o₀ : List ℕ} → Rest ((b ∷ []) ++ m) p o text p₀ o₀ → Fits text p₀ o₀ → p < length o
byte_fits b m r f = omega (arith, rest_fits (b ∷ []) m r f)

pub byte_last_fits : {b p : ℕ} {o text : List ℕ} {p₀ : ℕ} {o₀ : List ℕ} → Rest (b ∷ []) p o text p₀ o₀ → Fits text p₀ o₀ → p < length o
byte_last_fits r f = omega (arith, last_fits r f)

pub put_one : (o : List ℕ) (p b : ℕ) → p < length o → Put (b ∷ []) p o (p + 1) (set o p b)
unfolding over_at
put_one o p b h = record { behind = refl; left = set_split o p b h ∙ rw (add-one p) refl }

-- at the front of a slice
pub put_front : {m o : List ℕ} {r : ℕ} {o' : List ℕ} → Put m 0 o r o' → (r ≡ length m) × (o' ≡ front m o)
put_front {m} {o} t = (omega (arith, t.behind), t.left ∙ over_at_front o m)
