-- The order written from its end: what stands at the places from i on, and one place more to the left. Assumes nothing.
use mathlib.Core.List.{List, [], map, ◌++◌, ◌∷◌}
use Rattle.std.proofs.Math.Path.{ap}
use Rattle.std.specs.Prelude.{refl, ◌≡◌, get_or, set, take}
use Rattle.std.proofs.Common.{sym, ◌∙◌, length-set, take-append-drop, set-set}
use Prim.Native.Nat.{suc, zero, ℕ, ◌+◌, ◌-◌, ◌<◌, ◌^◌, ◌≤◌}
use native.Mathlib.Omega.{arith}
use Rattle.std.specs.Int.Bits.{bit_or}
use Rattle.std.proofs.Math.ListN.{drop, length, length-map}
use Rattle.std.proofs.Math.Seq.{drop-set-lt}
use Rattle.ground.specs.Buffers.{front}
use Rattle.theory.specs.Order.{grow, next, order}
use Rattle.ordering.specs.Next.{Marks, next_left}
use Rattle.ordering.specs.Laws.Next.{marks-more, marks_none, marks_swap, next_lt, next-marked}

-- the images of the order at the places i, i + 1, .., n - 1, for i above 0
unfoldable pub places_from : (ℕ → ℕ → ℕ) → ℕ → ℕ → ℕ → ℕ → List ℕ
places_from d n f last i = grow d n f (n - 1 - i) last []

-- the lent places o once those from i to n - 1 hold m
unfoldable pub written_behind : ℕ → ℕ → List ℕ → List ℕ → List ℕ
written_behind n i m o = take i o ++ (m ++ drop n o)

-- ## The list grows to the left

grow-more : (d : ℕ → ℕ → ℕ) (n f m x : ℕ) (l : List ℕ)
    → grow d n f (suc m) x l ≡ next d f (get_or (grow d n f m x l) 0 0) (grow d n f m x l) n ∷ grow d n f m x l
unfolding grow
grow-more d n f zero x l = refl
grow-more d n f (suc m) x l = grow-more d n f m (next d f x (x ∷ l) n) (x ∷ l)

grow-length : (d : ℕ → ℕ → ℕ) (n f m x : ℕ) (l : List ℕ) → length (grow d n f m x l) ≡ suc m + length l
unfolding grow
grow-length d n f zero x l = omega arith
grow-length d n f (suc m) x l = omega (arith, grow-length d n f m (next d f x (x ∷ l) n) (x ∷ l))

-- ## The places are written to the left

set-left : (i v : ℕ) (o r : List ℕ) → i < length o → set (take (suc i) o ++ r) i v ≡ take i o ++ (v ∷ r)
set-left i v [] r h = absurd (omega arith)
set-left zero v (x ∷ o) r h = refl
set-left (suc i) v (x ∷ o) r h = ap (λ z. x ∷ z) (set-left i v o r (omega arith))

pub behind_more : (n i v : ℕ) (m o e : List ℕ) → 0 < i → i ≤ length o → e ≡ written_behind n i m o → set e (i - 1) v ≡ written_behind n (i - 1) (v ∷ m) o
unfolding written_behind
behind_more n zero v m o e z h q = absurd (omega arith)
behind_more n (suc i) v m o e z h q = let s : suc i - 1 ≡ i = omega arith in rw (q, s) (set-left i v o (m ++ drop n o) h)

pub behind_none : (n : ℕ) (o : List ℕ) → o ≡ written_behind n n [] o
unfolding written_behind
behind_none n o = sym (take-append-drop n o)

pub behind-all : (n : ℕ) (m o p : List ℕ) → length m ≡ n → drop n o ≡ drop n p → written_behind n 0 m o ≡ front m p
unfolding written_behind
behind-all n m o p e q = rw (e, q)

-- ## The loop: before it, one place more, after it

module _ (d : ℕ → ℕ → ℕ) (n f last : ℕ) (o : List ℕ) where
  -- o, with last at the end, has the places from i on written; x stands at i, and the bits of placed say what was placed
  pub record Walked (i placed x : ℕ) (e : List ℕ) : Type 0 where
    pub low : 0 < i
    pub high : i < n
    pub here : x ≡ get_or (places_from d n f last i) 0 0
    pub range : x < n
    pub marks : Marks placed (f ∷ places_from d n f last i)
    pub wrote : e ≡ written_behind n i (map suc (places_from d n f last i)) o
    pub size : length e ≡ length o
    pub room : n ≤ length o

  from_end : places_from d n f last (n - 1) ≡ last ∷ []
  unfolding places_from grow
  from_end = let e : n - 1 - (n - 1) ≡ 0 = omega arith in rw e

  from_more : (i : ℕ) → 1 < i → i < n
      → places_from d n f last (i - 1) ≡ next d f (get_or (places_from d n f last i) 0 0) (places_from d n f last i) n ∷ places_from d n f last i
  unfolding places_from
  from_more i l h = let e : n - 1 - (i - 1) ≡ suc (n - 1 - i) = omega arith in rw e (grow-more d n f (n - 1 - i) last [])

  pub walked_begins : (placed : ℕ) (entry : List ℕ) → 3 ≤ n → last < n → n ≤ length entry → placed ≡ bit_or (bit_or 0 (2 ^ f)) (2 ^ last)
      → o ≡ set entry (n - 1) (suc last) → Walked (n - 1) placed last o
  walked_begins placed entry some h room p q =
      let again : set o (n - 1) (suc last) ≡ o = ap (λ (y : List ℕ). set y (n - 1) (suc last)) q ∙ set-set entry (n - 1) (suc last) (suc last) ∙ sym q in
      let size : length o ≡ length entry = ap length q ∙ length-set entry (n - 1) (suc last) in
      record {
        low = omega arith;
        high = omega arith;
        here = rw from_end;
        range = h;
        marks = rw (from_end, p) (marks_swap _ last f [] (marks-more (bit_or 0 (2 ^ f)) last (f ∷ []) (marks-more 0 f [] marks_none)));
        wrote = rw from_end (sym again ∙ behind_more n n (suc last) [] o o (omega arith) (omega arith) (behind_none n o));
        size = refl;
        room = omega (arith, size);
      }

  pub walked_next : (i placed x w : ℕ) (e : List ℕ) → f < n → Walked i placed x e → w ≡ next_left d f x placed n → w < n
  walked_next i placed x w e hf s q =
      let a = places_from d n f last i in omega (arith, next-marked d f x placed a s.marks n, next_lt d f x a n hf)

  pub walked_more : (i placed x w placed' : ℕ) (e e' : List ℕ) → f < n → Walked i placed x e → 1 < i
      → w ≡ next_left d f x placed n → placed' ≡ bit_or placed (2 ^ w) → e' ≡ set e (i - 1) (suc w) → Walked (i - 1) placed' w e'
  walked_more i placed x w placed' e e' hf s l q p r =
      let a = places_from d n f last i in
      let is : w ≡ next d f (get_or a 0 0) a n = q ∙ next-marked d f x placed a s.marks n ∙ ap (λ (y : ℕ). next d f y a n) s.here in
      let more : places_from d n f last (i - 1) ≡ w ∷ a = from_more i l s.high ∙ ap (λ (y : ℕ). y ∷ a) (sym is) in
      record {
        low = omega arith;
        high = omega (arith, s.high);
        here = rw more;
        range = walked_next i placed x w e hf s q;
        marks = rw (more, p) (marks_swap _ w f a (marks-more placed w (f ∷ a) s.marks));
        wrote = rw (more, r) (behind_more n i (suc w) (map suc a) o e s.low (omega (arith, s.high, s.room)) s.wrote);
        size = rw (r, length-set e (i - 1) (suc w)) s.size;
        room = s.room;
      }

  pub walked_ends : (i placed x : ℕ) (e e' entry : List ℕ) → Walked i placed x e → i ≤ 1 → o ≡ set entry (n - 1) (suc last)
      → e' ≡ set e 0 (suc f) → e' ≡ front (map suc (order d n f last)) entry
  unfolding places_from
  walked_ends i placed x e e' entry s l q r =
      let one : i ≡ 1 = omega (arith, s.low) in
      let a = grow d n f (n - 2) last [] in
      let m : n - 1 - 1 ≡ n - 2 = omega arith in
      let w : e ≡ written_behind n 1 (map suc a) o = rw (one, m) at s.wrote in
      let full : length (map suc (f ∷ a)) ≡ n = omega (arith, s.high, length-map a suc, grow-length d n f (n - 2) last []) in
      let same : drop n o ≡ drop n entry = ap (drop n) q ∙ drop-set-lt n entry (n - 1) (suc last) (omega (arith, s.high)) in
      r ∙ behind_more n 1 (suc f) (map suc a) o e (omega arith) (omega (arith, s.high, s.room)) w
      ∙ behind-all n (map suc (f ∷ a)) o entry full same
