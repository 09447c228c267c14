-- A search through the rows from the front: what the rest answers is the answer, so a loop carries that. Assumes nothing.
use Rattle.std.specs.Prelude.{not, refl, ◌≡◌, suc, ℕ, ◌+◌, ◌-◌, ◌<◌, ◌≤◌, eqb, drop, get_or, length}
use mathlib.Core.List.{List, Memᴰ, [], ◌∷◌}
use Rattle.std.proofs.Common.{sym, add-one, arith, drop_of_length-le, drop-cons, eq-eqb, eqb-true, ne_eqb}
use borrow.Table.Steps.{cases}
use Rattle.ground.specs.Members.{is_in, place_of}

module _ (x : ℕ) (l : List ℕ) (k a : ℕ) (e : place_of (suc k) x (drop k l) ≡ a) where
  pub place_here : k < length l → x ≡ get_or l k 0 → k + 1 ≡ a
  place_here h f = let q = rw (drop-cons l k 0 h, eq-eqb x (get_or l k 0) f) at e in omega arith

  pub place_on : k < length l → (x ≡ get_or l k 0 → ⊥) → place_of (suc (k + 1)) x (drop (k + 1) l) ≡ a
  place_on h f = rw add-one (rw (drop-cons l k 0 h, ne_eqb x (get_or l k 0) f) at e)

  pub place_end : length l ≤ k → 0 ≡ a
  place_end h = rw (drop_of_length-le l {i = k} h) at e

-- a place that is 0 is none
pub place_none : (i x : ℕ) (l : List ℕ) → eqb (place_of (suc i) x l) 0 ≡ not (is_in x l)
place_none i x [] = refl
place_none i x (y ∷ l) = let ih = place_none (suc i) x l in cases (eqb x y) (λ t. rw t (ne_eqb (suc i) 0 (λ z. omega arith))) (λ t. rw t ih)

-- and that of a row that is there is one of the rows
pub place_in : (i x : ℕ) (l : List ℕ) → Memᴰ x l → (i ≤ place_of i x l) × (place_of i x l < i + length l)
place_in i x [] m = elim m [ ]
place_in i x (y ∷ l) (Memᴰ.head e) = rw (eq-eqb x y e) (omega arith)
place_in i x (y ∷ l) (Memᴰ.tail m) =
    let ih = place_in (suc i) x l m in cases (eqb x y) (λ t. rw t (omega arith)) (λ t. rw t (omega arith))

-- and has that far side
pub place_at : (i x : ℕ) (l : List ℕ) → Memᴰ x l → get_or l (place_of (suc i) x l - suc i) 0 ≡ x
place_at i x [] m = elim m [ ]
place_at i x (y ∷ l) (Memᴰ.head e) = let z : suc i - suc i ≡ 0 = omega arith in rw (eq-eqb x y e, z) (sym e)
place_at i x (y ∷ l) (Memᴰ.tail m) =
    let b = place_in (suc (suc i)) x l m in
    let p = place_of (suc (suc i)) x l in
    let q : p - suc i ≡ suc (p - suc (suc i)) = omega arith in
    let r = place_at (suc i) x l m in
    let z : suc i - suc i ≡ 0 = omega arith in
    cases (eqb x y) (λ t. rw (t, z) (sym (eqb-true x y t))) (λ t. rw (t, q) r)
