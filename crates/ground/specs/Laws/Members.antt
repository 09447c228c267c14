-- Laws of which numbers stand in a list. Assumes nothing.
use Rattle.std.specs.Prelude.{false, true, ◌≡◌, ℕ, ◌≤◌, eqb}
use Rattle.std.proofs.lemmas.Bool.{false≢true}
use mathlib.Core.List.{List, Memᴰ, [], ◌++◌, ◌∷◌}
use Rattle.std.proofs.Common.{ap, sym, arith, eq-eqb, eqb-true}
use borrow.Table.Steps.{cases}
use Rattle.ground.specs.Members.{is_in, occurs}

pub is_in-mem : (x : ℕ) (l : List ℕ) → is_in x l ≡ true → Memᴰ x l
is_in-mem x [] e = absurd (false≢true e)
is_in-mem x (y ∷ l) e =
    cases (eqb x y) (λ t. Memᴰ.head (eqb-true x y t)) (λ t. Memᴰ.tail (is_in-mem x l (rw t at e)))

pub mem-is_in : (x : ℕ) (l : List ℕ) → Memᴰ x l → is_in x l ≡ true
mem-is_in x [] m = elim m [ ]
mem-is_in x (y ∷ l) (Memᴰ.head e) = rw (eq-eqb x y e)
mem-is_in x (y ∷ l) (Memᴰ.tail m) = let r = mem-is_in x l m in cases (eqb x y) (λ t. rw t) (λ t. rw t r)

-- what occurs in a list stands in it, and the list is what is before it, and then it, and what is behind it
pub occurs-mem : (x : ℕ) (l : List ℕ) → 1 ≤ occurs x l → Memᴰ x l
occurs-mem x [] h = absurd (omega arith)
occurs-mem x (y ∷ l) h =
    cases (eqb x y) (λ e. Memᴰ.head (eqb-true x y e)) (λ e. Memᴰ.tail (occurs-mem x l (let r = rw e at h in omega (arith, r))))

pub mem-occurs : (x : ℕ) (l : List ℕ) → Memᴰ x l → 1 ≤ occurs x l
mem-occurs x [] m = elim m [ ]
mem-occurs x (y ∷ l) (Memᴰ.head e) = rw (eq-eqb x y e) (omega arith)
mem-occurs x (y ∷ l) (Memᴰ.tail m) = omega (arith, mem-occurs x l m)

pub mem_split : {A : Type 0} (x : A) (l : List A) → Memᴰ x l → (p : List A) × (q : List A) × (l ≡ p ++ (x ∷ q))
mem_split {A = A} x [] m = elim m [ ]
mem_split {A} x (y ∷ l) (Memᴰ.head e) = ([], l, ap (λ (z : A). z ∷ l) (sym e))
mem_split {A} x (y ∷ l) (Memᴰ.tail m) = let r = mem_split x l m in (y ∷ r.0, r.1, ap (λ (z : List A). y ∷ z) r.2)
