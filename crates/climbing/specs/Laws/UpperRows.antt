-- Upper rows, one by one and searched from the front. Assumes nothing.
use Rattle.std.specs.Prelude.{true, List, [], ◌∷◌, refl, ◌≡◌, suc, zero, ℕ, ◌+◌, ◌-◌, ◌<◌, ◌≤◌, drop, get_or, length}
use Rattle.std.proofs.Common.{ap, ◌∙◌, add-one, arith, drop_of_length-le, length-drop, drop-cons, get_or-drop, eq-eqb, ne_eqb}
use Rattle.std.specs.Int.Bits.{bit_and}
use borrow.Table.Steps.{cases}
use Rattle.theory.specs.Routes.{contains, upper_from, uppers, uppers_from}

-- ## The search: what the rest answers is the answer

module _ (S : ℕ) (l : List ℕ) (k a : ℕ) (e : upper_from (suc k) S (drop k l) ≡ a) where
  pub upper_here : k < length l → bit_and S (get_or l k 0) ≡ S → k + 1 ≡ a
  upper_here h f = let q = rw (drop-cons l k 0 h, eq-eqb (bit_and S (get_or l k 0)) S f) at e in omega arith

  pub upper_on : k < length l → (bit_and S (get_or l k 0) ≡ S → ⊥) → upper_from (suc (k + 1)) S (drop (k + 1) l) ≡ a
  upper_on h f = rw add-one (rw (drop-cons l k 0 h, ne_eqb (bit_and S (get_or l k 0)) S f) at e)

  pub upper_end : length l ≤ k → 0 ≡ a
  upper_end h = rw (drop_of_length-le l {i = k} h) at e

-- ## The list of them

uppers-from : (i k : ℕ) (l : List ℕ) → k < length l → get_or (uppers_from i l) k 0 ≡ upper_from (suc (i + k)) (get_or l k 0) (drop (suc k) l)
uppers-from i k [] h = absurd (omega arith)
uppers-from i zero (S ∷ l) h = let e : i + 0 ≡ i = omega arith in rw e refl
uppers-from i (suc k) (S ∷ l) h = let e : i + suc k ≡ suc i + k = omega arith in rw e (uppers-from (suc i) k l (omega arith))

-- the upper row of row k, counted from 0
pub uppers-at : (l : List ℕ) (k : ℕ) → k < length l → upper_from (suc (k + 1)) (get_or l k 0) (drop (k + 1) l) ≡ get_or (uppers l) k 0
uppers-at l k h = let e : 1 + k ≡ k + 1 = omega arith in rw (uppers-from 1 k l h, e, add-one) refl

pub uppers-length : (i : ℕ) (l : List ℕ) → length (uppers_from i l) ≡ length l
uppers-length i [] = refl
uppers-length i (S ∷ l) = ap suc (uppers-length (suc i) l)

-- ## Where it stands

upper_from_most : (i S : ℕ) (l : List ℕ) → upper_from (suc i) S l ≤ i + length l
upper_from_most i S [] = omega arith
upper_from_most i S (R ∷ l) = let ih = upper_from_most (suc i) S l in cases (contains R S) (λ e. rw e (omega arith)) (λ e. rw e (omega arith))

upper_from_later : (i S : ℕ) (l : List ℕ) → 0 < upper_from (suc i) S l → i < upper_from (suc i) S l
upper_from_later i S [] h = absurd (omega arith)
upper_from_later i S (R ∷ l) h =
    let ih = upper_from_later (suc i) S l in
    cases (contains R S) (λ e. rw e (omega arith)) (λ e. let g = rw e at h in rw e (omega (arith, ih g)))

-- an upper row is one of the rows, and later than the row, counted from 0
pub upper-most : (l : List ℕ) (k : ℕ) → k < length l → get_or (uppers l) k 0 ≤ length l
upper-most l k h = omega (arith, uppers-from 1 k l h, upper_from_most (1 + k) (get_or l k 0) (drop (suc k) l), length-drop (suc k) l)

pub upper_later : (l : List ℕ) (k : ℕ) → k < length l → 0 < get_or (uppers l) k 0 → k + 1 < get_or (uppers l) k 0
upper_later l k h g = omega (arith, uppers-from 1 k l h, upper_from_later (1 + k) (get_or l k 0) (drop (suc k) l) (rw (uppers-from 1 k l h) at g))

-- ## What it is

-- where some row of the rest contains S there is an upper row, and it comes no later
upper_from_first : (i S : ℕ) (l : List ℕ) (j : ℕ) → j < length l → contains (get_or l j 0) S ≡ true → (0 < upper_from (suc i) S l)
    × (upper_from (suc i) S l ≤ suc i + j)
upper_from_first i S [] j h e = absurd (omega arith)
upper_from_first i S (R ∷ l) zero h e = rw e (omega arith)
upper_from_first i S (R ∷ l) (suc j) h e =
    let ih = upper_from_first (suc i) S l j (omega arith) e in cases (contains R S) (λ t. rw t (omega arith)) (λ t. rw t (omega arith))

-- an upper row contains S
upper_from_contains : (i S : ℕ) (l : List ℕ) → 0 < upper_from (suc i) S l → contains (get_or l (upper_from (suc i) S l - suc i) 0) S ≡ true
upper_from_contains i S [] h = absurd (omega arith)
upper_from_contains i S (R ∷ l) h =
    cases (contains R S)
    (λ t. let e : suc i - suc i ≡ 0 = omega arith in rw (t, e) t)
    (λ t.
    let g = rw t at h in
    let u = upper_from (suc (suc i)) S l in
    let e : u - suc i ≡ suc (u - suc (suc i)) = omega (arith, upper_from_later (suc i) S l g) in
    rw (t, e) (upper_from_contains (suc i) S l g))

module _ (l : List ℕ) (k : ℕ) (h : k < length l) where
  pub upper_first : (j : ℕ) → k < j → j < length l → contains (get_or l j 0) (get_or l k 0) ≡ true → (0 < get_or (uppers l) k 0) × (get_or (uppers l) k 0 ≤ j + 1)
  upper_first j a b e =
      let q : suc k + (j - suc k) ≡ j = omega arith in
      let f : get_or (drop (suc k) l) (j - suc k) 0 ≡ get_or l j 0 = get_or-drop (suc k) l (j - suc k) 0 ∙ ap (λ (x : ℕ). get_or l x 0) q in
      let r = upper_from_first (1 + k) (get_or l k 0) (drop (suc k) l) (j - suc k) (omega (arith, length-drop (suc k) l)) (rw f e) in
      omega (arith, uppers-from 1 k l h)

  pub upper-contains : 0 < get_or (uppers l) k 0 → contains (get_or l (get_or (uppers l) k 0 - 1) 0) (get_or l k 0) ≡ true
  upper-contains g =
      let u = get_or (uppers l) k 0 in
      let v = upper_later l k h g in
      let e = uppers-from 1 k l h in
      let r = upper_from_contains (1 + k) (get_or l k 0) (drop (suc k) l) (rw e at g) in
      let q : suc k + (u - suc (1 + k)) ≡ u - 1 = omega arith in
      let s : get_or (drop (suc k) l) (u - suc (1 + k)) 0 ≡ get_or l (u - 1) 0 = get_or-drop (suc k) l (u - suc (1 + k)) 0 ∙ ap (λ (x : ℕ). get_or l x 0) q in
      rw (← s, e) r
