-- Upper rows and routes: every row but the last has an upper row, and every route ends at the last row.
-- Assumes nothing.
use Rattle.std.specs.Prelude.{false, ◌⊎◌, refl, ◌≡◌, suc, zero, ℕ, ◌+◌, ◌-◌, ◌/◌, ◌<◌, ◌^◌, ◌≤◌, eqb, get_or, length}
use mathlib.Core.List.Memᴰ
use mathlib.Core.List.{List, Memᴰ, [], ◌∷◌}
use Rattle.std.proofs.Common.{inl, inr, ap, sym, ◌∙◌, arith, pow_pos, eqb-true}
use Rattle.std.specs.Int.Bits.{bit_and}
use Rattle.std.proofs.lemmas.Bool.{eqb-false}
use borrow.Table.Steps.{cases}
use Rattle.ground.specs.Ascending.{Between}
use Rattle.ground.specs.Laws.Ascending.{between_from}
use Rattle.ground.specs.Bits.{bit}
use Rattle.ground.specs.Laws.Bits.{bit_full}
use Rattle.ground.specs.Filters.{Each}
use Rattle.ground.specs.Laws.Maps.{map-mem}
use Rattle.ground.specs.Members.{place_of}
use Rattle.theory.specs.FarSides.{FarSide, Within, own}
use Rattle.theory.specs.Laws.Contained.{within_and}
use Rattle.theory.specs.Laws.Nested.{bit-holds, holds_true}
use Rattle.theory.proofs.Laws.Paths.{row-far}
use Rattle.theory.specs.LinkTables.{LinkTable, Row, far, fars}
use Rattle.theory.specs.Routes.{climb, contains, route, upper_from, uppers, uppers_from}

-- the far side of all images but 0 contains every far side
full_within : (k S : ℕ) → FarSide (suc k) S → Within (suc k) S (own (suc k) 0)
full_within k S f zero h e = absurd (omega (arith, f.near, holds_true S 0 e))
full_within k S f (suc i) h e =
    let q : (2 ^ suc k - 2) / 2 ≡ 2 ^ k - 1 = omega (arith, pow_pos k) in
    bit-holds (2 ^ suc k - 2) (suc i) (ap (λ (x : ℕ). bit x i) q ∙ bit_full k i (omega arith))

pub full_contains : (k S : ℕ) → FarSide (suc k) S → bit_and S (own (suc k) 0) ≡ S
full_contains k S f = within_and (suc k) S (own (suc k) 0) f.fits (full_within k S f)

-- where some far side of l contains S, the first that does has a number from i on
upper-some : (i S R : ℕ) (l : List ℕ) → Memᴰ R l → bit_and S R ≡ S → (i ≤ upper_from i S l) × (upper_from i S l < i + length l)
upper-some i S R [] m e = absurd (Memᴰ.not-nil m)
upper-some i S R (Q ∷ l) m e =
    cases (contains Q S) (λ t. rw t (omega arith))
    (λ t. rw t (go (Memᴰ.cases_cons m) t (upper-some (suc i) S R l)))
  where
    go : (R ≡ Q) ⊎ Memᴰ R l → contains Q S ≡ false
        → (Memᴰ R l → bit_and S R ≡ S → (suc i ≤ upper_from (suc i) S l) × (upper_from (suc i) S l < suc i + length l))
        → (i ≤ upper_from (suc i) S l) × (upper_from (suc i) S l < i + suc (length l))
    go (inl q) t ih = absurd (eqb-false (bit_and S Q) S t (ap (bit_and S) (sym q) ∙ e))
    go (inr s) t ih = omega (arith, ih s e)

-- far sides of suc k images, ascending, the last of which is all but image 0
record Ends (k m : ℕ) (l : List ℕ) : Type 0 where
  ascending : Between m l (2 ^ suc k)
  sides : Each l (FarSide (suc k))
  full : Memᴰ (own (suc k) 0) l

ends_tail : (k m S R : ℕ) (l : List ℕ) → Ends k m (S ∷ R ∷ l) → Ends k (suc S) (R ∷ l)
ends_tail k m S R l e = record {
  ascending = e.ascending.1;
  sides = λ Q t. e.sides Q (Memᴰ.tail t);
  full = go (Memᴰ.cases_cons e.full);
}
  where
    go : (own (suc k) 0 ≡ S) ⊎ Memᴰ (own (suc k) 0) (R ∷ l) → Memᴰ (own (suc k) 0) (R ∷ l)
    go (inl q) = let f = e.sides R (Memᴰ.tail (Memᴰ.head refl)) in absurd (omega (arith, f.near, f.fits, e.ascending.1.0, q))
    go (inr t) = t

-- row p of l, counted from 0, has the number i + p; its upper row comes later, and the last row has none
uppers_later : (k i m : ℕ) (l : List ℕ) → Ends k m l → (p : ℕ) → suc p < length l
    → (i + p < get_or (uppers_from i l) p 0) × (get_or (uppers_from i l) p 0 < i + length l)
uppers_later k i m [] e p h = absurd (omega arith)
uppers_later k i m (S ∷ []) e p h = absurd (omega arith)
uppers_later k i m (S ∷ R ∷ l) e zero h =
    omega (arith, upper-some (suc i) S (own (suc k) 0) (R ∷ l) (ends_tail k m S R l e).full (full_contains k S (e.sides S (Memᴰ.head refl))))
uppers_later k i m (S ∷ R ∷ l) e (suc p) h = omega (arith, uppers_later k (suc i) (suc S) (R ∷ l) (ends_tail k m S R l e) p (omega arith))

uppers_last : (i p : ℕ) (l : List ℕ) → suc p ≡ length l → get_or (uppers_from i l) p 0 ≡ 0
uppers_last i p [] h = absurd (omega arith)
uppers_last i zero (S ∷ []) h = refl
uppers_last i zero (S ∷ R ∷ l) h = absurd (omega arith)
uppers_last i (suc p) (S ∷ l) h = uppers_last (suc i) p l (omega arith)

-- ## Routes

climb_none : (u : List ℕ) (m : ℕ) → climb u m 0 ≡ []
climb_none u zero = refl
climb_none u (suc m) = refl

-- N rows; u leads each row but the last to a later one
pub record Leads (N : ℕ) (u : List ℕ) : Type 0 where
  pub later : (p : ℕ) → suc p < N → (suc p < get_or u p 0) × (get_or u p 0 ≤ N)
  pub last : (p : ℕ) → suc p ≡ N → get_or u p 0 ≡ 0

-- a route ascends strictly, and has the last row in it
climb_ends : (N : ℕ) (u : List ℕ) → Leads N u → (m r : ℕ) → 0 < r → r ≤ N → N < r + m → Between r (climb u m r) (suc N) × Memᴰ N (climb u m r)
climb_ends N u h zero r a b c = absurd (omega arith)
climb_ends N u h (suc m) zero a b c = absurd (omega arith)
climb_ends N u h (suc m) (suc p) a b c =
    cases (eqb (suc p) N)
    (λ e. rw (h.last p (eqb-true (suc p) N e), climb_none u m) ((omega arith, omega arith), Memᴰ.head (sym (eqb-true (suc p) N e))))
    (λ e.
    let l = h.later p (omega (arith, eqb-false (suc p) N e)) in
    let r = climb_ends N u h m (get_or u p 0) (omega arith) l.1 (omega arith) in
    ((omega arith, between_from (suc (suc p)) (get_or u p 0) (suc N) (climb u m (get_or u p 0)) l.0 r.0), Memᴰ.tail r.1))

row_of : (i x : ℕ) (l : List ℕ) → Memᴰ x l → (i ≤ place_of i x l) × (place_of i x l < i + length l)
row_of i x [] m = absurd (Memᴰ.not-nil m)
row_of i x (y ∷ l) m =
    cases (eqb x y) (λ t. rw t (omega arith)) (λ t. rw t (go t (Memᴰ.cases_cons m) (row_of (suc i) x l)))
  where
    go : eqb x y ≡ false → (x ≡ y) ⊎ Memᴰ x l → (Memᴰ x l → (suc i ≤ place_of (suc i) x l) × (place_of (suc i) x l < suc i + length l))
        → (i ≤ place_of (suc i) x l) × (place_of (suc i) x l < i + suc (length l))
    go t (inl e) ih = absurd (eqb-false x y t e)
    go t (inr s) ih = omega (arith, ih s)

module _ (L k : ℕ) (T : List Row) (t : LinkTable L (suc k) T) where
  ends : Ends k 1 (fars T)
  ends = record {
    ascending = t.ascending;
    sides = λ S m. let r = map-mem far T S m in rw r.1 (row-far L (suc k) T t r.0 r.2);
    full = t.owns 0 (omega arith);
  }

  -- in a link table each row but the last has a later row for its upper row
  pub upper-rows : Leads (length (fars T)) (uppers (fars T))
  upper-rows = record {
    later = λ p h. omega (arith, uppers_later k 1 1 (fars T) ends p h);
    last = λ p h. uppers_last 1 p (fars T) h;
  }

  -- the route of an image climbs to the last row
  pub route_ends : (i : ℕ) → i < suc k
      → Between (place_of 1 (own (suc k) i) (fars T)) (route (suc k) (fars T) i) (suc (length (fars T))) × Memᴰ (length (fars T)) (route (suc k) (fars T) i)
  route_ends i h =
      let r = row_of 1 (own (suc k) i) (fars T) (t.owns i h) in
      climb_ends (length (fars T)) (uppers (fars T)) upper-rows (length (fars T)) (place_of 1 (own (suc k) i) (fars T)) (omega arith) (omega arith) (omega arith)
