-- Laws of climbing by upper rows. Assumes nothing.
use mathlib.Core.List.Memᴰ
use mathlib.Core.List.{List, Memᴰ, [], ◌∷◌}
use Rattle.std.proofs.Common.{ap, sym, ◌∙◌, arith, eqb-true}
use Rattle.std.specs.Prelude.{refl, ◌≡◌, suc, zero, ℕ, ◌+◌, ◌-◌, ◌<◌, ◌≤◌, eqb, get_or, length}
use Rattle.std.proofs.lemmas.Bool.{eqb-false}
use borrow.Table.Steps.{cases}
use Rattle.ground.specs.Ascending.{Between}
use Rattle.ground.specs.Laws.Ascending.{between_from, between_mem}
use Rattle.theory.specs.Routes.{climb, uppers}
use Rattle.climbing.specs.Laws.UpperRows.{upper_later, upper-most}
use Rattle.climbing.specs.Climbs.{climb_from}

pub climb_none : (u : List ℕ) (m : ℕ) → climb u m 0 ≡ []
climb_none u zero = refl
climb_none u (suc m) = refl

-- more steps than rows are left change nothing
enough : (l : List ℕ) (f g r : ℕ) → r ≤ length l → length l < r + f → length l < r + g → climb (uppers l) f r ≡ climb (uppers l) g r
enough l zero g r h a b = absurd (omega arith)
enough l (suc f) g zero h a b = sym (climb_none (uppers l) g)
enough l (suc f) zero (suc p) h a b = absurd (omega arith)
enough l (suc f) (suc g) (suc p) h a b =
    ap (λ t. suc p ∷ t)
    (cases (eqb (get_or (uppers l) p 0) 0)
    (λ e. rw (eqb-true (get_or (uppers l) p 0) 0 e) (climb_none (uppers l) f ∙ sym (climb_none (uppers l) g)))
    (λ e.
    let u = upper_later l p (omega arith) (omega (arith, eqb-false (get_or (uppers l) p 0) 0 e)) in
    enough l f g (get_or (uppers l) p 0) (upper-most l p (omega arith)) (omega arith) (omega arith)))

-- one row, and on from its upper row
pub climb-next : (l : List ℕ) (r : ℕ) → 0 < r → r ≤ length l → climb_from l r ≡ r ∷ climb_from l (get_or (uppers l) (r - 1) 0)
climb-next l zero a h = absurd (omega arith)
climb-next l (suc p) a h = go (length l) refl
  where
    go : (N : ℕ) → length l ≡ N → climb (uppers l) N (suc p) ≡ suc p ∷ climb (uppers l) N (get_or (uppers l) (suc p - 1) 0)
    go zero e = absurd (omega arith)
    go (suc m) e =
        let q : suc p - 1 ≡ p = omega arith in
        rw q (ap (λ t. suc p ∷ t)
        (cases (eqb (get_or (uppers l) p 0) 0)
        (λ z. rw (eqb-true (get_or (uppers l) p 0) 0 z) (climb_none (uppers l) m ∙ sym (climb_none (uppers l) (suc m))))
        (λ z.
        let u = upper_later l p (omega arith) (omega (arith, eqb-false (get_or (uppers l) p 0) 0 z)) in
        enough l m (suc m) (get_or (uppers l) p 0) (upper-most l p (omega arith)) (omega arith) (omega arith))))

-- and at the last row it ends
pub climb_last : (l : List ℕ) (r : ℕ) → 0 < r → r ≤ length l → get_or (uppers l) (r - 1) 0 ≡ 0 → climb_from l r ≡ r ∷ []
climb_last l r a h e = let q = climb-next l r a h in rw (e, climb_none) at q

-- no more rows than are above
pub climb-most : (l : List ℕ) (m r : ℕ) → r ≤ length l → 0 < r → length (climb (uppers l) m r) + r ≤ length l + 1
climb-most l zero r h a = omega arith
climb-most l (suc m) zero h a = absurd (omega arith)
climb-most l (suc m) (suc p) h a =
    cases (eqb (get_or (uppers l) p 0) 0)
    (λ e. rw (eqb-true (get_or (uppers l) p 0) 0 e, climb_none (uppers l) m) (omega arith))
    (λ e.
    let u = upper_later l p (omega arith) (omega (arith, eqb-false (get_or (uppers l) p 0) 0 e)) in
    omega (arith, climb-most l m (get_or (uppers l) p 0) (upper-most l p (omega arith)) (omega arith)))

-- ## Every climb ascends

pub climb_between : (l : List ℕ) (m r : ℕ) → r ≤ length l → Between r (climb (uppers l) m r) (suc (length l))
climb_between l zero r h = omega arith
climb_between l (suc m) zero h = omega arith
climb_between l (suc m) (suc p) h =
    let u = get_or (uppers l) p 0 in (
      omega arith,
      cases (eqb u 0)
          (λ e. rw (eqb-true u 0 e, climb_none (uppers l) m) (omega arith))
          (λ e.
          let w = upper_later l p (omega arith) (omega (arith, eqb-false u 0 e)) in
          between_from (suc (suc p)) u (suc (length l)) (climb (uppers l) m u) (omega arith) (climb_between l m u (upper-most l p (omega arith)))),
    )

-- an ascending list that has its highest element ends with it
pub ends_with : (m N : ℕ) (l : List ℕ) → Between m l (suc N) → Memᴰ N l → get_or l (length l - 1) 0 ≡ N
ends_with m N [] b h = elim h [ ]
ends_with m N (x ∷ []) b (Memᴰ.head e) = sym e
ends_with m N (x ∷ []) b (Memᴰ.tail t) = absurd (Memᴰ.not-nil t)
ends_with m N (x ∷ y ∷ l) b (Memᴰ.head e) = absurd (omega (arith, between_mem (suc x) (suc N) (y ∷ l) b.1 y (Memᴰ.head refl)))
ends_with m N (x ∷ y ∷ l) b (Memᴰ.tail t) =
    let q : suc (suc (length l)) - 1 ≡ suc (suc (length l) - 1) = omega arith in rw q (ends_with (suc x) N (y ∷ l) b.1 t)
