-- The lowest place of a sibling below the one before is the first one, since what is in a bracket stands behind its own place and before what follows.
-- Assumes nothing.
use Rattle.std.specs.Prelude.{Bool, cond, false, true, ◌++◌, ◌∷◌, refl, ◌≡◌, suc, zero, ℕ, ◌+◌, ◌-◌, ◌<◌, ◌≤◌, ltb, length}
use Rattle.std.proofs.Common.{ap, ap₂, ◌∙◌, arith, length-append, pow_pos, le-ltb}
use borrow.Table.Steps.{cases}
use Rattle.ground.specs.Sums.{when}
use Rattle.text.specs.Decimal.{decimal}
use Rattle.newick_text.specs.Trees.{Siblings, behind, bracket, image, listed, none}
use Rattle.newick_text.specs.Tables.{image_side, side}
use Rattle.newick_text.specs.Noting.{fallen, image_bit, lower_place, mark, marked}
use Rattle.newick_text.specs.Order.{fall, fall_from, first_of}
use Rattle.newick_text.specs.Laws.Vertices.{Bushy, Named, Once}
use Rattle.newick_text.specs.Laws.Sizes.{size-side}
use Rattle.newick_table.specs.Laws.Marks.{New, behind_new, image_is, inside_new, marked-side, none_named}

-- ## Where a fall can be

image_length : (e i c : ℕ) (r : Siblings) → length (listed e (image i c r)) ≡ length (decimal i) + (length (decimal c) + 2) + length (listed e r)
unfolding listed
image_length e i c r =
    omega (arith, length-append (decimal i) (58 ∷ (decimal c ++ (behind e r ∷ listed e r))), length-append (decimal c) (behind e r ∷ listed e r))

bracket_length : (e c : ℕ) (g r : Siblings) → length (listed e (bracket g c r)) ≡ length (listed 41 g) + (length (decimal c) + 3) + length (listed e r)
unfolding listed
bracket_length e c g r =
    omega (arith, length-append (listed 41 g) (58 ∷ (decimal c ++ (behind e r ∷ listed e r))), length-append (decimal c) (behind e r ∷ listed e r))

-- at p or behind it, where there is one
fall_low : (p b : ℕ) (f : Siblings) → 0 < fall_from p b f → p ≤ fall_from p b f
unfolding fall_from
fall_low p b none h = absurd (omega arith)
fall_low p b (image i c r) h =
    let q = p + (length (decimal i) + (length (decimal c) + 2)) in
    let ih = fall_low q (image_side i) r in
    cases (ltb (image_side i) b) (λ e. rw e (omega arith)) (λ e. rw e (omega (arith, ih (rw e at h))))
fall_low p b (bracket g c r) h =
    let q = p + (length (listed 41 g) + (length (decimal c) + 3)) in
    let x = fall_from (suc p) 0 g in
    let y = fall_from q (side g) r in
    cases (ltb (side g) b) (λ e. rw e (omega arith)) (λ e. rw e (go x y (fall_low (suc p) 0 g) (fall_low q (side g) r) (rw e at h)))
  where
    go : (x y : ℕ) → (0 < x → suc p ≤ x) → (0 < y → p + (length (listed 41 g) + (length (decimal c) + 3)) ≤ y) → 0 < first_of x y → p ≤ first_of x y
    go zero y a b h = omega (arith, b h)
    go (suc x) y a b h = omega (arith, a h)

-- and not behind the last vertex
fall_high : (p b : ℕ) (f : Siblings) → fall_from p b f ≤ p + length (listed 41 f)
unfolding fall_from
fall_high p b none = omega arith
fall_high p b (image i c r) =
    let q = p + (length (decimal i) + (length (decimal c) + 2)) in
    let ih = fall_high q (image_side i) r in
    let l = image_length 41 i c r in
    cases (ltb (image_side i) b) (λ e. rw e (omega arith)) (λ e. rw e (omega (arith, ih, l)))
fall_high p b (bracket g c r) =
    let q = p + (length (listed 41 g) + (length (decimal c) + 3)) in
    let x = fall_from (suc p) 0 g in
    let y = fall_from q (side g) r in
    let l = bracket_length 41 c g r in
    cases (ltb (side g) b) (λ e. rw e (omega arith)) (λ e. rw e (go x y (fall_high (suc p) 0 g) (fall_high q (side g) r) l))
  where
    go : (x y : ℕ) → x ≤ suc p + length (listed 41 g) → y ≤ p + (length (listed 41 g) + (length (decimal c) + 3)) + length (listed 41 r)
        → length (listed 41 (bracket g c r)) ≡ length (listed 41 g) + (length (decimal c) + 3) + length (listed 41 r)
        → first_of x y ≤ p + length (listed 41 (bracket g c r))
    go zero y a b l = omega arith
    go (suc x) y a b l = omega arith

-- ## The lowest is the first

lower_here : (p y : ℕ) → (0 < y → p ≤ y) → 1 ≤ p → lower_place p y ≡ p
lower_here zero y h l = absurd (omega arith)
lower_here (suc p) zero h l = refl
lower_here (suc p) (suc y) h l = omega (arith, h (omega arith))

here_lower : (x p : ℕ) → (0 < x → p ≤ x) → 1 ≤ p → lower_place x p ≡ p
here_lower zero p h l = refl
here_lower (suc x) zero h l = absurd (omega arith)
here_lower (suc x) (suc p) h l = omega (arith, h (omega arith))

lower_first : (x y k : ℕ) → x ≤ k → (0 < y → k ≤ y) → lower_place x y ≡ first_of x y
lower_first zero y k h l = refl
lower_first (suc x) zero k h l = refl
lower_first (suc x) (suc y) k h l = omega (arith, l (omega arith))

-- of an image at p and what follows, then with what is in a bracket
lower_one : (t : Bool) (p y : ℕ) → 1 ≤ p → (0 < y → p ≤ y) → lower_place (when t p) y ≡ cond t p y
lower_one true p y l h = lower_here p y h l
lower_one false p y l h = refl

lower_two : (t : Bool) (p x y k : ℕ) → 1 ≤ p → (0 < x → p ≤ x) → x ≤ k → (0 < y → k ≤ y) → p ≤ k
    → lower_place x (lower_place (when t p) y) ≡ cond t p (first_of x y)
lower_two true p x y k l a b c d = ap (lower_place x) (lower_here p y (λ h. omega (arith, c h)) l) ∙ here_lower x p a l
lower_two false p x y k l a b c d = lower_first x y k b c

pub fallen-first : (m p b : ℕ) (f : Siblings) → 1 ≤ p → Named 64 f → New m f → fallen m p b f ≡ fall_from p b f
unfolding fallen fall_from
fallen-first m p b none l h o = refl
fallen-first m p b (image i c r) l h o =
    let q = p + (length (decimal i) + (length (decimal c) + 2)) in
    let e = image_is i h.1 in
    let ih = fallen-first (mark m i) q (image_bit i) r (omega arith) h.2 (behind_new m i c r h.0 h.1 o) in
    ap (lower_place (when (ltb (image_bit i) b) p)) ih
    ∙ ap (λ (x : ℕ). lower_place (when (ltb x b) p) (fall_from q x r)) e
    ∙ lower_one (ltb (image_side i) b) p (fall_from q (image_side i) r) l (λ z. omega (arith, fall_low q (image_side i) r z))
fallen-first m p b (bracket g c r) l h o =
    let q = p + (length (listed 41 g) + (length (decimal c) + 3)) in
    let n = inside_new m c g r h.0 o in
    let e : marked m g - m ≡ side g = omega (arith, marked-side m g h.0 n.0) in
    let ih = fallen-first m (suc p) 0 g (omega arith) h.0 n.0 in
    let jh = fallen-first (marked m g) q (marked m g - m) r (omega arith) h.1 n.1 in
    ap₂ (λ (x y : ℕ). lower_place x (lower_place (when (ltb (marked m g - m) b) p) y)) ih jh
    ∙ ap (λ (x : ℕ). lower_place (fall_from (suc p) 0 g) (lower_place (when (ltb x b) p) (fall_from q x r))) e
    ∙ lower_two (ltb (side g) b) p (fall_from (suc p) 0 g) (fall_from q (side g) r) q l (λ z. omega (arith, fall_low (suc p) 0 g z))
    (omega (arith, fall_high (suc p) 0 g)) (fall_low q (side g) r) (omega arith)

-- ## Image 1 apart

-- no far side is below 1
from_one : (p : ℕ) (r : Siblings) → Bushy r → fall_from p 1 r ≡ fall_from p 0 r
unfolding fall_from
from_one p none h = refl
from_one p (image i c r) h = rw (le-ltb (image_side i) 1 (pow_pos (i - 1)), le-ltb (image_side i) 0 (omega arith)) refl
from_one p (bracket g c r) h = rw (le-ltb (side g) 1 (omega (arith, size-side g h.1, h.0)), le-ltb (side g) 0 (omega arith)) refl

pub fallen-fall : (i c : ℕ) (r : Siblings) → i ≡ 1 → Named 64 (image i c r) → Once (image i c r) → Bushy r → fallen 0 2 0 (image i c r) ≡ fall (image i c r)
unfolding fallen
fallen-fall i c r e h o b =
    let q = 2 + (length (decimal i) + (length (decimal c) + 2)) in
    let one : image_bit i ≡ 1 = ap image_bit e in
    rw (le-ltb (image_bit i) 0 (omega arith))
    (fallen-first (mark 0 i) q (image_bit i) r (omega arith) h.2 (behind_new 0 i c r h.0 h.1 (none_named (image i c r) o))
    ∙ ap (λ (x : ℕ). fall_from q x r) one ∙ from_one q r b)
