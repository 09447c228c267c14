-- Far sides once an image has left: they part the images that are left as they did before. Assumes nothing.
use Rattle.std.specs.Prelude.{false, not, ◌↔◌, ◌≡◌, suc, zero, ℕ, ◌-◌, ◌/◌, ◌<◌, ◌^◌, eqb}
use Rattle.std.proofs.Common.{ap, ap₂, sym, ◌∙◌, arith, pow_pos, ne_eqb}
use borrow.Table.Steps.{cases}
use Rattle.ground.specs.Bits.{bit}
use Rattle.ground.specs.Laws.Bits.{bit_ext, bit_none}
use Rattle.ground.specs.Tests.{one_of}
use Rattle.theory.specs.FarSides.{holds, own}
use Rattle.theory.specs.Laws.Nested.{bit-holds, bit_holds_not, holds_false, holds_true}
use Rattle.mending.specs.Laws.OldNumbers.{had_lt, had-other, had_same}
use Rattle.mending.specs.Laws.TakeOut.{bit-take_out, take_out_lt}
use Rattle.theory.proofs.Laws.OwnLinks.{own-far}
use Rattle.theory.specs.Laws.OwnParts.{one_of_nots, own_parts}
use Rattle.mending.specs.Leaving.{had, named, renamed, take_out}
use Rattle.theory.specs.LinkTables.{apart}

-- ## Named again

bit-rest : (m S i : ℕ) → S < 2 ^ m → i < m → bit (2 ^ m - 1 - S) i ≡ 1 - bit S i
bit-rest zero S i h l = absurd (omega arith)
bit-rest (suc m) S zero h l = omega (arith, pow_pos m)
bit-rest (suc m) S (suc i) h l =
    let e : (2 ^ suc m - 1 - S) / 2 ≡ 2 ^ m - 1 - S / 2 = omega (arith, pow_pos m) in
    rw e (bit-rest m (S / 2) i (omega arith) (omega arith))

holds-rest : (m S i : ℕ) → S < 2 ^ m → i < m → holds (2 ^ m - 1 - S) i ≡ not (holds S i)
holds-rest m S i h l =
    cases (holds S i)
    (λ e. rw e (bit_holds_not (2 ^ m - 1 - S) i (omega (arith, bit-rest m S i h l, holds_true S i e))))
    (λ e. rw e (bit-holds (2 ^ m - 1 - S) i (omega (arith, bit-rest m S i h l, holds_false S i e))))

named_parts : (m S i j : ℕ) → S < 2 ^ m → i < m → j < m → apart (named m S) i j ≡ apart S i j
named_parts m S i j h hi hj =
    cases (holds S 0)
    (λ e. rw e (ap₂ one_of (holds-rest m S i h hi) (holds-rest m S j h hj) ∙ one_of_nots (holds S i) (holds S j)))
    (λ e. rw e)

named_lt : (m S : ℕ) → S < 2 ^ m → named m S < 2 ^ m
named_lt m S h = cases (holds S 0) (λ e. rw e (omega (arith, pow_pos m))) (λ e. rw e h)

named-near : (m S : ℕ) → 0 < m → S < 2 ^ m → bit (named m S) 0 ≡ 0
named-near m S p h =
    cases (holds S 0)
    (λ e. rw e (omega (arith, bit-rest m S 0 h p, holds_true S 0 e)))
    (λ e. rw e (holds_false S 0 e))

-- ## A far side once x has left

module _ (m x : ℕ) (hx : x < suc m) where
  -- it parts the images that are left as it did
  pub renamed_parts : (S i j : ℕ) → S < 2 ^ suc m → i < m → j < m → apart (renamed m x S) i j ≡ apart S (had x i) (had x j)
  renamed_parts S i j h hi hj =
      named_parts m (take_out x S) i j (take_out_lt m x S hx h) hi hj
      ∙ ap₂ one_of (ap (λ (b : ℕ). eqb b 1) (bit-take_out x S i)) (ap (λ (b : ℕ). eqb b 1) (bit-take_out x S j))

  pub renamed_lt : (S : ℕ) → S < 2 ^ suc m → renamed m x S < 2 ^ m
  renamed_lt S h = named_lt m (take_out x S) (take_out_lt m x S hx h)

  pub renamed-near : (S : ℕ) → 0 < m → S < 2 ^ suc m → bit (renamed m x S) 0 ≡ 0
  renamed-near S p h = named-near m (take_out x S) p (take_out_lt m x S hx h)

-- what parts image 0 from the same images is the same
pub parts_ext : (m S R : ℕ) → S < 2 ^ m → R < 2 ^ m → bit S 0 ≡ 0 → bit R 0 ≡ 0 → ((j : ℕ) → j < m → apart S 0 j ≡ apart R 0 j) → S ≡ R
parts_ext m S R s r s₀ r₀ h =
    bit_ext m S R s r (λ j l.
    let e : holds S j ≡ holds R j = (let q = h j l in rw (bit_holds_not S 0 s₀, bit_holds_not R 0 r₀) at q) in
    cases (holds R j)
    (λ t. omega (arith, holds_true S j (e ∙ t), holds_true R j t))
    (λ t. omega (arith, holds_false S j (e ∙ t), holds_false R j t)))

-- it is 0 exactly where all images that are left stand on one side: one of its groups became empty
pub renamed_none : (m x S : ℕ) → x < suc m → 0 < m → S < 2 ^ suc m → (renamed m x S ≡ 0) ↔ ((j : ℕ) → j < m → apart S (had x 0) (had x j) ≡ false)
renamed_none m x S hx p h = (
  λ e j l. sym (renamed_parts m x hx S 0 j h p l) ∙ ap (λ (z : ℕ). apart z 0 j) e ∙ none j,
  λ t. parts_ext m (renamed m x S) 0 (renamed_lt m x hx S h) (pow_pos m) (renamed-near m x hx S p h) (bit_none 0)
      (λ j l. renamed_parts m x hx S 0 j h p l ∙ t j l ∙ sym (none j)),
)
  where
    none : (j : ℕ) → apart 0 0 j ≡ false
    none j = ap₂ one_of (bit_holds_not 0 0 (bit_none 0)) (bit_holds_not 0 j (bit_none j))

-- ## Own links

module _ (k x : ℕ) (hx : x < suc (suc (suc k))) where
  abbrev m : ℕ
  m = suc (suc k)

  own_fits : (i : ℕ) → i < suc m → own (suc m) i < 2 ^ suc m
  own_fits i h = (own-far (suc k) i h).fits

  -- the own link of an image that is left is its own link
  pub own-left : (i : ℕ) → i < m → renamed m x (own (suc m) (had x i)) ≡ own m i
  own-left i h =
      let l = had_lt m x i h in
      let o = own-far k i h in
      parts_ext m (renamed m x (own (suc m) (had x i))) (own m i) (renamed_lt m x hx (own (suc m) (had x i)) (own_fits (had x i) l)) o.fits
      (renamed-near m x hx (own (suc m) (had x i)) (omega arith) (own_fits (had x i) l)) o.near
      (λ j hj.
      renamed_parts m x hx (own (suc m) (had x i)) 0 j (own_fits (had x i) l) (omega arith) hj
      ∙ own_parts (suc m) (had x i) (had x 0) (had x j) (had_lt m x 0 (omega arith)) (had_lt m x j hj)
      ∙ ap₂ one_of (had_same x i 0) (had_same x i j)
      ∙ sym (own_parts m i 0 j (omega arith) hj))

  -- and x's own has an empty group
  pub own_gone : renamed m x (own (suc m) x) ≡ 0
  own_gone =
      parts_ext m (renamed m x (own (suc m) x)) 0 (renamed_lt m x hx (own (suc m) x) (own_fits x hx)) (pow_pos m)
      (renamed-near m x hx (own (suc m) x) (omega arith) (own_fits x hx)) (bit_none 0)
      (λ j hj.
      renamed_parts m x hx (own (suc m) x) 0 j (own_fits x hx) (omega arith) hj
      ∙ own_parts (suc m) x (had x 0) (had x j) (had_lt m x 0 (omega arith)) (had_lt m x j hj)
      ∙ ap₂ one_of (ne_eqb x (had x 0) (had-other x 0)) (ne_eqb x (had x j) (had-other x j))
      ∙ sym (ap₂ one_of (bit_holds_not 0 0 (bit_none 0)) (bit_holds_not 0 j (bit_none j))))
