-- A far side within another, image by image. Assumes nothing.
use Rattle.std.proofs.lemmas.Bool.{false≢true}
use Rattle.std.specs.Prelude.{true, ◌≡◌, ℕ, ◌<◌, ◌^◌}
use Rattle.std.proofs.Common.{inl, inr, sym, ◌∙◌, arith, eq-eqb, eqb-true}
use Rattle.std.proofs.lemmas.Nat.{and_le_r}
use Rattle.std.specs.Int.Bits.{bit_and}
use Rattle.ground.specs.Bits.{bit}
use Rattle.theory.specs.FarSides.{Nested}
use Rattle.theory.specs.Routes.{contains}
use Rattle.theory.specs.Laws.Contained.{and_within, within_and}
use Rattle.theory.specs.Laws.Nested.{bit-holds, holds_true}

-- what is within S has its images in S
pub contains-bit : (n S X m : ℕ) → m < n → contains S X ≡ true → bit X m ≡ 1 → bit S m ≡ 1
contains-bit n S X m l c x = holds_true S m (and_within n X S (eqb-true (bit_and X S) X c) m l (bit-holds X m x))

pub bit-contains : (n S X : ℕ) → X < 2 ^ n → ((m : ℕ) → m < n → bit X m ≡ 1 → bit S m ≡ 1) → contains S X ≡ true
bit-contains n S X f h = eq-eqb (bit_and X S) X (within_and n X S f (λ m l x. bit-holds S m (h m l (holds_true X m x))))

-- of two that are nested, the lower is within the other where they share an image
pub share_contains : (n S X m : ℕ) → S < 2 ^ n → X < 2 ^ n → X < S → m < n → bit X m ≡ 1 → bit S m ≡ 1 → Nested n X S → contains S X ≡ true
share_contains n S X m s f h l x y (inl w) = eq-eqb (bit_and X S) X (within_and n X S f w)
share_contains n S X m s f h l x y (inr (inl w)) = absurd (omega (arith, within_and n S X s w, and_le_r S X))
share_contains n S X m s f h l x y (inr (inr w)) = absurd (false≢true (sym (w m l (bit-holds X m x)) ∙ bit-holds S m y))
