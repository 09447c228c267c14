-- Laws of tests joined by and, or, not, exactly one. Assumes nothing.
use Rattle.std.specs.Prelude.{Bool, false, not, true, ◌&&◌, ◌||◌, ◌⊎◌, refl, ◌≡◌}
use Rattle.std.proofs.lemmas.Bool.{false≢true}
use Rattle.std.proofs.Common.{true≢false, inl, inr, ap}
use Rattle.ground.specs.Tests.{one_of}

pub and_l : (a b : Bool) → (a && b) ≡ true → a ≡ true
and_l true b e = refl
and_l false b e = e

pub and_r : (a b : Bool) → (a && b) ≡ true → b ≡ true
and_r true b e = e
and_r false b e = absurd (false≢true e)

pub and_not_both : (a b : Bool) → (a && b) ≡ false → a ≡ true → b ≡ false
and_not_both true b e f = e
and_not_both false b e f = absurd (false≢true f)

pub and_not_not : (a b : Bool) → (a && not b) ≡ false → a ≡ true → b ≡ true
and_not_not true true e f = refl
and_not_not true false e f = absurd (true≢false e)
and_not_not false b e f = absurd (false≢true f)

pub or_cases : (a b : Bool) → (a || b) ≡ true → (a ≡ true) ⊎ (b ≡ true)
or_cases true b e = inl refl
or_cases false b e = inr e

pub or_l : (a b : Bool) → a ≡ true → (a || b) ≡ true
or_l true b e = refl
or_l false b e = absurd (false≢true e)

pub or_r : (a b : Bool) → b ≡ true → (a || b) ≡ true
or_r true b e = refl
or_r false b e = e

pub false_not : (a : Bool) → a ≡ false → not a ≡ true
false_not a e = ap not e

-- a test that is not false is true
pub or_false : (a b : Bool) → (a || b) ≡ false → (a ≡ false) × (b ≡ false)
or_false true b e = absurd (true≢false e)
or_false false b e = (refl, e)

pub one_of_sym : (a b : Bool) → one_of a b ≡ one_of b a
one_of_sym true true = refl
one_of_sym true false = refl
one_of_sym false true = refl
one_of_sym false false = refl

pub one_of_self : (a : Bool) → one_of a a ≡ false
one_of_self true = refl
one_of_self false = refl

-- seen from a third
pub one_of_from : (a b c : Bool) → one_of b c ≡ one_of (one_of a b) (one_of a c)
one_of_from true true true = refl
one_of_from true true false = refl
one_of_from true false true = refl
one_of_from true false false = refl
one_of_from false true true = refl
one_of_from false true false = refl
one_of_from false false true = refl
one_of_from false false false = refl

pub one_of_not : (a b : Bool) → one_of a b ≡ true → b ≡ not a
one_of_not true true e = absurd (false≢true e)
one_of_not true false e = refl
one_of_not false true e = refl
one_of_not false false e = absurd (false≢true e)

pub not_one_of : (a b : Bool) → not (one_of a b) ≡ true → b ≡ a
not_one_of true true e = refl
not_one_of true false e = absurd (false≢true e)
not_one_of false true e = absurd (false≢true e)
not_one_of false false e = refl
