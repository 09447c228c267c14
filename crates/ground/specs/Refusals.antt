-- Checks one after another: the first refusal is the answer. Assumes nothing.
use Rattle.std.specs.Prelude.{Result, Bool, false, true, ◌||◌, ℕ, ltb, ℤ, Ok, Err}
use Rattle.ground.specs.declared.Refusal.{Refusal}
use Rattle.ground.specs.declared.TableRefusal.{TableRefusal}

-- what a check answers: that it passed, or its refusal
abbrev pub Check : Type 0
Check = Result (Unit {0}) Refusal

-- what a call answers that gives one number
abbrev pub Answer : Type 0
Answer = Result ℕ Refusal

-- what a call answers that gives one signed number
abbrev pub SignedAnswer : Type 0
SignedAnswer = Result ℤ Refusal

-- what a call answers that writes into lent slices: how many places of each it wrote
abbrev pub Written : Type 0
Written = Result ℕ Refusal

-- a number, and up to four places, unused ones 0
abbrev pub refusal : ℕ → ℕ → ℕ → ℕ → ℕ → Refusal
refusal m a b c d = record { number = m; a = a; b = b; c = c; d = d }

-- refused, with the table's number k
abbrev pub refused_in : {A : Type 0} → ℕ → Refusal → Result A TableRefusal
refused_in k r = Err (record { table = k; refusal = r })

-- refused where the test holds
abbrev pub refuse_if : Bool → Refusal → Check
refuse_if true r = Err r
refuse_if false r = Ok tt

-- the first check, and the second where the first passed
infixr 20 ◌then◌
abbrev pub ◌then◌ : Check → Check → Check
◌then◌ (Ok tt) y = y
◌then◌ (Err r) y = Err r

-- m is not one of low, low + 1, .., high
abbrev pub outside : ℕ → ℕ → ℕ → Bool
outside low high m = ltb m low || ltb high m

-- 3: too little room for so many places
abbrev pub room_check : ℕ → ℕ → Check
room_check needed room = refuse_if (ltb room needed) (refusal 3 0 0 0 0)

-- y where the check passed; else its refusal, as the answer has it
abbrev pub if_passed : {A : Type 0} → (Refusal → A) → Check → A → A
if_passed refused (Ok tt) y = y
if_passed refused (Err r) y = refused r

-- the value where the check passed
abbrev pub value_if : Check → ℕ → Answer
value_if c v = if_passed Err c (Ok v)

-- the same with a signed number
abbrev pub signed_if : Check → ℤ → SignedAnswer
signed_if c v = if_passed Err c (Ok v)

-- the number of places written where the check passed
abbrev pub places_if : Check → ℕ → Written
places_if c v = if_passed Err c (Ok v)
