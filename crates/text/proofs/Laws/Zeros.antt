-- Numbers and their blanks have no zero byte. Assumes nothing.
use Rattle.std.specs.Prelude.{true, List, [], ◌++◌, ◌∷◌, refl, ◌≡◌, suc, zero, ℕ, ◌%◌, ◌/◌, ◌<◌, ltb, get_or, length}
use Rattle.std.proofs.Common.{arith, lt-ltb, ltb-true}
use borrow.Table.Steps.{cases}
use Rattle.ground.specs.Laws.Tests.{and_l, and_r}
use Rattle.text.specs.Decimal.{decimal, digit, digits}
use Rattle.text.specs.Fields.{field, fields}
use Rattle.text.specs.Zeros.{no_zero}

pub no_zero_join : (l m : List ℕ) → no_zero l ≡ true → no_zero m ≡ true → no_zero (l ++ m) ≡ true
no_zero_join [] m e f = f
no_zero_join (x ∷ l) m e f = rw (and_l (ltb 0 x) (no_zero l) e, no_zero_join l m (and_r (ltb 0 x) (no_zero l) e) f) refl

digit_no_zero : (d : ℕ) → no_zero (digit d ∷ []) ≡ true
digit_no_zero d = rw (lt-ltb 0 (digit d) (omega arith)) refl

digits_no_zero : (k x : ℕ) → no_zero (digits k x) ≡ true
unfolding digits
digits_no_zero zero x = refl
digits_no_zero (suc k) x =
    let ih = digits_no_zero k (x / 10) in
    cases (ltb x 10) (λ e. rw e (digit_no_zero x)) (λ e. rw e (no_zero_join (digits k (x / 10)) _ ih (digit_no_zero (x % 10))))

pub field_no_zero : (x : ℕ) → no_zero (field x) ≡ true
unfolding field decimal
field_no_zero x = digits_no_zero 20 x

pub fields_no_zero : (l : List ℕ) → no_zero (fields l) ≡ true
unfolding fields
fields_no_zero [] = refl
fields_no_zero (x ∷ l) = no_zero_join (field x) (fields l) (field_no_zero x) (fields_no_zero l)

-- place by place
pub no_zero_at : (l : List ℕ) → no_zero l ≡ true → (i : ℕ) → i < length l → 0 < get_or l i 0
no_zero_at [] e i h = absurd (omega arith)
no_zero_at (x ∷ l) e zero h = ltb-true 0 x (and_l (ltb 0 x) (no_zero l) e)
no_zero_at (x ∷ l) e (suc i) h = no_zero_at l (and_r (ltb 0 x) (no_zero l) e) i (omega arith)
