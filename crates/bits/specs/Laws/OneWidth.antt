-- Fields of one width, one after another: where field k stands, one field more, and all of them read. Assumes nothing.
use Rattle.std.specs.Prelude.{List, [], ◌++◌, ◌∷◌, refl, ◌≡◌, ℕ, suc, zero, ◌*◌, ◌+◌, ◌<◌, ◌^◌, ◌≤◌, get_or, length}
use Rattle.std.proofs.Common.{append_assoc, append-nil, ap, ap₂, sym, ◌∙◌, add-zero, mul-le-mul_left, mul-suc, mul-zero, add-one, arith, length-append}
use Rattle.bits.specs.Bits.{AllBits, bits_of, part, value_of}
use Rattle.bits.specs.Forms.{field_value, fields_of, field_bits}
use Rattle.bits.specs.Laws.Numbers.{all_bits_part, bits-value, length-bits_of, value-bits}
use Rattle.bits.specs.Laws.Parts.{length_part, part_cut, part-more}
use Rattle.bits.specs.Listed.{listed}

-- bits read as a number are the bits of that number
pub part_again : (l : List ℕ) (position w : ℕ) → AllBits l → position + w ≤ length l → bits_of w (value_of (part l position w)) ≡ part l position w
part_again l position w b h =
    ap (λ (k : ℕ). bits_of k (value_of (part l position w))) (sym (length_part l position w h)) ∙ bits-value (all_bits_part position w b)

pub length_fields : (w : ℕ) (vs : List ℕ) → length (field_bits (fields_of w vs)) ≡ w * length vs
unfolding field_bits
length_fields w [] = sym (mul-zero w)
length_fields w (v ∷ vs) = omega (arith, length-append (bits_of w v) (field_bits (fields_of w vs)), length-bits_of w v, length_fields w vs, mul-suc w (length vs))

-- field k of them
pub field_at_lem : (w : ℕ) (a vs r : List ℕ) (position k : ℕ) → length a ≡ position → k < length vs
    → part (a ++ (field_bits (fields_of w vs) ++ r)) (position + w * k) w ≡ bits_of w (get_or vs k 0)
unfolding field_bits
field_at_lem w a [] r position k e h = absurd (omega arith)
field_at_lem w a (v ∷ vs) r position zero e h =
    rw (mul-zero, add-zero, append_assoc (bits_of w v) (field_bits (fields_of w vs)) r)
    (part_cut a (bits_of w v) (field_bits (fields_of w vs) ++ r) position w e (length-bits_of w v))
field_at_lem w a (v ∷ vs) r position (suc k) e h =
    let x = bits_of w v in
    ap₂ (λ (l : List ℕ) (p : ℕ). part l p w)
    (ap (λ (l : List ℕ). a ++ l) (append_assoc x (field_bits (fields_of w vs)) r) ∙ sym (append_assoc a x (field_bits (fields_of w vs) ++ r)))
    (omega (arith, mul-suc w k))
    ∙ field_at_lem w (a ++ x) vs r (position + w) k (omega (arith, length-append a x, length-bits_of w v)) (omega arith)

-- its value, where it fits the width
pub field-value : (w : ℕ) (a vs r : List ℕ) (position k : ℕ) → length a ≡ position → k < length vs → get_or vs k 0 < 2 ^ w
    → field_value (a ++ (field_bits (fields_of w vs) ++ r)) position w k ≡ get_or vs k 0
unfolding field_value
field-value w a vs r position k e h l = ap value_of (field_at_lem w a vs r position k e h) ∙ value-bits w (get_or vs k 0) l

-- one field more
pub fields-more : (w : ℕ) (vs : List ℕ) (v : ℕ) → field_bits (fields_of w (vs ++ (v ∷ []))) ≡ field_bits (fields_of w vs) ++ bits_of w v
unfolding field_bits
fields-more w [] v = append-nil (bits_of w v)
fields-more w (x ∷ vs) v =
    ap (λ (l : List ℕ). bits_of w x ++ l) (fields-more w vs v) ∙ sym (append_assoc (bits_of w x) (field_bits (fields_of w vs)) (bits_of w v))

-- more fields of the same width
pub fields-append : (w : ℕ) (vs us : List ℕ) → field_bits (fields_of w (vs ++ us)) ≡ field_bits (fields_of w vs) ++ field_bits (fields_of w us)
unfolding field_bits
fields-append w [] us = refl
fields-append w (v ∷ vs) us =
    ap (λ (l : List ℕ). bits_of w v ++ l) (fields-append w vs us) ∙ sym (append_assoc (bits_of w v) (field_bits (fields_of w vs)) (field_bits (fields_of w us)))

-- field k read is the bits it stands in
field-part : (l : List ℕ) (position w k : ℕ) → AllBits l → position + w * k + w ≤ length l → bits_of w (field_value l position w k) ≡ part l (position + w * k) w
unfolding field_value
field-part l position w k b h =
    let q : length (part l (position + w * k) w) ≡ w = length_part l (position + w * k) w h in
    ap (λ (j : ℕ). bits_of j (value_of (part l (position + w * k) w))) (sym q) ∙ bits-value (all_bits_part (position + w * k) w b)

-- m fields read are the bits they stand in
pub fields-part : (l : List ℕ) (position w m : ℕ) → AllBits l → position + w * m ≤ length l
    → field_bits (fields_of w (listed (field_value l position w) m)) ≡ part l position (w * m)
unfolding part listed field_bits
fields-part l position w zero b h = rw mul-zero
fields-part l position w (suc m) b h =
    let f = field_value l position w in
    fields-more w (listed f m) (f m)
    ∙ ap₂ (λ (x y : List ℕ). x ++ y) (fields-part l position w m b (omega (arith, mul-suc w m))) (field-part l position w m b (omega (arith, mul-suc w m)))
    ∙ sym (ap (part l position) (mul-suc w m) ∙ part-more l position (w * m) w)

pub times_more : (w k : ℕ) → w * (k + 1) ≡ w * k + w
times_more w k = ap (λ (x : ℕ). w * x) (add-one k) ∙ mul-suc w k

-- field k ends before the end of the m
pub field_end : (position w m k : ℕ) → k < m → position + w * k + w ≤ position + w * m
field_end position w m k h = omega (arith, mul-suc w k, mul-le-mul_left w h)
