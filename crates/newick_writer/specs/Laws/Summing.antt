-- How the bytes are summed, digit by digit and row by row. Assumes nothing.
use Rattle.std.specs.Prelude.{List, [], ◌∷◌, refl, ◌≡◌, suc, zero, ℕ, ◌%◌, ◌*◌, ◌+◌, ◌-◌, ◌/◌, ◌<◌, ◌^◌, ◌≤◌, eqb, max, drop, get_or, length}
use Rattle.std.proofs.Common.{ap, sym, ◌∙◌, add-one, arith, drop_of_length-le, length-append, pow_pos, drop-cons, eq-eqb, ne_eqb}
use Rattle.std.specs.Int.Count.{ones}
use borrow.Table.Steps.{cases}
use Rattle.ground.specs.Laws.Ones.{ones_none, ones_one, ones_pow}
use Rattle.ground.specs.Sums.{sum}
use Rattle.theory.specs.LinkTables.{Row, rows_of}
use Rattle.text.specs.Decimal.{decimal, digit}
use Rattle.text.proofs.Laws.Numbers.{decimal-more, decimal-most, decimal_small}
use Rattle.newick_text.specs.Laws.Sides.{image_of_lem}
use Rattle.newick_text.specs.Tables.{image_side}
use Rattle.newick_text.specs.LinkTrees.{image_of}
use Rattle.newick_writer.specs.Bytes.{head_bytes, row_bytes}

-- ## Digits

pub one-digit : (x : ℕ) → x < 10 → length (decimal x) ≡ 1
one-digit x h = ap length (decimal_small x h)

pub more-digits : (x : ℕ) → 10 ≤ x → x < 2 ^ 64 → length (decimal x) ≡ length (decimal (x / 10)) + 1
more-digits x h l = ap length (decimal-more x h l) ∙ length-append (decimal (x / 10)) (digit (x % 10) ∷ [])

ten_some : (k : ℕ) → 0 < 10 ^ k
ten_some zero = omega arith
ten_some (suc k) = omega (arith, ten_some k)

digits_between : (k x : ℕ) → x < 2 ^ 64 → 10 ^ k ≤ x → x < 10 * 10 ^ k → length (decimal x) ≡ k + 1
digits_between zero x f l m = one-digit x (omega arith)
digits_between (suc k) x f l m =
    let p = ten_some k in
    omega (arith, more-digits x (omega arith) f, digits_between k (x / 10) (omega arith) (omega arith) (omega arith))

-- 0 has as many digits as 1
pub digit_count : (k x : ℕ) → x < 2 ^ 64 → 10 ^ k ≤ max x 1 → max x 1 < 10 * 10 ^ k → k + 1 ≡ length (decimal x)
digit_count zero x f l m = sym (one-digit x (omega arith))
digit_count (suc k) x f l m = sym (digits_between (suc k) x f (omega (arith, ten_some k)) (omega arith))

-- ## A row

pub ones_alone : (m : ℕ) → ones (2 ^ m) ≡ 1
ones_alone m = ap ones (omega arith) ∙ ones_pow m 0 (pow_pos m) ∙ omega (arith, ones_none)

-- a far side of one image, and of more
pub one_image_lem : (m : ℕ) → m < 64 → head_bytes (2 ^ m) ≡ length (decimal (suc m))
unfolding head_bytes
one_image_lem m h =
    let e : suc m - 1 ≡ m = omega arith in
    rw (image_of_lem m h, e, eq-eqb (2 ^ m) (2 ^ m) refl) refl

pub other_bytes : (S : ℕ) → (ones S ≡ 1 → ⊥) → 1 ≡ head_bytes S
unfolding head_bytes
other_bytes S h = rw (ne_eqb S (image_side (image_of S)) (λ e. h (ap ones e ∙ ones_alone (image_of S - 1)))) refl

pub more-images : (S : ℕ) → 2 ≤ ones S → head_bytes S ≡ 1
more-images S h = sym (other_bytes S (λ e. omega arith))

pub alone_bytes : (S : ℕ) → S < 2 ^ 64 → ones S ≡ 1 → length (decimal (image_of S)) ≡ head_bytes S
alone_bytes S f e =
    let r = ones_one 64 S f e in
    let i : image_of S ≡ suc r.0 = ap image_of r.2 ∙ image_of_lem r.0 r.1 in
    ap (λ (x : ℕ). length (decimal x)) i ∙ sym (ap head_bytes r.2 ∙ one_image_lem r.0 r.1)

pub head_most : (S : ℕ) → head_bytes S ≤ 20
unfolding head_bytes
head_most S = cases (eqb S (image_side (image_of S))) (λ e. rw e (decimal-most (image_of S))) (λ e. rw e (omega arith))

pub row_is : (S c : ℕ) → head_bytes S + length (decimal c) + 2 ≡ row_bytes (S, c)
unfolding row_bytes
row_is S c = omega arith

pub row_most : (r : Row) → row_bytes r ≤ 42
unfolding row_bytes
row_most r = omega (arith, head_most r.0, decimal-most r.1)

-- ## All rows: those from k on

abbrev pub bytes_from : List ℕ → List ℕ → ℕ → ℕ
bytes_from l v k = sum (rows_of (drop k l) (drop k v)) row_bytes

pub from_row : (l v : List ℕ) (k : ℕ) → k < length l → k < length v → bytes_from l v k ≡ row_bytes (get_or l k 0, get_or v k 0) + bytes_from l v (k + 1)
from_row l v k h i = rw (add-one k, drop-cons l k 0 h, drop-cons v k 0 i) refl

pub from_end : (l v : List ℕ) (k : ℕ) → length l ≤ k → bytes_from l v k ≡ 0
from_end l v k h = rw (drop_of_length-le l {i = k} h) refl
