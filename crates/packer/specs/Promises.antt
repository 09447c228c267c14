-- What the packer's promise is worth: it decides what stands in the lent bytes and what is gathered, and leaves what was stored. Assumes nothing.
use Rattle.std.specs.Prelude.{List, ◌++◌, ◌≡◌, ℕ, ◌%◌, ◌*◌, ◌+◌, ◌-◌, ◌/◌, ◌<◌, ◌^◌, ◌≤◌, drop, length, take}
use Rattle.std.proofs.Common.{append_assoc, ap, ap₂, ◌∙◌, arith, take-append-drop, shr_lt, drop_at, length-take-le, take-add, take_at}
use Rattle.std.proofs.Math.Path.{sym}
use Rattle.std.proofs.Math.Pow.{split}
use Rattle.bits.specs.Bits.{AllBytes, bits, bits_of, value_of}
use Rattle.bits.specs.Laws.Bytes.{bits-append, bits_inj, length-bits}
use Rattle.bits.specs.Laws.Numbers.{value-bits}
use Rattle.bits.specs.Laws.Written.{all_bytes_take}
use Rattle.packer.specs.Gathering.{Put, put_bits}
use Rattle.packer.specs.Laws.Putting.{gathered}
use Rattle.packer.specs.declared.Gathered.{Gathered}

-- ## The first a bytes, and what stands behind them

module _ (out behind : List ℕ) (a : ℕ) (h : a ≤ length out) where
  whole : length (bits (take a out)) ≡ 8 * a
  whole = length-bits (take a out) ∙ ap (λ (k : ℕ). 8 * k) (length-take-le a out h)

  front-bits : take (8 * a) (bits (take a out) ++ behind) ≡ bits (take a out)
  front-bits = take_at (bits (take a out)) behind (8 * a) whole

  rest-bits : drop (8 * a) (bits (take a out) ++ behind) ≡ behind
  rest-bits = drop_at (bits (take a out)) behind (8 * a) whole

-- bytes with the same bits are the same
same_front : (new old x y : List ℕ) (a : ℕ) → a ≤ length new → a ≤ length old → AllBytes new → AllBytes old
    → bits (take a new) ++ x ≡ bits (take a old) ++ y → take a new ≡ take a old
same_front new old x y a h k n o e =
    bits_inj (take a new) (take a old) (all_bytes_take a new n) (all_bytes_take a old o)
    (sym (front-bits new x a h) ∙ ap (take (8 * a)) e ∙ front-bits old y a k)

-- a byte that went out stays as it is: what is put later alters no byte that was stored before
pub stored_stays : {l old new : List ℕ} {g r : Gathered} → AllBytes old → AllBytes new → g.at ≤ length old → length new ≡ length old
    → Put l old new g r → take g.at new ≡ take g.at old
unfolding put_bits
stored_stays {l = l} {old = old} {new = new} {g = g} {r = r} x y h n p =
    let a = g.at in
    let later = take (r.at - a) (drop a new) in
    let held = bits_of r.count (r.bits / 2 ^ (64 - r.count)) in
    let e : r.at ≡ a + (r.at - a) = omega (arith, p.counted, p.part.few) in
    let parts : put_bits new r ≡ bits (take a new) ++ (bits later ++ held) =
    ap (λ (k : ℕ). bits (take k new) ++ held) e
    ∙ ap (λ (b : List ℕ). b ++ held) (ap bits (take-add a (r.at - a) new) ∙ bits-append (take a new) later)
    ∙ append_assoc (bits (take a new)) (bits later) held in
    let old-bits = bits_of g.count (g.bits / 2 ^ (64 - g.count)) in
    same_front new old (bits later ++ held) (old-bits ++ l) a (omega arith) h y x (sym parts ∙ p.behind ∙ append_assoc (bits (take a old)) old-bits l)

-- ## No second answer

-- the bits gathered say the number
number_once : (c b d : ℕ) → c ≤ 64 → b < 2 ^ 64 → d < 2 ^ 64 → b % 2 ^ (64 - c) ≡ 0 → d % 2 ^ (64 - c) ≡ 0
    → bits_of c (b / 2 ^ (64 - c)) ≡ bits_of c (d / 2 ^ (64 - c)) → b ≡ d
number_once c b d h x y z w e =
    let k : c + (64 - c) ≡ 64 = omega arith in
    let upper : b / 2 ^ (64 - c) ≡ d / 2 ^ (64 - c) =
    sym (value-bits c (b / 2 ^ (64 - c)) (shr_lt c (64 - c) (rw k x))) ∙ ap value_of e ∙ value-bits c (d / 2 ^ (64 - c)) (shr_lt c (64 - c) (rw k y)) in
    sym (split b (64 - c)) ∙ ap₂ (λ (m n : ℕ). m * 2 ^ (64 - c) + n) upper (z ∙ sym w) ∙ split d (64 - c)

module _ {l old new also : List ℕ} {g r s : Gathered} (x : AllBytes new) (y : AllBytes also) (h : r.at ≤ length new) (k : s.at ≤ length also)
    (b : r.bits < 2 ^ 64) (d : s.bits < 2 ^ 64) (p : Put l old new g r) (q : Put l old also g s) where
  at_once : s.at ≡ r.at
  at_once = omega (arith, p.counted, q.counted, p.part.few, q.part.few)

  count_once : s.count ≡ r.count
  count_once = omega (arith, p.counted, q.counted, p.part.few, q.part.few)

  same_bits : bits (take r.at new) ++ bits_of r.count (r.bits / 2 ^ (64 - r.count))
      ≡ bits (take r.at also) ++ bits_of r.count (s.bits / 2 ^ (64 - r.count))
  unfolding put_bits
  same_bits = rw (at_once, count_once) at (p.behind ∙ sym q.behind)

  -- one content of the lent bytes and one gathered number meet the promise, and no other
  pub put_once : (new ≡ also) × (r ≡ s)
  put_once =
      let a = r.at in
      let j : a ≤ length also = omega (arith, at_once) in
      let front = same_front new also _ _ a h j x y same_bits in
      let rest : drop a new ≡ drop a also = p.others ∙ sym (rw at_once at q.others) in
      let held = sym (rest-bits new _ a h) ∙ ap (drop (8 * a)) same_bits ∙ rest-bits also _ a j in
      let number : r.bits ≡ s.bits =
      number_once r.count r.bits s.bits (omega (arith, p.part.few)) b d p.part.clear (rw count_once at q.part.clear) held in (
        sym (take-append-drop a new) ∙ ap₂ (λ (m n : List ℕ). m ++ n) front rest ∙ take-append-drop a also,
        ap₂ (λ (m n : ℕ). gathered m n r.bits) (sym at_once) (sym count_once) ∙ ap (gathered s.at s.count) number,
      )
