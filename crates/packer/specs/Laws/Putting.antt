-- What was put: a byte that goes out, a field more, and fields one after another. Assumes nothing.
use Rattle.std.specs.Prelude.{List, [], ◌++◌, ◌∷◌, refl, ◌≡◌, ℕ, ◌%◌, ◌*◌, ◌+◌, ◌-◌, ◌/◌, ◌<◌, ◌^◌, ◌≤◌, drop, length, set, take}
use Rattle.std.proofs.Common.{append_assoc, append-nil, ap, sym, ◌∙◌, add-one, arith, length-append, drop-drop, drop-set-lt, take-suc-set}
use Rattle.bits.specs.Bits.{bits, bits_of}
use Rattle.bits.specs.Laws.Bytes.{bits-append}
use Rattle.bits.specs.Laws.Numbers.{bits_of-add, length-bits_of}
use Rattle.packer.specs.Gathering.{Clear, Gathers, Part, Put, Room, Same, put_bits}
use Rattle.packer.specs.Start.{start_bits, started}
use Rattle.packer.specs.Laws.Joined.{joined, joined-bits, lowered, lowered-bits, lowered_clear}
use Rattle.bits.specs.declared.Form.{Form}
use Rattle.packer.specs.declared.Gathered.{Gathered}

-- so many bytes stored, so many bits gathered in b
abbrev pub gathered : ℕ → ℕ → ℕ → Gathered
gathered at count b = record { at = at; count = count; bits = b }

-- bytes that are as they were from i on are so from j on
pub drop_further : (i j : ℕ) (new old : List ℕ) → i ≤ j → drop i new ≡ drop i old → drop j new ≡ drop j old
drop_further i j new old h e =
    let k : i + (j - i) ≡ j = omega arith in
    ap (λ (m : ℕ). drop m new) (sym k) ∙ sym (drop-drop (j - i) i new) ∙ ap (drop (j - i)) e ∙ drop-drop (j - i) i old ∙ ap (λ (m : ℕ). drop m old) k

-- ## A byte that goes out

-- the upper eight bits gathered are stored, and what was put is the same
byte_out : (out : List ℕ) (at c b : ℕ) → at < length out → 8 ≤ c → c ≤ 64
    → put_bits (set out at (b / 2 ^ 56 % 256)) (gathered (at + 1) (c - 8) (lowered b)) ≡ put_bits out (gathered at c b)
unfolding put_bits bits
byte_out out at c b h l m =
    let y = b / 2 ^ 56 % 256 in
    let r = bits_of (c - 8) (lowered b / 2 ^ (64 - (c - 8))) in
    ap (λ (x : List ℕ). bits x ++ r) (ap (λ (k : ℕ). take k (set out at y)) (add-one at) ∙ take-suc-set out at y h)
    ∙ ap (λ (x : List ℕ). x ++ r) (bits-append (take at out) (y ∷ []) ∙ ap (λ (x : List ℕ). bits (take at out) ++ x) (append-nil (bits_of 8 y)))
    ∙ append_assoc (bits (take at out)) (bits_of 8 y) r
    ∙ ap (λ (x : List ℕ). bits (take at out) ++ x) (lowered-bits b c l m)

-- the upper byte goes out
pub same_byte : (old new : List ℕ) (g : Gathered) → Gathers (length old) g → 8 ≤ g.count → new ≡ set old g.at (g.bits / 2 ^ 56 % 256)
    → Same old new g (gathered (g.at + 1) (g.count - 8) (lowered g.bits))
same_byte old new g h k e =
    record {
      forth = omega arith;
      clear = lowered_clear g.bits g.count k h.most h.clear;
      counted = omega arith;
      kept = ap (λ (x : List ℕ). put_bits x (gathered (g.at + 1) (g.count - 8) (lowered g.bits))) e
          ∙ byte_out old g.at g.count g.bits (omega (arith, h.within)) k h.most;
      others = ap (drop (g.at + 1)) e ∙ drop-set-lt (g.at + 1) old g.at (g.bits / 2 ^ 56 % 256) (omega arith);
    }

-- one after another
pub same_then : {old mid new : List ℕ} {g s r : Gathered} → Same old mid g s → Same mid new s r → Same old new g r
same_then {old = old} {mid = mid} {s = s} {r = r} p q =
    record {
      forth = omega (arith, p.forth, q.forth);
      clear = q.clear;
      counted = q.counted ∙ p.counted;
      kept = q.kept ∙ p.kept;
      others = q.others ∙ drop_further s.at r.at mid old q.forth p.others;
    }

-- whole bytes went out, and nothing was put
pub drained : {old new : List ℕ} {g r : Gathered} → r.count < 8 → Same old new g r → Put [] old new g r
drained {old = old} {g = g} h p =
    record {
      part = record { few = h; clear = p.clear };
      counted = omega (arith, p.counted);
      behind = p.kept ∙ sym (append-nil (put_bits old g));
      others = p.others;
    }

-- ## A field more

-- a field is gathered, and then whole bytes go out
pub field_put : (old new : List ℕ) (g r : Gathered) (w v : ℕ) → w ≤ 56 → g.count + w ≤ 64 → Clear g
    → Put [] old new (gathered g.at (g.count + w) (joined g.bits g.count w v)) r → Put (bits_of w v) old new g r
unfolding put_bits
field_put old new g r w v h k z p =
    let front = bits (take g.at old) in
    record {
      part = p.part;
      counted = omega (arith, p.counted, length-bits_of w v);
      behind = p.behind
          ∙ append-nil (put_bits old (gathered g.at (g.count + w) (joined g.bits g.count w v)))
          ∙ ap (λ (x : List ℕ). front ++ x) (joined-bits g.bits g.count w v h k z)
          ∙ sym (append_assoc front (bits_of g.count (g.bits / 2 ^ (64 - g.count))) (bits_of w v));
      others = p.others;
    }

-- ## One after another

-- nothing is put yet
pub put_none : (out : List ℕ) (g : Gathered) → Part g → Put [] out out g g
put_none out g h = record { part = h; counted = omega arith; behind = sym (append-nil (put_bits out g)); others = refl }

-- what is put in two goes is put in one
pub put_then : {k l m old mid new : List ℕ} {g s r : Gathered} → k ≡ l ++ m → Put l old mid g s → Put m mid new s r → Put k old new g r
put_then {l = l} {m = m} {old = old} {mid = mid} {g = g} {s = s} {r = r} e p q =
    rw e
    (record {
      part = q.part;
      counted = omega (arith, p.counted, q.counted, length-append l m);
      behind = q.behind ∙ ap (λ (x : List ℕ). x ++ m) p.behind ∙ append_assoc (put_bits old g) l m;
      others = q.others ∙ drop_further s.at r.at mid old (omega (arith, p.counted, q.counted, p.part.few, q.part.few)) p.others;
    })

-- a field of w bits is its upper i and then its lower j
pub field_pieces : (w i j v : ℕ) → i + j ≡ w → bits_of w v ≡ bits_of i (v / 2 ^ j) ++ bits_of j v
field_pieces w i j v e = ap (λ (n : ℕ). bits_of n v) (sym e) ∙ bits_of-add i j v

-- room for what is to be put: at the start, and behind what was put
pub room-started : {n : ℕ} (x : ℕ) → x ≤ 8 * n → Room n started x
room-started x h = record { part = record { few = omega arith; clear = refl }; within = omega arith }

pub room_then : {n y : ℕ} {l old new : List ℕ} {g r : Gathered} (x : ℕ) → Room n g y → Put l old new g r → length l + x ≤ y → Room n r x
room_then x h p e = record { part = p.part; within = omega (arith, h.within, p.counted) }

pub room-begun : {m : ℕ} {old new : List ℕ} {r : Gathered} (form : Form) (n x : ℕ) → form.head + 7 + x ≤ 8 * m
    → Put (start_bits form n) old new started r → Room m r x
room-begun form n x h p =
    let e = length-append (bits_of form.head form.mark) (bits_of 7 n) in
    room_then x (room-started (form.head + 7 + x) h) p (omega (arith, e, length-bits_of form.head form.mark, length-bits_of 7 n))
