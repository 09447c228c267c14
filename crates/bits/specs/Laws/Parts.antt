-- Parts of a list, and lists written over. Assumes nothing.
use Rattle.std.specs.Prelude.{List, [], ◌++◌, ◌≡◌, ℕ, ◌+◌, ◌≤◌, drop, length, take}
use Rattle.std.proofs.Common.{append_assoc, ap, sym, ◌∙◌, add-zero, arith, length-append, length-drop, take-append-drop, drop_at, drop-drop, length-take-le, take-add, take_at}
use Rattle.bits.specs.Bits.{over_at, part}

pub length_part : (l : List ℕ) (position w : ℕ) → position + w ≤ length l → length (part l position w) ≡ w
unfolding part
length_part l position w h = length-take-le w (drop position l) (simp length-drop (omega arith))

pub part_cut : (a m b : List ℕ) (position w : ℕ) → length a ≡ position → length m ≡ w → part (a ++ (m ++ b)) position w ≡ m
unfolding part
part_cut a m b position w ha hm = rw (drop_at a (m ++ b) position ha) (take_at m b w hm)

pub part-more : (l : List ℕ) (position n s : ℕ) → part l position (n + s) ≡ part l position n ++ part l (position + n) s
unfolding part
part-more l position n s = take-add n s (drop position l) ∙ ap (λ (x : List ℕ). take n (drop position l) ++ take s x) (drop-drop n position l)

pub over_at_cut : (a m b : List ℕ) (position : ℕ) (k : List ℕ) → length a ≡ position → length m ≡ length k → over_at (a ++ (m ++ b)) position k ≡ a ++ (k ++ b)
unfolding over_at
over_at_cut a m b position k ha hm =
    let e : drop (position + length k) (a ++ (m ++ b)) ≡ b = sym (drop-drop (length k) position (a ++ (m ++ b)))
    ∙ rw (drop_at a (m ++ b) position ha) (drop_at m b (length k) hm) in
    rw (take_at a (m ++ b) position ha, e)

-- l is what stands before, at and behind a part
pub part-around : (l : List ℕ) (position w : ℕ) → l ≡ take position l ++ (part l position w ++ drop (position + w) l)
unfolding part
part-around l position w =
    sym (ap (λ (x : List ℕ). take position l ++ (take w (drop position l) ++ x)) (sym (drop-drop w position l))
    ∙ ap (λ (x : List ℕ). take position l ++ x) (take-append-drop w (drop position l)) ∙ take-append-drop position l)

pub over_at_none : (l : List ℕ) (position : ℕ) → over_at l position [] ≡ l
unfolding over_at
over_at_none l position = rw add-zero (take-append-drop position l)

pub part_and_rest : (l : List ℕ) (n w : ℕ) → drop n l ≡ part l n w ++ drop (n + w) l
unfolding part
part_and_rest l n w = sym (ap (λ (x : List ℕ). take w (drop n l) ++ x) (sym (drop-drop w n l)) ∙ take-append-drop w (drop n l))

-- two writes, the second directly behind the first, are one
pub over_at_twice : (l : List ℕ) (position : ℕ) (k m : List ℕ) (n : ℕ) → n ≡ position + length k → n + length m ≤ length l
    → over_at (over_at l position k) n m ≡ over_at l position (k ++ m)
over_at_twice l position k m n e h =
    let a = take position l in
    let p = part l position (length k) in
    let q = part l n (length m) in
    let b = drop (n + length m) l in
    let ha : length a ≡ position = length-take-le position l (omega arith) in
    let hp : length p ≡ length k = length_part l position (length k) (omega arith) in
    let hq : length q ≡ length m = length_part l n (length m) (omega arith) in
    let c : l ≡ a ++ (p ++ (q ++ b)) =
    part-around l position (length k) ∙ ap (λ (x : List ℕ). a ++ (p ++ x)) (ap (λ (x : ℕ). drop x l) (sym e) ∙ part_and_rest l n (length m)) in
    let o : over_at l position k ≡ (a ++ k) ++ (q ++ b) =
    ap (λ (x : List ℕ). over_at x position k) c ∙ over_at_cut a p (q ++ b) position k ha hp ∙ sym (append_assoc a k (q ++ b)) in
    let o2 : over_at (over_at l position k) n m ≡ (a ++ k) ++ (m ++ b) =
    ap (λ (x : List ℕ). over_at x n m) o ∙ over_at_cut (a ++ k) q b n m (omega (arith, length-append a k)) hq in
    let o3 : over_at l position (k ++ m) ≡ a ++ ((k ++ m) ++ b) =
    ap (λ (x : List ℕ). over_at x position (k ++ m)) (c ∙ ap (λ (x : List ℕ). a ++ x) (sym (append_assoc p q b)))
    ∙ over_at_cut a (p ++ q) b position (k ++ m) ha (omega (arith, length-append p q, length-append k m)) in
    o2 ∙ append_assoc a k (m ++ b) ∙ ap (λ (x : List ℕ). a ++ x) (sym (append_assoc k m b)) ∙ sym o3

regroup : (t a m b r : List ℕ) → t ++ ((a ++ (m ++ b)) ++ r) ≡ (t ++ a) ++ (m ++ (b ++ r))
regroup t a m b r = simp append_assoc

pub part-inside : (t x r : List ℕ) (n o s : ℕ) → n ≡ length t + o → o + s ≤ length x → part (t ++ (x ++ r)) n s ≡ part x o s
part-inside t x r n o s e h =
    let a = take o x in
    let m = part x o s in
    let b = drop (o + s) x in
    ap (λ (l : List ℕ). part l n s)
    (ap (λ (l : List ℕ). t ++ (l ++ r)) (part-around x o s) ∙ regroup t a m b r)
    ∙ part_cut (t ++ a) m (b ++ r) n s (omega (arith, length-append t a, length-take-le o x (omega arith))) (length_part x o s h)
