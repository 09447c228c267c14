-- One table after another, each into the rest of the lent bytes: together their stored forms stand joined at the front. Assumes nothing.
use Rattle.std.specs.Prelude.{List, ◌++◌, refl, ◌≡◌, ℕ, ◌+◌, ◌-◌, ◌<◌, ◌≤◌, drop, get_or, length, take}
use Rattle.std.proofs.Common.{append_assoc, ap, ap₂, subst, sym, ◌∙◌, arith, length-append, take-append-drop, drop_at, drop-drop, length-take-le, take_at}
use Rattle.ground.specs.Buffers.{front}
use Rattle.ground.specs.Laws.Buffers.{rest_part, rest_put}
use Rattle.link_forms.specs.Form.{link_bytes, link_used}
use Rattle.joined_tables.specs.Bytes.{batch_bytes}
use Rattle.joined_tables.specs.Fitting.{NextFits}
use Rattle.joined_tables.specs.Laws.Next.{length-next}
use Rattle.joined_tables.proofs.Laws.Steps.{bytes-step, tables_end}
use Rattle.joined_tables.specs.Tables.{tables}
use Rattle.bits.specs.declared.Form.{Form}

front-append : (a b d : List ℕ) → front (a ++ b) d ≡ a ++ front b (drop (length a) d)
front-append a b d =
    append_assoc a b (drop (length (a ++ b)) d)
    ∙ ap (λ (x : List ℕ). a ++ (b ++ x)) (ap (λ (k : ℕ). drop k d) (length-append a b) ∙ sym (drop-drop (length b) (length a) d))

-- m and r joined, written from `used` on: m is written there, and then r behind it
rest_more : (s b e m r : List ℕ) (used : ℕ) → used ≤ length b → s ≡ take used b ++ front (m ++ r) (drop used b) → e ≡ take used b ++ front m (drop used b)
    → s ≡ take (used + length m) e ++ front r (drop (used + length m) e)
rest_more s b e m r used h p q =
    let t = take used b in
    let d = drop (length m) (drop used b) in
    let a : e ≡ (t ++ m) ++ d = q ∙ sym (append_assoc t m d) in
    let k : length (t ++ m) ≡ used + length m = omega (arith, length-append t m, length-take-le used b h) in
    let x : take (used + length m) e ≡ t ++ m = ap (take (used + length m)) a ∙ take_at (t ++ m) d (used + length m) k in
    let y : drop (used + length m) e ≡ d = ap (drop (used + length m)) a ∙ drop_at (t ++ m) d (used + length m) k in
    p ∙ ap (λ (z : List ℕ). t ++ z) (front-append m r (drop used b)) ∙ sym (append_assoc t m (front r d)) ∙ sym (ap₂ (λ (z u : List ℕ). z ++ front r u) x y)

-- the lent bytes b, with the tables that are left written into the rest from `used` on
abbrev pub joined_at : Form → List ℕ → List ℕ → List ℕ → List ℕ → List ℕ → ℕ → ℕ → ℕ → List ℕ
joined_at form ns counts l v b used rows i =
    take used b ++ front (batch_bytes form (drop i (tables ns counts)) (drop rows l) (drop rows v)) (drop used b)

-- before the first table, after the last, and one table more
pub joined-start : (form : Form) (ns counts l v b : List ℕ) → front (batch_bytes form (tables ns counts) l v) b ≡ joined_at form ns counts l v b 0 0 0
joined-start form ns counts l v b = refl

pub joined_end : (form : Form) (ns counts l v s b : List ℕ) (used rows i : ℕ) → length ns ≡ length counts → length ns ≤ i
    → s ≡ joined_at form ns counts l v b used rows i → b ≡ s
unfolding batch_bytes
joined_end form ns counts l v s b used rows i e h p = sym (p ∙ rw (tables_end ns counts i e h) (take-append-drop used b))

pub joined-more : (form : Form) (ns counts l v : List ℕ) (room used rows i n N : ℕ) → length ns ≡ length counts → i < length ns → get_or ns i 0 ≡ n
    → get_or counts i 0 ≡ N
    → NextFits form n N (drop rows l) (drop rows v) (room - used) → (s b m : List ℕ) (k : ℕ) → used ≤ length b → k ≡ link_used form n N
    → m ≡ front (link_bytes form n (take N (drop rows l)) (take N (drop rows v))) (take (length b - used) (drop used b))
    → s ≡ joined_at form ns counts l v b used rows i
    → s ≡ joined_at form ns counts l v (take used b ++ (m ++ drop (length b - used) (drop used b))) (used + k) (rows + N) (i + 1)
joined-more form ns counts l v room used rows i n N e h en eN t s b m k g ek em q =
    let a = link_bytes form n (take N (drop rows l)) (take N (drop rows v)) in
    let r = batch_bytes form (drop (i + 1) (tables ns counts)) (drop (rows + N) l) (drop (rows + N) v) in
    let d = take used b ++ (m ++ drop (length b - used) (drop used b)) in
    let x : s ≡ take used b ++ front (a ++ r) (drop used b) =
    q ∙ ap (λ (z : List ℕ). take used b ++ front z (drop used b)) (bytes-step form ns counts l v room used rows i n N e h en eN) in
    let y : d ≡ take used b ++ front a (drop used b) =
    rest_put b m used ∙ ap (λ (z : List ℕ). take used b ++ z) (em ∙ ap (front a) (rest_part b used)) in
    subst (λ (z : ℕ). s ≡ take (used + z) d ++ front r (drop (used + z) d)) (length-next form n N (drop rows l) (drop rows v) (room - used) t ∙ sym ek)
    (rest_more s b d a r used g x y)
