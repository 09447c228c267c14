-- Which check a refusal is of. Assumes nothing.
use Rattle.std.specs.Prelude.{Bool, not, List, ◌⊎◌, ◌≡◌, suc, ℕ, ◌*◌, ◌+◌, ◌-◌, eqb, ltb, get_or, length, Ok, Err}
use Rattle.std.proofs.Common.{inl, inr, sym, ◌∙◌, arith}
use Rattle.ground.specs.First.{first}
use Rattle.ground.specs.InOrder.{InOrder}
use Rattle.ground.specs.Laws.InOrder.{first-own, refuse_if_only}
use Rattle.ground.specs.Laws.Steps.{first-decided, passes-decided, passes_or_refuses}
use Rattle.ground.specs.Members.{is_in}
use Rattle.ground.specs.Refusals.{outside, refusal, refuse_if, room_check, ◌then◌, Check}
use Rattle.ground.specs.Steps.{FirstRefused, Passes, Refuses, Step}
use Rattle.ground.specs.declared.Refusal.{Refusal}
use Rattle.theory.specs.Checks.{images_check}
use Rattle.theory.specs.LinkTables.{costs, fars}
use Rattle.bad_rows.specs.BadRows.{bad_cost}
use Rattle.newick_text.specs.Reading.{costs_check, names_check, order_check, tree_checks}
use Rattle.newick_text.specs.Order.{fall}
use Rattle.newick_text.specs.Tables.{names, table_of}
use Rattle.newick_text.specs.Trees.{Siblings}

-- of checks in order a refusal is that of the first one that refuses, by its number
pub order-first : (l : List Step) (c : Check) (q : Refusal) → InOrder l c → c ≡ Err q → (s : Step) × FirstRefused l s q × (q.number ≡ s.number)
order-first l c q o e = go (passes_or_refuses l)
  where
    same : (r : Refusal) → ◌≡◌ {A = Check} (Err q) (Err r) → q ≡ r
    same r h = cc

    go : Passes l ⊎ Refuses l → (s : Step) × FirstRefused l s q × (q.number ≡ s.number)
    go (inl p) = absurd (let h : ◌≡◌ {A = Check} (Err q) (Ok tt) = sym e ∙ o.same ∙ passes-decided (λ m. Err) l (Ok tt) p in let z : ◌≡◌ {A = ℕ} 0 1 = cc in omega arith)
    go (inr f) =
        let h = same f.1 (sym e ∙ o.same ∙ first-decided (λ m. Err) l (Ok tt) f.2) in
        rw h (f.0, f.2, (first-own o.own f.2).1)

-- ## Not by 18

-- the check does not refuse by number m
abbrev Never : ℕ → Check → Type 0
Never m c = (r : Refusal) → c ≡ Err r → r.number ≡ m → ⊥

then_never : (m : ℕ) (x y : Check) → Never m x → Never m y → Never m (x then y)
then_never m (Ok tt) y p q = q
then_never m (Err s) y p q = p

refuse_never : (b : Bool) (r : Refusal) (m : ℕ) → (r.number ≡ m → ⊥) → Never m (refuse_if b r)
refuse_never b r m h q e z = h (sym (refuse_if_only b r q e) ∙ z)

pub tree_never : (L : ℕ) (f : Siblings) (room : ℕ) → Never 18 (tree_checks L f room)
tree_never L f room =
    let n = length (names f) in
    let T = table_of f in
    let i = first (λ i. not (is_in (suc i) (names f))) n in
    let k = first (λ k. bad_cost L n (get_or (fars T) k 0) (get_or (costs T) k 0)) (length T) in
    let c = order_check f in
    let d = costs_check L n T then c in
    let e = names_check n f then d in
    then_never 18 (images_check n) (room_check (2 * n - 3) room then e) (refuse_never (outside 3 64 n) (refusal 1 n 0 0 0) 18 (λ z. omega arith))
    (then_never 18 (room_check (2 * n - 3) room) e (refuse_never (ltb room (2 * n - 3)) (refusal 3 0 0 0 0) 18 (λ z. omega arith))
    (then_never 18 (names_check n f) d (refuse_never (ltb i n) (refusal 13 (i + 1) 0 0 0) 18 (λ z. omega arith))
    (then_never 18 (costs_check L n T) c (refuse_never (ltb k (length T)) (refusal 12 (k + 1) 0 0 0) 18 (λ z. omega arith))
    (refuse_never (not (eqb (fall f) 0)) (refusal 22 (fall f) 0 0 0) 18 (λ z. omega arith)))))
