-- Images counted from 1, as they are written, and from 0, as the definitions have them. Assumes nothing.
use Rattle.std.specs.Prelude.{List, [], map, ◌∷◌, refl, ◌≡◌, suc, ℕ, ◌-◌, eqb, get_or, length}
use Rattle.std.proofs.Common.{ap, ap₂, arith, eq-eqb, eqb-true, ne_eqb}
use Rattle.std.proofs.lemmas.Bool.{eqb-false}
use borrow.Table.Steps.{cases}
use Rattle.ground.specs.Members.{occurs}
use Rattle.theory.specs.Order.{last_of}

pub occurs-suc : (i : ℕ) (l : List ℕ) → occurs (suc i) (map suc l) ≡ occurs i l
occurs-suc i [] = refl
occurs-suc i (x ∷ l) =
    let ih = occurs-suc i l in
    cases (eqb i x)
    (λ e. rw (e, eq-eqb (suc i) (suc x) (ap suc (eqb-true i x e))) (omega arith))
    (λ e. rw (e, ne_eqb (suc i) (suc x) (λ z. eqb-false i x e (omega arith))) (omega arith))

pub last_suc : (x : ℕ) (l : List ℕ) → get_or (map suc (x ∷ l)) (length l) 0 ≡ suc (last_of x l)
last_suc x [] = refl
last_suc x (y ∷ l) = last_suc y l

pub back-suc : (l : List ℕ) → map (λ i. i - 1) (map suc l) ≡ l
back-suc [] = refl
back-suc (x ∷ l) = let e : suc x - 1 ≡ x = omega arith in ap₂ ◌∷◌ e (back-suc l)
