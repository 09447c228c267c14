-- The checks of the choice by their numbers, and by the table that each is about: s and t are the lent bytes of the first and the second, in the
-- forms f and g. Assumes nothing.
use Rattle.std.specs.Prelude.{Bool, cond, false, not, true, ◌||◌, List, refl, ◌≡◌, ℕ, eqb}
use Rattle.std.proofs.Common.{subst, arith}
use Rattle.ground.specs.InOrder.{Decides}
use Rattle.ground.specs.Laws.InOrder.{decides_last, decides_next, refuse_order}
use Rattle.ground.specs.Refusals.{refusal, refused_in}
use Rattle.bits.specs.declared.Form.{Form}
use Rattle.stored_links.proofs.InOrder.{table-order}
use Rattle.link_forms.specs.Said.{images_of, used_of}
use Rattle.choice.specs.Call.{choice_of, Chosen, inners_of, takes}
use Rattle.choice.specs.Inclusion.{includes}
pub use Rattle.choice.specs.InOrder.{choice_steps}

one_of_two : (b : Bool) (i j : ℕ) → (m : ℕ) × (u : ℕ) × (cond b (takes 1 i) (takes 2 j) ≡ takes m u)
one_of_two true i j = (1, i, refl)
one_of_two false i j = (2, j, refl)

-- where every check passed, a table's number and its used bytes
pub choice_decides : (f g : Form) (s t : List ℕ) → (m : ℕ) × (u : ℕ) × Decides refused_in (choice_steps f g s t) (takes m u) (choice_of f g s t)
choice_decides f g s t =
    let l = inners_of f s in
    let r = inners_of g t in
    let k = one_of_two (includes l r) (used_of f s) (used_of g t) in (
      k.0,
      k.1,
      subst (λ (y : Chosen). Decides refused_in (choice_steps f g s t) y (choice_of f g s t)) k.2
          (decides_next refused_in 1 (table-order f s)
          (decides_next refused_in 2 (table-order g t)
          (decides_next refused_in 0 (refuse_order (not (eqb (images_of f s) (images_of g t))) (refusal 15 0 0 0 0) (omega arith))
          (decides_last refused_in 0 (cond (includes l r) (takes 1 (used_of f s)) (takes 2 (used_of g t)))
          (refuse_order (not (includes l r || includes r l)) (refusal 14 0 0 0 0) (omega arith)))))),
    )
