-- The vertices row by row. Assumes nothing.
use mathlib.Core.List.Memᴰ
use mathlib.Core.List.{List, [], append_assoc, append-nil, ◌++◌, ◌∷◌}
use Rattle.std.specs.Prelude.{refl, ◌≡◌, ℕ, ◌≤◌}
use Rattle.std.proofs.Math.Path.{subst, sym}
use Rattle.std.proofs.Common.{◌∙◌}
use Rattle.theory.specs.LinkTables.{LinkTable, Row}
use Rattle.newick_text.specs.Trees.{Siblings, none}
use Rattle.newick_text.specs.Tables.{rows, sorted}
use Rattle.newick_text.specs.LinkTrees.{grow, grown}
use Rattle.newick_text.specs.Laws.Grows.{stage_more}
use Rattle.newick_text.specs.Laws.Vertices.{Stage, occ, tops}

stage_none : (n : ℕ) → Stage n [] none
unfolding occ tops rows sorted
stage_none n = record { named = tt; once = λ m. refl; among = λ X d. absurd (Memᴰ.not-nil d); rowed = refl; bushy = tt; rising = tt }

pub grown-append : (f : Siblings) (P Q : List Row) → grown f (P ++ Q) ≡ grown (grown f P) Q
unfolding grown
grown-append f [] Q = refl
grown-append f (R ∷ P) Q = grown-append (grow R f) P Q

module _ (L n : ℕ) (few : n ≤ 64) (T : List Row) (t : LinkTable L n T) where
  stages : (M P Q : List Row) (f : Siblings) → T ≡ P ++ (M ++ Q) → Stage n P f → Stage n (P ++ M) (grown f M)
  unfolding grown
  stages [] P Q f e g = rw (append-nil P) g
  stages (R ∷ M) P Q f e g =
      let ih = stages M (P ++ (R ∷ [])) Q (grow R f) (e ∙ sym (append_assoc P (R ∷ []) (M ++ Q))) (stage_more L n few T t P (M ++ Q) R e f g) in
      subst (λ (l : List Row). Stage n l (grown (grow R f) M)) (append_assoc P (R ∷ []) M) ih

  pub stage_before : (P Q : List Row) → T ≡ P ++ Q → Stage n P (grown none P)
  stage_before P Q e = stages P [] Q none e (stage_none n)

  pub stage_all : Stage n T (grown none T)
  stage_all = stage_before T [] (sym (append-nil T))
