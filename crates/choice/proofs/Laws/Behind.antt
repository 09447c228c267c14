-- The choice looks at no byte behind either stored link table, and so at none behind the longest. Assumes nothing.
use Rattle.ground.specs.Refusals.{Check}
use Rattle.std.specs.Prelude.{List, ◌++◌, refl, ◌≡◌, ℕ, ◌≤◌, length, take, Ok, Err}
use Rattle.std.proofs.Common.{ap, ◌∙◌, arith}
use Rattle.ground.specs.Laws.Refusals.{then_passed}
use Rattle.theory.specs.Comparison.{inners}
use Rattle.bits.specs.Editions.{edition_of}
use Rattle.bits.specs.Laws.Behind.{first-bytes}
use Rattle.bits.specs.Laws.Editions.{edition_behind}
use Rattle.bits.specs.declared.Edition.{Edition}
use Rattle.bits.specs.declared.Edition.TheVariants.{New, Old}
use Rattle.bits.specs.declared.Form.{Form}
use Rattle.link_forms.specs.Form.{link_form, link_form_at, link_used}
use Rattle.stored_links.proofs.Laws.Behind.{Reaching, checks_behind, fars-behind, images-behind, longest_reaches, used_behind, whole-reaches}
use Rattle.stored_links.specs.Reading.{body_checks, head_checks, table_checks}
use Rattle.link_forms.specs.Said.{count_of, images_of, used_of}
use Rattle.choice.specs.Call.{against_second, choice_either, choice_of, images_agree, numbered, sides_of, taken, Chosen}

-- two answers by the same checks, the same where these pass
numbered_same : (m : ℕ) {c : Check} (c' : Check) {y y' : Chosen} → c ≡ c' → (c' ≡ Ok tt → y ≡ y') → numbered m c y ≡ numbered m c' y'
numbered_same m (Ok tt) e h = rw e (h refl)
numbered_same m (Err r) e h = rw e refl

module _ (form : Form) (s b : List ℕ) (reach : Reaching form s) where
  -- what follows a table that passes depends on its images, its far sides and its used bytes, which are the same
  passed-behind : (f : ℕ → List ℕ → ℕ → Chosen) → table_checks form s ≡ Ok tt
      → f (images_of form (s ++ b)) (sides_of form (s ++ b)) (used_of form (s ++ b)) ≡ f (images_of form s) (sides_of form s) (used_of form s)
  passed-behind f e =
      let h = (then_passed (head_checks form s) (body_checks form (images_of form s) (count_of form s) s) e).0 in
      ap (λ (r : List ℕ). f (images_of form (s ++ b)) r (used_of form (s ++ b))) (fars-behind form s b reach h)
      ∙ ap (λ (u : ℕ). f (images_of form (s ++ b)) (sides_of form s) u) (used_behind form s b reach)
      ∙ ap (λ (n : ℕ). f n (sides_of form s) (used_of form s)) (images-behind form s b reach)

  second-behind : (n : ℕ) (l : List ℕ) (i : ℕ) → against_second form n l i (s ++ b) ≡ against_second form n l i s
  second-behind n l i =
      numbered_same 2 (table_checks form s) (checks_behind form s b reach)
      (passed-behind (λ m r u. numbered 0 (images_agree n m) (taken (inners n l) i (inners m r) u)))

  first-behind : (g : Form) (t : List ℕ) → choice_of form g (s ++ b) t ≡ choice_of form g s t
  first-behind g t = numbered_same 1 (table_checks form s) (checks_behind form s b reach) (passed-behind (λ n l i. against_second g n l i t))

  last_behind : (f : Form) (t : List ℕ) → choice_of f form t (s ++ b) ≡ choice_of f form t s
  last_behind f t = numbered_same 1 (table_checks f t) refl (λ e. second-behind (images_of f t) (sides_of f t) (used_of f t))

-- ## Each table in the form that its own bytes tell, which the first of them does

told_behind : (s b : List ℕ) → Reaching (link_form_at s 0) s → edition_of (s ++ b) ≡ edition_of s
told_behind s b reach = edition_behind s b (omega (arith, reach.begun))

first_told : (s b t : List ℕ) → Reaching (link_form_at s 0) s → choice_either (s ++ b) t ≡ choice_either s t
first_told s b t reach =
    ap (λ (e : Edition). choice_of (link_form e) (link_form_at t 0) (s ++ b) t) (told_behind s b reach) ∙ first-behind (link_form_at s 0) s b reach (link_form_at t 0) t

last_told : (s b t : List ℕ) → Reaching (link_form_at s 0) s → choice_either t (s ++ b) ≡ choice_either t s
last_told s b t reach =
    ap (λ (e : Edition). choice_of (link_form_at t 0) (link_form e) t (s ++ b)) (told_behind s b reach) ∙ last_behind (link_form_at s 0) s b reach (link_form_at t 0) t

-- whatever follows the two tables, the choice is the same
pub choice_behind : (s b t c : List ℕ) → used_of (link_form_at s 0) s ≤ length s → used_of (link_form_at t 0) t ≤ length t
    → choice_either (s ++ b) (t ++ c) ≡ choice_either s t
choice_behind s b t c p q = first_told s b (t ++ c) (whole-reaches (link_form_at s 0) s p) ∙ last_told t c s (whole-reaches (link_form_at t 0) t q)

longest : (e : Edition) → link_used (link_form e) 64 125 ≤ 1362
longest Old = omega arith
longest New = omega arith

far-reaches : (s : List ℕ) → 1362 ≤ length s → Reaching (link_form_at s 0) s
far-reaches s h = longest_reaches (link_form_at s 0) s (omega (arith, longest (edition_of s), h))

-- the longest table has 1362 bytes (`link_used new_links 64 125`), so no more of either buffer matters
pub choice_ignores : (s t : List ℕ) → choice_either s t ≡ choice_either (take 1362 s) (take 1362 t)
choice_ignores s t =
    first-bytes (λ (x : List ℕ). choice_either x t) 1362 (λ x b h. first_told x b t (far-reaches x h)) s
    ∙ first-bytes (choice_either (take 1362 s)) 1362 (λ x b h. last_told x b (take 1362 s) (far-reaches x h)) t
