-- What the choice between two stored link tables answers: s and t are the lent bytes of the first and the second. Assumes nothing.
use Rattle.choice.specs.declared.answer.Choice.{Choice}
use Rattle.ground.specs.declared.TableRefusal.{TableRefusal}
use Rattle.std.specs.Prelude.{cond, not, ◌||◌, List, [], ℕ, eqb, take, Ok, Err, Result}
use Rattle.ground.specs.Refusals.{if_passed, refusal, refuse_if, Check, refused_in}
use Rattle.theory.specs.Comparison.{inners}
use Rattle.link_forms.specs.Form.{link_form_at}
use Rattle.stored_links.specs.Reading.{table_checks}
use Rattle.link_forms.specs.Said.{count_of, fars_of, images_of, used_of}
use Rattle.choice.specs.Inclusion.{includes}
use Rattle.bits.specs.declared.Form.{Form}

-- what the call answers: the number of the table and its used bytes, or the refusal with the table's number
abbrev pub Chosen : Type 0
Chosen = Result Choice TableRefusal

-- the table with this number, of so many used bytes
abbrev pub takes : ℕ → ℕ → Chosen
takes k u = Ok (record { table = k; used = u })

-- the far sides of the table that s begins with
abbrev pub sides_of : Form → List ℕ → List ℕ
sides_of form s = fars_of form (images_of form s) (count_of form s) s

-- the inner ones
abbrev pub inners_of : Form → List ℕ → List ℕ
inners_of form s = inners (images_of form s) (sides_of form s)

-- a refusal with the table's number m beside the places, or what follows where the check passed
abbrev pub numbered : ℕ → Check → Chosen → Chosen
numbered m c y = if_passed (refused_in m) c y

-- 15: stored tables of different n
abbrev pub images_agree : ℕ → ℕ → Check
images_agree n m = refuse_if (not (eqb n m)) (refusal 15 0 0 0 0)

-- 14: neither of the inner far sides l and r includes the other
abbrev pub inclusion : List ℕ → List ℕ → Check
inclusion l r = refuse_if (not (includes l r || includes r l)) (refusal 14 0 0 0 0)

-- 14; then the first, with i used bytes, if l includes all of r, else the second, with j
abbrev pub taken : List ℕ → ℕ → List ℕ → ℕ → Chosen
taken l i r j = numbered 0 (inclusion l r) (cond (includes l r) (takes 1 i) (takes 2 j))

-- the second table, number 2, after a first one over n images with the far sides l and i used bytes; then 15, then 14
abbrev pub against_second : Form → ℕ → List ℕ → ℕ → List ℕ → Chosen
against_second form n l i t =
    numbered 2 (table_checks form t)
    (numbered 0 (images_agree n (images_of form t)) (taken (inners n l) i (inners_of form t) (used_of form t)))

-- the first table, number 1, in the form f, and then the second, in the form g
abbrev pub choice_of : Form → Form → List ℕ → List ℕ → Chosen
choice_of f g s t = numbered 1 (table_checks f s) (against_second g (images_of f s) (sides_of f s) (used_of f s) t)

-- each in the form that its own bytes tell
abbrev pub choice_either : List ℕ → List ℕ → Chosen
choice_either s t = choice_of (link_form_at s 0) (link_form_at t 0) s t

-- the used bytes of the chosen table, none where the choice is refused
abbrev pub part_of : Chosen → List ℕ → List ℕ → List ℕ
part_of (Ok e) s t = take e.used (cond (eqb e.table 1) s t)
part_of (Err e) s t = []
