-- Bytes behind as many as the longest tables have cannot matter to the reading of so many tables. Assumes nothing.
use Rattle.std.specs.Prelude.{List, [], ◌++◌, ◌∷◌, refl, ◌≡◌, suc, zero, ℕ, ◌*◌, ◌≤◌, drop, length, Ok, Err}
use Rattle.std.proofs.Common.{ap, sym, ◌∙◌, arith, length-drop}
use Rattle.std.proofs.lemmas.List.{drop-append-le}
use Rattle.ground.specs.Refusals.{◌then◌, Check}
use Rattle.bits.specs.Editions.{edition_of}
use Rattle.bits.specs.Laws.Editions.{edition_behind}
use Rattle.bits.specs.declared.Edition.{Edition}
use Rattle.bits.specs.declared.Edition.TheVariants.{New, Old}
use Rattle.bits.specs.declared.Form.{Form}
use Rattle.cost_forms.specs.Entries.{row_start}
use Rattle.cost_forms.specs.Form.{cost_form, cost_form_at, cost_used}
use Rattle.stored_costs.proofs.Laws.Agreeing.{end_grows}
use Rattle.stored_costs.proofs.Laws.Behind.{Reaching, checks_behind, images-behind, longest_reaches, table-behind}
use Rattle.stored_costs.proofs.Laws.Enough.{enough_room, table_readable}
use Rattle.stored_costs.specs.Reading.{table_checks}
use Rattle.cost_forms.specs.Said.{images_of, stored_table}
use Rattle.figures.specs.Checks.{many_check, next_check, same_check}
use Rattle.figures.specs.Reading.{Ended, go_on, read_on}
use Rattle.figures.specs.Tables.{Table, table_in, table_of}

-- how many bytes the longest stored cost table has, in either form
abbrev pub longest_table : ℕ
longest_table = 5798

none_longer : (e : Edition) → cost_used (cost_form e) 64 ≤ longest_table
unfolding row_start
none_longer Old = omega arith
none_longer New = omega arith

-- ## One table more

-- once ts were read, by the check c of the next table t, with the bytes behind it
abbrev onward : ℕ → ℕ → List Table → Check → Table → List ℕ → Ended
onward L k ts c t rest =
    go_on (c then same_check ts t.images then many_check L (ts ++ (t ∷ []))) ts (read_on L k (ts ++ (t ∷ [])) rest)

-- that of the table at the front of the bytes s, in a form
abbrev onward_in : ℕ → ℕ → List Table → Form → List ℕ → Ended
onward_in L k ts form s = onward L k ts (table_checks form s) (table_in form s) (drop (table_in form s).used s)

-- bytes behind cannot matter to k tables
abbrev pub Behind : ℕ → ℕ → Type 0
Behind L k = (ts : List Table) (s b : List ℕ) → longest_table * k ≤ length s → read_on L k ts (s ++ b) ≡ read_on L k ts s

module _ (L k : ℕ) (ih : Behind L k) (ts : List Table) (s b : List ℕ) (h : longest_table * suc k ≤ length s) where
  module _ (form : Form) (r : Reaching form s) (short : cost_used form 64 ≤ longest_table) where
    table_same : images_of form s ≤ 64 → table_in form (s ++ b) ≡ table_in form s
    table_same few =
        let n = images_of form s in
        ap (λ (m : ℕ). table_of m (cost_used form m) (stored_table form m (s ++ b))) (images-behind form s b r)
        ∙ ap (table_of n (cost_used form n)) (table-behind form s b r few)

    taken : images_of form s ≤ 64
        → onward L k ts (Ok tt) (table_in form (s ++ b)) (drop (table_in form (s ++ b)).used (s ++ b))
        ≡ onward L k ts (Ok tt) (table_in form s) (drop (table_in form s).used s)
    taken few =
        let t = table_in form s in
        let u : t.used ≤ longest_table = omega (arith, end_grows form (images_of form s) 64 few, short) in
        ap (λ (x : Table). onward L k ts (Ok tt) x (drop x.used (s ++ b))) (table_same few)
        ∙ ap (onward L k ts (Ok tt) t) (drop-append-le t.used s b (omega (arith, u, h)))
        ∙ ap (go_on (same_check ts t.images then many_check L (ts ++ (t ∷ []))) ts)
        (ih (ts ++ (t ∷ [])) (drop t.used s) b (omega (arith, u, h, length-drop t.used s)))

    one_in : onward_in L k ts form (s ++ b) ≡ onward_in L k ts form s
    one_in =
        let c : table_checks form (s ++ b) ≡ table_checks form s =
        sym (enough_room form (s ++ b) 4096 (omega arith)) ∙ checks_behind form s b r 4096 ∙ enough_room form s 4096 (omega arith) in
        ap (λ (x : Check). onward L k ts x (table_in form (s ++ b)) (drop (table_in form (s ++ b)).used (s ++ b))) c ∙ go (table_checks form s) refl
      where
        go : (c : Check) → table_checks form s ≡ c
            → onward L k ts c (table_in form (s ++ b)) (drop (table_in form (s ++ b)).used (s ++ b))
            ≡ onward L k ts c (table_in form s) (drop (table_in form s).used s)
        go (Ok tt) e = taken (table_readable form s e).few
        go (Err q) e = refl

  -- the first byte tells the form
  one-behind : onward_in L k ts (cost_form_at (s ++ b) 0) (s ++ b) ≡ onward_in L k ts (cost_form_at s 0) s
  one-behind =
      let short = none_longer (edition_of s) in
      let r = longest_reaches (cost_form_at s 0) s (omega (arith, h, short)) in
      ap (λ (e : Edition). onward_in L k ts (cost_form e) (s ++ b)) (edition_behind s b (omega (arith, h))) ∙ one_in (cost_form_at s 0) r short

-- ## All of them

pub read_behind : (L k : ℕ) → Behind L k
unfolding read_on next_check
read_behind L zero ts s b h = refl
read_behind L (suc k) ts [] b h = absurd (omega arith)
read_behind L (suc k) ts (c ∷ s) b h = one-behind L k (read_behind L k) ts (c ∷ s) b h
