-- One table more in the loop: it goes on, or a refusal ends the report at the tables before. Assumes nothing.
use Rattle.std.specs.Prelude.{List, [], ◌++◌, ◌∷◌, refl, ◌≡◌, suc, ℕ, ◌+◌, ◌-◌, ◌<◌, ◌≤◌, drop, length, Ok, Err}
use Rattle.std.proofs.Common.{ap, sym, ◌∙◌, arith, length-append, length-drop, drop-drop}
use Rattle.ground.specs.Laws.Refusals.{then_passed}
use Rattle.ground.specs.Refusals.{◌then◌, Check}
use Rattle.ground.specs.declared.Refusal.{Refusal}
use Rattle.theory.specs.Tables.{limit}
use Rattle.cost_forms.specs.Form.{cost_form_at}
use Rattle.stored_costs.proofs.Laws.Enough.{table_readable}
use Rattle.seen.specs.Columns.{Room}
use Rattle.seen.specs.Laws.Columns.{stored_then}
use Rattle.figures.specs.Figures.{entries_at}
use Rattle.report.specs.Laws.Run.{Running, held}
use Rattle.figures.proofs.Laws.Grown.{sum_end}
use Rattle.report.specs.Outcome.{LeftReport, outcome}
use Rattle.figures.specs.Checks.{many_check, most_sides, most_tables, next_check, same_check, stored_checks}
use Rattle.figures.specs.Reading.{go_on, read_all, read_on}
use Rattle.counting.specs.Taking.{Moved, Turn}
use Rattle.figures.specs.Tables.{Table, table_at}
use Rattle.figures.specs.declared.Figures.{Figures}
use Rattle.counting.specs.declared.Standing.{Standing}

-- one table more where bytes are left
pub on_some : (m : ℕ) (ts : List Table) (b : List ℕ) → 0 < length b
    → read_on limit (suc m) ts b ≡ go_on (next_check limit ts b) ts (read_on limit m (ts ++ (table_at b ∷ [])) (drop (table_at b).used b))
unfolding read_on
on_some m ts [] h = absurd (omega arith)
on_some m ts (x ∷ b) h = refl

-- a table that is taken stands within the bytes
pub next_within : (ts : List Table) (b : List ℕ) → next_check limit ts b ≡ Ok tt → (table_at b).used ≤ length b
unfolding next_check
next_within ts b e =
    (table_readable (cost_form_at b 0) b (then_passed (stored_checks b) (same_check ts (table_at b).images then many_check limit (ts ++ (table_at b ∷ []))) e).0).whole

module _ (bytes f t s : List ℕ) (room : Room most_sides f t s) (k : ℕ) (here : Standing) (f' t' s' : List ℕ) (r : Running bytes f t s k here f' t' s')
    (h : k < most_tables) (u : here.figures.used < length bytes) (x : Turn) (f'' t'' s'' : List ℕ)
    (m : Moved limit (next_check limit r.read (drop here.figures.used bytes))
    r.read (table_at (drop here.figures.used bytes)) x f' t' s' f'' t'' s'') where
  next : read_all limit bytes
      ≡ go_on (next_check limit r.read (drop here.figures.used bytes)) r.read
      (read_on limit (most_tables - (k + 1)) (r.read ++ (table_at (drop here.figures.used bytes) ∷ []))
      (drop (table_at (drop here.figures.used bytes)).used (drop here.figures.used bytes)))
  next =
      let e : most_tables - k ≡ suc (most_tables - (k + 1)) = omega arith in
      r.same ∙ ap (λ (j : ℕ). read_on limit j r.read (drop here.figures.used bytes)) e
      ∙ on_some (most_tables - (k + 1)) r.read (drop here.figures.used bytes) (omega (arith, length-drop here.figures.used bytes))

  pub running_more : x.stop ≡ Ok tt → length f'' ≡ length f' → length t'' ≡ length t' → length s'' ≡ length s' → Running bytes f t s (k + 1) x.standing f'' t'' s''
  running_more p a b c =
      let d = drop here.figures.used bytes in
      let tb = table_at d in
      let e : next_check limit r.read d ≡ (Ok tt) = sym m.stopped ∙ p in
      let st = rw e at m.stands in
      let so = rw e at m.stored in
      let gr = rw e at m.grown in
      let w : x.standing.figures.used ≡ here.figures.used + tb.used =
      ap (λ (z : Figures). z.used) st.figures ∙ sum_end r.read tb ∙ ap (λ (z : Figures). z.used + tb.used) (sym r.stands.figures) in
      record {
        read = r.read ++ (tb ∷ []);
        stands = st;
        stored = stored_then (entries_at limit r.read) (entries_at limit (r.read ++ (tb ∷ []))) _ _ f t s f' t' s' f'' t'' s''
            (held bytes f t s room k here f' t' s' r) gr r.stored so;
        counted = length-append r.read (tb ∷ []) ∙ ap (λ (j : ℕ). j + 1) r.counted;
        within = omega (arith, w, next_within r.read d e, length-drop here.figures.used bytes);
        far_same = a ∙ r.far_same;
        tree_same = b ∙ r.tree_same;
        sum_same = c ∙ r.sum_same;
        same = next ∙ ap (λ (z : Check). go_on z r.read (read_on limit (most_tables - (k + 1)) (r.read ++ (tb ∷ [])) (drop tb.used d))) e
            ∙ ap (read_on limit (most_tables - (k + 1)) (r.read ++ (tb ∷ []))) (drop-drop tb.used here.figures.used bytes
            ∙ ap (λ (j : ℕ). drop j bytes) (sym w));
      }

  -- a refusal: the report ends at the tables before
  pub running_stops : (q : Refusal) → x.stop ≡ Err q
      → LeftReport (outcome limit (Ok tt) (read_all limit bytes) f t s) (record { figures = x.standing.figures; table = k + 1; stop = x.stop }) f'' t'' s''
  running_stops q p =
      let d = drop here.figures.used bytes in
      let e : next_check limit r.read d ≡ Err q = sym m.stopped ∙ p in
      let st = rw e at m.stands in
      let so = rw e at m.stored in
      let w = stored_then (entries_at limit r.read) (entries_at limit r.read) _ _ f t s f' t' s' f'' t'' s''
      (held bytes f t s room k here f' t' s' r) (omega arith) r.stored so in
      rw (next, e, p) (record {
        answered = rw (st.figures, ← r.counted) refl;
        far-sides = w.sides;
        tree_numbers = w.trees;
        cost_sums = w.sums;
      })
