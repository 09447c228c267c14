-- What the report answers and leaves in the three lent slices, in document 02's words. Assumes nothing.
use Rattle.ground.specs.declared.TableRefusal.{TableRefusal}
use Rattle.figures.specs.declared.Figures.{Figures}
use Rattle.report.specs.declared.TermReport.{TermReport}
use Rattle.std.specs.Prelude.{Bool, ◌||◌, List, ◌≡◌, ℕ, ◌+◌, ltb, length, Ok, Err, Result}
use Rattle.ground.specs.Buffers.{front}
use Rattle.ground.specs.Refusals.{refusal, refuse_if, Check}
use Rattle.seen.specs.Columns.{sides_in, sums_in, trees_in}
use Rattle.figures.specs.Figures.{entries_at, figures_of, no_figures}
use Rattle.figures.specs.Checks.{most_sides}
use Rattle.figures.specs.Reading.{Ended, read_all}

-- 3: one of the three slices has fewer than 1,024 places
abbrev pub short : ℕ → ℕ → ℕ → Bool
short f t s = ltb f most_sides || (ltb t most_sides || ltb s most_sides)

abbrev pub room_check : ℕ → ℕ → ℕ → Check
room_check f t s = refuse_if (short f t s) (refusal 3 0 0 0 0)

-- the number of the table that was refused, the one behind the k that were read; 0 where none was
abbrev pub refused_table : Check → ℕ → ℕ
refused_table (Ok tt) k = 0
refused_table (Err r) k = k + 1

-- a report as its figures, the number of the table that was refused, 0 where none was, and how it ended
pub record Report : Type 0 where
  pub figures : Figures
  pub table : ℕ
  pub stop : Check

abbrev pub table_in : Result (Unit {0}) TableRefusal → ℕ
table_in (Ok tt) = 0
table_in (Err r) = r.table

abbrev pub end_in : Result (Unit {0}) TableRefusal → Check
end_in (Ok tt) = Ok tt
end_in (Err r) = Err r.refusal

abbrev pub seen_as : TermReport → Report
seen_as r = record { figures = r.figures; table = table_in r.stop; stop = end_in r.stop }

-- the figures over the tables read, and how it ended
abbrev pub report_of : ℕ → Ended → Report
report_of L e = record { figures = figures_of L e.read; table = refused_table e.stop (length e.read); stop = e.stop }

-- an answer, and the three slices as a call leaves them
pub record ReportOutcome (A : Type 0) : Type 0 where
  pub answer : A
  pub far_list : List ℕ
  pub tree_list : List ℕ
  pub sum_list : List ℕ

-- a call answered r and left the far sides f, the numbers of trees t and the sums s, as o says
pub record LeftReport {A : Type 0} (o : ReportOutcome A) (r : A) (f t s : List ℕ) : Type 0 where
  pub answered : r ≡ o.answer
  pub far-sides : f ≡ o.far_list
  pub tree_numbers : t ≡ o.tree_list
  pub cost_sums : s ≡ o.sum_list

-- refused with 3: table number 0, no figures, nothing altered; else the figures of the far sides seen stand in front
abbrev pub outcome : ℕ → Check → Ended → List ℕ → List ℕ → List ℕ → ReportOutcome Report
outcome L (Ok tt) e f t s = record {
  answer = report_of L e;
  far_list = front (sides_in (entries_at L e.read)) f;
  tree_list = front (trees_in (entries_at L e.read)) t;
  sum_list = front (sums_in (entries_at L e.read)) s;
}
outcome L (Err r) e f t s =
    record { answer = record { figures = no_figures; table = 0; stop = Err r }; far_list = f; tree_list = t; sum_list = s }

-- of the bytes, with the limit L
abbrev pub report_outcome : ℕ → List ℕ → List ℕ → List ℕ → List ℕ → ReportOutcome Report
report_outcome L bytes f t s = outcome L (room_check (length f) (length t) (length s)) (read_all L bytes) f t s
