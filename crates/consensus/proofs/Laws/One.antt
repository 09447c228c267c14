-- A team of one table: the two calls come to the same. Assumes nothing.
use Rattle.ground.specs.Refusals.{Check, Written}
use Rattle.std.specs.Prelude.{List, ◌≡◌, ℕ, ◌*◌, length, Ok}
use Rattle.std.proofs.Common.{ap, subst, sym, ◌∙◌, arith, take_all}
use Rattle.theory.specs.LinkTables.{Row}
use Rattle.theory.specs.Outcomes.{LeftRows, RowsOutcome}
use Rattle.tree.specs.Exact.{Wired, exact_rows}
use Rattle.tree.proofs.Laws.Exact.{exact_check_lem, table-passed}
use Rattle.tree.specs.Readings.{exact_outcome, outcome}
use Rattle.consensus.specs.Call.{consensus_outcome, leaving, Shared}
use Rattle.consensus.specs.Laws.Joined.{no_table}
use Rattle.consensus.proofs.Laws.Left.{consensus_reads}
use Rattle.consensus.specs.Laws.Sharing.{wired-more, shared-one}
use Rattle.consensus.specs.Team.{TeamReady, shared_links, table_at, tables_in}

pub only_table : (n : ℕ) (t : List ℕ) → length t ≡ 1 * (n * n) → table_at n t 0 ≡ t
unfolding table_at
only_table n t e = let z : 0 * (n * n) ≡ 0 = omega arith in rw z (take_all (n * n) t (omega arith))

module _ (L n : ℕ) (t f v : List ℕ) (y : TeamReady n 1 t (length f) (length v)) (w : Wired L n t) where
  abbrev T : List Row
  T = exact_rows L n t

  first-wired : Wired L n (table_at n t 0)
  first-wired = subst (Wired L n) (sym (only_table n t y.joined.sized)) w

  one-shared : shared_links L n (tables_in n 1 t) ≡ T
  one-shared = shared-one L n (table_at n t 0) first-wired ∙ ap (exact_rows L n) (only_table n t y.joined.sized)

  one-consensus : consensus_outcome L n 1 t f v ≡ leaving (Ok (length T)) T f v
  one-consensus =
      ap (λ (s : Shared). leaving s (shared_links L n (tables_in n 1 t)) f v)
      (consensus_reads L n 1 t f v y (wired-more L n t 0 (no_table n t (Wired L n)) first-wired))
      ∙ ap (λ (X : List Row). leaving (Ok (length X)) X f v) one-shared

  one_exact : exact_outcome L n t f v ≡ outcome (Ok tt) T f v
  one_exact =
      let j = y.joined in
      ap (λ (c : Check). outcome c T f v)
      (exact_check_lem L n t j.some j.few (length f) (length v) y.far-room y.cost-room ∙ (table-passed L n t j.some j.few).1 w)

  module _ (r : ℕ) (f' v' : List ℕ) where
    pub one_to_exact : LeftRows (consensus_outcome L n 1 t f v) (Ok r) f' v' → LeftRows (exact_outcome L n t f v) (Ok r) f' v'
    one_to_exact l =
        let p = subst (λ (o : RowsOutcome Shared). LeftRows o (Ok r) f' v') one-consensus l in
        subst (λ (o : RowsOutcome Written). LeftRows o (Ok r) f' v') (sym one_exact)
        (record { answered = ap Ok (same r (length T) p.answered); far-sides = p.far-sides; doubled = p.doubled })
      where
        same : (a b : ℕ) → ◌≡◌ {A = Shared} (Ok a) (Ok b) → a ≡ b
        same a b e = cc

    pub exact_to_one : LeftRows (exact_outcome L n t f v) (Ok r) f' v' → LeftRows (consensus_outcome L n 1 t f v) (Ok r) f' v'
    exact_to_one l =
        let p = subst (λ (o : RowsOutcome Written). LeftRows o (Ok r) f' v') one_exact l in
        subst (λ (o : RowsOutcome Shared). LeftRows o (Ok r) f' v') (sym one-consensus)
        (record { answered = ap Ok (same r (length T) p.answered); far-sides = p.far-sides; doubled = p.doubled })
      where
        same : (a b : ℕ) → ◌≡◌ {A = Written} (Ok a) (Ok b) → a ≡ b
        same a b e = cc
