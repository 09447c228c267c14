-- The comparison accepts exactly the pairs of tables that both pass the four-point condition, and refuses by the first check that
-- fails. Assumes nothing.
use Rattle.ground.specs.declared.TableRefusal.{TableRefusal}
use Rattle.ground.specs.Refusals.{Check, refused_in}
use Rattle.std.specs.Prelude.{List, ◌↔◌, refl, ◌≡◌, ℕ, Ok, Err}
use Rattle.std.proofs.Common.{sym, ap, ◌∙◌, arith, le-ltb}
use Rattle.ground.specs.declared.Refusal.{Refusal}
use Rattle.ground.specs.Laws.Refusals.{if_accepted}
use Rattle.theory.specs.Checks.{images_check}
use Rattle.theory.specs.Laws.Checks.{images-passed}
use Rattle.tree.specs.Exact.{Wired, exact_sides, table_check}
use Rattle.tree.proofs.Laws.Exact.{table-passed}
use Rattle.counts.specs.Differ.{differ}
use Rattle.counts.specs.declared.Difference.{Difference}
use Rattle.compare.specs.Answers.{BothWired, FirstRefusal, of_first, of_images, of_second}
use Rattle.compare.specs.Call.{against_second, both_tables, comparison, numbered, Comparison}

-- a refusal with a table's number is one refusal of one table
same_refused : (i m : ℕ) (q r : Refusal) → ◌≡◌ {A = Comparison} (refused_in i q) (refused_in m r) → (m ≡ i) × (q ≡ r)
same_refused i m q r e =
    let w : ◌≡◌ {A = TableRefusal} (record { table = i; refusal = q }) (record { table = m; refusal = r }) = cc in
    (sym (ap (λ (x : TableRefusal). x.table) w), ap (λ (x : TableRefusal). x.refusal) w)

numbered_compared : (m : ℕ) (c : Check) (y : Comparison) (x : Difference) → numbered m c y ≡ Ok x → (c ≡ Ok tt) × (y ≡ Ok x)
numbered_compared m c y x = if_accepted (refused_in m) c y (λ r q. absurd (let o : ◌≡◌ {A = ℕ} 0 1 = cc in omega arith))

module _ (L n : ℕ) (t u : List ℕ) where
  pub compare_accepted : (x : Difference) → comparison L n t u ≡ Ok x → BothWired L n t u x
  compare_accepted x e =
      let a = numbered_compared 0 (images_check n) (both_tables L n t u) x e in
      let b = numbered_compared 1 (table_check L n t) (against_second L n (exact_sides L n t) u) x a.1 in
      let c = numbered_compared 2 (table_check L n u) (Ok (differ n (exact_sides L n t) (exact_sides L n u))) x b.1 in
      let i = images-passed n a.0 in
      record {
        first = (table-passed L n t i.0 i.1).0 b.0;
        second = (table-passed L n u i.0 i.1).0 c.0;
        answer = same x (differ n (exact_sides L n t) (exact_sides L n u)) c.1;
      }
    where
      same : (x y : Difference) → ◌≡◌ {A = Comparison} (Ok y) (Ok x) → x ≡ y
      same x y e = cc

  pub compare_accepts : Wired L n t → Wired L n u → comparison L n t u ≡ Ok (differ n (exact_sides L n t) (exact_sides L n u))
  compare_accepts a b =
      let least = a.table.some in
      let most = a.table.few in
      rw (le-ltb n 3 least, le-ltb 64 n most, (table-passed L n t least most).1 a, (table-passed L n u least most).1 b)

  -- accepted exactly when some wiring gives each of the two tables
  pub compare_exactly : ((x : Difference) × (comparison L n t u ≡ Ok x)) ↔ (Wired L n t × Wired L n u)
  compare_exactly = (
    λ p. let a = compare_accepted p.0 p.1 in (a.first, a.second),
    λ p. (differ n (exact_sides L n t) (exact_sides L n u), compare_accepts p.0 p.1),
  )

  pub compare_refused : (m : ℕ) (r : Refusal) → comparison L n t u ≡ refused_in m r → FirstRefusal L n t u m r
  compare_refused m r e = images (images_check n) refl e
    where
      second : (c : Check) → table_check L n u ≡ c → images_check n ≡ Ok tt → table_check L n t ≡ Ok tt
          → numbered 2 c (Ok (differ n (exact_sides L n t) (exact_sides L n u))) ≡ refused_in m r → FirstRefusal L n t u m r
      second (Ok tt) s i f e = absurd (let o : ◌≡◌ {A = ℕ} 0 1 = cc in omega arith)
      second (Err q) s i f e = let p = same_refused 2 m q r e in of_second p.0 i f (s ∙ ap Err p.1)

      first : (c : Check) → table_check L n t ≡ c → images_check n ≡ Ok tt → numbered 1 c (against_second L n (exact_sides L n t) u) ≡ refused_in m r
          → FirstRefusal L n t u m r
      first (Ok tt) s i e = second (table_check L n u) refl i s e
      first (Err q) s i e = let p = same_refused 1 m q r e in of_first p.0 i (s ∙ ap Err p.1)

      images : (c : Check) → images_check n ≡ c → numbered 0 c (both_tables L n t u) ≡ refused_in m r → FirstRefusal L n t u m r
      images (Ok tt) s e = first (table_check L n t) refl s e
      images (Err q) s e = let p = same_refused 0 m q r e in of_images p.0 (s ∙ ap Err p.1)
