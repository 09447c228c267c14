-- Writing undoes reading, and reading undoes writing. Assumes nothing.
use Rattle.std.specs.Prelude.{false, not, true, List, refl, ◌≡◌, suc, ℕ, ◌*◌, ◌-◌, ◌<◌, ◌≤◌, get_or, length, Ok}
use Rattle.std.proofs.Common.{ap, sym, ◌∙◌, arith, le-ltb, ne_eqb}
use borrow.Table.Steps.{cases}
use Rattle.ground.specs.Members.{is_in}
use Rattle.theory.specs.FarSides.{inner}
use Rattle.theory.specs.LinkTables.{LinkTable, Row, costs, fars}
use Rattle.bad_rows.specs.BadRows.{bad_cost}
use Rattle.links.specs.Laws.FirstChecks.{passed_first}
use Rattle.newick_text.specs.Trees.{Siblings, text}
use Rattle.newick_text.specs.Tables.{names, table_of}
use Rattle.newick_text.specs.LinkTrees.{link_tree, newick}
use Rattle.newick_text.specs.States.{done, start}
use Rattle.newick_text.specs.Bytes.{run}
use Rattle.newick_text.specs.Reading.{read_checks, tree_checks, tree_in}
use Rattle.newick_text.proofs.Laws.Accepted.{said, tree_again}
use Rattle.newick_text.specs.Laws.Falls.{rising_whole}
use Rattle.newick_text.specs.Laws.LinkTrees.{LinkTree, link_tree_lem}
use Rattle.newick_text.specs.Laws.Lists.{row_at}
use Rattle.newick_text.specs.Laws.NamedOnce.{occ-named}
use Rattle.newick_text.proofs.Laws.Reads.{tree_read}

-- ## One text

-- writing what was read gives the same text
pub write_read : (L : ℕ) (t : List ℕ) (room : ℕ) → read_checks L t room ≡ Ok tt → newick (table_of (tree_in t)) ≡ t
write_read L t room e = let s = said L t room e in ap text (tree_again L room (tree_in t) s.fine s.accepted) ∙ sym s.spelled

-- one link table has one text
pub one-text : (L : ℕ) (t u : List ℕ) (room : ℕ) → read_checks L t room ≡ Ok tt → read_checks L u room ≡ Ok tt → table_of (tree_in t) ≡ table_of (tree_in u) → t ≡ u
one-text L t u room p q e = sym (write_read L t room p) ∙ ap newick e ∙ write_read L u room q

-- ## Reading undoes writing

good_cost : (L n S c : ℕ) → c ≤ 2 * L → (inner n S ≡ true → 0 < c) → bad_cost L n S c ≡ false
good_cost L n S c l h = rw (le-ltb (2 * L) c l) (cases (inner n S) (λ e. rw e (ne_eqb c 0 (λ q. omega (arith, h e)))) (λ e. rw e refl))

module _ (L n : ℕ) (T : List Row) (t : LinkTable L n T) (some : 3 ≤ n) (few : n ≤ 64) (small : 2 * L < 100000000) (room : ℕ) (roomy : 2 * n - 3 ≤ room) where
  pub written : LinkTree n T (link_tree T)
  written = link_tree_lem L n few T t some small

  abbrev f : Siblings
  f = link_tree T

  tree_passes : tree_checks L f room ≡ Ok tt
  tree_passes =
      let w = written in
      rw (
        w.counted,
        le-ltb n 3 some,
        le-ltb 64 n few,
        le-ltb room (2 * n - 3) roomy,
        passed_first 13 (λ i. not (is_in (suc i) (names f))) n (λ i l. ap not (occ-named f i (w.all i l))),
        w.table,
        passed_first 12 (λ k. bad_cost L n (get_or (fars T) k 0) (get_or (costs T) k 0)) (length T) (λ k l.
            let m = row_at T k l in good_cost L n (get_or (fars T) k 0) (get_or (costs T) k 0) (t.small _ m) (t.drawn _ m)),
        rising_whole n f w.rising,
      )
      refl

  -- what is written of a link table is read as that table
  pub read_written : (read_checks L (newick T) room ≡ Ok tt) × (table_of (tree_in (newick T)) ≡ T)
  read_written =
      let d : run start (newick T) ≡ done f = tree_read f written.fine in
      (rw d tree_passes, rw d written.table)
