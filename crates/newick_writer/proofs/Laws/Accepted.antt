-- What the checks of the writer say: they pass for the link tables, and what is known of these. Assumes nothing.
use Rattle.std.specs.Prelude.{List, refl, ◌≡◌, suc, ℕ, ◌*◌, ◌-◌, ◌≤◌, ltb, length, replicate, take, Ok, Err}
use Rattle.std.proofs.Common.{ap, subst, sym, ◌∙◌, arith, take_at, le-ltb, ltb-false}
use lib.ListN.{length-replicate}
use Rattle.ground.specs.Outcomes.{Left, front_if, written_if}
use Rattle.ground.specs.Refusals.{places_if, refusal, room_check, Check, Written}
use Rattle.ground.specs.Laws.Refusals.{refuse_if-passed, then_same}
use Rattle.ground.specs.declared.Refusal.{Refusal}
use Rattle.theory.specs.Laws.JoinedRows.{rows_of-costs, rows_of-fars}
use Rattle.theory.specs.LinkTables.{rows_of}
use Rattle.theory.specs.Routes.{uppers}
use Rattle.theory.specs.Tables.{limit}
use Rattle.links.specs.Checks.{size_checks}
use Rattle.links.specs.Laws.LinkChecks.{link_checks_lem, rows-length, sizes_passed}
use Rattle.links.specs.Links.{Links}
use Rattle.routes.specs.Laws.Accepted.{few_rows}
use Rattle.climbing.specs.Laws.UpperRows.{upper_later, upper-most, uppers-length}
use Rattle.routes.specs.Orders.{upper_checks}
use Rattle.routes.specs.Outcomes.{upper_outcome}
use Rattle.text.specs.Putting.{Fits}
use Rattle.newick_text.specs.LinkTrees.{newick}
use Rattle.newick_rows.specs.Below.{tree_text}
use Rattle.newick_rows.proofs.Laws.Below.{tree_text_lem}
use Rattle.newick_writer.specs.Laws.Bytes.{text-bytes}
use Rattle.newick_writer.specs.Writing.{Known, room_outcome, table_checks, write_outcome}

-- ## Room

pub room-passed : (needed room : ℕ) → room_check needed room ≡ Ok tt → needed ≤ room
room-passed needed room e = ltb-false room needed (refuse_if-passed (ltb room needed) (refusal 3 0 0 0 0) e)

-- text fits at the front where its bytes have room
pub room_fits : (m o : List ℕ) → room_check (length m) (length o) ≡ Ok tt → Fits m 0 o
room_fits m o e = omega (arith, room-passed (length m) (length o) e)

-- ## What the upper rows were asked for, in 128 places

-- a check whose refusal was the answer, and one whose answer was no refusal
pub said_refused : (y : Check) (k : ℕ) (r : Refusal) → Err r ≡ places_if y k → y ≡ Err r
said_refused (Ok tt) k r e = absurd (let z : ◌≡◌ {A = ℕ} 0 1 = cc in omega arith)
said_refused (Err p) k r e = let s : p ≡ r = cc in ap Err s

pub said_places : (y : Check) (k j : ℕ) → Ok j ≡ places_if y k → (y ≡ Ok tt) × (j ≡ k)
said_places (Ok tt) k j e = let s : j ≡ k = cc in (refl, s)
said_places (Err p) k j e = absurd (let z : ◌≡◌ {A = ℕ} 0 1 = cc in omega arith)

module _ (n N : ℕ) (l v : List ℕ) where
  -- 128 places are enough, so that 3 is not given
  upper_checks_lem : (o : List ℕ) → length o ≡ 128 → upper_checks limit n N l v (length o) ≡ table_checks n N l v
  upper_checks_lem o q =
      then_same (size_checks n N l v) refl
      (λ e. rw (le-ltb (length o) (2 * n - 3) (omega (arith, q, (sizes_passed n N l v e).few))) refl)

  -- what was left in the places o
  module _ (o : List ℕ) (q : length o ≡ 128) {w : Written} {e : List ℕ} (t : Left (upper_outcome limit n N l v o) w e) where
    pub uppers-refused : {r : Refusal} → w ≡ Err r → table_checks n N l v ≡ Err r
    uppers-refused {r} s = sym (upper_checks_lem o q) ∙ said_refused (upper_checks limit n N l v (length o)) (length (uppers l)) r (sym s ∙ t.answered)

    passed : {k : ℕ} → w ≡ Ok k → upper_checks limit n N l v (length o) ≡ Ok tt
    passed {k} s = (said_places (upper_checks limit n N l v (length o)) (length (uppers l)) k (sym s ∙ t.answered)).0

    pub uppers_links : {k : ℕ} → w ≡ Ok k → Links limit n N l v
    uppers_links s = (link_checks_lem limit n N l v).0 (sym (upper_checks_lem o q) ∙ passed s)

    pub uppers-left : {k : ℕ} → w ≡ Ok k → take (length l) e ≡ uppers l
    uppers-left s =
        ap (take (length l)) (t.left ∙ ap (λ (y : Check). front_if y (uppers l) o) (passed s)) ∙ take_at (uppers l) _ (length l) (uppers-length 1 l)

  -- ## A link table

  module _ (t : Links limit n N l v) where
    pub few_here : (1 ≤ length l) × (length l ≤ 125) × (length l ≡ length v)
    few_here = let f = few_rows limit n N l v t in (omega (arith, f.0, t.counted), omega (arith, f.2, t.counted), omega (arith, t.counted, t.costed))

    -- its text by upper rows, and how many bytes this has
    pub newick_is : newick (rows_of l v) ≡ tree_text (uppers l) l v
    newick_is =
        let f = few_here in
        let e : length (rows_of l v) ≡ suc (length l - 1) = rows-length l v f.2 ∙ omega (arith, f.0) in
        tree_text_lem limit n t.few (rows_of l v) t.table t.some (omega arith) (length l - 1) e
        ∙ rw (rows_of-fars l v f.2, rows_of-costs l v f.2) refl

    pub known : {u : List ℕ} → u ≡ uppers l → Known u l v
    known {u} e =
        let f = few_here in
        rw e (record {
          some = f.0;
          sized = record { few = f.1; costed = sym f.2; ruled = uppers-length 1 l };
          upward = record {
            most = λ i h. omega (arith, uppers-length 1 l, upper-most l i (omega (arith, uppers-length 1 l)));
            later = λ i h g. upper_later l i (omega (arith, uppers-length 1 l)) g;
          };
          bytes = ap length (sym newick_is) ∙ text-bytes limit n t.few (rows_of l v) t.table t.some;
        })

    -- what is written of it by upper rows is the outcome
    pub write_known : (out : List ℕ) {u e : List ℕ} {r : Written} → u ≡ uppers l → Left (room_outcome u l v out) r e → Left (write_outcome n N l v out) r e
    write_known out {u} {e} {r} q w =
        let m : tree_text u l v ≡ newick (rows_of l v) = ap (λ (x : List ℕ). tree_text x l v) q ∙ sym newick_is in
        let s = subst (λ (x : List ℕ). Left (written_if (room_check (length x) (length out)) x out) r e) m w in
        rw ((link_checks_lem limit n N l v).1 t) s

  -- refused before its room is looked at
  pub write_stopped : {r : Refusal} (out : List ℕ) → table_checks n N l v ≡ Err r → Left (write_outcome n N l v out) (Err r) out
  write_stopped out e = rw e (record { answered = refl; left = refl })

  -- ## What the upper rows that were found, in 128 places, say of the table and of what is written by them

  module _ {w : Written} {e : List ℕ} (t : Left (upper_outcome limit n N l v (replicate 128 0)) w e) {k : ℕ} (s : w ≡ Ok k) where
    links_here : Links limit n N l v
    links_here = uppers_links (replicate 128 0) (length-replicate {A = ℕ} 128 0) t s

    uppers_here : take (length l) e ≡ uppers l
    uppers_here = uppers-left (replicate 128 0) (length-replicate {A = ℕ} 128 0) t s

    pub uppers_known : Known (take (length l) e) l v
    uppers_known = known links_here uppers_here

    pub uppers_written : (out : List ℕ) {r : Written} {f : List ℕ} → Left (room_outcome (take (length l) e) l v out) r f
        → Left (write_outcome n N l v out) r f
    uppers_written out p = write_known links_here out uppers_here p
