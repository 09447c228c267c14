-- The tree of an accepted text. Assumes nothing.
use Rattle.std.proofs.lemmas.Bool.{false≢true, not-false}
use Rattle.std.specs.Prelude.{not, true, List, refl, ◌≡◌, suc, ℕ, ◌*◌, ◌+◌, ◌-◌, ◌≤◌, eqb, ltb, length, Ok}
use Rattle.std.proofs.Common.{ap, sym, ◌∙◌, arith, eqb-true, ltb-false}
use Rattle.ground.specs.Members.{is_in}
use Rattle.ground.specs.Refusals.{room_check}
use Rattle.ground.specs.Laws.Refusals.{refuse_if-passed, then_passed}
use Rattle.theory.specs.Checks.{images_check}
use Rattle.theory.specs.Laws.Checks.{images-passed}
use Rattle.links.specs.Laws.FirstChecks.{first-passed}
use Rattle.text.specs.Decimal.{decimal}
use Rattle.newick_text.specs.Trees.{Siblings, bracket, image, none, text}
use Rattle.newick_text.specs.Profile.{Formed, Tree}
use Rattle.newick_text.specs.Tables.{names, table_of}
use Rattle.newick_text.specs.Order.{RisingTree, fall}
use Rattle.newick_text.specs.LinkTrees.{link_tree, rooted}
use Rattle.newick_text.specs.States.{State, costing, dead, done, ended, head, start, vertex}
use Rattle.newick_text.specs.Bytes.{run}
use Rattle.newick_text.specs.Ends.{is_done, tree_of}
use Rattle.newick_text.specs.Reading.{costs_check, names_check, profile_check, read_checks, tree_checks, tree_in}
use Rattle.newick_text.specs.Laws.Falls.{no_fall}
use Rattle.newick_text.specs.Laws.NamedOnce.{AllOnce, all_once}
use Rattle.newick_text.specs.Laws.OneText.{grown_again}
use Rattle.newick_text.proofs.Laws.Place.{done_text}
use Rattle.newick_text.specs.Laws.Vertices.{Bushy, Proper, behind_once, occ}

pub formed_bushy : (d : ℕ) (f : Siblings) → Formed d f → Bushy f
formed_bushy d none h = tt
formed_bushy d (image i c r) h = formed_bushy d r h.2
formed_bushy d (bracket g c r) h = (h.1, formed_bushy (suc d) g h.2, formed_bushy d r h.4)

-- what the checks of a tree of the profile say
pub record Accepted (L : ℕ) (f : Siblings) (room : ℕ) : Type 0 where
  pub some : 3 ≤ length (names f)
  pub few : length (names f) ≤ 64
  pub roomy : 2 * length (names f) - 3 ≤ room
  pub all : AllOnce (length (names f)) f
  pub costly : costs_check L (length (names f)) (table_of f) ≡ Ok tt
  pub rising : RisingTree f

pub tree_accepted : (L : ℕ) (f : Siblings) (room : ℕ) → Tree f → tree_checks L f room ≡ Ok tt → Accepted L f room
tree_accepted L f room w e =
    let n = length (names f) in
    let a = then_passed (images_check n) _ e in
    let b = then_passed (room_check (2 * n - 3) room) _ a.1 in
    let c = then_passed (names_check n f) _ b.1 in
    let d = then_passed (costs_check L n (table_of f)) _ c.1 in
    let k = images-passed n a.0 in
    let q = all_once n f refl (λ m l. not-false (is_in (suc m) (names f)) (first-passed 13 (λ i. not (is_in (suc i) (names f))) n c.0 m l)) in
    let z = eqb-true (fall f) 0 (not-false (eqb (fall f) 0) (refuse_if-passed (not (eqb (fall f) 0)) _ d.1)) in
    record {
      some = k.0;
      few = k.1;
      roomy = ltb-false room (2 * n - 3) (refuse_if-passed (ltb room (2 * n - 3)) _ b.0);
      all = q;
      costly = d.0;
      rising = go f w q z;
    }
  where
    go : (f : Siblings) → Tree f → AllOnce (length (names f)) f → fall f ≡ 0 → RisingTree f
    go none w q z = tt
    go (image i c r) w q z =
        let p : ℕ = 2 + (length (decimal i) + (length (decimal c) + 2)) in
        no_fall (length (names (image i c r))) p 0 r (omega arith) q.named.2 (behind_once i c r q.once) (formed_bushy 1 r w.formed.2) z
    go (bracket g c r) w q z = tt

-- the vertices of an accepted tree, over image 1's row
pub root_proper : (L room i c : ℕ) (r : Siblings) → Tree (image i c r) → Accepted L (image i c r) room
    → Proper (length (names (image i c r))) (bracket r c none)
unfolding occ
root_proper L room i c r w a = record {
  named = (a.all.named.2, tt);
  once = λ m. omega (arith, a.all.once m);
  bushy = (omega (arith, w.three), formed_bushy 1 r w.formed.2, tt);
  rising = (omega arith, a.rising, tt);
}

pub tree_again : (L room : ℕ) (f : Siblings) → Tree f → Accepted L f room → link_tree (table_of f) ≡ f
tree_again L room none w a = absurd (omega (arith, w.three))
tree_again L room (image i c r) w a =
    ap rooted (grown_again (length (names (image i c r))) a.few (bracket r c none) (root_proper L room i c r w a))
    ∙ ap (λ (x : ℕ). image x c r) (sym w.one)
tree_again L room (bracket g c r) w a = absurd w.one

-- ## A text

-- what an accepted text says
pub record Said (L : ℕ) (t : List ℕ) (room : ℕ) : Type 0 where
  pub spelled : t ≡ text (tree_in t)
  pub fine : Tree (tree_in t)
  pub accepted : Accepted L (tree_in t) room

pub done_is : (s : State) → is_done s ≡ true → s ≡ done (tree_of s)
done_is start e = absurd (false≢true e)
done_is (vertex o) e = absurd (false≢true e)
done_is (head o v) e = absurd (false≢true e)
done_is (costing o v x) e = absurd (false≢true e)
done_is (ended f) e = absurd (false≢true e)
done_is (done f) e = refl
done_is dead e = absurd (false≢true e)

pub said : (L : ℕ) (t : List ℕ) (room : ℕ) → read_checks L t room ≡ Ok tt → Said L t room
said L t room e =
    let a = then_passed (profile_check t) _ e in
    let d = done_is (run start t) (not-false (is_done (run start t)) (refuse_if-passed (not (is_done (run start t))) _ a.0)) in
    let k = done_text t (tree_in t) d in
    record { spelled = k.0; fine = k.1; accepted = tree_accepted L (tree_in t) room k.1 a.1 }
