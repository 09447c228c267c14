-- A text on one way through its bytes: what is noted of the first i, and what is said at the end. Assumes nothing.
use Rattle.std.specs.Prelude.{false, true, List, refl, ◌≡◌, suc, ℕ, ◌+◌, ◌<◌, ◌≤◌, get_or, take, Ok, Err}
use Rattle.std.proofs.lemmas.Bool.{false≢true}
use Rattle.std.proofs.Math.Path.{ap}
use Rattle.std.proofs.Common.{subst, sym, ◌∙◌, take_all}
use native.Mathlib.Omega.{arith}
use Rattle.std.proofs.Math.ListN.{length}
use Rattle.std.proofs.Math.Seq.{length-take-le}
use Rattle.tree.specs.Laws.LocalRows.{rows_in_none}
use Rattle.newick_text.specs.Tables.{names}
use Rattle.newick_text.specs.Bytes.{run, step}
use Rattle.newick_text.specs.States.{State, costing, dead, done, ended, head, start, vertex}
use Rattle.newick_text.specs.Ends.{is_done, tree_of}
use Rattle.newick_text.specs.Spelled.{spelled}
use Rattle.newick_text.specs.Noting.{fallen, last_far, marked, noted}
use Rattle.newick_text.proofs.Laws.Fine.{run_fine}
use Rattle.newick_text.proofs.Laws.Steps.{run-spelled}
use Rattle.newick_bytes.specs.Seen.{is_dead_seen, is_done_seen}
use Rattle.newick_bytes.specs.Next.{next_seen}
use Rattle.newick_bytes.specs.Outer.{next_outer}
use Rattle.newick_bytes.specs.declared.Seen.{Seen}
use Rattle.newick_bytes.specs.declared.Seen.TheVariants.{Start}
use Rattle.newick_bytes.specs.Laws.Reached.{Reached, dead_here, reached-more, reached_none, run_more, stopped_end, stopped_here, whole_end}
use Rattle.newick_notes.specs.Stacks.{Sized, Stacks}
use Rattle.newick_notes.specs.Turns as turns
use Rattle.newick_scan.specs.Noting.{Kept, Noting, kept}
use Rattle.newick_scan.specs.Able.{Able}
use Rattle.newick_scan.specs.Says.{Says, ToldTree}
use Rattle.newick_scan.specs.Reading.{Notes}
use Rattle.newick_scan.specs.Laws.Able.{notes_able, notes_room, sized_byte}
use Rattle.newick_scan.specs.Laws.Byte.{notes_byte}
use Rattle.newick_scan.specs.Laws.Few.{few_byte}
use Rattle.newick_scan.specs.Laws.Turning.{able_at}

-- the first i bytes of t were read: s and o are what is kept of them, x is what was noted
pub record Scans (t : List ℕ) (i : ℕ) (s : Seen) (o : List ℕ) (x : Kept) : Type 0 where
  pub reached : Reached t i s o
  pub notes : Notes (run start (take i t)) x
  pub sized : Sized x.stacks
  pub few : x.noted.names ≤ i

pub scans_none : (t o : List ℕ) (a : Stacks) (f v : List ℕ) → length o ≡ 64 → Sized a → length f ≡ 128 → length v ≡ 128
    → Scans t 0 Start o (kept (turns.noted 0 0 0 0 0 0 0) a f v)
unfolding run names marked fallen noted last_far
scans_none t o a f v e z p q = record {
  reached = reached_none t o e;
  notes = (
    record { names = refl; marked = refl; fallen = refl; rows = rows_in_none f v; far-size = p; cost-size = q },
    record { last = refl; masks = tt; lasts = tt; places = tt },
  );
  sized = z;
  few = omega arith;
}

done_told : (x : Kept) (s : State) → is_done s ≡ true → Notes s x → ToldTree (tree_of s) x.noted x.fars x.costs
done_told x start e h = absurd (false≢true e)
done_told x (vertex o) e h = absurd (false≢true e)
done_told x (head o u) e h = absurd (false≢true e)
done_told x (costing o u d) e h = absurd (false≢true e)
done_told x (ended g) e h = absurd (false≢true e)
done_told x (done g) e h = h
done_told x dead e h = absurd (false≢true e)

module _ (t : List ℕ) (i : ℕ) (s : Seen) (o : List ℕ) (x : Kept) (h : Scans t i s o x) where
  pub scans_able : Able s (i + 1) x
  scans_able =
      let c = h.reached in
      let σ = run start (take i t) in
      record {
        here = able_at x.noted x.stacks (sym c.kept) (notes_able x σ h.sized (run_fine start (take i t) tt c.live) h.notes);
        sized = h.sized;
        few = omega (arith, h.few);
        room = notes_room x σ c.live h.notes;
      }

  -- the place of the next byte
  next_place : i + 1 ≡ suc (length (spelled (run start (take i t))))
  unfolding spelled
  next_place =
      let c = h.reached in
      let e : length (spelled (run start (take i t))) ≡ i = ap length (run-spelled start (take i t) c.live) ∙ length-take-le i t c.inside in
      omega arith

  -- one byte more, b
  module _ (b : ℕ) (e : b ≡ get_or t i 0) (l : i < length t) (s' : Seen) (o' : List ℕ) (p : s' ≡ next_seen s b o) (q : o' ≡ next_outer s b o) where
    pub scans_more : (y : Kept) → is_dead_seen s' ≡ false → Noting s b (i + 1) x y → Scans t (i + 1) s' o' y
    scans_more y d n =
        let σ = run start (take i t) in
        let c = reached-more t i s o h.reached l s' o' (rw e at p) (rw e at q) d in
        let g : run start (take (i + 1) t) ≡ step σ b = run_more t i l ∙ ap (step σ) (sym e) in
        let m = subst (λ (k : Seen). Noting k b (i + 1) x y) h.reached.kept n in
        record {
          reached = c;
          notes = rw g (notes_byte b (i + 1) x y σ h.sized next_place (rw g at c.live) h.notes m);
          sized = sized_byte b (i + 1) x y h.sized s n;
          few = omega (arith, few_byte b (i + 1) x y s n, h.few);
        }

    pub scans_stop : is_dead_seen s' ≡ true → Says t (Err i) x.fars x.costs
    scans_stop d =
        let c = h.reached in
        let m = scans_able.room in
        let k = stopped_here t i l c.live (sym (dead_here t i s o c l s' o' (rw e at p) (rw e at q)) ∙ d) in
        (k.0, k.1, m.far-size, m.cost-size)

  pub scans_short : length t ≤ i → is_done_seen s ≡ false → Says t (Err i) x.fars x.costs
  scans_short l d = let m = scans_able.room in let k = stopped_end h.reached l d in (k.0, k.1, m.far-size, m.cost-size)

  pub scans_whole : length t ≤ i → is_done_seen s ≡ true → Says t (Ok x.noted) x.fars x.costs
  scans_whole l d = let k = whole_end h.reached l d in (k, done_told x (run start t) k (rw (take_all i t l) at h.notes))
