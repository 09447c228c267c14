-- What was read keeps the numbers small enough for the next byte. Assumes nothing.
use Rattle.std.specs.Prelude.{Bool, false, true, List, refl, ◌≡◌, ℕ, ◌-◌, ◌≤◌, eqb, get_or, length}
use Rattle.std.proofs.Common.{ap, ◌∙◌, arith, length-set}
use borrow.Table.Steps.{cases}
use Rattle.newick_text.specs.Trees as trees
use Rattle.newick_text.specs.States.{Open, State, blank, costing, dead, depth, done, ended, head, outermost, start, value, vertex, within}
use Rattle.newick_text.proofs.Laws.Fine.{Fine}
use Rattle.newick_text.proofs.Laws.Live.{Live, dead_not}
use Rattle.newick_bytes.specs.Kept.{narrow}
use Rattle.newick_bytes.specs.Laws.Small.{fine_bounded}
use Rattle.newick_bytes.specs.declared.Seen.{Seen}
use Rattle.newick_bytes.specs.declared.Seen.TheVariants.{Blank, Closed, Cost, Dead, Done, Ended, Image, Start, Vertex}
use Rattle.newick_notes.specs.Stacks.{Sized, pushed}
use Rattle.newick_scan.specs.Noting.{EndsBy, Kept, Noting}
use Rattle.newick_notes.specs.Able.{Room}
use Rattle.newick_scan.specs.Able.{AbleIn}
use Rattle.newick_scan.specs.Notes.{marked_open}
use Rattle.newick_scan.specs.Reading.{Held, Notes}
use Rattle.newick_scan.specs.Laws.Adding.{headed-most, marked-most}
use Rattle.newick_scan.specs.Laws.Opening.{held_top}
use Rattle.newick_scan.specs.Laws.Telling.{told_room}

-- what was named before a bracket is named behind it
mask_most : (a : List ℕ) (o : Open) → Held marked_open a o → 2 ≤ depth o → get_or a (depth o - 2) 0 ≤ marked_open o
mask_most a (outermost g) h l = absurd (omega arith)
mask_most a (within g o) h l = rw (held_top marked_open a g o h) (marked-most (marked_open o) g)

module _ (x : Kept) where
  pub notes_room : (s : State) → Live s → Notes s x → Room x.noted.rows x.fars x.costs
  notes_room start l h = told_room _ _ _ _ x.noted x.fars x.costs h.0
  notes_room (vertex o) l h = told_room _ _ _ _ x.noted x.fars x.costs h.0
  notes_room (head o u) l h = told_room _ _ _ _ x.noted x.fars x.costs h.0
  notes_room (costing o u d) l h = told_room _ _ _ _ x.noted x.fars x.costs h.0
  notes_room (ended g) l h = told_room _ _ _ _ x.noted x.fars x.costs h
  notes_room (done g) l h = told_room _ _ _ _ x.noted x.fars x.costs h
  notes_room dead l h = dead_not l

  pub notes_able : (s : State) → Sized x.stacks → Fine s → Notes s x → AbleIn (narrow s) x.noted x.stacks
  notes_able start z k h = tt
  notes_able (vertex o) z k h = fine_bounded (vertex o) k
  notes_able (head o (trees.named i)) z k h = k.formed.0
  notes_able (head o (trees.closed g)) z k h = tt
  notes_able (costing o u blank) z k h = tt
  notes_able (costing o u (value c)) z k h =
      let m = fine_bounded (costing o u (value c)) k in (
        m.0,
        record {
          most = m.2;
          sized = z;
          less = λ l. rw h.0.marked (omega (arith, mask_most x.stacks.masks o h.1.masks l, headed-most (marked_open o) u));
        },
      )
  notes_able (ended g) z k h = tt
  notes_able (done g) z k h = tt
  notes_able dead z k h = tt

-- ## From byte to byte

pushed-length : (b d i : ℕ) (a e : List ℕ) → e ≡ pushed b d i a → length e ≡ length a
pushed-length b d i a e q = ap length q ∙ cases (eqb b 40) (λ t. rw t (length-set a (d - 1) i)) (λ t. rw t refl)

module _ (b p : ℕ) (x y : Kept) (z : Sized x.stacks) where
  sized_same : y ≡ x → Sized y.stacks
  sized_same e = rw e z

  sized_ends : (t u : Bool) (c d : ℕ) → EndsBy t u c d x y → Sized y.stacks
  sized_ends true u c d n = rw n.stacks z
  sized_ends false true c d n = rw n.stacks z
  sized_ends false false c d n = sized_same n

  pub sized_byte : (s : Seen) → Noting s b p x y → Sized y.stacks
  sized_byte Start n = sized_same n
  sized_byte (Vertex d k) n = record {
    masks = pushed-length b d x.noted.marked x.stacks.masks y.stacks.masks n.0.masks ∙ z.masks;
    lasts = pushed-length b d x.noted.last x.stacks.lasts y.stacks.lasts n.0.lasts ∙ z.lasts;
    places = pushed-length b d p x.stacks.places y.stacks.places n.0.places ∙ z.places;
  }
  sized_byte (Image i d k) n = rw n z
  sized_byte (Closed d k) n = sized_same n
  sized_byte (Blank d k) n = sized_same n
  sized_byte (Cost c d k) n = sized_ends (eqb b 44) (eqb b 41) c d n
  sized_byte Ended n = sized_same n
  sized_byte Done n = sized_same n
  sized_byte Dead n = sized_same n
