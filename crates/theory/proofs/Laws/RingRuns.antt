-- On the ring of the order every far side of an accepted table's tree is one run of neighbours (T-12).
-- Assumes nothing.
use Rattle.std.specs.Prelude.{false, true, refl, ◌≡◌, ℕ, ◌*◌, ◌<◌, eqb, ltb}
use mathlib.Core.List.Memᴰ
use mathlib.Core.List.{List, Memᴰ, [], append-nil, ◌++◌, ◌∷◌}
use Rattle.std.proofs.Common.{ap, ap₂, subst, sym, ◌∙◌, arith, eq-eqb, ltb-false, ltb-true, ne_eqb}
use borrow.Table.Steps.{cases}
use Rattle.ground.specs.Bits.{bit}
use Rattle.ground.specs.Counts.{one_if}
use Rattle.ground.specs.Filters.{Each}
use Rattle.ground.specs.Laws.Filters.{each_cons, each_nil}
use Rattle.ground.specs.Laws.Members.{mem-occurs, mem_split, occurs-mem}
use Rattle.ground.specs.Laws.Sums.{sum-append}
use Rattle.ground.specs.Members.{occurs}
use Rattle.ground.specs.Tests.{one_of}
use Rattle.theory.specs.FarSides.{FarSide, inner, own}
use Rattle.theory.specs.Index.{AtLeast}
use Rattle.theory.proofs.Laws.OwnLinks.{not_inner_own}
use Rattle.theory.specs.Laws.OwnParts.{own_parts}
use Rattle.theory.proofs.Laws.Paths.{row-far}
use Rattle.theory.proofs.Laws.Ring.{away_self, one-run}
use Rattle.theory.proofs.Laws.RowsFound.{row_low}
use Rattle.theory.proofs.Laws.Runs.{one_run_list}
use Rattle.theory.specs.Laws.Walk.{order-all}
use Rattle.theory.specs.LinkTables.{Row, apart}
use Rattle.theory.specs.Order.{AnOrder, order}
use Rattle.theory.specs.OrderRules.{OneRun}
use Rattle.theory.specs.Readings.{Exact, Near}
use Rattle.theory.specs.Tables.{WellFormed}

-- ## One image alone is a run

none_there : (i : ℕ) (l : List ℕ) → occurs i l ≡ 0 → Each l (λ u. eqb i u ≡ false)
none_there i l e u m = ne_eqb i u (λ t. absurd (omega (arith, mem-occurs u l m, ap (λ (k : ℕ). occurs k l) t)))

-- an own link is one run on every ring: its image, or, where that is in front, all others
pub own-run : (n i f : ℕ) (l : List ℕ) → i < n → AnOrder n (f ∷ l) → OneRun (own n i) f (f ∷ l)
own-run n i f l h a =
    cases (eqb i f) in_front (λ e. behind e (mem_split i (f ∷ l) (occurs-mem i (f ∷ l) (omega (arith, a.once i h)))))
  where
    S : ℕ
    S = own n i

    -- what it parts from f
    side : (u : ℕ) → Memᴰ u (f ∷ l) → apart S f u ≡ one_of (eqb i f) (eqb i u)
    side u m = own_parts n i f u (a.range f (Memᴰ.head refl)) (a.range u m)

    in_front : eqb i f ≡ true → OneRun S f (f ∷ l)
    in_front e =
        let z : occurs i l ≡ 0 = (let o = rw e at (a.once i h) in omega (arith, o)) in
        record {
          before = f ∷ [];
          run = l;
          after = [];
          is = ap (λ z. f ∷ z) (sym (append-nil l));
          all_before = each_cons _ f [] (away_self S f) (each_nil _);
          all-run = λ u m. side u (Memᴰ.tail m) ∙ ap₂ one_of e (none_there i l z u m);
          all_after = each_nil _;
        }

    behind : eqb i f ≡ false → (p : List ℕ) × (q : List ℕ) × (f ∷ l ≡ p ++ (i ∷ q)) → OneRun S f (f ∷ l)
    behind e r =
        let o = a.once i h in
        let c = ap (occurs i) r.2 ∙ sum-append (λ y. one_if (eqb i y)) r.0 (i ∷ r.1) in
        let here : one_if (eqb i i) ≡ 1 = ap one_if (eq-eqb i i refl) in
        let there : (u : ℕ) → Memᴰ u (r.0 ++ (i ∷ r.1)) → Memᴰ u (f ∷ l) = λ u m. subst (Memᴰ u) (sym r.2) m in
        record {
          before = r.0;
          run = i ∷ [];
          after = r.1;
          is = r.2;
          all_before =
              λ u m. side u (there u (Memᴰ.append_left (i ∷ r.1) m)) ∙ ap₂ one_of e (none_there i r.0 (omega (arith, o, c)) u m);
          all-run = each_cons _ i [] (side i (there i (Memᴰ.append_right r.0 (Memᴰ.head refl))) ∙ ap₂ one_of e (eq-eqb i i refl)) (each_nil _);
          all_after =
              λ u m. side u (there u (Memᴰ.append_right r.0 (Memᴰ.tail m))) ∙ ap₂ one_of e (none_there i r.1 (omega (arith, o, c)) u m);
        }

-- ## The ring of the order

module _ (L : ℕ) (d : ℕ → ℕ → ℕ) (n f last : ℕ) (c : WellFormed L d n) (hf : f < n) (hl : last < n) (ne : f ≡ last → ⊥) where
  pub drawn-run : (S : ℕ) → FarSide n S → AtLeast d n (bit S) 1 → OneRun S f (order d n f last)
  drawn-run S s p = one_run_list S f _ (one-run L d n c f hf S s p last hl ne)

  -- every far side of an accepted table's tree, an own link of cost 0 as well
  pub far_runs : (T : List Row) → Exact L d n T → Each T (λ r. OneRun r.0 f (order d n f last))
  far_runs T x r m =
      let side = row-far L n T x.tree r m in
      let low = row_low L n T x.tree d x.meets r m in
      cases (ltb 0 r.1)
      (λ t. drawn-run r.0 side (record { low = λ ha ha' hb hb'. omega (arith, low.low ha ha' hb hb', ltb-true 0 r.1 t) }))
      (λ t. cases (inner n r.0) (λ i. absurd (omega (arith, x.tree.drawn r m i, ltb-false 0 r.1 t)))
      (λ i. let o = not_inner_own n r.0 side i in rw o.2 (own-run n o.0 f _ o.1 (order-all d n f hf last hl ne).all)))

-- where no entry of e differs by more than D from one of d, every far side of d's tree with a doubled cost above 4 D
pub kept_runs : (L D : ℕ) (d e : ℕ → ℕ → ℕ) (n f last : ℕ) → WellFormed L e n → Near D d e n → f < n → last < n → (f ≡ last → ⊥) → (T : List Row) → Exact L d n T
    → Each T (λ r. 4 * D < r.1 → OneRun r.0 f (order e n f last))
kept_runs L D d e n f last c p hf hl ne T x r m h =
    let low = row_low L n T x.tree d x.meets r m in
    drawn-run L e n f last c hf hl ne r.0 (row-far L n T x.tree r m)
    (record {
      low = λ ha ha' hb hb'. omega
          (arith, low.low ha ha' hb hb', p.down ha.0 ha'.0, p.down hb.0 hb'.0, p.up ha.0 hb.0, p.up ha'.0 hb'.0);
    })
