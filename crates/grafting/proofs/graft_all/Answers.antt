-- `grafting::graft_all` meets its contract: path and table are those of place p. Assumes nothing.
use Rattle.std.proofs.Common.{arith, refl, replicate, ℕ}
use native.Mathlib.Numerals.{add-one}
use Rattle.tables.specs.Entries.{costs_in}
use Rattle.grafting.specs.Laws.Growing.{close-room, path-start, table-closed, table-grafted, table-start}
use Rattle.grafting.proofs.graft_all.Goals as goal

pub loop-p-init : goal.loop-p-init
loop-p-init c =
    let table : ℕ → ℕ → ℕ = costs_in c.args.t.now in
    let o = c.own_rows.ensures in (
      path-start table c.args.o.now (replicate 64 0) (replicate 64 0) refl refl,
      table-start table c.args.o.now c.args.t.now.n _ _ _ _ c.requires.1 c.requires.2 o,
    )

pub close_rows-count-requires : goal.close_rows-count-requires
close_rows-count-requires c =
    let table : ℕ → ℕ → ℕ = costs_in c.args.t.now in
    let i = c.loop-p.invariant in
    close-room table c.args.o.now _ _ _ _ i.0 c.args.t.now.n c.args.t.now.formed.few c.requires.0.places c.args.t.now.formed.formed _ _ _ i.1 (omega arith)

pub loop-p-preserved : goal.loop-p-preserved
loop-p-preserved c =
    let table : ℕ → ℕ → ℕ = costs_in c.args.t.now in
    let i = c.loop-p.invariant in
    let q = add-one c.loop-p.p in (
      rw q c.extend_path-m.ensures,
      rw q (table-closed table c.args.o.now _ _ _ _ i.0 c.args.t.now.n _ _ _ i.1 _ _ _ _ c.height_at.ensures c.close_rows-count.ensures),
    )

pub close_rows-requires : goal.close_rows-requires
close_rows-requires c =
    let table : ℕ → ℕ → ℕ = costs_in c.args.t.now in
    let i = c.loop-p.invariant in
    close-room table c.args.o.now _ _ _ _ i.0 c.args.t.now.n c.args.t.now.formed.few c.requires.0.places c.args.t.now.formed.formed _ _ _ i.1
    (omega (arith, c.args.t.now.formed.some))

pub returns : goal.returns
returns c =
    let table : ℕ → ℕ → ℕ = costs_in c.args.t.now in
    let i = c.loop-p.invariant in
    table-grafted table c.args.o.now _ _ _ _ i.0 c.args.t.now.n _ _ _ i.1 _ _ _ (omega (arith, c.args.t.now.formed.some))
    c.close_rows.ensures
