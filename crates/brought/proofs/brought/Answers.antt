-- `brought::brought` meets its contract: the sides that are asked form chains, and their values are those of the rows. Assumes nothing.
use Rattle.std.proofs.Common.{arith, refl, suc, ℕ, ◌+◌, ◌<◌, ◌≡◌}
use Rattle.theory.proofs.Laws.FourPoint.{well_formed_less}
use Rattle.theory.specs.Tables.{WellFormed, limit}
use Rattle.tables.specs.Entries.{costs_in}
use Rattle.tables.specs.declared.costs.Costs.{Costs}
use Rattle.brought.specs.Laws.Answers.{answered, chosen_family, chosen_few, chosen_fit, chosen_least}
use Rattle.brought.proofs.brought.Goals as goal

formed : (t : Costs) (k : ℕ) → k < t.n → WellFormed limit (costs_in t) (suc k)
formed t k h = well_formed_less _ _ _ _ h t.formed.formed

few : (t : Costs) (k : ℕ) → k < t.n → k < 64
few t k h = omega (arith, t.formed.few)

pub choose_out-low-requires : goal.choose_out-low-requires
choose_out-low-requires c =
    let p = c.requires in
    (omega (arith, c.closest-b.ensures.below, c.args.t.now.formed.few), p.2.rising, record { sides = p.5; places = p.3; values = p.7 })

pub choose_in-m-requires : goal.choose_in-m-requires
choose_in-m-requires c =
    let p = c.requires in
    let t = c.args.t.now in
    let m = c.choose_out-low.ensures.room in
    let fit = chosen_fit _ _ _ (formed t _ p.1) p.0 (few t _ p.1) _ _ c.closest-b.ensures c.near_images-near.ensures _ _ p.2 _ _ _ _ c.choose_out-low.ensures in
    (p.0, few t _ p.1, p.2, omega (arith, fit, p.2.rising.few), record { sides = m.sides; places = p.4; values = m.values })

pub put_whole-all-requires : goal.put_whole-all-requires
put_whole-all-requires c =
    let p = c.requires in
    let t = c.args.t.now in
    let room = c.choose_in-m.ensures.room in (
      few t _ p.1,
      chosen_few _ _ _ (formed t _ p.1) p.0 (few t _ p.1) _ _ c.closest-b.ensures c.near_images-near.ensures _ _ p.2 _ _ _ _ c.choose_out-low.ensures _ _ _ _
          c.choose_in-m.ensures,
      room.sides,
      room.values,
    )

pub images-requires : goal.images-requires
images-requires c =
    let p = c.requires in
    let t = c.args.t.now in
    let w = c.put_whole-all.ensures in (
      p.1,
      rw w.0 (chosen_family _ _ _ (formed t _ p.1) p.0 (few t _ p.1) _ _ c.closest-b.ensures c.near_images-near.ensures _ _ p.2 _ _ _ _
          c.choose_out-low.ensures _ _ _ _ c.choose_in-m.ensures _ _ _ refl w.2 w.3),
      p.6,
      rw w.0 (chosen_least _ _ _ (formed t _ p.1) p.0 (few t _ p.1) _ _ c.closest-b.ensures c.near_images-near.ensures _ _ p.2 _ _ _ _
          c.choose_out-low.ensures _ _ _ _ c.choose_in-m.ensures _ _ _ refl w.2 w.3),
    )

pub returns : goal.returns
returns c =
    let p = c.requires in
    let t = c.args.t.now in
    let w = c.put_whole-all.ensures in
    let place : 63 + c.put_whole-all.result ≡ 64 + c.choose_in-m.result = omega (arith, w.0) in
    rw place (answered _ _ _ (formed t _ p.1) p.0 (few t _ p.1) _ _ c.closest-b.ensures c.near_images-near.ensures _ _ p.2 _ _ _ _
    c.choose_out-low.ensures _ _ _ _ c.choose_in-m.ensures _ _ _ refl w.2 w.3 _ (rw w.0 at c.images.ensures))
