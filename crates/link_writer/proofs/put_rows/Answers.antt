-- `link_writer::put_rows` meets its contract: each row is put behind the one before. Assumes nothing.
use Rattle.std.proofs.Common.{arith, get_or, length, refl, ◌∙◌}
use Rattle.bits.specs.Laws.OneWidth.{field_end}
use Rattle.packer.specs.Laws.Putting.{room_then}
use Rattle.link_forms.specs.Form.{row_width}
use Rattle.link_forms.specs.Laws.Rows.{length-rows}
use Rattle.link_writer.specs.Laws.Putting.{rows_put_more, rows_put_none}
use Rattle.link_writer.proofs.put_rows.Goals as goal

pub loop-k-init : goal.loop-k-init
loop-k-init c = (refl, rows_put_none c.args.w c.args.n _ _ c.args.out.now c.args.g c.requires.3.part)

pub put_row-gathered-requires : goal.put_row-gathered-requires
put_row-gathered-requires c =
    let l = c.loop-k in
    let a = c.args in
    let m = row_width a.w a.n in (
      c.requires.0,
      c.requires.1,
      c.requires.2,
      rw l.invariant.0
          (room_then m c.requires.3 l.invariant.1
          (omega (
            arith,
            length-rows a.w a.n (λ j. get_or a.fars.now j 0) (λ j. get_or a.costs.now j 0) l.k,
            field_end 0 m (length a.fars.now) l.k c.loop-k-test.true,
          ))),
    )

pub loop-k-preserved : goal.loop-k-preserved
loop-k-preserved c =
    let l = c.loop-k in
    let a = c.args in (
      c.put_row-gathered.auto.out ∙ l.invariant.0,
      rows_put_more a.w a.n (λ j. get_or a.fars.now j 0) (λ j. get_or a.costs.now j 0) l.k l.invariant.1 c.put_row-gathered.ensures,
    )
