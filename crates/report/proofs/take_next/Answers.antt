-- `report::take_next` meets its contract: the reader's refusal, or the table that it read is taken. Assumes nothing.
use Rattle.std.proofs.Common.{arith}
use Rattle.std.proofs.lemmas.Result.{err_from_is_err_and}
use Rattle.report.specs.Laws.Next.{moved_read, moved_unread, table_ready}
use Rattle.report.specs.Laws.Read.{read_at, unread_at}
use Rattle.report.proofs.take_next.Goals as goal

pub returns-in_err-read : goal.returns-in_err-read
returns-in_err-read c =
    let p = err_from_is_err_and c.from_residual.result c.from_residual.ensures.1 in
    let e = unread_at c.args.bytes.now c.args.here.now.figures.used c.args.t.now _ _ c.requires.0 c.read_costs.ensures _ c.in_err-read.was in
    rw (p.1, p.2) (record { turned = λ ts y. moved_unread ts _ _ _ _ _ _ y.stands y.holds e })

pub take_read-requires : goal.take_read-requires
take_read-requires c =
    let q = read_at c.args.bytes.now c.args.here.now.figures.used c.args.t.now _ _ c.requires.0 c.read_costs.ensures _ _ c.in_ok-read.was in
    record { ts = c.requires.1.ts; ready = table_ready _ _ _ _ _ _ c.requires.1.paused (omega arith) _ _ _ q }

pub returns : goal.returns
returns c =
    let q = read_at c.args.bytes.now c.args.here.now.figures.used c.args.t.now _ _ c.requires.0 c.read_costs.ensures _ _ c.in_ok-read.was in
    record { turned = λ ts y. moved_read ts _ _ _ _ _ _ _ _ _ q.passed q.is (c.take_read.ensures.taken ts (table_ready _ _ _ _ _ _ y (omega arith) _ _ _ q)) }
