use Rattle.toga_say.specs.Table.{row_text}
use Rattle.toga_say.proofs.Rows.{rows-more}
use Rattle.toga_say.proofs.table.push_rows.Goals as goal

pub loop-p-preserved : goal.loop-p-preserved
loop-p-preserved c =
    rows-more (row_text c.args.turns.now c.args.processors) c.loop-p.p c.args.out.now.items c.loop-p.out.items c.push_row.new.out.items c.loop-p.invariant
    c.in_ok-push_row.ensures
