use Rattle.std.proofs.Common.{sym, ◌∙◌}
use Rattle.sa_shapes.proofs.Walks.{drop-next, marks-marked, marks-unmarked}
use Rattle.sa_shapes.proofs.marks.push_marks.Goals as goal
use Rattle.sa_shapes.proofs.marks.push_marks.Goals.{then-is_marked+in_ok-push_mark, else-is_marked}

pub loop-item-preserved : goal.loop-item-preserved
loop-item-preserved c =
    let split = drop-next c.args.items.now c.loop-item.item-index _ c.loop-item-test.true in
    elim c.if-is_marked.branch [
      | then-is_marked+in_ok-push_mark w ↦
          rw (w.out-is, w.stack-is)
          (marks-marked c.args.window c.args.lane c.loop-item.stack _ _ _ _ _ _ _ _ split (sym c.is_marked.ensures ∙ w.if-is_marked.true)
          w.row_at-row.ensures w.height_over.ensures w.in_ok-push_mark.ensures c.loop-item.invariant)
      | else-is_marked w ↦
          rw (w.out-is, w.stack-is)
          (marks-unmarked c.args.window c.args.lane c.loop-item.stack _ _ _ _ _ split (sym c.is_marked.ensures ∙ w.if-is_marked.false) c.loop-item.invariant)
    ]
