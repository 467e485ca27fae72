use Rattle.std.proofs.Common.{List, ap, ◌∙◌, ◌++◌, drop, ◌+◌}
use Rattle.std.specs.List.{filter_map}
use Rattle.sa_code.specs.declared.code.Op.{Op}
use Rattle.sa_copies.specs.Copies.{copied}
use Rattle.sa_copies.proofs.Adding.{copies-some, copies-none, room-some}
use Rattle.sa_copies.proofs.copies.add_copies.Goals as goal
use Rattle.sa_copies.proofs.copies.add_copies.Goals.{in-Some, in_default}

pub push-requires : goal.push-requires
push-requires c =
    room-some c.args.ops.now c.loop-op.code c.args.code.now _ c.loop-op.op-index _ _ c.in-Some.copy c.loop-op-test.true c.in-Some.ensures
    c.loop-op.invariant c.requires

pub loop-op-preserved : goal.loop-op-preserved
loop-op-preserved c =
    let added : List Op → List Op = λ code. code ++ filter_map copied (drop (c.loop-op.op-index + 1) c.args.ops.now) in
    elim c.match-copy_of.branch [
      | in-Some w ↦ ap added (w.code-is ∙ w.push.ensures)
          ∙ copies-some c.args.ops.now c.loop-op.code _ c.loop-op.op-index _ w.in-Some.copy c.loop-op-test.true w.in-Some.ensures c.loop-op.invariant
      | in_default w ↦ ap added w.code-is
          ∙ copies-none c.args.ops.now c.loop-op.code _ c.loop-op.op-index _ c.loop-op-test.true w.in_default.ensures c.loop-op.invariant
    ]
