use Rattle.toga_source.specs.Show.{run_text}
use Rattle.toga_source.proofs.Loops.{numbered-more, numbered-all}
use Rattle.toga_source.proofs.turns.push_runs.Goals as goal

pub loop-number-preserved : goal.loop-number-preserved
loop-number-preserved c =
    numbered-more (run_text c.args.indent.now) c.args.runs.now c.loop-number.number _ c.args.out.now.items c.loop-number.out.items c.push_run.new.out.items
    c.loop-number-test.true c.loop-number.invariant (c.in_ok-push_run.ensures)

pub returns : goal.returns
returns c =
    numbered-all (run_text c.args.indent.now) c.args.runs.now c.loop-number.number c.args.out.now.items c.loop-number.out.items c.loop-number-test.false c.loop-number.invariant
