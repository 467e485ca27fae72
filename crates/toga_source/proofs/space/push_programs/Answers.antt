use Rattle.std.proofs.Common.{◌++◌, ◌∙◌, ap}
use Rattle.toga_source.specs.Show.{nth_program_text}
use Rattle.toga_source.proofs.Loops.{numbered-more, numbered-all}
use Rattle.toga_source.proofs.space.push_programs.Goals as goal

pub loop-number-preserved : goal.loop-number-preserved
loop-number-preserved c =
    numbered-more (nth_program_text c.args.names.now) c.args.programs.now c.loop-number.number c.index-programs-number.result c.args.out.now.items c.loop-number.out.items c.push_nth_program.new.out.items
    c.loop-number-test.true c.loop-number.invariant (c.in_ok-push_nth_program.ensures ∙ ap (λ x. c.loop-number.out.items ++ nth_program_text c.args.names.now c.loop-number.number x) c.index-programs-number.is)

pub returns : goal.returns
returns c =
    numbered-all (nth_program_text c.args.names.now) c.args.programs.now c.loop-number.number c.args.out.now.items c.loop-number.out.items c.loop-number-test.false c.loop-number.invariant
