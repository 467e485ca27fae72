use Rattle.std.proofs.Common.{◌∙◌, ap}
use Rattle.toga_read.specs.Names.{program_names}
use Rattle.toga_read.proofs.Loops.{mapped-more, mapped-all}
use Rattle.toga_read.proofs.names.programs_names.Goals as goal

pub loop-program-preserved : goal.loop-program-preserved
loop-program-preserved c =
    mapped-more program_names c.args.programs.now c.loop-program.program-index c.program-item.result c.loop-program.names.items c.push.new.self.items c.in_ok-program_names.field-0
    c.loop-program-test.true c.loop-program.invariant (c.in_ok-program_names.ensures ∙ ap program_names c.program-item.is) c.in_ok-push.ensures.items

pub returns : goal.returns
returns c = mapped-all program_names c.args.programs.now c.loop-program.program-index c.loop-program.names.items c.loop-program-test.false c.loop-program.invariant
