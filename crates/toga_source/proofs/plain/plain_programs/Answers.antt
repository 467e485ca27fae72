use Rattle.std.proofs.Common.{◌∙◌, ap}
use Rattle.toga_source.specs.Plain.{plain_program}
use Rattle.toga_source.proofs.Loops.{made-more, made-all}
use Rattle.toga_source.proofs.plain.plain_programs.Goals as goal

pub loop-number-preserved : goal.loop-number-preserved
loop-number-preserved c =
    made-more plain_program c.args.programs.now c.loop-number.number c.index-programs-number.result c.loop-number.names.items c.push.new.self.items c.in_ok-plain_program.field-0
    c.loop-number-test.true c.loop-number.invariant
    (c.in_ok-plain_program.ensures ∙ ap (plain_program c.loop-number.number) c.index-programs-number.is) c.in_ok-push.ensures.items

pub returns : goal.returns
returns c = made-all plain_program c.args.programs.now c.loop-number.number c.loop-number.names.items c.loop-number-test.false c.loop-number.invariant
