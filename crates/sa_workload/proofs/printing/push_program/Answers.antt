use Rattle.std.proofs.Common.{◌<◌, ◌≤◌, ◌∙◌, subst, ◌++◌, ap}
use Rattle.sa_lemmas.proofs.Appends.{list-more}
use Rattle.sa_workload.specs.Text.{line_text, instr_line}
use Rattle.sa_workload.proofs.calls.PrintedText.{pushed_program}
use Rattle.sa_workload.proofs.printing.push_program.Goals as goal

pub loop-pc-preserved : goal.loop-pc-preserved
loop-pc-preserved c =
    list-more (λ i. line_text (instr_line i)) c.args.program.now c.loop-pc.pc _ _ _ _
    (subst (λ len. c.loop-pc.pc < len) c.len-len.ensures.len c.loop-pc-test.true) c.loop-pc.invariant
    (c.in_ok-push_instr.ensures ∙ ap (λ i. c.loop-pc.out.items ++ line_text (instr_line i)) c.at.ensures.instr)

pub returns : goal.returns
returns c =
    pushed_program c.args.program.now c.args.out.now.items c.push_line.new.out.items c.loop-pc.out.items c.from.result c.loop-pc.pc
    (c.from.ensures ∙ c.len-len.ensures.len) c.in_ok-push_line.ensures c.loop-pc.invariant
    (subst (λ len. len ≤ c.loop-pc.pc) c.len-len.ensures.len c.loop-pc-test.false)
