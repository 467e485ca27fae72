use Rattle.std.proofs.Common.{◌∙◌, get_or, refl, sym, subst}
use Rattle.sa_spaces.specs.Workload.{WorkloadView}
use Rattle.sa_lemmas.proofs.Results.{on_err}
use Rattle.sa_debug.specs.declared.script.command.DebugCommand.{DebugCommand}
use Rattle.sa_debug.specs.declared.script.command.DebugCommand.TheVariants.{Break}
use Rattle.sa_debug.specs.script.Text.{FitsCommand}
use Rattle.sa_debug.specs.OverMachines.{session}
use Rattle.sa_cli.proofs.ScriptCommands.{done-more, came-at, came-behind}
use Rattle.sa_cli.proofs.replies.do_all.Goals as goal

pub command-requires-after_bounds : goal.command-requires-after_bounds
command-requires-after_bounds c = λ κs.
    let d : DebugCommand = Break (record { space = record { 0 = 0 }; thread = record { 0 = 0 }; place = 0 }) in
    subst (λ (w : WorkloadView). FitsCommand w (get_or c.args.commands.now c.loop-command.command-index d)) (sym c.loop-command.invariant.workload)
    (c.requires c.loop-command.command-index d c.loop-command-test.true)

pub loop-command-preserved : goal.loop-command-preserved
loop-command-preserved c = record {
  budget = c.command.ensures.budget ∙ c.loop-command.invariant.budget;
  workload = c.command.ensures.workload ∙ c.loop-command.invariant.workload;
  done = done-more c.args.debugged.now.core.budget c.loop-command.debugged.core.budget c.args.commands.now c.loop-command.command-index _
      (session c.args.debugged.now) (session c.loop-command.debugged)
      (session c.command.new.self) c.loop-command.text.items c.print_reply.new.out.items c.in_ok-reply.reply
      c.loop-command.invariant.budget c.loop-command-test.true c.loop-command.invariant.done c.in_ok-reply.ensures.ok c.in_ok-print_reply.ensures.ok;
}

pub returns-in_err-reply-clause-err : goal.returns-in_err-reply-clause-err
returns-in_err-reply-clause-err c =
    on_err c.from_residual.result
    (came-at c.args.debugged.now.core.budget c.loop-command.debugged.core.budget c.args.commands.now c.loop-command.command-index _
    (session c.args.debugged.now) (session c.loop-command.debugged) (session c.command.new.self) c.loop-command.text.items
    c.loop-command.invariant.budget c.loop-command-test.true c.loop-command.invariant.done c.in_err-reply.ensures.err)

pub returns-in_err-print_reply-clause-err : goal.returns-in_err-print_reply-clause-err
returns-in_err-print_reply-clause-err c =
    on_err c.from_residual-in_err-print_reply.result
    (came-behind c.args.debugged.now.core.budget c.args.commands.now _ (session c.args.debugged.now) (session c.command.new.self) _
    (done-more c.args.debugged.now.core.budget c.loop-command.debugged.core.budget c.args.commands.now c.loop-command.command-index _
    (session c.args.debugged.now) (session c.loop-command.debugged) (session c.command.new.self) c.loop-command.text.items _ c.in_ok-reply.reply
    c.loop-command.invariant.budget c.loop-command-test.true c.loop-command.invariant.done c.in_ok-reply.ensures.ok refl))
