use Rattle.std.proofs.Common.{ap, sym, ◌∙◌}
use Rattle.sa_core.specs.View.{machine}
use Rattle.sa_core_model.specs.Run.{opening}
use Rattle.sa_package_runs.specs.Runs.{FastMachine}
use Rattle.sa_package_model.specs.Step.{fast_calls}
use Rattle.sa_debug.specs.OverMachines.{session}
use Rattle.sa_cli.proofs.ScriptCommands.{over-so, partly-so}
use Rattle.sa_cli.proofs.session.do_script.Goals as goal

pub start-session-requires-clause-opening : goal.start-session-requires-clause-opening
start-session-requires-clause-opening c = λ κs.
    c.in-Ok-start.ensures.opening ∙ ap (opening fast_calls) (sym (ap (λ (m : FastMachine). m.workload) c.in-Ok-start.ensures.opening))

pub returns-in_default-do_all-clause-err : goal.returns-in_default-do_all-clause-err
returns-in_default-do_all-clause-err c =
    partly-so c.args.workload c.args.budget c.start-session.result.core.budget c.args.commands.now (machine c.in-Ok-start.core) (session c.start-session.result)
    (session c.do_all.new.debugged) c.into_trace.result.items c.sessions_are_legal.ensures.whole c.sessions_are_legal.ensures.so_far
    c.sessions_are_told.ensures.partly c.ranges-2.ensures
    c.in-Ok-start.ensures.opening c.start-session.ensures.session
    (c.start-session.ensures.budget ∙ c.in-Ok-start.ensures.budget) c.in_default-do_all.ensures.err c.into_trace.ensures

pub returns-clause-ok : goal.returns-clause-ok
returns-clause-ok c =
    over-so c.args.workload c.args.budget c.start-session.result.core.budget c.do_all.new.debugged.core.budget c.args.commands.now (machine c.in-Ok-start.core)
    (session c.start-session.result)
    (session c.do_all.new.debugged) c.in-Ok-do_all.replies.items c.into_trace-2.result.items c.unwrap_or-end.result c.end.result
    c.events-events.result c.sessions_are_legal.ensures.whole c.sessions_are_told.ensures.whole c.ranges-2.ensures c.in-Ok-start.ensures.opening
    c.start-session.ensures.session
    (c.start-session.ensures.budget ∙ c.in-Ok-start.ensures.budget) c.in-Ok-do_all.ensures.ok c.into_trace-2.ensures c.in-Ok-do_all.ensures.budget c.end.ensures
    c.unwrap_or-end.ensures c.events-events.ensures
