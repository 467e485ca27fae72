use Rattle.std.proofs.Common.{◌≡◌, true, sym, subst, ◌∙◌}
use Rattle.sa_laws.specs.State.{SpaceState, thread_in}
use Rattle.sa_replay.specs.Running.{instr_in, CanRun}
use Rattle.sa_replay.specs.Space.{space}
use Rattle.sa_replay.specs.Local.{is_local, HasRunLocal}
use Rattle.sa_replay.proofs.LocalLemmas.{has_run_local}
use Rattle.sa_replay.proofs.space.SpaceThreads.run_local.Goals as goal

pub returns-clause-ran : goal.returns-clause-ran
returns-clause-ran c = λ went.
    let x = space c.self.inside.threads c.self.inside.sync in
    let can : CanRun c.args.def.now x c.args.t = subst (λ (y : SpaceState). CanRun c.args.def.now y c.args.t) (sym c.self.view_is) c.requires in
    let local : is_local (instr_in c.args.def.now (thread_in x c.args.t)) ≡ true = sym c.run_local.ensures.local ∙ went in
    subst (λ (y : SpaceState). HasRunLocal c.args.def.now y c.args.t (space c.run_local.new.self c.self.inside.sync)) c.self.view_is
    (has_run_local c.args.def.now x c.args.t c.run_local.new.self can local c.run_local.ensures.threads)
