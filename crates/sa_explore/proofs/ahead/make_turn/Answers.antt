use Rattle.std.proofs.Common.{ℕ, Option, ap, ◌∙◌}
use Rattle.sa_base.specs.declared.number.ProcNo.{ProcNo}
use Rattle.sa_base.specs.declared.record.End.{End}
use Rattle.sa_base.specs.declared.limits.TheConstants.{MAX_EVENTS}
use Rattle.sa_core_model.specs.End.{end_of}
use Rattle.sa_core.specs.View.{machine}
use Rattle.sa_explore_model.specs.declared.answer.State.{State}
use Rattle.sa_explore_runs.proofs.Ends.{not-ended}
use Rattle.sa_explore.proofs.ahead.make_turn.Goals as goal

pub turn-requires-clause-not_ended : goal.turn-requires-clause-not_ended
turn-requires-clause-not_ended g c =
    λ lt lives. ap (λ (n : ℕ). end_of g.U.UserLevel.calls n (machine c.args.core.now)) c.requires.budget
    ∙ not-ended g.U.UserLevel.calls MAX_EVENTS (machine c.args.core.now) c.requires.goes c.requires.can.event

pub returns-clause-made : goal.returns-clause-made
returns-clause-made g c =
    let of : ℕ → ProcNo → Option End → State = λ at p o. record { before = at; proc = p; end = o } in
    record {
      turn = record { goes = c.requires.goes; can = c.requires.can; is = c.in_ok-turn.ensures.ok };
      key_is = c.in_ok-key.ensures;
      state_is = ap (λ (o : Option End). of c.args.at c.args.p o) c.end_at.ensures;
    }
