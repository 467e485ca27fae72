use Rattle.std.proofs.Common.{ap, sym, ◌∙◌}
use Rattle.std.specs.Option.{option_map}
use Rattle.sa_sync.proofs.Steps.{joiner_first, joiner_taken}
use Rattle.sa_sync.proofs.state.SyncState.next_joiner.Goals as goal

pub returns-in_err-first-clause-first : goal.returns-in_err-first-clause-first
returns-in_err-first-clause-first c =
    ap (option_map (λ u. u.0)) c.from_residual.ensures
    ∙ joiner_first c.self.inside c.args.self.now c.self.view_is c.self.invariant c.args.t.0 _ c.requires (sym c.in_err-first.was ∙ c.pop_front.ensures.first)

pub returns-in_err-first-clause-state : goal.returns-in_err-first-clause-state
returns-in_err-first-clause-state c =
    joiner_taken c.self.inside c.args.self.now c.self.view_is c.self.invariant c.args.t.0 _ c.requires c.pop_front.ensures.lists

pub returns-clause-first : goal.returns-clause-first
returns-clause-first c =
    joiner_first c.self.inside c.args.self.now c.self.view_is c.self.invariant c.args.t.0 _ c.requires (sym c.in_ok-first.was ∙ c.pop_front.ensures.first)

pub returns-clause-state : goal.returns-clause-state
returns-clause-state c =
    joiner_taken c.self.inside c.args.self.now c.self.view_is c.self.invariant c.args.t.0 _ c.requires c.pop_front.ensures.lists
