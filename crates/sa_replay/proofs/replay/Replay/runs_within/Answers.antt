use Rattle.std.proofs.Common.{◌≤◌, ◌∙◌, sym, ap, subst, length, None, arith}
use Rattle.std.proofs.lemmas.List.{get_or_past}
use Rattle.sa_laws.specs.State.{runner_on}
use Rattle.sa_replay.specs.Replayed.{Replayed}
use Rattle.sa_replay.proofs.IndexLemmas.{index-finds}
use Rattle.sa_replay.proofs.replay.Replay.runs_within.Goals as goal

pub returns : goal.returns
returns c p past =
    let i = c.self.inside in
    let is = c.self.invariant.0 in
    let owners : length i.owners.items ≤ p.0 = subst (λ (x : Replayed). length x.state.owners ≤ p.0) (sym c.self.view_is) past in
    let none = get_or_past i.runners.items p.0 None (omega (arith, is.processors, owners)) in
    sym (ap (λ (x : Replayed). runner_on x.state p) c.self.view_is) ∙ sym (index-finds p i.spaces i.runners.items is.index) ∙ none
