use Rattle.std.proofs.Common.{◌≡◌, List, take, sym, ap, ◌∙◌, subst}
use Rattle.sa_base.specs.declared.number.ProcNo.{ProcNo}
use Rattle.sa_spaces.specs.Workload.{WorkloadView}
use Rattle.sa_core.specs.View.{machine}
use Rattle.sa_explore_runs.specs.Runs.{IsBegun, LeadTo}
use Rattle.sa_explore.proofs.orders.start_at.Goals as goal

pub start-requires-clause-leads : goal.start-requires-clause-leads
start-requires-clause-leads g c = λ lt lives.
    let f = g.U.UserLevel.calls in
    let m = machine c.args.first.now.core in
    let turns : c.in_ok-from_slice.field-0.items ≡ take c.args.first.now.turns c.args.workload.now.turns =
    c.in_ok-from_slice.ensures.items ∙ ap (λ (ps : List ProcNo). take c.args.first.now.turns ps) c.turns.ensures.value in
    subst (λ (w : WorkloadView). LeadTo f w c.in_ok-from_slice.field-0.items m) (sym c.in_ok-copy.ensures)
    (subst (λ (ps : List ProcNo). LeadTo f c.args.workload.now ps m) (sym turns) c.requires.leads)

pub returns-clause-begins : goal.returns-clause-begins
returns-clause-begins g c =
    let turns : c.in_ok-from_slice.field-0.items ≡ take c.args.first.now.turns c.args.workload.now.turns =
    c.in_ok-from_slice.ensures.items ∙ ap (λ (ps : List ProcNo). take c.args.first.now.turns ps) c.turns.ensures.value in
    subst (λ (ps : List ProcNo). IsBegun g.U.UserLevel.calls c.args.workload.now ps) (sym turns) c.requires.begins
