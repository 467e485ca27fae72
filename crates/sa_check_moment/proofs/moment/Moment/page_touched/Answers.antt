use Rattle.std.proofs.Common.{◌≡◌, ◌∙◌, ap, subst, arith, Some}
use Rattle.sa_spaces.specs.Workload.{WorkloadView, IsWorkload}
use Rattle.sa_laws.specs.State.{next_instr}
use Rattle.sa_laws.specs.Record.{page_in, page_touched}
use Rattle.sa_check_moment.specs.declared.moment.Parts.{Parts}
use Rattle.sa_check_moment.specs.Seen.{Kept, seen}
use Rattle.sa_check_moment.proofs.PageLemmas.{touches_few}
use Rattle.sa_check_moment.proofs.moment.Moment.page_touched.Goals as goal

pub returns-in-Some-clause-few : goal.returns-in-Some-clause-few
unfolding seen
returns-in-Some-clause-few c =
    let m = c.args.self.now in
    let is : IsWorkload m.workload = subst (λ (w : WorkloadView). IsWorkload w) c.workload.ensures c.ranges-2.ensures in
    let page : c.page_in.result ≡ page_touched m.workload (seen m).readings c.args.s (Some c.in-Some.t) =
    c.page_in.ensures ∙ ap page_in (c.next_instr.ensures ∙ ap (λ (k : Parts). next_instr k.replay.workload k.replay.state c.args.s c.in-Some.t) c.deref.ensures
    ∙ ap (λ (k : Kept). next_instr k.workload k.state c.args.s c.in-Some.t) c.self.view_is) in
    omega (arith, page, touches_few m.workload (seen m).readings c.args.s (Some c.in-Some.t) is)
