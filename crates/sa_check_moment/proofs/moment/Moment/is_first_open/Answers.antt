use Rattle.std.proofs.Common.{◌≡◌, refl, true, false, ◌<◌, ◌∙◌, sym, subst, ap, below_more, arith}
use Rattle.sa_base.specs.declared.number.ProcNo.{ProcNo}
use Rattle.sa_spaces.specs.Workload.{WorkloadView}
use Rattle.sa_laws.specs.Readings.{IsOpen}
use Rattle.sa_laws.specs.Locks.{list_round}
use Rattle.sa_check_moment.specs.Seen.{seen}
use Rattle.sa_check_moment.proofs.OpenLemmas.{first-iff, same-iff}
use Rattle.sa_check_moment.proofs.moment.Moment.is_first_open.Goals as goal

pub loop-k-preserved : goal.loop-k-preserved
loop-k-preserved c =
    let m = seen c.args.self.now in
    let processors : m.workload.processors ≡ c.processors-processors.result =
    ap (λ (w : WorkloadView). w.processors) (sym c.workload.ensures) ∙ sym c.processors-processors.ensures.value in
    let list : c.list_round-list.result ≡ list_round m.workload c.args.p c.loop-k.k = c.list_round-list.ensures m.workload processors in
    below_more _ _ c.loop-k.invariant (λ opens. let bad : false ≡ true = c.if-is_open.ensures.1
    (subst (λ (l : ProcNo). IsOpen m.readings c.args.s l) (sym list) opens) in cc)

pub returns-then-is_open : goal.returns-then-is_open
returns-then-is_open c =
    let m = seen c.args.self.now in
    let processors : m.workload.processors ≡ c.processors-processors.result =
    ap (λ (w : WorkloadView). w.processors) (sym c.workload.ensures) ∙ sym c.processors-processors.ensures.value in
    let list : c.list_round-list.result ≡ list_round m.workload c.args.p c.loop-k.k = c.list_round-list.ensures m.workload processors in
    let within : c.loop-k.k < m.workload.processors = omega (arith, processors, c.loop-k-test.true) in
    let opens : IsOpen m.readings c.args.s (list_round m.workload c.args.p c.loop-k.k) =
    subst (λ (l : ProcNo). IsOpen m.readings c.args.s l) list (c.if-is_open.ensures.0 refl) in
    let first = first-iff m.workload m.readings c.args.s c.args.p c.args.l c.loop-k.k within opens c.loop-k.invariant in
    let same = same-iff c.eq.result c.list_round-list.result c.args.l c.eq.ensures in
    (λ h. first.0 (sym list ∙ same.0 h), λ h. same.1 (list ∙ first.1 h))
