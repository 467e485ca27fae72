use Rattle.std.proofs.Common.{◌≡◌, refl, ◌∙◌, subst, false}
use Rattle.sa_laws.specs.Readings.{life_if}
use Rattle.sa_base.specs.declared.package.RulesName.{RulesName}
use Rattle.sa_check_moment.specs.Urged.{urged_by}
use Rattle.sa_check_moment.specs.Seen.{seen}
use Rattle.sa_check_moment.proofs.LevelLemmas.{urged-none, urged-some}
use Rattle.sa_check_moment.proofs.moment.Moment.is_urged.Goals as goal

pub returns-in-FastThreads : goal.returns-in-FastThreads
returns-in-FastThreads c =
    let m = seen c.args.self.now in
    subst (λ (k : RulesName). false ≡ urged_by k m.workload m.readings (life_if m.readings c.args.a)) c.in-FastThreads.ensures refl

pub returns-in-Any : goal.returns-in-Any
returns-in-Any c =
    let m = seen c.args.self.now in
    subst (λ (k : RulesName). false ≡ urged_by k m.workload m.readings (life_if m.readings c.args.a)) c.in-Any.ensures refl

pub returns-in-None : goal.returns-in-None
returns-in-None c =
    let m = seen c.args.self.now in
    subst (λ (k : RulesName). false ≡ urged_by k m.workload m.readings (life_if m.readings c.args.a)) c.in-Priorities.ensures
    (urged-none m.workload m.readings (life_if m.readings c.args.a) c.in-None.ensures)

pub returns-in-Some : goal.returns-in-Some
returns-in-Some c =
    let m = seen c.args.self.now in
    subst (λ (k : RulesName). c.has_pair.result ≡ urged_by k m.workload m.readings (life_if m.readings c.args.a)) c.in-Priorities.ensures
    (c.has_pair.ensures ∙ urged-some m.workload m.readings (life_if m.readings c.args.a) c.in-Some.s c.in-Some.ensures)
