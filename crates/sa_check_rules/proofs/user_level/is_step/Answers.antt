use Rattle.std.proofs.Common.{◌↔◌, subst}
use Rattle.std.specs.Prelude.{IsTrue}
use Rattle.sa_base.specs.declared.package.RulesName.{RulesName}
use Rattle.sa_ranks.specs.Packages.{rules_named}
use Rattle.sa_check_moment.specs.Seen.{seen}
use Rattle.sa_check_rules.proofs.user_level.is_step.Goals as goal

pub returns-in-FastThreads : goal.returns-in-FastThreads
returns-in-FastThreads c =
    let m = seen c.args.moment.now in
    subst (λ (k : RulesName). IsTrue c.is_fast_step.result ↔ (rules_named k).Steps m.workload m.readings c.args.p c.args.records.now) c.in-FastThreads.ensures
    c.is_fast_step.ensures

pub returns-in-Priorities : goal.returns-in-Priorities
returns-in-Priorities c =
    let m = seen c.args.moment.now in
    subst (λ (k : RulesName). IsTrue c.is_ranked_step.result ↔ (rules_named k).Steps m.workload m.readings c.args.p c.args.records.now) c.in-Priorities.ensures
    c.is_ranked_step.ensures

pub returns-in-Any : goal.returns-in-Any
returns-in-Any c =
    let m = seen c.args.moment.now in
    subst (λ (k : RulesName). IsTrue c.is_any_step.result ↔ (rules_named k).Steps m.workload m.readings c.args.p c.args.records.now) c.in-Any.ensures
    c.is_any_step.ensures
