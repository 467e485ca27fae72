use Rattle.std.proofs.Common.{◌↔◌, subst, refl, true}
use Rattle.std.specs.Prelude.{IsTrue}
use Rattle.sa_base.specs.declared.package.RulesName.{RulesName}
use Rattle.sa_ranks.specs.Packages.{rules_named}
use Rattle.sa_check_moment.specs.Seen.{seen, event}
use Rattle.sa_check_rules.proofs.user_level.demand_is_announced.Goals as goal

pub returns-in-FastThreads : goal.returns-in-FastThreads
returns-in-FastThreads c =
    let m = seen c.args.moment.now in
    let e = event c.args.number c.args.p c.args.records.now in
    subst (λ (k : RulesName). IsTrue c.is_announced.result ↔ (rules_named k).Demand m.workload m.readings e) c.in-FastThreads.ensures c.is_announced.ensures

pub returns-in-Priorities : goal.returns-in-Priorities
returns-in-Priorities c =
    let m = seen c.args.moment.now in
    let e = event c.args.number c.args.p c.args.records.now in
    subst (λ (k : RulesName). IsTrue c.pairs_are_served.result ↔ (rules_named k).Demand m.workload m.readings e) c.in-Priorities.ensures c.pairs_are_served.ensures

pub returns-in-Any : goal.returns-in-Any
returns-in-Any c =
    let m = seen c.args.moment.now in
    let e = event c.args.number c.args.p c.args.records.now in
    subst (λ (k : RulesName). IsTrue true ↔ (rules_named k).Demand m.workload m.readings e) c.in-Any.ensures (λ yes. tt, λ kept. refl)
