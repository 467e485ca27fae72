use Rattle.std.proofs.Common.{◌↔◌, subst, refl, true}
use Rattle.std.specs.Prelude.{IsTrue}
use Rattle.sa_base.specs.declared.package.RulesName.{RulesName}
use Rattle.sa_ranks.specs.Packages.{rules_named}
use Rattle.sa_check_moment.specs.Seen.{seen, event}
use Rattle.sa_check_rules.proofs.user_level.order_is_kept.Goals as goal

pub returns-in-FastThreads : goal.returns-in-FastThreads
returns-in-FastThreads c = λ number.
    let m = seen c.args.moment.now in
    let e = event number c.args.p c.args.records.now in
    let found = c.lists_are_in_order.ensures in
    subst (λ (k : RulesName). IsTrue c.lists_are_in_order.result ↔ (rules_named k).Order m.workload m.readings e) c.in-FastThreads.ensures
    (λ yes. record { run = found.0 yes }, λ kept. found.1 kept.run)

pub returns-in-Priorities : goal.returns-in-Priorities
returns-in-Priorities c = λ number.
    let m = seen c.args.moment.now in
    let e = event number c.args.p c.args.records.now in
    let found = c.rank_is_kept.ensures in
    subst (λ (k : RulesName). IsTrue c.rank_is_kept.result ↔ (rules_named k).Order m.workload m.readings e) c.in-Priorities.ensures
    (λ yes. record { run = found.0 yes }, λ kept. found.1 kept.run)

pub returns-in-Any : goal.returns-in-Any
returns-in-Any c = λ number.
    let m = seen c.args.moment.now in
    let e = event number c.args.p c.args.records.now in
    subst (λ (k : RulesName). IsTrue true ↔ (rules_named k).Order m.workload m.readings e) c.in-Any.ensures (λ yes. tt, λ kept. refl)
