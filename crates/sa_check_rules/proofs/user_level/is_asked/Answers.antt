use Rattle.std.proofs.Common.{◌↔◌, subst, false}
use Rattle.std.specs.Prelude.{IsTrue}
use Rattle.std.proofs.lemmas.Bool.{false≢true}
use Rattle.sa_base.specs.declared.package.RulesName.{RulesName}
use Rattle.sa_ranks.specs.Packages.{rules_named}
use Rattle.sa_check_moment.specs.Seen.{seen}
use Rattle.sa_check_rules.proofs.user_level.is_asked.Goals as goal

pub returns-in-FastThreads : goal.returns-in-FastThreads
returns-in-FastThreads c =
    let m = seen c.args.moment.now in
    subst (λ (k : RulesName). IsTrue false ↔ (rules_named k).Lines m.workload m.readings c.args.p c.args.q) c.in-FastThreads.ensures
    (λ yes. absurd (false≢true yes), λ none. absurd none)

pub returns-in-Priorities : goal.returns-in-Priorities
returns-in-Priorities c =
    let m = seen c.args.moment.now in
    subst (λ (k : RulesName). IsTrue c.asks_for.result ↔ (rules_named k).Lines m.workload m.readings c.args.p c.args.q) c.in-Priorities.ensures c.asks_for.ensures

pub returns-in-Any : goal.returns-in-Any
returns-in-Any c =
    let m = seen c.args.moment.now in
    subst (λ (k : RulesName). IsTrue c.asks_for_any.result ↔ (rules_named k).Lines m.workload m.readings c.args.p c.args.q) c.in-Any.ensures
    c.asks_for_any.ensures
