use Rattle.std.proofs.Common.{◌↔◌, subst}
use Rattle.std.specs.Prelude.{IsTrue}
use Rattle.sa_base.specs.declared.package.RulesName.{RulesName}
use Rattle.sa_laws.specs.Readings.{Readings}
use Rattle.sa_laws.specs.Any.{NamesHeard}
use Rattle.sa_ranks.specs.Packages.{rules_named}
use Rattle.sa_check_moment.specs.Seen.{seen, event}
use Rattle.sa_check_rules.proofs.user_level.locks_are_kept.Goals as goal

pub returns-in-FastThreads : goal.returns-in-FastThreads
returns-in-FastThreads c = λ r begins.
    let m = seen c.args.moment.now in
    let e = event c.args.number c.args.p c.args.records.now in
    subst (λ (k : RulesName). IsTrue c.list_locks_are_kept.result ↔ (rules_named k).Locks m.workload r e) c.in-FastThreads.ensures
    (c.list_locks_are_kept.ensures r begins)

pub returns-in-Priorities : goal.returns-in-Priorities
returns-in-Priorities c = λ r begins.
    let m = seen c.args.moment.now in
    let e = event c.args.number c.args.p c.args.records.now in
    subst (λ (k : RulesName). IsTrue c.the_lock_is_kept.result ↔ (rules_named k).Locks m.workload r e) c.in-Priorities.ensures (c.the_lock_is_kept.ensures r begins)

pub returns-in-Any : goal.returns-in-Any
returns-in-Any c = λ r begins.
    let m = seen c.args.moment.now in
    let e = event c.args.number c.args.p c.args.records.now in
    let found = subst (λ (q : Readings). IsTrue c.names_heard.result ↔ NamesHeard q c.args.records.now) begins c.names_heard.ensures in
    subst (λ (k : RulesName). IsTrue c.names_heard.result ↔ (rules_named k).Locks m.workload r e) c.in-Any.ensures
    (λ yes. record { heard = found.0 yes }, λ kept. found.1 kept.heard)
