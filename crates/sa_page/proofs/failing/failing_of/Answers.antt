use Rattle.std.proofs.Common.{◌+◌, ◌↔◌, length, drop, get_or, sym, ◌∙◌, subst, arith, ◌≡◌, List, Some}
use Rattle.std.specs.Prelude.{IsTrue}
use Rattle.std.proofs.lemmas.Bool.{false≢true}
use Rattle.std.proofs.lemmas.List.{drop_more, drop_all}
use Rattle.sa_base.specs.declared.record.Record.{Record}
use Rattle.sa_check_moment.specs.Seen.{seen}
use Rattle.sa_check.specs.Items.{told_event}
use Rattle.sa_check.proofs.RecordLemmas.{no_record, tail-whole}
use Rattle.sa_page.specs.declared.failing.Failing.{Failing}
use Rattle.sa_page.specs.Failing.{HoldsOf, FailsFrom}
use Rattle.sa_page.proofs.FailingLemmas.{finds, finds-none, seeks-on, seeks-none}
use Rattle.sa_page.proofs.failing.failing_of.Goals as goal

pub loop-i-init : goal.loop-i-init
loop-i-init c = λ found fails. fails

pub read-requires : goal.read-requires
read-requires c = c.allows.ensures.0 c.if-not-allows.false

pub returns-then-not-holds_of : goal.returns-then-not-holds_of
returns-then-not-holds_of c =
    let start = seen c.args.start.moment in
    let now = seen c.loop-i.now.moment in
    let e = told_event c.args.event.now in
    let i = c.loop-i.i in
    let x = get_or e.records i no_record in
    let others = drop (i + 1) e.records in
    let asks : IsTrue c.holds_of.result ↔ HoldsOf c.args.rule now.workload e.proc now.readings x others =
    subst (λ (behind : List Record). IsTrue c.holds_of.result ↔ HoldsOf c.args.rule now.workload e.proc now.readings x behind)
    (tail-whole e.records (i + 1)) c.holds_of.ensures in
    subst (λ (f : Failing). FailsFrom c.args.rule start e 0 e.records (Some f)) (sym c.failing_record.ensures)
    (finds c.args.rule start now e i (drop i e.records) others x (drop_more e.records i no_record c.loop-i-test.true)
    (λ holds. false≢true (sym c.if-not-holds_of.true ∙ asks.1 holds)) c.loop-i.invariant)

pub returns-then-not-allows : goal.returns-then-not-allows
returns-then-not-allows c =
    let start = seen c.args.start.moment in
    let now = seen c.loop-i.now.moment in
    let e = told_event c.args.event.now in
    let i = c.loop-i.i in
    let x = get_or e.records i no_record in
    let others = drop (i + 1) e.records in
    let asks : IsTrue c.holds_of.result ↔ HoldsOf c.args.rule now.workload e.proc now.readings x others =
    subst (λ (behind : List Record). IsTrue c.holds_of.result ↔ HoldsOf c.args.rule now.workload e.proc now.readings x behind)
    (tail-whole e.records (i + 1)) c.holds_of.ensures in
    finds-none c.args.rule start now e i (drop i e.records) others x (drop_more e.records i no_record c.loop-i-test.true)
    (asks.0 c.if-not-holds_of.false) (λ needs. false≢true (sym c.if-not-allows.true ∙ c.allows.ensures.1 needs)) c.loop-i.invariant

pub loop-i-preserved : goal.loop-i-preserved
loop-i-preserved c =
    let start = seen c.args.start.moment in
    let now = seen c.loop-i.now.moment in
    let e = told_event c.args.event.now in
    let i = c.loop-i.i in
    let x = get_or e.records i no_record in
    let others = drop (i + 1) e.records in
    let asks : IsTrue c.holds_of.result ↔ HoldsOf c.args.rule now.workload e.proc now.readings x others =
    subst (λ (behind : List Record). IsTrue c.holds_of.result ↔ HoldsOf c.args.rule now.workload e.proc now.readings x behind)
    (tail-whole e.records (i + 1)) c.holds_of.ensures in
    seeks-on c.args.rule start now (seen c.in_ok-now.now.moment) e i (drop i e.records) others x (drop_more e.records i no_record c.loop-i-test.true)
    (asks.0 c.if-not-holds_of.false) (c.allows.ensures.0 c.if-not-allows.false) c.in_ok-now.ensures c.loop-i.invariant

pub returns : goal.returns
returns c =
    let e = told_event c.args.event.now in
    let i = c.loop-i.i in
    let same : i ≡ length e.records = omega arith in
    seeks-none c.args.rule (seen c.args.start.moment) (seen c.loop-i.now.moment) e i (drop i e.records) (drop_all i e.records (omega arith)) c.loop-i.invariant
