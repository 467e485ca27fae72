use Rattle.std.proofs.Common.{◌≡◌, [], ap, subst, List, Option}
use Rattle.sa_base.specs.declared.record.Record.{Record}
use Rattle.sa_laws.specs.Event.{events_of}
use Rattle.sa_check_moment.specs.Seen.{seen, event}
use Rattle.sa_cells.specs.declared.view.View.{View}
use Rattle.sa_page.specs.declared.event.Gathered.{Gathered}
use Rattle.sa_page.specs.Advance.{Advances}
use Rattle.sa_page.specs.Gathered.{Gathers, IsFirst}
use Rattle.sa_page.proofs.FailingLemmas.{looks-on, looks-past}
use Rattle.sa_page.proofs.failing.failing_at.Goals as goal

pub loop-now-init : goal.loop-now-init
loop-now-init c = λ found fails. fails

pub loop-now-preserved : goal.loop-now-preserved
loop-now-preserved c =
    let now = seen c.loop-now.now.moment in
    let g = c.in-Some.next in
    let e = event g.first.event g.first.proc g.records.items in
    let first : IsFirst c.loop-now.rest.now g = subst (λ (o : Option Gathered). Gathers c.loop-now.rest.now o) c.in-Some.is c.in_ok-next.ensures in
    let found : Advances now e c.in_ok-after.field-0 =
    subst (λ (rs : List Record). Advances now (event g.first.event g.first.proc rs) c.in_ok-after.field-0) c.deref.ensures.value c.in_ok-after.ensures in
    looks-on c.args.rule c.args.number (seen c.args.start.moment) now (seen c.in-Some-2.after.moment) (events_of c.args.items.now)
    (events_of c.loop-now.rest.now) (events_of g.rest.now) e first.events (λ same. c.if-event-number.false same) (subst (λ (o : Option View). Advances now e o) c.in-Some-2.is found)
    c.loop-now.invariant

pub returns : goal.returns
returns c =
    let none : c.loop-now.rest.now ≡ [] = subst (λ (o : Option Gathered). Gathers c.loop-now.rest.now o) c.in_default.is c.in_ok-next.ensures in
    looks-past c.args.rule c.args.number (seen c.args.start.moment) (seen c.loop-now.now.moment) (events_of c.args.items.now) (events_of c.loop-now.rest.now)
    (ap events_of none) c.loop-now.invariant
