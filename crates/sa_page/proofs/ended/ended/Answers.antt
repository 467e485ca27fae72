use Rattle.std.proofs.Common.{◌≡◌, [], ap, subst, List, Option, Some, None}
use Rattle.sa_base.specs.declared.record.Record.{Record}
use Rattle.sa_laws.specs.Event.{events_of}
use Rattle.sa_check_moment.specs.Seen.{seen, event}
use Rattle.sa_cells.specs.declared.view.View.{View}
use Rattle.sa_page.specs.declared.event.Gathered.{Gathered}
use Rattle.sa_page.specs.Advance.{Advances}
use Rattle.sa_page.specs.Gathered.{Gathers, IsFirst}
use Rattle.sa_page.proofs.EndedLemmas.{leads-on, leads-to, leads-nowhere}
use Rattle.sa_page.proofs.ended.ended.Goals as goal

pub loop-now-preserved : goal.loop-now-preserved
loop-now-preserved c =
    let now = seen c.loop-now.now.moment in
    let g = c.in-Some.next in
    let e = event g.first.event g.first.proc g.records.items in
    let first : IsFirst c.loop-now.rest.now g = subst (λ (o : Option Gathered). Gathers c.loop-now.rest.now o) c.in-Some.is c.in_ok-next.ensures in
    let found : Advances now e c.in_ok-after.field-0 =
    subst (λ (rs : List Record). Advances now (event g.first.event g.first.proc rs) c.in_ok-after.field-0) c.deref.ensures.value c.in_ok-after.ensures in
    leads-on (seen c.args.view.moment) now (seen c.in-Some-2.after.moment) (events_of c.args.items.now) (events_of c.loop-now.rest.now) (events_of g.rest.now) e
    first.events (subst (λ (o : Option View). Advances now e o) c.in-Some-2.is found) c.loop-now.invariant

pub returns-in_default-2 : goal.returns-in_default-2
returns-in_default-2 c =
    let now = seen c.loop-now.now.moment in
    let g = c.in-Some.next in
    let e = event g.first.event g.first.proc g.records.items in
    let first : IsFirst c.loop-now.rest.now g = subst (λ (o : Option Gathered). Gathers c.loop-now.rest.now o) c.in-Some.is c.in_ok-next.ensures in
    let found : Advances now e c.in_ok-after.field-0 =
    subst (λ (rs : List Record). Advances now (event g.first.event g.first.proc rs) c.in_ok-after.field-0) c.deref.ensures.value c.in_ok-after.ensures in
    leads-nowhere (seen c.args.view.moment) now (events_of c.args.items.now) (events_of c.loop-now.rest.now) (events_of g.rest.now) e first.events
    (subst (λ (o : Option View). Advances now e o) c.in_default-2.is found) c.loop-now.invariant

pub returns : goal.returns
returns c =
    let none : c.loop-now.rest.now ≡ [] = subst (λ (o : Option Gathered). Gathers c.loop-now.rest.now o) c.in_default.is c.in_ok-next.ensures in
    leads-to (seen c.args.view.moment) (seen c.loop-now.now.moment) (events_of c.args.items.now) (events_of c.loop-now.rest.now) (ap events_of none) c.loop-now.invariant
