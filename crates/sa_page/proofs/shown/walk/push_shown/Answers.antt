use Rattle.std.proofs.Common.{◌≡◌, [], sym, subst, List, Option}
use Rattle.sa_base.specs.declared.record.Item.{Item}
use Rattle.sa_base.specs.declared.record.Record.{Record}
use Rattle.sa_laws.specs.Event.{events_of}
use Rattle.sa_check_moment.specs.Seen.{seen, event}
use Rattle.sa_page.specs.declared.event.Gathered.{Gathered}
use Rattle.sa_page.specs.declared.shown.Pair.{Pair}
use Rattle.sa_page.specs.Gathered.{Gathers, IsFirst}
use Rattle.sa_page.specs.Shown.{WritesShown, ShowsOne, WritesOne}
use Rattle.sa_page.proofs.ShownLemmas.{goes-on, shown-all}
use Rattle.sa_page.proofs.shown.walk.push_shown.Goals as goal

pub loop-pair-preserved : goal.loop-pair-preserved
loop-pair-preserved c =
    let now = seen c.loop-pair.pair.now.moment in
    let next = seen c.in-Some-2.after.now.moment in
    let ups = c.loop-pair.pair.ups.items in
    let later = c.in-Some-2.after.ups.items in
    let g = c.in-Some.next in
    let out = c.loop-pair.out.items in
    let new = c.push_event.new.out.items in
    let first : IsFirst c.loop-pair.rest.now g = subst (λ (o : Option Gathered). Gathers c.loop-pair.rest.now o) c.in-Some.is c.in_ok-next.ensures in
    let shows : ShowsOne now ups (event g.first.event g.first.proc g.records.items) out new c.in_ok-after.field-0 =
    subst (λ (rs : List Record). ShowsOne now ups (event g.first.event g.first.proc rs) out new c.in_ok-after.field-0) c.deref.ensures.value c.in_ok-after.ensures in
    let goes : WritesOne now ups (event g.first.event g.first.proc g.records.items) out new next later =
    subst (λ (o : Option Pair). ShowsOne now ups (event g.first.event g.first.proc g.records.items) out new o) c.in-Some-2.is shows in
    goes-on (seen c.args.pair.now.moment) now next c.args.pair.ups.items ups later (events_of c.args.items.now) (events_of c.loop-pair.rest.now) (events_of g.rest.now) c.args.out.now.items out new
    (event g.first.event g.first.proc g.records.items) first.events goes c.loop-pair.invariant

pub returns : goal.returns
returns c =
    let now = seen c.loop-pair.pair.now.moment in
    let out = c.loop-pair.out.items in
    let none : c.loop-pair.rest.now ≡ [] = subst (λ (o : Option Gathered). Gathers c.loop-pair.rest.now o) c.in_default.is c.in_ok-next.ensures in
    let ups = c.loop-pair.pair.ups.items in
    c.loop-pair.invariant out (subst (λ (items : List Item). WritesShown now ups (events_of items) out out) (sym none) (shown-all now ups out))
