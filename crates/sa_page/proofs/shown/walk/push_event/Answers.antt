use Rattle.std.proofs.Common.{sym, subst, Option}
use Rattle.sa_ranks.specs.Packages.{rules_named}
use Rattle.sa_check_moment.specs.Seen.{Seen, seen}
use Rattle.sa_check.specs.Items.{told_event}
use Rattle.sa_cells.specs.declared.view.View.{View}
use Rattle.sa_cells.specs.Stays.{IsAfter}
use Rattle.sa_page.specs.Advance.{IsAdvanced, Advances}
use Rattle.sa_page.proofs.shown.walk.push_event.Goals as goal

pub push_changes-requires : goal.push_changes-requires
push_changes-requires c =
    let m = seen c.args.pair.now.moment in
    let e = told_event c.args.event.now in
    let goes : IsAdvanced m e (seen c.in-Some.now.moment) = subst (λ (o : Option View). Advances m e o) c.in-Some.is c.in_ok-now.ensures in
    subst (λ (x : Seen). IsAfter x (seen c.in-Some.now.moment) e) (sym c.args.pair.same)
    (record { test = (rules_named m.rules).inside; is = goes.moment })
