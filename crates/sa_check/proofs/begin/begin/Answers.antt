use Rattle.std.proofs.Common.{refl, sym, ap}
use Rattle.std.specs.Prelude.{is_some}
use Rattle.sa_ranks.specs.Packages.{rules_named}
use Rattle.sa_check_moment.specs.Seen.{seen}
use Rattle.sa_check.specs.Items.{told_event}
use Rattle.sa_check.proofs.QuietLemmas.{quiet-low}
use Rattle.sa_check.proofs.QuietLines.{quiet-in-place}
use Rattle.sa_check.proofs.begin.begin.Goals as goal

pub begin_by-requires-clause-raised : goal.begin_by-requires-clause-raised
begin_by-requires-clause-raised c =
    let m = seen c.args.moment.now in
    sym (ap is_some (quiet-low m.workload m.readings (told_event c.args.event.now) (c.requires c.if-quiet.true)))

pub begin_by-requires-clause-lines : goal.begin_by-requires-clause-lines
begin_by-requires-clause-lines c =
    let m = seen c.args.moment.now in
    (λ _. quiet-in-place m.workload m.readings (told_event c.args.event.now) (c.requires c.if-quiet.true) (rules_named m.rules).Lines, λ _. refl)
