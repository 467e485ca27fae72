use Rattle.std.proofs.Common.{◌≡◌, drop, take}
use Rattle.sa_check_moment.specs.Seen.{seen}
use Rattle.sa_check.specs.Items.{told_event}
use Rattle.sa_check.specs.Records.{behind_some}
use Rattle.sa_check.proofs.RecordLemmas.{StepsRest}
use Rattle.sa_check.proofs.quiet.read_quiet.Given as goal

-- the rest are steps exactly where all are
abbrev pub invariant-loop-what : goal.invariant-loop-what
invariant-loop-what l =
    let m = seen l.fn.moment in
    let e = told_event l.fn.event in
    record {
      moment : seen l.now ≡ behind_some m e (take l.what-index l.records);
      steps : StepsRest (seen l.now) m e (drop l.what-index l.records);
    }
