use Rattle.std.proofs.Common.{◌≡◌, drop, take}
use Rattle.sa_check_moment.specs.Seen.{seen, event}
use Rattle.sa_check.specs.Records.{behind_some}
use Rattle.sa_check.proofs.RecordLemmas.{StepsRest}
use Rattle.sa_page.proofs.advance.read_some.Given as goal

-- the rest are steps exactly where all are
abbrev pub invariant-loop-what : goal.invariant-loop-what
invariant-loop-what l =
    let m = seen l.fn.view.moment in
    let e = event l.fn.number l.fn.p l.records in
    record {
      moment : seen l.now.moment ≡ behind_some m e (take l.what-index l.records);
      steps : StepsRest (seen l.now.moment) m e (drop l.what-index l.records);
    }
