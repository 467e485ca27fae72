use Rattle.std.proofs.Common.{◌≡◌, [], ◌∷◌, length, Result}
use Rattle.sa_base.specs.declared.refusal.Bad.{Bad}
use Rattle.sa_laws.specs.Readings.{opening_readings}
use Rattle.sa_trace.specs.Reader.{in_front, with_said, left}
use Rattle.sa_check_moment.specs.Seen.{seen}
use Rattle.sa_check.specs.declared.verdict.Verdict.{Verdict}
use Rattle.sa_check.specs.Quiet.{IsCalmIf, WasSettled}
use Rattle.sa_check.proofs.ReadLemmas.{Comes}
use Rattle.sa_check.proofs.trace.judge_events.Given as goal

-- what comes of the rest from here comes of the whole
abbrev pub invariant-loop-said : goal.invariant-loop-said
invariant-loop-said l =
    let w = l.fn.workload in
    record {
      rules : (seen l.now.moment).rules ≡ l.fn.rules;
      workload : (seen l.now.moment).workload ≡ w;
      settled : WasSettled (seen l.now.moment).workload (seen l.now.moment).readings;
      calm : IsCalmIf l.now.calm (seen l.now.moment).workload (seen l.now.moment).readings;
      rest : (a : Result Verdict Bad) → Comes l.fn.rules w (seen l.now.moment).readings (with_said l.said (left l.reader)) a
          → Comes l.fn.rules w (opening_readings w) (in_front (l.fn.first ∷ []) (left l.fn.reader)) a;
    }

abbrev pub decreases-loop-said : goal.decreases-loop-said
decreases-loop-said l = length l.reader.lines
