use Rattle.std.proofs.Common.{◌≡◌, map}
use Rattle.sa_assign.specs.Reaim.{proc_no}
use Rattle.sa_laws.specs.Closing.{want_one}
use Rattle.sa_laws.specs.History.{after_records}
use Rattle.sa_base.specs.declared.package.RulesName.TheVariants.{FastThreads}
use Rattle.sa_check_moment.specs.Seen.{seen}
use Rattle.sa_check.specs.Wanting.{wanting}
use Rattle.sa_check.proofs.EachLemmas.{from}
use Rattle.sa_check.proofs.opening.wanting.Given as goal

abbrev pub invariant-loop-s : goal.invariant-loop-s
invariant-loop-s l = record {
  rules : (seen l.moment).rules ≡ FastThreads;
  workload : (seen l.moment).workload ≡ l.workload;
  readings : after_records l.workload 0 (proc_no 0) (seen l.moment).readings (map want_one (from l.s l.s-end)) ≡ (wanting l.workload).readings;
}
