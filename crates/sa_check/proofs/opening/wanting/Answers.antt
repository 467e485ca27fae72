use Rattle.std.proofs.Common.{◌≡◌, ℕ, ◌+◌, ◌<◌, List, map, length, sym, ap, ◌∙◌}
use Rattle.sa_base.specs.declared.number.SpaceNo.{SpaceNo}
use Rattle.sa_base.specs.declared.record.Record.TheVariants.{Want}
use Rattle.sa_spaces.specs.Workload.{WorkloadView}
use Rattle.sa_assign.specs.Aims.{space_no}
use Rattle.sa_assign.specs.Reaim.{proc_no}
use Rattle.sa_laws.specs.Closing.{want_one}
use Rattle.sa_laws.specs.Record.{after_record}
use Rattle.sa_laws.specs.History.{after_records}
use Rattle.sa_check_moment.specs.Seen.{Seen, seen, behind_record}
use Rattle.sa_check.proofs.EachLemmas.{from, from-more}
use Rattle.sa_check.proofs.opening.wanting.Goals as goal

-- one want more
want-more : (w : WorkloadView) (now next : Seen) (s n : ℕ) → s < n → now.workload ≡ w → next ≡ behind_record 0 (proc_no 0) (Want (space_no s) 1) now
    → after_records w 0 (proc_no 0) next.readings (map want_one (from (s + 1) n)) ≡ after_records w 0 (proc_no 0) now.readings (map want_one (from s n))
want-more w now next s n within same goes =
    ap (λ (m : Seen). after_records w 0 (proc_no 0) m.readings (map want_one (from (s + 1) n))) goes
    ∙ ap (λ (v : WorkloadView). after_records w 0 (proc_no 0) (after_record v 0 (proc_no 0) now.readings (Want (space_no s) 1))
    (map want_one (from (s + 1) n))) same
    ∙ sym (ap (λ (spaces : List SpaceNo). after_records w 0 (proc_no 0) now.readings (map want_one spaces)) (from-more s n within))

pub loop-s-preserved : goal.loop-s-preserved
loop-s-preserved c =
    let now = seen c.loop-s.moment in
    let next = seen c.in_ok-moment-2.moment in
    record {
      rules = ap (λ (m : Seen). m.rules) c.in_ok-moment-2.ensures ∙ c.loop-s.invariant.rules;
      workload = ap (λ (m : Seen). m.workload) c.in_ok-moment-2.ensures ∙ c.loop-s.invariant.workload;
      readings =
          want-more c.args.workload.now now next c.loop-s.s
          (length c.spaces-s-end.result.now) c.loop-s-test.true c.loop-s.invariant.workload c.in_ok-moment-2.ensures
          ∙ c.loop-s.invariant.readings;
    }
