-- Where turns lead to a stuck end, those that wait are all the threads that are left.
use Rattle.std.proofs.Common.{List, length, sym, subst}
use Rattle.sa_base.specs.declared.limits.TheConstants.{MAX_EVENTS}
use Rattle.sa_base.specs.declared.number.ProcNo.{ProcNo}
use Rattle.sa_spaces.specs.Workload.{WorkloadView}
use Rattle.sa_abstract.specs.Calls.{Calls}
use Rattle.sa_laws.specs.State.{State, opening_state}
use Rattle.sa_debug.specs.Stuck.{StuckThreadsWait}
use Rattle.sa_debug.specs.Views.{state_behind}
use Rattle.sa_waits.specs.declared.wait.Wait.{Wait}
use Rattle.sa_explore_run.specs.Behind.{HaveEach, LeadToStuck, AreWaits, AreLeft}
use Rattle.sa_explore_runs.proofs.Ends.{stuck-ended}
use Rattle.sa_explore_run.proofs.Reaching.{lead-reaches}
use Rattle.sa_explore_run.proofs.Holders.{all-held}
use Rattle.sa_explore_run.proofs.EachWaits.{have-each}

pub are-left : {U C : Type 0} (f : Calls U C) (w : WorkloadView) (turns : List ProcNo) (waits : List Wait) → StuckThreadsWait f w MAX_EVENTS
    → LeadToStuck f w turns → AreWaits f w turns waits → AreLeft f w turns waits
are-left f w turns waits complete stuck here =
    let state : State = state_behind w (opening_state w) here.machine.items in
    let ended = stuck here.machine here.lead in
    record {
      here = here;
      stuck = ended;
      each = subst (λ (found : List Wait). HaveEach state found) (sym here.are)
          (have-each state (all-held w here.machine.items)
          (complete (length turns) here.machine (lead-reaches f w turns here.machine here.lead) (stuck-ended f MAX_EVENTS here.machine ended)));
    }
