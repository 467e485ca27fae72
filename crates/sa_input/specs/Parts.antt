-- An input of a workload text up to its first line that is `close`, and directly after it a trace text.
use Rattle.std.specs.Prelude.{◌≡◌, ℕ, ◌≤◌, List, length, Err}
use Rattle.sa_base.specs.declared.refusal.Bad.{Bad}
use Rattle.sa_spaces.specs.Workload.{WorkloadView}
use Rattle.sa_workload.specs.Text.{IsText}
use Rattle.sa_workload.specs.Bad.{BadAt}
use Rattle.sa_workload.specs.Texts.{workload_part, second_part}
use Rattle.sa_trace.specs.Reading.{read_of}
use Rattle.sa_input.specs.declared.limits.TheConstants.{WORKLOAD_LIMIT, TRACE_LIMIT}
use Rattle.sa_input.specs.Refusals.{IsInputRefused}

-- the first part is the text of this workload, and neither that nor the whole is too long
pub record HasWorkload (input : List ℕ) (w : WorkloadView) : Type 0 where
  pub whole : length input ≤ TRACE_LIMIT
  pub short : length (workload_part input) ≤ WORKLOAD_LIMIT
  pub is : IsText (workload_part input) w

-- the first part is refused
pub record HasBadWorkload (input : List ℕ) (bad : Bad) : Type 0 where
  pub whole : length input ≤ TRACE_LIMIT
  pub refused : IsInputRefused BadAt (workload_part input) bad

-- the second part is refused, after a workload text
pub record HasBadTrace (input : List ℕ) (bad : Bad) : Type 0 where
  pub workload : WorkloadView
  pub has : HasWorkload input workload
  pub read : read_of (second_part input) ≡ Err bad
