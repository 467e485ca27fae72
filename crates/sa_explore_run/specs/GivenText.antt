-- A workload with a schedule as its turn lines.
use Rattle.std.specs.Prelude.{◌≡◌, ℕ, ◌≤◌, ◌⊎◌, nat_le, if◌then◌else◌, List, [], length, Option, Some, None}
use Rattle.sa_base.specs.declared.number.ProcNo.{ProcNo}
use Rattle.sa_instr.specs.declared.limits.TheConstants.{MAX_TURNS}
use Rattle.sa_spaces.specs.Workload.{WorkloadView}
use Rattle.sa_input.specs.declared.limits.TheConstants.{WORKLOAD_LIMIT}
use Rattle.sa_workload.specs.Text.{IsText, text_of}
use Rattle.sa_explore_model.specs.declared.answer.Found.{Found}

abbrev pub with_turns : WorkloadView → List ProcNo → WorkloadView
with_turns w turns = record w { turns = turns }

-- a text that is short enough to be read, or nothing
abbrev pub if_short : List ℕ → List ℕ
if_short text = if nat_le (length text) WORKLOAD_LIMIT then text else []

-- its text, if a workload may have as many turns and a text as long
abbrev pub turned_text : WorkloadView → List ProcNo → List ℕ
turned_text w turns = if nat_le (length turns) MAX_TURNS then if_short (text_of (with_turns w turns)) else []

-- the same of a schedule that was found
abbrev pub workload_text : WorkloadView → Option Found → List ℕ
workload_text w None = []
workload_text w (Some found) = turned_text w found.schedule.items

-- the text of a workload, no longer than one may be
pub record IsReadable (text : List ℕ) (w : WorkloadView) : Type 0 where
  pub is : IsText text w
  pub short : length text ≤ WORKLOAD_LIMIT

-- nothing, or a text that can be read again: that of the workload with the schedule that was found
abbrev pub IsReady : WorkloadView → Option Found → List ℕ → Type 0
IsReady w None text = text ≡ []
IsReady w (Some found) text = (text ≡ []) ⊎ IsReadable text (with_turns w found.schedule.items)
