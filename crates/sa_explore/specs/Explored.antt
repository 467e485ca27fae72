-- What is answered of every order of turns of a workload, after its turn lines.
use Rattle.std.specs.Prelude.{◌≡◌, ℕ, ◌+◌, ◌≤◌, ◌⊎◌, Bool, List, length, Option, Some, None}
use Rattle.sa_base.specs.declared.number.ProcNo.{ProcNo}
use Rattle.sa_base.specs.declared.record.End.{End}
use Rattle.sa_base.specs.declared.limits.TheConstants.{MAX_EVENTS}
use Rattle.sa_spaces.specs.Space.{SpaceView}
use Rattle.sa_spaces.specs.Workload.{WorkloadView}
use Rattle.sa_abstract.specs.Calls.{Calls}
use Rattle.sa_core_model.specs.Machine.{Machine}
use Rattle.sa_outlook.specs.Outlook.{outlook}
use Rattle.sa_explore_model.specs.declared.answer.Extent.TheVariants.{All, Part}
use Rattle.sa_explore_model.specs.declared.answer.Found.{Found}
use Rattle.sa_explore_model.specs.declared.answer.Explored.{Explored}
use Rattle.sa_explore_model.specs.Answer.{found_of, IsKept, LeadsToEnd, IsLeast, IsComplete, IsCounted, IsDepth, AreEndless}
use Rattle.sa_explore_runs.specs.Runs.{end, IsOpenTurn, IsBegun, IsWay}

module _ {U C D : Type 0} (f : Calls U C) (plain : Option SpaceView → C → D) (w : WorkloadView) where
  -- one turn more than so many leads to an outlook of which no machine is kept
  pub record IsBeyond (begun : List ProcNo) (kept : List (Machine U C)) (depth : ℕ) : Type 0 where
    pub turns : List ProcNo
    pub machine : Machine U C
    pub way : IsWay f w begun turns machine
    pub long : length turns ≡ depth + 1
    pub new : IsKept (outlook plain) kept machine → ⊥

  -- so many turns lead to a machine at which runs go on, no fewer lead to its outlook, and with the turns begun they are the most events
  pub record IsFar (begun : List ProcNo) (depth : ℕ) : Type 0 where
    pub turns : List ProcNo
    pub machine : Machine U C
    pub way : IsWay f w begun turns machine
    pub long : length turns ≡ depth
    pub goes : end f machine ≡ None
    pub least : (qs : List ProcNo) (n : Machine U C) → IsWay f w begun qs n → outlook plain n ≡ outlook plain machine → depth ≤ length qs
    pub most : length begun + depth ≡ MAX_EVENTS

  pub record IsExplored (most : ℕ) (x : Explored) : Type 0 where
    pub begun : List ProcNo
    pub begins : IsBegun f w begun
    -- sound and least: each schedule that is given leads to its end, and none that does comes before it
    pub sound : (e : End) (found : Found) → found_of x e ≡ Some found → LeadsToEnd (outlook plain) (end f) (IsWay f w begun) begun e found.schedule.items
    pub least : (e : End) (found : Found) → found_of x e ≡ Some found → IsLeast (outlook plain) (end f) (IsWay f w begun) begun e found.schedule.items
    -- complete: no run that was looked at ends in another way
    pub complete : IsComplete (outlook plain) (end f) (IsWay f w begun) x
    -- one machine is kept for each outlook, of all outlooks the first
    pub kept : List (Machine U C)
    pub counted : IsCounted (outlook plain) (end f) (IsWay f w begun) x kept
    pub few : x.states ≤ most
    pub depth : x.extent ≡ All → IsDepth (outlook plain) (end f) (IsWay f w begun) x.depth
    -- not all were looked at only if the states were spent before those of the next turn, or if a run that goes on had the most events
    pub spent : x.extent ≡ Part → ((x.states ≡ most) × IsBeyond begun kept x.depth) ⊎ IsFar begun x.depth
    -- of which states no order of turns ever ends is said where all were looked at
    pub marks : List Bool
    pub endless : x.extent ≡ All → AreEndless (outlook plain) (end f) (IsWay f w begun) (IsOpenTurn f) begun kept marks x.endless
    pub unknown : x.extent ≡ Part → x.endless ≡ None
