-- What a search has done, breadth first: it keeps states in the order in which it comes to them, and makes from each, in their order, one
-- turn of each processor, in order of processors.
use Rattle.std.specs.Prelude.{◌≡◌, ℕ, zero, suc, ◌+◌, ◌-◌, ◌*◌, ◌<◌, ◌≤◌, ◌⊎◌, List, [], ◌∷◌, ◌++◌, length, count_by, Bool, true, false, not, Option, Some, None, IsSome, slice_get}
use Rattle.sa_base.specs.declared.number.ProcNo.{ProcNo}
use Rattle.sa_base.specs.declared.record.End.{End}
use Rattle.sa_explore_model.specs.declared.answer.State.{State}
use Rattle.sa_explore_model.specs.declared.answer.Extent.{Extent}
use Rattle.sa_explore_model.specs.declared.answer.Extent.TheVariants.{All, Part}
use Rattle.sa_explore_model.specs.declared.answer.Found.{Found}
use Rattle.sa_explore_model.specs.Answer.{AreDifferent, IsReached, is_end}

-- WAYS. The turns that lead to a state, where its links are followed back; at most that many of them.
abbrev pub way_on : (ℕ → List ProcNo) → Option State → List ProcNo
way_on way None = []
way_on way (Some s) = way s.before ++ s.proc ∷ []

abbrev pub way_by : ℕ → List State → ℕ → List ProcNo
way_by zero states k = []
way_by (suc n) states zero = []
way_by (suc n) states (suc k) = way_on (λ j. way_by n states j) (slice_get states (suc k))

abbrev pub way_to : List State → ℕ → List ProcNo
way_to states k = way_by k states k

-- each state but the first comes from one before it
abbrev pub AreLinked : List State → Type 0
AreLinked states = (k : ℕ) (s : State) → 0 < k → slice_get states k ≡ Some s → s.before < k

-- ORDER. The turn of a processor from a state comes before another one: from a lower state, or from the same one by a lower processor.
abbrev pub IsBefore : ℕ → ℕ → ℕ → ℕ → Type 0
IsBefore j p k q = (j < k) ⊎ ((j ≡ k) × (p < q))

module _ {M O : Type 0} (look : M → O) (end : M → Option End) (Way : List ProcNo → M → Type 0) (Turn : M → ProcNo → M → Type 0) where
  -- a turn of a processor was made from a machine, or from one with its outlook; and the state with this number, which was not
  -- come to later than by this turn, has the outlook of what it led to
  pub record IsTurned (states : List State) (kept : List M) (j : ℕ) (m : M) (p : ProcNo) (to : ℕ) : Type 0 where
    pub from : M
    pub after : M
    pub reached : IsReached look end Way from
    pub same : look from ≡ look m
    pub turn : Turn from p after
    pub target : M
    pub is : slice_get kept to ≡ Some target
    pub looks : look target ≡ look after
    pub early : (s : State) → 0 < to → slice_get states to ≡ Some s → IsBefore s.before s.proc.0 j (p.0 + 1)

  -- The machines `kept` are one for each state. `nexts` has the numbers of the states to which turns led, in the order of the turns. The next
  -- turn is that of processor `next` from state `at`.
  pub record IsSearch (processors : ℕ) (states : List State) (kept : List M) (nexts : List ℕ) (at next : ℕ) : Type 0 where
    pub size : length kept ≡ length states
    pub first : (m : M) → slice_get kept 0 ≡ Some m → Way [] m
    pub some : 0 < length states
    pub reached : (k : ℕ) (m : M) → slice_get kept k ≡ Some m → Way (way_to states k) m
    pub ends : (k : ℕ) (m : M) (s : State) → slice_get kept k ≡ Some m → slice_get states k ≡ Some s → s.end ≡ end m
    pub different : AreDifferent look kept
    pub linked : AreLinked states
    pub made : (k : ℕ) (s : State) → 0 < k → slice_get states k ≡ Some s → IsBefore s.before s.proc.0 at next
    pub rise : (j k : ℕ) (s t : State) → 0 < j → j < k → slice_get states j ≡ Some s → slice_get states k ≡ Some t
        → IsBefore s.before s.proc.0 t.before t.proc.0
    pub turns : length nexts ≡ at * processors + next
    pub inside : (i to : ℕ) → slice_get nexts i ≡ Some to → to < length states
    pub turned : (j : ℕ) (m : M) (p : ProcNo) (to : ℕ) → slice_get kept j ≡ Some m → end m ≡ None → p.0 < processors → IsBefore j p.0 at next
        → slice_get nexts (j * processors + p.0) ≡ Some to → IsTurned states kept j m p to

-- What was found of an end among the states: the first that has it, and how many have it.
pub record IsFirst (states : List State) (begun : List ProcNo) (e : End) (found : Found) : Type 0 where
  pub place : ℕ
  pub state : State
  pub is : slice_get states place ≡ Some state
  pub ends : state.end ≡ Some e
  pub first : (k : ℕ) (s : State) → slice_get states k ≡ Some s → s.end ≡ Some e → place ≤ k
  pub schedule : found.schedule.items ≡ begun ++ way_to states place
  pub count : found.states ≡ count_by (λ s. is_end e s.end) states

abbrev pub IsFoundIn : List State → List ProcNo → End → Option Found → Type 0
IsFoundIn states begun e None = (k : ℕ) (s : State) → slice_get states k ≡ Some s → s.end ≡ Some e → ⊥
IsFoundIn states begun e (Some found) = IsFirst states begun e found

-- Where a search stopped, and the depth: behind the last state, or at one.
abbrev pub IsStopped : Extent → ℕ → List State → ℕ → Type 0
IsStopped All depth states at = (at ≡ length states) × (depth ≡ length (way_to states (length states - 1)))
IsStopped Part depth states at = (at < length states) × (depth ≡ length (way_to states at))

-- ENDS TO COME, where turns lead from each state to those of `nexts`.
module _ (processors : ℕ) (states : List State) (nexts : List ℕ) where
  pub record IsOver (k : ℕ) : Type 0 where
    pub state : State
    pub is : slice_get states k ≡ Some state
    pub ends : IsSome state.end

  pub record IsNext (k : ℕ) : Type 0 where
    pub proc : ℕ
    pub to : ℕ
    pub within : proc < processors
    pub is : slice_get nexts (k * processors + proc) ≡ Some to

  -- no more than that many turns lead to a state that has an end
  abbrev pub Ends : ℕ → ℕ → Type 0
  Ends zero k = IsOver k
  Ends (suc n) k = IsOver k ⊎ ((next : IsNext k) × Ends n next.to)

  -- the states that are marked are those from which turns lead to an end
  pub record AreMarked (marks : List Bool) : Type 0 where
    pub size : length marks ≡ length states
    pub marked : (k : ℕ) → slice_get marks k ≡ Some true → (n : ℕ) × Ends n k
    pub others : (k n : ℕ) → slice_get marks k ≡ Some false → Ends n k → ⊥

-- what was found of the states that are not marked: the first, and how many there are
pub record IsFirstUnmarked (states : List State) (begun : List ProcNo) (marks : List Bool) (found : Found) : Type 0 where
  pub place : ℕ
  pub is : slice_get marks place ≡ Some false
  pub first : (k : ℕ) → slice_get marks k ≡ Some false → place ≤ k
  pub schedule : found.schedule.items ≡ begun ++ way_to states place
  pub count : found.states ≡ count_by not marks

abbrev pub AreUnmarked : List State → List ProcNo → List Bool → Option Found → Type 0
AreUnmarked states begun marks None = (k : ℕ) → slice_get marks k ≡ Some false → ⊥
AreUnmarked states begun marks (Some found) = IsFirstUnmarked states begun marks found
