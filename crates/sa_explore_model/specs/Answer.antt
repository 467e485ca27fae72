-- What a search answers, over any system of machines: `Way qs m` says that the turns `qs` lead to the machine m, none after an end;
-- `look m` is what decides how m goes on; `end m` is how runs end at m.
use Rattle.std.specs.Prelude.{◌≡◌, ℕ, zero, suc, ◌+◌, ◌≤◌, ◌⊎◌, Bool, true, false, List, ◌++◌, length, count_by, not, Option, Some, None, IsSome, slice_get}
use Rattle.sa_base.specs.declared.number.ProcNo.{ProcNo}
use Rattle.sa_base.specs.declared.record.End.{End}
use Rattle.sa_base.specs.declared.record.End.TheVariants.{AllDone, Stuck, Budget}
use Rattle.sa_explore_model.specs.declared.answer.Extent.TheVariants.{All}
use Rattle.sa_explore_model.specs.declared.answer.Found.{Found}
use Rattle.sa_explore_model.specs.declared.answer.Explored.{Explored}
use Rattle.sa_explore_model.specs.Order.{ComesFirst}

-- what was found of an end
abbrev pub found_of : Explored → End → Option Found
found_of e AllDone = e.all_done
found_of e Stuck = e.stuck
found_of e Budget = None

-- orders of that many turns were looked at
abbrev pub IsLookedAt : Explored → ℕ → Type 0
IsLookedAt e turns = (e.extent ≡ All) ⊎ (turns ≤ e.depth)

-- an end that may be there is this one
abbrev pub is_end : End → Option End → Bool
is_end AllDone (Some AllDone) = true
is_end Stuck (Some Stuck) = true
is_end Budget (Some Budget) = true
is_end _ _ = false

-- ONE FOR EACH. No two of these machines have one outlook; one of them has that of m.
module _ {M O : Type 0} (look : M → O) where
  abbrev pub AreDifferent : List M → Type 0
  AreDifferent kept = (i j : ℕ) (m n : M) → slice_get kept i ≡ Some m → slice_get kept j ≡ Some n → look m ≡ look n → i ≡ j

  pub record IsKept (kept : List M) (m : M) : Type 0 where
    pub place : ℕ
    pub machine : M
    pub is : slice_get kept place ≡ Some machine
    pub looks : look machine ≡ look m

module _ {M O : Type 0} (look : M → O) (end : M → Option End) (Way : List ProcNo → M → Type 0) where
  -- some turns lead to a machine
  pub record IsReached (m : M) : Type 0 where
    pub turns : List ProcNo
    pub way : Way turns m

  -- no more than that many turns lead to a machine
  pub record IsNear (most : ℕ) (m : M) : Type 0 where
    pub turns : List ProcNo
    pub way : Way turns m
    pub few : length turns ≤ most

  -- some turns that lead to a machine do not come after these ones
  pub record IsEarly (turns : List ProcNo) (m : M) : Type 0 where
    pub early : List ProcNo
    pub way : Way early m
    pub first : ComesFirst early turns

  -- SOUND. A schedule, after the turns `begun`, leads to a machine with this end.
  pub record LeadsToEnd (begun : List ProcNo) (e : End) (schedule : List ProcNo) : Type 0 where
    pub turns : List ProcNo
    pub is : schedule ≡ begun ++ turns
    pub machine : M
    pub way : Way turns machine
    pub ends : end machine ≡ Some e

  -- LEAST. No run with this end is shorter, and of those of its length none comes before it in order of processors.
  abbrev pub IsLeast : List ProcNo → End → List ProcNo → Type 0
  IsLeast begun e schedule = (turns : List ProcNo) (m : M) → Way turns m → end m ≡ Some e → ComesFirst schedule (begun ++ turns)

  -- COMPLETE. Each run that was looked at and ends, ends so that the end was found.
  abbrev pub IsComplete : Explored → Type 0
  IsComplete x = (turns : List ProcNo) (m : M) (e : End) → Way turns m → IsLookedAt x (length turns) → end m ≡ Some e → IsSome (found_of x e)

  -- COUNTS. One machine is kept for each outlook: of all outlooks the first, in order of the least turns that lead to them. Each end of
  -- a machine that is kept was found.
  pub record IsCounted (x : Explored) (kept : List M) : Type 0 where
    pub near : (i : ℕ) (m : M) → slice_get kept i ≡ Some m → IsNear (x.depth + 1) m
    pub first : (i : ℕ) (m : M) → slice_get kept i ≡ Some m → (turns : List ProcNo) (n : M) → Way turns n → (IsKept look kept n → ⊥)
        → IsEarly turns m
    pub different : AreDifferent look kept
    pub every : (turns : List ProcNo) (m : M) → Way turns m → IsLookedAt x (length turns) → IsKept look kept m
    pub states : x.states ≡ length kept
    pub told : (i : ℕ) (m : M) (e : End) → slice_get kept i ≡ Some m → end m ≡ Some e → IsSome (found_of x e)
    pub ends : (e : End) (found : Found) → found_of x e ≡ Some found → found.states ≡ count_by (λ m. is_end e (end m)) kept

  -- the depth: no outlook is farther, and some machine has one that is not nearer
  pub record IsDepth (depth : ℕ) : Type 0 where
    pub near : (turns : List ProcNo) (m : M) → Way turns m → (qs : List ProcNo) × (n : M) × Way qs n × (look n ≡ look m) × (length qs ≤ depth)
    pub farthest : M
    pub reached : IsReached farthest
    pub far : (turns : List ProcNo) (m : M) → Way turns m → look m ≡ look farthest → depth ≤ length turns

-- ENDLESS. `Turn m p after`: a turn of p leads from m, which has no end, to after. A state is an outlook: turns are made from any machine
-- that has it.
module _ {M O : Type 0} (look : M → O) (end : M → Option End) (Way : List ProcNo → M → Type 0) (Turn : M → ProcNo → M → Type 0) where
  -- a machine with this outlook has an end
  pub record HasEnd (o : O) : Type 0 where
    pub machine : M
    pub reached : IsReached look end Way machine
    pub looks : look machine ≡ o
    pub ends : IsSome (end machine)

  -- a turn leads from a machine with this outlook
  pub record LeadsOn (o : O) : Type 0 where
    pub from : M
    pub proc : ProcNo
    pub after : M
    pub reached : IsReached look end Way from
    pub looks : look from ≡ o
    pub turn : Turn from proc after

  -- no more than that many turns lead to an end, from state to state
  abbrev pub CanEnd : ℕ → O → Type 0
  CanEnd zero o = HasEnd o
  CanEnd (suc n) o = HasEnd o ⊎ ((on : LeadsOn o) × CanEnd n (look on.after))

  abbrev pub IsEndless : O → Type 0
  IsEndless o = (n : ℕ) → CanEnd n o → ⊥

  -- of the machines kept those are marked from whose outlooks turns lead to an end
  pub record AreEndless (begun : List ProcNo) (kept : List M) (marks : List Bool) (endless : Option Found) : Type 0 where
    pub size : length marks ≡ length kept
    pub marked : (k : ℕ) (m : M) → slice_get kept k ≡ Some m → slice_get marks k ≡ Some true → (n : ℕ) × CanEnd n (look m)
    pub others : (k : ℕ) (m : M) → slice_get kept k ≡ Some m → slice_get marks k ≡ Some false → IsEndless (look m)
    pub none : endless ≡ None → (turns : List ProcNo) (m : M) → Way turns m → (n : ℕ) × CanEnd n (look m)
    pub sound : (found : Found) → endless ≡ Some found
        → (turns : List ProcNo) × (m : M) × (found.schedule.items ≡ begun ++ turns) × Way turns m × IsEndless (look m)
    pub least : (found : Found) → endless ≡ Some found → (turns : List ProcNo) (m : M) → Way turns m → IsEndless (look m)
        → ComesFirst found.schedule.items (begun ++ turns)
    pub count : (found : Found) → endless ≡ Some found → found.states ≡ count_by not marks
