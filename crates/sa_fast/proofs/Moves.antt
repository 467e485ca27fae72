-- What the effects on work lists and of instructions do to the counts of threads: the statements that the lemmas prove.
use Rattle.std.proofs.Common.{◌≡◌, ℕ, ◌+◌, List, Option}
use Rattle.sa_base.specs.declared.number.ThreadNo.{ThreadNo}
use Rattle.sa_spaces.specs.Space.{SpaceView}
use Rattle.sa_links.specs.Lists.{list_at, count_in, count_in_all}
use Rattle.sa_fast.specs.declared.shared.Shared.{Shared}
use Rattle.sa_fast.specs.declared.instruction.Ran.{Ran}
use Rattle.sa_fast.specs.declared.instruction.Ran.TheVariants.{Leaves}
use Rattle.sa_fast.specs.Work.{Work, with_name, work_of}
use Rattle.sa_fast.specs.Instruction.{Outcome}
use Rattle.sa_fast.specs.Rest.{one_if, one_of, threads_at_rest, empty_at, AreWorks, ArePartsFor, AgreesAt, not_carried}

-- a change of work lists by one context, which gains and loses these threads and keeps the name of what it has
pub record WorkStep (old new : Work) (lost gained : ℕ → ℕ) : Type 0 where
  pub works : AreWorks new.lists
  pub threads : (t : ℕ) → count_in t (work_of new.lists new.name) + lost t ≡ count_in t (work_of old.lists old.name) + gained t
  pub names : (l : ℕ) → empty_at new.lists l + one_of new.name l ≡ empty_at old.lists l + one_of old.name l
  -- the lists of others stay
  pub others : (l : ℕ) → one_of old.name l ≡ 0 → empty_at old.lists l ≡ 0 → list_at new.lists l ≡ list_at old.lists l

-- the thread stays with its context, or is at rest after the instruction
abbrev pub stays_with : Ran → ThreadNo → ℕ → ℕ
stays_with Leaves t u = 0
stays_with _ t u = one_if t.0 u

-- an instruction of thread t, whose context has the work list w
pub record RunStep (def : SpaceView) (processors event : ℕ) (x : Shared) (w : Option ThreadNo) (t : ThreadNo) (o : Outcome) : Type 0 where
  pub parts : ArePartsFor def processors (event + 1) o.shared
  pub space : o.shared.state.space ≡ x.state.space
  pub code : o.shared.state.code ≡ x.state.code
  pub lists : o.shared.state.lists.lists ≡ x.state.lists.lists
  pub locked : o.shared.state.lists.locked ≡ x.state.lists.locked
  -- the threads that it puts into the work list
  pub gained : ℕ → ℕ
  pub works : WorkStep (with_name x.works w) (with_name o.shared.works o.work) (λ u. 0) gained
  pub threads : (u : ℕ) → threads_at_rest o.shared u + gained u + stays_with o.answer t u ≡ threads_at_rest x u + one_if t.0 u

-- the work lists of two contexts, w and v, become one
pub record JoinStep (lists : List (List ℕ)) (w v : Option ThreadNo) (new : Work) : Type 0 where
  pub works : AreWorks new.lists
  pub threads : (t : ℕ) → count_in t (work_of new.lists new.name) ≡ count_in t (work_of lists w) + count_in t (work_of lists v)
  pub names : (l : ℕ) → empty_at new.lists l + one_of new.name l ≡ empty_at lists l + one_of w l + one_of v l
  pub counts : (t : ℕ) → count_in_all t new.lists ≡ count_in_all t lists
  -- the lists of others stay
  pub others : (l : ℕ) → one_of w l ≡ 0 → one_of v l ≡ 0 → list_at new.lists l ≡ list_at lists l

-- the places of threads after an instruction of thread t
pub record PlaceStep (x : Shared) (t : ThreadNo) (o : Outcome) : Type 0 where
  pub places : (u : ℕ) → AgreesAt o.shared u
  pub carries : (u : ℕ) → not_carried o.shared u + stays_with o.answer t u ≡ not_carried x u + one_if t.0 u
