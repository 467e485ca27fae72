-- The rules of any user level: what the kernel and the machine ask of whoever decides which thread runs. List locks are the user
-- level's own affair: only whether a life has one is read of them.
use Rattle.std.specs.Prelude.{◌≡◌, ◌≢◌, ℕ, ◌+◌, ◌≤◌, ◌<◌, ◌⊎◌, nat_lt, Bool, true, false, not, ◌&&◌, ◌||◌, if◌then◌else◌, List, [], ◌∷◌, map, Option, Some, None, is_none}
use Rattle.std.specs.List.{list_any}
use Rattle.sa_base.specs.declared.number.ProcNo.{ProcNo}
use Rattle.sa_base.specs.declared.number.SpaceNo.{SpaceNo}
use Rattle.sa_base.specs.declared.number.ThreadNo.{ThreadNo}
use Rattle.sa_base.specs.declared.number.ActNo.{ActNo}
use Rattle.sa_base.specs.declared.record.Note.{Note}
use Rattle.sa_base.specs.declared.record.Note.TheVariants.{Preempted, Unblocked}
use Rattle.sa_base.specs.declared.record.Record.{Record}
use Rattle.sa_base.specs.declared.record.Record.TheVariants.{Ins, Run, Block, Cont, Back, Ready, Take, Free, Want, Line, GiveBack, Idle, Spin}
use Rattle.sa_spaces.specs.Workload.{WorkloadView}
use Rattle.sa_instr.specs.declared.answer.Local.{Local}
use Rattle.sa_instr.specs.declared.answer.Local.TheVariants.{Went}
use Rattle.sa_instr.specs.Local.{local_answer}
use Rattle.sa_laws.specs.Event.{Event}
use Rattle.sa_laws.specs.State.{space_at, thread_in, instr_of, is_carried, is_due}
use Rattle.sa_laws.specs.Life.{Life, has_lock}
use Rattle.sa_laws.specs.Readings.{Readings, owner_of, line_of, life_of, life_on, demand_of, untold_of, taken_of, carried_by, usable, many_taken}
use Rattle.sa_laws.specs.Record.{is_thread}
use Rattle.sa_laws.specs.History.{Test, event_begun}
use Rattle.sa_laws.specs.Upcalls.{OwnLines}
use Rattle.sa_laws.specs.Turns.{Steps, IsInsOf, IsPassage}
use Rattle.sa_laws.specs.Rules.{UserRules}

-- A thread is not heard of while a stop or an unblock that names it is untold: the kernel has its registers until an upcall hands
-- them over.
abbrev pub is_held_by : ThreadNo → Option Life → Bool
is_held_by t None = false
is_held_by t (Some life) = is_thread t life.thread

abbrev pub names_thread : Readings → ThreadNo → Note → Bool
names_thread r t (Preempted a) = is_held_by t (life_of r a)
names_thread r t (Unblocked a) = is_held_by t (life_of r a)
names_thread r t _ = false

abbrev pub is_heard : Readings → SpaceNo → ThreadNo → Bool
is_heard r s t = not (list_any (names_thread r t) (untold_of r s))

-- a thread that is due, or carried and heard of, can be made ready
abbrev pub is_handed : Readings → SpaceNo → ThreadNo → Bool
is_handed r s t =
    is_due (space_at r.state s) t || (is_carried (thread_in (space_at r.state s) t).place && is_heard r s t)

abbrev pub has_heard_hand : Readings → Life → Bool
has_heard_hand r life = list_any (is_handed r life.space) life.hand

-- an event in which a life says that it is idle begins with an idle record or a lowering hint
abbrev pub says_idle : Readings → List Record → Bool
says_idle before (Idle ∷ others) = true
says_idle before (Want s n ∷ others) = nat_lt n (demand_of before s)
says_idle before _ = false

-- an event begins with a local instruction
abbrev pub is_within_thread : Local → Bool
is_within_thread Went = true
is_within_thread _ = false

abbrev pub begins_local : WorkloadView → Readings → List Record → Bool
begins_local w r (Ins s t i ∷ others) = is_within_thread (local_answer (instr_of w r.state s t i))
begins_local w r _ = false

-- the life has a lock, or a cont without its back
abbrev pub is_tied : Life → Bool
is_tied life = has_lock life || life.cont

-- the demand is below what the load can use; or the life carries no thread while 8 or more lives of its space are taken
abbrev pub is_hint_due : WorkloadView → Readings → Life → Bool
is_hint_due w r life =
    nat_lt (demand_of r life.space) (usable w r life.space) || (is_none (carried_by r life) && many_taken r life.space)

-- The test of any user level. A life that an event settled, or whose up it has, is in if a thread of its hand is heard of, if it is
-- tied, or if a hint is due. A local instruction leaves it as it was; a life that says that it is idle has nothing left but its
-- hand; after another event that does not settle it no hint counts.
abbrev pub is_inside_any : Test
is_inside_any w before e after true life = has_heard_hand after life || is_tied life || is_hint_due w after life
is_inside_any w before e after false life =
    if begins_local w after e.records then life.inside
    else (has_heard_hand after life || (not (says_idle before e.records) && is_tied life))

-- a hint raises the demand to at most the processors, or lowers it by one
abbrev pub CanHintAny : WorkloadView → Readings → SpaceNo → ℕ → Type 0
CanHintAny w r s n = ((demand_of r s < n) × (n ≤ w.processors)) ⊎ (n + 1 ≡ demand_of r s)

-- an operation on a list: of one that a processor has, by the thread of the life
pub record IsOnList (w : WorkloadView) (r : Readings) (life : Life) (s : SpaceNo) (l : ProcNo) (t : Option ThreadNo) : Type 0 where
  pub space : s ≡ life.space
  pub list : l.0 < w.processors
  pub thread : t ≡ carried_by r life

-- another processor of the space can be interrupted, if its line is low
pub record CanInterrupt (r : Readings) (p : ProcNo) (life : Life) (q : ProcNo) : Type 0 where
  pub apart : q ≢ p
  pub owned : owner_of r q ≡ Some life.space
  pub low : line_of r q ≡ None

-- a step of one record
abbrev pub IsAloneIn : WorkloadView → Readings → ProcNo → Life → Record → Type 0
IsAloneIn w r p life (Run s t) = s ≡ life.space
IsAloneIn w r p life (Ready s t) = s ≡ life.space
IsAloneIn w r p life (Cont s t) = s ≡ life.space
IsAloneIn w r p life (Back s t) = s ≡ life.space
IsAloneIn w r p life (Take s l t) = IsOnList w r life s l t
IsAloneIn w r p life (Free s l t) = IsOnList w r life s l t
IsAloneIn w r p life (Spin l) = l.0 < w.processors
IsAloneIn w r p life (Want s n) = (s ≡ life.space) × CanHintAny w r s n
IsAloneIn w r p life (Line q) = CanInterrupt r p life q
IsAloneIn w r p life Idle = Unit {0}
IsAloneIn w r p life _ = ⊥

-- the records of a step, given its first one and the others: an instruction and what belongs to it, a block and its passage, all
-- that was taken, or one record alone
abbrev pub AnyStepBy : WorkloadView → Readings → ProcNo → Life → Record → List Record → Type 0
AnyStepBy w r p life (Ins s t i) others = IsInsOf (instr_of w r.state s t i) others
AnyStepBy w r p life (Block s t a io) others = IsPassage others
AnyStepBy w r p life (GiveBack a) others = GiveBack a ∷ others ≡ map GiveBack (taken_of r life.space)
AnyStepBy w r p life first others = (others ≡ []) × IsAloneIn w r p life first

abbrev pub AnyStepIn : WorkloadView → Readings → ProcNo → Option Life → List Record → Type 0
AnyStepIn w r p (Some life) (first ∷ others) = AnyStepBy w r p life first others
AnyStepIn w r p _ records = ⊥

abbrev pub IsAnyStep : Steps
IsAnyStep w r p records = AnyStepIn w r p (life_on r p) records

-- a user level may ask for the line of any other processor of its space that is low
abbrev pub AnyLines : OwnLines
AnyLines w r p q = line_of r q ≡ None

-- Threads are heard of: a ready or a cont names a thread that is.
abbrev pub NamesHeard : Readings → List Record → Type 0
NamesHeard r (Ready s t ∷ others) = is_heard r s t ≡ true
NamesHeard r (Cont s (Some t) ∷ others) = is_heard r s t ≡ true
NamesHeard r _ = Unit {0}

pub record ThreadsAreHeard (w : WorkloadView) (r : Readings) (e : Event) : Type 0 where
  pub heard : NamesHeard (event_begun w e r) e.records

-- The rules of any user level: nothing is asked of its demand, nor of the order of its ready lists.
abbrev pub any : UserRules
any = record {
  inside = is_inside_any;
  Steps = IsAnyStep;
  Lines = AnyLines;
  Demand = λ w r e. Unit {0};
  Locks = ThreadsAreHeard;
  Order = λ w r e. Unit {0};
}
