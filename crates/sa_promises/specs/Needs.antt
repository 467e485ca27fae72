-- What is needed of a user level's rules, beside the kernel's, for what follows from them.
use Rattle.std.specs.Prelude.{◌≡◌, Bool, true, false, Option, Some, None, ℕ, ◌+◌, ◌<◌, nat_lt, List, [], ◌∷◌, map}
use Rattle.sa_base.specs.declared.number.ProcNo.{ProcNo}
use Rattle.sa_base.specs.declared.number.SpaceNo.{SpaceNo}
use Rattle.sa_base.specs.declared.number.ThreadNo.{ThreadNo}
use Rattle.sa_base.specs.declared.record.Record.{Record}
use Rattle.sa_base.specs.declared.record.Record.TheVariants.{Run, Ready, Take, Free, Up, Told, Ins, Block, Cont, Back, Want, Line, GiveBack, Idle, Spin}
use Rattle.sa_spaces.specs.Workload.{WorkloadView}
use Rattle.sa_laws.specs.Event.{Event}
use Rattle.sa_laws.specs.Life.{Life, Lock, first_lock}
use Rattle.sa_laws.specs.Readings.{Readings, IsLocked, life_on, has_hand, running_of, demand_of, load_of, usable, taken_of}
use Rattle.sa_laws.specs.Locks.{HoldsLock, WithFirst}
use Rattle.sa_laws.specs.Upcalls.{RecordLaw, EachOf}
use Rattle.sa_laws.specs.Rules.{UserRules, IsLawful}
use Rattle.sa_base.specs.declared.number.ActNo.{ActNo}
use Rattle.sa_laws.specs.State.{instr_of}
use Rattle.sa_laws.specs.History.{is_inside}
use Rattle.sa_laws.specs.Turns.{Steps, IsPassage, IsInsOf, TurnsAreTaken}
use Rattle.sa_laws.specs.Demand.{DemandIsAnnounced}

-- Told records come behind ups: directly before each is an up or another told record of its event. The kernel's own
-- events are so; this asks it of steps.
abbrev pub is_telling : Option Record → Bool
is_telling (Some (Up s a)) = true
is_telling (Some (Told n)) = true
is_telling _ = false

abbrev pub ToldBehindUps : RecordLaw
ToldBehindUps r (Told n) rest = is_telling r.last ≡ true
ToldBehindUps r _ rest = Unit {0}

pub record TellsBehindUps (u : UserRules) : Type 0 where
  pub told : (w : WorkloadView) (r : Readings) (e : Event) → IsLawful u w r e → EachOf ToldBehindUps w r e

-- something holds of the life that runs on a processor, and there is one
abbrev pub OfLife : Readings → ProcNo → (Life → Type 0) → Type 0
OfLife r p P = (life : Life) × (life_on r p ≡ Some life) × P life

-- Lists are kept apart: a take is made by a running life, of a list of its space that nobody locks.
pub record TakesFree (r : Readings) (s : SpaceNo) (l : ProcNo) (life : Life) : Type 0 where
  pub space : s ≡ life.space
  pub unlocked : IsLocked r s l → ⊥

abbrev pub ListsApart : ProcNo → RecordLaw
ListsApart p r (Take s l t) rest = OfLife r p (TakesFree r s l)
ListsApart p r _ rest = Unit {0}

pub record KeepsListsApart (u : UserRules) : Type 0 where
  pub tells : TellsBehindUps u
  pub apart : (w : WorkloadView) (r : Readings) (e : Event) → IsLawful u w r e → EachOf (ListsApart e.proc) w r e

-- Holders are known: who holds a list lock by the records is who the lives' locks name. A take for a pop names no thread;
-- a run gives its thread to the first lock, which was taken for a pop and has got none; a free names the first lock's
-- thread; and a ready names a thread that holds no lock.
pub record TakesFor (r : Readings) (s : SpaceNo) (t : Option ThreadNo) (life : Life) : Type 0 where
  pub space : s ≡ life.space
  pub pop : has_hand r life ≡ false → t ≡ None

pub record RunsFirst (s : SpaceNo) (life : Life) (lock : Lock) : Type 0 where
  pub space : s ≡ life.space
  pub pop : lock.for_push ≡ false
  pub unused : lock.used ≡ false

pub record FreesFirst (s : SpaceNo) (t : Option ThreadNo) (life : Life) (lock : Lock) : Type 0 where
  pub space : s ≡ life.space
  pub thread : t ≡ lock.thread

abbrev pub HoldersKnown : ProcNo → RecordLaw
HoldersKnown p r (Take s l t) rest = OfLife r p (TakesFor r s t)
HoldersKnown p r (Run s t) rest = OfLife r p (λ life. WithFirst (first_lock life) (RunsFirst s life))
HoldersKnown p r (Free s l t) rest = OfLife r p (λ life. WithFirst (first_lock life) (FreesFirst s t life))
HoldersKnown p r (Ready s t) rest = HoldsLock r s t → ⊥
HoldersKnown p r _ rest = Unit {0}

pub record KnowsHolders (u : UserRules) : Type 0 where
  pub tells : TellsBehindUps u
  pub known : (w : WorkloadView) (r : Readings) (e : Event) → IsLawful u w r e → EachOf (HoldersKnown e.proc) w r e

-- A hint comes where the demand is not the load's: a lowering one announces one less, where more than the load was
-- announced; a raising one comes where less was announced than the load can use.
pub record Lowers (r : Readings) (life : Life) (n : ℕ) : Type 0 where
  pub above : load_of r life.space < demand_of r life.space
  pub number : n + 1 ≡ demand_of r life.space

abbrev pub Hints : Bool → WorkloadView → Readings → Life → ℕ → Type 0
Hints true w r life n = Lowers r life n
Hints false w r life n = demand_of r life.space < usable w r life.space

-- The forms of steps, whatever more a user level asks of each: an instruction with what belongs to it; a block with its
-- passage; all that was taken is given back; a hint of the life's space; else one record alone.
abbrev pub FormedBy : WorkloadView → Readings → ProcNo → ActNo → Life → Record → List Record → Type 0
FormedBy w r p a life (Ins s t i) others = IsInsOf (instr_of w r.state s t i) others
FormedBy w r p a life (Block s t b io) others = IsPassage others
FormedBy w r p a life (GiveBack b) others = GiveBack b ∷ others ≡ map GiveBack (taken_of r life.space)
FormedBy w r p a life (Want s n) others = (others ≡ []) × (s ≡ life.space) × Hints (nat_lt n (demand_of r s)) w r life n
FormedBy w r p a life (Run s t) others = others ≡ []
FormedBy w r p a life (Cont s t) others = others ≡ []
FormedBy w r p a life (Back s t) others = others ≡ []
FormedBy w r p a life (Ready s t) others = others ≡ []
FormedBy w r p a life (Take s l t) others = others ≡ []
FormedBy w r p a life (Free s l t) others = others ≡ []
FormedBy w r p a life (Line q) others = others ≡ []
FormedBy w r p a life Idle others = others ≡ []
FormedBy w r p a life (Spin l) others = others ≡ []
FormedBy w r p a life _ others = ⊥

abbrev pub FormedIn : WorkloadView → Readings → ProcNo → Option ActNo → Option Life → List Record → Type 0
FormedIn w r p (Some a) (Some life) (first ∷ others) = FormedBy w r p a life first others
FormedIn w r p _ _ records = ⊥

abbrev pub IsFormed : Steps
IsFormed w r p records = FormedIn w r p (running_of r p) (life_on r p) records

-- a take is of a list of its life's space
abbrev pub OwnTakes : ProcNo → RecordLaw
OwnTakes p r (Take s l t) rest = OfLife r p (λ life. s ≡ life.space)
OwnTakes p r _ rest = Unit {0}

-- What the readings of a legal run need: told records come behind ups, takes are of the life's space, and steps have
-- forms.
pub record HasForms (u : UserRules) : Type 0 where
  pub tells : TellsBehindUps u
  pub own : (w : WorkloadView) (r : Readings) (e : Event) → IsLawful u w r e → EachOf (OwnTakes e.proc) w r e
  pub formed : (w : WorkloadView) (r : Readings) (e : Event) → IsLawful u w r e → TurnsAreTaken IsFormed w r e

-- What covering loads needs too: demand is announced, and a life that is in by FastThreads' test is in.
pub record AnnouncesDemand (u : UserRules) : Type 0 where
  pub forms : HasForms u
  pub announced : (w : WorkloadView) (r : Readings) (e : Event) → IsLawful u w r e → DemandIsAnnounced w r e
  pub inside : (w : WorkloadView) (before : Readings) (e : Event) (after : Readings) (settled : Bool) (life : Life)
      → is_inside w before e after settled life ≡ true → u.inside w before e after settled life ≡ true
