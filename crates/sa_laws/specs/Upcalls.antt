-- The laws of upcalls, lines, wants and aims. Each says what must hold at an event, given what was read before it.
use Rattle.std.specs.Prelude.{◌≡◌, ◌≢◌, ℕ, ◌≤◌, ◌⊎◌, Bool, true, false, if◌then◌else◌, List, [], ◌∷◌, map, Contains, Option, Some, None, is_some}
use Rattle.sa_base.specs.declared.number.ProcNo.{ProcNo}
use Rattle.sa_base.specs.declared.number.SpaceNo.{SpaceNo}
use Rattle.sa_base.specs.declared.number.ActNo.{ActNo}
use Rattle.sa_base.specs.declared.number.IoNo.{IoNo}
use Rattle.sa_base.specs.declared.limits.TheConstants.{UPCALL_PAGE}
use Rattle.sa_base.specs.declared.record.Note.{Note}
use Rattle.sa_base.specs.declared.record.Note.TheVariants.{Add}
use Rattle.sa_base.specs.declared.record.Record.{Record}
use Rattle.sa_base.specs.declared.record.Record.TheVariants.{Stop, Block, Up, Told, Move, Aim, Line, Fetch, GiveBack}
use Rattle.sa_spaces.specs.Workload.{WorkloadView}
use Rattle.sa_share.specs.Share.{share_at}
use Rattle.sa_assign.specs.Aims.{aimed, is_aim}
use Rattle.sa_laws.specs.Event.{Event}
use Rattle.sa_laws.specs.Life.{Life}
use Rattle.sa_laws.specs.Readings.{Readings, owner_of, aim_of, line_of, running_of, life_of, space_of_life, untold_of, taken_of, is_resident, is_fetching}
use Rattle.sa_laws.specs.Record.{after_record}
use Rattle.sa_laws.specs.History.{Test, event_begun, behind, after_event}
use Rattle.sa_laws.specs.Closing.{wants_due, aims_due, shares_at, lines_due, must_want}
use Rattle.sa_laws.specs.Shape.{others_of, wants_in, lines_in, aims_in, before_aims, before_wants, front_part, last_lines, told_run, leave_run, BeginsWithUp}

-- A law of each record of an event, given the moment before it and the records after it.
abbrev pub RecordLaw : Type 1
RecordLaw = Readings → Record → List Record → Type 0

abbrev pub EachRecord : RecordLaw → WorkloadView → ℕ → ProcNo → Readings → List Record → Type 0
EachRecord L w e p r [] = Unit {0}
EachRecord L w e p r (x ∷ xs) = L r x xs × EachRecord L w e p (after_record w e p r x) xs

abbrev pub EachOf : RecordLaw → WorkloadView → Readings → Event → Type 0
EachOf L w r e = EachRecord L w e.number e.proc (event_begun w e r) e.records

-- Tells at most once: each told record but `told add` tells what was untold to the space of the up before it; what is
-- told is untold no longer.
abbrev pub IsUntoldTo : Readings → Option SpaceNo → Note → Type 0
IsUntoldTo r s (Add p) = Unit {0}
IsUntoldTo r None n = ⊥
IsUntoldTo r (Some s) n = Contains (untold_of r s) n

abbrev pub TellsOnce : RecordLaw
TellsOnce r (Told n) rest = IsUntoldTo r (space_of_life r r.upped) n
TellsOnce r _ rest = Unit {0}

pub record IsToldOnce (w : WorkloadView) (r : Readings) (e : Event) : Type 0 where
  pub told : EachOf TellsOnce w r e

-- Tells in time: after the event each space with something untold owns no processor, or its upcall page is being
-- fetched, or it owns a processor whose line is raised.
abbrev pub OwnsNone : Readings → SpaceNo → Type 0
OwnsNone r s = (p : ProcNo) → owner_of r p ≢ Some s

abbrev pub OwnsRaised : Readings → SpaceNo → Type 0
OwnsRaised r s = (p : ProcNo) × (owner_of r p ≡ Some s) × (is_some (line_of r p) ≡ true)

pub record IsPrompt (r : Readings) : Type 0 where
  pub each : (s : SpaceNo) → untold_of r s ≢ []
      → OwnsNone r s ⊎ ((is_fetching r s ≡ true) ⊎ OwnsRaised r s)

pub record IsToldInTime (test : Test) (w : WorkloadView) (r : Readings) (e : Event) : Type 0 where
  pub prompt : IsPrompt (after_event test w r e)

-- Runs where owned: after the event each processor is owned by the space of its running life; an up comes where no life
-- runs, and a stop or block names the life that runs there.
pub record RunsOn (r : Readings) (p : ProcNo) (s : SpaceNo) (a : ActNo) : Type 0 where
  pub act : running_of r p ≡ Some a
  pub space : space_of_life r (Some a) ≡ Some s

abbrev pub NamesTheLife : ProcNo → RecordLaw
NamesTheLife p r (Stop s t a) rest = RunsOn r p s a
NamesTheLife p r (Block s t a io) rest = RunsOn r p s a
NamesTheLife p r (Up s a) rest = running_of r p ≡ None
NamesTheLife p r _ rest = Unit {0}

pub record RunsWhereOwned (test : Test) (w : WorkloadView) (r : Readings) (e : Event) : Type 0 where
  pub named : EachOf (NamesTheLife e.proc) w r e
  pub owned : (after_event test w r e).state.owners ≡ map (space_of_life (after_event test w r e)) (after_event test w r e).running

-- An upcall tells all: an up's number is in use by nobody; after it come `told add`, exactly where a move to its
-- space is in the same event, and all that its space was not told, in order, and that is something. A giveback
-- names a life that was taken and not given back.
abbrev pub is_moved_to : Option SpaceNo → SpaceNo → Bool
is_moved_to moved s = is_aim s.0 moved

abbrev pub notes_due : Readings → ProcNo → SpaceNo → List Note
notes_due r p s = if is_moved_to r.moved s then Add p ∷ untold_of r s else untold_of r s

pub record TellsAll (p : ProcNo) (r : Readings) (s : SpaceNo) (a : ActNo) (rest : List Record) : Type 0 where
  pub fresh : life_of r a ≡ None
  pub notes : told_run rest ≡ notes_due r p s
  pub some : told_run rest ≢ []

pub record IsTaken (r : Readings) (a : ActNo) : Type 0 where
  pub life : Life
  pub is : life_of r a ≡ Some life
  pub taken : Contains (taken_of r life.space) a

abbrev pub TellsAllThen : ProcNo → RecordLaw
TellsAllThen p r (Up s a) rest = TellsAll p r s a rest
TellsAllThen p r (GiveBack a) rest = IsTaken r a
TellsAllThen p r _ rest = Unit {0}

pub record AllIsTold (w : WorkloadView) (r : Readings) (e : Event) : Type 0 where
  pub told : EachOf (TellsAllThen e.proc) w r e

-- what comes after where a processor goes on in a space: an up of that space where its upcall page is resident; else
-- the leave, which is a move from the owner to none, an aim at none, and a fetch of the page exactly where it was not
-- being fetched
abbrev pub fetch_records : SpaceNo → Bool → List Record
fetch_records s true = []
fetch_records s false = Fetch s ∷ []

abbrev pub leave_records : ProcNo → Option SpaceNo → SpaceNo → Bool → List Record
leave_records p owner s fetching = Move owner None ∷ Aim p None ∷ fetch_records s fetching

abbrev pub Leaves : ProcNo → Readings → Option SpaceNo → SpaceNo → List Record → Type 0
Leaves p r owner s rest = leave_run rest ≡ leave_records p owner s (is_fetching r s)

-- A block gives an upcall: a block names the number of its I/O, and directly after it comes an up of its space, or
-- the leave.
abbrev pub UpOrLeave : Bool → ProcNo → Readings → SpaceNo → List Record → Type 0
UpOrLeave true p r s rest = BeginsWithUp s rest
UpOrLeave false p r s rest = Leaves p r (Some s) s rest

pub record GivesUpcall (p : ProcNo) (r : Readings) (s : SpaceNo) (io : IoNo) (rest : List Record) : Type 0 where
  pub number : io.0 ≡ r.io_count
  pub follows : UpOrLeave (is_resident r s UPCALL_PAGE) p r s rest

abbrev pub GivesUpcallThen : ProcNo → RecordLaw
GivesUpcallThen p r (Block s t a io) rest = GivesUpcall p r s io rest
GivesUpcallThen p r _ rest = Unit {0}

pub record UpcallIsGiven (w : WorkloadView) (r : Readings) (e : Event) : Type 0 where
  pub blocks : EachOf (GivesUpcallThen e.proc) w r e

-- An interrupt is the next event: an event is an interrupt exactly where its processor's line was raised. It begins
-- with the stop of the owner's life, if there is an owner. Then, where the upcall page of the aim is resident, a move
-- to the aim exactly where it is not the owner, and an up of it; else the leave.
abbrev pub BeginsAsInterrupt : List Record → Type 0
BeginsAsInterrupt (Stop s t a ∷ rest) = Unit {0}
BeginsAsInterrupt (Move old new ∷ rest) = Unit {0}
BeginsAsInterrupt (Up s a ∷ rest) = Unit {0}
BeginsAsInterrupt _ = ⊥

abbrev pub GoesTo : Bool → Bool → ProcNo → Readings → Option SpaceNo → SpaceNo → List Record → Type 0
GoesTo true true p r owner b rest = BeginsWithUp b rest
GoesTo true false p r owner b (Move old new ∷ rest) = (old ≡ owner) × (new ≡ Some b) × BeginsWithUp b rest
GoesTo true false p r owner b _ = ⊥
GoesTo false owned p r owner b rest = Leaves p r owner b rest

abbrev pub GoesToAim : ProcNo → Readings → Option SpaceNo → Option SpaceNo → List Record → Type 0
GoesToAim p r owner None rest = ⊥
GoesToAim p r owner (Some b) rest = GoesTo (is_resident r b UPCALL_PAGE) (is_aim b.0 owner) p r owner b rest

abbrev pub StopsAndGoes : ProcNo → Readings → Option SpaceNo → Option SpaceNo → List Record → Type 0
StopsAndGoes p r None aim records = GoesToAim p r None aim records
StopsAndGoes p r (Some o) aim (Stop s t a ∷ rest) = (s ≡ o) × GoesToAim p r (Some o) aim rest
StopsAndGoes p r (Some o) aim _ = ⊥

pub record InterruptIsNext (w : WorkloadView) (r : Readings) (e : Event) : Type 0 where
  pub interrupt : is_some (line_of r e.proc) ≡ true
      → StopsAndGoes e.proc (event_begun w e r) (owner_of r e.proc) (aim_of r e.proc) e.records
  pub calm : BeginsAsInterrupt e.records → is_some (line_of r e.proc) ≡ true

-- A line has its cause: no line is raised that is raised already. Directly after each aim at a space of a processor
-- with a low line comes its line. All other lines, but for one that a user level asked for, come after all aims, and
-- they are those that are due there.
abbrev pub BeginsWithLine : ProcNo → List Record → Type 0
BeginsWithLine p (Line q ∷ rest) = q ≡ p
BeginsWithLine p _ = ⊥

pub record IsHeard (r : Readings) (p : ProcNo) (rest : List Record) : Type 0 where
  pub line : line_of r p ≡ None → BeginsWithLine p rest

abbrev pub RaisesLine : RecordLaw
RaisesLine r (Aim p (Some s)) rest = IsHeard r p rest
RaisesLine r (Line p) rest = line_of r p ≡ None
RaisesLine r _ rest = Unit {0}

-- the line of another processor of its space, which a user level asked for: it is the event's first record. Which of
-- these lines come is said by the user level's own law.
abbrev pub OwnLines : Type 1
OwnLines = WorkloadView → Readings → ProcNo → ProcNo → Type 0

pub record IsOwnLine (Asked : OwnLines) (w : WorkloadView) (r : Readings) (p q : ProcNo) : Type 0 where
  pub apart : q ≢ p
  pub space : SpaceNo
  pub owned : owner_of r p ≡ Some space
  pub other : owner_of r q ≡ Some space
  pub asked : Asked w r p q

abbrev pub FirstLineIsAsked : OwnLines → WorkloadView → Readings → ProcNo → List Record → Type 0
FirstLineIsAsked Asked w r p (Line q ∷ records) = IsOwnLine Asked w r p q
FirstLineIsAsked Asked w r p _ = Unit {0}

pub record LineHasCause (Asked : OwnLines) (w : WorkloadView) (r : Readings) (e : Event) : Type 0 where
  pub heard : EachOf RaisesLine w r e
  pub first : FirstLineIsAsked Asked w r e.proc e.records
  pub order : aims_in (last_lines e.records) ≡ []
  pub due : lines_in (last_lines e.records) ≡ lines_due w (behind w e r (front_part e.records))

-- A want has its cause: but for the opening, and for the first record of an event, the wants are those that are due;
-- and after the event no space that wants no processor must be told anything.
pub record WantHasCause (test : Test) (w : WorkloadView) (r : Readings) (e : Event) : Type 0 where
  pub due : 1 ≤ e.number → wants_in (others_of e.records) ≡ wants_due w (behind w e r (before_wants e.records))
  pub none : (s : SpaceNo) → must_want (after_event test w r e) s ≡ false

-- Aims cover shares: after the event each space has at least its share of aims. Aims at spaces come only where a space
-- misses some, as often as it does, in the order of the spaces' numbers, each of the processor that is first to be
-- chosen.
pub record SharesAreCovered (test : Test) (w : WorkloadView) (r : Readings) (e : Event) : Type 0 where
  pub covered : (s : ℕ) → share_at (shares_at w e.number (after_event test w r e)) s ≤ aimed s (after_event test w r e).aims
  pub due : aims_in e.records ≡ aims_due w e.number (behind w e r (before_aims e.records))
