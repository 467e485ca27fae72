-- A session of commands over something that makes turns: what each command does, and what it is answered.
use Rattle.std.specs.Prelude.{◌≡◌, ℕ, zero, suc, ◌+◌, ◌%◌, ◌==◌, ◌⊎◌, nat_le, Bool, true, false, if◌then◌else◌, List, [], ◌∷◌, ◌++◌, filter, find, length, MatchOption, Option, Some, None, slice_set}
use Rattle.std.specs.List.{list_any}
use Rattle.sa_base.specs.declared.number.ProcNo.{ProcNo}
use Rattle.sa_base.specs.declared.number.SpaceNo.{SpaceNo}
use Rattle.sa_base.specs.declared.number.ThreadNo.{ThreadNo}
use Rattle.sa_base.specs.declared.record.End.{End}
use Rattle.sa_debug.specs.declared.script.command.Point.{Point}
use Rattle.sa_debug.specs.declared.script.command.DebugCommand.{DebugCommand}
use Rattle.sa_debug.specs.declared.script.command.DebugCommand.TheVariants.{Break, Clear, Halt, Go, Step, Run, Show}
use Rattle.sa_debug.specs.declared.script.reply.View.{View}
use Rattle.sa_debug.specs.declared.script.reply.Reply.{Reply}
use Rattle.sa_debug.specs.declared.script.reply.Reply.TheVariants.{Accepted, Full, NotThere, Event, Ended, AtBreak, Halted, Shown}
use Rattle.sa_debug.specs.declared.points.TheConstants.{MAX_POINTS}
use Rattle.sa_debug.specs.Points.{same_point, is_other}
use Rattle.sa_debug.specs.Order.{none_halted, goes, EachGoes, in_order}

-- what is watched: which turns it can make, how it has ended, and what is read of it
pub record Watched (M : Type 0) : Type 1 where
  pub processors : M → ℕ
  pub IsTurn : M → ProcNo → M → Type 0
  pub HasEnded : M → Option End → Type 0
  -- the number of the last event, and its processor
  pub event : M → ℕ
  pub last : M → ProcNo
  -- the place at which a processor with a low line stands, if it is that of a thread's instruction
  pub stands : M → ProcNo → Option Point
  -- a thread, if it was made
  pub view : M → SpaceNo → ThreadNo → Option View

pub record Session (M : Type 0) : Type 0 where
  pub machine : M
  -- of each processor, whether it is halted
  pub halted : List Bool
  -- the breakpoints, in the order in which they were set
  pub points : List Point

-- what comes of a command: the session that goes on, and the reply
abbrev pub Gives : {M : Type 0} → Session M × Reply → Session M → Reply → Type 0
Gives x t reply = (t ≡ x.0) × (reply ≡ x.1)

-- at its beginning no processor is halted, and there is no breakpoint
abbrev pub fresh : {M : Type 0} → M → Session M
fresh m = record { machine = m; halted = none_halted; points = [] }

abbrev pub shown : Option View → Reply
shown None = NotThere
shown (Some view) = Shown view

module _ {M : Type 0} where
  abbrev pub has_point : Session M → Point → Bool
  has_point s point = list_any (same_point point) s.points

  -- a breakpoint is added, but where it is there, or as many others are
  abbrev pub with_point : Session M → Point → (there full : Bool) → Session M × Reply
  with_point s point true full = (s, Accepted)
  with_point s point false true = (s, Full)
  with_point s point false false = (record s { points = s.points ++ point ∷ [] }, Accepted)

  abbrev pub broken : Session M → Point → Session M × Reply
  broken s point = with_point s point (has_point s point) (nat_le MAX_POINTS (length s.points))

  -- a breakpoint that is there is taken away
  abbrev pub without_point : Session M → Point → (there : Bool) → Session M × Reply
  without_point s point true = (record s { points = filter (is_other point) s.points }, Accepted)
  without_point s point false = (s, NotThere)

  abbrev pub cleared : Session M → Point → Session M × Reply
  cleared s point = without_point s point (has_point s point)

  abbrev pub with_halt : Session M → ProcNo → Bool → Session M
  with_halt s p halted = record s { halted = slice_set s.halted p.0 halted }

  abbrev pub with_machine : Session M → M → Session M
  with_machine s m = record s { machine = m }

  -- no processor is halted, and there is no breakpoint
  abbrev pub IsFree : Session M → Type 0
  IsFree s = EachGoes s.halted × (s.points ≡ [])

module _ {M : Type 0} (o : Watched M) where
  -- the processor after that of the last event, and before event 1 processor 0
  abbrev pub first : M → ℕ
  first m = if o.event m == 0 then 0 else ((o.last m).0 + 1) % o.processors m

  -- the first processor in order that is not halted
  abbrev pub next : Session M → Option ProcNo
  next s = find (goes s.halted) (in_order (first s.machine) (o.processors s.machine))

  -- the breakpoint at which a processor stands
  abbrev pub point_if : Session M → Option Point → Option Point
  point_if s None = None
  point_if s (Some point) = if has_point s point then Some point else None

  abbrev pub point_at : Session M → ProcNo → Option Point
  point_at s p = point_if s (o.stands s.machine p)

  -- the run has ended so, and the session stays as it is
  pub record SaysEnded (s t : Session M) (reply : Reply) : Type 0 where
    pub end : End
    pub ended : o.HasEnded s.machine (Some end)
    pub answer : reply ≡ Ended end
    pub same : t ≡ s

  -- the run goes on, and a processor makes one turn
  pub record Turns (s : Session M) (p : ProcNo) (t : Session M) : Type 0 where
    pub not_ended : o.HasEnded s.machine None
    pub machine : M
    pub turn : o.IsTurn s.machine p machine
    pub is : t ≡ with_machine s machine

  -- a processor makes one turn, and the number of that event is told
  pub record Steps (s : Session M) (p : ProcNo) (t : Session M) (reply : Reply) : Type 0 where
    pub turns : Turns s p t
    pub answer : reply ≡ Event (o.event t.machine)

  -- AT MOST n TURNS. Where the run goes on and turns are left, every processor is halted; or the next one stands at a
  -- breakpoint, and is halted there; or it makes a turn.
  abbrev pub IsHeld : Session M → Option ProcNo → Session M → Reply → Type 0
  IsHeld s None t reply = (reply ≡ Halted) × (t ≡ s)
  IsHeld s (Some p) t reply = MatchOption (point_at s p) ⊥ (λ point. (reply ≡ AtBreak p point) × (t ≡ with_halt s p true))

  pub record Stops (s t : Session M) (reply : Reply) : Type 0 where
    pub not_ended : o.HasEnded s.machine None
    pub held : IsHeld s (next s) t reply

  -- the run goes on, and this processor has the next turn: it stands at no breakpoint
  pub record IsNext (s : Session M) (p : ProcNo) : Type 0 where
    pub not_ended : o.HasEnded s.machine None
    pub is : next s ≡ Some p
    pub free : point_at s p ≡ None

  pub record Passes (s : Session M) (p : ProcNo) (t : Session M) : Type 0 where
    pub has : IsNext s p
    pub turns : Turns s p t

  -- all turns were made
  pub record IsOver (s t : Session M) (reply : Reply) : Type 0 where
    pub not_ended : o.HasEnded s.machine None
    pub answer : reply ≡ Event (o.event s.machine)
    pub same : t ≡ s

  abbrev pub RunsTo : ℕ → Session M → Session M → Reply → Type 0
  RunsTo zero s t reply = SaysEnded s t reply ⊎ IsOver s t reply
  RunsTo (suc n) s t reply =
      SaysEnded s t reply ⊎ (Stops s t reply ⊎ ((p : ProcNo) × (between : Session M) × Passes s p between × RunsTo n between t reply))

  -- some turns were made, and then memory ran out
  abbrev pub RunsSoFar : ℕ → Session M → Session M → Type 0
  RunsSoFar zero s t = t ≡ s
  RunsSoFar (suc n) s t = (t ≡ s) ⊎ ((p : ProcNo) × (between : Session M) × Passes s p between × RunsSoFar n between t)

  -- A COMMAND, and its reply
  abbrev pub Does : DebugCommand → Session M → Session M → Reply → Type 0
  Does (Break point) s t reply = Gives (broken s point) t reply
  Does (Clear point) s t reply = Gives (cleared s point) t reply
  Does (Halt p) s t reply = Gives (with_halt s p true, Accepted) t reply
  Does (Go p) s t reply = Gives (with_halt s p false, Accepted) t reply
  Does (Step p) s t reply = SaysEnded s t reply ⊎ Steps s p t reply
  Does (Run n) s t reply = RunsTo n s t reply
  Does (Show space thread) s t reply = Gives (s, shown (o.view s.machine space thread)) t reply

  abbrev pub DoesSoFar : DebugCommand → Session M → Session M → Type 0
  DoesSoFar (Run n) s t = RunsSoFar n s t
  DoesSoFar command s t = t ≡ s

  -- commands one after another, each with its reply
  abbrev pub DoAll : List DebugCommand → Session M → Session M → List Reply → Type 0
  DoAll [] s t replies = (t ≡ s) × (replies ≡ [])
  DoAll (c ∷ cs) s t replies =
      (between : Session M) × (reply : Reply) × (rest : List Reply)
      × (replies ≡ reply ∷ rest) × Does c s between reply × DoAll cs between t rest
