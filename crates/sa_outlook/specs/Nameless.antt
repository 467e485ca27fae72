-- What a kernel names by numbers, without them: where an activation is named, the context stands that is held of it.
use Rattle.std.specs.Prelude.{ℕ, ◌-◌, Bool, List, map, Option, Some, None}
use Rattle.sa_base.specs.declared.number.ProcNo.{ProcNo}
use Rattle.sa_base.specs.declared.number.SpaceNo.{SpaceNo}
use Rattle.sa_base.specs.declared.number.ThreadNo.{ThreadNo}
use Rattle.sa_base.specs.declared.context.Stopped.{Stopped}
use Rattle.sa_base.specs.declared.record.Note.{Note}
use Rattle.sa_base.specs.declared.record.Note.TheVariants.{Add, Preempted, Blocked, Unblocked}
use Rattle.sa_devices.specs.declared.kind.IoKind.{IoKind}
use Rattle.sa_devices.specs.declared.kind.IoKind.TheVariants.{Plain, Page, Upcall}
use Rattle.sa_devices.specs.Ios.{Io}

-- what matters of a stopped context
pub record PlainStopped (D : Type 0) : Type 0 where
  pub ctx : D
  pub thread : Option ThreadNo
  pub idle : Bool

-- a notice
pub data NamelessNote (D : Type 0) : Type 0 where
  added : ProcNo → NamelessNote D
  preempted : Option (PlainStopped D) → NamelessNote D
  blocked : NamelessNote D
  unblocked : Option (PlainStopped D) → NamelessNote D

-- what an I/O is for
pub data NamelessKind (D : Type 0) : Type 0 where
  plain : SpaceNo → Option (PlainStopped D) → NamelessKind D
  page : SpaceNo → Option (PlainStopped D) → ℕ → NamelessKind D
  upcall : SpaceNo → NamelessKind D

-- an I/O under way: how many events are left until its end, 0 where that is past, and what it is for
pub record NamelessIo (D : Type 0) : Type 0 where
  pub left : ℕ
  pub kind : NamelessKind D

-- of each number of an activation, the context that is held of it
abbrev pub Held : Type 0 → Type 0
Held C = ℕ → Option (Stopped C)

-- `look s c` is what matters of a context c of space s
module _ {C D : Type 0} (look : ℕ → C → D) where
  abbrev pub plain_stopped : ℕ → Stopped C → PlainStopped D
  plain_stopped s held = record { ctx = look s held.ctx; thread = held.thread; idle = held.idle }

  abbrev pub plain_held : ℕ → Option (Stopped C) → Option (PlainStopped D)
  plain_held s None = None
  plain_held s (Some held) = Some (plain_stopped s held)

  abbrev pub nameless_note : ℕ → Held C → Note → NamelessNote D
  nameless_note s held (Add p) = NamelessNote.added p
  nameless_note s held (Preempted a) = NamelessNote.preempted (plain_held s (held a.0))
  nameless_note s held (Blocked a) = NamelessNote.blocked
  nameless_note s held (Unblocked a) = NamelessNote.unblocked (plain_held s (held a.0))

  abbrev pub nameless_notes : ℕ → Held C → List Note → List (NamelessNote D)
  nameless_notes s held notes = map (nameless_note s held) notes

  abbrev pub nameless_kind : Held C → IoKind → NamelessKind D
  nameless_kind held (Plain s a) = NamelessKind.plain s (plain_held s.0 (held a.0))
  nameless_kind held (Page s a k) = NamelessKind.page s (plain_held s.0 (held a.0)) k
  nameless_kind held (Upcall s) = NamelessKind.upcall s

  -- an I/O, at an event
  abbrev pub nameless_io : ℕ → Held C → Io → NamelessIo D
  nameless_io e held io = record { left = io.ends - e; kind = nameless_kind held io.kind }
