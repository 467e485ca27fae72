-- The bytes of what a machine's parts name.
use Rattle.std.specs.Prelude.{ℕ, ◌-◌, List, ◌++◌, Option}
use Rattle.sa_base.specs.declared.number.ActNo.{ActNo}
use Rattle.sa_base.specs.declared.context.Stopped.{Stopped}
use Rattle.sa_base.specs.declared.record.Note.{Note}
use Rattle.sa_spaces.specs.Space.{SpaceView}
use Rattle.sa_devices.specs.declared.kind.IoKind.{IoKind}
use Rattle.sa_devices.specs.declared.under_way.Entry.{Entry}
use Rattle.sa_core_model.specs.Machine.{Machine}
use Rattle.sa_outlook.specs.Nameless.{plain_stopped, plain_held, nameless_note, nameless_kind}
use Rattle.sa_outlook.specs.Outlook.{held_by, look_in}
use Rattle.sa_package_keys.specs.Codes.{number, optional}
use Rattle.sa_keys.specs.Key.{stopped_key, note_key, kind_key}

module _ {U C D : Type 0} (plain : Option SpaceView → C → D) (ctx : D → List ℕ) (m : Machine U C) where
  -- of a context of space s, and of a stopped one
  abbrev pub context_bytes : ℕ → C → List ℕ
  context_bytes s c = ctx (look_in plain m.workload s c)

  abbrev pub stopped_bytes : ℕ → Stopped C → List ℕ
  stopped_bytes s held = stopped_key ctx (plain_stopped (look_in plain m.workload) s held)

  -- of what is held of an activation of space s
  abbrev pub held_bytes : ℕ → ActNo → List ℕ
  held_bytes s a = optional (stopped_key ctx) (plain_held (look_in plain m.workload) s (held_by m.kernel a.0))

  -- of a notice of space s
  abbrev pub note_bytes : ℕ → Note → List ℕ
  note_bytes s note = note_key ctx (nameless_note (look_in plain m.workload) s (held_by m.kernel) note)

  -- of what an I/O is for, and of one under way
  abbrev pub kind_bytes : IoKind → List ℕ
  kind_bytes kind = kind_key ctx (nameless_kind (look_in plain m.workload) (held_by m.kernel) kind)

  abbrev pub entry_bytes : Entry → List ℕ
  entry_bytes io = number (io.ends - m.event) ++ kind_bytes io.kind
