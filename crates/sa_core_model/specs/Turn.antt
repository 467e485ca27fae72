-- One event of a processor.
use Rattle.std.specs.Prelude.{ℕ, zero, suc, ◌+◌, ◌%◌, ◌==◌, Bool, true, false, ◌&&◌, not, Option, Some, None, List, [], ◌∷◌}
use Rattle.std.specs.Option.{option_map}
use Rattle.sa_base.specs.declared.number.ProcNo.{ProcNo}
use Rattle.sa_base.specs.declared.number.SpaceNo.{SpaceNo}
use Rattle.sa_base.specs.declared.number.ActNo.{ActNo}
use Rattle.sa_base.specs.declared.number.IoNo.{IoNo}
use Rattle.sa_base.specs.declared.context.Stopped.{Stopped}
use Rattle.sa_base.specs.declared.record.Note.{Note}
use Rattle.sa_base.specs.declared.record.Record.TheVariants.{Tick}
use Rattle.sa_abstract.specs.Calls.{Calls}
use Rattle.sa_abstract.specs.declared.answer.Step.{Step}
use Rattle.sa_abstract.specs.declared.answer.Step.TheVariants.{Did, Block, More, Idle, GiveBack, InterruptOwn}
use Rattle.sa_devices.specs.Ios.{due_of, io_no}
use Rattle.sa_kernel_model.specs.declared.entry.Entry.{Entry}
use Rattle.sa_kernel_model.specs.declared.entry.Entry.TheVariants.{Interrupt, Block as BlockEntry, Complete, More as MoreEntry, Idle as IdleEntry, GiveBack as GiveBackEntry, InterruptOwn as InterruptOwnEntry}
use Rattle.sa_kernel_model.specs.State.{owner_of, line_of, says}
use Rattle.sa_kernel_model.specs.Closing.{closed}
use Rattle.sa_kernel_model.specs.Entries.{entered, fetched, held_for, evicted_at}
use Rattle.sa_kernel_model.specs.Entering.{upcalls}
use Rattle.sa_core_model.specs.Machine.{Machine, scene_of, with_scene, without_context, context_begun, answered, told, stopped_in, stepped, gone}

module _ {U C : Type 0} where
  -- an event begins: the pages that the workload evicts at it are absent
  abbrev pub next_event : Machine U C → Machine U C
  next_event m = record m { event = m.event + 1; kernel = evicted_at (m.event + 1) m.kernel }

  -- that many events more
  abbrev pub more_events : ℕ → Machine U C → Machine U C
  more_events zero m = m
  more_events (suc n) m = more_events n (next_event m)

  -- what a processor does that no space owns
  abbrev pub ticked : ProcNo → Machine U C → Machine U C
  ticked p m = with_scene (says m.event p Tick (scene_of m)) m

  -- where a slice ends with an event that no entry has closed, it is closed
  abbrev pub ends_slice : Machine U C → Bool
  ends_slice m = not (m.workload.slice == 0) && (m.event % m.workload.slice == 0)

  abbrev pub sliced_if : ProcNo → Bool → Machine U C → Machine U C
  sliced_if p false m = m
  sliced_if p true m = with_scene (closed m.event p (scene_of m)) m

  abbrev pub sliced : ProcNo → Machine U C → Machine U C
  sliced p m = sliced_if p (ends_slice m) m

  -- an entry of the kernel, in a fresh activation of this number if it upcalls
  abbrev pub kernel_entered : ProcNo → ActNo → Entry C → Machine U C → Machine U C
  kernel_entered p fresh entry m = with_scene (entered m.event p fresh entry (scene_of m)) m

module _ {U C : Type 0} (f : Calls U C) where
  -- the context of an upcall is told its notices in order, and each hands its context over
  abbrev pub told_one : ProcNo → SpaceNo → Note → List Note → Machine U C → Machine U C
  told_one p s note notes m =
      let k = record m.kernel { telling = notes } in
      told f p s note (held_for k note) (record m { kernel = fetched note k })

  abbrev pub told_all : ProcNo → SpaceNo → List Note → Machine U C → Machine U C
  told_all p s [] m = m
  told_all p s (note ∷ notes) m = told_all p s notes (told_one p s note notes m)

  -- after an upcall: its context begins, is told, and goes on
  abbrev pub welcomed_in : ProcNo → Option SpaceNo → Machine U C → Machine U C
  welcomed_in p None m = m
  welcomed_in p (Some s) m = answered f p s (told_all p s m.kernel.telling (context_begun f p s m))

  abbrev pub welcomed_if : ProcNo → Bool → Machine U C → Machine U C
  welcomed_if p false m = m
  welcomed_if p true m = welcomed_in p (owner_of m.kernel p) m

  -- an entry that may upcall
  abbrev pub entered_on : ProcNo → ActNo → Entry C → Machine U C → Machine U C
  entered_on p fresh entry m = welcomed_if p (upcalls m.kernel p entry) (kernel_entered p fresh entry m)

  -- an entry that the running context asks for, and after which it goes on
  abbrev pub answered_in : ProcNo → Option SpaceNo → Machine U C → Machine U C
  answered_in p None m = m
  answered_in p (Some s) m = answered f p s m

  abbrev pub hinted : ProcNo → ActNo → Entry C → Machine U C → Machine U C
  hinted p fresh entry m =
      let after = kernel_entered p fresh entry m in
      answered_in p (owner_of after.kernel p) after

  -- the running context blocks
  abbrev pub blocked_by : ProcNo → ActNo → ℕ → Option ℕ → Option (Stopped C) → Machine U C → Machine U C
  blocked_by p fresh length page None m = m
  blocked_by p fresh length page (Some held) m = entered_on p fresh (BlockEntry held length page) m

  abbrev pub blocked : ProcNo → ActNo → ℕ → Option ℕ → Machine U C → Machine U C
  blocked p fresh length page m =
      blocked_by p fresh length page (stopped_in f m p (owner_of m.kernel p)) (without_context p m)

  -- the line of the processor is raised: the context that runs there is stopped, wherever it is
  abbrev pub interrupted : ProcNo → ActNo → Machine U C → Machine U C
  interrupted p fresh m =
      entered_on p fresh (Interrupt (stopped_in f m p (owner_of m.kernel p))) (without_context p m)

  -- what a step asked for
  abbrev pub asked : ProcNo → ActNo → Step → Machine U C → Machine U C
  asked p fresh Did m = sliced p m
  asked p fresh (Block length page) m = blocked p fresh length page m
  asked p fresh (More n) m = hinted p fresh (MoreEntry n) m
  asked p fresh Idle m = hinted p fresh IdleEntry m
  asked p fresh GiveBack m = hinted p fresh GiveBackEntry m
  asked p fresh (InterruptOwn q) m = hinted p fresh (InterruptOwnEntry q) m

  -- a turn: first a raised line, then an I/O that is due, then a step of the running context, or a tick where none runs
  abbrev pub turned_owned : ProcNo → ActNo → Option SpaceNo → Machine U C → Machine U C
  turned_owned p fresh None m = sliced p (ticked p m)
  turned_owned p fresh (Some s) m = asked p fresh (stepped f p s m).1 (stepped f p s m).0

  abbrev pub turned_due : ProcNo → ActNo → Option IoNo → Machine U C → Machine U C
  turned_due p fresh None m = turned_owned p fresh (owner_of m.kernel p) m
  turned_due p fresh (Some io) m = entered_on p fresh (Complete io) m

  abbrev pub turned_raised : ProcNo → ActNo → Option ℕ → Machine U C → Machine U C
  turned_raised p fresh None m = turned_due p fresh (option_map io_no (due_of m.event m.kernel.under_way)) m
  turned_raised p fresh (Some raised) m = interrupted p fresh m

  abbrev pub turned_now : ProcNo → ActNo → Machine U C → Machine U C
  turned_now p fresh m = turned_raised p fresh (line_of m.kernel p) m

  -- one event of a processor, where the fresh activation has this number if an entry makes one
  abbrev pub turned : ProcNo → ActNo → Machine U C → Machine U C
  turned p fresh m = turned_now p fresh (next_event m)

  -- n + 1 local instructions of the running context, in as many events; I/Os that are due wait
  abbrev pub gone_in : ProcNo → ℕ → Option SpaceNo → Machine U C → Machine U C
  gone_in p n None m = m
  gone_in p n (Some s) m = gone f p s n m

  abbrev pub committed : ProcNo → ℕ → Machine U C → Machine U C
  committed p zero m = m
  committed p (suc n) m =
      let first = next_event m in
      sliced p (more_events n (gone_in p (suc n) (owner_of first.kernel p) first))
