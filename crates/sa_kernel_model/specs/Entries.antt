-- The entries of the kernel, one by one.
use Rattle.std.specs.Prelude.{ℕ, ◌+◌, ◌-◌, ◌≤◌, Bool, true, false, List, [], ◌∷◌, ◌++◌, map, Option, Some, None, slice_get, slice_set}
use Rattle.std.specs.Option.{option_map}
use Rattle.sa_instr.specs.declared.limits.TheConstants.{LAST_PAGE}
use Rattle.sa_base.specs.declared.number.ProcNo.{ProcNo}
use Rattle.sa_base.specs.declared.number.SpaceNo.{SpaceNo}
use Rattle.sa_base.specs.declared.number.ThreadNo.{ThreadNo}
use Rattle.sa_base.specs.declared.number.ActNo.{ActNo}
use Rattle.sa_base.specs.declared.number.IoNo.{IoNo}
use Rattle.sa_base.specs.declared.context.Stopped.{Stopped}
use Rattle.sa_base.specs.declared.record.Note.{Note}
use Rattle.sa_base.specs.declared.record.Note.TheVariants.{Add, Preempted, Blocked, Unblocked}
use Rattle.sa_base.specs.declared.record.Record.TheVariants.{Stop, Block as BlockRecord, Unblock, Want, Fetched, GiveBack as GiveBackRecord}
use Rattle.sa_base.specs.Items.{items_at}
use Rattle.sa_lemmas.specs.Function.{put}
use Rattle.sa_acts.specs.declared.acts.Act.{Act}
use Rattle.sa_acts.specs.Table.{held_of, taken_from, space_of}
use Rattle.sa_devices.specs.Ios.{Io, io_at, without}
use Rattle.sa_devices.specs.Pages.{completed, evicted}
use Rattle.sa_devices.specs.declared.kind.IoKind.{IoKind}
use Rattle.sa_devices.specs.declared.kind.IoKind.TheVariants.{Plain, Page, Upcall}
use Rattle.sa_kernel_model.specs.declared.entry.Entry.{Entry}
use Rattle.sa_kernel_model.specs.declared.entry.Entry.TheVariants.{Interrupt, Block, Complete, More, Idle, GiveBack, InterruptOwn}
use Rattle.sa_kernel_model.specs.State.{KernelState, Scene, owner_of, aim_of, life_of, demand_of, taken_of, can_upcall, says}
use Rattle.sa_kernel_model.specs.Parts.{with_line, with_mark, with_demand, noted, with_io, put_aside, upcall, leave, go_to, raised}
use Rattle.sa_kernel_model.specs.Closing.{closed}

-- a page for which a context may block
abbrev pub IsOwnPage : ℕ → Type 0
IsOwnPage k = (1 ≤ k) × (k ≤ LAST_PAGE)

-- a block: the I/O begins, the context is held, and the space is told in a fresh activation, if its page is there
abbrev pub io_for : SpaceNo → ActNo → Option ℕ → IoKind
io_for s a None = Plain s a
io_for s a (Some k) = Page s a k

-- what an I/O under way is for
abbrev pub kind_at : ℕ → List Io → Option IoKind
kind_at n ios = option_map (λ (io : Io). io.kind) (io_at n ios)

module _ {C : Type 0} where
  -- an interrupt: the line is lowered, the context that ran here is stopped, and the processor goes to its aim
  abbrev pub stopped : ℕ → ProcNo → Option SpaceNo → Option ActNo → Option (Stopped C) → Scene C → Scene C
  stopped e p (Some s) (Some a) (Some held) x =
      says e p (Stop s held.thread a) (record x { state = put_aside p s a (Preempted a) held x.state })
  stopped e p _ _ _ x = x

  abbrev pub go_to_aim : ℕ → ProcNo → ActNo → Option SpaceNo → Scene C → Scene C
  go_to_aim e p fresh None x = x
  go_to_aim e p fresh (Some s) x = go_to e p s fresh x

  abbrev pub interrupted : ℕ → ProcNo → ActNo → Option (Stopped C) → Scene C → Scene C
  interrupted e p fresh held x =
      let low = record x { state = with_line p None x.state } in
      go_to_aim e p fresh (aim_of x.state p) (stopped e p (owner_of x.state p) (life_of x.state p) held low)

  abbrev pub told_or_left : ℕ → ProcNo → SpaceNo → ActNo → Bool → Scene C → Scene C
  told_or_left e p s fresh true x = upcall e p s fresh false x
  told_or_left e p s fresh false x = leave e p s x

  abbrev pub block_begun : ℕ → ProcNo → SpaceNo → ActNo → Stopped C → ℕ → Option ℕ → Scene C → Scene C
  block_begun e p s a held length page x =
      let io : IoNo = record { 0 = x.state.io_count } in
      says e p (BlockRecord s held.thread a io)
      (record x { state = put_aside p s a (Blocked a) held (with_io (io_for s a page) (e + length) x.state) })

  abbrev pub blocked_by : ℕ → ProcNo → ActNo → Option SpaceNo → Option ActNo → Stopped C → ℕ → Option ℕ → Scene C → Scene C
  blocked_by e p fresh (Some s) (Some a) held length page x =
      told_or_left e p s fresh (can_upcall x.state s) (block_begun e p s a held length page x)
  blocked_by e p fresh _ _ held length page x = x

  abbrev pub blocked : ℕ → ProcNo → ActNo → Stopped C → ℕ → Option ℕ → Scene C → Scene C
  blocked e p fresh held length page x = blocked_by e p fresh (owner_of x.state p) (life_of x.state p) held length page x

  -- a completion: the page is resident; the upcall page was fetched, or a context has come back, which its space is to be told
  abbrev pub thread_of : Option (Stopped C) → Option ThreadNo
  thread_of None = None
  thread_of (Some held) = held.thread

  abbrev pub come_back : ℕ → ProcNo → SpaceNo → ActNo → Scene C → Scene C
  come_back e p s a x =
      says e p (Unblock s (thread_of (held_of (x.state.acts a.0))) a) (record x { state = noted s (Unblocked a) x.state })

  abbrev pub over_for : ℕ → ProcNo → IoKind → Scene C → Scene C
  over_for e p (Plain s a) x = come_back e p s a x
  over_for e p (Page s a k) x = come_back e p s a x
  over_for e p (Upcall s) x = says e p (Fetched s) x

  abbrev pub over : ℕ → ProcNo → IoNo → Option IoKind → Scene C → Scene C
  over e p io None x = x
  over e p io (Some kind) x = over_for e p kind (record x {
    state = record x.state {
      under_way = without io.0 x.state.under_way;
      pages = completed kind x.state.pages;
    };
  })

  -- the hints: the demand is another, which is recorded, and the processor is marked idle or not
  abbrev pub announced : ℕ → ProcNo → SpaceNo → ℕ → Bool → Scene C → Scene C
  announced e p s n idle x = says e p (Want s n) (record x { state = with_mark p idle (with_demand s.0 n x.state) })

  abbrev pub more : ℕ → ProcNo → ℕ → Option SpaceNo → Scene C → Scene C
  more e p n None x = x
  more e p n (Some s) x = announced e p s (demand_of x.state s.0 + n) false x

  abbrev pub idled : ℕ → ProcNo → Option SpaceNo → Scene C → Scene C
  idled e p None x = x
  idled e p (Some s) x = announced e p s (demand_of x.state s.0 - 1) true x

  -- the taken activations of the space are given back, in the order of taking
  abbrev pub without_acts : List ActNo → (ℕ → Option (Act C)) → ℕ → Option (Act C)
  without_acts [] acts = acts
  without_acts (a ∷ others) acts = without_acts others (put acts a.0 None)

  abbrev pub say_given : ℕ → ProcNo → List ActNo → Scene C → Scene C
  say_given e p given x = record x { items = x.items ++ items_at e p (map GiveBackRecord given) }

  abbrev pub gave_back : ℕ → ProcNo → Option SpaceNo → Scene C → Scene C
  gave_back e p None x = x
  gave_back e p (Some s) x =
      say_given e p (taken_of x.state s.0) (record x {
        state = record x.state {
          acts = without_acts (taken_of x.state s.0) x.state.acts;
          taken = slice_set x.state.taken s.0 [];
        };
      })

  -- what an entry does on processor p at event e, where the fresh activation has this number if it makes one
  abbrev pub entered_as : ℕ → ProcNo → ActNo → Entry C → Scene C → Scene C
  entered_as e p fresh (Interrupt held) x = interrupted e p fresh held x
  entered_as e p fresh (Block held length page) x = blocked e p fresh held length page x
  entered_as e p fresh (Complete io) x = over e p io (kind_at io.0 x.state.under_way) x
  entered_as e p fresh (More n) x = more e p n (owner_of x.state p) x
  entered_as e p fresh Idle x = idled e p (owner_of x.state p) x
  entered_as e p fresh GiveBack x = gave_back e p (owner_of x.state p) x
  entered_as e p fresh (InterruptOwn q) x = raised e p q x

  abbrev pub entered : ℕ → ProcNo → ActNo → Entry C → Scene C → Scene C
  entered e p fresh entry x = closed e p (entered_as e p fresh entry x)

  -- the next notice that an upcall told, if one is left: it is fetched, and the context that it hands over is taken
  abbrev pub handed_over : ActNo → KernelState C → KernelState C
  handed_over a k = record k {
    acts = put k.acts a.0 (taken_from (k.acts a.0));
    taken = slice_set k.taken (space_of (k.acts a.0)).0 (taken_of k (space_of (k.acts a.0)).0 ++ a ∷ []);
  }

  -- A stopped context is handed over if one is held of the activation.
  abbrev pub handed_by : Option (Stopped C) → ActNo → KernelState C → KernelState C
  handed_by None a k = k
  handed_by (Some held) a k = handed_over a k

  abbrev pub fetched : Note → KernelState C → KernelState C
  fetched (Add p) k = k
  fetched (Blocked a) k = k
  fetched (Preempted a) k = handed_by (held_of (k.acts a.0)) a k
  fetched (Unblocked a) k = handed_by (held_of (k.acts a.0)) a k

  abbrev pub held_for : KernelState C → Note → Option (Stopped C)
  held_for k (Add p) = None
  held_for k (Blocked a) = None
  held_for k (Preempted a) = held_of (k.acts a.0)
  held_for k (Unblocked a) = held_of (k.acts a.0)

  abbrev pub after_fetch : List Note → KernelState C → KernelState C
  after_fetch [] k = k
  after_fetch (note ∷ notes) k = fetched note (record k { telling = notes })

  abbrev pub next_note : KernelState C → Option (Note × Option (Stopped C))
  next_note k = option_map (λ note. (note, held_for k note)) (slice_get k.telling 0)

  -- the pages that the workload evicts at an event are absent
  abbrev pub evicted_at : ℕ → KernelState C → KernelState C
  evicted_at event k = record k { pages = evicted event k.fixed.evictions k.pages }
