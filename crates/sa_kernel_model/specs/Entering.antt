-- When an entry may come, how much room it may need, and whether it upcalls.
use Rattle.std.specs.Prelude.{◌≡◌, ℕ, ◌+◌, ◌≤◌, ◌<◌, Bool, false, length, Option, Some, None, IsSome, IfSome}
use Rattle.sa_base.specs.declared.number.ProcNo.{ProcNo}
use Rattle.sa_base.specs.declared.number.SpaceNo.{SpaceNo}
use Rattle.sa_base.specs.declared.number.IoNo.{IoNo}
use Rattle.sa_base.specs.declared.context.Stopped.{Stopped}
use Rattle.sa_devices.specs.Ios.{Io, io_at}
use Rattle.sa_kernel_model.specs.declared.entry.TheConstants.{ENTRY_ITEMS}
use Rattle.sa_kernel_model.specs.declared.entry.Entry.{Entry}
use Rattle.sa_kernel_model.specs.declared.entry.Entry.TheVariants.{Interrupt, Block, Complete, More, Idle, GiveBack, InterruptOwn}
use Rattle.sa_kernel_model.specs.State.{KernelState, owner_of, line_of, life_of, aim_of, demand_of, taken_of}
use Rattle.sa_kernel_model.specs.Entries.{IsOwnPage}
use Rattle.sa_kernel_model.specs.Enters.{upcalls_for, upcalls_in, untold_count, taken_count}

module _ {C : Type 0} where
  -- a spare of the trace that suffices for an entry
  abbrev pub need_of : KernelState C → ℕ
  need_of k = ENTRY_ITEMS + untold_count k + taken_count k

  -- when an interrupt may come: the line is raised, and a context is handed over exactly where the processor is owned
  pub record MayInterrupt (k : KernelState C) (p : ProcNo) (context : Option (Stopped C)) : Type 0 where
    pub raised : IsSome (line_of k p)
    pub held : IsSome context → IsSome (owner_of k p)
    pub owned : IsSome (owner_of k p) → IsSome context

  -- a context asks: its processor is owned by the space, and the line is low
  pub record Asks (k : KernelState C) (p : ProcNo) (s : SpaceNo) : Type 0 where
    pub owner : owner_of k p ≡ Some s
    pub low : line_of k p ≡ None

  pub record MayBlock (k : KernelState C) (p : ProcNo) (absent : Option ℕ) : Type 0 where
    pub space : SpaceNo
    pub asks : Asks k p space
    pub page : IfSome absent IsOwnPage

  pub record MayComplete (k : KernelState C) (p : ProcNo) (event : ℕ) (io : IoNo) : Type 0 where
    pub here : Io
    pub under_way : io_at io.0 k.under_way ≡ Some here
    pub low : line_of k p ≡ None

  pub record MayAskForMore (k : KernelState C) (p : ProcNo) (n : ℕ) : Type 0 where
    pub space : SpaceNo
    pub asks : Asks k p space
    pub some : 1 ≤ n
    pub few : demand_of k space.0 + n ≤ length k.lives

  pub record MayHintIdle (k : KernelState C) (p : ProcNo) : Type 0 where
    pub space : SpaceNo
    pub asks : Asks k p space
    pub some : 1 ≤ demand_of k space.0

  pub record MayGiveBack (k : KernelState C) (p : ProcNo) : Type 0 where
    pub space : SpaceNo
    pub asks : Asks k p space
    pub some : 1 ≤ length (taken_of k space.0)

  pub record MayInterruptOwn (k : KernelState C) (p q : ProcNo) : Type 0 where
    pub space : SpaceNo
    pub asks : Asks k p space
    pub other : p.0 ≡ q.0 → ⊥
    pub within : q.0 < length k.lives
    pub owned : Asks k q space

  -- when an entry may come on the processor at the event
  abbrev pub MayEnter : KernelState C → ProcNo → ℕ → Entry C → Type 0
  MayEnter k p event (Interrupt held) = MayInterrupt k p held
  MayEnter k p event (Block held len page) = MayBlock k p page
  MayEnter k p event (Complete io) = MayComplete k p event io
  MayEnter k p event (More n) = MayAskForMore k p n
  MayEnter k p event Idle = MayHintIdle k p
  MayEnter k p event GiveBack = MayGiveBack k p
  MayEnter k p event (InterruptOwn q) = MayInterruptOwn k p q

  -- whether an entry upcalls
  abbrev pub upcalls : KernelState C → ProcNo → Entry C → Bool
  upcalls k p (Interrupt held) = upcalls_for k (aim_of k p)
  upcalls k p (Block held len page) = upcalls_in k (owner_of k p) (life_of k p)
  upcalls k p (Complete io) = false
  upcalls k p (More n) = false
  upcalls k p Idle = false
  upcalls k p GiveBack = false
  upcalls k p (InterruptOwn q) = false
