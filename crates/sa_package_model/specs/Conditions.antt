-- What the calls ask of the package and of the context in hand.
use Rattle.std.specs.Prelude.{◌≡◌, ◌+◌, ◌<◌, ◌≤◌, Option, None, length, IfSome, slice_get}
use Rattle.sa_base.specs.declared.number.ThreadNo.{ThreadNo}
use Rattle.sa_base.specs.declared.limits.TheConstants.{MAX_THREADS}
use Rattle.sa_base.specs.declared.context.Seen.{Seen}
use Rattle.sa_base.specs.declared.context.Stopped.{Stopped}
use Rattle.sa_base.specs.declared.record.Note.{Note}
use Rattle.sa_base.specs.declared.record.Note.TheVariants.{Add, Preempted, Blocked, Unblocked}
use Rattle.sa_instr.specs.declared.limits.TheConstants.{MAX_PATIENCE}
use Rattle.sa_lists.specs.ReadyView as ready
use Rattle.sa_code.specs.declared.state.Frame.{Frame}
use Rattle.sa_code.specs.declared.state.TheConstants.{MAX_LISTS}
use Rattle.sa_code.specs.Micro.{CanDo}
use Rattle.sa_copies.specs.Copies.{package_ops}
use Rattle.sa_fast.specs.declared.shared.Shared.{Shared}
use Rattle.sa_fast.specs.Work.{IsWork, IsUnlisted, AreApart}
use Rattle.sa_fast.specs.Threads.{block_at}
use Rattle.sa_fast.specs.Instruction.{CanRun, IsAt}
use Rattle.sa_package_model.specs.declared.context.Context.{Context}
use Rattle.sa_package_model.specs.declared.context.ContextState.{ContextState}
use Rattle.sa_package_model.specs.declared.context.ContextState.TheVariants.{Code, Work, Hint, Return, User, Look}
use Rattle.sa_package_model.specs.declared.package.Package.{Package}
use Rattle.sa_package_model.specs.Context.{carried_by, section_in, before_all}
use Rattle.sa_package_model.specs.Rules.{own_list}

-- a thread of the space, if there is one
abbrev pub IsThread : Option ThreadNo → Type 0
IsThread t = IfSome t (λ n. n.0 < MAX_THREADS)

-- a thread that can be put into a work list, if there is one
abbrev pub CanBeDue : Shared → Option ThreadNo → Type 0
CanBeDue x t = IfSome t (λ n. (n.0 < MAX_THREADS) × IsUnlisted x.works n.0)

-- a context in the code can do the operation at its place, in which it may give back its thread
pub record CanCode (u : Package) (f : Frame) : Type 0 where
  pub does : CanDo u.shared.state f (slice_get u.shared.state.code f.pc)
  pub pushes : IsThread f.pushed
  pub carries : CanBeDue u.shared f.thread

-- the first section to continue carries a thread of the space, and the one that is carried can be put into a work list;
-- the first thread to make ready is in no list
pub record CanWork (u : Package) (c : Context) (t : Option ThreadNo) : Type 0 where
  pub section : IfSome (slice_get c.sections 0) (λ f. IsThread f.thread)
  pub carries : CanBeDue u.shared t
  pub thread : IfSome c.work (λ n. ready.IsUnlisted u.shared.state.lists n.0)

-- whatever comes next, the context can do it
pub record CanSettle (u : Package) (c : Context) (t : Option ThreadNo) : Type 0 where
  pub works : CanWork u c t
  pub thread : IfSome t (λ n. CanRun u.def u.shared c.work n)

abbrev pub CanAct : Package → Context → ContextState → Type 0
CanAct u c (Code f) = CanCode u f
CanAct u c (Work t) = CanWork u c t
CanAct u c (Hint t) = CanSettle u c t
CanAct u c Return = CanSettle u c None
CanAct u c (User t) = CanRun u.def u.shared c.work t
CanAct u c (Look looks) = looks ≤ MAX_PATIENCE

-- the package can do a step of the context
pub record CanStep (u : Package) (seen : Seen) (c : Context) : Type 0 where
  pub code : u.shared.state.code ≡ package_ops
  pub threads : u.shared.state.lists.threads ≡ MAX_THREADS
  pub proc : (own_list u seen.proc).0 < length u.shared.state.lists.lists
  pub work : IsWork u.shared.works c.work
  pub acts : CanAct u c c.state

-- the context can take over another one
pub record CanTakeOver (u : Package) (c d : Context) : Type 0 where
  pub code : u.shared.state.code ≡ package_ops
  pub few : length c.sections + length (before_all (section_in d.state) d.sections) ≤ MAX_LISTS
  pub mine : IsWork u.shared.works c.work
  pub theirs : IsWork u.shared.works d.work
  pub apart : AreApart c.work d.work
  pub thread : CanBeDue u.shared (carried_by d.state)

-- the context can be told a notice
abbrev pub CanBeTold : Package → Context → Note → Option (Stopped Context) → Type 0
CanBeTold u c (Add p) held = Unit {0}
CanBeTold u c (Blocked a) held = Unit {0}
CanBeTold u c (Preempted a) held = IfSome held (λ s. CanTakeOver u c s.ctx)
CanBeTold u c (Unblocked a) held = IfSome held (λ s. CanTakeOver u c s.ctx)

-- the context is at an instruction of its thread, within its program
abbrev pub CanGoAt : Package → ContextState → Type 0
CanGoAt u (User t) = (t.0 < MAX_THREADS) × IsAt u.def (block_at u.shared.threads t.0)
CanGoAt u _ = ⊥

abbrev pub CanGo : Package → Context → Type 0
CanGo u c = CanGoAt u c.state
