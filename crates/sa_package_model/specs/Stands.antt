-- How the package and the contexts of its space's activations stand beside one another.
use Rattle.std.specs.Prelude.{◌≡◌, ℕ, ◌<◌, ◌≤◌, List, [], ◌∷◌, length, Option, Some, None, IsSome, slice_get}
use Rattle.sa_instr.specs.declared.limits.TheConstants.{MAX_PATIENCE}
use Rattle.sa_abstract.specs.Setting.{Setting}
use Rattle.sa_abstract.specs.Calls.{Contexts}
use Rattle.sa_abstract.specs.Keeps.{Standing}
use Rattle.sa_lists.specs.ReadyView.{ReadyView, list_of}
use Rattle.sa_code.specs.declared.code.Op.{Op}
use Rattle.sa_code.specs.declared.code.Op.TheVariants.{Push, Pop, Free, Yield}
use Rattle.sa_code.specs.declared.state.Frame.{Frame}
use Rattle.sa_code.specs.Micro.{list_in}
use Rattle.sa_copies.specs.Copies.{package_ops, copy_at}
use Rattle.sa_fast.specs.Rest.{threads_at_rest, empty_at, ArePartsFor, AgreesAt, not_carried}
use Rattle.sa_package_model.specs.declared.context.Context.{Context}
use Rattle.sa_package_model.specs.declared.context.ContextState.{ContextState}
use Rattle.sa_package_model.specs.declared.context.ContextState.TheVariants.{Code, Look}
use Rattle.sa_package_model.specs.declared.package.Package.{Package}
use Rattle.sa_package_model.specs.Laws.{IsMadeFor}
use Rattle.sa_package_model.specs.Hands.{AreInOnePlace, sections_of, free_locks, locks_of, threads_of, name_of, carried_of}

-- CONTEXTS. A section has a list; before its effect it pushes a thread, or carries none while its list has some, and it
-- pushes none else
abbrev pub FitsOperation : ReadyView → Frame → Option Op → Type 0
FitsOperation r f (Some Push) = IsSome f.list × IsSome f.pushed
FitsOperation r f (Some Pop) = IsSome f.list × (f.pushed ≡ None) × (f.thread ≡ None) × (0 < length (list_of r (list_in f).0))
FitsOperation r f (Some Free) = IsSome f.list × (f.pushed ≡ None)
FitsOperation r f _ = ⊥

-- and it is in its copy
pub record IsSection (r : ReadyView) (f : Frame) : Type 0 where
  pub copy : copy_at f.pc ≡ Some f.pc
  pub fits : FitsOperation r f (slice_get package_ops f.pc)

abbrev pub AreSections : ReadyView → List Frame → Type 0
AreSections r [] = Unit {0}
AreSections r (f ∷ fs) = IsSection r f × AreSections r fs

-- in the code a context is in a section, or at a copy's end
abbrev pub StandsAt : Frame → Option Op → Type 0
StandsAt f (Some Push) = Unit {0}
StandsAt f (Some Pop) = Unit {0}
StandsAt f (Some Free) = Unit {0}
StandsAt f (Some Yield) = f.pushed ≡ None
StandsAt f _ = ⊥

abbrev pub IsState : ContextState → Type 0
IsState (Code f) = StandsAt f (slice_get package_ops f.pc)
IsState (Look looks) = looks ≤ MAX_PATIENCE
IsState _ = Unit {0}

pub record IsContext (r : ReadyView) (c : Context) : Type 0 where
  pub state : IsState c.state
  pub sections : AreSections r (sections_of c)

-- ALL OF IT
pub record IsStanding (s : Setting) (event : ℕ) (u : Package) (cs : Contexts Context) : Type 0 where
  pub made : IsMadeFor s u
  pub code : u.shared.state.code ≡ package_ops
  pub parts : ArePartsFor u.def u.processors event u.shared
  pub locks : AreInOnePlace (free_locks u.shared.state.lists) (λ a. locks_of (cs a))
  pub threads : AreInOnePlace (threads_at_rest u.shared) (λ a. threads_of u.shared.works (cs a))
  pub works : AreInOnePlace (empty_at u.shared.works) (λ a. name_of (cs a))
  -- each thread's place says where it is
  pub places : (t : ℕ) → AgreesAt u.shared t
  pub carries : AreInOnePlace (not_carried u.shared) (λ a. carried_of (cs a))
  pub contexts : (a : ℕ) (c : Context) → cs a ≡ Some c → IsContext u.shared.state.lists c

abbrev pub fast_stands : Standing Package Context
fast_stands s event u cs = IsStanding s event u cs
