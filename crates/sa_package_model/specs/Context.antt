-- What an activation runs.
use Rattle.std.specs.Prelude.{ℕ, Bool, true, false, ◌||◌, Option, Some, None, is_some, List, [], ◌∷◌, nat_le}
use Rattle.sa_base.specs.declared.number.ThreadNo.{ThreadNo}
use Rattle.sa_base.specs.declared.limits.TheConstants.{BULK_RETURN}
use Rattle.sa_base.specs.declared.context.Seen.{Seen}
use Rattle.sa_code.specs.declared.state.Frame.{Frame}
use Rattle.sa_copies.specs.Copies.{copy_at}
use Rattle.sa_package_model.specs.declared.context.Context.{Context}
use Rattle.sa_package_model.specs.declared.context.ContextState.{ContextState}
use Rattle.sa_package_model.specs.declared.context.ContextState.TheVariants.{Code, Work, Hint, Return, User, Look}

-- the context of a fresh activation
abbrev pub fresh : Context
fresh = record { state = Work None; sections = []; work = None }

-- the thread that it carries
abbrev pub carried_by : ContextState → Option ThreadNo
carried_by (Code f) = f.thread
carried_by (Work t) = t
carried_by (Hint t) = t
carried_by Return = None
carried_by (User t) = Some t
carried_by (Look looks) = None

-- it has no thread and nothing else to do
abbrev pub stands_idle : ContextState → Bool
stands_idle (Look looks) = true
stands_idle _ = false

-- it is between routines, or at an instruction
abbrev pub stands_between : ContextState → Bool
stands_between (Code f) = false
stands_between (Look looks) = false
stands_between _ = true

-- it is inside the package
abbrev pub stands_inside : ContextState → Bool
stands_inside (User t) = false
stands_inside (Look looks) = false
stands_inside _ = true

-- the section in which a frame is, or in whose copy: the frame at the place of the copy
abbrev pub at_copy : Frame → Option ℕ → Option Frame
at_copy f None = None
at_copy f (Some place) = Some (record f { pc = place })

abbrev pub section_in : ContextState → Option Frame
section_in (Code f) = at_copy f (copy_at f.pc)
section_in _ = None

-- a section before others, if there is one
abbrev pub before_all : Option Frame → List Frame → List Frame
before_all None fs = fs
before_all (Some f) fs = f ∷ fs

-- it has sections to continue, or threads to make ready
abbrev pub has_some : List Frame → Bool
has_some [] = false
has_some (f ∷ fs) = true

abbrev pub is_left : Context → Bool
is_left c = has_some c.sections || is_some c.work

-- settling: what comes next for a context with this thread, where something is left to do, where a hint is owed, and
-- where enough activations are taken for them to be given back
abbrev pub settled_to : Option ThreadNo → Bool → Bool → Bool → ContextState
settled_to t true owed bulk = Work t
settled_to t false true bulk = Hint t
settled_to (Some t) false false bulk = User t
settled_to None false false true = Return
settled_to None false false false = Look 0

abbrev pub has_bulk : Seen → Bool
has_bulk seen = nat_le BULK_RETURN seen.taken
