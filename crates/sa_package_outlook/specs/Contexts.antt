-- What matters of the contexts of the two packages.
use Rattle.std.specs.Prelude.{◌≡◌, ℕ, min, Option, Some, None}
use Rattle.sa_spaces.specs.Space.{SpaceView}
use Rattle.sa_package_model.specs.declared.context.Context.{Context}
use Rattle.sa_package_model.specs.declared.context.ContextState.{ContextState}
use Rattle.sa_package_model.specs.declared.context.ContextState.TheVariants.{Code, Work, Hint, Return, User, Look}
use Rattle.sa_package_model.specs.declared.package.Package.{Package}
use Rattle.sa_prio_model.specs.declared.context.PrioContext.{PrioContext}
use Rattle.sa_prio_model.specs.Prio.{Prio}

-- FASTTHREADS
abbrev pub patience_of : Option SpaceView → ℕ
patience_of None = 0
patience_of (Some def) = def.patience

-- the state, with no more looks than the patience: a context that has looked as often says that its processor is idle
abbrev pub plain_state : ℕ → ContextState → ContextState
plain_state n (Code f) = Code f
plain_state n (Work t) = Work t
plain_state n (Hint t) = Hint t
plain_state n Return = Return
plain_state n (User t) = User t
plain_state n (Look looks) = Look (min looks n)

abbrev pub plain : Option SpaceView → Context → Context
plain def c = record c { state = plain_state (patience_of def) c.state }

-- the package was made for a space that is defined so
abbrev pub IsMade : Option SpaceView → Package → Type 0
IsMade def u = def ≡ Some u.def

-- THREAD PRIORITIES
abbrev pub plain_prio : Option SpaceView → PrioContext → PrioContext
plain_prio def c = record c { base = plain def c.base }

abbrev pub IsMadeFor : Option SpaceView → Prio → Type 0
IsMadeFor def v = def ≡ Some v.base.def
