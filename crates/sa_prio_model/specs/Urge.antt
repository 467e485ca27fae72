-- The mark of a context, which is to serve a pair.
use Rattle.std.specs.Prelude.{Bool, true, false, not, ◌&&◌}
use Rattle.sa_base.specs.declared.context.Seen.{Seen}
use Rattle.sa_package_model.specs.declared.context.Context.{Context}
use Rattle.sa_package_model.specs.declared.context.ContextState.{ContextState}
use Rattle.sa_package_model.specs.declared.context.ContextState.TheVariants.{Hint, Return, User, Look}
use Rattle.sa_package_model.specs.Context.{carried_by, stands_inside}
use Rattle.sa_package_model.specs.Rules.{settled}
use Rattle.sa_prio_model.specs.declared.context.PrioContext.{PrioContext}
use Rattle.sa_prio_model.specs.Prio.{Prio, has_pair}

abbrev pub unmarked : Context → PrioContext
unmarked c = record { base = c; urge = false }

-- a context has the mark where it came to an instruction or a look, and a pair exists
abbrev pub marked : Prio → Seen → Bool → Context → PrioContext
marked v seen came c = record { base = c; urge = came && has_pair v seen }

-- at an instruction of its thread, or looking for one
abbrev pub is_out : ContextState → Bool
is_out state = not (stands_inside state)

-- settling is FastThreads'
abbrev pub settles : Prio → Seen → Context → PrioContext
settles v seen c = let d = settled v.base seen c (carried_by c.state) in marked v seen (is_out d.state) d

-- a context came to an instruction or a look from elsewhere: neither from its instruction to the next one, nor from a look
-- to a further one
abbrev pub remains_out : ContextState → ContextState → Bool
remains_out (User t) (User n) = true
remains_out (Look m) (Look n) = true
remains_out before after = false

abbrev pub came_out : ContextState → ContextState → Bool
came_out before after = is_out after && not (remains_out before after)

-- a context that may settle without an event: it is to send a hint, or to give activations back
abbrev pub may_settle : ContextState → Bool
may_settle (Hint t) = true
may_settle Return = true
may_settle state = false
