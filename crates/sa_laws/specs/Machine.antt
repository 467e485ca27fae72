-- What each record changes in the abstract machine.
use Rattle.sa_base.specs.declared.number.ProcNo.{ProcNo}
use Rattle.sa_base.specs.declared.number.SpaceNo.{SpaceNo}
use Rattle.sa_base.specs.declared.number.ThreadNo.{ThreadNo}
use Rattle.sa_base.specs.declared.record.Record.{Record}
use Rattle.sa_base.specs.declared.record.Record.TheVariants.{Ins, Run, Stop, Block, Unblock, Cont, Back, Ready, Move}
use Rattle.sa_spaces.specs.Workload.{WorkloadView}
use Rattle.sa_laws.specs.declared.place.Place.TheVariants as place
use Rattle.sa_laws.specs.State.{State, space_at, with_space, thread_at, placed, placed_if, next_instr, with_owner}
use Rattle.sa_laws.specs.Effect.{Effect, effect_of}

-- the effect of the instruction at which a thread stands
abbrev pub next_effect : WorkloadView → State → SpaceNo → ThreadNo → Effect
next_effect w a s t = effect_of (space_at a s) t (thread_at a s t) (next_instr w a s t)

-- the state after a record of processor p
abbrev pub changed : WorkloadView → ProcNo → State → Record → State
changed w p a (Ins s t i) = with_space a s (next_effect w a s t).space
changed w p a (Stop s t act) = placed_if a s t place.Carried
changed w p a (Block s t act io) = placed_if a s t place.Blocked
changed w p a (Unblock s t act) = placed_if a s t place.Carried
changed w p a (Cont s t) = placed_if a s t (place.Running p)
changed w p a (Back s t) = placed_if a s t place.Carried
changed w p a (Run s t) = placed a s t (place.Running p)
changed w p a (Ready s t) = placed a s t place.Ready
changed w p a (Move old new) = with_owner a p new
changed w p a _ = a
