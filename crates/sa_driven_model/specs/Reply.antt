-- Which replies can be done.
use Rattle.std.specs.Prelude.{ℕ, ◌+◌, ◌==◌, Bool, true, false, ◌&&◌, ◌||◌, not, nat_lt, nat_le, Option, Some, None, is_some, is_none}
use Rattle.std.specs.Int.{bit_at}
use Rattle.sa_base.specs.declared.number.ThreadNo.{ThreadNo}
use Rattle.sa_base.specs.declared.context.Seen.{Seen}
use Rattle.sa_fast.specs.declared.threads.KeptPlace.{KeptPlace}
use Rattle.sa_fast.specs.declared.threads.KeptPlace.TheVariants.{Carried}
use Rattle.sa_fast.specs.Rest.{is_ready, place_at}
use Rattle.sa_driven_model.specs.declared.context.DrivenContext.{DrivenContext}
use Rattle.sa_driven_model.specs.declared.space.DrivenSpace.{DrivenSpace}
use Rattle.sa_driven_model.specs.declared.reply.Reply.{Reply}
use Rattle.sa_driven_model.specs.declared.reply.Reply.TheVariants.{Ins, Run, Ready, Cont, Back, Take, Free, Spin, Idle, Want, GiveBack, Line}
use Rattle.sa_driven_model.specs.Threads.{has}

-- a thread that was stopped or unblocked, of which the space was told
abbrev pub is_held : KeptPlace → Bool
is_held Carried = true
is_held _ = false

abbrev pub can_cont : DrivenSpace → Option ThreadNo → Bool
can_cont u None = true
can_cont u (Some t) = is_held (place_at u.base.shared t.0)

-- a hint raises the demand to at most the processors, or lowers it by one
abbrev pub can_want : DrivenSpace → Seen → ℕ → Bool
can_want u seen n = (nat_lt seen.demand n && nat_le n u.base.processors) || n + 1 == seen.demand

-- another processor of the space, whose line is low
abbrev pub can_interrupt : DrivenSpace → Seen → ℕ → Bool
can_interrupt u seen q = not (q == seen.proc.0) && nat_lt q u.base.processors && bit_at seen.low q == 1

-- THE NEEDS of each reply
abbrev pub can : DrivenSpace → Seen → DrivenContext → Reply → Bool
can u seen c Ins = is_some c.thread
can u seen c (Run t) = is_none c.thread && is_ready (place_at u.base.shared t.0)
can u seen c (Ready t) = has u.handed t.0
can u seen c (Cont t) = is_none c.thread && can_cont u t
can u seen c Back = true
can u seen c (Take l) = nat_lt l.0 u.base.processors
can u seen c (Free l) = nat_lt l.0 u.base.processors
can u seen c (Spin l) = nat_lt l.0 u.base.processors
can u seen c Idle = true
can u seen c (Want n) = can_want u seen n
can u seen c GiveBack = nat_lt 0 seen.taken
can u seen c (Line q) = can_interrupt u seen q.0
