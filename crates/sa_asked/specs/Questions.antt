-- What the turn of a processor asks, which replies its step can do, and what a reply changes of a machine.
use Rattle.std.specs.Prelude.{ℕ, ◌+◌, Bool, false, Option, Some, None, length, slice_set}
use Rattle.std.specs.Option.{option_map}
use Rattle.sa_base.specs.declared.number.ProcNo.{ProcNo}
use Rattle.sa_base.specs.declared.number.SpaceNo.{SpaceNo}
use Rattle.sa_base.specs.declared.number.ActNo.{ActNo}
use Rattle.sa_base.specs.declared.number.IoNo.{IoNo}
use Rattle.sa_base.specs.declared.context.Seen.{Seen}
use Rattle.sa_abstract.specs.Calls.{Calls}
use Rattle.sa_devices.specs.Ios.{due_of, io_no}
use Rattle.sa_kernel_model.specs.State.{KernelState, owner_of, line_of, life_of, demand_of, taken_of}
use Rattle.sa_core_model.specs.Machine.{Machine, user_of, context_on, seen_on}
use Rattle.sa_core_model.specs.Turn.{next_event}
use Rattle.sa_asked.specs.declared.question.Question.{Question}
use Rattle.sa_asked.specs.Replies.{Replies}

-- the space of which a turn is a step, if it is one: no line is raised, and no I/O is due
abbrev pub steps_by : Option ℕ → Option IoNo → Option SpaceNo → Option SpaceNo
steps_by None None owner = owner
steps_by _ _ _ = None

module _ {U C : Type 0} where
  abbrev pub steps_in : Machine U C → ProcNo → Option SpaceNo
  steps_in m p = steps_by (line_of m.kernel p) (option_map io_no (due_of (m.event + 1) m.kernel.under_way)) (owner_of m.kernel p)

  -- one space has another value
  abbrev pub with_user : SpaceNo → U → Machine U C → Machine U C
  with_user s u m = record m { users = slice_set m.users s.0 u }

module _ {U C : Type 0} (f : Calls U C) where
  -- WHAT A TURN ASKS: nothing, unless it is a step
  abbrev pub asked_of : KernelState C → SpaceNo → Option ActNo → Option U → Option C → Option Question
  asked_of k s (Some a) (Some u) (Some c) =
      Some (record { space = s; act = a; thread = f.thread u c; demand = demand_of k s.0; taken = length (taken_of k s.0) })
  asked_of k s _ _ _ = None

  abbrev pub asked_in : Machine U C → ProcNo → Option SpaceNo → Option Question
  asked_in m p None = None
  asked_in m p (Some s) = asked_of m.kernel s (life_of m.kernel p) (user_of m s) (context_on m p)

  abbrev pub question : Machine U C → ProcNo → Option Question
  question m p = asked_in m p (steps_in m p)

module _ {U C R : Type 0} (replies : Replies U C R) where
  -- WHICH REPLIES the step of a turn can do: none, where the turn is no step
  abbrev pub can_by : Seen → Option U → Option C → R → Bool
  can_by seen (Some u) (Some c) reply = replies.can u seen c reply
  can_by seen _ _ reply = false

  abbrev pub can_in : Machine U C → ProcNo → Option SpaceNo → R → Bool
  can_in m p None reply = false
  can_in m p (Some s) reply = can_by (seen_on (next_event m) p s) (user_of m s) (context_on m p) reply

  abbrev pub can_reply : Machine U C → ProcNo → R → Bool
  can_reply m p reply = can_in m p (steps_in m p) reply

  -- A REPLY is put: the value of its space changes, and nothing else
  abbrev pub put_by : SpaceNo → R → Option U → Machine U C → Machine U C
  put_by s reply None m = m
  put_by s reply (Some u) m = with_user s (replies.put u reply) m

  abbrev pub put_reply : SpaceNo → R → Machine U C → Machine U C
  put_reply s reply m = put_by s reply (user_of m s) m
