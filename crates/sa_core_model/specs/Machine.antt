-- A machine as a value, and what one context of it does.
use Rattle.std.specs.Prelude.{ℕ, Option, Some, None, List, ◌++◌, slice_get, slice_index_or, slice_set}
use Rattle.sa_base.specs.declared.number.ProcNo.{ProcNo}
use Rattle.sa_base.specs.declared.number.SpaceNo.{SpaceNo}
use Rattle.sa_base.specs.declared.context.Seen.{Seen}
use Rattle.sa_base.specs.declared.context.Stopped.{Stopped}
use Rattle.sa_base.specs.declared.record.Item.{Item}
use Rattle.sa_base.specs.declared.record.Note.{Note}
use Rattle.sa_base.specs.Items.{items_at, items_from}
use Rattle.sa_spaces.specs.Workload.{WorkloadView}
use Rattle.sa_abstract.specs.Calls.{Calls, Stepped, Gone}
use Rattle.sa_abstract.specs.declared.answer.Step.{Step}
use Rattle.sa_abstract.specs.declared.answer.Step.TheVariants.{Did}
use Rattle.sa_kernel_model.specs.State.{KernelState, Scene}
use Rattle.sa_kernel_model.specs.Seen.{seen_of}

pub record Machine (U C : Type 0) : Type 0 where
  pub workload : WorkloadView
  pub kernel : KernelState C
  -- of each space, its user level
  pub users : List U
  -- of each processor, the context that runs there
  pub contexts : List (Option C)
  -- the number of the last event
  pub event : ℕ
  -- all items of the trace
  pub items : List Item

module _ {U C : Type 0} where
  abbrev pub user_of : Machine U C → SpaceNo → Option U
  user_of m s = slice_get m.users s.0

  abbrev pub context_on : Machine U C → ProcNo → Option C
  context_on m p = slice_index_or m.contexts p.0 None

  -- what a space sees on a processor in this event
  abbrev pub seen_on : Machine U C → ProcNo → SpaceNo → Seen
  seen_on m p s = seen_of m.kernel p s m.event

  abbrev pub scene_of : Machine U C → Scene C
  scene_of m = record { state = m.kernel; items = m.items }

  abbrev pub with_scene : Scene C → Machine U C → Machine U C
  with_scene x m = record m { kernel = x.state; items = x.items }

  -- a user level, and the context of it that runs on a processor
  abbrev pub with_pair : ProcNo → SpaceNo → U → C → Machine U C → Machine U C
  with_pair p s u c m = record m { users = slice_set m.users s.0 u; contexts = slice_set m.contexts p.0 (Some c) }

  -- no context runs on a processor any more
  abbrev pub without_context : ProcNo → Machine U C → Machine U C
  without_context p m = record m { contexts = slice_set m.contexts p.0 None }

-- a call of a user level for the context that runs on a processor of its space
module _ {U C : Type 0} where
  abbrev pub called_by : (U → C → U × C) → ProcNo → SpaceNo → Option U → Option C → Machine U C → Machine U C
  called_by call p s (Some u) (Some c) m = with_pair p s (call u c).0 (call u c).1 m
  called_by call p s _ _ m = m

  abbrev pub called : (U → C → U × C) → ProcNo → SpaceNo → Machine U C → Machine U C
  called call p s m = called_by call p s (user_of m s) (context_on m p) m

module _ {U C : Type 0} (f : Calls U C) where
  -- the context of a fresh activation begins
  abbrev pub context_begun_by : ProcNo → SpaceNo → Seen → Option U → Machine U C → Machine U C
  context_begun_by p s seen None m = m
  context_begun_by p s seen (Some u) m = with_pair p s (f.begun u seen).0 (f.begun u seen).1 m

  abbrev pub context_begun : ProcNo → SpaceNo → Machine U C → Machine U C
  context_begun p s m = context_begun_by p s (seen_on m p s) (user_of m s) m

  -- the context goes on after its upcall, or after an entry that it asked for
  abbrev pub answered : ProcNo → SpaceNo → Machine U C → Machine U C
  answered p s m = called (λ u c. f.answered u (seen_on m p s) c) p s m

  -- the context is told a notice
  abbrev pub told : ProcNo → SpaceNo → Note → Option (Stopped C) → Machine U C → Machine U C
  told p s note held m = called (λ u c. f.told u c note held) p s m

  -- the context as it is handed over, where one runs
  abbrev pub stopped_by : Option U → Option C → Option (Stopped C)
  stopped_by (Some u) (Some c) = Some (record { ctx = c; thread = f.thread u c; idle = f.idle u c })
  stopped_by _ _ = None

  abbrev pub stopped_in : Machine U C → ProcNo → Option SpaceNo → Option (Stopped C)
  stopped_in m p None = None
  stopped_in m p (Some s) = stopped_by (user_of m s) (context_on m p)

  -- one step of the context, and what it asks for
  abbrev pub step_to : ProcNo → SpaceNo → Stepped U C → Machine U C → Machine U C
  step_to p s r m = record (with_pair p s r.user r.ctx m) { items = m.items ++ items_at m.event p r.says }

  abbrev pub stepped_by : ProcNo → SpaceNo → Seen → Option U → Option C → Machine U C → Machine U C × Step
  stepped_by p s seen (Some u) (Some c) m = (step_to p s (f.stepped u seen c) m, (f.stepped u seen c).answer)
  stepped_by p s seen _ _ m = (m, Did)

  abbrev pub stepped : ProcNo → SpaceNo → Machine U C → Machine U C × Step
  stepped p s m = stepped_by p s (seen_on m p s) (user_of m s) (context_on m p) m

  -- n local instructions of the context, one in each event from this one on
  abbrev pub gone_to : ProcNo → SpaceNo → Gone U C → Machine U C → Machine U C
  gone_to p s r m = record (with_pair p s r.user r.ctx m) { items = m.items ++ items_from m.event p r.says }

  abbrev pub gone_by : ProcNo → SpaceNo → Seen → ℕ → Option U → Option C → Machine U C → Machine U C
  gone_by p s seen n (Some u) (Some c) m = gone_to p s (f.went u seen c n) m
  gone_by p s seen n _ _ m = m

  abbrev pub gone : ProcNo → SpaceNo → ℕ → Machine U C → Machine U C
  gone p s n m = gone_by p s (seen_on m p s) n (user_of m s) (context_on m p) m
