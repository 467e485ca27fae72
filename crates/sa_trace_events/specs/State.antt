-- What the tracks show: the state of each after an item.
use Rattle.std.specs.Prelude.{◌+◌, ◌-◌, ◌^◌, Bool, true, false, not, ◌==◌, ◌&&◌, Option, Some, None, min, if◌then◌else◌}
use Rattle.sa_base.specs.declared.number.ActNo.{ActNo}
use Rattle.sa_base.specs.declared.number.ProcNo.{ProcNo}
use Rattle.sa_base.specs.declared.number.SpaceNo.{SpaceNo}
use Rattle.sa_base.specs.declared.number.ThreadNo.{ThreadNo}
use Rattle.sa_base.specs.declared.record.Item.{Item}
use Rattle.sa_base.specs.declared.record.Note.{Note}
use Rattle.sa_base.specs.declared.record.Note.TheVariants.{Add}
use Rattle.sa_base.specs.declared.record.Record.{Record}
use Rattle.sa_base.specs.declared.record.Record.TheVariants as what
use Rattle.sa_shapes.specs.Change.{is_aimed, is_space, with_aim}
use Rattle.sa_shapes.specs.Look.{look_after, owner, same_look}
use Rattle.sa_trace_events.specs.declared.track.Count.{Count}
use Rattle.sa_trace_events.specs.declared.track.Count.TheVariants as count
use Rattle.sa_trace_events.specs.declared.track.Level.{Level}
use Rattle.sa_trace_events.specs.declared.track.Level.TheVariants.{Owner, Activation, Work}
use Rattle.sa_trace_events.specs.declared.state.Context.{Context}
use Rattle.sa_trace_events.specs.declared.state.Doing.{Doing}
use Rattle.sa_trace_events.specs.declared.state.Doing.TheVariants.{Unseen, Ready, Runs, Section, Stopped, Blocked, Returned, Hand, Away}
use Rattle.sa_trace_events.specs.declared.state.Holder.{Holder}
use Rattle.sa_trace_events.specs.declared.state.Holder.TheVariants.{Nobody, Handler, Thread}
use Rattle.sa_trace_events.specs.declared.state.Tally.{Tally}

-- PROCESSORS. The activation that runs on a processor, from its upcall on, until it is stopped, blocks or loses the processor.
abbrev pub act_after : Option ActNo → Record → Option ActNo
act_after act (what.Up s a) = Some a
act_after act (what.Stop s t a) = None
act_after act (what.Block s t a io) = None
act_after act (what.Move o n) = None
act_after act what.Tick = None
act_after act other = act

abbrev pub context_after : ProcNo → Context → Item → Context
context_after p c i = if i.proc.0 == p.0 then record { look = look_after c.look i.what; act = act_after c.act i.what } else c

abbrev pub same_space : Option SpaceNo → Option SpaceNo → Bool
same_space None None = true
same_space (Some s) (Some u) = s.0 == u.0
same_space a b = false

abbrev pub same_act : Option ActNo → Option ActNo → Bool
same_act None None = true
same_act (Some a) (Some b) = a.0 == b.0
same_act a b = false

-- a kind shows the same: of a lower kind all that the upper ones show, and its own
abbrev pub same_context : Level → Context → Context → Bool
same_context Owner a b = same_space (owner a.look) (owner b.look)
same_context Activation a b = same_space (owner a.look) (owner b.look) && same_act a.act b.act
same_context Work a b = (same_space (owner a.look) (owner b.look) && same_act a.act b.act) && same_look a.look b.look

-- THREADS. The thread that a record names.
abbrev pub is_thread : SpaceNo → ThreadNo → SpaceNo → ThreadNo → Bool
is_thread s t u v = u.0 == s.0 && v.0 == t.0

abbrev pub is_thread_of : SpaceNo → ThreadNo → SpaceNo → Option ThreadNo → Bool
is_thread_of s t u None = false
is_thread_of s t u (Some v) = is_thread s t u v

-- the processor does something for another one, or for none
abbrev pub left : ProcNo → Doing → Doing
left p (Runs q) = if q.0 == p.0 then Away else Runs q
left p (Section q) = if q.0 == p.0 then Away else Section q
left p doing = doing

-- at a list it runs, in its copy if it was there
abbrev pub at_list : ProcNo → Doing → Doing
at_list p (Section q) = Section q
at_list p doing = Runs p

-- it does this where the record is its own; else the processor may have left it
abbrev pub own_or_left : Bool → ProcNo → Doing → Doing → Doing
own_or_left own p next doing = if own then next else left p doing

abbrev pub doing_by : SpaceNo → ThreadNo → ProcNo → Doing → Record → Doing
doing_by s t p d (what.Ins u v i) = own_or_left (is_thread s t u v) p (Runs p) d
doing_by s t p d (what.Out u v n) = own_or_left (is_thread s t u v) p (Runs p) d
doing_by s t p d (what.Run u v) = own_or_left (is_thread s t u v) p (Runs p) d
doing_by s t p d (what.Ready u v) = if is_thread s t u v then Ready else d
doing_by s t p d (what.Stop u v a) = own_or_left (is_thread_of s t u v) p Stopped d
doing_by s t p d (what.Block u v a io) = own_or_left (is_thread_of s t u v) p (Blocked io) d
doing_by s t p d (what.Unblock u v a) = if is_thread_of s t u v then Returned else d
doing_by s t p d (what.Cont u v) = own_or_left (is_thread_of s t u v) p (Section p) d
doing_by s t p d (what.Back u v) = own_or_left (is_thread_of s t u v) p Hand d
doing_by s t p d (what.Take u l v) = own_or_left (is_thread_of s t u v) p (at_list p d) d
doing_by s t p d (what.Free u l v) = own_or_left (is_thread_of s t u v) p (at_list p d) d
doing_by s t p d (what.Up u a) = left p d
doing_by s t p d what.Idle = left p d
doing_by s t p d other = d

abbrev pub same_doing : Doing → Doing → Bool
same_doing Unseen Unseen = true
same_doing Ready Ready = true
same_doing (Runs p) (Runs q) = p.0 == q.0
same_doing (Section p) (Section q) = p.0 == q.0
same_doing Stopped Stopped = true
same_doing (Blocked a) (Blocked b) = a.0 == b.0
same_doing Returned Returned = true
same_doing Hand Hand = true
same_doing Away Away = true
same_doing a b = false

-- LOCKS
abbrev pub held : ProcNo → Option ThreadNo → Holder
held p None = Handler p
held p (Some t) = Thread p t

abbrev pub holder_by : SpaceNo → ProcNo → ProcNo → Holder → Record → Holder
holder_by s l p h (what.Take u m t) = if u.0 == s.0 && m.0 == l.0 then held p t else h
holder_by s l p h (what.Free u m t) = if u.0 == s.0 && m.0 == l.0 then Nobody else h
holder_by s l p h other = h

abbrev pub same_holder : Holder → Holder → Bool
same_holder Nobody Nobody = true
same_holder (Handler p) (Handler q) = p.0 == q.0
same_holder (Thread p t) (Thread q u) = p.0 == q.0 && t.0 == u.0
same_holder a b = false

-- COUNTS
abbrev pub more : Tally → Tally
more y = record { n = min (y.n + 1) (2 ^ 64 - 1); told = y.told; aims = y.aims }

abbrev pub less : Tally → Tally
less y = record { n = y.n - 1; told = y.told; aims = y.aims }

abbrev pub more_if : Bool → Tally → Tally
more_if b y = if b then more y else y

abbrev pub less_if : Bool → Tally → Tally
less_if b y = if b then less y else y

abbrev pub demand_by : SpaceNo → Tally → Record → Tally
demand_by s y (what.Want u n) = if u.0 == s.0 then record { n = n; told = y.told; aims = y.aims } else y
demand_by s y other = y

abbrev pub aimed_to : ProcNo → Tally → Tally → Tally
aimed_to p old new = more_if (is_aimed new.aims p && not (is_aimed old.aims p)) (less_if (is_aimed old.aims p && not (is_aimed new.aims p)) new)

abbrev pub aimed_by : SpaceNo → Tally → Record → Tally
aimed_by s y (what.Aim p u) = aimed_to p y (record { n = y.n; told = y.told; aims = with_aim y.aims p (is_space s u) })
aimed_by s y other = y

abbrev pub owned_by : SpaceNo → Tally → Record → Tally
owned_by s y (what.Move o n) = more_if (is_space s n) (less_if (is_space s o) y)
owned_by s y other = y

abbrev pub ready_by : SpaceNo → Tally → Record → Tally
ready_by s y (what.Ready u t) = more_if (u.0 == s.0) y
ready_by s y (what.Run u t) = less_if (u.0 == s.0) y
ready_by s y other = y

-- a notice that an upcall passes; a processor that is added is none that waited
abbrev pub told_by : Tally → Note → Tally
told_by y (Add p) = y
told_by y other = less_if y.told y

abbrev pub untold_by : SpaceNo → Tally → Record → Tally
untold_by s y (what.Up u a) = record { n = y.n; told = u.0 == s.0; aims = y.aims }
untold_by s y (what.Stop u t a) = more_if (u.0 == s.0) y
untold_by s y (what.Block u t a io) = more_if (u.0 == s.0) y
untold_by s y (what.Unblock u t a) = more_if (u.0 == s.0) y
untold_by s y (what.Told note) = told_by y note
untold_by s y other = y

abbrev pub tally_by : SpaceNo → Count → Tally → Record → Tally
tally_by s count.Demand y r = demand_by s y r
tally_by s count.Aimed y r = aimed_by s y r
tally_by s count.Owned y r = owned_by s y r
tally_by s count.Ready y r = ready_by s y r
tally_by s count.Untold y r = untold_by s y r
