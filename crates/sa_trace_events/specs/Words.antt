-- The words of tracks and slices.
use Rattle.std.specs.Prelude.{ℕ, List, ◌++◌, codes, Option, Some, None}
use Rattle.sa_base.specs.declared.number.ActNo.{ActNo}
use Rattle.sa_base.specs.declared.number.SpaceNo.{SpaceNo}
use Rattle.sa_shapes.specs.declared.look.Look.{Look}
use Rattle.sa_shapes.specs.declared.look.Look.TheVariants as look
use Rattle.sa_shapes.specs.Look.{owner}
use Rattle.sa_svg.specs.Markup.{numbered}
use Rattle.sa_trace_events.specs.declared.track.Count.{Count}
use Rattle.sa_trace_events.specs.declared.track.Count.TheVariants as count
use Rattle.sa_trace_events.specs.declared.track.Level.{Level}
use Rattle.sa_trace_events.specs.declared.track.Level.TheVariants.{Owner, Activation, Work}
use Rattle.sa_trace_events.specs.declared.track.Track.{Track}
use Rattle.sa_trace_events.specs.declared.track.Track.TheVariants as track
use Rattle.sa_trace_events.specs.declared.state.Context.{Context}
use Rattle.sa_trace_events.specs.declared.state.Doing.{Doing}
use Rattle.sa_trace_events.specs.declared.state.Doing.TheVariants.{Unseen, Ready, Runs, Section, Stopped, Blocked, Returned, Hand, Away}
use Rattle.sa_trace_events.specs.declared.state.Holder.{Holder}
use Rattle.sa_trace_events.specs.declared.state.Holder.TheVariants.{Nobody, Handler, Thread}
use Rattle.sa_trace_events.specs.declared.slices.State.{State}
use Rattle.sa_trace_events.specs.declared.slices.State.TheVariants as state
use Rattle.sa_trace_events.specs.Slices.{level_of}

abbrev pub twice_numbered : List ℕ → ℕ → List ℕ → ℕ → List ℕ
twice_numbered word n other m = numbered word n ++ numbered other m

abbrev pub count_word : Count → List ℕ
count_word count.Demand = codes "demand"
count_word count.Aimed = codes "processors aimed"
count_word count.Owned = codes "processors owned"
count_word count.Ready = codes "ready threads"
count_word count.Untold = codes "untold"

abbrev pub owner_name : Option SpaceNo → List ℕ
owner_name None = codes "none"
owner_name (Some s) = numbered (codes "space ") s.0

abbrev pub act_name : Option ActNo → List ℕ
act_name None = codes "none"
act_name (Some a) = numbered (codes "activation ") a.0

abbrev pub work_name : Look → List ℕ
work_name (look.Thread s t) = numbered (codes "thread ") t.0
work_name (look.List s l) = numbered (codes "list ") l.0
work_name (look.Package s) = codes "package"
work_name (look.GoesOn s) = codes "goes on"
work_name (look.Idle s) = codes "look in vain"
work_name (look.Section s) = codes "section in its copy"
work_name look.Unowned = codes "none"
work_name (look.Placed s) = codes "none"

abbrev pub context_name : Level → Context → List ℕ
context_name Owner c = owner_name (owner c.look)
context_name Activation c = act_name c.act
context_name Work c = work_name c.look

abbrev pub doing_name : Doing → List ℕ
doing_name Unseen = codes "none"
doing_name Ready = codes "ready"
doing_name (Runs p) = numbered (codes "runs on processor ") p.0
doing_name (Section p) = numbered (codes "section on processor ") p.0
doing_name Stopped = codes "stopped"
doing_name (Blocked io) = numbered (codes "blocked: io ") io.0
doing_name Returned = codes "returned, not yet ready"
doing_name Hand = codes "in hand"
doing_name Away = codes "waits or is done"

abbrev pub holder_name : Holder → List ℕ
holder_name Nobody = codes "none"
holder_name (Handler p) = numbered (codes "held: processor ") p.0
holder_name (Thread p t) = twice_numbered (codes "held: processor ") p.0 (codes ", thread ") t.0

-- the name of a slice
abbrev pub state_name : Track → State → List ℕ
state_name t (state.Context c) = context_name (level_of t) c
state_name t (state.Doing d) = doing_name d
state_name t (state.Holder h) = holder_name h
state_name t (state.Tally y) = numbered (codes "") y.n

-- what kind of slices a track has
abbrev pub category : Track → List ℕ
category (track.Processor p Owner) = codes "owner"
category (track.Processor p Activation) = codes "activation"
category (track.Processor p Work) = codes "work"
category (track.Thread s t) = codes "thread"
category (track.Lock s l) = codes "lock"
category (track.Count s c) = codes "count"

-- the name of a track
abbrev pub track_name : Track → List ℕ
track_name (track.Processor p level) = numbered (codes "processor ") p.0
track_name (track.Thread s t) = numbered (codes "thread ") t.0
track_name (track.Lock s l) = numbered (codes "lock of list ") l.0
track_name (track.Count s c) = count_word c
