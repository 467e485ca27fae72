-- The slices of a track: each shows one thing, from the item that made the track show it up to the item that makes it show another.
use Rattle.std.specs.Prelude.{ℕ, ◌+◌, ◌-◌, ◌^◌, Bool, true, false, ◌==◌, ◌&&◌, ◌||◌, List, [], ◌∷◌, ◌++◌, None, is_some, min, max, nat_lt, replicate, if◌then◌else◌}
use Rattle.sa_base.specs.declared.record.Item.{Item}
use Rattle.sa_base.specs.declared.record.Record.{Record}
use Rattle.sa_base.specs.declared.record.Record.TheVariants.{Block, Free}
use Rattle.sa_shapes.specs.declared.look.Look.{Look}
use Rattle.sa_shapes.specs.declared.look.Look.TheVariants.{Unowned, Placed}
use Rattle.sa_shapes.specs.declared.shape.TheConstants.{MAX_LANES}
use Rattle.sa_shapes.specs.Look.{owner}
use Rattle.sa_trace_events.specs.declared.track.Level.{Level}
use Rattle.sa_trace_events.specs.declared.track.Level.TheVariants.{Owner, Activation, Work}
use Rattle.sa_trace_events.specs.declared.track.Track.{Track}
use Rattle.sa_trace_events.specs.declared.track.Track.TheVariants as track
use Rattle.sa_trace_events.specs.declared.state.Context.{Context}
use Rattle.sa_trace_events.specs.declared.state.Doing.{Doing}
use Rattle.sa_trace_events.specs.declared.state.Doing.TheVariants.{Unseen}
use Rattle.sa_trace_events.specs.declared.state.Holder.{Holder}
use Rattle.sa_trace_events.specs.declared.state.Holder.TheVariants.{Nobody}
use Rattle.sa_trace_events.specs.declared.slices.Going.{Going}
use Rattle.sa_trace_events.specs.declared.slices.Slice.{Slice}
use Rattle.sa_trace_events.specs.declared.slices.Span.{Span}
use Rattle.sa_trace_events.specs.declared.slices.State.{State}
use Rattle.sa_trace_events.specs.declared.slices.State.TheVariants as state
use Rattle.sa_trace_events.specs.State.{context_after, same_context, doing_by, same_doing, holder_by, same_holder, tally_by}

abbrev pub level_of : Track → Level
level_of (track.Processor p level) = level
level_of other = Work

-- what is shown: an owner; an activation of the owner; what runs for it
abbrev pub is_work : Look → Bool
is_work Unowned = false
is_work (Placed s) = false
is_work other = true

abbrev pub shown_context : Level → Context → Bool
shown_context Owner c = is_some (owner c.look)
shown_context Activation c = is_some (owner c.look) && is_some c.act
shown_context Work c = is_some (owner c.look) && is_work c.look

abbrev pub shown_doing : Doing → Bool
shown_doing Unseen = false
shown_doing other = true

abbrev pub shown_holder : Holder → Bool
shown_holder Nobody = false
shown_holder other = true

-- before the first item: no processor is owned, no thread was seen, no lock is held, and every count is 0
abbrev pub start : Track → State
start (track.Processor p level) = state.Context (record { look = Unowned; act = None })
start (track.Thread s t) = state.Doing Unseen
start (track.Lock s l) = state.Holder Nobody
start (track.Count s c) = state.Tally (record { n = 0; told = false; aims = replicate MAX_LANES false })

-- after an item; the three kinds of a processor go the same way
abbrev pub after : Track → State → Item → State
after (track.Processor p level) (state.Context c) i = state.Context (context_after p c i)
after (track.Thread s t) (state.Doing d) i = state.Doing (doing_by s t i.proc d i.what)
after (track.Lock s l) (state.Holder h) i = state.Holder (holder_by s l i.proc h i.what)
after (track.Count s c) (state.Tally y) i = state.Tally (tally_by s c y i.what)
after t v i = v

abbrev pub same_state : Track → State → State → Bool
same_state t (state.Context a) (state.Context b) = same_context (level_of t) a b
same_state t (state.Doing a) (state.Doing b) = same_doing a b
same_state t (state.Holder a) (state.Holder b) = same_holder a b
same_state t (state.Tally a) (state.Tally b) = a.n == b.n
same_state t a b = true

abbrev pub is_shown : Track → State → Bool
is_shown t (state.Context c) = shown_context (level_of t) c
is_shown t (state.Doing d) = shown_doing d
is_shown t (state.Holder h) = shown_holder h
is_shown t (state.Tally y) = nat_lt 0 y.n

-- what a block ends is shown at its event too, and a lock at that of the record that frees it
abbrev pub is_block : Record → Bool
is_block (Block s t a io) = true
is_block other = false

abbrev pub is_free : Record → Bool
is_free (Free s l t) = true
is_free other = false

abbrev pub is_lock : Track → Bool
is_lock (track.Lock s l) = true
is_lock other = false

abbrev pub is_over_after : Track → Record → Bool
is_over_after t r = is_block r || (is_lock t && is_free r)

abbrev pub since : Track → Item → ℕ
since t i = if is_over_after t i.what then min (i.event + 1) (2 ^ 64 - 1) else i.event

abbrev pub slice_begun : Track → ℕ → Going
slice_begun t begin = record { from = begin; clock = begin; shown = start t; state = start t; first = 0 }

-- a slice goes on where the same is shown, else another one begins
abbrev pub going_by : Bool → Going → State → ℕ → ℕ → Going
going_by true g next clock k = record { from = g.from; clock = clock; shown = g.shown; state = next; first = g.first }
going_by false g next clock k = record { from = clock; clock = clock; shown = next; state = next; first = k }

-- the slice that ends before this event and index; one with no event is none, nor is one that shows nothing
abbrev pub closed : Track → Going → ℕ → ℕ → List Slice
closed t g to last =
    if nat_lt g.from to && is_shown t g.shown
    then record { track = t; from = g.from; to = to; shown = g.shown; first = g.first; last = last } ∷ []
    else []

abbrev pub closed_unless : Bool → Track → Going → ℕ → ℕ → List Slice
closed_unless same t g to last = if same then [] else closed t g to last

abbrev pub slice_goes_on : Track → Going → Item → Bool
slice_goes_on t g i = same_state t g.shown (after t g.state i)

abbrev pub clock_at : Track → Going → Item → ℕ
clock_at t g i = max g.clock (since t i)

abbrev pub slices_from : Track → ℕ → Going → ℕ → List Item → List Slice
slices_from t end g k [] = closed t g (max g.clock end) k
slices_from t end g k (i ∷ is) =
    closed_unless (slice_goes_on t g i) t g (clock_at t g i) k
    ++ slices_from t end (going_by (slice_goes_on t g i) g (after t g.state i) (clock_at t g i) k) (k + 1) is

abbrev pub slices : Span → List Item → Track → List Slice
slices span items t = slices_from t span.end (slice_begun t span.begin) 0 items
