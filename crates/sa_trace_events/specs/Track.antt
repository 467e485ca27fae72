-- Where a viewer puts a track: the numbers of its process and of its thread.
use Rattle.std.specs.Prelude.{ℕ, ◌+◌}
use Rattle.sa_trace_events.specs.declared.track.Count.{Count}
use Rattle.sa_trace_events.specs.declared.track.Count.TheVariants.{Demand, Aimed, Owned, Ready, Untold}
use Rattle.sa_trace_events.specs.declared.track.Track.{Track}
use Rattle.sa_trace_events.specs.declared.track.Track.TheVariants as track

abbrev pub count_number : Count → ℕ
count_number Demand = 0
count_number Aimed = 1
count_number Owned = 2
count_number Ready = 3
count_number Untold = 4

-- the processors are process 1, the spaces 10 and on
abbrev pub pid_of : Track → ℕ
pid_of (track.Processor p level) = 1
pid_of (track.Thread s t) = 10 + s.0
pid_of (track.Lock s l) = 10 + s.0
pid_of (track.Count s c) = 10 + s.0

-- processors and threads from 1 on, locks from 1001, counts from 2001
abbrev pub tid_of : Track → ℕ
tid_of (track.Processor p level) = 1 + p.0
tid_of (track.Thread s t) = 1 + t.0
tid_of (track.Lock s l) = 1001 + l.0
tid_of (track.Count s c) = 2001 + count_number c
