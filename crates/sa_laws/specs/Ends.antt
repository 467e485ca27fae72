-- How a run ends.
use Rattle.std.specs.Prelude.{◌≡◌, ◌≢◌, ℕ, Bool, true, false, [], Option, Some, None}
use Rattle.std.specs.List.{list_all}
use Rattle.sa_base.specs.declared.number.ProcNo.{ProcNo}
use Rattle.sa_base.specs.declared.number.ActNo.{ActNo}
use Rattle.sa_base.specs.declared.record.End.{End}
use Rattle.sa_base.specs.declared.record.End.TheVariants.{AllDone, Stuck, Budget}
use Rattle.sa_laws.specs.declared.place.Place.{Place}
use Rattle.sa_laws.specs.declared.place.Place.TheVariants.{Running, Ready, Carried, Done}
use Rattle.sa_laws.specs.State.{Thread, SpaceState}
use Rattle.sa_laws.specs.Life.{Life}
use Rattle.sa_laws.specs.Readings.{Readings, line_of, life_of}

-- every thread that was made is done
abbrev pub is_done : Place → Bool
is_done Done = true
is_done _ = false

abbrev pub are_done : SpaceState → Bool
are_done x = list_all (λ (thread : Thread). is_done thread.place) x.threads

abbrev pub IsAllDone : Readings → Type 0
IsAllDone r = list_all are_done r.state.spaces ≡ true

-- no thread is ready, runs or is carried
abbrev pub is_at_rest : Place → Bool
is_at_rest (Running p) = false
is_at_rest Ready = false
is_at_rest Carried = false
is_at_rest _ = true

abbrev pub are_at_rest : SpaceState → Bool
are_at_rest x = list_all (λ (thread : Thread). is_at_rest thread.place) x.threads

-- some thread is not done, and nothing can happen any more: no thread is ready, runs or is carried, no I/O is under
-- way, no line is raised, and no life is in
pub record IsStuck (r : Readings) : Type 0 where
  pub some : IsAllDone r → ⊥
  pub rest : list_all are_at_rest r.state.spaces ≡ true
  pub ios : r.under_way ≡ []
  pub lines : (p : ProcNo) → line_of r p ≡ None
  pub inside : (a : ActNo) (life : Life) → life_of r a ≡ Some life → life.inside ≡ false

-- neither
pub record GoesOn (r : Readings) : Type 0 where
  pub done : IsAllDone r → ⊥
  pub stuck : IsStuck r → ⊥

-- the end after n events, with a budget: the first that holds
abbrev pub EndsWith : ℕ → Readings → ℕ → Option End → Type 0
EndsWith budget r events (Some AllDone) = IsAllDone r
EndsWith budget r events (Some Stuck) = IsStuck r
EndsWith budget r events (Some Budget) = GoesOn r × (events ≡ budget)
EndsWith budget r events None = GoesOn r × (events ≢ budget)

-- what the last line of a trace says: the end and the number of events
pub record LastLine : Type 0 where
  pub end : End
  pub events : ℕ

-- The end, at an event with this moment after it: where more events follow, the run goes on; else the last line tells
-- how it ended.
abbrev pub IsToldEnd : Readings → End → Type 0
IsToldEnd r AllDone = IsAllDone r
IsToldEnd r Stuck = IsStuck r
IsToldEnd r Budget = GoesOn r

abbrev pub EndIsTold : Readings → ℕ → Option LastLine → Type 0
EndIsTold r number None = GoesOn r
EndIsTold r number (Some line) = (line.events ≡ number) × IsToldEnd r line.end
