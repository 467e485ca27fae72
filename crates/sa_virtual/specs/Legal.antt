-- Legal runs on virtual processors, their ends, and what was lost in them.
use Rattle.std.specs.Prelude.{◌≡◌, ◌≢◌, ℕ, ◌+◌, ◌==◌, ◌<◌, min, Bool, true, false, count_by, List, [], ◌∷◌, length, Option, Some, None}
use Rattle.std.specs.List.{list_all}
use Rattle.sa_base.specs.declared.number.ProcNo.{ProcNo}
use Rattle.sa_base.specs.declared.number.SpaceNo.{SpaceNo}
use Rattle.sa_base.specs.declared.number.ThreadNo.{ThreadNo}
use Rattle.sa_base.specs.declared.record.Item.{Item}
use Rattle.sa_base.specs.declared.record.End.{End}
use Rattle.sa_base.specs.declared.record.End.TheVariants.{AllDone, Stuck, Budget}
use Rattle.sa_spaces.specs.Workload.{WorkloadView}
use Rattle.sa_devices.specs.Ios.{Io}
use Rattle.sa_devices.specs.declared.kind.IoKind.{IoKind}
use Rattle.sa_devices.specs.declared.kind.IoKind.TheVariants.{Plain, Page, Upcall}
use Rattle.sa_laws.specs.declared.place.Place.{Place}
use Rattle.sa_laws.specs.declared.place.Place.TheVariants.{Ready}
use Rattle.sa_laws.specs.State.{Thread, space_at, is_due}
use Rattle.sa_laws.specs.Event.{Event, events_of}
use Rattle.sa_laws.specs.Step.{IsStepwise}
use Rattle.sa_laws.specs.Ends.{IsAllDone, are_at_rest}
use Rattle.sa_virtual.specs.Virtual.{Virtuals, space_of, opening}
use Rattle.sa_virtual.specs.Turn.{turned, after}

-- an event is the next one, of a processor of the workload; its records are steps of the abstract machine; and it is
-- exactly what the rules say
pub record IsTurn (w : WorkloadView) (v : Virtuals) (e : Event) : Type 0 where
  pub number : e.number ≡ v.base.number
  pub proc : e.proc.0 < w.processors
  pub steps : IsStepwise w v.base e
  pub exact : e.records ≡ (turned w v e.proc).says

abbrev pub AreTurns : WorkloadView → Virtuals → List Event → Type 0
AreTurns w v [] = Unit {0}
AreTurns w v (e ∷ es) = IsTurn w v e × AreTurns w (after w v e.proc) es

abbrev pub IsLegalVp : WorkloadView → List Item → Type 0
IsLegalVp w items = AreTurns w (opening w) (events_of items)

-- what is read after all events
abbrev pub after_all : WorkloadView → Virtuals → List Event → Virtuals
after_all w v [] = v
after_all w v (e ∷ es) = after_all w (after w v e.proc) es

-- LOSSES: after each event, as many of a space's ready threads as there are blocked virtual processors of it
abbrev pub is_of : SpaceNo → IoKind → Bool
is_of s (Plain t a) = (space_of a).0 == s.0
is_of s (Page t a k) = (space_of a).0 == s.0
is_of s (Upcall t) = false

abbrev pub blocked_in : Virtuals → SpaceNo → ℕ
blocked_in v s = count_by (λ (io : Io). is_of s io.kind) v.base.under_way

abbrev pub is_ready : Place → Bool
is_ready Ready = true
is_ready _ = false

abbrev pub ready_in : Virtuals → SpaceNo → ℕ
ready_in v s = count_by (λ (thread : Thread). is_ready thread.place) (space_at v.base.state s).threads

abbrev pub lost_from : WorkloadView → Virtuals → List Event → SpaceNo → ℕ
lost_from w v [] s = 0
lost_from w v (e ∷ es) s =
    let next = after w v e.proc in min (blocked_in next s) (ready_in next s) + lost_from w next es s

abbrev pub lost_of : WorkloadView → List Event → SpaceNo → ℕ
lost_of w events s = lost_from w (opening w) events s

-- ENDS: some thread is not done, and nothing can happen any more
abbrev pub NobodyIsDue : Virtuals → Type 0
NobodyIsDue v = (s : SpaceNo) (t : ThreadNo) → is_due (space_at v.base.state s) t ≡ false

pub record IsStuck (v : Virtuals) : Type 0 where
  pub some : IsAllDone v.base → ⊥
  pub rest : list_all are_at_rest v.base.state.spaces ≡ true
  pub due : NobodyIsDue v
  pub ios : v.base.under_way ≡ []

pub record VirtualsGoOn (v : Virtuals) : Type 0 where
  pub done : IsAllDone v.base → ⊥
  pub stuck : IsStuck v → ⊥

abbrev pub EndsWith : ℕ → Virtuals → ℕ → Option End → Type 0
EndsWith budget v events (Some AllDone) = IsAllDone v.base
EndsWith budget v events (Some Stuck) = IsStuck v
EndsWith budget v events (Some Budget) = VirtualsGoOn v × (events ≡ budget)
EndsWith budget v events None = VirtualsGoOn v × (events ≢ budget)

abbrev pub EndOfVp : WorkloadView → ℕ → List Item → Option End → Type 0
EndOfVp w budget items end = EndsWith budget (after_all w (opening w) (events_of items)) (length (events_of items)) end

-- THE RUN of an order of processors: the one history that is legal with these turns
abbrev pub run_from : WorkloadView → Virtuals → List ProcNo → List Event
run_from w v [] = []
run_from w v (p ∷ ps) =
    record { number = v.base.number; proc = p; records = (turned w v p).says } ∷ run_from w (after w v p) ps
