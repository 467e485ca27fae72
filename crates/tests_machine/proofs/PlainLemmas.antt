-- Plain entries say what any history reads, so a history goes on by them.
use Rattle.std.proofs.Common.{◌≡◌, ℕ, ◌<◌, ◌≤◌, ◌/◌, ◌%◌, ◌==◌, if◌then◌else◌, inl, inr, ◌∙◌, length, Bool, true, false, not, ◌&&◌, is_none, IsSome, Option, Some, None, List, [], ◌∷◌, ◌++◌, refl, sym, ap, subst}
use Rattle.std.proofs.lemmas.List.{append-nil}
use Rattle.sa_base.specs.declared.number.ProcNo.{ProcNo}
use Rattle.sa_base.specs.declared.number.ThreadNo.{ThreadNo}
use Rattle.sa_base.specs.declared.record.Item.{Item}
use Rattle.sa_spaces.specs.Workload.{WorkloadView}
use Rattle.sa_kernel_model.specs.declared.entry.Entry.{Entry}
use Rattle.sa_kernel_model.specs.declared.entry.Entry.TheVariants.{Interrupt, Block, Complete, More, Idle, GiveBack, InterruptOwn}
use Rattle.sa_base.specs.declared.record.Record.TheVariants.{Tick}
use Rattle.sa_kernel_model.specs.State.{KernelState, Scene, line_of}
use Rattle.sa_kernel_model.specs.Entries.{evicted_at}
use Rattle.sa_kernel_model.specs.Entering.{MayEnter}
use Rattle.sa_kernel_laws.specs.Turn.{SaysRightly}
use Rattle.sa_kernel_laws.specs.Histories.{IsHistory, IsUnderWay, IsLonger, GoesOnLawfully, QuietEventsGoOn, read_from, read_within}
use Rattle.sa_kernel_laws.proofs.histories.Histories.{last_of-push}
use Rattle.sa_laws.specs.Readings.{Readings}
use Rattle.sa_laws.specs.History.{Test}
use Rattle.sa_laws.specs.Event.{Event}
use Rattle.sa_laws.specs.Opening.{opening_event}
use Rattle.sa_laws.specs.Closing.{first_space}
use Rattle.tests_machine.specs.Plain.{IsPlain, IsLawful, IsSameSlice, GoesFrom}

-- who carries a thread is not idle
busy : (inside : Bool) (thread : Option ThreadNo) (idle : Bool) → IsSome thread → idle ≡ false → idle ≡ (not inside && is_none thread)
busy inside None idle some is = absurd cc
busy true (Some t) idle some is = is
busy false (Some t) idle some is = is

says-rightly : (w : WorkloadView) (k : KernelState ℕ) (p : ProcNo) (r m : Readings) (entry : Entry ℕ) → IsPlain entry → SaysRightly w k p r m [] (Some entry)
says-rightly w k p r m (Interrupt None) plain = (refl, tt)
says-rightly w k p r m (Interrupt (Some held)) plain = (refl, λ a life run is. busy life.inside held.thread held.idle plain.thread plain.busy)
says-rightly w k p r m (Block held len page) plain = absurd plain
says-rightly w k p r m (Complete io) plain = refl
says-rightly w k p r m (More n) plain = refl
says-rightly w k p r m Idle plain = refl
says-rightly w k p r m GiveBack plain = refl
says-rightly w k p r m (InterruptOwn q) plain = refl

-- an entry fits after the evictions of its event as before them
fits-evicted : (e n : ℕ) (k : KernelState ℕ) (p : ProcNo) (entry : Entry ℕ) → MayEnter k p e entry → MayEnter (evicted_at n k) p e entry
fits-evicted e n k p (Interrupt held) fit = record { raised = fit.raised; held = fit.held; owned = fit.owned }
fits-evicted e n k p (Block held len page) fit = record { space = fit.space; asks = record { owner = fit.asks.owner; low = fit.asks.low }; page = fit.page }
fits-evicted e n k p (Complete io) fit = record { here = fit.here; under_way = fit.under_way; low = fit.low }
fits-evicted e n k p (More m) fit = record { space = fit.space; asks = record { owner = fit.asks.owner; low = fit.asks.low }; some = fit.some; few = fit.few }
fits-evicted e n k p Idle fit = record { space = fit.space; asks = record { owner = fit.asks.owner; low = fit.asks.low }; some = fit.some }
fits-evicted e n k p GiveBack fit = record { space = fit.space; asks = record { owner = fit.asks.owner; low = fit.asks.low }; some = fit.some }
fits-evicted e n k p (InterruptOwn q) fit = record {
  space = fit.space;
  asks = record { owner = fit.asks.owner; low = fit.asks.low };
  other = fit.other;
  within = fit.within;
  owned = record { owner = fit.owned.owner; low = fit.owned.low };
}

longer-lawful : (test : Test) (w : WorkloadView) (events : List Event) (e : ℕ) (p : ProcNo) (x : Scene ℕ) → IsLonger test w events e p x → IsLawful test w e x
longer-lawful test w events e p x next = record {
  events = events ++ next.event ∷ [];
  last_is = ap (λ (ev : Event). ev.number) (last_of-push (opening_event w) events next.event) ∙ next.number;
  history = next.history;
}

-- a history goes on by a plain entry
pub enter-lawful : (e : ℕ) (p : ProcNo) (entry : Entry ℕ) (old mid : KernelState ℕ) (before items : List Item) (new : Scene ℕ) → items ≡ before
    → mid ≡ evicted_at e old → old.telling ≡ [] → MayEnter old p e entry → IsPlain entry
    → GoesOnLawfully e p (Some entry) (record { state = mid; items = items }) new → (slice last : ℕ)
    → GoesFrom slice last e (record { state = old; items = before }) new
enter-lawful e p entry old mid before items new same evicts fetched fit plain goes slice last test w slices past =
    longer-lawful test w past.events e p new (goes test w past.events [] (record {
      before = record { state = old; items = before };
      history = past.history;
      state = evicts;
      items = same ∙ sym (append-nil before);
      fetched = ap (λ (k : KernelState ℕ). k.telling) evicts ∙ fetched;
      fits = subst (λ (k : KernelState ℕ). MayEnter k p e entry) (sym evicts) (fits-evicted e e old p entry fit);
      right = (let r = read_from test w past.events in says-rightly w mid p r (read_within w e p r []) entry plain);
    }))

-- an event of a tick goes on
ticks : (test : Test) (w : WorkloadView) (events : List Event) (e : ℕ) (p : ProcNo) (old mid : KernelState ℕ) (before items : List Item)
    → items ≡ before ++ record { event = e; proc = p; what = Tick } ∷ [] → mid ≡ evicted_at e old → old.telling ≡ [] → line_of old p ≡ None
    → IsHistory test w events (record { state = old; items = before }) → IsUnderWay test w events e p (Tick ∷ []) None (record { state = mid; items = items })
ticks test w events e p old mid before items added evicts fetched low past = record {
  before = record { state = old; items = before };
  history = past;
  state = evicts;
  items = added;
  fetched = ap (λ (k : KernelState ℕ). k.telling) evicts ∙ fetched;
  fits = ap (λ (k : KernelState ℕ). line_of k p) evicts ∙ low;
  right = ((λ (none : Tick ∷ [] ≡ []). cc), refl);
}

same-first : (w : WorkloadView) (slice last e : ℕ) → w.slice ≡ slice → IsSameSlice slice last e → first_space w e ≡ first_space w last
same-first w slice last e is (inl none) =
    ap (λ n. if n == 0 then 0 else (e / n) % length w.spaces) (is ∙ none) ∙ sym (ap (λ n. if n == 0 then 0 else (last / n) % length w.spaces) (is ∙ none))
same-first w slice last e is (inr same) =
    ap (λ n. if n == 0 then 0 else (e / n) % length w.spaces) is ∙ ap (λ q. if slice == 0 then 0 else q % length w.spaces) same
    ∙ sym (ap (λ n. if n == 0 then 0 else (last / n) % length w.spaces) is)

-- a history goes on by a tick, at the end of a slice and without the kernel
pub tick-lawful : (slice last e : ℕ) (p : ProcNo) (old mid : KernelState ℕ) (before items : List Item) (new : Scene ℕ)
    → items ≡ before ++ record { event = e; proc = p; what = Tick } ∷ [] → mid ≡ evicted_at e old → old.telling ≡ [] → line_of old p ≡ None
    → GoesOnLawfully e p None (record { state = mid; items = items }) new → GoesFrom slice last e (record { state = old; items = before }) new
tick-lawful slice last e p old mid before items new added evicts fetched low goes test w slices past =
    longer-lawful test w past.events e p new
    (goes test w past.events (Tick ∷ []) (ticks test w past.events e p old mid before items added evicts fetched low past.history))

pub quiet-lawful : (slice last e : ℕ) (p : ProcNo) (old mid : KernelState ℕ) (before items : List Item)
    → items ≡ before ++ record { event = e; proc = p; what = Tick } ∷ [] → mid ≡ evicted_at e old → old.telling ≡ [] → line_of old p ≡ None
    → p.0 < length old.lives → 1 ≤ e → IsSameSlice slice last e → QuietEventsGoOn ℕ
    → GoesFrom slice last e (record { state = old; items = before }) (record { state = mid; items = items })
quiet-lawful slice last e p old mid before items added evicts fetched low within later same goes test w slices past =
    let quiet : Event = record { number = e; proc = p; records = Tick ∷ [] } in
    record {
      events = past.events ++ quiet ∷ [];
      last_is = ap (λ (ev : Event). ev.number) (last_of-push (opening_event w) past.events quiet);
      history = goes test w past.events e p (Tick ∷ []) (record { state = mid; items = items })
          (ticks test w past.events e p old mid before items added evicts fetched low past.history)
          (subst (λ (k : KernelState ℕ). p.0 < length k.lives) (sym evicts) within) later
          (same-first w slice last e slices same ∙ ap (first_space w) (sym past.last_is));
    }
