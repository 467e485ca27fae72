-- Where a run is stuck, each thread that was made and is not done waits in a queue.
use Rattle.std.proofs.Common.{◌≡◌, ℕ, zero, suc, ◌+◌, ◌<◌, Bool, true, false, ◌||◌, List, [], ◌∷◌, ◌++◌, length, Option, Some, None, IsSome, refl, sym, ap, ◌∙◌, subst, inl, inr, arith}
use Rattle.std.specs.Prelude.{slice_index_or}
use Rattle.std.specs.Option.{option_map}
use Rattle.std.specs.List.{list_all}
use Rattle.std.proofs.lemmas.Bool.{cases_lt}
use Rattle.std.proofs.lemmas.List.{get_or_past}
use Rattle.std.proofs.lemmas.Option.{get_or_from_slice_get}
use Rattle.sa_base.specs.declared.number.ActNo.{ActNo}
use Rattle.sa_base.specs.declared.number.ThreadNo.{ThreadNo}
use Rattle.sa_base.specs.declared.record.End.{End}
use Rattle.sa_lemmas.proofs.ListReads.{read-at}
use Rattle.sa_spaces.specs.Workload.{WorkloadView, IsWorkload}
use Rattle.sa_sync.specs.Sync.{Waits}
use Rattle.sa_abstract.specs.Calls.{Contexts}
use Rattle.sa_abstract.specs.Setting.{Setting}
use Rattle.sa_laws.specs.Ends.{is_done, is_at_rest, are_at_rest, IsStuck, EndsWith}
use Rattle.sa_laws.specs.Event.{Event}
use Rattle.sa_laws.specs.Life.{Life}
use Rattle.sa_laws.specs.Opening.{opening_event}
use Rattle.sa_laws.specs.Readings.{Readings, life_of, opening_readings}
use Rattle.sa_laws.specs.State.{Thread, SpaceState, opening_state, no_threads, space_at, thread_in}
use Rattle.sa_core_model.specs.Machine.{Machine}
use Rattle.sa_core_model.specs.Run.{setting}
use Rattle.sa_core_model.specs.Run.Move.{turn}
use Rattle.sa_core_model.specs.Standing.{contexts_of}
use Rattle.sa_user_laws.specs.Level.{UserLevel}
use Rattle.sa_user_laws.specs.Scene.{Holds}
use Rattle.sa_legal_runs.proofs.matching.Composed.{IsComposed, read, holds-at}
use Rattle.sa_legal_runs.proofs.matching.Lists.{all-pass}
use Rattle.sa_legal_runs.proofs.runs.Ending.{ends-with}
use Rattle.sa_legal_runs.proofs.runs.LegalRuns.{IsReached, reached-move, reached-opening}
use Rattle.sa_legal_runs.proofs.runs.OnTheWay.{on-the-way}
use Rattle.sa_fast_laws.proofs.lives.Waiting.{IsOnItsWay, rest-waits}
use Rattle.sa_fast_laws.proofs.FrameLaws.{fast-based}
use Rattle.sa_fast_laws.proofs.FastLaws.{fast_level}
use Rattle.sa_fast_laws.specs.View.{view}
use Rattle.sa_prio_model.specs.Stands.{unmarked_of, bases}
use Rattle.sa_prio_model.specs.declared.context.PrioContext.{PrioContext}
use Rattle.sa_prio_laws.proofs.frames.Frames.{prio-based}
use Rattle.sa_prio_laws.proofs.PrioLaws.{prio_level}
use Rattle.sa_prio_laws.specs.PrioFits.{prio_view}
use Rattle.sa_debug.specs.Reached.{Reaches}
use Rattle.sa_debug.specs.Stuck.{EachLeftWaits, StuckThreadsWait}
use Rattle.sa_debug.specs.Views.{state_behind}
use Rattle.sa_package_runs.proofs.Playable.{events-state}

-- what passes everywhere in a list passes at a place within it
passes-at : {A : Type 0} (g : A → Bool) (xs : List A) (i : ℕ) (d : A) → list_all g xs ≡ true → i < length xs
    → g (slice_index_or xs i d) ≡ true
passes-at g xs i d all below =
    let x = read-at xs i below in ap g (get_or_from_slice_get xs i x.0 d x.1) ∙ all-pass g xs i x.0 all x.1

-- WHAT A USER LEVEL GIVES: where no life is in and each context runs or is to be told of, a thread that is left waits.
abbrev pub LeftWait : {U C : Type 0} → UserLevel U C → Type 0
LeftWait {U} {C} level =
    (w : WorkloadView) (s : Setting) (e : ℕ) (r : Readings) (u : U) (cs : Contexts C)
    → Holds level.stands w s e r u cs → level.fits w s r u cs
    → ((a : ActNo) (life : Life) → life_of r a ≡ Some life → life.inside ≡ false)
    → ((a : ActNo) → IsSome (cs a.0) → IsOnItsWay r s.space a) → (t : ThreadNo) → t.0 < length (space_at r.state s.space).threads
    → is_at_rest (thread_in (space_at r.state s.space) t).place ≡ true → is_done (thread_in (space_at r.state s.space) t).place ≡ false
    → Waits (space_at r.state s.space).sync t.0

pub fast-left : LeftWait fast_level
fast-left w s e r u cs h k none ways =
    rest-waits s e r u cs h.value k.holds view (λ c. c) cs (fast-based cs) k.rest (λ c is. is) (λ c is. is) none ways

first-false : (a b : Bool) → (a || b) ≡ false → a ≡ false
first-false true b is = is
first-false false b is = refl

based-some : (cs : Contexts PrioContext) (a : ℕ) → IsSome (bases cs a) → IsSome (cs a)
based-some cs a some = by (cs a) some where
  by : (o : Option PrioContext) → IsSome (option_map unmarked_of o) → IsSome o
  by None some = some
  by (Some c) some = refl

pub prio-left : LeftWait prio_level
prio-left w s e r v cs h k none ways =
    rest-waits s e r v.base (bases cs) h.value.base k.lives.holds prio_view (λ c. c.base) cs (prio-based cs) k.lives.rest
    (λ c is. first-false _ _ is) (λ c is. is) none (λ a some. ways a (based-some cs a.0 some))

module _ {U C : Type 0} (level : UserLevel U C) (law : LeftWait level) (w : WorkloadView) where
  reached : (budget n : ℕ) (m : Machine U C) → IsWorkload w → Reaches level.calls w budget n m → (events : List Event) × IsReached level w events m
  reached budget zero m ok is = ([], subst (λ (z : Machine U C). IsReached level w [] z) (sym is) (reached-opening level w ok))
  reached budget (suc n) m ok is =
      let before = reached budget n is.0 ok is.2 in
      let go = reached-move level w before.0 is.0 (turn is.1) m before.1 is.4 in
      (before.0 ++ go.0, go.1)

  -- the state of a history that is stuck
  stuck-waits : (events : List Event) (m : Machine U C) → IsComposed level w events m → IsStuck (read level w events) → EachLeftWaits (read level w events).state
  stuck-waits events m c stuck s t left = elim (cases_lt s.0 (length w.spaces)) [
    | inl below ↦
        let user = read-at m.users s.0 (omega (arith, below, c.between.standing.users, ap (λ (v : WorkloadView). length v.spaces) c.workload)) in
        let def = read-at w.spaces s.0 below in
        let rests = passes-at are_at_rest r.state.spaces s.0 no_threads stuck.rest (let all = c.sized.spaces in omega (arith, all, below)) in
        law w (setting w s.0 def.0) m.event r user.0 (contexts_of m s.0) (holds-at level w events m s.0 user.0 def.0 c user.1 def.1)
        (c.fit s.0 user.0 def.0 user.1 def.1) stuck.inside (on-the-way level w events m c stuck.ios s) t left.made
        (passes-at (λ (thread : Thread). is_at_rest thread.place) (space_at r.state s).threads t.0 _ rests left.made) left.undone
    | inr past ↦
        let none : space_at r.state s ≡ no_threads = get_or_past r.state.spaces s.0 no_threads (let all = c.sized.spaces in omega (arith, all, past)) in
        let made = left.made in
        absurd (omega (arith, made, ap (λ (x : SpaceState). length x.threads) none))
  ]
    where
      r : Readings
      r = read level w events

  -- EACH THREAD THAT IS LEFT WAITS
  pub left-wait : (budget : ℕ) → IsWorkload w → StuckThreadsWait level.calls w budget
  left-wait budget ok n m is ended =
      let here = reached budget n m ok is in
      let c = here.1.composed in
      let stuck : IsStuck (read level w here.0) =
      subst (λ (o : Option End). EndsWith budget (read level w here.0) m.event o) ended (ends-with level w here.0 m budget c here.1.home) in
      let same : state_behind w (opening_state w) m.items ≡ (read level w here.0).state =
      ap (state_behind w (opening_state w)) c.history.items
      ∙ sym (events-state level.rules.inside w (opening_readings w) (opening_event w ∷ here.0)) in
      subst EachLeftWaits (sym same) (stuck-waits here.0 m c stuck)
