-- What a user level owes to the history: laws about its calls, by two relations between what is read and its values.
use Rattle.std.specs.Prelude.{◌≡◌, ◌≢◌, ℕ, ◌+◌, ◌≤◌, ◌<◌, ◌==◌, ◌⊎◌, true, false, ◌&&◌, not, is_none, IsSome, List, Contains, Some, None}
use Rattle.sa_base.specs.declared.number.ProcNo.{ProcNo}
use Rattle.sa_base.specs.declared.number.ActNo.{ActNo}
use Rattle.sa_base.specs.declared.limits.TheConstants.{MAX_EVENTS}
use Rattle.sa_base.specs.declared.context.Seen.{Seen}
use Rattle.sa_base.specs.declared.context.Stopped.{Stopped}
use Rattle.sa_base.specs.declared.record.Note.{Note}
use Rattle.sa_base.specs.declared.record.Note.TheVariants.{Add, Preempted, Blocked, Unblocked}
use Rattle.sa_base.specs.declared.record.Record.{Record}
use Rattle.sa_base.specs.declared.record.Record.TheVariants.{Stop, Unblock, Up, Told}
use Rattle.sa_lemmas.specs.Function.{put}
use Rattle.sa_spaces.specs.Workload.{WorkloadView, IsWorkload}
use Rattle.sa_abstract.specs.Setting.{Setting, IsSetting}
use Rattle.sa_abstract.specs.Calls.{Calls, Contexts}
use Rattle.sa_abstract.specs.Keeps.{Standing, IsHanded, told_contexts, StaysLocal}
use Rattle.sa_laws.specs.declared.place.Place.TheVariants as place
use Rattle.sa_laws.specs.Event.{Event}
use Rattle.sa_laws.specs.Life.{Life}
use Rattle.sa_laws.specs.State.{space_at}
use Rattle.sa_laws.specs.Readings.{Readings, opening_readings, running_of, life_of, owner_of, line_of, untold_of, must_hear}
use Rattle.sa_laws.specs.Record.{after_record, with_life}
use Rattle.sa_laws.specs.History.{arisen}
use Rattle.sa_laws.specs.Step.{StandsIn}
use Rattle.sa_laws.specs.Ends.{are_done, are_at_rest}
use Rattle.sa_laws.specs.Opening.{opening_event}
use Rattle.sa_laws.specs.Rules.{UserRules}
use Rattle.sa_user_laws.specs.Moments.{IsMoment, SameFor, AlikeButDemands, AlikeButEnds, Sees, ThreadsRun}
use Rattle.sa_user_laws.specs.Scene.{Fits, Hears, IsOfSpace, HoldsIn, Holds, IsOn, RunsAlone, IsActing, event_begun_at}
use Rattle.sa_user_laws.specs.Steps.{AreKernels, IsClosed, RulesPass, event_with, IsLegalStep, AreLegalIns}

pub record UserLaws {U C : Type 0} (calls : Calls U C) (stands : Standing U C) (rules : UserRules) (fits : Fits U C) (hears : Hears U C) : Type 0 where
  -- FRAMES. Nothing else of a moment matters than what concerns the space.
  pub same : (w : WorkloadView) (s : Setting) (m n : Readings) (u : U) (cs : Contexts C)
      → IsOfSpace w s → SameFor s.space m n → fits w s m u cs → fits w s n u cs
  pub hears_same : (w : WorkloadView) (s : Setting) (m n : Readings) (a : ActNo) (u : U) (cs : Contexts C)
      → IsOfSpace w s → AlikeButDemands m n → hears w s m a u cs → hears w s n a u cs
  -- WHO RUNS. The threads of the space run where its lives do; on a processor of a running life the thread that its
  -- context carries.
  pub threads : (w : WorkloadView) (s : Setting) (e : ℕ) (r : Readings) (u : U) (cs : Contexts C)
      → IsOfSpace w s → stands s e u cs → fits w s r u cs → ThreadsRun s.space r
  pub hears_threads : (w : WorkloadView) (s : Setting) (e : ℕ) (r : Readings) (a : ActNo) (u : U) (cs : Contexts C)
      → IsOfSpace w s → stands s e u cs → hears w s r a u cs → ThreadsRun s.space r
  pub carries : (w : WorkloadView) (s : Setting) (e : ℕ) (r : Readings) (u : U) (cs : Contexts C) (p : ProcNo) (a : ActNo) (life : Life) (c : C)
      → Holds stands w s e r u cs → fits w s r u cs → IsOn s.space r p a life cs c → RunsAlone s.space r p (calls.thread u c)
  -- THE RULES at events that are no steps.
  pub kernels : (w : WorkloadView) (r : Readings) (e : ℕ) (p : ProcNo) (own closing : List Record)
      → IsWorkload w → IsMoment r → AreKernels own → IsClosed own closing → RulesPass rules w r (event_with e p own closing)
  pub opening : (w : WorkloadView) → IsWorkload w → RulesPass rules w (opening_readings w) (opening_event w)
  -- THE CALLS. At the opening no life of the space is there.
  pub starts : (w : WorkloadView) (s : Setting) → IsOfSpace w s → IsSetting s
      → fits w s (opening_readings w) (calls.started s) (λ a. None)
  -- A step of a running life, and a run of its local instructions; r is read before the event. The line of its processor
  -- is low then: a step is made by nobody whose processor is to be interrupted.
  pub steps : (w : WorkloadView) (s : Setting) (e : ℕ) (r : Readings) (u : U) (cs : Contexts C) (p : ProcNo) (a : ActNo) (life : Life) (c : C) (seen : Seen)
      → IsActing calls stands fits w s e r u cs p a life c
      → Sees s.space (event_begun_at w seen.event p r) p seen.event seen → line_of r p ≡ None → 1 ≤ seen.event → e < seen.event → seen.event ≤ MAX_EVENTS
      → IsLegalStep calls rules fits w s r p seen.event a cs (calls.stepped u seen c)
  pub goes : (w : WorkloadView) (s : Setting) (e : ℕ) (r : Readings) (u : U) (cs : Contexts C) (p : ProcNo) (a : ActNo) (life : Life) (c : C) (seen : Seen)
      (n : ℕ)
      → IsActing calls stands fits w s e r u cs p a life c
      → Sees s.space (event_begun_at w seen.event p r) p seen.event seen → line_of r p ≡ None → 1 ≤ n → e < seen.event → seen.event + n ≤ MAX_EVENTS + 1
      → StaysLocal s n (calls.local u c)
      → AreLegalIns rules w seen.event p r (calls.went u seen c n).says
      (λ last. fits w s last (calls.went u seen c n).user (put cs a.0 (Some (calls.went u seen c n).ctx)))
  -- A running life is stopped, by the first record of an event; r is read before the event. Its context is held from
  -- then on.
  pub stops : (w : WorkloadView) (s : Setting) (e : ℕ) (r : Readings) (u : U) (cs : Contexts C) (p : ProcNo) (a : ActNo) (life : Life) (c : C) (number : ℕ)
      → IsActing calls stands fits w s e r u cs p a life c
      → (calls.idle u c ≡ (not life.inside && is_none (calls.thread u c)))
      × fits w s (after_record w number p (event_begun_at w number p r) (Stop s.space (calls.thread u c) a)) u cs
  -- A blocked life comes back. No notice of it waits; r is read before the record.
  pub unblocks : (w : WorkloadView) (s : Setting) (e : ℕ) (r : Readings) (u : U) (cs : Contexts C) (p : ProcNo) (a : ActNo) (life : Life) (c : C) (number : ℕ)
      → Holds stands w s e r u cs → fits w s r u cs → cs a.0 ≡ Some c → life_of r a ≡ Some life → life.space ≡ s.space
      → ((q : ProcNo) → running_of r q ≢ Some a)
      → (Contains (untold_of r s.space) (Preempted a) → ⊥) → (Contains (untold_of r s.space) (Unblocked a) → ⊥)
      → StandsIn place.Blocked r.state s.space life.thread
      × fits w s (after_record w number p r (Unblock s.space life.thread a)) u cs
  -- AN UPCALL is the up, then each told record in order, then the closing, and the context goes on. Up to there r is
  -- read before the record.
  pub begins : (w : WorkloadView) (s : Setting) (e : ℕ) (r : Readings) (u : U) (cs : Contexts C) (p : ProcNo) (n : ActNo) (seen : Seen) (number : ℕ)
      → HoldsIn stands w s e r u cs → fits w s r u cs → seen.proc ≡ p → p.0 < w.processors → owner_of r p ≡ Some s.space
      → running_of r p ≡ None → life_of r n ≡ None → cs n.0 ≡ None → ((q : ProcNo) → running_of r q ≢ Some n)
      → hears w s (after_record w number p r (Up s.space n)) n (calls.begun u seen).0 (put cs n.0 (Some (calls.begun u seen).1))
  pub tells_add : (w : WorkloadView) (s : Setting) (e : ℕ) (r : Readings) (u : U) (cs : Contexts C) (p : ProcNo) (n : ActNo) (c : C) (number : ℕ) (q : ProcNo)
      → HoldsIn stands w s e r u cs → hears w s r n u cs → cs n.0 ≡ Some c → r.upped ≡ Some n
      → hears w s (after_record w number p r (Told (Add q))) n (calls.told u c (Add q) None).0 (put cs n.0 (Some (calls.told u c (Add q) None).1))
  pub tells_blocked : (w : WorkloadView) (s : Setting) (e : ℕ) (r : Readings) (u : U) (cs : Contexts C) (p : ProcNo) (n : ActNo) (c : C) (number : ℕ)
      (b : ActNo)
      → HoldsIn stands w s e r u cs → hears w s r n u cs → cs n.0 ≡ Some c → r.upped ≡ Some n → Contains (untold_of r s.space) (Blocked b)
      → hears w s (after_record w number p r (Told (Blocked b))) n (calls.told u c (Blocked b) None).0
      (put cs n.0 (Some (calls.told u c (Blocked b) None).1))
  -- With the notice of a stop or an unblock the context of that life is handed over.
  pub tells : (w : WorkloadView) (s : Setting) (e : ℕ) (r : Readings) (u : U) (cs : Contexts C) (p : ProcNo) (n : ActNo) (c : C) (number : ℕ) (note : Note)
      (b : ActNo) (life : Life) (held : Stopped C)
      → HoldsIn stands w s e r u cs → hears w s r n u cs → cs n.0 ≡ Some c → r.upped ≡ Some n → Contains (untold_of r s.space) note
      → (note ≡ Preempted b) ⊎ (note ≡ Unblocked b)
      → life_of r b ≡ Some life → life.space ≡ s.space → held.thread ≡ life.thread → IsHanded cs n.0 note (Some held)
      → hears w s (after_record w number p r (Told note)) n (calls.told u c note (Some held)).0
      (told_contexts cs n.0 (calls.told u c note (Some held)).1 note)
  -- The context goes on, and its event, in which its up is, ends; r is read after the last record. Where another
  -- life of the space has blocked in this event, the end of that one's own event is in r already, and not in `last`.
  pub answers : (w : WorkloadView) (s : Setting) (e : ℕ) (before r last : Readings) (ev : Event) (u : U) (cs : Contexts C) (n : ActNo) (c : C) (seen : Seen)
      → Holds stands w s e r u cs → hears w s r n u cs → cs n.0 ≡ Some c → running_of r ev.proc ≡ Some n
      → Contains ev.records (Up s.space n) → AlikeButEnds last r → Sees s.space r ev.proc ev.number seen
      → fits w s (record r { lives = with_life (arisen rules.inside w before ev last) (Some n) r.lives }) (calls.answered u seen c).0
      (put cs n.0 (Some (calls.answered u seen c).1))
  -- THE END. What the value counts is what the history reads: whether all threads are done, and, where no life has come
  -- back unheard, whether none is ready, runs or is carried.
  pub done : (w : WorkloadView) (s : Setting) (e : ℕ) (r : Readings) (u : U) (cs : Contexts C)
      → Holds stands w s e r u cs → fits w s r u cs
      → ((calls.tally u).done == (calls.tally u).made) ≡ are_done (space_at r.state s.space)
  pub rest : (w : WorkloadView) (s : Setting) (e : ℕ) (r : Readings) (u : U) (cs : Contexts C)
      → Holds stands w s e r u cs → fits w s r u cs → ((b : ActNo) → Contains (untold_of r s.space) (Unblocked b) → ⊥)
      → ((calls.tally u).active == 0) ≡ are_at_rest (space_at r.state s.space)
  -- Where a notice waits for whose sake the space must hear, some thread is not at rest, or some life is in.
  pub must : (w : WorkloadView) (s : Setting) (e : ℕ) (r : Readings) (u : U) (cs : Contexts C) (note : Note)
      → Holds stands w s e r u cs → fits w s r u cs → Contains (untold_of r s.space) note → must_hear r note ≡ true
      → (are_at_rest (space_at r.state s.space) ≡ false) ⊎ ((b : ActNo) × (life : Life) × (life_of r b ≡ Some life) × (life.inside ≡ true))
  -- A life that is in has a context; a running life is in exactly where its context has something left to do.
  pub inside : (w : WorkloadView) (s : Setting) (e : ℕ) (r : Readings) (u : U) (cs : Contexts C) (a : ActNo) (life : Life)
      → Holds stands w s e r u cs → fits w s r u cs → life_of r a ≡ Some life → life.space ≡ s.space → life.inside ≡ true
      → IsSome (cs a.0)
  pub owes : (w : WorkloadView) (s : Setting) (e : ℕ) (r : Readings) (u : U) (cs : Contexts C) (p : ProcNo) (a : ActNo) (life : Life) (c : C)
      → Holds stands w s e r u cs → fits w s r u cs → IsOn s.space r p a life cs c → life.inside ≡ calls.owes u c
