-- What is seen after a whole history, how the threads stand there, and which of them wait.
use Rattle.std.specs.Prelude.{◌≡◌, ◌⊎◌, ℕ, ◌==◌, List, [], ◌∷◌, ◌++◌, codes, decimal, Bool, true, false, Option, Some, None, if◌then◌else◌}
use Rattle.std.specs.List.{flat_map}
use Rattle.sa_base.specs.declared.number.SpaceNo.{SpaceNo}
use Rattle.sa_base.specs.declared.number.ThreadNo.{ThreadNo}
use Rattle.sa_base.specs.declared.record.End.{End}
use Rattle.sa_base.specs.declared.record.End.TheVariants.{Stuck}
use Rattle.sa_laws.specs.Event.{Event}
use Rattle.sa_laws.specs.Step.{IsStepwise}
use Rattle.sa_laws.specs.declared.place.Place.{Place}
use Rattle.sa_laws.specs.declared.place.Place.TheVariants as place
use Rattle.sa_laws.specs.State.{State, thread_at}
use Rattle.sa_check_moment.specs.Seen.{Seen}
use Rattle.sa_check.specs.Judged.{after}
use Rattle.sa_waits.specs.declared.wait.Awaited.{Awaited}
use Rattle.sa_waits.specs.declared.wait.Awaited.TheVariants.{Mutex, Semaphore, Thread}
use Rattle.sa_waits.specs.declared.wait.Wait.{Wait}
use Rattle.sa_waits.specs.Waits.{waits_of}
use Rattle.sa_circles.specs.Circles.{circle_of}
use Rattle.sa_page.specs.Said.{end_said}
use Rattle.sa_page.specs.Counts.{counts_words}

-- what is seen after these events, from the moment before them on; nothing if one of them is not stepwise
abbrev pub EndsAt : Seen → List Event → Option Seen → Type 0
EndsAt m [] end = end ≡ Some m
EndsAt m (e ∷ es) end =
    (IsStepwise m.workload m.readings e × EndsAt (after m e) es end) ⊎ ((IsStepwise m.workload m.readings e → ⊥) × (end ≡ None))

-- a thread that waits: its line, and its words
abbrev pub awaited_line : Awaited → List ℕ
awaited_line (Mutex m t) = codes " mutex " ++ decimal m ++ codes " " ++ decimal t.0 ++ codes "\n"
awaited_line (Semaphore k) = codes " sem " ++ decimal k ++ codes "\n"
awaited_line (Thread t) = codes " thread " ++ decimal t.0 ++ codes "\n"

abbrev pub is_at_end : Place → Bool
is_at_end place.Done = true
is_at_end _ = false

abbrev pub holds_word : Bool → List ℕ
holds_word done = if done then codes " holds, though it is done.\n" else codes " holds.\n"

unfoldable pub other_words : ℕ → Bool → List ℕ
other_words t done = codes ", which thread " ++ decimal t ++ holds_word done

abbrev pub holder_words : State → SpaceNo → (own t : ThreadNo) → List ℕ
holder_words a s own t =
    if own.0 == t.0 then codes ", which it holds itself.\n" else other_words t.0 (is_at_end (thread_at a s t).place)

unfoldable pub semaphore_words : ℕ → List ℕ
semaphore_words k = codes ", for semaphore " ++ decimal k ++ codes ", which nobody is left to signal.\n"

unfoldable pub mutex_words : ℕ → List ℕ
mutex_words m = codes ", for mutex " ++ decimal m

abbrev pub awaited_words : State → SpaceNo → ThreadNo → Awaited → List ℕ
awaited_words a s own (Mutex m t) = mutex_words m ++ holder_words a s own t
awaited_words a s own (Semaphore k) = semaphore_words k
awaited_words a s own (Thread t) = codes ", for the end of thread " ++ decimal t.0 ++ codes ".\n"

unfoldable pub wait_line : Wait → List ℕ
wait_line w = codes "waits " ++ decimal w.space.0 ++ codes " " ++ decimal w.thread.0 ++ codes " " ++ decimal w.place ++ awaited_line w.awaits

unfoldable pub wait_words : State → Wait → List ℕ
wait_words a w =
    codes "Thread " ++ decimal w.thread.0 ++ codes " of space " ++ decimal w.space.0 ++ codes " waits in its instruction " ++ decimal w.place
    ++ awaited_words a w.space w.thread w.awaits

abbrev pub wait_said : State → Wait → List ℕ
wait_said a w = wait_line w ++ wait_words a w

-- a circle: its line, and its words
abbrev pub spaced : ℕ → List ℕ
spaced t = codes " " ++ decimal t

unfoldable pub awaiting : ℕ → List ℕ
awaiting t = codes " waits for thread " ++ decimal t ++ codes ", which"

unfoldable pub circle_line : SpaceNo → ℕ → List ℕ → List ℕ
circle_line s home rest = codes "cycle " ++ decimal s.0 ++ codes " " ++ decimal home ++ flat_map spaced rest ++ codes "\n"

unfoldable pub circle_start : SpaceNo → List ℕ
circle_start s = codes "A circle in space " ++ decimal s.0 ++ codes ": thread "

unfoldable pub circle_return : ℕ → List ℕ
circle_return home = codes " waits for thread " ++ decimal home ++ codes ". None of them can ever go on.\n"

unfoldable pub circle_words : SpaceNo → ℕ → List ℕ → List ℕ
circle_words s home rest = circle_start s ++ decimal home ++ flat_map awaiting rest ++ circle_return home

abbrev pub circle_if : Wait → Option (List ℕ) → List ℕ
circle_if w None = []
circle_if w (Some rest) = circle_line w.space w.thread.0 rest ++ circle_words w.space w.thread.0 rest

abbrev pub circle_said : List Wait → Wait → List ℕ
circle_said waits w = circle_if w (circle_of waits w)

unfoldable pub waits_said : State → List Wait → List ℕ
waits_said a waits = flat_map (wait_said a) waits ++ flat_map (circle_said waits) waits

-- what is said of the threads at the end of a run: how they stand, and if it is stuck, who waits
abbrev pub stuck_said : End → State → List ℕ
stuck_said Stuck a = waits_said a (waits_of a)
stuck_said _ a = []

abbrev pub threads_said : End → State → List ℕ
threads_said end a = counts_words a ++ codes "\n" ++ stuck_said end a

abbrev pub last_said : End → Option Seen → List ℕ
last_said end None = codes "\n"
last_said end (Some m) = threads_said end m.readings.state

-- what is said of the end of these events, from the moment before them on: how the run ended, and of the threads what is seen there
pub record SaysEnd (m : Seen) (end : End) (number : ℕ) (events : List Event) (text : List ℕ) : Type 0 where
  pub last : Option Seen
  pub ends : EndsAt m events last
  pub is : text ≡ end_said end number ++ last_said end last
