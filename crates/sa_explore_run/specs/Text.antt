-- The text of what a search through every order of turns found.
use Rattle.std.specs.Prelude.{ℕ, ◌+◌, ◌==◌, if◌then◌else◌, List, [], ◌∷◌, ◌++◌, length, codes, decimal, Option, Some, None}
use Rattle.std.specs.List.{flat_map}
use Rattle.sa_base.specs.declared.number.ProcNo.{ProcNo}
use Rattle.sa_explore_model.specs.declared.answer.Extent.{Extent}
use Rattle.sa_explore_model.specs.declared.answer.Extent.TheVariants.{All, Part}
use Rattle.sa_explore_model.specs.declared.answer.Found.{Found}
use Rattle.sa_explore_model.specs.declared.answer.Explored.{Explored}
use Rattle.sa_waits.specs.declared.wait.Awaited.{Awaited}
use Rattle.sa_waits.specs.declared.wait.Awaited.TheVariants.{Mutex, Semaphore, Thread}
use Rattle.sa_waits.specs.declared.wait.Wait.{Wait}

-- a number after a space
abbrev pub number_text : ℕ → List ℕ
number_text n = codes " " ++ decimal n

-- a word and the numbers after it; the same as a line
abbrev pub words : List ℕ → List ℕ → List ℕ
words word numbers = word ++ flat_map number_text numbers

abbrev pub line : List ℕ → List ℕ → List ℕ
line word numbers = words word numbers ++ codes "\n"

-- turns of one processor in a row
pub record Turns : Type 0 where
  pub proc : ProcNo
  pub turns : ℕ

-- that many turns of a processor, and those after them: each row is as long as it can be
abbrev pub turns_from : ProcNo → ℕ → List ProcNo → List Turns
turns_from p n [] = record { proc = p; turns = n } ∷ []
turns_from p n (q ∷ qs) = if q.0 == p.0 then turns_from p (n + 1) qs else record { proc = p; turns = n } ∷ turns_from q 1 qs

abbrev pub turns_of : List ProcNo → List Turns
turns_of [] = []
turns_of (p ∷ ps) = turns_from p 1 ps

-- a schedule: a line for each row of turns
abbrev pub given_line : Turns → List ℕ
given_line row = line (codes "given") (row.proc.0 ∷ row.turns ∷ [])

abbrev pub given_text : List ProcNo → List ℕ
given_text schedule = flat_map given_line (turns_of schedule)

-- how much was looked at: the states, and the depth
abbrev pub extent_word : Extent → List ℕ
extent_word All = codes "all"
extent_word Part = codes "part"

abbrev pub extent_line : Explored → List ℕ
extent_line x = line (extent_word x.extent) (x.states ∷ x.depth ∷ [])

-- what was found of an end, or of endless runs: the events of the shortest run, the states, and the schedule
abbrev pub found_text : List ℕ → Found → List ℕ
found_text word found = line word (length found.schedule.items ∷ found.states ∷ []) ++ given_text found.schedule.items

abbrev pub found_if : List ℕ → Option Found → List ℕ
found_if word None = []
found_if word (Some found) = found_text word found

-- a thread that waits: its space, its number, the place of the instruction in which it waits, and what it waits for
abbrev pub awaited_text : Awaited → List ℕ
awaited_text (Mutex mutex holder) = line (codes " mutex") (mutex ∷ holder.0 ∷ [])
awaited_text (Semaphore semaphore) = line (codes " sem") (semaphore ∷ [])
awaited_text (Thread thread) = line (codes " thread") (thread.0 ∷ [])

abbrev pub wait_text : Wait → List ℕ
wait_text wait = words (codes "waits") (wait.space.0 ∷ wait.thread.0 ∷ wait.place ∷ []) ++ awaited_text wait.awaits

-- the whole text, where these threads wait at the end of the schedule to a stuck end
abbrev pub explored_text : Explored → List Wait → List ℕ
explored_text x waits =
    extent_line x ++ (found_if (codes "end alldone") x.all_done
    ++ (found_if (codes "end stuck") x.stuck ++ (flat_map wait_text waits ++ found_if (codes "endless") x.endless)))
