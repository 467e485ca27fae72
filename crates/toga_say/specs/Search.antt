-- What is said of a search through every order of turns.
use Rattle.std.specs.Prelude.{ℕ, ◌++◌, List, [], length, codes, decimal, Option, Some, None}
use Rattle.std.specs.List.{flat_map}
use Rattle.sa_explore_model.specs.declared.answer.Extent.{Extent}
use Rattle.sa_explore_model.specs.declared.answer.Extent.TheVariants.{All, Part}
use Rattle.sa_explore_model.specs.declared.answer.Found.{Found}
use Rattle.sa_explore_model.specs.declared.answer.Explored.{Explored}
use Rattle.sa_waits.specs.declared.wait.Wait.{Wait}
use Rattle.sa_waits.specs.Waits.{waits_of}
use Rattle.toga_source.specs.Show.{schedule_text}
use Rattle.toga_say.specs.declared.threads.ThreadAt.{ThreadAt}
use Rattle.toga_say.specs.Scene.{SceneView}
use Rattle.toga_say.specs.Notes.{NoteView, notes_of}
use Rattle.toga_say.specs.Threads.{line_text}
use Rattle.toga_say.specs.Circles.{circles_text}

-- the answer in one sentence
abbrev pub safe_text : Extent → List ℕ
safe_text All = codes "It cannot get stuck, and from everywhere some order of turns leads to the end.\n"
safe_text Part = codes "Nothing was found that gets stuck, but not every order of turns was looked at.\n"

abbrev pub answer_by : Option Found → Option Found → Extent → List ℕ
answer_by (Some stuck) endless extent = codes "It can get stuck.\n"
answer_by None (Some endless) extent = codes "It cannot get stuck, but it can come to where no order of turns leads to an end.\n"
answer_by None None extent = safe_text extent

-- how much was looked at
unfoldable pub all_text : (states depth : ℕ) → List ℕ
all_text states depth =
    codes "Every order of turns was looked at: " ++ decimal states ++ codes " states, the farthest " ++ decimal depth ++ codes " turns away.\n"

unfoldable pub part_text : (states depth : ℕ) → List ℕ
part_text states depth =
    codes "Not every order of turns was looked at: " ++ decimal states ++ codes " states, and every order of at most " ++ decimal depth ++ codes " turns.\n"

abbrev pub extent_by : Extent → (states depth : ℕ) → List ℕ
extent_by All states depth = all_text states depth
extent_by Part states depth = part_text states depth

-- an end that was found, with its schedule
unfoldable pub soonest_text : List ℕ → (events states : ℕ) → List ℕ
soonest_text word events states =
    codes "\n" ++ word ++ codes ": the soonest after " ++ decimal events ++ codes " events, in " ++ decimal states ++ codes " states."

abbrev pub found_text : List ℕ → Found → List ℕ
found_text word found = soonest_text word (length found.schedule.items) found.states ++ schedule_text (codes "  ") found.schedule.items

abbrev pub found_if : List ℕ → Option Found → List ℕ
found_if word None = []
found_if word (Some found) = found_text word found

-- the threads that wait there, and who waits for whom
abbrev pub at_wait : Wait → ThreadAt
at_wait wait = record { space = wait.space; thread = wait.thread }

abbrev pub wait_line : SceneView → List NoteView → List Wait → Wait → List ℕ
wait_line scene notes waits wait = line_text scene notes waits (at_wait wait)

unfoldable pub waiting_text : SceneView → List Wait → List ℕ
waiting_text scene waits =
    flat_map (wait_line scene (notes_of (length scene.replay.state.spaces) scene.items) waits) waits ++ circles_text scene waits

abbrev pub waiting_if : Option SceneView → List ℕ
waiting_if None = []
waiting_if (Some scene) = waiting_text scene (waits_of scene.replay.state)

-- the whole answer, where the machine at the stuck end is this one
unfoldable pub search_text : Explored → Option SceneView → List ℕ
search_text x stuck =
    answer_by x.stuck x.endless x.extent ++ extent_by x.extent x.states x.depth ++ found_if (codes "Every thread done") x.all_done
    ++ found_if (codes "Stuck") x.stuck ++ waiting_if stuck ++ found_if (codes "No end any more") x.endless
