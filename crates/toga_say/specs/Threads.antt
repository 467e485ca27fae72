-- What is said of all threads.
use Rattle.std.specs.Prelude.{ℕ, ◌==◌, ◌&&◌, ◌++◌, Bool, List, [], ◌∷◌, length, nat_lt, if◌then◌else◌, codes, decimal, count_by}
use Rattle.std.specs.List.{flat_map}
use Rattle.sa_base.specs.declared.number.SpaceNo.{SpaceNo}
use Rattle.sa_laws.specs.State.{State, space_at, thread_at}
use Rattle.sa_waits.specs.declared.wait.Wait.{Wait}
use Rattle.sa_waits.specs.Waits.{all_below}
use Rattle.sa_circles.specs.Circles.{wait_of}
use Rattle.toga_source.specs.Names.{NamesView}
use Rattle.toga_say.specs.declared.threads.ThreadAt.{ThreadAt}
use Rattle.toga_say.specs.declared.threads.TheConstants.{MAX_TOLD}
use Rattle.toga_say.specs.Scene.{SceneView, of_space}
use Rattle.toga_say.specs.Notes.{NoteView, note_of}
use Rattle.toga_say.specs.Thread.{is_done, thread_text}

-- the threads that were made, in order
abbrev pub one_at : (s t : ℕ) → List ThreadAt
one_at s t = record { space = record { 0 = s }; thread = record { 0 = t } } ∷ []

abbrev pub made_in : State → ℕ → List ThreadAt
made_in a s = all_below (one_at s) (length (space_at a (record { 0 = s })).threads)

abbrev pub made_of : State → List ThreadAt
made_of a = all_below (made_in a) (length a.spaces)

-- the line of a thread
abbrev pub told_text : SceneView → List NoteView → List Wait → ThreadAt → NamesView → List ℕ
told_text scene notes waits at own =
    let note = note_of notes at.space at.thread in
    thread_text scene own at.space at.thread note.left note.outs (wait_of waits at.space at.thread.0)

abbrev pub line_text : SceneView → List NoteView → List Wait → ThreadAt → List ℕ
line_text scene notes waits at = of_space scene at.space (told_text scene notes waits at)

-- of many threads, those that are done and put nothing out have one line together
abbrev pub is_quiet : SceneView → List NoteView → ThreadAt → Bool
is_quiet scene notes at =
    is_done (thread_at scene.replay.state at.space at.thread).place && (length (note_of notes at.space at.thread).outs == 0)

abbrev pub are_many : List ThreadAt → Bool
are_many made = nat_lt MAX_TOLD (length made)

abbrev pub line_unless : Bool → SceneView → List NoteView → List Wait → ThreadAt → List ℕ
line_unless many scene notes waits at = if many && is_quiet scene notes at then [] else line_text scene notes waits at

abbrev pub others_text : ℕ → List ℕ
others_text count = if count == 0 then [] else codes "  " ++ decimal count ++ codes " others are done\n"

abbrev pub others_if : Bool → SceneView → List NoteView → List ThreadAt → List ℕ
others_if many scene notes made = if many then others_text (count_by (is_quiet scene notes) made) else []

unfoldable pub threads_text : SceneView → List NoteView → List Wait → List ThreadAt → List ℕ
threads_text scene notes waits made =
    flat_map (line_unless (are_many made) scene notes waits) made ++ others_if (are_many made) scene notes made
