-- What is said of a thread.
use Rattle.std.specs.Prelude.{ℕ, ◌-◌, ◌==◌, ◌++◌, Bool, true, false, List, [], length, take, nat_lt, if◌then◌else◌, codes, decimal, Option, Some, None}
use Rattle.sa_base.specs.declared.number.SpaceNo.{SpaceNo}
use Rattle.sa_base.specs.declared.number.ThreadNo.{ThreadNo}
use Rattle.sa_laws.specs.declared.place.Place.{Place}
use Rattle.sa_laws.specs.declared.place.Place.TheVariants.{Running, Ready, Blocked, Waiting, Carried, Done}
use Rattle.sa_laws.specs.State.{thread_at}
use Rattle.sa_waits.specs.declared.wait.Awaited.{Awaited}
use Rattle.sa_waits.specs.declared.wait.Awaited.TheVariants.{Mutex, Semaphore, Thread}
use Rattle.sa_waits.specs.declared.wait.Wait.{Wait}
use Rattle.toga_source.specs.Names.{NamesView, name_at}
use Rattle.toga_source.specs.Show.{with_numbers}
use Rattle.toga_say.specs.declared.notes.Left.{Left}
use Rattle.toga_say.specs.declared.notes.Left.TheVariants.{Stopped, InIo, Faulted, Returned}
use Rattle.toga_say.specs.declared.thread.TheConstants.{MAX_OUTS}
use Rattle.toga_say.specs.Scene.{SceneView}
use Rattle.toga_say.specs.Names.{thread_name, place_text}

-- another thread of the space, or the thread itself
abbrev pub who : SceneView → NamesView → SpaceNo → (me t : ThreadNo) → List ℕ
who scene own s me t = if me.0 == t.0 then codes "itself" else thread_name scene own s t

-- that the thread that holds a mutex is done
abbrev pub is_done : Place → Bool
is_done Done = true
is_done _ = false

abbrev pub done_word : Bool → List ℕ
done_word done = if done then codes ", which is done" else []

-- what a thread waits for
unfoldable pub mutex_words : SceneView → NamesView → SpaceNo → (me : ThreadNo) → (mutex : ℕ) → (holder : ThreadNo) → List ℕ
mutex_words scene own s me mutex holder =
    codes "mutex " ++ name_at own.mutexes mutex ++ codes ", held by " ++ who scene own s me holder
    ++ done_word (is_done (thread_at scene.replay.state s holder).place)

unfoldable pub signal_text : List ℕ → List ℕ
signal_text name = codes "a signal of semaphore " ++ name

abbrev pub semaphore_words : NamesView → (semaphore : ℕ) → List ℕ
semaphore_words own semaphore = signal_text (name_at own.semaphores semaphore)

abbrev pub awaited_words : SceneView → NamesView → SpaceNo → (me : ThreadNo) → Awaited → List ℕ
awaited_words scene own s me (Mutex mutex holder) = mutex_words scene own s me mutex holder
awaited_words scene own s me (Semaphore semaphore) = semaphore_words own semaphore
awaited_words scene own s me (Thread t) = codes "the end of " ++ who scene own s me t

unfoldable pub waits_text : SceneView → NamesView → Wait → List ℕ
waits_text scene own wait =
    codes "waits at " ++ place_text scene own wait.space wait.thread wait.place ++ codes ", for "
    ++ awaited_words scene own wait.space wait.thread wait.awaits

-- where a thread is that is to go on
abbrev pub carried_words : Left → List ℕ
carried_words Returned = codes "is back from the kernel, and not yet ready"
carried_words _ = codes "was stopped by an interrupt"

abbrev pub going_words : Place → Left → List ℕ
going_words (Running p) left = codes "runs on processor " ++ decimal p.0
going_words Ready left = codes "is ready to run"
going_words Carried left = carried_words left
going_words _ left = codes "is about to be made ready"

unfoldable pub going_text : SceneView → NamesView → SpaceNo → ThreadNo → Left → List ℕ
going_text scene own s t left =
    going_words (thread_at scene.replay.state s t).place left ++ codes ", next is " ++ place_text scene own s t (thread_at scene.replay.state s t).pc

-- the place of the instruction that put a thread into the kernel: in an I/O it stands behind it
abbrev pub blocked_place : Left → (pc : ℕ) → ℕ
blocked_place InIo pc = pc - 1
blocked_place _ pc = pc

unfoldable pub blocked_text : SceneView → NamesView → SpaceNo → ThreadNo → Left → List ℕ
blocked_text scene own s t left =
    codes "is blocked since " ++ place_text scene own s t (blocked_place left (thread_at scene.replay.state s t).pc)

abbrev pub standing_by : Place → SceneView → NamesView → SpaceNo → ThreadNo → Left → List ℕ
standing_by Done scene own s t left = codes "is done"
standing_by Blocked scene own s t left = blocked_text scene own s t left
standing_by _ scene own s t left = going_text scene own s t left

-- one that waits is in a queue; any other is said by where it is
abbrev pub says : SceneView → NamesView → SpaceNo → ThreadNo → Left → Option Wait → List ℕ
says scene own s t left None = standing_by (thread_at scene.replay.state s t).place scene own s t left
says scene own s t left (Some wait) = waits_text scene own wait

-- the values that it put out: the first sixteen, and how many more there are
abbrev pub value_text : ℕ → ℕ → List ℕ
value_text number value = (if number == 0 then [] else codes ", ") ++ decimal value

abbrev pub more_text : ℕ → List ℕ
more_text count = if nat_lt MAX_OUTS count then codes " and " ++ decimal (count - MAX_OUTS) ++ codes " more" else []

unfoldable pub outs_text : List ℕ → List ℕ
outs_text outs = if length outs == 0 then [] else codes "; put out " ++ with_numbers value_text (take MAX_OUTS outs) ++ more_text (length outs)

-- the line of a thread, which left its processor so, and put these values out
unfoldable pub thread_text : SceneView → NamesView → SpaceNo → ThreadNo → Left → (outs : List ℕ) → Option Wait → List ℕ
thread_text scene own s t left outs wait =
    codes "  " ++ thread_name scene own s t ++ codes " " ++ says scene own s t left wait ++ outs_text outs ++ codes "\n"
