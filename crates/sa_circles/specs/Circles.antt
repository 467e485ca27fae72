-- Who waits for whom, and the circles of threads of one space that wait for one another.
use Rattle.std.specs.Prelude.{ℕ, zero, suc, ◌==◌, ◌&&◌, Bool, nat_lt, find, List, [], ◌∷◌, length, Option, Some, None, if◌then◌else◌}
use Rattle.std.specs.Option.{option_map}
use Rattle.sa_base.specs.declared.number.SpaceNo.{SpaceNo}
use Rattle.sa_waits.specs.declared.wait.Awaited.{Awaited}
use Rattle.sa_waits.specs.declared.wait.Awaited.TheVariants.{Mutex, Semaphore, Thread}
use Rattle.sa_waits.specs.declared.wait.Wait.{Wait}

-- the thread of its space that a thread waits for: the one that holds its mutex, or whose end it waits for
abbrev pub awaited_thread : Awaited → Option ℕ
awaited_thread (Mutex m t) = Some t.0
awaited_thread (Semaphore k) = None
awaited_thread (Thread t) = Some t.0

-- the wait of a thread, if it waits
abbrev pub is_of : SpaceNo → ℕ → Wait → Bool
is_of s t w = w.space.0 == s.0 && w.thread.0 == t

abbrev pub wait_of : List Wait → SpaceNo → ℕ → Option Wait
wait_of waits s t = find (is_of s t) waits

abbrev pub awaited_of : Option Wait → Option ℕ
awaited_of None = None
awaited_of (Some w) = awaited_thread w.awaits

abbrev pub next_of : List Wait → SpaceNo → ℕ → Option ℕ
next_of waits s t = awaited_of (wait_of waits s t)

-- a circle from thread `home` on, each of which waits for the next: those after thread t, where they come back to `home` within n steps, and
-- `home` is the least of them
abbrev pub rest_by : ℕ → Option ℕ → (ℕ → Option (List ℕ)) → Option (List ℕ)
rest_by home None rest = None
rest_by home (Some u) rest = if u == home then Some [] else if nat_lt u home then None else option_map (λ us. u ∷ us) (rest u)

unfoldable pub rest_from : (ℕ → Option ℕ) → (home t n : ℕ) → Option (List ℕ)
rest_from next home t zero = None
rest_from next home t (suc n) = rest_by home (next t) (λ u. rest_from next home u n)

-- the others of the circle of which this thread is the least, if it is in one
abbrev pub circle_of : List Wait → Wait → Option (List ℕ)
circle_of waits w = rest_from (next_of waits w.space) w.thread.0 w.thread.0 (length waits)
