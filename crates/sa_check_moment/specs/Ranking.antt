-- Threads by their ranks are the ready ones of a history.
use Rattle.std.specs.Prelude.{◌≡◌, ℕ, ◌+◌, ◌==◌, Bool, cond, List, [], ◌∷◌, ◌++◌, map, filter, length, slice_index_or}
use Rattle.sa_base.specs.declared.number.SpaceNo.{SpaceNo}
use Rattle.sa_base.specs.declared.number.ThreadNo.{ThreadNo}
use Rattle.sa_base.specs.declared.record.Record.{Record}
use Rattle.sa_base.specs.declared.record.Record.TheVariants.{Run, Ready}
use Rattle.sa_laws.specs.State.{State, SpaceState, space_at, thread_in}
use Rattle.sa_laws.specs.Readings.{Listed}
use Rattle.sa_ranks.specs.Pairs.{is_ready, rank_in}
use Rattle.sa_check_moment.specs.Ranked.{row_at, row_stack, stack_at, without, HasStack}

-- the threads of a rank among those that are ready
abbrev pub has_rank : SpaceState → ℕ → Listed → Bool
has_rank x k listed = rank_in x listed.thread == k

abbrev pub thread_of : Listed → ThreadNo
thread_of listed = listed.thread

abbrev pub of_rank : SpaceState → ℕ → List Listed → List ThreadNo
of_rank x k listed = map thread_of (filter (has_rank x k) listed)

abbrev pub is_listed : ThreadNo → Listed → Bool
is_listed t listed = listed.thread.0 == t.0

-- how often a thread is listed
abbrev pub times_in : ThreadNo → List Listed → ℕ
times_in t [] = 0
times_in t (listed ∷ others) = cond (is_listed t listed) 1 0 + times_in t others

-- of one space: a thread is listed once where it is ready, and else nowhere; and these are the listed ones by their ranks
pub record IsRanked (x : SpaceState) (listed : List Listed) (row : List (List ThreadNo)) : Type 0 where
  pub once : (t : ThreadNo) → times_in t listed ≡ cond (is_ready (thread_in x t).place) 1 0
  pub each : (k : ℕ) → row_stack row k ≡ of_rank x k listed

-- of each space
pub record AreRanked (a : State) (ready : List (List Listed)) (v : List (List (List ThreadNo))) : Type 0 where
  pub listed : length ready ≡ length a.spaces
  pub rows : length v ≡ length a.spaces
  pub each : (s : SpaceNo) → IsRanked (space_at a s) (slice_index_or ready s.0 []) (row_at v s)

-- after a record, on the state before it
abbrev pub ReadsRanked : State → Record → List (List (List ThreadNo)) → List (List (List ThreadNo)) → Type 0
ReadsRanked a (Ready s t) old new =
    let rank = rank_in (space_at a s) t in HasStack old s rank (stack_at old s rank ++ t ∷ []) new
ReadsRanked a (Run s t) old new =
    let rank = rank_in (space_at a s) t in HasStack old s rank (without t (stack_at old s rank)) new
ReadsRanked a _ old new = new ≡ old
