-- How many threads of a state are where, and how that is said.
use Rattle.std.specs.Prelude.{ℕ, zero, suc, ◌+◌, ◌==◌, Bool, true, false, if◌then◌else◌, List, [], ◌++◌, length, codes, decimal}
use Rattle.sa_base.specs.declared.number.SpaceNo.{SpaceNo}
use Rattle.sa_base.specs.declared.number.ThreadNo.{ThreadNo}
use Rattle.sa_laws.specs.declared.place.Place.{Place}
use Rattle.sa_laws.specs.declared.place.Place.TheVariants as place
use Rattle.sa_laws.specs.State.{State, space_at, thread_at, is_due}
use Rattle.sa_page.specs.declared.ended.counts.Standing.{Standing}
use Rattle.sa_page.specs.declared.ended.counts.Standing.TheVariants.{Done, Runs, Ready, Waits, Blocked, Unready}

-- the sum of what comes of the numbers below n
unfoldable pub sum_below : (ℕ → ℕ) → ℕ → ℕ
sum_below f zero = 0
sum_below f (suc n) = sum_below f n + f n

-- how a thread stands: one that waits in no queue was forked or woken, and is to be made ready
abbrev pub waiting_by : Bool → Standing
waiting_by due = if due then Unready else Waits

abbrev pub standing_by : Place → Bool → Standing
standing_by (place.Running p) due = Runs
standing_by place.Ready due = Ready
standing_by place.Blocked due = Blocked
standing_by place.Waiting due = waiting_by due
standing_by place.Carried due = Unready
standing_by place.Done due = Done

abbrev pub standing_of : State → SpaceNo → ThreadNo → Standing
standing_of a s t = standing_by (thread_at a s t).place (is_due (space_at a s) t)

abbrev pub same_standing : Standing → Standing → Bool
same_standing Done Done = true
same_standing Runs Runs = true
same_standing Ready Ready = true
same_standing Waits Waits = true
same_standing Blocked Blocked = true
same_standing Unready Unready = true
same_standing x y = false

-- how many threads that were made stand so: of a space, of all; and how many were made
abbrev pub one_if : Bool → ℕ
one_if b = if b then 1 else 0

abbrev pub stands_so : State → Standing → SpaceNo → ℕ → ℕ
stands_so a x s t = one_if (same_standing (standing_of a s (record { 0 = t })) x)

abbrev pub count_in : State → Standing → SpaceNo → ℕ
count_in a x s = sum_below (stands_so a x s) (length (space_at a s).threads)

abbrev pub count_at : State → Standing → ℕ → ℕ
count_at a x s = count_in a x (record { 0 = s })

abbrev pub count_of : State → Standing → ℕ
count_of a x = sum_below (count_at a x) (length a.spaces)

abbrev pub made_at : State → ℕ → ℕ
made_at a s = length (space_at a (record { 0 = s })).threads

abbrev pub made_of : State → ℕ
made_of a = sum_below (made_at a) (length a.spaces)

-- the words of a number of threads
abbrev pub one_stands : Standing → List ℕ
one_stands Done = codes " is done"
one_stands Runs = codes " runs"
one_stands Ready = codes " is ready"
one_stands Waits = codes " waits"
one_stands Blocked = codes " is blocked"
one_stands Unready = codes " is to be made ready"

abbrev pub some_stand : Standing → List ℕ
some_stand Done = codes " are done"
some_stand Runs = codes " run"
some_stand Ready = codes " are ready"
some_stand Waits = codes " wait"
some_stand Blocked = codes " are blocked"
some_stand Unready = codes " are to be made ready"

abbrev pub standing_words : ℕ → Standing → List ℕ
standing_words n x = if n == 1 then one_stands x else some_stand x

unfoldable pub counted_words : ℕ → Standing → List ℕ
counted_words n x = decimal n ++ standing_words n x

-- those that are done are counted in any case, the others where there are some
unfoldable pub more_words : ℕ → Standing → List ℕ
more_words n x = codes ", " ++ counted_words n x

abbrev pub more_if : ℕ → Standing → List ℕ
more_if n x = if n == 0 then [] else more_words n x

unfoldable pub others_words : State → List ℕ
others_words a =
    more_if (count_of a Runs) Runs ++ more_if (count_of a Ready) Ready ++ more_if (count_of a Waits) Waits ++ more_if (count_of a Blocked) Blocked
    ++ more_if (count_of a Unready) Unready

abbrev pub threads_word : ℕ → List ℕ
threads_word n = if n == 1 then codes " thread " else codes " threads "

unfoldable pub of_words : ℕ → List ℕ
of_words n = codes " Of " ++ decimal n ++ threads_word n

unfoldable pub parted_words : State → List ℕ
parted_words a = of_words (made_of a) ++ counted_words (count_of a Done) Done ++ others_words a ++ codes "."

abbrev pub made_word : ℕ → List ℕ
made_word n = if n == 1 then codes " thread was made." else codes " threads were made."

unfoldable pub made_words : ℕ → List ℕ
made_words n = codes " " ++ decimal n ++ made_word n

abbrev pub counts_words : State → List ℕ
counts_words a = if count_of a Done == made_of a then made_words (made_of a) else parted_words a
