-- A life: what runs from an upcall on, under the number of its activation.
use Rattle.std.specs.Prelude.{ℕ, Bool, true, false, not, ◌==◌, List, [], ◌∷◌, ◌++◌, map, filter, drop, Option, Some, None, slice_get}
use Rattle.sa_base.specs.declared.number.ProcNo.{ProcNo}
use Rattle.sa_base.specs.declared.number.SpaceNo.{SpaceNo}
use Rattle.sa_base.specs.declared.number.ThreadNo.{ThreadNo}

-- the lock of a ready list that a life has
pub record Lock : Type 0 where
  -- the list, one of its life's space
  pub list : ProcNo
  -- the thread that its take named, and after its run the thread that was run
  pub thread : Option ThreadNo
  -- it was taken for a push, and not for a pop
  pub for_push : Bool
  -- it has got its ready or run record
  pub used : Bool
  -- it was taken on the list's own processor
  pub own : Bool
  -- the life got it at its up, and did not take it itself
  pub inherited : Bool

pub record Life : Type 0 where
  pub space : SpaceNo
  pub proc : ProcNo
  -- in order; the first is the one that is used next
  pub locks : List Lock
  -- there is a cont of this life without its back
  pub cont : Bool
  -- the threads that it is to make ready; only those that are carried or due count
  pub hand : List ThreadNo
  -- the thread of its stop or block
  pub thread : Option ThreadNo
  -- it was idle directly before the event of its stop
  pub idle : Bool
  -- it is in, by what was so at the end of its last own event
  pub inside : Bool
  -- its last own event was a free
  pub freed : Bool
  -- how many looks at the ready lists found no thread, since it last did something else
  pub scans : ℕ

-- a life at its up
abbrev pub new_life : SpaceNo → ProcNo → Life
new_life s p = record {
  space = s;
  proc = p;
  locks = [];
  cont = false;
  hand = [];
  thread = None;
  idle = false;
  inside = false;
  freed = false;
  scans = 0;
}

abbrev pub same_thread : ThreadNo → ThreadNo → Bool
same_thread t u = t.0 == u.0

abbrev pub some_lock : List Lock → Bool
some_lock [] = false
some_lock (lock ∷ locks) = true

abbrev pub has_lock : Life → Bool
has_lock life = some_lock life.locks

-- the first of its locks
abbrev pub first_lock : Life → Option Lock
first_lock life = slice_get life.locks 0

-- with one lock more; without the first; with the first one changed
abbrev pub with_lock : Lock → Life → Life
with_lock lock life = record life { locks = life.locks ++ lock ∷ [] }

abbrev pub without_lock : Life → Life
without_lock life = record life { locks = drop 1 life.locks }

abbrev pub change_first : (Lock → Lock) → List Lock → List Lock
change_first f [] = []
change_first f (lock ∷ locks) = f lock ∷ locks

abbrev pub with_first : (Lock → Lock) → Life → Life
with_first f life = record life { locks = change_first f life.locks }

-- the lock gets its ready record; its run record, of a thread
abbrev pub readied : Lock → Lock
readied lock = record lock { used = true }

abbrev pub ran : ThreadNo → Lock → Lock
ran t lock = record lock { used = true; thread = Some t }

-- threads join the hand; one leaves it
abbrev pub with_hand : List ThreadNo → Life → Life
with_hand threads life = record life { hand = life.hand ++ threads }

abbrev pub without_thread : ThreadNo → Life → Life
without_thread t life = record life { hand = filter (λ u. not (same_thread u t)) life.hand }

abbrev pub with_cont : Bool → Life → Life
with_cont cont life = record life { cont = cont }

-- its stop or block names this thread
abbrev pub held_with : Option ThreadNo → Life → Life
held_with t life = record life { thread = t }

-- a life is told of another one's stop or unblock: it gets that one's locks and hand, which has neither from then on
abbrev pub inherited : Lock → Lock
inherited lock = record lock { inherited = true }

abbrev pub inherits : Life → Life → Life
inherits from life = record life { locks = life.locks ++ map inherited from.locks; hand = life.hand ++ from.hand }

abbrev pub bereft : Life → Life
bereft life = record life { locks = []; cont = false; hand = []; inside = false }
