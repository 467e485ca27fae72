-- What a life has: locks of ready lists, threads in its hand, an open cont; and the lives that are taken.
use Rattle.std.specs.Prelude.{ℕ, ◌==◌, Bool, true, false, not, if◌then◌else◌, List, [], ◌∷◌, ◌++◌, map, drop, filter, Option, Some, None, slice_get}
use Rattle.std.specs.List.{list_any}
use Rattle.sa_base.specs.declared.number.ProcNo.{ProcNo}
use Rattle.sa_base.specs.declared.number.SpaceNo.{SpaceNo}
use Rattle.sa_base.specs.declared.number.ThreadNo.{ThreadNo}
use Rattle.sa_base.specs.declared.number.ActNo.{ActNo}
use Rattle.sa_base.specs.declared.record.Note.TheVariants.{Preempted, Unblocked}
use Rattle.sa_base.specs.declared.record.Record.{Record}
use Rattle.sa_base.specs.declared.record.Record.TheVariants.{Ins, Run, Stop, Block, Unblock, Cont, Back, Ready, Take, Free, Up, Told, GiveBack}
use Rattle.sa_base.specs.declared.record.Item.{Item}
use Rattle.sa_spaces.specs.Workload.{WorkloadView}
use Rattle.sa_lemmas.specs.Function.{put}
use Rattle.sa_laws.specs.Machine.{next_effect}
use Rattle.sa_laws.specs.State.{space_at}
use Rattle.sa_laws.specs.Life.{Lock, same_thread, change_first, readied, ran, inherited}
use Rattle.sa_laws.specs.Readings.{Listed, first_listed, counts}
use Rattle.sa_laws.specs.Record.{one_thread, list_of, is_other_thread}
use Rattle.sa_promises.specs.Along.{along}
use Rattle.sa_promises.specs.Moments.{Home, machine_of, runs_on, last_up, home_of}

-- Something that each activation number has. The value of one number, if it is given, is changed; a life is told of to
-- the life of an up, which gets what it has, and it has nothing from then on.
abbrev pub change : {A : Type 0} → (A → A) → Option ActNo → (ℕ → A) → ℕ → A
change f None has = has
change f (Some a) has = put has a.0 (f (has a.0))

abbrev pub pass : {A : Type 0} → Option ActNo → ActNo → (ℕ → List A) → ℕ → List A
pass up a has = change (λ things. things ++ has a.0) up (put has a.0 [])

-- The hand of a life: none at its up, and then those of the lives of which its up tells; the threads that its
-- instructions fork and wake join it, and those that its stop, unblock and back records name; a ready record of the
-- life takes out the thread that it names.
abbrev pub without : ThreadNo → List ThreadNo → List ThreadNo
without t threads = filter (λ u. not (same_thread u t)) threads

abbrev pub hands_by : WorkloadView → List Item → (ℕ → List ThreadNo) → ProcNo → Record → ℕ → List ThreadNo
hands_by w past has p (Up s a) = put has a.0 []
hands_by w past has p (Told (Preempted a)) = pass (last_up past) a has
hands_by w past has p (Told (Unblocked a)) = pass (last_up past) a has
hands_by w past has p (Ins s t i) = change (λ hand. hand ++ (next_effect w (machine_of w past) s t).roused) (runs_on past p) has
hands_by w past has p (Stop s t a) = change (λ hand. hand ++ one_thread t) (Some a) has
hands_by w past has p (Unblock s t a) = change (λ hand. hand ++ one_thread t) (Some a) has
hands_by w past has p (Back s t) = change (λ hand. hand ++ one_thread t) (runs_on past p) has
hands_by w past has p (Ready s t) = change (without t) (runs_on past p) has
hands_by w past has p _ = has

abbrev pub hands_at : WorkloadView → List Item → (ℕ → List ThreadNo) → Item → ℕ → List ThreadNo
hands_at w past has x = hands_by w past has x.proc x.what

abbrev pub hand_of : WorkloadView → List Item → ActNo → List ThreadNo
hand_of w items a = along (hands_at w) (λ b. []) items a.0

-- a thread that is carried or due is in the hand of a life
abbrev pub has_in_hand : WorkloadView → List Item → SpaceNo → Option ActNo → Bool
has_in_hand w past s None = false
has_in_hand w past s (Some a) = list_any (counts (space_at (machine_of w past) s)) (hand_of w past a)

-- the lock that a take gives: for a push where the life has threads in its hand, else for a pop; on the list's own
-- processor, or on another one
abbrev pub taken_lock : WorkloadView → List Item → ProcNo → SpaceNo → ProcNo → Option ThreadNo → Lock
taken_lock w past p s l t = record {
  list = l;
  thread = t;
  for_push = has_in_hand w past s (runs_on past p);
  used = false;
  own = l.0 == p.0;
  inherited = false;
}

-- The locks of a life: none at its up, and then those of the lives of which its up tells, in order, each inherited; a take of
-- the life adds one with the thread that it names; a ready or a run uses the first, and a run gives it its thread; a free
-- takes the first away.
abbrev pub pass_locks : Option ActNo → ActNo → (ℕ → List Lock) → ℕ → List Lock
pass_locks up a has = change (λ locks. locks ++ map inherited (has a.0)) up (put has a.0 [])

abbrev pub locks_by : WorkloadView → List Item → (ℕ → List Lock) → ProcNo → Record → ℕ → List Lock
locks_by w past has p (Up s a) = put has a.0 []
locks_by w past has p (Told (Preempted a)) = pass_locks (last_up past) a has
locks_by w past has p (Told (Unblocked a)) = pass_locks (last_up past) a has
locks_by w past has p (Take s l t) = change (λ locks. locks ++ taken_lock w past p s l t ∷ []) (runs_on past p) has
locks_by w past has p (Ready s t) = change (change_first readied) (runs_on past p) has
locks_by w past has p (Run s t) = change (change_first (ran t)) (runs_on past p) has
locks_by w past has p (Free s l t) = change (drop 1) (runs_on past p) has
locks_by w past has p _ = has

abbrev pub locks_at : WorkloadView → List Item → (ℕ → List Lock) → Item → ℕ → List Lock
locks_at w past has x = locks_by w past has x.proc x.what

abbrev pub locks_of : WorkloadView → List Item → ActNo → List Lock
locks_of w items a = along (locks_at w) (λ b. []) items a.0

-- The ready threads of a space, in the order of their ready records: at the opening thread 0 in list 0; a ready thread's
-- list is the first of its life's locks at its record; a run takes the thread out.
abbrev pub first_list_of : WorkloadView → List Item → Option ActNo → ProcNo → ProcNo
first_list_of w past None p = p
first_list_of w past (Some a) p = list_of (slice_get (locks_of w past a) 0) p

abbrev pub ready_by : WorkloadView → SpaceNo → List Item → List Listed → ProcNo → Record → List Listed
ready_by w s past all p (Ready of t) =
    if of.0 == s.0 then all ++ record { thread = t; list = first_list_of w past (runs_on past p) p } ∷ [] else all
ready_by w s past all p (Run of t) = if of.0 == s.0 then filter (is_other_thread t) all else all
ready_by w s past all p _ = all

abbrev pub ready_at : WorkloadView → SpaceNo → List Item → List Listed → Item → List Listed
ready_at w s past all x = ready_by w s past all x.proc x.what

abbrev pub ready_in : WorkloadView → List Item → SpaceNo → List Listed
ready_in w items s = along (ready_at w s) (first_listed ∷ []) items

-- A cont of a life is open until its back; at the life's up there is none, and once it is told of, its thread is in the
-- hand of another.
abbrev pub conts_by : List Item → (ℕ → Bool) → ProcNo → Record → ℕ → Bool
conts_by past has p (Up s a) = put has a.0 false
conts_by past has p (Told (Preempted a)) = put has a.0 false
conts_by past has p (Told (Unblocked a)) = put has a.0 false
conts_by past has p (Cont s t) = change (λ cont. true) (runs_on past p) has
conts_by past has p (Back s t) = change (λ cont. false) (runs_on past p) has
conts_by past has p _ = has

abbrev pub conts_at : List Item → (ℕ → Bool) → Item → ℕ → Bool
conts_at past has x = conts_by past has x.proc x.what

abbrev pub has_cont : List Item → ActNo → Bool
has_cont items a = along conts_at (λ b. false) items a.0

-- The thread of a life's stop or block.
abbrev pub stopped_by : (ℕ → Option ThreadNo) → Record → ℕ → Option ThreadNo
stopped_by has (Up s a) = put has a.0 None
stopped_by has (Stop s t a) = put has a.0 t
stopped_by has (Block s t a io) = put has a.0 t
stopped_by has _ = has

abbrev pub stopped_at : List Item → (ℕ → Option ThreadNo) → Item → ℕ → Option ThreadNo
stopped_at past has x = stopped_by has x.what

abbrev pub stopped_of : List Item → ActNo → Option ThreadNo
stopped_of items a = along stopped_at (λ b. None) items a.0

-- The taken lives of a space, in order: each from the telling of its stop or unblock to its giveback.
abbrev pub is_home : SpaceNo → Option Home → Bool
is_home s None = false
is_home s (Some home) = home.space.0 == s.0

abbrev pub is_other : ActNo → ActNo → Bool
is_other a b = not (b.0 == a.0)

abbrev pub taken_by : SpaceNo → List Item → List ActNo → Record → List ActNo
taken_by s past taken (Told (Preempted a)) = if is_home s (home_of past a) then taken ++ a ∷ [] else taken
taken_by s past taken (Told (Unblocked a)) = if is_home s (home_of past a) then taken ++ a ∷ [] else taken
taken_by s past taken (GiveBack a) = if is_home s (home_of past a) then filter (is_other a) taken else taken
taken_by s past taken _ = taken

abbrev pub taken_at : SpaceNo → List Item → List ActNo → Item → List ActNo
taken_at s past taken x = taken_by s past taken x.what

abbrev pub taken_in : List Item → SpaceNo → List ActNo
taken_in items s = along (taken_at s) [] items
