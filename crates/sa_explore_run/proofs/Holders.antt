-- In the states of the abstract machine nobody waits for a mutex that nobody holds.
use Rattle.std.proofs.Common.{◌≡◌, ℕ, zero, suc, Bool, true, false, List, [], ◌∷◌, ◌++◌, length, map, replicate, get_or, nat_lt, not, ◌&&◌, Option, Some, None, refl, ◌∙◌}
use Rattle.std.specs.Prelude.{if◌then◌else◌, slice_set, ◌^◌, ◌-◌}
use Rattle.std.proofs.lemmas.List.{length-set, length-replicate}
use Rattle.sa_base.specs.declared.limits.TheConstants.{MAX_THREADS}
use Rattle.sa_base.specs.declared.number.ProcNo.{ProcNo}
use Rattle.sa_base.specs.declared.number.SpaceNo.{SpaceNo}
use Rattle.sa_base.specs.declared.number.ThreadNo.{ThreadNo}
use Rattle.sa_base.specs.declared.record.Item.{Item}
use Rattle.sa_base.specs.declared.record.Record.{Record}
use Rattle.sa_base.specs.declared.record.Record.TheVariants.{Ins, Run, Stop, Block, Unblock, Cont, Back, Ready, Move}
use Rattle.sa_instr.specs.declared.instr.Reg.{Reg}
use Rattle.sa_instr.specs.declared.instr.Instr.{Instr}
use Rattle.sa_instr.specs.declared.instr.Instr.TheVariants as instr
use Rattle.sa_spaces.specs.Space.{SpaceView}
use Rattle.sa_spaces.specs.Workload.{WorkloadView}
use Rattle.sa_sync.specs.declared.answer.SyncAnswer.{SyncAnswer}
use Rattle.sa_sync.specs.declared.answer.SyncAnswer.TheVariants as answer
use Rattle.sa_sync.specs.Sync.{Sync, Mutex, free_mutex, opening, mutex_at, semaphore_at, joiners_at, is_done, with_mutex, with_joiners}
use Rattle.sa_sync.specs.Calls.{Change, goes, waits, locked_by, is_holder, passed_on, unlocked, waited_by, signalled_by, joined, finished}
use Rattle.sa_laws.specs.declared.place.Place.{Place}
use Rattle.sa_laws.specs.declared.place.Place.TheVariants as place
use Rattle.sa_laws.specs.State.{State, SpaceState, Thread, opening_space, opening_state, no_space, no_threads, space_at, with_space, with_thread, put_thread, at_start, placed_if}
use Rattle.sa_laws.specs.Effect.{effect, effect_of, answered, sync_effect, fork_effect, next_with, with_sync}
use Rattle.sa_laws.specs.Machine.{changed, next_effect}
use Rattle.sa_debug.specs.Views.{state_behind}

-- who waits for it is in the queue of a mutex that somebody holds
abbrev pub IsFreeAlone : Mutex → Type 0
IsFreeAlone m = m.holder ≡ None → m.queue ≡ []

pub record AreHeld (x : Sync) : Type 0 where
  pub alone : (m : ℕ) → IsFreeAlone (mutex_at x m)
  pub joiners : length x.joiners ≡ MAX_THREADS

-- WHAT HOLDS EVERYWHERE in a list holds with another entry of which it holds.
each-set : {A : Type 0} (P : A → Type 0) (d : A) (xs : List A) (i : ℕ) (y : A) → ((j : ℕ) → P (get_or xs j d)) → P y
    → (j : ℕ) → P (get_or (slice_set xs i y) j d)
each-set P d [] i y all one j = all j
each-set P d (x ∷ xs) zero y all one zero = one
each-set P d (x ∷ xs) zero y all one (suc j) = all (suc j)
each-set P d (x ∷ xs) (suc i) y all one zero = all zero
each-set P d (x ∷ xs) (suc i) y all one (suc j) = each-set P d xs i y (λ k. all (suc k)) one j

-- THE OPENING
opening-alone : (n m : ℕ) → IsFreeAlone (get_or (replicate n free_mutex) m free_mutex)
opening-alone zero m = λ free. refl
opening-alone (suc n) zero = λ free. refl
opening-alone (suc n) (suc m) = opening-alone n m

held-opening : (def : SpaceView) → AreHeld (opening def)
held-opening def = record { alone = opening-alone def.mutexes; joiners = length-replicate {A = List ℕ} MAX_THREADS [] }

-- THE CALLS
held-mutex : (x : Sync) (m : ℕ) (holder : Option ℕ) (queue : List ℕ) → AreHeld x → (holder ≡ None → queue ≡ []) → AreHeld (with_mutex x m holder queue)
held-mutex x m holder queue h one = record {
  alone = each-set IsFreeAlone free_mutex x.mutexes m (record { holder = holder; queue = queue }) h.alone one;
  joiners = h.joiners;
}

held-joiners : (x : Sync) (t : ℕ) (queue : List ℕ) → AreHeld x → AreHeld (with_joiners x t queue)
held-joiners x t queue h = record { alone = h.alone; joiners = length-set x.joiners t queue ∙ h.joiners }

held-locked : (x : Sync) (t m : ℕ) (holder : Option ℕ) (queue : List ℕ) → AreHeld x → AreHeld (locked_by x t m holder queue).state
held-locked x t m None queue h = held-mutex x m (Some t) queue h (λ no. absurd cc)
held-locked x t m (Some holder) queue h = held-mutex x m (Some holder) (queue ++ t ∷ []) h (λ no. absurd cc)

held-passed : (x : Sync) (m : ℕ) (queue : List ℕ) → AreHeld x → AreHeld (passed_on x m queue).state
held-passed x m [] h = held-mutex x m None [] h (λ no. refl)
held-passed x m (next ∷ queue) h = held-mutex x m (Some next) queue h (λ no. absurd cc)

held-unlocked : (x : Sync) (t m : ℕ) → AreHeld x → AreHeld (unlocked x t m).state
held-unlocked x t m h = by (is_holder t (mutex_at x m).holder) where
  by : (b : Bool) → AreHeld (if b then passed_on x m (mutex_at x m).queue else goes x).state
  by true = held-passed x m (mutex_at x m).queue h
  by false = h

held-waited : (x : Sync) (t k count : ℕ) (queue : List ℕ) → AreHeld x → AreHeld (waited_by x t k count queue).state
held-waited x t k zero queue h = record { alone = h.alone; joiners = h.joiners }
held-waited x t k (suc count) queue h = record { alone = h.alone; joiners = h.joiners }

held-signalled : (x : Sync) (k count : ℕ) (queue : List ℕ) → AreHeld x → AreHeld (signalled_by x k count queue).state
held-signalled x k count [] h = record { alone = h.alone; joiners = h.joiners }
held-signalled x k count (first ∷ queue) h = record { alone = h.alone; joiners = h.joiners }

held-joined : (x : Sync) (t other made : ℕ) → AreHeld x → AreHeld (joined x t other made).state
held-joined x t other made h = by (nat_lt other made && not (is_done x other)) where
  by : (b : Bool) → AreHeld (if b then waits (with_joiners x other (joiners_at x other ++ t ∷ [])) else goes x).state
  by true = held-joiners x other (joiners_at x other ++ t ∷ []) h
  by false = h

held-done : (x : Sync) (t : ℕ) → AreHeld x → AreHeld (finished x t)
held-done x t h = record { alone = h.alone; joiners = h.joiners }

-- THE INSTRUCTIONS
module _ (x : SpaceState) (t : ThreadNo) (h : AreHeld x.sync) where
  held-answered : (thread : Thread) (change : Change) → AreHeld change.state → AreHeld (sync_effect x t thread change).space.sync
  held-answered thread change after = by change.answer where
    by : (a : SyncAnswer) → AreHeld (answered (with_sync x change.state) t thread a).space.sync
    by answer.Goes = after
    by answer.Waits = after
    by (answer.Wakes u) = after

  held-forked : (thread : Thread) (reg : Reg) (program : ℕ) → AreHeld (fork_effect x t thread reg program).space.sync
  held-forked thread reg program = by (nat_lt (length x.threads) MAX_THREADS) where
    forking : SpaceState
    forking = with_thread x t (next_with thread reg (length x.threads))

    by : (b : Bool) → AreHeld (if b
        then effect (record forking { threads = forking.threads ++ at_start program place.Waiting ∷ [] }) (record { 0 = length x.threads } ∷ [])
        else effect (with_thread x t (next_with thread reg (2 ^ 64 - 1))) []).space.sync
    by true = h
    by false = h

  held-effect : (thread : Thread) (i : Instr) → AreHeld (effect_of x t thread i).space.sync
  held-effect thread (instr.Load reg cell) = h
  held-effect thread (instr.Store reg cell) = record { alone = h.alone; joiners = h.joiners }
  held-effect thread (instr.Out reg) = h
  held-effect thread (instr.Fork reg program) = held-forked thread reg program
  held-effect thread (instr.Join reg) = held-answered _ _ (held-joined x.sync t.0 _ (length x.threads) h)
  held-effect thread (instr.Lock m) = held-answered _ _ (held-locked x.sync t.0 m (mutex_at x.sync m).holder (mutex_at x.sync m).queue h)
  held-effect thread (instr.Unlock m) = held-answered _ _ (held-unlocked x.sync t.0 m h)
  held-effect thread (instr.Wait k) = held-answered _ _ (held-waited x.sync t.0 k (semaphore_at x.sync k).count (semaphore_at x.sync k).queue h)
  held-effect thread (instr.Signal k) = held-answered _ _ (held-signalled x.sync k (semaphore_at x.sync k).count (semaphore_at x.sync k).queue h)
  held-effect thread (instr.Io n) = h
  held-effect thread (instr.Touch page) = h
  held-effect thread instr.End = held-joiners (finished x.sync t.0) t.0 [] (held-done x.sync t.0 h)
  held-effect thread i = h

-- THE STATES
abbrev pub AreAllHeld : State → Type 0
AreAllHeld a = (s : ℕ) → AreHeld (space_at a (record { 0 = s })).sync

all-set : (a : State) (s : SpaceNo) (x : SpaceState) → AreAllHeld a → AreHeld x.sync → AreAllHeld (with_space a s x)
all-set a s x all one = each-set (λ (y : SpaceState). AreHeld y.sync) no_threads a.spaces s.0 x all one

all-placed : (a : State) (s : SpaceNo) (t : Option ThreadNo) (to : Place) → AreAllHeld a → AreAllHeld (placed_if a s t to)
all-placed a s None to all = all
all-placed a s (Some t) to all = all-set a s (put_thread to (space_at a s) t) all (all s.0)

all-changed : (w : WorkloadView) (p : ProcNo) (a : State) (what : Record) → AreAllHeld a → AreAllHeld (changed w p a what)
all-changed w p a (Ins s t i) all =
    all-set a s (next_effect w a s t).space all (held-effect (space_at a s) t (all s.0) _ _)
all-changed w p a (Stop s t act) all = all-placed a s t place.Carried all
all-changed w p a (Block s t act io) all = all-placed a s t place.Blocked all
all-changed w p a (Unblock s t act) all = all-placed a s t place.Carried all
all-changed w p a (Cont s t) all = all-placed a s t (place.Running p) all
all-changed w p a (Back s t) all = all-placed a s t place.Carried all
all-changed w p a (Run s t) all = all-placed a s (Some t) (place.Running p) all
all-changed w p a (Ready s t) all = all-placed a s (Some t) place.Ready all
all-changed w p a (Move old new) all = all
all-changed w p a what all = all

all-behind : (w : WorkloadView) (a : State) (items : List Item) → AreAllHeld a → AreAllHeld (state_behind w a items)
all-behind w a [] all = all
all-behind w a (x ∷ xs) all = all-behind w (changed w x.proc a x.what) xs (all-changed w x.proc a x.what all)

all-opening : (defs : List SpaceView) (s : ℕ) → AreHeld (get_or (map opening_space defs) s no_threads).sync
all-opening [] s = held-opening no_space
all-opening (def ∷ defs) zero = held-opening def
all-opening (def ∷ defs) (suc s) = all-opening defs s

-- so it is after any items
pub all-held : (w : WorkloadView) (items : List Item) → AreAllHeld (state_behind w (opening_state w) items)
all-held w items = all-behind w (opening_state w) items (all-opening w.spaces)
