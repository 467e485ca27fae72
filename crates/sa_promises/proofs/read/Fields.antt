-- What one record changes in what each life has, as the words have it.
use Rattle.std.proofs.Common.{◌≡◌, ℕ, refl, sym, ◌∙◌, ap, subst, Some, None, List, [], ◌∷◌, ◌++◌, map, true, false}
use Rattle.std.specs.Prelude.{Option, Bool, drop}
use Rattle.sa_lemmas.specs.Function.{put}
use Rattle.sa_base.specs.declared.number.ProcNo.{ProcNo}
use Rattle.sa_base.specs.declared.number.ThreadNo.{ThreadNo}
use Rattle.sa_base.specs.declared.number.ActNo.{ActNo}
use Rattle.sa_base.specs.declared.record.Note.TheVariants as note
use Rattle.sa_base.specs.declared.record.Record.{Record}
use Rattle.sa_base.specs.declared.record.Record.TheVariants.{Ins, Run, Stop, Block, Unblock, Cont, Back, Ready, Take, Free, Up, Told, GiveBack}
use Rattle.sa_base.specs.declared.record.Item.{Item}
use Rattle.sa_spaces.specs.Workload.{WorkloadView}
use Rattle.sa_laws.specs.State.{State}
use Rattle.sa_laws.specs.Machine.{next_effect}
use Rattle.sa_laws.specs.Life.{Life, Lock, new_life, with_hand, without_lock, with_first, change_first, readied, ran, with_cont, held_with, inherits, inherited, bereft}
use Rattle.sa_laws.specs.Readings.{Readings, running_of, life_of}
use Rattle.sa_laws.specs.Record.{with_life, handed, lives_after, lock_for, locks, one_thread, stopped_with, back_with, made_ready}
use Rattle.sa_promises.specs.Moments.{Home, machine_of, runs_on, last_up}
use Rattle.sa_promises.specs.Holdings.{change, taken_lock, without, locks_by, hands_by, conts_by, stopped_by}
use Rattle.sa_promises.proofs.read.Lives.{Said, pass_as, said-with, said-where, said-keep, said-new, said-gone, said-passed, said-lost, said-stays}

-- the running life is that of the words
on-running : {F : Type 0} (g : Life → F) (f : Life → Life) (h : F → F) (n m : Option ActNo) (lives : ℕ → Option Life) (has : ℕ → F) → n ≡ m
    → ((l : Life) → g (f l) ≡ h (g l))
    → Said g lives has → Said g (with_life f n lives) (change h m has)
on-running g f h n m lives has same step said = subst (λ k. Said g (with_life f n lives) (change h k has)) same (said-with g f h n lives has step said)

-- so is the life of the up, and the life that is told of is in use
on-told : {X : Type 0} (g : Life → List X) (m : List X → List X) (up named : Option ActNo) (a : ActNo) (o : Option Life) (from : Life) (lives : ℕ → Option Life)
    (has : ℕ → List X)
    → up ≡ named → o ≡ Some from → lives a.0 ≡ o → ((f l : Life) → g (inherits f l) ≡ g l ++ m (g f)) → ((l : Life) → g (bereft l) ≡ [])
    → Said g lives has → Said g (handed up a o lives) (pass_as m named a has)
on-told g m up named a o from lives has same is at joined bare said =
    subst (λ k. Said g (handed up a o lives) (pass_as m k a has)) same
    (subst (λ k. Said g (handed up a k lives) (pass_as m up a has)) (sym is) (said-passed g m up a from lives has (joined from) bare (at ∙ is) said))

-- the lives that records name are in use
abbrev pub NamesLife : Readings → Record → Type 0
NamesLife r (Told (note.Preempted a)) = (life : Life) × (life_of r a ≡ Some life)
NamesLife r (Told (note.Unblocked a)) = (life : Life) × (life_of r a ≡ Some life)
NamesLife r (Stop s t a) = (life : Life) × (life_of r a ≡ Some life)
NamesLife r (Block s t a io) = (life : Life) × (life_of r a ≡ Some life)
NamesLife r (Unblock s t a) = (life : Life) × (life_of r a ≡ Some life)
NamesLife r (GiveBack a) = (life : Life) × (life_of r a ≡ Some life)
NamesLife r _ = Unit {0}

-- what a record is read with is what the words say
pub record Agrees (past : List Item) (p : ProcNo) (r : Readings) (x : Record) : Type 0 where
  pub running : running_of r p ≡ runs_on past p
  pub upped : r.upped ≡ last_up past
  pub names : NamesLife r x

-- locks: a take gives the lock that the words say
abbrev pub in_locks : Life → List Lock
in_locks life = life.locks

abbrev pub TakesLock : WorkloadView → List Item → ProcNo → Readings → Record → Type 0
TakesLock w past p r (Take s l t) =
    (a : ActNo) (life : Life) → running_of r p ≡ Some a → r.lives a.0 ≡ Some life → lock_for r p l t life ≡ taken_lock w past p s l t
TakesLock w past p r _ = Unit {0}

pub locks-step : (w : WorkloadView) (past : List Item) (p : ProcNo) (r : Readings) (x : Record) (has : ℕ → List Lock) → Agrees past p r x
    → TakesLock w past p r x → Said in_locks r.lives has
    → Said in_locks (lives_after w p r x) (locks_by w past has p x)
locks-step w past p r (Ins s t i) has agrees takes said =
    said-keep in_locks (with_hand (next_effect w r.state s t).roused) (running_of r p) r.lives has (λ l. refl) said
locks-step w past p r (Run s t) has agrees takes said =
    on-running in_locks (with_first (ran t)) (change_first (ran t)) (running_of r p) (runs_on past p) r.lives has agrees.running (λ l. refl) said
locks-step w past p r (Stop s t a) has agrees takes said = said-keep in_locks (stopped_with t) (Some a) r.lives has (λ l. refl) said
locks-step w past p r (Block s t a io) has agrees takes said = said-keep in_locks (held_with t) (Some a) r.lives has (λ l. refl) said
locks-step w past p r (Unblock s t a) has agrees takes said = said-keep in_locks (with_hand (one_thread t)) (Some a) r.lives has (λ l. refl) said
locks-step w past p r (Cont s t) has agrees takes said = said-keep in_locks (with_cont true) (running_of r p) r.lives has (λ l. refl) said
locks-step w past p r (Back s t) has agrees takes said = said-keep in_locks (back_with t) (running_of r p) r.lives has (λ l. refl) said
locks-step w past p r (Ready s t) has agrees takes said =
    on-running in_locks (made_ready t) (change_first readied) (running_of r p) (runs_on past p) r.lives has agrees.running (λ l. refl) said
locks-step w past p r (Take s l t) has agrees takes said =
    subst (λ k. Said in_locks (with_life (locks r p l t) (running_of r p) r.lives) (change (λ ls. ls ++ taken_lock w past p s l t ∷ []) k has)) agrees.running
    (said-where in_locks (locks r p l t) (λ ls. ls ++ taken_lock w past p s l t ∷ []) (running_of r p) r.lives has
    (λ a life runs is. ap (λ lock. life.locks ++ lock ∷ []) (takes a life runs is)) said)
locks-step w past p r (Free s l t) has agrees takes said =
    on-running in_locks without_lock (drop 1) (running_of r p) (runs_on past p) r.lives has agrees.running (λ life. refl) said
locks-step w past p r (Up s a) has agrees takes said = said-new in_locks a.0 (new_life s p) [] r.lives has refl said
locks-step w past p r (Told (note.Preempted a)) has agrees takes said =
    on-told in_locks (map inherited) r.upped (last_up past) a (life_of r a) agrees.names.0 r.lives has agrees.upped agrees.names.1 refl (λ from l. refl)
    (λ l. refl) said
locks-step w past p r (Told (note.Unblocked a)) has agrees takes said =
    on-told in_locks (map inherited) r.upped (last_up past) a (life_of r a) agrees.names.0 r.lives has agrees.upped agrees.names.1 refl (λ from l. refl)
    (λ l. refl) said
locks-step w past p r (GiveBack a) has agrees takes said = said-gone in_locks a.0 r.lives has said
locks-step w past p r _ has agrees takes said = said

-- hands
abbrev pub in_hand : Life → List ThreadNo
in_hand life = life.hand

pub hands-step : (w : WorkloadView) (past : List Item) (p : ProcNo) (r : Readings) (x : Record) (has : ℕ → List ThreadNo) → Agrees past p r x
    → r.state ≡ machine_of w past
    → Said in_hand r.lives has → Said in_hand (lives_after w p r x) (hands_by w past has p x)
hands-step w past p r (Ins s t i) has agrees state said =
    on-running in_hand (with_hand (next_effect w r.state s t).roused) (λ hand. hand ++ (next_effect w (machine_of w past) s t).roused) (running_of r p)
    (runs_on past p) r.lives has
    agrees.running (λ l. ap (λ (m : State). l.hand ++ (next_effect w m s t).roused) state) said
hands-step w past p r (Run s t) has agrees state said = said-keep in_hand (with_first (ran t)) (running_of r p) r.lives has (λ l. refl) said
hands-step w past p r (Stop s t a) has agrees state said =
    said-with in_hand (stopped_with t) (λ hand. hand ++ one_thread t) (Some a) r.lives has (λ l. refl) said
hands-step w past p r (Block s t a io) has agrees state said = said-keep in_hand (held_with t) (Some a) r.lives has (λ l. refl) said
hands-step w past p r (Unblock s t a) has agrees state said =
    said-with in_hand (with_hand (one_thread t)) (λ hand. hand ++ one_thread t) (Some a) r.lives has (λ l. refl) said
hands-step w past p r (Cont s t) has agrees state said = said-keep in_hand (with_cont true) (running_of r p) r.lives has (λ l. refl) said
hands-step w past p r (Back s t) has agrees state said =
    on-running in_hand (back_with t) (λ hand. hand ++ one_thread t) (running_of r p) (runs_on past p) r.lives has agrees.running (λ l. refl) said
hands-step w past p r (Ready s t) has agrees state said =
    on-running in_hand (made_ready t) (without t) (running_of r p) (runs_on past p) r.lives has agrees.running (λ l. refl) said
hands-step w past p r (Take s l t) has agrees state said = said-keep in_hand (locks r p l t) (running_of r p) r.lives has (λ life. refl) said
hands-step w past p r (Free s l t) has agrees state said = said-keep in_hand without_lock (running_of r p) r.lives has (λ life. refl) said
hands-step w past p r (Up s a) has agrees state said = said-new in_hand a.0 (new_life s p) [] r.lives has refl said
hands-step w past p r (Told (note.Preempted a)) has agrees state said =
    on-told in_hand (λ ts. ts) r.upped (last_up past) a (life_of r a) agrees.names.0 r.lives has agrees.upped agrees.names.1 refl (λ from l. refl)
    (λ l. refl) said
hands-step w past p r (Told (note.Unblocked a)) has agrees state said =
    on-told in_hand (λ ts. ts) r.upped (last_up past) a (life_of r a) agrees.names.0 r.lives has agrees.upped agrees.names.1 refl (λ from l. refl)
    (λ l. refl) said
hands-step w past p r (GiveBack a) has agrees state said = said-gone in_hand a.0 r.lives has said
hands-step w past p r _ has agrees state said = said

-- open conts
abbrev pub open_cont : Life → Bool
open_cont life = life.cont

pub conts-step : (w : WorkloadView) (past : List Item) (p : ProcNo) (r : Readings) (x : Record) (has : ℕ → Bool) → Agrees past p r x
    → Said open_cont r.lives has
    → Said open_cont (lives_after w p r x) (conts_by past has p x)
conts-step w past p r (Ins s t i) has agrees said =
    said-keep open_cont (with_hand (next_effect w r.state s t).roused) (running_of r p) r.lives has (λ l. refl) said
conts-step w past p r (Run s t) has agrees said = said-keep open_cont (with_first (ran t)) (running_of r p) r.lives has (λ l. refl) said
conts-step w past p r (Stop s t a) has agrees said = said-keep open_cont (stopped_with t) (Some a) r.lives has (λ l. refl) said
conts-step w past p r (Block s t a io) has agrees said = said-keep open_cont (held_with t) (Some a) r.lives has (λ l. refl) said
conts-step w past p r (Unblock s t a) has agrees said = said-keep open_cont (with_hand (one_thread t)) (Some a) r.lives has (λ l. refl) said
conts-step w past p r (Cont s t) has agrees said =
    on-running open_cont (with_cont true) (λ cont. true) (running_of r p) (runs_on past p) r.lives has agrees.running (λ l. refl) said
conts-step w past p r (Back s t) has agrees said =
    on-running open_cont (back_with t) (λ cont. false) (running_of r p) (runs_on past p) r.lives has agrees.running (λ l. refl) said
conts-step w past p r (Ready s t) has agrees said = said-keep open_cont (made_ready t) (running_of r p) r.lives has (λ l. refl) said
conts-step w past p r (Take s l t) has agrees said = said-keep open_cont (locks r p l t) (running_of r p) r.lives has (λ life. refl) said
conts-step w past p r (Free s l t) has agrees said = said-keep open_cont without_lock (running_of r p) r.lives has (λ life. refl) said
conts-step w past p r (Up s a) has agrees said = said-new open_cont a.0 (new_life s p) false r.lives has refl said
conts-step w past p r (Told (note.Preempted a)) has agrees said =
    said-lost open_cont r.upped a (life_of r a) false r.lives has (λ from l. refl) (λ l. refl) refl said
conts-step w past p r (Told (note.Unblocked a)) has agrees said =
    said-lost open_cont r.upped a (life_of r a) false r.lives has (λ from l. refl) (λ l. refl) refl said
conts-step w past p r (GiveBack a) has agrees said = said-gone open_cont a.0 r.lives has said
conts-step w past p r _ has agrees said = said

-- the threads of stops and blocks
abbrev pub held_thread : Life → Option ThreadNo
held_thread life = life.thread

pub stopped-step : (w : WorkloadView) (p : ProcNo) (r : Readings) (x : Record) (has : ℕ → Option ThreadNo) → Said held_thread r.lives has
    → Said held_thread (lives_after w p r x) (stopped_by has x)
stopped-step w p r (Ins s t i) has said = said-keep held_thread (with_hand (next_effect w r.state s t).roused) (running_of r p) r.lives has (λ l. refl) said
stopped-step w p r (Run s t) has said = said-keep held_thread (with_first (ran t)) (running_of r p) r.lives has (λ l. refl) said
stopped-step w p r (Stop s t a) has said = said-with held_thread (stopped_with t) (λ old. t) (Some a) r.lives has (λ l. refl) said
stopped-step w p r (Block s t a io) has said = said-with held_thread (held_with t) (λ old. t) (Some a) r.lives has (λ l. refl) said
stopped-step w p r (Unblock s t a) has said = said-keep held_thread (with_hand (one_thread t)) (Some a) r.lives has (λ l. refl) said
stopped-step w p r (Cont s t) has said = said-keep held_thread (with_cont true) (running_of r p) r.lives has (λ l. refl) said
stopped-step w p r (Back s t) has said = said-keep held_thread (back_with t) (running_of r p) r.lives has (λ l. refl) said
stopped-step w p r (Ready s t) has said = said-keep held_thread (made_ready t) (running_of r p) r.lives has (λ l. refl) said
stopped-step w p r (Take s l t) has said = said-keep held_thread (locks r p l t) (running_of r p) r.lives has (λ life. refl) said
stopped-step w p r (Free s l t) has said = said-keep held_thread without_lock (running_of r p) r.lives has (λ life. refl) said
stopped-step w p r (Up s a) has said = said-new held_thread a.0 (new_life s p) None r.lives has refl said
stopped-step w p r (Told (note.Preempted a)) has said = said-stays held_thread r.upped a (life_of r a) r.lives has (λ from l. refl) (λ l. refl) said
stopped-step w p r (Told (note.Unblocked a)) has said = said-stays held_thread r.upped a (life_of r a) r.lives has (λ from l. refl) (λ l. refl) said
stopped-step w p r (GiveBack a) has said = said-gone held_thread a.0 r.lives has said
stopped-step w p r _ has said = said

-- homes
abbrev pub at_home : Life → Option Home
at_home life = Some (record { space = life.space; proc = life.proc })

abbrev pub homes_by : (ℕ → Option Home) → ProcNo → Record → ℕ → Option Home
homes_by has p (Up s a) = put has a.0 (Some (record { space = s; proc = p }))
homes_by has p _ = has

pub homes-step : (w : WorkloadView) (p : ProcNo) (r : Readings) (x : Record) (has : ℕ → Option Home) → Said at_home r.lives has
    → Said at_home (lives_after w p r x) (homes_by has p x)
homes-step w p r (Ins s t i) has said = said-keep at_home (with_hand (next_effect w r.state s t).roused) (running_of r p) r.lives has (λ l. refl) said
homes-step w p r (Run s t) has said = said-keep at_home (with_first (ran t)) (running_of r p) r.lives has (λ l. refl) said
homes-step w p r (Stop s t a) has said = said-keep at_home (stopped_with t) (Some a) r.lives has (λ l. refl) said
homes-step w p r (Block s t a io) has said = said-keep at_home (held_with t) (Some a) r.lives has (λ l. refl) said
homes-step w p r (Unblock s t a) has said = said-keep at_home (with_hand (one_thread t)) (Some a) r.lives has (λ l. refl) said
homes-step w p r (Cont s t) has said = said-keep at_home (with_cont true) (running_of r p) r.lives has (λ l. refl) said
homes-step w p r (Back s t) has said = said-keep at_home (back_with t) (running_of r p) r.lives has (λ l. refl) said
homes-step w p r (Ready s t) has said = said-keep at_home (made_ready t) (running_of r p) r.lives has (λ l. refl) said
homes-step w p r (Take s l t) has said = said-keep at_home (locks r p l t) (running_of r p) r.lives has (λ life. refl) said
homes-step w p r (Free s l t) has said = said-keep at_home without_lock (running_of r p) r.lives has (λ life. refl) said
homes-step w p r (Up s a) has said = said-new at_home a.0 (new_life s p) (Some (record { space = s; proc = p })) r.lives has refl said
homes-step w p r (Told (note.Preempted a)) has said = said-stays at_home r.upped a (life_of r a) r.lives has (λ from l. refl) (λ l. refl) said
homes-step w p r (Told (note.Unblocked a)) has said = said-stays at_home r.upped a (life_of r a) r.lives has (λ from l. refl) (λ l. refl) said
homes-step w p r (GiveBack a) has said = said-gone at_home a.0 r.lives has said
homes-step w p r _ has said = said
