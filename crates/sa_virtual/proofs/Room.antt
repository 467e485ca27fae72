-- A record adds one to a semaphore at most, and an event has one instruction at most.
use Rattle.std.proofs.Common.{◌≡◌, ℕ, zero, suc, ◌+◌, ◌≤◌, Bool, true, false, cond, nat_lt, List, [], ◌∷◌, ◌++◌, length, get_or, set, Option, Some, None, inl, inr, refl, sym, ap, subst, ◌∙◌, arith}
use Rattle.std.proofs.lemmas.Bool.{cases_eq, cases_lt}
use Rattle.std.proofs.lemmas.List.{length-set, get_or-set_same, get_or-set_other, get_or_past}
use Rattle.sa_base.specs.declared.number.SpaceNo.{SpaceNo}
use Rattle.sa_base.specs.declared.number.ThreadNo.{ThreadNo}
use Rattle.sa_base.specs.declared.limits.TheConstants.{MAX_THREADS}
use Rattle.sa_instr.specs.declared.instr.Instr.{Instr}
use Rattle.sa_instr.specs.declared.instr.Instr.TheVariants.{Fork, Join, Lock, Unlock, Wait, Signal}
use Rattle.sa_instr.specs.Regs.{reg_value}
use Rattle.sa_spaces.specs.Workload.{WorkloadView}
use Rattle.sa_sync.specs.declared.answer.SyncAnswer.{SyncAnswer}
use Rattle.sa_sync.specs.declared.answer.SyncAnswer.TheVariants as answers
use Rattle.sa_sync.specs.Sync.{Sync, Semaphore, semaphore_at, semaphore_of, mutex_at, with_semaphore}
use Rattle.sa_sync.specs.Calls.{Change, locked, locked_by, unlocked, passed_on, is_holder, waited, waited_by, signalled, signalled_by, joined, waits, goes}
use Rattle.sa_laws.specs.declared.place.Place.{Place}
use Rattle.sa_laws.specs.State.{State, SpaceState, Thread, put_thread, with_space, space_at, thread_at, placed_if, next_instr, no_threads}
use Rattle.sa_laws.specs.Effect.{Effect, next, with_sync, answered, effect_of}
use Rattle.sa_laws.specs.Machine.{next_effect}
use Rattle.sa_replay.specs.Spaces.{with_space_in}
use Rattle.sa_virtual.specs.Turning.{count_at, IsBelow}

set_below : (c : ℕ) (spaces : List SpaceState) (s : SpaceNo) (x : SpaceState) → IsBelow c spaces → ((k : ℕ) → count_at x k ≤ c)
    → IsBelow c (with_space_in spaces s x)
set_below c spaces s x below here r k = elim (cases_eq r s.0) [
  | inl e ↦ elim (cases_lt s.0 (length spaces)) [
    | inl within ↦ subst (λ (y : SpaceState). count_at y k ≤ c)
        (sym (ap (λ n. get_or (set spaces s.0 x) n no_threads) e ∙ get_or-set_same spaces s.0 x no_threads within)) (here k)
    | inr past ↦ subst (λ (y : SpaceState). count_at y k ≤ c)
        (sym (get_or_past (set spaces s.0 x) r no_threads (omega (arith, e, past, length-set spaces s.0 x))))
        (subst (λ (y : SpaceState). count_at y k ≤ c) (get_or_past spaces r no_threads (omega (arith, e, past))) (below r k))
  ]
  | inr ne ↦ subst (λ (y : SpaceState). count_at y k ≤ c) (sym (get_or-set_other spaces s.0 r x no_threads ne)) (below r k)
]

-- calls
abbrev IsOneMore : Sync → Sync → Type 0
IsOneMore old new = (k : ℕ) → (semaphore_at new k).count ≤ (semaphore_at old k).count + 1

same : (s : Sync) → IsOneMore s s
same s k = omega arith

sem_set : (s : Sync) (j count : ℕ) (q : List ℕ) → count ≤ (semaphore_at s j).count + 1 → IsOneMore s (with_semaphore s j count q)
sem_set s j count q most k = elim (cases_eq k j) [
  | inl e ↦ elim (cases_lt j (length s.semaphores)) [
    | inl within ↦ subst (λ n. (semaphore_at (with_semaphore s j count q) n).count ≤ (semaphore_at s n).count + 1) (sym e)
        (subst (λ (x : Semaphore). x.count ≤ (semaphore_at s j).count + 1)
        (sym (get_or-set_same s.semaphores j (record { count = count; queue = q }) (semaphore_of 0) within)) most)
    | inr past ↦ subst (λ (x : Semaphore). x.count ≤ (semaphore_at s k).count + 1)
        (sym (get_or_past (set s.semaphores j (record { count = count; queue = q })) k (semaphore_of 0)
        (omega (arith, e, past, length-set s.semaphores j (record { count = count; queue = q }))))) (omega arith)
  ]
  | inr ne ↦ subst (λ (x : Semaphore). x.count ≤ (semaphore_at s k).count + 1)
      (sym (get_or-set_other s.semaphores j k (record { count = count; queue = q }) (semaphore_of 0) ne)) (omega arith)
]

locks' : (s : Sync) (t m : ℕ) (holder : Option ℕ) (q : List ℕ) → IsOneMore s (locked_by s t m holder q).state
locks' s t m None q = same s
locks' s t m (Some h) q = same s

passes : (s : Sync) (m : ℕ) (q : List ℕ) → IsOneMore s (passed_on s m q).state
passes s m [] = same s
passes s m (n ∷ q) = same s

unlocks : (s : Sync) (t m : ℕ) (b : Bool) → IsOneMore s (cond b (passed_on s m (mutex_at s m).queue) (goes s)).state
unlocks s t m true = passes s m (mutex_at s m).queue
unlocks s t m false = same s

waits' : (s : Sync) (t j c : ℕ) (q : List ℕ) → c ≡ (semaphore_at s j).count → IsOneMore s (waited_by s t j c q).state
waits' s t j zero q is = sem_set s j 0 (q ++ t ∷ []) (omega arith)
waits' s t j (suc c) q is = sem_set s j c q (omega (arith, is))

signals : (s : Sync) (j : ℕ) (q : List ℕ) → IsOneMore s (signalled_by s j (semaphore_at s j).count q).state
signals s j [] = sem_set s j ((semaphore_at s j).count + 1) [] (omega arith)
signals s j (n ∷ q) = sem_set s j (semaphore_at s j).count q (omega arith)

joins : (s : Sync) (change : Change) (b : Bool) → IsOneMore s change.state → IsOneMore s (cond b change (goes s)).state
joins s change true is = is
joins s change false is = same s

told : (x : SpaceState) (t : ThreadNo) (thread : Thread) (sync : Sync) (answer : SyncAnswer) → IsOneMore x.sync sync
    → IsOneMore x.sync (answered (with_sync x sync) t thread answer).space.sync
told x t thread sync answers.Goes is = is
told x t thread sync _ is = is

forks : (x : SpaceState) (a b : Effect) (c : Bool) → IsOneMore x.sync a.space.sync → IsOneMore x.sync b.space.sync → IsOneMore x.sync (cond c a b).space.sync
forks x a b true is other = is
forks x a b false is other = other

pub one_more : (x : SpaceState) (t : ThreadNo) (thread : Thread) (i : Instr) → IsOneMore x.sync (effect_of x t thread i).space.sync
one_more x t thread (Fork reg program) = forks x _ _ (nat_lt (length x.threads) MAX_THREADS) (same x.sync) (same x.sync)
one_more x t thread (Join reg) = let change = joined x.sync t.0 (reg_value thread.regs reg) (length x.threads) in
    told x t _ change.state change.answer (joins x.sync (waits _) _ (same x.sync))
one_more x t thread (Lock m) =
    told x t (next thread) (locked x.sync t.0 m).state (locked x.sync t.0 m).answer (locks' x.sync t.0 m (mutex_at x.sync m).holder (mutex_at x.sync m).queue)
one_more x t thread (Unlock m) =
    told x t (next thread) (unlocked x.sync t.0 m).state (unlocked x.sync t.0 m).answer (unlocks x.sync t.0 m (is_holder t.0 (mutex_at x.sync m).holder))
one_more x t thread (Wait j) =
    told x t (next thread) (waited x.sync t.0 j).state (waited x.sync t.0 j).answer
    (waits' x.sync t.0 j (semaphore_at x.sync j).count (semaphore_at x.sync j).queue refl)
one_more x t thread (Signal j) = told x t (next thread) (signalled x.sync j).state (signalled x.sync j).answer (signals x.sync j (semaphore_at x.sync j).queue)
one_more x t thread _ = same x.sync

-- a record
pub ins_below : (w : WorkloadView) (c : ℕ) (a : State) (s : SpaceNo) (t : ThreadNo) → IsBelow c a.spaces
    → IsBelow (c + 1) (with_space a s (next_effect w a s t).space).spaces
ins_below w c a s t below = set_below (c + 1) a.spaces s (next_effect w a s t).space (λ r k. omega (arith, below r k))
    (λ k. omega (arith, below s.0 k, one_more (space_at a s) t (thread_at a s t) (next_instr w a s t) k))

pub put_below : (c : ℕ) (a : State) (s : SpaceNo) (t : Option ThreadNo) (place : Place) → IsBelow c a.spaces → IsBelow c (placed_if a s t place).spaces
put_below c a s None place below = below
put_below c a s (Some t) place below = set_below c a.spaces s (put_thread place (space_at a s) t) below (λ k. below s.0 k)

pub weaker : (c : ℕ) (spaces : List SpaceState) → IsBelow c spaces → IsBelow (c + 1) spaces
weaker c spaces below s k = omega (arith, below s k)

-- put elsewhere in an event
pub put_event : (c : ℕ) (a : State) (s : SpaceNo) (t : Option ThreadNo) (place : Place) → IsBelow c a.spaces → IsBelow (c + 1) (placed_if a s t place).spaces
put_event c a s t place below = weaker c (placed_if a s t place).spaces (put_below c a s t place below)
