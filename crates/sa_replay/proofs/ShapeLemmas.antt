-- Each instruction changes the threads of its space alike, and keeps what always holds of them.
use Rattle.std.proofs.Common.{◌≡◌, ◌≢◌, ℕ, zero, suc, ◌+◌, ◌<◌, ◌≤◌, ◌^◌, ◌-◌, Bool, true, false, cond, nat_lt, [], ◌∷◌, ◌++◌, length, get_or, set, inl, inr, refl, sym, ap, subst, ◌∙◌, arith, length-append}
use Rattle.std.proofs.lemmas.Bool.{cases_eq, cases_lt, ltb-true, ne_eqb}
use Rattle.std.proofs.lemmas.List.{length-set, get_or-set_same, get_or-set_other, get_or_append_left, get_or-append_right, get_or_past, append-nil}
use Rattle.sa_base.specs.declared.number.ProcNo.{ProcNo}
use Rattle.sa_base.specs.declared.number.ThreadNo.{ThreadNo}
use Rattle.sa_base.specs.declared.limits.TheConstants.{MAX_THREADS}
use Rattle.sa_instr.specs.declared.instr.Instr.{Instr}
use Rattle.sa_instr.specs.declared.instr.Instr.TheVariants.{Jnz, Store, Out, Fork, Join, Lock, Unlock, Wait, Signal, Io, Touch, End}
use Rattle.sa_instr.specs.declared.instr.Reg.{Reg}
use Rattle.sa_instr.specs.Instr.{NamesDeclared}
use Rattle.sa_instr.specs.Regs.{reg_value}
use Rattle.sa_spaces.specs.Space.{SpaceView}
use Rattle.sa_sync.specs.declared.answer.SyncAnswer.{SyncAnswer}
use Rattle.sa_sync.specs.declared.answer.SyncAnswer.TheVariants as answers
use Rattle.sa_sync.specs.Sync.{Sync, with_joiners, waits_of}
use Rattle.sa_sync.specs.Calls.{Change, locked, unlocked, waited, signalled, joined, finished, stored}
use Rattle.sa_sync.specs.Laws.{SameNumbers, TellsWhoWaits, woken, joining}
use Rattle.sa_sync.proofs.LawLemmas.{waits-joiners, locked_tells, unlocked_tells, waited_tells, signalled_tells, joined_tells}
use Rattle.sa_sync.proofs.Numbers.{same_numbers, locked_keeps, unlocked_keeps, waited_keeps, signalled_keeps, joined_keeps}
use Rattle.sa_laws.specs.declared.place.Place.{Place}
use Rattle.sa_laws.specs.declared.place.Place.TheVariants as places
use Rattle.sa_laws.specs.State.{Thread, SpaceState, at_start, thread_in, with_thread}
use Rattle.sa_laws.specs.Effect.{Effect, effect, next, next_with, with_sync, answered, sync_effect, fork_effect, end_effect, effect_of}
use Rattle.sa_replay.specs.Running.{is_running, instr_in, IsAt, HasDeclared, HasCount, CanRun}
use Rattle.sa_replay.specs.Sound.{IsSound}
use Rattle.sa_replay.specs.Space.{CanDo}
use Rattle.sa_replay.specs.Shape.{IsShaped, StaysOrRests, TellsWaiting}

-- an instruction that forks no thread
alone : (x : SpaceState) (t : ThreadNo) (place : Place) (after : Thread) (sync : Sync) → StaysOrRests place after.place
    → TellsWaiting x.sync sync t.0 after.place → SameNumbers x.sync sync
    → IsShaped x t place (with_thread (with_sync x sync) t after)
alone x t place after sync goes waits numbers = record {
  after = after;
  more = [];
  threads = sym (append-nil (set x.threads t.0 after));
  forked = inl refl;
  few = λ few. omega arith;
  goes = goes;
  waits = waits;
  numbers = numbers;
}

pub own : (x : SpaceState) (t : ThreadNo) (place : Place) (after : Thread) → StaysOrRests place after.place → IsShaped x t place (with_thread x t after)
own x t place after goes = alone x t place after x.sync goes (λ u waits. inl waits) (same_numbers x.sync)

-- a call of what the threads wait on
told : (x : SpaceState) (t : ThreadNo) (place : Place) (thread : Thread) (sync : Sync) (answer : SyncAnswer) → thread.place ≡ place
    → ((u : ℕ) → waits_of sync u + woken answer u ≡ waits_of x.sync u + joining answer t.0 u) → SameNumbers x.sync sync
    → IsShaped x t place (answered (with_sync x sync) t thread answer).space
told x t place thread sync answers.Waits is tells numbers =
    alone x t place (record thread { place = places.Waiting }) sync (inr refl) (λ u waits. elim (cases_eq t.0 u) [
      | inl same ↦ inr (sym same, refl)
      | inr other ↦ inl (let none : joining answers.Waits t.0 u ≡ 0 = ap (λ b. cond b 1 0) (ne_eqb t.0 u other) in omega (arith, tells u, none, waits))
    ]) numbers
told x t place thread sync _ is tells numbers = alone x t place thread sync (inl is) (λ u waits. inl (omega (arith, tells u, waits))) numbers

synced : (x : SpaceState) (t : ThreadNo) (place : Place) (thread : Thread) (change : Change) → thread.place ≡ place → TellsWhoWaits x.sync t.0 change
    → SameNumbers x.sync change.state
    → IsShaped x t place (sync_effect x t thread change).space
synced x t place thread change is tells numbers = told x t place thread change.state change.answer is tells numbers

-- a fork
forks : (x : SpaceState) (t : ThreadNo) (thread : Thread) (reg : Reg) (program : ℕ) → IsShaped x t thread.place (fork_effect x t thread reg program).space
forks x t thread reg program =
    let made = length x.threads in
    let forking = with_thread x t (next_with thread reg made) in
    let done : Bool → Effect =
    λ b. cond b (effect (record forking { threads = forking.threads ++ at_start program places.Waiting ∷ [] }) (record { 0 = made } ∷ []))
    (effect (with_thread x t (next_with thread reg (2 ^ 64 - 1))) []) in
    elim (nat_lt made MAX_THREADS) as (λ b. b ≡ nat_lt made MAX_THREADS → IsShaped x t thread.place (done b).space) [
      | true ↦ λ test. record {
        after = next_with thread reg made;
        more = at_start program places.Waiting ∷ [];
        threads = refl;
        forked = inr (program, refl);
        few = λ few. let room : made < MAX_THREADS = ltb-true made MAX_THREADS (sym test) in omega arith;
        goes = inl refl;
        waits = λ u waits. inl waits;
        numbers = same_numbers x.sync;
      }
      | false ↦ λ test. own x t thread.place (next_with thread reg (2 ^ 64 - 1)) (inl refl)
    ] refl

-- the end of a thread
ends : (x : SpaceState) (t : ThreadNo) (thread : Thread) → t.0 < length x.sync.joiners → IsShaped x t thread.place (end_effect x t thread).space
ends x t thread inside =
    let sync = with_joiners (finished x.sync t.0) t.0 [] in
    alone x t thread.place (record thread { place = places.Done }) sync (inr refl) (λ u waits. inl (
    let change = waits-joiners (finished x.sync t.0) t.0 [] u inside in
    let same : waits_of (finished x.sync t.0) u ≡ waits_of x.sync u = refl in
    omega (arith, change, same, waits)
    )) (record { mutexes = refl; semaphores = refl; joiners = length-set x.sync.joiners t.0 []; done = length-set x.sync.done t.0 true; cells = refl })

-- each instruction
module _ (def : SpaceView) (x : SpaceState) (t : ThreadNo) (thread : Thread) where
  pub shape : (instr : Instr) → CanDo def x t thread instr → IsShaped x t thread.place (effect_of x t thread instr).space
  shape (Jnz reg place) can = own x t thread.place _ (inl refl)
  shape (Store reg cell) can =
      alone x t thread.place (next thread) (stored x.sync cell (reg_value thread.regs reg)) (inl refl) (λ u waits. inl waits)
      (record { mutexes = refl; semaphores = refl; joiners = refl; done = refl; cells = length-set x.sync.cells cell (reg_value thread.regs reg) })
  shape (Out reg) can = own x t thread.place (next thread) (inl refl)
  shape (Fork reg program) can = forks x t thread reg program
  shape (Join reg) can =
      let other = reg_value thread.regs reg in
      let made = length x.threads in
      synced x t thread.place (next_with thread reg (cond (nat_lt other made) 1 0)) (joined x.sync t.0 other made) refl
      (joined_tells x.sync t.0 other made (omega (arith, can.few, can.joiners))) (joined_keeps x.sync t.0 other made)
  shape (Lock m) can =
      synced x t thread.place (next thread) (locked x.sync t.0 m) refl (locked_tells x.sync t.0 m (omega (arith, can.named.0, can.declared.mutexes)))
      (locked_keeps x.sync t.0 m)
  shape (Unlock m) can =
      synced x t thread.place (next thread) (unlocked x.sync t.0 m) refl (unlocked_tells x.sync t.0 m (omega (arith, can.named.0, can.declared.mutexes)))
      (unlocked_keeps x.sync t.0 m)
  shape (Wait k) can =
      synced x t thread.place (next thread) (waited x.sync t.0 k) refl (waited_tells x.sync t.0 k (omega (arith, can.named.0, can.declared.semaphores)))
      (waited_keeps x.sync t.0 k)
  shape (Signal k) can =
      synced x t thread.place (next thread) (signalled x.sync k) refl (signalled_tells x.sync t.0 k (omega (arith, can.named.0, can.declared.semaphores)))
      (signalled_keeps x.sync k)
  shape (Io length) can = own x t thread.place (next thread) (inl refl)
  shape (Touch page) can = own x t thread.place (next thread) (inl refl)
  shape End can = ends x t thread (omega (arith, can.made, can.few, can.joiners))
  shape _ can = own x t thread.place _ (inl refl)

-- who does not run
pub at_rest : (place : Place) (p : ProcNo) → is_running place ≡ false → place ≡ places.Running p → ⊥
at_rest place p none is = let both : false ≡ true = sym none ∙ ap is_running is in cc

one_waits : (program k : ℕ) → is_running (get_or (at_start program places.Waiting ∷ []) k (at_start 0 places.Done)).place ≡ false
one_waits program zero = refl
one_waits program (suc k) = refl

-- a thread that is not done was made
pub was_made : (x : SpaceState) (u : ThreadNo) → (thread_in x u).place ≢ places.Done → u.0 < length x.threads
was_made x u live = elim (cases_lt u.0 (length x.threads)) [
  | inl made ↦ made
  | inr past ↦ absurd (live (ap (λ (y : Thread). y.place) (get_or_past x.threads u.0 (at_start 0 places.Done) past)))
]

-- a thread that runs was made
pub runs_made : (def : SpaceView) (x : SpaceState) (t : ThreadNo) → CanRun def x t → t.0 < length x.threads
runs_made def x t can = was_made x t (λ done. let both : true ≡ false = sym can.runs ∙ ap is_running done in cc)

-- what becomes of the threads: of this one, and of each other
module _ (x : SpaceState) (t : ThreadNo) (place : Place) (new : SpaceState) (shape : IsShaped x t place new) where
  pub own_after : t.0 < length x.threads → thread_in new t ≡ shape.after
  own_after made =
      ap (λ threads. get_or threads t.0 (at_start 0 places.Done)) shape.threads
      ∙ get_or_append_left (set x.threads t.0 shape.after) shape.more (at_start 0 places.Done) t.0 (omega (arith, length-set x.threads t.0 shape.after, made))
      ∙ get_or-set_same x.threads t.0 shape.after (at_start 0 places.Done) made

  other_within : (u : ThreadNo) → u.0 ≢ t.0 → u.0 < length x.threads → thread_in new u ≡ thread_in x u
  other_within u other made =
      ap (λ threads. get_or threads u.0 (at_start 0 places.Done)) shape.threads
      ∙ get_or_append_left (set x.threads t.0 shape.after) shape.more (at_start 0 places.Done) u.0 (omega (arith, length-set x.threads t.0 shape.after, made))
      ∙ get_or-set_other x.threads t.0 u.0 shape.after (at_start 0 places.Done) other

  -- a thread that was not made before does not run
  fresh : (u : ThreadNo) → length x.threads ≤ u.0 → is_running (thread_in new u).place ≡ false
  fresh u past =
      let size = length-set x.threads t.0 shape.after in
      let k = u.0 - length x.threads in
      let there : thread_in new u ≡ get_or shape.more k (at_start 0 places.Done) =
      ap (λ threads. get_or threads u.0 (at_start 0 places.Done)) shape.threads
      ∙ get_or-append_right (set x.threads t.0 shape.after) shape.more (length x.threads) u.0 (at_start 0 places.Done) size past in
      ap (λ (y : Thread). is_running y.place) there ∙ elim shape.forked [
        | inl none ↦ ap (λ more. is_running (get_or more k (at_start 0 places.Done)).place) none
        | inr one ↦ ap (λ more. is_running (get_or more k (at_start 0 places.Done)).place) one.1 ∙ one_waits one.0 k
      ]

  -- each other thread runs where it ran
  pub other_runs : (u : ThreadNo) (p : ProcNo) → u.0 ≢ t.0 → (thread_in new u).place ≡ places.Running p → (thread_in x u).place ≡ places.Running p
  other_runs u p other runs = elim (cases_lt u.0 (length x.threads)) [
    | inl made ↦ sym (ap (λ (y : Thread). y.place) (other_within u other made)) ∙ runs
    | inr past ↦ absurd (at_rest (thread_in new u).place p (fresh u past) runs)
  ]

  pub other_ran : (u : ThreadNo) (p : ProcNo) → u.0 ≢ t.0 → (thread_in x u).place ≡ places.Running p → (thread_in new u).place ≡ places.Running p
  other_ran u p other ran =
      let made : u.0 < length x.threads = was_made x u (λ done. let both : places.Done ≡ places.Running p = sym done ∙ ran in cc) in
      ap (λ (y : Thread). y.place) (other_within u other made) ∙ ran

  -- what always holds of the threads is kept
  pub stays_sound : IsSound x → t.0 < length x.threads → (thread_in x t).place ≢ places.Waiting → IsSound new
  stays_sound sound made goes = record {
    few = let few = shape.few sound.few in
        omega (arith, ap length shape.threads, length-append (set x.threads t.0 shape.after) shape.more, length-set x.threads t.0 shape.after);
    joiners = shape.numbers.joiners ∙ sound.joiners;
    waiting = λ u waits. elim (shape.waits u.0 waits) [
      | inl before ↦
          let place = sound.waiting u before in
          let other : u.0 ≢ t.0 = λ same. goes (subst (λ (n : ℕ). (get_or x.threads n (at_start 0 places.Done)).place ≡ places.Waiting) same place) in
          let there : u.0 < length x.threads = was_made x u (λ done. let both : places.Done ≡ places.Waiting = sym done ∙ place in cc) in
          ap (λ (y : Thread). y.place) (other_within u other there) ∙ place
      | inr here ↦
          subst (λ (n : ℕ). (get_or new.threads n (at_start 0 places.Done)).place ≡ places.Waiting) (sym here.0)
          (ap (λ (y : Thread). y.place) (own_after made) ∙ here.1)
    ];
  }

  pub stays_declared : (def : SpaceView) → HasDeclared def x.sync → HasDeclared def new.sync
  stays_declared def declared = record {
    mutexes = shape.numbers.mutexes ∙ declared.mutexes;
    semaphores = shape.numbers.semaphores ∙ declared.semaphores;
    cells = shape.numbers.cells ∙ declared.cells;
  }

-- a thread that runs, and is at an instruction, can do it
pub can_do : (def : SpaceView) (x : SpaceState) (t : ThreadNo) (thread : Thread) (instr : Instr) → IsSound x → CanRun def x t → thread ≡ thread_in x t
    → instr ≡ instr_in def thread
    → (instr ≢ End → thread.pc + 1 < 2 ^ 16) → NamesDeclared def.mutexes (length def.sems) def.cells (length def.programs) instr → HasCount x.sync instr
    → CanDo def x t thread instr
can_do def x t thread instr sound can is at next named count = record {
  made = runs_made def x t can;
  few = sound.few;
  joiners = sound.joiners;
  nowhere = elim (cases_lt 0 (waits_of x.sync t.0)) [
    | inl some ↦ let both : true ≡ false = sym can.runs ∙ ap is_running (sound.waiting t some) in cc
    | inr none ↦ omega arith
  ];
  declared = can.declared;
  at = subst (λ (y : Thread). IsAt def y) (sym is) can.at;
  instr = at;
  next = next;
  named = named;
  count = count;
}

-- so what always holds is kept, and the change has its shape
pub run_kept : (def : SpaceView) (x : SpaceState) (t : ThreadNo) (thread : Thread) (instr : Instr) (new : Effect) → IsSound x → CanRun def x t
    → thread ≡ thread_in x t → CanDo def x t thread instr → new ≡ effect_of x t thread instr
    → IsSound new.space × IsShaped x t (thread_in x t).place new.space
run_kept def x t thread instr new sound runs is can does =
    let place = (thread_in x t).place in
    let shaped : IsShaped x t place new.space =
    subst (λ (p : Place). IsShaped x t p new.space) (ap (λ (y : Thread). y.place) is)
    (subst (λ (done : Effect). IsShaped x t thread.place done.space) (sym does) (shape def x t thread instr can)) in
    (stays_sound x t place new.space shaped sound can.made (λ waits. let both : true ≡ false = sym runs.runs ∙ ap is_running waits in cc), shaped)
