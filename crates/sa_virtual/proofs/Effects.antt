-- What an instruction does to who waits: threads that it rouses leave their queues, or are new.
use Rattle.std.proofs.Common.{◌≡◌, ◌≢◌, ℕ, zero, suc, ◌+◌, ◌<◌, ◌≤◌, ◌^◌, ◌-◌, Bool, true, false, cond, nat_lt, List, [], ◌∷◌, ◌++◌, length, map, get_or, set, ◌==◌, inl, inr, refl, sym, ap, subst, ◌∙◌, arith}
use Rattle.std.proofs.lemmas.Bool.{cases_eq, cases_lt, ne_eqb, eq-eqb}
use Rattle.std.proofs.lemmas.List.{length-set, get_or-set_same, get_or-set_other, get_or_append_left, get_or-append_right, get_or_past}
use Rattle.sa_base.specs.declared.number.ProcNo.{ProcNo}
use Rattle.sa_base.specs.declared.number.ThreadNo.{ThreadNo}
use Rattle.sa_base.specs.declared.limits.TheConstants.{MAX_THREADS}
use Rattle.sa_instr.specs.declared.instr.Instr.{Instr}
use Rattle.sa_instr.specs.declared.instr.Instr.TheVariants.{Store, Out, Fork, Join, Lock, Unlock, Wait, Signal, Io, Touch, End}
use Rattle.sa_instr.specs.declared.instr.Reg.{Reg}
use Rattle.sa_instr.specs.Regs.{reg_value}
use Rattle.sa_spaces.specs.Space.{SpaceView}
use Rattle.sa_links.specs.Lists.{count_in}
use Rattle.sa_links.proofs.Counting.{count_same, count_other}
use Rattle.sa_sync.specs.declared.answer.SyncAnswer.{SyncAnswer}
use Rattle.sa_sync.specs.declared.answer.SyncAnswer.TheVariants as answers
use Rattle.sa_sync.specs.Sync.{Sync, joiners_at, with_joiners, waits_of}
use Rattle.sa_sync.specs.Calls.{Change, locked, unlocked, waited, signalled, joined, finished, stored}
use Rattle.sa_sync.specs.Laws.{TellsWhoWaits, woken, joining}
use Rattle.sa_sync.proofs.LawLemmas.{locked_tells, unlocked_tells, waited_tells, signalled_tells, joined_tells}
use Rattle.sa_laws.specs.declared.place.Place.{Place}
use Rattle.sa_laws.specs.declared.place.Place.TheVariants as places
use Rattle.sa_laws.specs.State.{Thread, SpaceState, at_start, with_thread, is_waiting}
use Rattle.sa_laws.specs.Effect.{Effect, effect, next, next_with, with_sync, answered, sync_effect, fork_effect, end_effect, effect_of}
use Rattle.sa_replay.specs.Space.{CanDo}
use Rattle.sa_sync.proofs.LawLemmas.{waits_parts}
use Rattle.sa_links.proofs.Counting.{count_set}
use Rattle.sa_virtual.specs.Holding.{one_where, kind, numbers, place_no}

abbrev pub waiting : SpaceState → ℕ → ℕ
waiting x u = one_where (is_waiting (place_no x u))

-- who waits then, and is roused, is who waited, or waits now; and no thread comes to be ready, carried or blocked, or
-- was
pub record Tells (x : SpaceState) (run : Effect) : Type 0 where
  pub waits : (u : ℕ) → waits_of run.space.sync u + count_in u (numbers run.roused) + waiting x u ≡ waits_of x.sync u + waiting run.space u
  pub kinds : (u : ℕ) → kind (place_no run.space u) ≡ kind (place_no x u)

pub roused_numbers : (us : List ℕ) → numbers (map (λ u. record { 0 = u }) us) ≡ us
roused_numbers [] = refl
roused_numbers (u ∷ us) = ap (λ xs. u ∷ xs) (roused_numbers us)

abbrev of_thread : ThreadNo → Place → ℕ → ℕ
of_thread t place u = cond (t.0 == u) (one_where (is_waiting place)) 0

-- nothing is counted either way
abbrev pub nought : Bool → ℕ
nought b = cond b 0 0

pub nought_is : (b : Bool) → nought b ≡ 0
nought_is true = refl
nought_is false = refl

one_rouses : (w : ThreadNo) (u : ℕ) → count_in u (numbers (w ∷ [])) ≡ woken (answers.Wakes w) u
one_rouses w u = elim (cases_eq w.0 u) [
  | inl e ↦ count_same u w.0 [] e ∙ sym (ap (λ b. cond b 1 0) (eq-eqb w.0 u e))
  | inr ne ↦ count_other u w.0 [] ne ∙ sym (ap (λ b. cond b 1 0) (ne_eqb w.0 u ne))
]

past_one : (program k : ℕ) → 1 ≤ k → (get_or (at_start program places.Waiting ∷ []) k (at_start 0 places.Done)).place ≡ places.Done
past_one program zero some = absurd (omega (arith, some))
past_one program (suc k) some = refl

plain_one : (program k : ℕ) → kind (get_or (at_start program places.Waiting ∷ []) k (at_start 0 places.Done)).place ≡ 0
plain_one program zero = refl
plain_one program (suc k) = refl

module _ (x : SpaceState) (t : ThreadNo) (p : ProcNo) (runs : place_no x t.0 ≡ places.Running p) (made : t.0 < length x.threads) where
  -- where a thread is, once this one is another
  own : (after : Thread) → place_no (with_thread x t after) t.0 ≡ after.place
  own after = ap (λ (y : Thread). y.place) (get_or-set_same x.threads t.0 after (at_start 0 places.Done) made)

  other : (after : Thread) (u : ℕ) → u ≢ t.0 → place_no (with_thread x t after) u ≡ place_no x u
  other after u ne = ap (λ (y : Thread). y.place) (get_or-set_other x.threads t.0 u after (at_start 0 places.Done) ne)

  none_waits : waiting x t.0 ≡ 0
  none_waits = ap (λ place. one_where (is_waiting place)) runs

  -- an instruction that forks no thread
  alone : (after : Thread) (sync : Sync) (roused : List ThreadNo) → kind after.place ≡ 0
      → ((u : ℕ) → waits_of sync u + count_in u (numbers roused) ≡ waits_of x.sync u + of_thread t after.place u)
      → Tells x (effect (with_thread (with_sync x sync) t after) roused)
  alone after sync roused plain sums = record {
    waits = λ u. elim (cases_eq u t.0) [
      | inl e ↦ subst (λ n. waits_of sync n + count_in n (numbers roused) + waiting x n ≡ waits_of x.sync n + waiting (with_thread x t after) n) (sym e) (
          let mine : of_thread t after.place t.0 ≡ one_where (is_waiting after.place) =
          ap (λ b. cond b (one_where (is_waiting after.place)) 0) (eq-eqb t.0 t.0 refl) in
          let now : waiting (with_thread x t after) t.0 ≡ one_where (is_waiting after.place) = ap (λ place. one_where (is_waiting place)) (own after) in
          omega (arith, sums t.0, mine, now, none_waits))
      | inr ne ↦
          let none : of_thread t after.place u ≡ 0 = ap (λ b. cond b (one_where (is_waiting after.place)) 0) (ne_eqb t.0 u (λ e. ne (sym e))) in
          let now : waiting (with_thread x t after) u ≡ waiting x u = ap (λ place. one_where (is_waiting place)) (other after u ne) in
          omega (arith, sums u, none, now)
    ];
    kinds = λ u. elim (cases_eq u t.0) [
      | inl e ↦ subst (λ n. kind (place_no (with_thread x t after) n) ≡ kind (place_no x n)) (sym e) (ap kind (own after) ∙ plain ∙ sym (ap kind runs))
      | inr ne ↦ ap kind (other after u ne)
    ];
  }

  -- nobody waits anew
  runs_on : (after : Thread) (u : ℕ) → is_waiting after.place ≡ false → of_thread t after.place u ≡ 0
  runs_on after u is = ap (λ b. cond (t.0 == u) (one_where b) 0) is ∙ nought_is (t.0 == u)

  goes_alone : (after : Thread) → after.place ≡ places.Running p → Tells x (effect (with_thread x t after) [])
  goes_alone after is = alone after x.sync [] (ap kind is) (λ u. omega (arith, runs_on after u (ap is_waiting is)))

  -- a call of what threads wait on
  told : (thread : Thread) (sync : Sync) (answer : SyncAnswer) → thread.place ≡ places.Running p
      → ((u : ℕ) → waits_of sync u + woken answer u ≡ waits_of x.sync u + joining answer t.0 u)
      → Tells x (answered (with_sync x sync) t thread answer)
  told thread sync answers.Goes is tells = alone thread sync [] (ap kind is) (λ u. omega (arith, tells u, runs_on thread u (ap is_waiting is)))
  told thread sync answers.Waits is tells = alone (record thread { place = places.Waiting }) sync [] refl (λ u. tells u)
  told thread sync (answers.Wakes w) is tells =
      alone thread sync (w ∷ []) (ap kind is) (λ u. omega (arith, tells u, one_rouses w u, runs_on thread u (ap is_waiting is)))

  synced : (thread : Thread) (change : Change) → thread.place ≡ places.Running p → TellsWhoWaits x.sync t.0 change → Tells x (sync_effect x t thread change)
  synced thread change is tells = told thread change.state change.answer is tells

  -- a fork
  forked : (after : Thread) (program : ℕ) → after.place ≡ places.Running p
      → Tells x (effect (record x { threads = set x.threads t.0 after ++ at_start program places.Waiting ∷ [] }) (record { 0 = length x.threads } ∷ []))
  forked after program is =
      let made' = length x.threads in
      let parents = set x.threads t.0 after in
      let child = at_start program places.Waiting in
      let new = record x { threads = parents ++ child ∷ [] } in
      let size : length parents ≡ made' = length-set x.threads t.0 after in
      let parent = goes_alone after is in
      let there : (u : ℕ) → u < made' → place_no new u ≡ place_no (with_thread x t after) u = λ u below.
      ap (λ (y : Thread). y.place) (get_or_append_left parents (child ∷ []) (at_start 0 places.Done) u (omega (arith, size, below))) in
      let behind : (u : ℕ) → made' ≤ u → place_no new u ≡ (get_or (child ∷ []) (u - made') (at_start 0 places.Done)).place = λ u past.
      ap (λ (y : Thread). y.place) (get_or-append_right parents (child ∷ []) made' u (at_start 0 places.Done) size past) in
      let before : (u : ℕ) → made' ≤ u → place_no x u ≡ places.Done = λ u past.
      ap (λ (y : Thread). y.place) (get_or_past x.threads u (at_start 0 places.Done) past) in
      record {
        waits = λ u. elim (cases_lt u made') [
          | inl below ↦
              let none : count_in u (numbers (record { 0 = made' } ∷ [])) ≡ 0 = count_other u made' [] (λ e. absurd (omega (arith, e, below))) in
              let as' : waiting new u ≡ waiting (with_thread x t after) u = ap (λ place. one_where (is_waiting place)) (there u below) in
              omega (arith, none, as', parent.waits u)
          | inr past ↦ elim (cases_eq u made') [
            | inl e ↦
                let one : count_in u (numbers (record { 0 = made' } ∷ [])) ≡ 1 = count_same u made' [] (sym e) in
                let now : waiting new u ≡ 1 =
                ap (λ place. one_where (is_waiting place))
                (behind u past ∙ ap (λ n. (get_or (child ∷ []) n (at_start 0 places.Done)).place) (let z : u - made' ≡ 0 = omega (arith, e) in z)) in
                let old : waiting x u ≡ 0 = ap (λ place. one_where (is_waiting place)) (before u past) in
                omega (arith, one, now, old)
            | inr ne ↦
                let none : count_in u (numbers (record { 0 = made' } ∷ [])) ≡ 0 = count_other u made' [] (λ e. ne (sym e)) in
                let now : waiting new u ≡ 0 =
                ap (λ place. one_where (is_waiting place)) (behind u past ∙ past_one program (u - made') (omega (arith, past, ne))) in
                let old : waiting x u ≡ 0 = ap (λ place. one_where (is_waiting place)) (before u past) in
                omega (arith, none, now, old)
          ]
        ];
        kinds = λ u. elim (cases_lt u made') [
          | inl below ↦ ap kind (there u below) ∙ parent.kinds u
          | inr past ↦ ap kind (behind u past) ∙ plain_one program (u - made') ∙ sym (ap kind (before u past))
        ];
      }

  forks : (thread : Thread) (reg : Reg) (program : ℕ) → thread.place ≡ places.Running p → Tells x (fork_effect x t thread reg program)
  forks thread reg program is =
      let made' = length x.threads in
      let forking = with_thread x t (next_with thread reg made') in
      let done : Bool → Effect = λ b. cond b
      (effect (record forking { threads = forking.threads ++ at_start program places.Waiting ∷ [] }) (record { 0 = made' } ∷ []))
      (effect (with_thread x t (next_with thread reg (2 ^ 64 - 1))) []) in
      elim (nat_lt made' MAX_THREADS) as (λ b. Tells x (done b)) [
        | true ↦ forked (next_with thread reg made') program is
        | false ↦ goes_alone (next_with thread reg (2 ^ 64 - 1)) is
      ]

  -- the end of a thread
  ends : (thread : Thread) → t.0 < length x.sync.joiners → Tells x (end_effect x t thread)
  ends thread inside =
      let done = finished x.sync t.0 in
      let sync = with_joiners done t.0 [] in
      let us = joiners_at x.sync t.0 in
      alone (record thread { place = places.Done }) sync (map (λ u. record { 0 = u }) us) refl (λ u.
      let all : count_in u (numbers (map (λ u. record { 0 = u }) us)) ≡ count_in u us = ap (count_in u) (roused_numbers us) in
      omega (arith, all, count_set u done.joiners t.0 [] inside, waits_parts done u, waits_parts sync u, nought_is (t.0 == u)))

  module _ (def : SpaceView) (thread : Thread) (is : thread.place ≡ places.Running p) where
    pub tells_of : (instr : Instr) → CanDo def x t thread instr → Tells x (effect_of x t thread instr)
    tells_of (Store reg cell) can =
        alone (next thread) (stored x.sync cell (reg_value thread.regs reg)) [] (ap kind is) (λ u. omega (arith, runs_on (next thread) u (ap is_waiting is)))
    tells_of (Out reg) can = goes_alone (next thread) is
    tells_of (Fork reg program) can = forks thread reg program is
    tells_of (Join reg) can =
        let other' = reg_value thread.regs reg in
        synced (next_with thread reg (cond (nat_lt other' (length x.threads)) 1 0)) (joined x.sync t.0 other' (length x.threads)) is
        (joined_tells x.sync t.0 other' (length x.threads) (omega (arith, can.few, can.joiners)))
    tells_of (Lock m) can = synced (next thread) (locked x.sync t.0 m) is (locked_tells x.sync t.0 m (omega (arith, can.named.0, can.declared.mutexes)))
    tells_of (Unlock m) can = synced (next thread) (unlocked x.sync t.0 m) is (unlocked_tells x.sync t.0 m (omega (arith, can.named.0, can.declared.mutexes)))
    tells_of (Wait k) can = synced (next thread) (waited x.sync t.0 k) is (waited_tells x.sync t.0 k (omega (arith, can.named.0, can.declared.semaphores)))
    tells_of (Signal k) can = synced (next thread) (signalled x.sync k) is (signalled_tells x.sync t.0 k (omega (arith, can.named.0, can.declared.semaphores)))
    tells_of (Io length) can = goes_alone (next thread) is
    tells_of (Touch page) can = goes_alone (next thread) is
    tells_of End can = ends thread (omega (arith, can.made, can.few, can.joiners))
    tells_of _ can = goes_alone _ is
