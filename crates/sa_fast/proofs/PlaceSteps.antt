-- After an instruction each thread's place agrees with where it is.
use Rattle.std.proofs.Common.{◌≡◌, ◌≢◌, ℕ, ◌+◌, ◌≤◌, ◌<◌, Bool, true, false, cond, not, ◌&&◌, nat_lt, get_or, List, [], ◌∷◌, ◌++◌, length, Option, Some, None, refl, sym, ap, ◌∙◌, subst, ◌⊎◌, inl, inr, arith}
use Rattle.std.proofs.lemmas.Bool.{cases_eq}
use Rattle.std.proofs.lemmas.List.{get_or-set_same, get_or-set_other, length-set}
use Rattle.sa_base.specs.declared.number.ThreadNo.{ThreadNo}
use Rattle.sa_instr.specs.declared.instr.Instr.{Instr}
use Rattle.sa_instr.specs.declared.instr.Instr.TheVariants.{Compute, Load, Store, Out, Fork, Join, Lock, Unlock, Wait, Signal, Io, Touch, End}
use Rattle.sa_instr.specs.declared.instr.Reg.{Reg}
use Rattle.sa_instr.specs.Regs.{reg_value}
use Rattle.sa_spaces.specs.Space.{SpaceView}
use Rattle.sa_links.specs.Lists.{count_in_all}
use Rattle.sa_lists.specs.ReadyView.{next_made}
use Rattle.sa_code.specs.Micro.{is_resident}
use Rattle.sa_sync.specs.declared.answer.SyncAnswer.{SyncAnswer}
use Rattle.sa_sync.specs.declared.answer.SyncAnswer.TheVariants as answer
use Rattle.sa_sync.specs.Sync.{Sync, mutex_at, semaphore_at, joiners_at, is_done, with_joiners, waits_of}
use Rattle.sa_sync.specs.Calls.{Change, goes, waits, is_holder, locked, passed_on, unlocked, waited, signalled, joined, stored}
use Rattle.sa_fast.specs.declared.shared.Shared.{Shared}
use Rattle.sa_fast.specs.declared.threads.Block.{Block}
use Rattle.sa_fast.specs.declared.threads.KeptPlace.{KeptPlace}
use Rattle.sa_fast.specs.declared.threads.KeptPlace.TheVariants.{Unmade, Running, Waiting, Blocked, Done}
use Rattle.sa_fast.specs.declared.instruction.Ran.{Ran}
use Rattle.sa_fast.specs.declared.instruction.Ran.TheVariants.{Goes, Leaves, Blocks}
use Rattle.sa_fast.specs.declared.instruction.TheConstants.{NOT_MADE}
use Rattle.sa_fast.specs.Threads.{at_start, unmade, block_at, with_block, moved_to, is_done as is_done_place}
use Rattle.sa_fast.specs.Instruction.{Outcome, outcome_of, went, told_by, synced, forked, joins, touched, with_sync, next_of, value_in, instr_of, run}
use Rattle.sa_fast.specs.Rest.{one_if, one_where, done_at, unmade_at, threads_at_rest, is_ready, is_waiting, is_unmade, is_carried, place_at, AgreesBy, AgreesAt, not_carried, ArePartsFor}
use Rattle.sa_fast.proofs.Moves.{RunStep, PlaceStep, stays_with}
use Rattle.sa_fast.proofs.WorkSteps.{one_same, one_other}
use Rattle.sa_fast.proofs.SyncSteps.{locked_by-done, passed_on-done, waited_by-done, signalled_by-done, ended_sync, ended-done}
use Rattle.sa_fast.proofs.RunSteps.{made_below, unmade_above, one_made, next_is}

abbrev if_not : Bool → ℕ
if_not b = cond b 0 1

-- a thread that a context carries is at no other place
carried_is : (p : KeptPlace) → if_not (is_carried p) ≡ 0 → (one_where (is_ready p) ≡ 0) × (one_where (is_done_place p) ≡ 0) × (one_where (is_unmade p) ≡ 0)
carried_is Running e = (refl, refl, refl)
carried_is Blocked e = (refl, refl, refl)
carried_is _ e = absurd (omega arith)

-- nor is one that was not made
unmade_is : (p : KeptPlace) → one_where (is_unmade p) ≡ 1 → if_not (is_carried p) ≡ 1
unmade_is Unmade e = refl
unmade_is _ e = absurd (omega arith)

stays_other : (a : Ran) (t : ThreadNo) (u : ℕ) → u ≢ t.0 → stays_with a t u ≡ 0
stays_other Leaves t u ne = refl
stays_other _ t u ne = one_other t.0 u (λ e. ne (sym e))

-- where the thread of the instruction is after it, by the answer
abbrev IsPlaceFor : Shared → ThreadNo → Sync → KeptPlace → Ran → Type 0
IsPlaceFor x t s p Goes = p ≡ place_at x t.0
IsPlaceFor x t s p Leaves = ((p ≡ Waiting) × (done_at s t.0 ≡ done_at x.sync t.0)) ⊎ ((p ≡ Done) × (done_at s t.0 ≡ 1))
IsPlaceFor x t s p (Blocks length page) = p ≡ Blocked

-- an instruction that changes the thread's block alone, and makes no other thread done
record Shape (x : Shared) (t : ThreadNo) (o : Outcome) : Type 0 where
  block : Block
  threads : o.shared.threads ≡ with_block x.threads t.0 block
  made : o.shared.state.lists.made ≡ x.state.lists.made
  done : (u : ℕ) → u ≢ t.0 → done_at o.shared.sync u ≡ done_at x.sync u
  place : IsPlaceFor x t o.shared.sync block.place o.answer

module _ (def : SpaceView) (processors event : ℕ) (x : Shared) (w : Option ThreadNo) (t : ThreadNo) (parts : ArePartsFor def processors event x)
    (hand : threads_at_rest x t.0 ≡ 0)
    (once : (u : ℕ) → threads_at_rest x u ≤ 1) (all : (u : ℕ) → AgreesAt x u) (runs : not_carried x t.0 ≡ 0) where
  made_t : t.0 < x.state.lists.made
  made_t = made_below x.state.lists t.0 (omega (arith, hand))

  inside : t.0 < length x.threads
  inside = omega (arith, made_t, parts.state.ready.made, parts.threads, parts.blocks)

  module _ (o : Outcome) (step : RunStep def processors event x w t o) (shape : Shape x t o) where
    same_listed : (u : ℕ) → count_in_all u o.shared.state.lists.lists ≡ count_in_all u x.state.lists.lists
    same_listed u = ap (count_in_all u) step.lists

    same_unmade : (u : ℕ) → unmade_at o.shared.state.lists u ≡ unmade_at x.state.lists u
    same_unmade u = ap (λ m. if_not (nat_lt u m)) shape.made

    place_t : place_at o.shared t.0 ≡ shape.block.place
    place_t = ap (λ bs. (block_at bs t.0).place) shape.threads ∙ ap (λ (b : Block). b.place) (get_or-set_same x.threads t.0 shape.block unmade inside)

    place_other : (u : ℕ) → u ≢ t.0 → place_at o.shared u ≡ place_at x u
    place_other u ne = ap (λ bs. (block_at bs u).place) shape.threads ∙ ap (λ (b : Block). b.place) (get_or-set_other x.threads t.0 u shape.block unmade ne)

    abbrev Agrees : KeptPlace → Type 0
    Agrees p =
        AgreesBy (count_in_all t.0 o.shared.state.lists.lists) (waits_of o.shared.sync t.0) (done_at o.shared.sync t.0) (unmade_at o.shared.state.lists t.0) p

    -- in a hand, at a place of hands
    in_hand : (p : KeptPlace) → threads_at_rest o.shared t.0 ≡ 0
        → (one_where (is_ready p) ≡ 0) × (one_where (is_done_place p) ≡ 0) × (one_where (is_unmade p) ≡ 0) → Agrees p
    in_hand p none at = record {
      ready = omega (arith, none, at.0);
      waiting = omega (arith, none);
      ends = omega (arith, none, at.1);
      new = omega (arith, none, at.2);
    }

    agrees_t : (a : Ran) → o.answer ≡ a → IsPlaceFor x t o.shared.sync shape.block.place a → Agrees shape.block.place
    agrees_t Goes is at =
        let stays : stays_with o.answer t t.0 ≡ one_if t.0 t.0 = ap (λ r. stays_with r t t.0) is in
        in_hand shape.block.place (omega (arith, step.threads t.0, stays, hand)) (carried_is shape.block.place (ap (λ p. if_not (is_carried p)) at ∙ runs))
    agrees_t (Blocks length page) is at =
        let stays : stays_with o.answer t t.0 ≡ one_if t.0 t.0 = ap (λ r. stays_with r t t.0) is in
        in_hand shape.block.place (omega (arith, step.threads t.0, stays, hand)) (carried_is shape.block.place (ap (λ p. if_not (is_carried p)) at))
    agrees_t Leaves is (inl at) =
        let one = one_same t.0 t.0 refl in
        subst Agrees (sym at.0) (record {
          ready = omega (arith, same_listed t.0, hand);
          waiting = omega (arith, step.threads t.0, hand, one);
          ends = omega (arith, at.1, hand);
          new = omega (arith, same_unmade t.0, hand);
        })
    agrees_t Leaves is (inr at) =
        let one = one_same t.0 t.0 refl in
        subst Agrees (sym at.0) (record {
          ready = omega (arith, same_listed t.0, hand);
          waiting = omega (arith, step.threads t.0, hand, one, at.1);
          ends = at.1;
          new = omega (arith, same_unmade t.0, hand);
        })

    carries_t : (a : Ran) → o.answer ≡ a → IsPlaceFor x t o.shared.sync shape.block.place a → if_not (is_carried shape.block.place) + stays_with a t t.0 ≡ 1
    carries_t Goes is at = let zero_is : if_not (is_carried shape.block.place) ≡ 0 = ap (λ p. if_not (is_carried p)) at ∙ runs in
        omega (arith, zero_is, one_same t.0 t.0 refl)
    carries_t (Blocks length page) is at = let zero_is : if_not (is_carried shape.block.place) ≡ 0 = ap (λ p. if_not (is_carried p)) at in
        omega (arith, zero_is, one_same t.0 t.0 refl)
    carries_t Leaves is (inl at) = let one : if_not (is_carried shape.block.place) ≡ 1 = ap (λ p. if_not (is_carried p)) at.0 in omega (arith, one)
    carries_t Leaves is (inr at) = let one : if_not (is_carried shape.block.place) ≡ 1 = ap (λ p. if_not (is_carried p)) at.0 in omega (arith, one)

    agrees_other : (u : ℕ) → u ≢ t.0 → AgreesAt o.shared u
    agrees_other u ne =
        let was = all u in
        let waiting : waits_of o.shared.sync u ≤ one_where (is_waiting (place_at x u)) =
        omega (
          arith,
          was.waiting,
          step.threads u,
          stays_other o.answer t u ne,
          one_other t.0 u (λ e. ne (sym e)),
          same_listed u,
          same_unmade u,
          shape.done u ne,
        ) in
        subst (λ p. AgreesBy (count_in_all u o.shared.state.lists.lists) (waits_of o.shared.sync u) (done_at o.shared.sync u)
        (unmade_at o.shared.state.lists u) p) (sym (place_other u ne))
        (record { ready = same_listed u ∙ was.ready; waiting = waiting; ends = shape.done u ne ∙ was.ends; new = same_unmade u ∙ was.new })

    shaped : PlaceStep x t o
    shaped = record {
      places = λ u. elim (cases_eq u t.0) [
        | inl e ↦ subst (AgreesAt o.shared) (sym e) (subst Agrees (sym place_t) (agrees_t o.answer refl shape.place))
        | inr ne ↦ agrees_other u ne
      ];
      carries = λ u. elim (cases_eq u t.0) [
        | inl e ↦
            let now : not_carried o.shared t.0 ≡ if_not (is_carried shape.block.place) = ap (λ p. if_not (is_carried p)) place_t in
            subst (λ k. not_carried o.shared k + stays_with o.answer t k ≡ not_carried x k + one_if t.0 k) (sym e)
            (omega (arith, now, carries_t o.answer refl shape.place, runs, one_same t.0 t.0 refl))
        | inr ne ↦
            let same : not_carried o.shared u ≡ not_carried x u = ap (λ p. if_not (is_carried p)) (place_other u ne) in
            omega (arith, same, stays_other o.answer t u ne, one_other t.0 u (λ e. ne (sym e)))
      ];
    }

  -- the shapes, by instruction
  own_shape : (s : Sync) (b : Block) (new : List (List ℕ)) (name : Option ThreadNo) (a : Ran) → s.done ≡ x.sync.done → IsPlaceFor x t s b.place a
      → Shape x t (record { shared = record x { threads = with_block x.threads t.0 b; sync = s; works = new }; work = name; answer = a })
  own_shape s b new name a ends at = record {
    block = b;
    threads = refl;
    made = refl;
    done = λ u ne. ap (λ ds. cond (get_or ds u false) 1 0) ends;
    place = at;
  }

  told_shape : (s : Sync) (b : Block) (a : SyncAnswer) → s.done ≡ x.sync.done → b.place ≡ place_at x t.0 → Shape x t (told_by (with_sync x s) w t b a)
  told_shape s b answer.Goes ends at = own_shape s b x.works w Goes ends at
  told_shape s b answer.Waits ends at = own_shape s (moved_to b Waiting) x.works w Leaves ends (inl (refl, ap (λ ds. cond (get_or ds t.0 false) 1 0) ends))
  told_shape s b (answer.Wakes v) ends at = own_shape s b _ _ Goes ends at

  unlocked_done : (m : ℕ) → (unlocked x.sync t.0 m).state.done ≡ x.sync.done
  unlocked_done m =
      let q = (mutex_at x.sync m).queue in
      elim (is_holder t.0 (mutex_at x.sync m).holder) as (λ b. (cond b (passed_on x.sync m q) (goes x.sync)).state.done ≡ x.sync.done) [
        | true ↦
            passed_on-done x.sync m q
        | false ↦ refl
      ]

  joined_done : (other made : ℕ) → (joined x.sync t.0 other made).state.done ≡ x.sync.done
  joined_done other made =
      let after : Bool → Change = λ b. cond b (waits (with_joiners x.sync other (joiners_at x.sync other ++ t.0 ∷ []))) (goes x.sync) in
      elim (nat_lt other made && not (is_done x.sync other)) as (λ b. (after b).state.done ≡ x.sync.done) [ true ↦ refl | false ↦ refl ]

  touched_shape : (b : Block) (fetch page : ℕ) (resident : Bool) → b.place ≡ place_at x t.0 → Shape x t (touched x w t b fetch page resident)
  touched_shape b fetch page true at = own_shape x.sync (next_of b) x.works w Goes refl at
  touched_shape b fetch page false at = own_shape x.sync (moved_to b Blocked) x.works w (Blocks fetch (Some page)) refl refl

  -- a fork
  forked_place : (b : Block) (reg : Reg) (program : ℕ) (made : Option ℕ) → made ≡ next_made x.state.lists → b.place ≡ place_at x t.0
      → RunStep def processors event x w t (forked x w t b reg program made) → PlaceStep x t (forked x w t b reg program made)
  forked_place b reg program None e at step = shaped (forked x w t b reg program None) step (own_shape x.sync (value_in b reg NOT_MADE) x.works w Goes refl at)
  forked_place b reg program (Some n) e at step =
      let next = next_is x.state.lists n e in
      let parent : Block = value_in b reg n in
      let child : Block = at_start program Waiting in
      let parents : List Block = with_block x.threads t.0 parent in
      let o = forked x w t b reg program (Some n) in
      let there : n < length parents = omega (arith, next.0, next.1, parts.threads, parts.state.ready.threads, parts.blocks, length-set x.threads t.0 parent) in
      let apart : t.0 ≢ n = λ same. absurd (omega (arith, made_t, next.1, same)) in
      let above : unmade_at x.state.lists n ≡ 1 = unmade_above x.state.lists n (omega (arith, next.1)) in
      let place_n : place_at o.shared n ≡ Waiting = ap (λ (y : Block). y.place) (get_or-set_same parents n child unmade there) in
      let place_not : (u : ℕ) → u ≢ n → place_at o.shared u ≡ (block_at parents u).place =
      λ u ne. ap (λ (y : Block). y.place) (get_or-set_other parents n u child unmade ne) in
      let place_old : (u : ℕ) → u ≢ n → place_at o.shared u ≡ place_at x u = λ u ne. place_not u ne ∙ elim (cases_eq u t.0) [
        | inl same ↦ ap (λ k. (block_at parents k).place) same ∙ ap (λ (y : Block). y.place) (get_or-set_same x.threads t.0 parent unmade inside) ∙ at
            ∙ ap (place_at x) (sym same)
        | inr other ↦ ap (λ (y : Block). y.place) (get_or-set_other x.threads t.0 u parent unmade other)
      ] in
      record {
        places = λ u. elim (cases_eq u n) [
          | inl same ↦
              subst (AgreesAt o.shared) (sym same)
              (subst (λ p. AgreesBy (count_in_all n x.state.lists.lists) (waits_of x.sync n) (done_at x.sync n) (unmade_at o.shared.state.lists n) p)
              (sym place_n) (record {
                ready = omega (arith, once n, above);
                waiting = omega (arith, once n, above);
                ends = omega (arith, once n, above);
                new = omega (arith, one_made x.state.lists n n next.1, one_same n n refl, above);
              }))
          | inr ne ↦
              let was = all u in
              subst (λ p. AgreesBy (count_in_all u x.state.lists.lists) (waits_of x.sync u) (done_at x.sync u) (unmade_at o.shared.state.lists u) p)
              (sym (place_old u ne)) (record {
                ready = was.ready;
                waiting = was.waiting;
                ends = was.ends;
                new =
                    (let same_u : unmade_at o.shared.state.lists u ≡ unmade_at x.state.lists u =
                    omega (arith, one_made x.state.lists n u next.1, one_other n u (λ f. ne (sym f))) in same_u ∙ was.new);
              })
        ];
        carries = λ u. elim (cases_eq u n) [
          | inl same ↦
              let now : not_carried o.shared n ≡ 1 = ap (λ p. if_not (is_carried p)) place_n in
              let unmade_n : one_where (is_unmade (place_at x n)) ≡ 1 = sym (all n).new ∙ above in
              let was : not_carried x n ≡ 1 = unmade_is (place_at x n) unmade_n in
              subst (λ k. not_carried o.shared k + one_if t.0 k ≡ not_carried x k + one_if t.0 k) (sym same) (omega (arith, now, was))
          | inr ne ↦ let kept : not_carried o.shared u ≡ not_carried x u = ap (λ p. if_not (is_carried p)) (place_old u ne) in omega (arith, kept)
        ];
      }

  instr_place : (fetch pages : ℕ) (b : Block) (i : Instr) → b.place ≡ place_at x t.0 → RunStep def processors event x w t (outcome_of fetch pages x w t b i)
      → PlaceStep x t (outcome_of fetch pages x w t b i)
  instr_place fetch pages b Compute at step = shaped (went x w t b Compute) step (own_shape x.sync _ x.works w Goes refl at)
  instr_place fetch pages b (Load reg cell) at step = shaped (outcome_of fetch pages x w t b (Load reg cell)) step (own_shape x.sync _ x.works w Goes refl at)
  instr_place fetch pages b (Store reg cell) at step =
      shaped (outcome_of fetch pages x w t b (Store reg cell)) step (own_shape (stored x.sync cell (reg_value b.regs reg)) (next_of b) x.works w Goes refl at)
  instr_place fetch pages b (Out reg) at step = shaped (outcome_of fetch pages x w t b (Out reg)) step (own_shape x.sync (next_of b) x.works w Goes refl at)
  instr_place fetch pages b (Fork reg program) at step = forked_place b reg program (next_made x.state.lists) refl at step
  instr_place fetch pages b (Join reg) at step =
      let other : ℕ = reg_value b.regs reg in
      let change = joined x.sync t.0 other x.state.lists.made in
      shaped (joins x w t b reg x.state.lists.made) step
      (told_shape change.state (value_in b reg (cond (nat_lt other x.state.lists.made) 1 0)) change.answer (joined_done other x.state.lists.made) at)
  instr_place fetch pages b (Lock m) at step =
      let change = locked x.sync t.0 m in
      shaped (synced x w t (next_of b) change) step
      (told_shape change.state (next_of b) change.answer (locked_by-done x.sync t.0 m (mutex_at x.sync m).holder (mutex_at x.sync m).queue) at)
  instr_place fetch pages b (Unlock m) at step =
      let change = unlocked x.sync t.0 m in
      shaped (synced x w t (next_of b) change) step (told_shape change.state (next_of b) change.answer (unlocked_done m) at)
  instr_place fetch pages b (Wait k) at step =
      let change = waited x.sync t.0 k in
      shaped (synced x w t (next_of b) change) step
      (told_shape change.state (next_of b) change.answer (waited_by-done x.sync t.0 k (semaphore_at x.sync k).count (semaphore_at x.sync k).queue) at)
  instr_place fetch pages b (Signal k) at step =
      let change = signalled x.sync k in
      shaped (synced x w t (next_of b) change) step
      (told_shape change.state (next_of b) change.answer (signalled_by-done x.sync k (semaphore_at x.sync k).count (semaphore_at x.sync k).queue) at)
  instr_place fetch pages b (Io length) at step =
      shaped (outcome_of fetch pages x w t b (Io length)) step (own_shape x.sync (moved_to (next_of b) Blocked) x.works w (Blocks length None) refl refl)
  instr_place fetch pages b (Touch page) at step =
      shaped (touched x w t b fetch page (is_resident pages page)) step (touched_shape b fetch page (is_resident pages page) at)
  instr_place fetch pages b End at step =
      let live : done_at x.sync t.0 ≡ 0 = omega (arith, hand) in
      let ends : (u : ℕ) → done_at (ended_sync x.sync t.0) u ≡ done_at x.sync u + one_if t.0 u =
      λ u. ended-done x.sync t.0 u (omega (arith, inside, parts.blocks, parts.sync.done)) live in
      shaped (outcome_of fetch pages x w t b End) step (record {
        block = moved_to b Done;
        threads = refl;
        made = refl;
        done = λ u ne. omega (arith, ends u, one_other t.0 u (λ f. ne (sym f)));
        place = inr (refl, omega (arith, ends t.0, live, one_same t.0 t.0 refl));
      })
  instr_place fetch pages b i at step = shaped (went x w t b i) step (own_shape x.sync _ x.works w Goes refl at)

pub place-step : (def : SpaceView) (processors event fetch pages : ℕ) (x : Shared) (w : Option ThreadNo) (t : ThreadNo) → ArePartsFor def processors event x
    → threads_at_rest x t.0 ≡ 0
    → ((u : ℕ) → threads_at_rest x u ≤ 1) → ((u : ℕ) → AgreesAt x u) → not_carried x t.0 ≡ 0 → RunStep def processors event x w t (run def fetch pages x w t)
    → PlaceStep x t (run def fetch pages x w t)
place-step def processors event fetch pages x w t parts hand once all runs step =
    let b = block_at x.threads t.0 in instr_place def processors event x w t parts hand once all runs fetch pages b (instr_of def b) refl step
