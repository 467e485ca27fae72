-- The k-th turn is that of the k-th processor.
use Rattle.std.proofs.Common.{◌≡◌, ◌≤◌, ℕ, zero, suc, ◌+◌, ◌-◌, ◌%◌, true, false, cond, drop, min, refl, sym, ap, ◌∙◌, arith, slice_get, add-one}
use Rattle.std.specs.Prelude.{unwrap_or}
use Rattle.std.proofs.lemmas.Bool.Decides.{nat_tests}
use Rattle.std.proofs.Math.Nat.{mod-add-mod}
use Rattle.sa_sched.specs.declared.TheConstants.{HOLD_EVENTS}
use Rattle.sa_sched.specs.Generator.{state_of, increment_of, word_of}
use Rattle.sa_sched.specs.Order.{Order, RoundRobin, Seed, Given, Hold, processor_at, in_turn, other_than, is_held}
use Rattle.sa_sched.specs.Turns.{Rest, NoRest, Words, Procs, Holding, Turns, start, whole, behind, turned, turned_often, next_of, next_processor, holds}
use Rattle.sa_sched.proofs.Lists.{slice_get-drop, drop-next}

-- what is left of an order after that many turns
abbrev rest_behind : Order → ℕ → Rest
rest_behind RoundRobin turns = NoRest
rest_behind (Seed seed) turns = Words (increment_of seed) (state_of seed turns)
rest_behind (Given procs) turns = Procs (drop turns procs)
rest_behind (Hold held from) turns = Holding held (from - (turns + 1)) (min (turns + 1 - from) HOLD_EVENTS)

rest_first : (order : Order) → whole order ≡ rest_behind order 0
rest_first RoundRobin = refl
rest_first (Seed seed) = refl
rest_first (Given procs) = refl
rest_first (Hold held from) =
    let over : 1 - from ≡ min (0 + 1 - from) HOLD_EVENTS = omega arith in
    let before : from - 1 ≡ from - (0 + 1) = omega arith in
    ap (λ x. Holding held x (1 - from)) before ∙ ap (λ x. Holding held (from - (0 + 1)) x) over

hold_behind : (held from turns before : ℕ) → from - (turns + 1) ≡ before
    → behind (Holding held before (min (turns + 1 - from) HOLD_EVENTS)) ≡ rest_behind (Hold held from) (turns + 1)
hold_behind held from turns zero e =
    let none : 0 ≡ from - (turns + 1 + 1) = omega arith in
    let over : min (min (turns + 1 - from) HOLD_EVENTS + 1) HOLD_EVENTS ≡ min (turns + 1 + 1 - from) HOLD_EVENTS = omega arith in
    ap (λ x. Holding held x (min (min (turns + 1 - from) HOLD_EVENTS + 1) HOLD_EVENTS)) none ∙ ap (λ x. Holding held (from - (turns + 1 + 1)) x) over
hold_behind held from turns (suc before) e =
    let fewer : before ≡ from - (turns + 1 + 1) = omega arith in
    let over : min (turns + 1 - from) HOLD_EVENTS ≡ min (turns + 1 + 1 - from) HOLD_EVENTS = omega arith in
    ap (λ x. Holding held x (min (turns + 1 - from) HOLD_EVENTS)) fewer ∙ ap (λ x. Holding held (from - (turns + 1 + 1)) x) over

rest_next : (order : Order) (turns : ℕ) → behind (rest_behind order turns) ≡ rest_behind order (turns + 1)
rest_next RoundRobin turns = refl
rest_next (Seed seed) turns = ap (λ k. Words (increment_of seed) (state_of seed k)) (sym (add-one turns))
rest_next (Given procs) turns = ap Procs (sym (drop-next procs turns))
rest_next (Hold held from) turns =
    hold_behind held from turns (from - (turns + 1)) refl

behind_turns : (order : Order) (processors turns : ℕ) → 1 ≤ processors
    → turned_often (start order processors) turns ≡ record { processors = processors; turn = turns % processors; rest = rest_behind order turns }
behind_turns order processors zero some =
    let first : 0 ≡ 0 % processors = omega arith in
    let made : ℕ → Rest → Turns = λ turn rest. record { processors = processors; turn = turn; rest = rest } in
    ap (λ x. made 0 x) (rest_first order) ∙ ap (λ x. made x (rest_behind order 0)) first
behind_turns order processors (suc turns) some =
    let made : ℕ → Rest → Turns = λ turn rest. record { processors = processors; turn = turn; rest = rest } in
    ap turned (behind_turns order processors turns some)
    ∙ ap (λ x. made x (behind (rest_behind order turns))) (mod-add-mod turns processors 1)
    ∙ ap (λ x. made ((turns + 1) % processors) x) (rest_next order turns)
    ∙ ap (λ n. made (n % processors) (rest_behind order n)) (add-one turns)

back : (turns : ℕ) → turns ≡ turns + 1 - 1
back turns = omega arith

-- a processor is held at the same events
same_tests : (processors held from turns : ℕ)
    → holds processors held (from - (turns + 1)) (min (turns + 1 - from) HOLD_EVENTS) ≡ is_held processors held from (turns + 1)
same_tests processors held from turns = grind (arith, nat_tests)

held_place : (processors held from turns : ℕ) → is_held processors held from (turns + 1) ≡ true → min (turns + 1 - from) HOLD_EVENTS ≡ turns + 1 - from
held_place processors held from turns e = grind (arith, nat_tests)

next_at : (order : Order) (processors turns : ℕ) → next_of processors (turns % processors) (rest_behind order turns) ≡ processor_at order processors (turns + 1)
next_at RoundRobin processors turns = ap (λ n. n % processors) (back turns)
next_at (Seed seed) processors turns = ap (λ n. word_of (state_of seed n) % processors) (back turns)
next_at (Given procs) processors turns =
    ap (λ o. unwrap_or o (turns % processors)) (slice_get-drop procs turns) ∙ ap (λ n. unwrap_or (slice_get procs n) (n % processors)) (back turns)
next_at (Hold held from) processors turns =
    let k = turns + 1 in
    let over = min (k - from) HOLD_EVENTS in
    ap (λ b. cond b (other_than held (over % (processors - 1))) (turns % processors)) (same_tests processors held from turns)
    ∙ elim (is_held processors held from k) as
    (λ b. b ≡ is_held processors held from k
    → cond b (other_than held (over % (processors - 1))) (turns % processors) ≡ cond b (other_than held ((k - from) % (processors - 1)))
    (in_turn processors k)) [
      | true ↦ λ e. ap (λ n. other_than held (n % (processors - 1))) (held_place processors held from turns (sym e))
      | false ↦ λ e. ap (λ n. n % processors) (back turns)
    ] refl

pub turns_in_order : (order : Order) (processors turns : ℕ) → 1 ≤ processors
    → next_processor (turned_often (start order processors) turns) ≡ processor_at order processors (turns + 1)
turns_in_order order processors turns some = ap next_processor (behind_turns order processors turns some) ∙ next_at order processors turns
