-- Each turn is legal, and everything holds after it.
use Rattle.std.proofs.Common.{◌≡◌, ℕ, zero, suc, ◌+◌, ◌-◌, ◌^◌, ◌<◌, ◌≤◌, Bool, true, false, cond, eqb, ◌&&◌, List, [], ◌∷◌, ◌++◌, length, filter, slice_get, Option, Some, None, refl, sym, ap, subst, ◌∙◌, arith}
use Rattle.std.proofs.lemmas.List.Elements.{All-head, All-tail}
use Rattle.std.specs.Prelude.{All, ◌==◌, count_by, find, nat_le}
use Rattle.std.proofs.lemmas.Bool.{eq-eqb, ne_eqb, and_parts}
use Rattle.std.proofs.lemmas.Option.{same_Some}
use Rattle.std.proofs.lemmas.List.Sums.{sum_by-cons}
use Rattle.sa_base.specs.declared.number.ProcNo.{ProcNo}
use Rattle.sa_base.specs.declared.number.ThreadNo.{ThreadNo}
use Rattle.sa_base.specs.declared.number.ActNo.{ActNo}
use Rattle.sa_base.specs.declared.limits.TheConstants.{MAX_PROCESSORS}
use Rattle.sa_instr.specs.declared.limits.TheConstants.{MAX_START}
use Rattle.sa_instr.specs.declared.instr.Instr.{Instr}
use Rattle.sa_instr.specs.declared.instr.Instr.TheVariants.{Out, Io as IoOf}
use Rattle.sa_spaces.specs.Workload.{WorkloadView, IsWorkload}
use Rattle.sa_devices.specs.Ios.{Io, due_of}
use Rattle.sa_laws.specs.State.{runner_of, next_instr, thread_at}
use Rattle.sa_laws.specs.Readings.{Listed, is_in}
use Rattle.sa_base.specs.declared.record.Record.{Record}
use Rattle.sa_base.specs.declared.record.Item.{Item}
use Rattle.sa_base.specs.Items.{items_at}
use Rattle.sa_laws.specs.Event.{Event, items_of, events_of, before_events}
use Rattle.sa_laws.proofs.Records.{number-kept}
use Rattle.sa_replay.specs.Index.{runner_at}
use Rattle.sa_replay.proofs.IndexLemmas.{runner}
use Rattle.sa_virtual.specs.Virtual.{Virtuals, opening, space_of, list_of, placed_on, ready_of}
use Rattle.sa_virtual.specs.Turn.{ran, run_of, misses, popped, taken_from, chosen, threads_in, has_some, round_from, stepped, with_step, carried_on, stopped, some_wait, moves_on, proceeds, quantum, turned_by, turned, evicted, event_on, after}
use Rattle.sa_virtual.specs.Legal.{IsTurn, AreTurns, run_from}
use Rattle.sa_virtual.specs.Runs.{RunsAreLegal}
use Rattle.sa_virtual.specs.Holding.{one_where}
use Rattle.sa_virtual.specs.Turning.{Good, Met, HasRoom, IsBelow}
use Rattle.sa_virtual.proofs.Room.{weaker}
use Rattle.sa_virtual.proofs.Opening.{opening_good, opening_below}
use Rattle.sa_virtual.proofs.Turns.{unblocks, places_first, carrier, pushes, takes}
use Rattle.sa_virtual.proofs.MoreTurns.{stops_it}
use Rattle.sa_virtual.proofs.RanTurns.{faults, plainly, outs, blocks_on}

-- who is chosen is among the ready threads
abbrev of_thread : ThreadNo → List Listed → ℕ
of_thread t xs = count_by (λ (y : Listed). y.thread.0 == t.0) xs

got : (xs : List Listed) (k : ℕ) (x : Listed) → slice_get xs k ≡ Some x → 1 ≤ of_thread x.thread xs
got [] k x is = cc
got (y ∷ xs) zero x is =
    let one : one_where (y.thread.0 == x.thread.0) ≡ 1 = ap one_where (eq-eqb y.thread.0 x.thread.0 (ap (λ (z : Listed). z.thread.0) (same_Some _ _ is))) in
    omega (arith, one, sum_by-cons (λ (z : Listed). cond (eqb z.thread.0 x.thread.0) 1 0) y xs)
got (y ∷ xs) (suc k) x is = omega (arith, got xs k x is, sum_by-cons (λ (z : Listed). cond (eqb z.thread.0 x.thread.0) 1 0) y xs)

chosen_one : (xs : List Listed) (own : Bool) (x : Listed) → chosen xs own ≡ Some x → 1 ≤ of_thread x.thread xs
chosen_one xs true x is = got xs (length xs - 1) x is
chosen_one xs false x is = got xs 0 x is

fewer : (l : ProcNo) (t : ThreadNo) (xs : List Listed) → of_thread t (filter (is_in l) xs) ≤ of_thread t xs
fewer l t [] = omega arith
fewer l t (y ∷ xs) = elim (is_in l y) as (λ b. of_thread t (cond b (y ∷ filter (is_in l) xs) (filter (is_in l) xs)) ≤ of_thread t (y ∷ xs)) [
  | true ↦ omega (
    arith,
    fewer l t xs,
    sum_by-cons (λ (z : Listed). cond (eqb z.thread.0 t.0) 1 0) y xs,
    sum_by-cons (λ (z : Listed). cond (eqb z.thread.0 t.0) 1 0) y (filter (is_in l) xs),
  )
  | false ↦ omega (arith, fewer l t xs, sum_by-cons (λ (z : Listed). cond (eqb z.thread.0 t.0) 1 0) y xs)
]

module _ (w : WorkloadView) (valid : IsWorkload w) (e : ℕ) (p : ProcNo) (inside : p.0 < w.processors) where
  abbrev few : w.processors ≤ MAX_PROCESSORS
  few = valid.few_processors

  -- a turn that says only one thing, and changes nothing
  module _ (v : Virtuals) (good : Good w v) (a : ActNo) (at : placed_on v p ≡ Some a) where
    takes_one : (l : ProcNo) (own : Bool) → carried_on v p ≡ None → (o : Option Listed) → chosen (threads_in v (space_of a) l) own ≡ o
        → Met w e p v.base (taken_from v a l o)
    takes_one l own idle None is =
        record { steps = (tt, tt); stands = good.stands; quiet = good.quiet; some = omega arith; counts = λ c below. weaker c v.base.state.spaces below }
    takes_one l own idle (Some x) is =
        takes w e p v good a at few l x (omega (arith, chosen_one (threads_in v (space_of a) l) own x is, fewer l x.thread (ready_of v (space_of a)))) idle

    pops : carried_on v p ≡ None → (o : Option ProcNo) → Met w e p v.base (popped v a o)
    pops idle None =
        record { steps = (tt, tt); stands = good.stands; quiet = good.quiet; some = omega arith; counts = λ c below. weaker c v.base.state.spaces below }
    pops idle (Some l) = takes_one l (l.0 == (list_of a).0) idle (chosen (threads_in v (space_of a) l) (l.0 == (list_of a).0)) refl

    module _ (room : HasRoom v.base.state.spaces) (t : ThreadNo) (runs : runner_at good.stands.runners p ≡ Some (runner (space_of a) t)) where
      by_instr : (j : Instr) → next_instr w v.base.state (space_of a) t ≡ j → misses v.base (space_of a) (next_instr w v.base.state (space_of a) t) ≡ false
          → Met w e p v.base (ran w v p a t (thread_at v.base.state (space_of a) t) j false)
      by_instr (Out reg) is there = outs w valid e p v good a at t runs room reg is
      by_instr (IoOf n) is there = blocks_on w valid e p v good a at t runs room n is
      by_instr j is there = plainly w valid e p v good a at t runs room there

      runs_it : Met w e p v.base (run_of w v p a t)
      runs_it = go (misses v.base (space_of a) (next_instr w v.base.state (space_of a) t)) refl where
        go : (b : Bool) → misses v.base (space_of a) (next_instr w v.base.state (space_of a) t) ≡ b
            → Met w e p v.base (ran w v p a t (thread_at v.base.state (space_of a) t) (next_instr w v.base.state (space_of a) t) b)
        go true is = faults w valid e p v good a at t runs room is
        go false is = by_instr (next_instr w v.base.state (space_of a) t) refl is

    steps : HasRoom v.base.state.spaces → (t : Option ThreadNo) (ts : List ThreadNo) → carried_on v p ≡ t → v.work a.0 ≡ ts
        → Met w e p v.base (stepped w v p a t ts)
    steps room t (first ∷ others) is work = pushes w e p v good a at few t first others work
    steps room (Some t) [] is work = runs_it room t (carrier w e p v good a at few ∙ ap (λ o. runner_of (space_of a) o) is)
    steps room None [] is work = pops is (find (λ l. has_some (threads_in v (space_of a) l)) (round_from w (list_of a)))

    stops_now : (queue : List ActNo) → v.queue ≡ queue → some_wait queue ≡ true → Met w e p v.base (stopped v p a (carried_on v p) queue)
    stops_now [] is some = cc
    stops_now (first ∷ rest) is some = stops_it w e p v good inside few a at first rest is

  moves : (v : Virtuals) → Good w v → HasRoom v.base.state.spaces → (a : ActNo) → placed_on v p ≡ Some a → (b : Bool)
      → nat_le quantum (v.steps a.0) && some_wait v.queue ≡ b → Met w e p v.base (moves_on w v p a b)
  moves v good room a at true is = stops_now v good a at v.queue refl (and_parts (nat_le quantum (v.steps a.0)) (some_wait v.queue) is).1
  moves v good room a at false is =
      steps (with_step a v) (record { stands = good.stands; quiet = good.quiet }) a at room (carried_on v p) (v.work a.0) refl refl

  goes : (v : Virtuals) → Good w v → HasRoom v.base.state.spaces → (o : Option ActNo) → placed_on v p ≡ o → Met w e p v.base (proceeds w v p o)
  goes v good room None is = places_first w e p v good inside is
  goes v good room (Some a) is = moves v good room a is (nat_le quantum (v.steps a.0) && some_wait v.queue) refl

  turns : (v : Virtuals) → Good w v → HasRoom v.base.state.spaces → (o : Option Io) → due_of e v.base.under_way ≡ o → Met w e p v.base (turned_by w v p o)
  turns v good room None is = goes v good room (placed_on v p) refl
  turns v good room (Some io) is = unblocks w e p v good io is

-- EACH TURN
pub turn_is_legal : (w : WorkloadView) (p : ProcNo) (v : Virtuals) (c : ℕ) → IsWorkload w → p.0 < w.processors → Good w v → IsBelow c v.base.state.spaces
    → c + 1 < 2 ^ 32
    → IsTurn w v (event_on v p (turned w v p).says) × Good w (after w v p) × IsBelow (c + 1) (after w v p).base.state.spaces × (1 ≤ length (turned w v p).says)
turn_is_legal w p v c valid inside good below small =
    let now : Virtuals = evicted w v p in
    let there : Good w now = record { stands = good.stands; quiet = good.quiet } in
    let met : Met w v.base.number p now.base (turned w v p) =
    turns w valid v.base.number p inside now there (λ s k. omega (arith, below s k, small)) (due_of v.base.number v.base.under_way) refl in (
      record { number = refl; proc = inside; steps = record { steps = met.steps }; exact = refl },
      record { stands = met.stands; quiet = met.quiet },
      met.counts c below,
      met.some,
    )

pub run_goes_on : (w : WorkloadView) (v : Virtuals) (ps : List ProcNo) (c : ℕ) → IsWorkload w → All (λ (p : ProcNo). p.0 < w.processors) ps → Good w v
    → IsBelow c v.base.state.spaces
    → c + length ps < 2 ^ 32 → AreTurns w v (run_from w v ps)
run_goes_on w v [] c valid inside good below small = tt
run_goes_on w v (p ∷ ps) c valid inside good below small =
    let turn = turn_is_legal w p v c valid (All-head (λ (q : ProcNo). q.0 < w.processors) p ps inside) good below (omega (arith, small)) in
    (turn.0, run_goes_on w (after w v p) ps (c + 1) valid (All-tail (λ (q : ProcNo). q.0 < w.processors) p ps inside) turn.1 turn.2 (omega (arith, small)))

-- each event says something, and is numbered after the one before
abbrev Follow : ℕ → List Event → Type 0
Follow n [] = Unit {0}
Follow n (e ∷ es) = (e.number ≡ n) × (1 ≤ length e.records) × Follow (n + 1) es

pub run_follows : (w : WorkloadView) (v : Virtuals) (ps : List ProcNo) (c : ℕ) → IsWorkload w → All (λ (p : ProcNo). p.0 < w.processors) ps → Good w v
    → IsBelow c v.base.state.spaces
    → c + length ps < 2 ^ 32 → (n : ℕ) → v.base.number ≡ n → Follow n (run_from w v ps)
run_follows w v [] c valid inside good below small n is = tt
run_follows w v (p ∷ ps) c valid inside good below small n is =
    let turn = turn_is_legal w p v c valid (All-head (λ (q : ProcNo). q.0 < w.processors) p ps inside) good below (omega (arith, small)) in
    let next : (after w v p).base.number ≡ n + 1 = ap (λ k. k + 1) (number-kept w v.base.number p (evicted w v p).base (turned w v p).says ∙ is) in
    let others = All-tail (λ (q : ProcNo). q.0 < w.processors) p ps inside in
    (is, turn.3, run_follows w (after w v p) ps (c + 1) valid others turn.1 turn.2 (omega (arith, small)) (n + 1) next)

-- so the flat trace has these events
one_event : (n : ℕ) (p : ProcNo) (x : Record) (xs : List Record) (rest : List Item) (es : List Event) → events_of rest ≡ es → Follow (n + 1) es
    → events_of (items_at n p (x ∷ xs) ++ rest) ≡ record { number = n; proc = p; records = x ∷ xs } ∷ es
one_event n p x [] rest [] is follow = ap (before_events (record { event = n; proc = p; what = x })) is
one_event n p x [] rest (e ∷ es) is follow =
    ap (before_events (record { event = n; proc = p; what = x })) is
    ∙ ap (λ b. cond (b && eqb p.0 e.proc.0) (record e { records = x ∷ e.records } ∷ es) (record { number = n; proc = p; records = x ∷ [] } ∷ e ∷ es))
    (ne_eqb n e.number (λ same. absurd (omega (arith, same, follow.0))))
one_event n p x (y ∷ xs) rest es is follow =
    ap (before_events (record { event = n; proc = p; what = x })) (one_event n p y xs rest es is follow)
    ∙ ap (λ b. cond (b && eqb p.0 p.0) (record { number = n; proc = p; records = x ∷ y ∷ xs } ∷ es)
    (record { number = n; proc = p; records = x ∷ [] } ∷ record { number = n; proc = p; records = y ∷ xs } ∷ es)) (eq-eqb n n refl)
    ∙ ap (λ b. cond b (record { number = n; proc = p; records = x ∷ y ∷ xs } ∷ es)
    (record { number = n; proc = p; records = x ∷ [] } ∷ record { number = n; proc = p; records = y ∷ xs } ∷ es)) (eq-eqb p.0 p.0 refl)

first_event : (n k : ℕ) (p : ProcNo) (records : List Record) (es : List Event) → k ≡ n → 1 ≤ length records → Follow (n + 1) es → events_of (items_of es) ≡ es
    → events_of (items_at k p records ++ items_of es) ≡ record { number = k; proc = p; records = records } ∷ es
first_event n k p [] es is some follow same = absurd (omega (arith, some))
first_event n k p (x ∷ xs) es is some follow same = one_event k p x xs (items_of es) es same (subst (λ m. Follow (m + 1) es) (sym is) follow)

read_back : (n : ℕ) (es : List Event) → Follow n es → events_of (items_of es) ≡ es
read_back n [] follow = refl
read_back n (e ∷ es) follow = first_event n e.number e.proc e.records es follow.0 follow.1 follow.2 (read_back (n + 1) es follow.2)

-- THE RUN of every accepted workload and every order of its processors is legal
pub runs_are_legal : RunsAreLegal
runs_are_legal w ps valid inside few =
    let good = opening_good w valid in
    let below = opening_below w valid in
    let small : MAX_START + length ps < 2 ^ 32 = omega (arith, few) in
    let legal = run_goes_on w (opening w) ps MAX_START valid inside good below small in
    let follow = run_follows w (opening w) ps MAX_START valid inside good below small 1 refl in
    subst (AreTurns w (opening w)) (sym (read_back 1 (run_from w (opening w) ps) follow)) legal
