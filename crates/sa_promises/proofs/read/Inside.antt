-- Which lives are in.
use Rattle.std.proofs.Common.{◌≡◌, ℕ, ◌<◌, inl, inr, refl, sym, ◌∙◌, ap, Some, None, List, length, true, false}
use Rattle.std.specs.Prelude.{Option, Bool, ◌||◌, ◌&&◌, not, is_none, nat_lt, nat_le, min}
use Rattle.std.specs.List.{list_any}
use Rattle.std.specs.Option.{option_map}
use Rattle.std.proofs.lemmas.Bool.{cases_eq}
use Rattle.sa_lemmas.proofs.FunctionUpdates.{put-at, put-other}
use Rattle.sa_base.specs.declared.number.SpaceNo.{SpaceNo}
use Rattle.sa_base.specs.declared.number.ActNo.{ActNo}
use Rattle.sa_base.specs.declared.limits.TheConstants.{BULK_RETURN}
use Rattle.sa_base.specs.declared.record.Record.{Record}
use Rattle.sa_base.specs.declared.record.Record.TheVariants.{Ins, Want}
use Rattle.sa_base.specs.declared.record.Item.{Item}
use Rattle.sa_spaces.specs.Workload.{WorkloadView}
use Rattle.sa_laws.specs.Event.{Event}
use Rattle.sa_laws.specs.State.{State, Runner, runner_on, space_at, thread_at}
use Rattle.sa_laws.specs.Life.{Life, has_lock, some_lock}
use Rattle.sa_laws.specs.Readings.{Readings, demand_of, usable, counts, taken_of}
use Rattle.sa_laws.specs.Record.{with_life}
use Rattle.sa_laws.specs.History.{settles, is_running_or_blocked, is_inside}
use Rattle.sa_promises.specs.Words.{last_want}
use Rattle.sa_promises.specs.Moments.{Home, machine_of, home_of}
use Rattle.sa_promises.specs.Loads.{load_in}
use Rattle.sa_promises.specs.Holdings.{locks_of, hand_of, has_cont, taken_in}
use Rattle.sa_promises.specs.Steps.{settles_by, is_in_with, is_in_at, set_in}
use Rattle.sa_promises.proofs.read.Lives.{Said, mapped}
use Rattle.sa_promises.proofs.read.Fields.{in_locks, at_home}
use Rattle.sa_promises.proofs.read.Untouched.{in_now}
use Rattle.sa_promises.proofs.read.Items.{IsRead}
use Rattle.sa_promises.proofs.read.Loads.{loads-same}

-- the test, its parts grouped in another way
regroup : (a b c s d n m u : Bool) → ((a || b || c || (s && d) || (s && n && m)) || (s && u))
    ≡ ((a || b || c) || (s && d) || (s && (n && m)) || (s && u))
regroup true b c s d n m u = refl
regroup false true c s d n m u = refl
regroup false false true s d n m u = refl
regroup false false false false d n m u = refl
regroup false false false true true n m u = refl
regroup false false false true false true m u = refl
regroup false false false true false false m u = refl

abbrev whole : Bool → Bool → Bool → Bool → Bool → Bool → Bool → Bool → Bool
whole s a b c d n m u = (a || b || c) || (s && d) || (s && (n && m)) || (s && u)

none-mapped : {A B : Type 0} (f : A → B) (o : Option A) → is_none (option_map f o) ≡ is_none o
none-mapped f None = refl
none-mapped f (Some x) = refl

-- what a life has at a moment
pub record HasAt (w : WorkloadView) (now : List Item) (a : ActNo) (life : Life) : Type 0 where
  pub locks : in_locks life ≡ locks_of w now a
  pub hand : life.hand ≡ hand_of w now a
  pub cont : life.cont ≡ has_cont now a
  pub home : at_home life ≡ home_of now a

pub test-same : (w : WorkloadView) (now : List Item) (urged : SpaceNo → Bool) (before r : Readings) (e : Event) (settled : Bool) (a : ActNo) (life : Life)
    → IsRead w now r → life.space.0 < length w.spaces → HasAt w now a life
    → (is_inside w before e r settled life || (settled && urged life.space)) ≡ is_in_at w now urged settled a
test-same w now urged before r e settled a life read within has =
    regroup (has_lock life) life.cont (list_any (counts (space_at r.state life.space)) life.hand) settled
    (nat_lt (demand_of r life.space) (usable w r life.space))
    (is_none (option_map (λ (runner : Runner). runner.thread) (runner_on r.state life.proc))) (nat_le BULK_RETURN (length (taken_of r life.space)))
    (urged life.space)
    ∙ ap
    (λ x. whole settled x life.cont (list_any (counts (space_at r.state life.space)) life.hand)
    (nat_lt (demand_of r life.space) (usable w r life.space)) carries many more) locks
    ∙ ap
    (λ x. whole settled (some_lock (locks_of w now a)) x (list_any (counts (space_at r.state life.space)) life.hand)
    (nat_lt (demand_of r life.space) (usable w r life.space)) carries many more) has.cont
    ∙ ap
    (λ x. whole settled (some_lock (locks_of w now a)) (has_cont now a) x (nat_lt (demand_of r life.space) (usable w r life.space)) carries many more) hand
    ∙ ap
    (λ x. whole settled (some_lock (locks_of w now a)) (has_cont now a) (list_any (counts (space_at m life.space)) (hand_of w now a)) x carries many more)
    want
    ∙ ap
    (λ x. whole settled (some_lock (locks_of w now a)) (has_cont now a) (list_any (counts (space_at m life.space)) (hand_of w now a)) wants x many more)
    carried
    ∙ ap
    (λ x. whole settled (some_lock (locks_of w now a)) (has_cont now a) (list_any (counts (space_at m life.space)) (hand_of w now a)) wants
    (is_none (runner_on m life.proc)) x more) taken
    ∙ ap (λ (o : Option Home). is_in_with w now urged settled a o) has.home
  where
    m : State
    m = machine_of w now

    wants : Bool
    wants = nat_lt (last_want now life.space) (min w.processors (load_in w now life.space))

    carries : Bool
    carries = is_none (option_map (λ (runner : Runner). runner.thread) (runner_on r.state life.proc))

    more : Bool
    more = urged life.space

    many : Bool
    many = nat_le BULK_RETURN (length (taken_of r life.space))

    locks : has_lock life ≡ some_lock (locks_of w now a)
    locks = ap some_lock has.locks

    hand : list_any (counts (space_at r.state life.space)) life.hand ≡ list_any (counts (space_at (machine_of w now) life.space)) (hand_of w now a)
    hand =
        ap (λ (k : State). list_any (counts (space_at k life.space)) life.hand) read.state
        ∙ ap (list_any (counts (space_at (machine_of w now) life.space))) has.hand

    want : nat_lt (demand_of r life.space) (usable w r life.space) ≡ nat_lt (last_want now life.space) (min w.processors (load_in w now life.space))
    want =
        ap (λ n. nat_lt n (usable w r life.space)) (read.demands life.space within)
        ∙ ap (λ n. nat_lt (last_want now life.space) (min w.processors n)) (loads-same w now r life.space read within)

    carried : is_none (option_map (λ (runner : Runner). runner.thread) (runner_on r.state life.proc)) ≡ is_none (runner_on (machine_of w now) life.proc)
    carried = none-mapped (λ (runner : Runner). runner.thread) (runner_on r.state life.proc) ∙ ap (λ (k : State). is_none (runner_on k life.proc)) read.state

    taken : nat_le BULK_RETURN (length (taken_of r life.space)) ≡ nat_le BULK_RETURN (length (taken_in now life.space))
    taken = ap (λ acts. nat_le BULK_RETURN (length acts)) (read.taken life.space within)

-- what settles
pub settles-same : (w : WorkloadView) (past now : List Item) (before after : Readings) (first : Record) → after.state ≡ machine_of w now
    → ((s : SpaceNo) (n : ℕ) → first ≡ Want s n → demand_of before s ≡ last_want past s) → settles before after first ≡ settles_by w past now first
settles-same w past now before after (Ins s t i) state wants = ap (λ (k : State). not (is_running_or_blocked (thread_at k s t).place)) state
settles-same w past now before after (Want s n) state wants = ap (λ d. not (nat_lt n d)) (wants s n refl)
settles-same w past now before after _ state wants = refl

-- a life for which the test is asked
pub set-said : (w : WorkloadView) (now : List Item) (urged : SpaceNo → Bool) (settled : Bool) (n : Option ActNo) (f : Life → Life) (lives : ℕ → Option Life) (has : ℕ → Bool)
    → ((a : ActNo) (life : Life) → n ≡ Some a → lives a.0 ≡ Some life → (f life).inside ≡ is_in_at w now urged settled a)
    → Said in_now lives has → Said in_now (with_life f n lives) (set_in w now urged settled n has)
set-said w now urged settled None f lives has gives said = said
set-said w now urged settled (Some a) f lives has gives said = λ b life is. elim (cases_eq b a.0) [
  | inl at ↦
      let was = mapped f (lives a.0) life (sym (put-at lives a.0 b (option_map f (lives a.0)) at) ∙ is) in
      ap in_now (sym was.2) ∙ gives a was.0 refl was.1 ∙ sym (put-at has a.0 b (is_in_at w now urged settled a) at)
  | inr apart ↦
      said b life (sym (put-other lives a.0 b (option_map f (lives a.0)) apart) ∙ is) ∙ sym (put-other has a.0 b (is_in_at w now urged settled a) apart)
]
