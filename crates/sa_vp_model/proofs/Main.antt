-- A turn on the board is a turn of what is read.
use Rattle.std.proofs.Common.{◌≡◌, ℕ, ◌+◌, ◌<◌, ◌≤◌, Bool, true, false, nat_le, nat_lt, ◌&&◌, ◌/◌, ◌%◌, List, [], ◌∷◌, length, get_or, set, Option, Some, None, inl, inr, refl, sym, ap, subst, ◌∙◌, arith}
use Rattle.std.specs.Prelude.{All, slice_get}
use Rattle.std.specs.Option.{option_map}
use Rattle.std.proofs.lemmas.Bool.{cases_lt, eq-eqb, le-ltb, and_parts}
use Rattle.std.proofs.lemmas.List.Elements.{All-nil, All-cons}
use Rattle.std.proofs.lemmas.List.{length-set}
use Rattle.sa_base.specs.declared.number.ProcNo.{ProcNo}
use Rattle.sa_base.specs.declared.number.ThreadNo.{ThreadNo}
use Rattle.sa_base.specs.declared.number.ActNo.{ActNo}
use Rattle.sa_base.specs.declared.limits.TheConstants.{MAX_PROCESSORS, MAX_SPACES}
use Rattle.sa_spaces.specs.Workload.{WorkloadView, IsWorkload}
use Rattle.sa_devices.specs.Ios.{Io, due_of, io_no}
use Rattle.sa_lemmas.specs.Function.{put}
use Rattle.sa_laws.specs.State.{runner_of}
use Rattle.sa_virtual.specs.Virtual.{Virtuals, space_of, placed_on}
use Rattle.sa_virtual.specs.Turn as rules
use Rattle.sa_virtual.specs.Holding.{numbers, in_queue, one_if, one_where, is_virtual, parts_of}
use Rattle.sa_virtual.specs.Turning.{Good, HasRoom}
use Rattle.sa_virtual.proofs.Sums.{unqueued}
use Rattle.sa_virtual.proofs.Pushed.{placed_once}
use Rattle.sa_virtual.proofs.Turns.{carrier}
use Rattle.sa_vp_model.specs.declared.limits.TheConstants.{VIRTUALS}
use Rattle.sa_vp_model.specs.Board.{Board, act_numbers}
use Rattle.sa_vp_model.specs.Turn.{acts, proceeds, has_had_its_turn, is_some_list, moves_on, steps, steps_on}
use Rattle.sa_vp_model.specs.Mirror.{Own, board_of, Mirrors}
use Rattle.sa_vp_model.proofs.Fitting.{fit, threads-of, ready-of, work-of, blocked-of}
use Rattle.sa_vp_model.proofs.Tables.{table_put}
use Rattle.sa_vp_model.proofs.Follows.{Follows, Goes}
use Rattle.sa_vp_model.proofs.Unblocked.{unblocks}
use Rattle.sa_vp_model.proofs.Placed.{places_it}
use Rattle.sa_vp_model.proofs.Relieved.{relieved}
use Rattle.sa_vp_model.proofs.Readied.{readied, work_is}
use Rattle.sa_vp_model.proofs.Ran.{runs_it, more_most}
use Rattle.sa_vp_model.proofs.Taken.{looks_for}

-- NUMBERS of virtual processors are small
both_small : (spaces processors a : ℕ) → spaces ≤ MAX_SPACES → 1 ≤ one_where (nat_lt (a / MAX_PROCESSORS) spaces && nat_lt (a % MAX_PROCESSORS) processors)
    → a < VIRTUALS
both_small spaces processors a few some = elim (cases_lt (a / MAX_PROCESSORS) spaces) [
  | inl below ↦ omega (arith, below, few)
  | inr past ↦
      let none : one_where (nat_lt (a / MAX_PROCESSORS) spaces && nat_lt (a % MAX_PROCESSORS) processors) ≡ 0 =
      ap (λ b. one_where (b && nat_lt (a % MAX_PROCESSORS) processors)) (le-ltb (a / MAX_PROCESSORS) spaces past) in
      absurd (omega (arith, none, some))
]

module _ (w : WorkloadView) (valid : IsWorkload w) (v : Virtuals) (good : Good w v) where
  pub number_small : (a : ℕ) → 1 ≤ one_where (is_virtual w (record { 0 = a })) → a < VIRTUALS
  number_small a some = both_small (length w.spaces) w.processors a valid.few_spaces some

  queue_small : (q : List ActNo) → ((b : ℕ) → in_queue q b ≤ in_queue v.queue b) → All (λ (a : ActNo). a.0 < VIRTUALS) q
  queue_small [] less = All-nil (λ (a : ActNo). a.0 < VIRTUALS)
  queue_small (a ∷ q) less = All-cons (λ (b : ActNo). b.0 < VIRTUALS) a q
      (number_small a.0 (omega (arith, good.stands.holds.once a.0, less a.0, unqueued q a a.0, one_self a.0)))
      (queue_small q (λ b. omega (arith, less b, unqueued q a b))) where
        one_self : (n : ℕ) → one_if n n ≡ 1
        one_self n = ap one_where (eq-eqb n n refl)

  pub all_small : All (λ (a : ActNo). a.0 < VIRTUALS) v.queue
  all_small = queue_small v.queue (λ b. omega arith)

  pub placed_small : (p : ProcNo) (a : ActNo) → placed_on v p ≡ Some a → a.0 < VIRTUALS
  placed_small p a at = number_small a.0 (omega (arith, placed_once w (parts_of v) good.stands.runners good.stands.holds p a at, good.stands.holds.once a.0))

-- somebody waits
waits_same : (q : List ActNo) → is_some_list (act_numbers q) ≡ rules.some_wait q
waits_same [] = refl
waits_same (a ∷ q) = refl

module _ (w : WorkloadView) (valid : IsWorkload w) (p : ProcNo) (inside : p.0 < w.processors) (v : Virtuals) (good : Good w v) (x : Own) (fits : Mirrors w v x)
    (first : v.base.last ≡ None) (room : HasRoom v.base.state.spaces) where
  -- A STEP
  module _ (a : ActNo) (at : placed_on v p ≡ Some a) where
    abbrev pub now : Virtuals
    now = rules.with_step a v

    abbrev pub more : Own
    more = record x { steps = set x.steps a.0 (get_or x.steps a.0 0 + 1) }

    small : a.0 < VIRTUALS
    small = placed_small w valid v good p a at

    abbrev pub good' : Good w now
    good' = record { stands = good.stands; quiet = good.quiet }

    steps_are : (λ b. get_or more.steps b 0) ≡ put v.steps a.0 (v.steps a.0 + 1)
    steps_are =
        table_put x.steps a.0 (get_or x.steps a.0 0 + 1) 0 (omega (arith, small, fits.many_steps))
        ∙ ap (λ f. put f a.0 (f a.0 + 1)) fits.steps

    pub fits' : Mirrors w now more
    fits' = fit (threads-of fits) (steps_are, length-set x.steps a.0 (get_or x.steps a.0 0 + 1) ∙ fits.many_steps) (ready-of fits)
        (work-of fits) (blocked-of fits) fits.numbered fits.many_lost fits.many_pages

    abbrev step : List ℕ → Option ThreadNo → Board
    step ts t = steps_on p a (slice_get ts 0) t (board_of w now more)

    steps_by : (t : Option ThreadNo) (ts : List ThreadNo) → rules.carried_on v p ≡ t → v.work a.0 ≡ ts
        → Follows w p now (rules.stepped w now p a t ts) more (step (numbers ts) t)
    steps_by t (u ∷ us) is work = readied w p now good' more fits' a at valid.few_processors t u us work
    steps_by (Some t) [] is work =
        runs_it w valid p now good' more fits' a at small t
        (carrier w v.base.number p v good a at valid.few_processors ∙ ap (λ o. runner_of (space_of a) o) is) room first
    steps_by None [] is work = looks_for w p now good' more fits' a at valid.few_processors

    stepped : Follows w p now (rules.stepped w now p a (rules.carried_on v p) (v.work a.0)) more (steps p a (board_of w v x))
    stepped = subst (Follows w p now (rules.stepped w now p a (rules.carried_on v p) (v.work a.0)) more)
        (ap (λ ts. step ts (rules.carried_on v p)) (sym (work_is w p v good x fits a at valid.few_processors)))
        (steps_by (rules.carried_on v p) (v.work a.0) refl refl)

  plainly : (t : rules.Turned) (b : Board) → Follows w p v t x b → Goes w p v t x b
  plainly t b f =
      record {
        own = f.own;
        is = f.is;
        fits = f.fits;
        lost = f.lost;
        items = f.items;
        io_count = f.io_count;
        steps = λ a. omega (arith, f.steps a);
        blocked = f.blocked;
        due = f.due;
      }

  with_a_step : (a : ActNo) (at : placed_on v p ≡ Some a) (t : rules.Turned) (b : Board) → Follows w p (rules.with_step a v) t (more a at) b → Goes w p v t x b
  with_a_step a at t b f =
      record {
        own = f.own;
        is = f.is;
        fits = f.fits;
        lost = f.lost;
        items = f.items;
        io_count = f.io_count;
        steps = λ c. omega (arith, f.steps c, more_most x.steps a.0 c);
        blocked = f.blocked;
        due = f.due;
      }

  moves : (a : ActNo) → placed_on v p ≡ Some a → (b : Bool) → nat_le rules.quantum (v.steps a.0) && rules.some_wait v.queue ≡ b
      → Goes w p v (rules.moves_on w v p a b) x (moves_on p a b (board_of w v x))
  moves a at true is =
      plainly _ _ (relieved w p v good x fits a at (placed_small w valid v good p a at) (rules.carried_on v p) v.queue refl
      (and_parts (nat_le rules.quantum (v.steps a.0)) (rules.some_wait v.queue) is).1 (all_small w valid v good))
  moves a at false is = with_a_step a at _ _ (stepped a at)

  pub turn_same : (a : ActNo) → has_had_its_turn (board_of w v x) a ≡ nat_le rules.quantum (v.steps a.0) && rules.some_wait v.queue
  turn_same a = ap (λ (f : ℕ → ℕ). nat_le rules.quantum (f a.0) && is_some_list (act_numbers v.queue)) fits.steps
      ∙ ap (λ b. nat_le rules.quantum (v.steps a.0) && b) (waits_same v.queue)

  goes : (o : Option ActNo) → placed_on v p ≡ o → Goes w p v (rules.proceeds w v p o) x (proceeds p o (board_of w v x))
  goes None is = plainly _ _ (places_it w p v good x fits v.queue refl (all_small w valid v good))
  goes (Some a) is =
      subst (λ b. Goes w p v (rules.moves_on w v p a (nat_le rules.quantum (v.steps a.0) && rules.some_wait v.queue)) x (moves_on p a b (board_of w v x)))
      (sym (turn_same a))
      (moves a is (nat_le rules.quantum (v.steps a.0) && rules.some_wait v.queue) refl)

  pub turns : (o : Option Io) → due_of v.base.number v.base.under_way ≡ o
      → Goes w p v (rules.turned_by w v p o) x (acts p (option_map io_no o) (board_of w v x))
  turns None is = goes (placed_on v p) refl
  turns (Some io) is = plainly _ _ (unblocks w p v good x fits io is)
