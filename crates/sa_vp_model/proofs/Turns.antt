-- Each turn on the board is a turn of what is read.
use Rattle.std.proofs.Common.{◌≡◌, ℕ, ◌+◌, ◌<◌, ◌≤◌, Bool, min, List, ◌++◌, length, get_or, inl, inr, refl, sym, ap, subst, ◌∙◌, arith}
use Rattle.std.specs.Prelude.{count_by}
use Rattle.std.specs.Option.{option_map}
use Rattle.std.proofs.Math.Path.{fun_ext}
use Rattle.std.proofs.lemmas.Bool.{cases_lt}
use Rattle.std.proofs.lemmas.List.{get_or_past}
use Rattle.std.proofs.lemmas.List.Sums.{count_by-le-length}
use Rattle.std.proofs.lemmas.List.FromFn.{get_or-map-range_with_len, length-map-range_with_len}
use Rattle.sa_base.specs.declared.number.ProcNo.{ProcNo}
use Rattle.sa_base.specs.declared.limits.TheConstants.{MAX_THREADS, MAX_EVENTS}
use Rattle.sa_base.specs.Items.{items_at}
use Rattle.sa_laws.proofs.Records.{number-kept}
use Rattle.sa_instr.specs.declared.limits.TheConstants.{MAX_START}
use Rattle.sa_spaces.specs.Workload.{WorkloadView}
use Rattle.sa_devices.specs.Ios.{due_of, io_no}
use Rattle.sa_devices.proofs.SoundLemmas.{length-evicted}
use Rattle.sa_laws.specs.declared.place.Place.{Place}
use Rattle.sa_laws.specs.declared.place.Place.TheVariants as places
use Rattle.sa_laws.specs.State.{Thread, space_at}
use Rattle.sa_replay.specs.Counts.{is_ready, count_in}
use Rattle.sa_virtual.specs.Virtual.{Virtuals}
use Rattle.sa_virtual.specs.Turn as rules
use Rattle.sa_virtual.specs.Legal as legal
use Rattle.sa_virtual.specs.Holding.{at_no}
use Rattle.sa_virtual.specs.Turning.{Good, HasRoom, IsBelow}
use Rattle.sa_virtual.proofs.Main.{turn_is_legal}
use Rattle.sa_vp_model.specs.Board.{Board}
use Rattle.sa_vp_model.specs.Turn.{acts, after_evictions, counted, lost_now, loses, turned}
use Rattle.sa_vp_model.specs.Mirror.{Own, board_of, Mirrors, IsBounded}
use Rattle.sa_vp_model.specs.Needs.{CanLose}
use Rattle.sa_vp_model.specs.Run.{IsRead, TurnIsRead, TurnsAreRead, lost_in}
use Rattle.sa_vp_model.proofs.Fitting.{fit, threads-of, steps-of, ready-of, work-of, blocked-of}
use Rattle.sa_vp_model.proofs.Follows.{Goes, behind}
use Rattle.sa_vp_model.proofs.Main.{turns}

-- LOSSES
ready_same : (place : Place) → is_ready place ≡ legal.is_ready place
ready_same places.Ready = refl
ready_same _ = refl

ready_count : (threads : List Thread) → count_in is_ready threads ≡ count_by (λ (y : Thread). legal.is_ready y.place) threads
ready_count threads = ap (λ (f : Place → Bool). count_by (λ (y : Thread). f y.place) threads) (fun_ext ready_same)

few_lost : (b : Board) (s : ℕ) → length (at_no b.state.spaces s).threads ≤ MAX_THREADS → lost_now b s ≤ MAX_THREADS
few_lost b s few = omega (arith, few, count_by-le-length (λ (y : Thread). is_ready y.place) (at_no b.state.spaces s).threads)

-- EACH TURN
module _ (w : WorkloadView) (p : ProcNo) (b : Board) (read : IsRead w b) (inside : p.0 < w.processors) (few : b.number ≤ MAX_EVENTS) where
  abbrev pub v : Virtuals
  v = read.virtuals

  abbrev pub x : Own
  x = read.own

  abbrev pub now : Virtuals
  now = rules.evicted w v p

  pub good : Good w now
  good = record { stands = read.good.stands; quiet = read.good.quiet }

  pub fits : Mirrors w now x
  fits = fit (threads-of read.fits) (steps-of read.fits) (ready-of read.fits) (work-of read.fits) (blocked-of read.fits)
      read.fits.numbered read.fits.many_lost (length-evicted v.base.number w.evictions v.base.pages ∙ read.fits.many_pages)

  pub number_is : b.number ≡ v.base.number
  number_is = ap (λ (c : Board). c.number) read.is

  pub room : HasRoom now.base.state.spaces
  room s k = omega (arith, read.below s k, few, number_is)

  abbrev turn : rules.Turned
  turn = rules.turned w v p

  gone : Goes w p now turn x (acts p (option_map io_no (due_of v.base.number v.base.under_way)) (board_of w now x))
  gone = turns w read.valid p inside now good x fits refl room (due_of v.base.number v.base.under_way) refl

  -- the board of it
  abbrev behind' : Virtuals
  behind' = behind w p now turn

  abbrev after' : Virtuals
  after' = rules.after w v p

  abbrev shown : Board
  shown = board_of w behind' gone.own

  abbrev own : Own
  own = record gone.own { lost = loses shown }

  same : turned p b ≡ board_of w after' own
  same = ap (turned p) read.is ∙ ap counted gone.is

  legal_turn : legal.IsTurn w v (rules.event_on v p turn.says) × Good w after' × IsBelow (MAX_START + v.base.number + 1) after'.base.state.spaces
      × (1 ≤ length turn.says)
  legal_turn = turn_is_legal w p v (MAX_START + v.base.number) read.valid inside read.good read.below (omega (arith, few, number_is))

  number_after : after'.base.number ≡ v.base.number + 1
  number_after = ap (λ n. n + 1) (number-kept w v.base.number p now.base turn.says)

  many : length gone.own.lost ≡ length w.spaces
  many = gone.fits.many_lost

  lost_at : (s : ℕ) → s < length w.spaces → get_or (loses shown) s 0 ≡ get_or x.lost s 0 + lost_now shown s
  lost_at s below =
      get_or-map-range_with_len (λ k. get_or gone.own.lost k 0 + lost_now shown k) 0 (length gone.own.lost) s s 0 (omega (arith, below, many)) (omega arith)
      ∙ ap (λ xs. get_or xs s 0 + lost_now shown s) gone.lost

  lost_is : (s : ℕ) → s < length w.spaces → lost_now shown s ≡ lost_in after' s
  lost_is s below =
      ap (λ n. min n (count_in is_ready (space_at behind'.base.state (record { 0 = s })).threads)) (gone.fits.blocked s below)
      ∙ ap (min (legal.blocked_in behind' (record { 0 = s }))) (ready_count (space_at behind'.base.state (record { 0 = s })).threads)

  sized : (s : ℕ) → lost_now shown s ≤ MAX_THREADS
  sized s = few_lost shown s (legal_turn.1.stands.holds.sized s).few

  bounded : IsBounded after' own
  bounded = record {
    io_count = omega (arith, number_after, gone.io_count, read.bounded.io_count);
    steps = λ a. omega (arith, number_after, gone.steps a, read.bounded.steps a);
    blocked = λ s. omega (arith, number_after, gone.blocked s, read.bounded.blocked s);
    due = omega (arith, number_after, gone.due, read.bounded.due);
    lost = λ s. elim (cases_lt s (length w.spaces)) [
      | inl below ↦ omega (arith, number_after, lost_at s below, sized s, read.bounded.lost s)
      | inr past ↦
          let none : get_or (loses shown) s 0 ≡ 0 =
          get_or_past (loses shown) s 0
          (omega (arith, past, many, length-map-range_with_len (λ k. get_or gone.own.lost k 0 + lost_now shown k) 0 (length gone.own.lost))) in
          omega (arith, none, number_after)
    ];
  }

  -- before they are counted
  abbrev pub acted : Board
  acted = acts p (option_map io_no (due_of b.number b.devices.ios.under_way)) (after_evictions b)

  acted_is : acted ≡ shown
  acted_is = ap (λ (c : Board). acts p (option_map io_no (due_of c.number c.devices.ios.under_way)) (after_evictions c)) read.is ∙ gone.is

  pub can_lose : CanLose acted
  can_lose = subst CanLose (sym acted_is) (record {
    same = gone.fits.many_blocked ∙ sym many;
    spaces = omega (arith, many, read.valid.few_spaces);
    few = λ s. let same = ap (λ xs. get_or xs s 0) gone.lost in omega (arith, same, read.bounded.lost s, few, number_is);
  })

  read_after : IsRead w (turned p b)
  read_after = record {
    virtuals = after';
    own = own;
    is = same;
    valid = read.valid;
    good = legal_turn.1;
    fits = fit (threads-of gone.fits) (steps-of gone.fits) (ready-of gone.fits) (work-of gone.fits) (blocked-of gone.fits)
        gone.fits.numbered
        (length-map-range_with_len (λ k. get_or gone.own.lost k 0 + lost_now shown k) 0 (length gone.own.lost) ∙ many)
        gone.fits.many_pages;
    bounded = bounded;
    below = λ s k. omega (arith, legal_turn.2 s k, number_after);
  }

  is_read : TurnIsRead w p b (turned p b) read
  unfolding read_after
  is_read = record {
    read = read_after;
    virtuals = refl;
    number = ap (λ (c : Board). c.number) same ∙ number_after ∙ ap (λ n. n + 1) (sym number_is);
    items = ap (λ (c : Board). c.items) same ∙ gone.items ∙ ap (λ (c : Board). c.items ++ items_at v.base.number p turn.says) (sym read.is);
    lost = λ s below.
        ap (λ (c : Board). get_or c.lost s 0) same ∙ lost_at s below ∙ ap (λ n. get_or x.lost s 0 + n) (lost_is s below)
        ∙ ap (λ (c : Board). get_or c.lost s 0 + lost_in after' s) (sym read.is);
  }

pub turns_are_read : TurnsAreRead
turns_are_read w p b read inside few = is_read w p b read inside few
