-- A thread runs an instruction, or blocks.
use Rattle.std.proofs.Common.{◌≡◌, ℕ, ◌+◌, ◌-◌, ◌*◌, ◌<◌, ◌≤◌, Bool, true, false, cond, eqb, List, [], ◌∷◌, ◌++◌, append_assoc, length, get_or, set, Some, None, inl, inr, refl, sym, ap, subst, ◌∙◌, arith}
use Rattle.std.specs.Prelude.{sum_by, not, ◌&&◌}
use Rattle.std.proofs.lemmas.Bool.{cases_eq, cases_lt, ne_eqb, eq-eqb, not-true, not-false}
use Rattle.std.proofs.lemmas.List.{length-set, length-map, length-append, get_or-set_same, get_or-set_other, get_or_past, map-append}
use Rattle.std.proofs.lemmas.List.Sums.{sum_by_push}
use Rattle.sa_base.specs.declared.number.ProcNo.{ProcNo}
use Rattle.sa_base.specs.declared.number.SpaceNo.{SpaceNo}
use Rattle.sa_base.specs.declared.number.ThreadNo.{ThreadNo}
use Rattle.sa_base.specs.declared.number.ActNo.{ActNo}
use Rattle.sa_base.specs.declared.limits.TheConstants.{MAX_PROCESSORS, MAX_THREADS, PACKAGE_PAGE}
use Rattle.sa_base.specs.declared.record.Record.TheVariants as rec
use Rattle.sa_instr.specs.declared.instr.Instr.{Instr}
use Rattle.sa_instr.specs.declared.instr.Instr.TheVariants.{Out, Io as IoOf, Touch}
use Rattle.sa_instr.specs.declared.instr.Reg.{Reg}
use Rattle.sa_instr.specs.Regs.{reg_value}
use Rattle.sa_spaces.specs.Workload.{WorkloadView, IsWorkload}
use Rattle.sa_devices.specs.declared.kind.IoKind.{IoKind}
use Rattle.sa_devices.specs.declared.kind.IoKind.TheVariants.{Plain, Page}
use Rattle.sa_devices.specs.Ios.{Io}
use Rattle.sa_links.specs.Lists.{Lists}
use Rattle.sa_lemmas.specs.Function.{put}
use Rattle.sa_laws.specs.State.{Thread, thread_at, next_instr}
use Rattle.sa_laws.specs.Machine.{next_effect}
use Rattle.sa_laws.specs.Life.{with_hand, held_with}
use Rattle.sa_laws.specs.Readings.{Readings, life_of, is_resident}
use Rattle.sa_laws.specs.Record.{Blocking, after_record, with_life, blocking, blocking_for, length_behind, locks_one, page_in}
use Rattle.sa_replay.specs.Index.{runner_at}
use Rattle.sa_replay.proofs.IndexLemmas.{runner}
use Rattle.sa_virtual.specs.Virtual.{Virtuals, space_of, list_of, placed_on}
use Rattle.sa_virtual.specs.Turn.{Turned, ran, run_of, misses}
use Rattle.sa_virtual.specs.Legal.{is_of}
use Rattle.sa_virtual.specs.Holding.{threads_of, numbers, one_where}
use Rattle.sa_virtual.specs.Turning.{Good, HasRoom}
use Rattle.sa_virtual.proofs.Kept.{threads_new}
use Rattle.sa_virtual.proofs.RanTurns as turns
use Rattle.sa_vp_model.specs.declared.limits.TheConstants.{VIRTUALS}
use Rattle.sa_vp_model.specs.Board.{list_in, with_list_in}
use Rattle.sa_vp_model.specs.Turn.{blocks, goes, ends_with, missed_page, runs_on, runs, one_more}
use Rattle.sa_vp_model.specs.Mirror.{Own, board_of, Mirrors, AreLists, rows, total}
use Rattle.sa_vp_model.proofs.Fitting.{fit, steps-of, ready-of, work-of, blocked-of}
use Rattle.sa_vp_model.proofs.Ios.{numbered_more}
use Rattle.sa_vp_model.proofs.Tables.{table_put, many_with, total_with}
use Rattle.sa_vp_model.proofs.Roused.{few as few_threads}
use Rattle.sa_vp_model.proofs.Follows.{Follows, behind}
use Rattle.sa_vp_model.proofs.Placed.{item}
use Rattle.sa_vp_model.proofs.Readied.{inside, within, work_is, work_with}

-- one more
pub more_most : (xs : List ℕ) (i k : ℕ) → get_or (set xs i (get_or xs i 0 + 1)) k 0 ≤ get_or xs k 0 + 1
more_most xs i k = elim (cases_eq k i) [
  | inl e ↦ elim (cases_lt i (length xs)) [
    | inl within' ↦
        let there : get_or (set xs i (get_or xs i 0 + 1)) k 0 ≡ get_or xs i 0 + 1 =
        ap (λ n. get_or (set xs i (get_or xs i 0 + 1)) n 0) e ∙ get_or-set_same xs i (get_or xs i 0 + 1) 0 within' in
        let same : get_or xs k 0 ≡ get_or xs i 0 = ap (λ n. get_or xs n 0) e in omega (arith, there, same)
    | inr past ↦
        let none : get_or (set xs i (get_or xs i 0 + 1)) k 0 ≡ 0 =
        get_or_past (set xs i (get_or xs i 0 + 1)) k 0 (omega (arith, past, e, length-set xs i (get_or xs i 0 + 1))) in omega (arith, none)
  ]
  | inr ne ↦ let same : get_or (set xs i (get_or xs i 0 + 1)) k 0 ≡ get_or xs k 0 = get_or-set_other xs i k (get_or xs i 0 + 1) 0 ne in omega (arith, same)
]

-- a touch of a page that is not there
missed_is : (w : WorkloadView) (v : Virtuals) (x : Own) (s : SpaceNo) (i : Instr) → misses v.base s i ≡ true
    → missed_page (board_of w v x) s i ≡ Some (page_in i)
missed_is w v x s (Touch page) is = ap (λ b. cond b None (Some page)) (not-true (is_resident v.base s page) is)
missed_is w v x s i is = cc

missed_not : (w : WorkloadView) (v : Virtuals) (x : Own) (s : SpaceNo) (i : Instr) → misses v.base s i ≡ false → missed_page (board_of w v x) s i ≡ None
missed_not w v x s (Touch page) is = ap (λ b. cond b None (Some page)) (not-false (is_resident v.base s page) is)
missed_not w v x s i is = refl

-- BLOCKED: of readings in the middle of an event, whose lives are those of its beginning
module _ (w : WorkloadView) (v : Virtuals) (good : Good w v) (x : Own) (fits : Mirrors w v x) (a : ActNo) (inside' : (space_of a).0 < length w.spaces)
    (small : a.0 < VIRTUALS) (t : ThreadNo) where
  abbrev pub blocked_own : Own
  blocked_own = record x { spare = x.spare - 1; threads = set x.threads a.0 (Some t); blocked = one_more x.blocked (space_of a) }

  pub blocked_threads : (λ b. get_or (set x.threads a.0 (Some t)) b None) ≡ threads_of (with_life (held_with (Some t)) (Some a) v.base.lives)
  blocked_threads =
      table_put x.threads a.0 (Some t) None (omega (arith, small, fits.many_threads)) ∙ ap (λ f. put f a.0 (Some t)) fits.threads
      ∙ sym (threads_new w (held_with (Some t)) a v.base.lives (Some t) good.stands.holds.lives (λ life. refl))

  -- one more I/O, of this virtual processor
  pub blocked_more : (ios : List Io) (io : Io) → ios ≡ v.base.under_way
      → ((r : ℕ) → one_where (is_of (record { 0 = r }) io.kind) ≡ one_where (eqb (space_of a).0 r))
      → (r : ℕ) → r < length w.spaces
      → get_or (one_more x.blocked (space_of a)) r 0 ≡ sum_by (λ (y : Io). one_where (is_of (record { 0 = r }) y.kind)) (ios ++ io ∷ [])
  blocked_more ios io same kind r below =
      let was = fits.blocked r below in
      let there = ap (λ ys. sum_by (λ (y : Io). one_where (is_of (record { 0 = r }) y.kind)) ys) same in
      let more = sum_by_push (λ (y : Io). one_where (is_of (record { 0 = r }) y.kind)) ios io in
      elim (cases_eq r (space_of a).0) [
        | inl e ↦
            let one : one_where (eqb (space_of a).0 r) ≡ 1 = ap one_where (eq-eqb (space_of a).0 r (sym e)) in
            let now : get_or (one_more x.blocked (space_of a)) r 0 ≡ get_or x.blocked r 0 + 1 =
            ap (λ n. get_or (set x.blocked n (get_or x.blocked n 0 + 1)) r 0) (sym e)
            ∙ get_or-set_same x.blocked r (get_or x.blocked r 0 + 1) 0 (omega (arith, below, fits.many_blocked)) in
            omega (arith, was, there, more, one, now, kind r)
        | inr ne ↦
            let none : one_where (eqb (space_of a).0 r) ≡ 0 = ap one_where (ne_eqb (space_of a).0 r (λ e. ne (sym e))) in
            let now = get_or-set_other x.blocked (space_of a).0 r (get_or x.blocked (space_of a).0 0 + 1) 0 ne in
            omega (arith, was, there, more, none, now, kind r)
      ]

module _ (w : WorkloadView) (valid : IsWorkload w) (p : ProcNo) (v : Virtuals) (good : Good w v) (x : Own) (fits : Mirrors w v x) (a : ActNo)
    (at : placed_on v p ≡ Some a)
    (small : a.0 < VIRTUALS) (t : ThreadNo) (runs' : runner_at good.stands.runners p ≡ Some (runner (space_of a) t)) (room : HasRoom v.base.state.spaces)
    (first : v.base.last ≡ None) where
  abbrev few : w.processors ≤ MAX_PROCESSORS
  few = valid.few_processors

  abbrev s : SpaceNo
  s = space_of a

  abbrev l : ProcNo
  l = list_of a

  abbrev r : Readings
  r = v.base

  abbrev thread : Thread
  thread = thread_at r.state s t

  abbrev i : Instr
  i = next_instr w r.state s t

  there : s.0 < length w.spaces
  there = inside w p v good x fits a at few

  -- A TOUCH OF AN ABSENT PAGE
  no_lock : locks_one (life_of r a) ≡ false
  no_lock = let have = good.stands.holds.lives a in ap locks_one have.1 ∙ have.3

  for : blocking w r s (Some t) a ≡ record { kind = Page s a (page_in i); length = w.fetch }
  for = ap (λ o. blocking_for w r s (Some t) a (length_behind w r s (Some t) o)) first
      ∙ ap (λ b. record { kind = Page s a (cond (b && not (is_resident r s PACKAGE_PAGE)) PACKAGE_PAGE (page_in i)); length = w.fetch }) no_lock

  abbrev missed : Turned
  missed = ran w v p a t thread i true

  abbrev missed_own : Own
  missed_own = record (blocked_own w v good x fits a there small t) {
    items = (x.items ++ item v p (rec.Block s (Some t) a (record { 0 = r.io_count })) ∷ []) ++ item v p (rec.Move (Some s) None) ∷ [];
  }

  abbrev with_io' : IoKind → ℕ → Io
  with_io' kind length = record { number = r.io_count; ends = r.number + length; kind = kind }

  faults : Follows w p v missed x (blocks p a t (Page s a (page_in i)) w.fetch (board_of w v x))
  faults = record {
    own = missed_own;
    is = ap (λ (b : Blocking). record (board_of w (behind w p v missed) missed_own) {
      devices =
          record {
            ios = record { io_count = r.io_count + 1; under_way = r.under_way ++ with_io' b.kind b.length ∷ []; spare = x.spare - 1 };
            pages = r.pages;
            evictions = w.evictions;
          };
    }) (sym for);
    fits = fit (blocked_threads w v good x fits a there small t, length-set x.threads a.0 (Some t) ∙ fits.many_threads) (steps-of fits)
        (ready-of fits) (work-of fits) (
          blocked_more w v good x fits a there small t r.under_way (let b = blocking w r s (Some t) a in
              with_io' b.kind b.length) refl (λ q. ap (λ (b : Blocking). one_where (is_of (record { 0 = q }) b.kind)) for),
          length-set x.blocked s.0 (get_or x.blocked s.0 0 + 1) ∙ fits.many_blocked,
        )
        (numbered_more r.io_count r.under_way (let b = blocking w r s (Some t) a in with_io' b.kind b.length) refl fits.numbered)
        fits.many_lost fits.many_pages;
    lost = refl;
    items = append_assoc x.items (item v p (rec.Block s (Some t) a (record { 0 = r.io_count })) ∷ []) (item v p (rec.Move (Some s) None) ∷ []);
    io_count = omega arith;
    steps = λ b. omega arith;
    blocked = λ q. more_most x.blocked s.0 q;
    due = omega arith;
  }

  -- AN INSTRUCTION
  abbrev roused : List ThreadNo
  roused = (next_effect w r.state s t).roused

  abbrev work' : List Lists
  work' = with_list_in x.work s l (list_in x.work s l ++ numbers roused)

  abbrev went_own : Own
  went_own = record x { work = work'; due = x.due + length roused; items = x.items ++ item v p (rec.Ins s t thread.pc) ∷ [] }

  abbrev went : Virtuals
  went = record v { work = put v.work a.0 (v.work a.0 ++ roused) }

  few_roused : length roused ≤ MAX_THREADS
  few_roused = few_threads w valid r.number p v good a at t runs' room

  works : (q : ℕ) → q < length w.spaces → AreLists w.processors (λ k. numbers (put v.work a.0 (v.work a.0 ++ roused) (MAX_PROCESSORS * q + k))) (rows work' q)
  works = work_with w p v good x fits a at few (v.work a.0 ++ roused) (list_in x.work s l ++ numbers roused)
      (ap (λ ys. ys ++ numbers roused) (work_is w p v good x fits a at few) ∙ sym (map-append (λ (u : ThreadNo). u.0) (v.work a.0) roused))

  due : x.due + length roused ≡ total work'
  due = omega (
    arith,
    fits.due,
    total_with w.processors (length w.spaces) x.work s l (list_in x.work s l ++ numbers roused) fits.many_work there (within w p v good x fits a at few)
        (fits.work s.0 there).many,
    length-append (list_in x.work s l) (numbers roused),
    length-map roused (λ (u : ThreadNo). u.0),
  )

  many_work' : length work' ≡ length w.spaces
  many_work' =
      many_with w.processors (length w.spaces) x.work s l (list_in x.work s l ++ numbers roused) fits.many_work there (within w p v good x fits a at few)

  stays : threads_of v.base.lives ≡ threads_of (with_life (with_hand roused) (get_or r.running p.0 None) r.lives)
  stays = sym (ap (λ o. threads_of (with_life (with_hand roused) o r.lives)) (good.quiet p))

  abbrev plain : Turned
  plain = record { says = rec.Ins s t thread.pc ∷ []; after = went }

  plainly : Follows w p v plain x (goes p a t (board_of w v x))
  plainly = record {
    own = went_own;
    is = refl;
    fits = fit (fits.threads ∙ stays, fits.many_threads) (steps-of fits) (ready-of fits) (works, due, many_work') (blocked-of fits)
        fits.numbered fits.many_lost fits.many_pages;
    lost = refl;
    items = refl;
    io_count = omega arith;
    steps = λ b. omega arith;
    blocked = λ q. omega arith;
    due = omega (arith, few_roused);
  }

  -- AN INSTRUCTION which gives a value out
  abbrev gives : Reg → Turned
  gives reg = record { says = rec.Ins s t thread.pc ∷ rec.Out s t (reg_value thread.regs reg) ∷ []; after = went }

  outs : (reg : Reg) → Follows w p v (gives reg) x (ends_with p a t thread.regs (Out reg) (goes p a t (board_of w v x)))
  outs reg = record {
    own = record went_own { items = went_own.items ++ item v p (rec.Out s t (reg_value thread.regs reg)) ∷ [] };
    is = refl;
    fits = fit (fits.threads ∙ stays, fits.many_threads) (steps-of fits) (ready-of fits) (works, due, many_work') (blocked-of fits)
        fits.numbered fits.many_lost fits.many_pages;
    lost = refl;
    items = append_assoc x.items (item v p (rec.Ins s t thread.pc) ∷ []) (item v p (rec.Out s t (reg_value thread.regs reg)) ∷ []);
    io_count = omega arith;
    steps = λ b. omega arith;
    blocked = λ q. omega arith;
    due = omega (arith, few_roused);
  }

  -- AN INSTRUCTION on which it blocks
  module _ (n : ℕ) (is_n : i ≡ IoOf n) where
    abbrev blocks_on : Turned
    blocks_on = record {
      says = rec.Ins s t thread.pc ∷ rec.Block s (Some t) a (record { 0 = r.io_count }) ∷ rec.Move (Some s) None ∷ [];
      after = record went { placed = set v.placed p.0 None };
    }

    abbrev mid : Readings
    mid = after_record w r.number p r (rec.Ins s t thread.pc)

    for_io : blocking w mid s (Some t) a ≡ record { kind = Plain s a; length = n }
    for_io = ap (blocking_for w mid s (Some t) a) (turns.behind_io w valid r.number p v good a at t runs' room n is_n)

    abbrev io_own : Own
    io_own = record went_own {
      spare = x.spare - 1;
      threads = set x.threads a.0 (Some t);
      blocked = one_more x.blocked s;
      items = (went_own.items ++ item v p (rec.Block s (Some t) a (record { 0 = r.io_count })) ∷ []) ++ item v p (rec.Move (Some s) None) ∷ [];
    }

    io_threads : (λ b. get_or (set x.threads a.0 (Some t)) b None) ≡ threads_of (with_life (held_with (Some t)) (Some a) mid.lives)
    io_threads = blocked_threads w v good x fits a there small t
        ∙ sym (ap (λ o. threads_of (with_life (held_with (Some t)) (Some a) (with_life (with_hand roused) o r.lives))) (good.quiet p))

    blocks_io : Follows w p v blocks_on x (ends_with p a t thread.regs (IoOf n) (goes p a t (board_of w v x)))
    blocks_io = record {
      own = io_own;
      is = ap (λ (b : Blocking). record (board_of w (behind w p v blocks_on) io_own) {
        devices =
            record {
              ios = record { io_count = r.io_count + 1; under_way = r.under_way ++ with_io' b.kind b.length ∷ []; spare = x.spare - 1 };
              pages = r.pages;
              evictions = w.evictions;
            };
      }) (sym for_io);
      fits = fit (io_threads, length-set x.threads a.0 (Some t) ∙ fits.many_threads) (steps-of fits) (ready-of fits)
          (works, due, many_work') (
            blocked_more w v good x fits a there small t r.under_way (let b = blocking w mid s (Some t) a in
                with_io' b.kind b.length) refl (λ q. ap (λ (b : Blocking). one_where (is_of (record { 0 = q }) b.kind)) for_io),
            length-set x.blocked s.0 (get_or x.blocked s.0 0 + 1) ∙ fits.many_blocked,
          )
          (numbered_more r.io_count r.under_way (let b = blocking w mid s (Some t) a in with_io' b.kind b.length) refl fits.numbered)
          fits.many_lost fits.many_pages;
      lost = refl;
      items =
          ap (λ is. is ++ item v p (rec.Move (Some s) None) ∷ [])
          (append_assoc x.items (item v p (rec.Ins s t thread.pc) ∷ []) (item v p (rec.Block s (Some t) a (record { 0 = r.io_count })) ∷ []))
          ∙ append_assoc x.items (item v p (rec.Ins s t thread.pc) ∷ item v p (rec.Block s (Some t) a (record { 0 = r.io_count })) ∷ [])
          (item v p (rec.Move (Some s) None) ∷ []);
      io_count = omega arith;
      steps = λ b. omega arith;
      blocked = λ q. more_most x.blocked s.0 q;
      due = omega (arith, few_roused);
    }

  by_instr : (j : Instr) → i ≡ j → Follows w p v (ran w v p a t thread j false) x (ends_with p a t thread.regs j (goes p a t (board_of w v x)))
  by_instr (Out reg) is = outs reg
  by_instr (IoOf n) is = blocks_io n is
  by_instr j is = plainly

  pub runs_it : Follows w p v (run_of w v p a t) x (runs p a t (board_of w v x))
  runs_it = go (misses r s i) refl where
    go : (b : Bool) → misses r s i ≡ b → Follows w p v (ran w v p a t thread i b) x (runs p a t (board_of w v x))
    go true is = subst (Follows w p v missed x) (sym (ap (λ o. runs_on p a t i o (board_of w v x)) (missed_is w v x s i is))) faults
    go false is =
        subst (Follows w p v (ran w v p a t thread i false) x) (sym (ap (λ o. runs_on p a t i o (board_of w v x)) (missed_not w v x s i is))) (by_instr i refl)
