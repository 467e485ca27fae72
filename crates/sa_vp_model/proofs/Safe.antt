-- What each part of a turn needs is there.
use Rattle.std.proofs.Common.{◌≡◌, ◌≢◌, ℕ, suc, ◌+◌, ◌*◌, ◌<◌, ◌≤◌, ◌^◌, Bool, true, false, cond, eqb, nat_lt, List, [], ◌∷◌, ◌++◌, length, get_or, slice_get, Option, Some, None, refl, sym, ap, subst, ◌∙◌, arith}
use Rattle.std.specs.Prelude.{sum_by, slice_index}
use Rattle.std.proofs.lemmas.Bool.{eq-eqb, ltb-true}
use Rattle.std.proofs.lemmas.Option.{same_Some}
use Rattle.std.proofs.lemmas.List.{length-set, get_or-set_other, map-append}
use Rattle.std.proofs.lemmas.List.Elements.{All-get_or}
use Rattle.std.proofs.lemmas.List.Sums.{sum_by-cons, get_or-le-sum_by}
use Rattle.sa_base.specs.declared.number.ProcNo.{ProcNo}
use Rattle.sa_base.specs.declared.number.SpaceNo.{SpaceNo}
use Rattle.sa_base.specs.declared.number.ThreadNo.{ThreadNo}
use Rattle.sa_base.specs.declared.number.ActNo.{ActNo}
use Rattle.sa_base.specs.declared.limits.TheConstants.{MAX_EVENTS, MAX_PROCESSORS, MAX_THREADS}
use Rattle.sa_base.specs.declared.record.Record.TheVariants as rec
use Rattle.sa_instr.specs.declared.limits.TheConstants.{LAST_PAGE}
use Rattle.sa_instr.specs.declared.instr.Instr.{Instr}
use Rattle.sa_instr.specs.declared.instr.Instr.TheVariants.{Io as IoOf, Signal, Touch, End}
use Rattle.sa_instr.specs.Instr.{IsInRange}
use Rattle.sa_instr.specs.Program.{IsProgram}
use Rattle.sa_spaces.specs.Workload.{WorkloadView, IsWorkload}
use Rattle.sa_spaces.specs.Space.{IsSpace}
use Rattle.sa_links.specs.Lists.{Lists, list_at, count_in, count_in_all}
use Rattle.sa_sync.specs.Sync.{Sync, semaphore_at}
use Rattle.sa_devices.specs.declared.kind.IoKind.TheVariants.{Plain, Page}
use Rattle.sa_devices.specs.Ios.{Io, due_of}
use Rattle.sa_base.specs.Pages.{has_page}
use Rattle.sa_laws.specs.State.{no_space, next_instr, thread_at, space_def, runner_of}
use Rattle.sa_laws.specs.Machine.{next_effect}
use Rattle.sa_replay.specs.Needs.{CanChange}
use Rattle.sa_replay.specs.Running.{IsAt, IsFull}
use Rattle.sa_replay.specs.Spaces.{space_in}
use Rattle.sa_replay.specs.Index.{runner_at}
use Rattle.sa_replay.proofs.IndexLemmas.{runner}
use Rattle.sa_virtual.specs.Virtual.{Virtuals, space_of, list_of, placed_on, thread_of, ready_of}
use Rattle.sa_virtual.specs.Turn.{of_io, placing}
use Rattle.sa_virtual.specs.Turn as rules
use Rattle.sa_virtual.specs.Holding.{in_queue, in_ios, is_virtual, one_if, one_where, numbers, parts_of, kind, listed}
use Rattle.sa_virtual.specs.Turning.{Good, HasRoom, Met}
use Rattle.sa_virtual.proofs.Sums.{one_or_none, unqueued}
use Rattle.sa_virtual.proofs.Pushed as pushes
use Rattle.sa_virtual.proofs.Left as left
use Rattle.sa_virtual.proofs.Turns as turns
use Rattle.sa_virtual.proofs.MoreTurns as more
use Rattle.sa_virtual.proofs.RanTurns as ran
use Rattle.sa_virtual.proofs.Ran as run
use Rattle.sa_vp_model.specs.Board.{Board, act_numbers, of_space, list_in}
use Rattle.sa_vp_model.specs.Turn.{act, thread, held_by, stops, missed_page, goes}
use Rattle.sa_vp_model.specs.Mirror.{Own, board_of, Mirrors, rows}
use Rattle.sa_vp_model.specs.Needs.{IsTabled, IsVirtual, CanComeBack, CanPlaceOn, CanGiveWay, CanReady, CanBlockOn, CanGoOn, CanLook}
use Rattle.sa_vp_model.proofs.Tables.{newest_few, many_with}
use Rattle.sa_vp_model.proofs.Readied.{work_with}
use Rattle.sa_vp_model.proofs.Taken.{picked_in}
use Rattle.sa_vp_model.proofs.Unblocked as over
use Rattle.sa_vp_model.proofs.Main.{number_small, placed_small}
use Rattle.sa_vp_model.proofs.Roused as roused

-- a sum of nothing
sum_none : (f : List ℕ → ℕ) (ls : List (List ℕ)) → ((l : ℕ) → l < length ls → f (list_at ls l) ≡ 0) → sum_by f ls ≡ 0
sum_none f [] none = refl
sum_none f (x ∷ xs) none = omega (arith, sum_by-cons f x xs, none 0 (omega arith), sum_none f xs (λ l below. none (suc l) (omega (arith, below))))

-- numbers of virtual processors in a queue
pub queue_count : (q : List ActNo) (a : ℕ) → count_in a (act_numbers q) ≡ in_queue q a
queue_count [] a = refl
queue_count (b ∷ q) a =
    omega (arith, sum_by-cons (λ y. cond (eqb y a) 1 0) b.0 (act_numbers q), sum_by-cons (λ (c : ActNo). cond (eqb c.0 a) 1 0) b q, queue_count q a)

all_queue : (q : List ActNo) (a : ℕ) → count_in_all a (act_numbers q ∷ []) ≡ in_queue q a
all_queue q a = omega (arith, sum_by-cons (count_in a) (act_numbers q) [], queue_count q a)

module _ (w : WorkloadView) (valid : IsWorkload w) (v : Virtuals) (good : Good w v) (x : Own) (fits : Mirrors w v x) where
  pub tabled : IsTabled (board_of w v x)
  tabled = record {
    threads = fits.many_threads;
    steps = fits.many_steps;
    placed = good.stands.holds.processors;
    ready = fits.many_ready;
    work = fits.many_work;
    blocked = fits.many_blocked;
    lost = fits.many_lost;
    pages = fits.many_pages;
    queue_nodes = refl;
    queue_lists = refl;
    ready_rows = λ s below. record { nodes = (fits.ready s below).nodes; many = (fits.ready s below).many };
    work_rows = λ s below. record { nodes = (fits.work s below).nodes; many = (fits.work s below).many };
  }

  pub virtual_of : (a : ActNo) → 1 ≤ one_where (is_virtual w (record { 0 = a.0 })) → IsVirtual (board_of w v x) a
  virtual_of a some =
      let both = pushes.both_true (nat_lt (space_of a).0 (length w.spaces)) (nat_lt (list_of a).0 w.processors) some in
      record {
        space = ltb-true (space_of a).0 (length w.spaces) both.0;
        list = ltb-true (list_of a).0 w.processors both.1;
        small = number_small w valid v good a.0 some;
      }

  pub held : (a : ActNo) → held_by (board_of w v x) a ≡ thread_of v a
  held a = ap (λ (f : ℕ → Option ThreadNo). f a.0) fits.threads

  -- ONE COMES BACK
  module _ (p : ProcNo) (io : Io) (due : due_of v.base.number v.base.under_way ≡ Some io) where
    abbrev back : ActNo
    back = of_io io.kind

    among : turns.IsAmong v.base.under_way io
    among = turns.due_among v.base.number v.base.under_way io due good.stands.holds.ios

    back_once : in_ios v.base.under_way back.0 ≡ 1
    back_once = omega (arith, among.1, good.stands.holds.once back.0, one_or_none (is_virtual w (record { 0 = back.0 })))

    back_virtual : IsVirtual (board_of w v x) back
    back_virtual = virtual_of back (omega (arith, back_once, good.stands.holds.once back.0))

    pub comes_back : CanComeBack p back (board_of w v x)
    comes_back = record {
      tabled = tabled;
      virtual = back_virtual;
      free = omega (arith, all_queue v.queue back.0, back_once, good.stands.holds.once back.0, one_or_none (is_virtual w (record { 0 = back.0 })));
      some = omega (arith, fits.blocked (space_of back).0 back_virtual.space, over.some_blocked v back back_once);
      can = subst (λ o. CanChange w p v.base.state (rec.Unblock (space_of back) o back)) (sym (held back))
          ((turns.unblocks w v.base.number p v good io due).steps.0.blocked);
    }

  -- ONE IS PLACED
  module _ (p : ProcNo) (inside : p.0 < w.processors) where
    pub places_it : (a : ActNo) (rest : List ActNo) → placed_on v p ≡ None → v.queue ≡ a ∷ rest → CanPlaceOn p a (board_of w v x)
    places_it a rest free queue = record {
      many_threads = fits.many_threads;
      many_steps = fits.many_steps;
      many_placed = good.stands.holds.processors;
      small =
          number_small w valid v good a.0
          (omega (arith, ap (λ q. in_queue q a.0) queue, unqueued rest a a.0, ap one_where (eq-eqb a.0 a.0 refl), good.stands.holds.once a.0));
      can = λ t is. (turns.places_one w v.base.number p v good a rest inside free queue (Some t) (sym (held a) ∙ is)).steps.1.0;
    }

    -- ONE GIVES WAY
    module _ (a : ActNo) (at : placed_on v p ≡ Some a) where
      met : (first : ActNo) (rest : List ActNo) → v.queue ≡ first ∷ rest → (u : Option ThreadNo) → thread_of v first ≡ u
          → Met w v.base.number p v.base (placing p (Some (space_of a)) u first (rec.Stop (space_of a) (rules.carried_on v p) a ∷ []) (rest ++ a ∷ []) v)
      met first rest queue u is =
          subst (λ o. Met w v.base.number p v.base
          (placing p (Some (space_of a)) o first (rec.Stop (space_of a) (rules.carried_on v p) a ∷ []) (rest ++ a ∷ []) v)) is
          (more.stops_it w v.base.number p v good inside valid.few_processors a at first rest queue)

      no_first : (q : List ActNo) (first : ℕ) → v.queue ≡ q → slice_get (act_numbers v.queue) 0 ≡ Some first
          → (b : ActNo) × (rest : List ActNo) × (v.queue ≡ b ∷ rest) × (b.0 ≡ first)
      no_first [] first is found = let none : None ≡ Some first = sym (ap (λ q. slice_get (act_numbers q) 0) is) ∙ found in cc
      no_first (b ∷ rest) first is found = (b, rest, is, same_Some _ _ (sym (ap (λ q. slice_get (act_numbers q) 0) is) ∙ found))

      stop_is : (q : List ActNo) → v.queue ≡ q → rules.some_wait q ≡ true → CanChange w p v.base.state (rec.Stop (space_of a) (rules.carried_on v p) a)
      stop_is [] is some = cc
      stop_is (first ∷ rest) is some = (met first rest is (thread_of v first) refl).steps.0.1

      abbrev stopped : Board
      stopped = stops p a (rules.carried_on v p) (board_of w v x)

      next_is : (b : ActNo) (rest : List ActNo) → v.queue ≡ b ∷ rest → CanPlaceOn p b stopped
      next_is b rest queue =
          let none = left.not_queued w (parts_of v) good.stands.runners good.stands.holds p a at in
          let one : one_if b.0 b.0 ≡ 1 = ap one_where (eq-eqb b.0 b.0 refl) in
          let other : b.0 ≢ a.0 = λ is.
          let some : in_queue v.queue a.0 ≡ one_if b.0 a.0 + in_queue rest a.0 = ap (λ q. in_queue q a.0) queue ∙ unqueued rest b a.0 in
          let two : one_if b.0 a.0 ≡ 1 = ap one_where (eq-eqb b.0 a.0 is) in
          absurd (omega (arith, none, some, two)) in
          record {
            many_threads = length-set x.threads a.0 (rules.carried_on v p) ∙ fits.many_threads;
            many_steps = fits.many_steps;
            many_placed = good.stands.holds.processors;
            small = number_small w valid v good b.0 (omega (arith, ap (λ q. in_queue q b.0) queue, unqueued rest b b.0, one, good.stands.holds.once b.0));
            can =
                λ t is. (met b rest queue (Some t)
                (sym (held b) ∙ sym (get_or-set_other x.threads a.0 b.0 (rules.carried_on v p) None other) ∙ is)).steps.1.1.0;
          }

      pub gives_way : rules.some_wait v.queue ≡ true → CanGiveWay p a (board_of w v x)
      gives_way some = record {
        tabled = tabled;
        small = placed_small w valid v good p a at;
        can = stop_is v.queue refl some;
        free = omega (arith, all_queue v.queue a.0, left.not_queued w (parts_of v) good.stands.runners good.stands.holds p a at);
        next = λ first found.
            let one = no_first v.queue first refl found in
            subst (λ n. CanPlaceOn p (act n) stopped) one.3 (next_is one.0 one.1 one.2);
      }

  -- WHO IS PLACED DOES A STEP
  module _ (p : ProcNo) (a : ActNo) (at : placed_on v p ≡ Some a) where
    abbrev s : SpaceNo
    s = space_of a

    abbrev few : w.processors ≤ MAX_PROCESSORS
    few = valid.few_processors

    pub is_virtual_here : IsVirtual (board_of w v x) a
    is_virtual_here = virtual_of a (omega (arith, pushes.placed_once w (parts_of v) good.stands.runners good.stands.holds p a at, good.stands.holds.once a.0))

    known : ((space_of a).0 < length w.spaces) × ((list_of a).0 < w.processors)
    known = pushes.known w (parts_of v) good.stands.runners good.stands.holds p a at

    pub work_list : list_in x.work s (list_of a) ≡ numbers (v.work a.0)
    work_list = (fits.work s.0 known.0).each (list_of a).0 known.1 ∙ ap (λ n. numbers (v.work n)) (sym (pushes.number_is a))

    -- the step is a push
    module _ (first : ThreadNo) (others : List ThreadNo) (work : v.work a.0 ≡ first ∷ others) where
      not_listed : listed v.ready s.0 first.0 ≡ 0
      not_listed = (good.stands.holds.agree s.0 first.0).in_lists
          ∙ ap (λ place. one_if (kind place) 1) (pushes.waits w (parts_of v) good.stands.runners good.stands.holds p a at few first others work).0

      pub readies_it : CanReady p a first (board_of w v x)
      readies_it = record {
        tabled = tabled;
        virtual = is_virtual_here;
        unlisted = sum_none (count_in first.0) (rows x.ready s.0).lists (λ l below.
            let are = fits.ready s.0 known.0 in
            let list = ap (count_in first.0) (are.each l (omega (arith, below, are.many))) in
            omega (arith, list, newest_few first.0 (ready_of v s) l, not_listed));
        due = omega (
          arith,
          fits.due,
          get_or-le-sum_by (λ (c : Lists). sum_by length c.lists) x.work s.0 (record { nodes = 0; lists = [] }) (omega (arith, known.0, fits.many_work)),
          get_or-le-sum_by length (rows x.work s.0).lists (list_of a).0 [] (omega (arith, known.1, (fits.work s.0 known.0).many)),
          ap length work_list,
          ap (λ ts. length (numbers ts)) work,
        );
        can = (pushes.push_needs w (parts_of v) good.stands.runners good.stands.holds p a at few first others work).1;
      }

    -- the step is an instruction
    module _ (room : HasRoom v.base.state.spaces) (t : ThreadNo) (carried : rules.carried_on v p ≡ Some t) where
      runs : runner_at good.stands.runners p ≡ Some (runner s t)
      runs = turns.carrier w v.base.number p v good a at few ∙ ap (λ o. runner_of s o) carried

      abbrev i : Instr
      i = next_instr w v.base.state s t

      stands : IsAt (space_def w s) (thread_at v.base.state s t)
      stands = run.stands w (parts_of v) good.stands.runners good.stands.holds p a at few t runs

      space : IsSpace (space_def w s)
      space = All-get_or IsSpace w.spaces s.0 no_space known.0 valid.spaces

      program : IsProgram (get_or (space_def w s).programs (thread_at v.base.state s t).program [])
      program = All-get_or IsProgram (space_def w s).programs (thread_at v.base.state s t).program [] stands.in_space space.programs

      ranged : IsInRange i
      ranged =
          All-get_or IsInRange (get_or (space_def w s).programs (thread_at v.base.state s t).program [])
          (thread_at v.base.state s t).pc End stands.in_program program.ranges

      not_full : (sync : Sync) (j : Instr) → ((k : ℕ) → (semaphore_at sync k).count + 1 < 2 ^ 32) → IsFull sync j → ⊥
      not_full sync (Signal k) few' full = omega (arith, few' k, full)
      not_full sync j few' full = absurd full

      once : (u : ℕ) → count_in_all u (of_space x.work s).lists + count_in u (numbers (next_effect w v.base.state s t).roused) ≤ 1
      once u = omega (
        arith,
        roused.worked_all v.work s.0 u w.processors (rows x.work s.0) (fits.work s.0 known.0),
        roused.once w valid v.base.number p v good a at t runs room u,
      )

      pub goes_it : x.due ≤ MAX_THREADS * v.base.number → v.base.number ≤ MAX_EVENTS → CanGoOn p a t (board_of w v x)
      goes_it due event = record {
        tabled = tabled;
        virtual = is_virtual_here;
        can = record { runs = run.place w (parts_of v) good.stands.runners good.stands.holds p a at few t runs; within = stands.in_program };
        room = not_full (space_in v.base.state.spaces s).sync i (room s.0);
        below = roused.below w valid v.base.number p v good a at t runs room;
        once = once;
        due = omega (arith, due, event, roused.few w valid v.base.number p v good a at t runs room);
      }

      -- the step is an instruction on which it blocks
      touches : (j : Instr) (page : ℕ) → IsInRange j → missed_page (board_of w v x) s j ≡ Some page → (1 ≤ page) × (page ≤ LAST_PAGE)
      touches (Touch k) page in_range is = go (has_page (slice_index v.base.pages s.0) k) is where
        go : (b : Bool) → cond b None (Some k) ≡ Some page → (1 ≤ page) × (page ≤ LAST_PAGE)
        go true e = cc
        go false e = let same : k ≡ page = same_Some _ _ e in (omega (arith, in_range.0.0, same), omega (arith, in_range.0.1, same))
      touches j page in_range is = cc

      pub faults_it : v.base.number ≤ MAX_EVENTS → v.base.io_count < v.base.number → ((r : ℕ) → get_or x.blocked r 0 < v.base.number) → (page : ℕ)
          → missed_page (board_of w v x) s i ≡ Some page
          → CanBlockOn p a t (Page s a page) (board_of w v x)
      faults_it event io_count blocked page is =
          let range = touches i page ranged is in
          record {
            tabled = tabled;
            virtual = is_virtual_here;
            event = event;
            io_count = io_count;
            kind = (omega (arith, known.0, fits.many_pages), range.0, range.1);
            blocked = blocked s.0;
            can = (left.stop_needs w (parts_of v) good.stands.runners good.stands.holds p a at (Some t) runs).1;
          }

      gone_tabled : IsTabled (goes p a t (board_of w v x))
      gone_tabled =
          let woken = (next_effect w v.base.state s t).roused in
          let ys = list_in x.work s (list_of a) ++ numbers woken in
          let are = work_with w p v good x fits a at few (v.work a.0 ++ woken) ys
          (ap (λ zs. zs ++ numbers woken) work_list ∙ sym (map-append (λ (u : ThreadNo). u.0) (v.work a.0) woken)) in
          record {
            threads = fits.many_threads;
            steps = fits.many_steps;
            placed = good.stands.holds.processors;
            ready = fits.many_ready;
            work = many_with w.processors (length w.spaces) x.work s (list_of a) ys fits.many_work known.0 known.1;
            blocked = fits.many_blocked;
            lost = fits.many_lost;
            pages = fits.many_pages;
            queue_nodes = refl;
            queue_lists = refl;
            ready_rows = tabled.ready_rows;
            work_rows = λ r below. record { nodes = (are r below).nodes; many = (are r below).many };
          }

      pub blocks_it : v.base.number ≤ MAX_EVENTS → v.base.io_count < v.base.number → ((r : ℕ) → get_or x.blocked r 0 < v.base.number) → (n : ℕ) → i ≡ IoOf n
          → CanBlockOn p a t (Plain s a) (goes p a t (board_of w v x))
      blocks_it event io_count blocked n is = record {
        tabled = gone_tabled;
        virtual = record { space = is_virtual_here.space; list = is_virtual_here.list; small = is_virtual_here.small };
        event = event;
        io_count = io_count;
        kind = omega (arith, known.0, fits.many_pages);
        blocked = blocked s.0;
        can = (ran.blocks_on w valid v.base.number p v good a at t runs room n is).steps.1.0.runs;
      }

    -- the step looks for a thread
    pub looks_it : rules.carried_on v p ≡ None → CanLook p a (board_of w v x)
    looks_it idle = record {
      tabled = tabled;
      virtual = is_virtual_here;
      can = λ l own t below is.
          let list = (fits.ready s.0 known.0).each l.0 below in
          let some : 1 ≤ listed v.ready s.0 t =
          omega (arith, ap (count_in t) list, picked_in (list_in x.ready s l) own t is, newest_few t (ready_of v s) l.0) in
          pushes.pop_needs w (parts_of v) good.stands.runners good.stands.holds p a at (thread t) some
          (turns.carrier w v.base.number p v good a at few ∙ ap (λ o. runner_of s o) idle);
    }
