-- A run goes on by one turn, and what is read of it.
use Rattle.std.proofs.Common.{◌≡◌, ℕ, ◌+◌, ◌<◌, ◌≤◌, List, [], ◌∷◌, ◌++◌, length, get_or, Option, Some, None, refl, sym, ap, subst, ◌∙◌, arith, add-one}
use Rattle.std.specs.Prelude.{All}
use Rattle.std.proofs.lemmas.List.Elements.{All-from_get_or}
use Rattle.std.proofs.lemmas.List.FromFn.{map-range_with_len_more, length-map-range_with_len, get_or-map-range_with_len}
use Rattle.sa_base.specs.declared.number.ProcNo.{ProcNo}
use Rattle.sa_base.specs.declared.record.Item.{Item}
use Rattle.sa_base.specs.declared.record.End.{End}
use Rattle.sa_base.specs.declared.limits.TheConstants.{MAX_EVENTS}
use Rattle.sa_spaces.specs.Workload.{WorkloadView, IsWorkload}
use Rattle.sa_assign.specs.Reaim.{proc_no}
use Rattle.sa_sched.specs.Order.{Order, processor_at}
use Rattle.sa_sched.specs.Turns.{Turns, start, turned as schedule_turned, turned_often, next_processor}
use Rattle.sa_sched.specs.Laws.{TurnsAreInOrder}
use Rattle.sa_vp_model.specs.Board.{Board, opened}
use Rattle.sa_vp_model.specs.Turn.{turned}
use Rattle.sa_vp_model.specs.End.{end_of}
use Rattle.sa_vp_model.specs.Runs.{board_after, RunIsRead}
use Rattle.sa_vp_model.proofs.Runs.{runs_are_read}
use Rattle.sa_virtual.specs.Virtual.{opening}
use Rattle.sa_virtual.specs.Legal.{IsLegalVp, EndsWith, after_all}
use Rattle.sa_vp.specs.Run.{first_turns, first_events, EndsAt, IsVpRun, RunsSoFar, RunsTo}

-- the board after the first turns by an order
abbrev pub board_at : WorkloadView → Order → ℕ → Board
board_at w order n = board_after (opened w) (first_turns w order n)

after-more : (b : Board) (ps : List ProcNo) (p : ProcNo) → board_after b (ps ++ p ∷ []) ≡ turned p (board_after b ps)
after-more b [] p = refl
after-more b (q ∷ ps) p = after-more (turned q b) ps p

module _ (w : WorkloadView) (order : Order) where
  turns-more : (n : ℕ) → first_turns w order (n + 1) ≡ first_turns w order n ++ proc_no (processor_at order w.processors (n + 1)) ∷ []
  turns-more n = map-range_with_len_more (λ k. proc_no (processor_at order w.processors (k + 1))) 0 n n (omega arith)

  -- the processor that the schedule gives
  pub next-at : (n : ℕ) (s : Turns) (p : ProcNo) → TurnsAreInOrder → 1 ≤ w.processors → s ≡ turned_often (start order w.processors) n
      → p.0 ≡ next_processor s → p.0 ≡ processor_at order w.processors (n + 1)
  next-at n s p in_order some at gives = gives ∙ ap next_processor at ∙ in_order order w.processors n some

  -- its turn is one turn more
  pub one-more : (n : ℕ) (b : Board) (s : Turns) (p : ProcNo) → TurnsAreInOrder → 1 ≤ w.processors → s ≡ turned_often (start order w.processors) n
      → p.0 ≡ next_processor s → b ≡ board_at w order n → turned p b ≡ board_at w order (n + 1)
  one-more n b s p in_order some at gives is =
      ap (turned p) is ∙ ap (λ k. turned (proc_no k) (board_at w order n)) (next-at n s p in_order some at gives)
      ∙ sym (after-more (opened w) (first_turns w order n) (proc_no (processor_at order w.processors (n + 1))))
      ∙ ap (board_after (opened w)) (sym (turns-more n))

-- the schedule after it
pub schedule-more : (order : Order) (processors n : ℕ) (s t : Turns) → s ≡ turned_often (start order processors) n → t ≡ schedule_turned s
    → t ≡ turned_often (start order processors) (n + 1)
schedule-more order processors n s t at is =
    is ∙ ap schedule_turned at ∙ ap (turned_often (start order processors)) (sym (add-one n))

-- WHAT IS READ of the board after the first turns
module _ (w : WorkloadView) (valid : IsWorkload w) (order : Order) (n : ℕ) (few : n ≤ MAX_EVENTS)
    (among : (k : ℕ) → k < n → processor_at order w.processors (k + 1) < w.processors) where
  abbrev turn_at : ℕ → ProcNo
  turn_at k = proc_no (processor_at order w.processors (k + 1))

  many : (m : ℕ) → length (first_turns w order m) ≡ m
  many m = length-map-range_with_len turn_at 0 m

  are-among : (m : ℕ) → m ≤ n → All (λ (p : ProcNo). p.0 < w.processors) (first_turns w order m)
  are-among m less = All-from_get_or (λ (p : ProcNo). p.0 < w.processors) (first_turns w order m) (proc_no 0) (λ i inside.
      let below : i < m = omega (arith, inside, many m) in
      let is = get_or-map-range_with_len turn_at 0 m i i (proc_no 0) below (omega arith) in
      subst (λ (p : ProcNo). p.0 < w.processors) (sym is) (among i (omega (arith, below, less))))

  read : (m : ℕ) → m ≤ n → RunIsRead w (first_turns w order m) (board_at w order m) (first_events w order m)
  read m less = runs_are_read w (first_turns w order m) valid (are-among m less) (omega (arith, many m, less, few))

  ends-at : (budget m : ℕ) (o : Option End) → m ≤ n → end_of budget (board_at w order m) ≡ o → EndsAt w order budget m o
  ends-at budget m o less is =
      subst (EndsAt w order budget m) is
      (subst (λ k. EndsWith budget (after_all w (opening w) (first_events w order m)) k (end_of budget (board_at w order m))) (many m)
      ((read m less).ends budget))

  module _ (budget : ℕ) (b : Board) (is : b ≡ board_at w order n) (within : n ≤ budget)
      (not_ended : (k : ℕ) → k < n → end_of budget (board_at w order k) ≡ None) where
    whole : RunIsRead w (first_turns w order n) (board_at w order n) (first_events w order n)
    whole = read n (omega arith)

    pub so-far : IsVpRun w order budget b.items n
    so-far = record {
      history = ap (λ (c : Board). c.items) is ∙ whole.items;
      legal = subst (λ (c : Board). IsLegalVp w c.items) (sym is) whole.legal;
      within = within;
      not_ended = λ k below. ends-at budget k None (omega (arith, below)) (not_ended k below);
    }

    pub ended : (e : End) → end_of budget b ≡ Some e → RunsTo w order budget b.items e n b.lost
    ended e ends = record {
      run = so-far;
      ends = ends-at budget n (Some e) (omega arith) (ap (end_of budget) (sym is) ∙ ends);
      spaces = ap (λ (c : Board). length c.lost) is ∙ ap (λ (c : Board). length c.lost) whole.read.is ∙ whole.read.fits.many_lost;
      losses = λ s below. ap (λ (c : Board). get_or c.lost s 0) is ∙ whole.lost s below;
    }

    -- the run as it is handed out
    pub ended-as : (e : End) (items : List Item) (events : ℕ) (lost : List ℕ) → end_of budget b ≡ Some e → items ≡ b.items → events ≡ n → lost ≡ b.lost
        → RunsTo w order budget items e events lost
    ended-as e items events lost ends shows count losses =
        subst (λ xs. RunsTo w order budget xs e events lost) (sym shows)
        (subst (λ k. RunsTo w order budget b.items e k lost) (sym count) (subst (λ ns. RunsTo w order budget b.items e n ns) (sym losses) (ended e ends)))

    pub so-far-as : (items : List Item) → end_of budget b ≡ None → items ≡ b.items → RunsSoFar w order budget items
    so-far-as items goes shows = record {
      events = n;
      run = subst (λ xs. IsVpRun w order budget xs n) (sym shows) so-far;
      unended = ends-at budget n None (omega arith) (ap (end_of budget) (sym is) ∙ goes);
    }
