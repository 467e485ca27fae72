-- What always holds of a run is kept by each turn.
use Rattle.std.proofs.Common.{◌≡◌, ◌≢◌, ℕ, ◌+◌, ◌-◌, ◌^◌, ◌<◌, ◌≤◌, Bool, true, false, cond, Some, None, refl, sym, ap, subst, ◌∙◌, arith}
use Rattle.std.specs.Prelude.{◌==◌}
use Rattle.std.specs.Option.{option_map}
use Rattle.std.proofs.lemmas.Bool.{eq-eqb}
use Rattle.sa_base.specs.declared.number.ProcNo.{ProcNo}
use Rattle.sa_base.specs.declared.limits.TheConstants.{MAX_EVENTS}
use Rattle.sa_base.specs.declared.record.End.TheVariants.{AllDone, Stuck, Budget}
use Rattle.sa_spaces.specs.Workload.{WorkloadView, IsWorkload}
use Rattle.sa_devices.specs.Ios.{due_of, io_no}
use Rattle.sa_vp_model.specs.Board.{Board, opened}
use Rattle.sa_vp_model.specs.Turn.{turned, after_evictions, acts}
use Rattle.sa_vp_model.specs.Needs.{CanAct, CanLose}
use Rattle.sa_vp_model.specs.End.{end_of, is_done, is_stuck}
use Rattle.sa_vp_model.specs.Run.{IsRead, TurnIsRead}
use Rattle.sa_vp_model.proofs.Turns.{turns_are_read, can_lose}
use Rattle.sa_vp_model.proofs.Dispatch.{can_act}
use Rattle.sa_vp_model.proofs.Opened.{opened_is_read}
use Rattle.sa_vp.specs.declared.board.Parts.{Parts}
use Rattle.sa_vp.specs.View.{VpView, board_of}
use Rattle.sa_vp.specs.Room.{HasRoom, Spends, IsKept}
use Rattle.sa_vp.specs.Waits.{BlocksByIos, CountsWork}
use Rattle.sa_vp.proofs.Waits.{read_waits, read_work}

-- a run that goes on has not made its last event
pub goes-on : (budget : ℕ) (b : Board) → end_of budget b ≡ None → b.number ≤ budget + 1 → b.number ≤ budget
goes-on budget b none within = go (is_done b) (is_stuck b) (b.number == budget + 1) refl none where
  go : (c d e : Bool) → (b.number == budget + 1) ≡ e → cond c (Some AllDone) (cond d (Some Stuck) (cond e (Some Budget) None)) ≡ None → b.number ≤ budget
  go true d e is open' = cc
  go false true e is open' = cc
  go false false true is open' = cc
  go false false false is open' =
      let other : b.number ≢ budget + 1 = λ same. let yes : (b.number == budget + 1) ≡ true = eq-eqb b.number (budget + 1) same in
      let both : true ≡ false = sym yes ∙ is in cc in
      omega (arith, within, other)

-- what is read off one board is read off the same board under its own workload
own-workload : (w : WorkloadView) (b : Board) → IsRead w b → IsRead b.workload b
own-workload w b read = subst (λ v. IsRead v b) (sym (ap (λ (c : Board). c.workload) read.is)) read

-- what a caller sees is what is inside
pub record IsInside (m : Parts) (budget : ℕ) (old : VpView) : Type 0 where
  pub board : board_of m ≡ old.board
  pub same_budget : budget ≡ old.budget

pub inside-view : (m : Parts) (budget spare : ℕ) (made old : VpView)
    → (let view : VpView = record { board = board_of m; budget = budget; spare = spare } in view ≡ made)
    → made ≡ record old { spare = made.spare } → IsInside m budget old
inside-view m budget spare made old view rest = record {
  board = ap (λ (v : VpView). v.board) view ∙ ap (λ (v : VpView). v.board) rest;
  same_budget = ap (λ (v : VpView). v.budget) view ∙ ap (λ (v : VpView). v.budget) rest;
}

module _ (m : Parts) (budget spare : ℕ) (kept : IsKept m budget spare) (p : ProcNo) (old : VpView) (is : IsInside m budget old)
    (within : p.0 < old.board.workload.processors) (none : end_of old.budget old.board ≡ None) where
  pub inside : p.0 < m.replay.workload.processors
  inside = subst (λ (b : Board). p.0 < b.workload.processors) (sym is.board) within

  pub last : m.number ≤ budget
  last =
      goes-on budget (board_of m) (subst (λ k. end_of k (board_of m) ≡ None) (sym is.same_budget)
      (subst (λ (b : Board). end_of old.budget b ≡ None) (sym is.board) none)) kept.within

  pub event : m.number ≤ MAX_EVENTS
  event = omega (arith, last, kept.few)

  pub can : CanAct p (after_evictions (board_of m))
  can = can_act m.replay.workload p (board_of m) kept.read inside event

  pub lose : CanLose (acts p (option_map io_no (due_of m.number m.devices.ios.under_way)) (after_evictions (board_of m)))
  lose = can_lose m.replay.workload p (board_of m) kept.read inside event

  turn_read : TurnIsRead m.replay.workload p (board_of m) (turned p (board_of m)) kept.read
  turn_read = turns_are_read m.replay.workload p (board_of m) kept.read inside event

  pub few : (acts p (option_map io_no (due_of m.number m.devices.ios.under_way)) (after_evictions (board_of m))).number < 2 ^ 63
  few = let number : (turned p (board_of m)).number ≡ m.number + 1 = turn_read.number in omega (arith, number, event)

  pub waits : BlocksByIos (acts p (option_map io_no (due_of m.number m.devices.ios.under_way)) (after_evictions (board_of m)))
  waits = read_waits m.replay.workload (turned p (board_of m)) turn_read.read

  pub work : CountsWork (board_of m)
  work = read_work m.replay.workload (board_of m) kept.read

  module _ (new : Parts) (made : board_of new ≡ turned p (board_of m)) (spends : Spends m new) where
    read : IsRead m.replay.workload (board_of new)
    read = subst (IsRead m.replay.workload) (sym made) turn_read.read

    number : new.number ≡ m.number + 1
    number = ap (λ (b : Board). b.number) made ∙ turn_read.number

    pub kept-turn : 1 ≤ spare → IsKept new budget (spare - 1)
    kept-turn some = record {
      read = own-workload m.replay.workload (board_of new) read;
      within = omega (arith, number, last);
      few = kept.few;
      room = record {
        items = omega (arith, spends.items, kept.room.items, some);
        ios = omega (arith, spends.ios, kept.room.ios, some);
      };
    }

    pub number-turn : new.number ≡ old.board.number + 1
    number-turn = number ∙ ap (λ (b : Board). b.number + 1) is.board

    pub workload-turn : new.replay.workload ≡ old.board.workload
    workload-turn = ap (λ (b : Board). b.workload) read.is ∙ ap (λ (b : Board). b.workload) is.board

-- more room changes nothing else
pub kept-room : (m new : Parts) (budget spare n : ℕ) → IsKept m budget spare → board_of new ≡ board_of m → HasRoom new n → IsKept new budget n
kept-room m new budget spare n kept same room = record {
  read = own-workload m.replay.workload (board_of new) (subst (IsRead m.replay.workload) (sym same) kept.read);
  within = let number = ap (λ (b : Board). b.number) same in omega (arith, number, kept.within);
  few = kept.few;
  room = room;
}

pub kept-start : (w : WorkloadView) (m : Parts) (budget : ℕ) → IsWorkload w → board_of m ≡ opened w → budget ≤ MAX_EVENTS → 1 ≤ budget → IsKept m budget 0
kept-start w m budget valid is few some = record {
  read = own-workload w (board_of m) (subst (IsRead w) (sym is) (opened_is_read w valid));
  within = let number = ap (λ (b : Board). b.number) is in omega (arith, number, some);
  few = few;
  room = record { items = omega arith; ios = omega arith };
}
