-- A run on the board is the legal run of its order of processors.
use Rattle.std.proofs.Common.{◌≡◌, ℕ, ◌+◌, ◌<◌, ◌≤◌, List, [], ◌∷◌, ◌++◌, append_assoc, length, get_or, sym, ap, subst, ◌∙◌, arith}
use Rattle.std.specs.Prelude.{All}
use Rattle.std.proofs.lemmas.List.{append-nil}
use Rattle.std.proofs.lemmas.List.Elements.{All-head, All-tail}
use Rattle.sa_base.specs.declared.number.ProcNo.{ProcNo}
use Rattle.sa_base.specs.declared.limits.TheConstants.{MAX_EVENTS}
use Rattle.sa_base.specs.Items.{items_at}
use Rattle.sa_spaces.specs.Workload.{WorkloadView}
use Rattle.sa_laws.specs.Event.{items_of}
use Rattle.sa_virtual.specs.Virtual.{Virtuals, opening}
use Rattle.sa_virtual.specs.Turn as rules
use Rattle.sa_virtual.specs.Legal.{IsLegalVp, EndsWith, after_all, lost_from, run_from}
use Rattle.sa_virtual.proofs.Main.{runs_are_legal}
use Rattle.sa_vp_model.specs.Board.{Board, opened}
use Rattle.sa_vp_model.specs.Turn.{turned}
use Rattle.sa_vp_model.specs.Run.{IsRead, TurnIsRead, lost_in}
use Rattle.sa_vp_model.specs.Runs.{board_after, RunsAreRead}
use Rattle.sa_vp_model.specs.End.{end_of}
use Rattle.sa_vp_model.proofs.Turns.{turns_are_read}
use Rattle.sa_vp_model.proofs.Ends.{ends_are_read}
use Rattle.sa_vp_model.proofs.Opened.{opened_is_read, opened_virtuals, none_lost}

-- after any board that is read
record Goes (w : WorkloadView) (b : Board) (v : Virtuals) (ps : List ProcNo) : Type 0 where
  read : IsRead w (board_after b ps)
  virtuals : read.virtuals ≡ after_all w v (run_from w v ps)
  number : (board_after b ps).number ≡ b.number + length ps
  items : (board_after b ps).items ≡ b.items ++ items_of (run_from w v ps)
  lost : (s : ℕ) → s < length w.spaces → get_or (board_after b ps).lost s 0 ≡ get_or b.lost s 0 + lost_from w v (run_from w v ps) (record { 0 = s })

goes : (w : WorkloadView) (ps : List ProcNo) (b : Board) (v : Virtuals) (read : IsRead w b) → read.virtuals ≡ v → All (λ (p : ProcNo). p.0 < w.processors) ps
    → b.number + length ps ≤ MAX_EVENTS + 1 → Goes w b v ps
goes w [] b v read is inside few = record { read = read; virtuals = is; number = omega arith; items = sym (append-nil b.items); lost = λ s below. omega arith }
goes w (p ∷ ps) b v read is inside few =
    let turn : TurnIsRead w p b (turned p b) read =
    turns_are_read w p b read (All-head (λ (q : ProcNo). q.0 < w.processors) p ps inside) (omega (arith, few)) in
    let number_is : (turned p b).number ≡ b.number + 1 = turn.number in
    let next : turn.read.virtuals ≡ rules.after w v p = turn.virtuals ∙ ap (λ u. rules.after w u p) is in
    let rest : Goes w (turned p b) (rules.after w v p) ps =
    goes w ps (turned p b) (rules.after w v p) turn.read next (All-tail (λ (q : ProcNo). q.0 < w.processors) p ps inside) (omega (arith, few, number_is)) in
    record {
      read = rest.read;
      virtuals = rest.virtuals;
      number = omega (arith, rest.number, number_is);
      items =
          rest.items ∙ ap (λ is. is ++ items_of (run_from w (rules.after w v p) ps))
          (turn.items ∙ ap (λ u. b.items ++ items_at u.base.number p (rules.turned w u p).says) is)
          ∙ append_assoc b.items (items_at v.base.number p (rules.turned w v p).says) (items_of (run_from w (rules.after w v p) ps));
      lost = λ s below. let here = turn.lost s below ∙ ap (λ u. get_or b.lost s 0 + lost_in (rules.after w u p) s) is in omega (arith, rest.lost s below, here);
    }

pub runs_are_read : RunsAreRead
runs_are_read w ps valid inside few =
    let run : Goes w (opened w) (opening w) ps =
    goes w ps (opened w) (opening w) (opened_is_read w valid) (opened_virtuals w valid) inside (omega (arith, few)) in
    let number : (board_after (opened w) ps).number ≡ length ps + 1 = omega (arith, run.number) in
    record {
      read = run.read;
      number = number;
      items = run.items;
      legal = subst (IsLegalVp w) (sym run.items) (runs_are_legal w ps valid inside few);
      lost = λ s below. let none = none_lost w valid s in omega (arith, run.lost s below, none);
      ends =
          λ budget. subst (λ v. EndsWith budget v (length ps) (end_of budget (board_after (opened w) ps))) run.virtuals
          (ends_are_read w budget (length ps) (board_after (opened w) ps) run.read number);
    }
