-- Turns in a row keep the invariant, and the laws of outlooks hold along them.
use Rattle.std.proofs.Common.{◌≡◌, ℕ, zero, suc, ◌+◌, Option, Some, List, [], ◌∷◌, length, slice_get, refl, sym, ap, subst, ◌∙◌, arith}
use Rattle.std.proofs.lemmas.Option.{same_Some}
use Rattle.sa_base.specs.declared.number.ProcNo.{ProcNo}
use Rattle.sa_spaces.specs.Space.{SpaceView}
use Rattle.sa_spaces.specs.Workload.{WorkloadView}
use Rattle.sa_abstract.specs.Calls.{Calls}
use Rattle.sa_abstract.specs.Keeps.{Standing, Keeps}
use Rattle.sa_assign.specs.Reaim.{proc_no}
use Rattle.sa_base.specs.Items.{items_at}
use Rattle.sa_kernel_model.specs.Opening.{opening_state, first_wants}
use Rattle.sa_core_model.specs.Machine.{Machine}
use Rattle.sa_kernel_model.specs.State.{line_of}
use Rattle.sa_core_model.specs.Turn.{next_event, turned}
use Rattle.sa_core_model.specs.Run.{setting, started_from, opening, CanTurn, IsTurn}
use Rattle.sa_core_model.specs.Run.Move.{turn}
use Rattle.sa_core_model.proofs.Runs.{stands-opening, stands-move}
use Rattle.sa_outlook.specs.UserLevels.{IgnoresNumbers}
use Rattle.sa_outlook.specs.Outlook.{outlook}
use Rattle.sa_outlook.specs.declared.put.Put.{Put}
use Rattle.sa_outlook.specs.Outs.{with_puts, outs_of}
use Rattle.sa_outlook.specs.Laws.{AreTurns, IsOfRun, SameEnds, EndsIgnoreNumbers, TurnsKeepOutlooks, TurnsPutOutAlike, EndsFollowOutlooks}
use Rattle.sa_outlook.proofs.Invariant.{fixed_of, IsRegular, Invariant}
use Rattle.sa_outlook.proofs.Alike.{AlikeMachines}
use Rattle.sa_outlook.proofs.machine.Ends.{done-alike, stuck-alike}
use Rattle.sa_outlook.proofs.machine.OneTurn.{turned-both}
use Rattle.sa_outlook.proofs.machine.EventBegins.{next-both}
use Rattle.sa_outlook.proofs.machine.Puts.{said, outs-turned, raised-alike}
use Rattle.sa_outlook.proofs.outlooks.AlikeOutlooks.{alike-of, outlook-of}
use Rattle.sa_outlook.proofs.machine.Regular.{closes, regular-turned}

module _ {U C D : Type 0} (f : Calls U C) (plain : Option SpaceView → C → D) (IsMade : Option SpaceView → U → Type 0) (laws : IgnoresNumbers f plain IsMade)
    (stands : Standing U C) (keep : Keeps f stands) where
  pub of-turn : (m after : Machine U C) (p : ProcNo) → Invariant stands IsMade m → CanTurn f m p → IsTurn f m p after → Invariant stands IsMade after
  of-turn m after p of can is = record {
    between = stands-move f stands keep m (turn p) after of.between (can, is);
    regular = subst (IsRegular IsMade) (sym is.is)
        (regular-turned f plain IsMade laws stands keep m p is.fresh of.between of.regular can.within can.event is.unused);
  }

  alike-turns : (m n after later : Machine U C) (ps : List ProcNo) → Invariant stands IsMade m → Invariant stands IsMade n → AlikeMachines plain m n
      → AreTurns f ps m after → AreTurns f ps n later → AlikeMachines plain after later
  alike-turns m n after later [] om on was tm tn =
      subst (λ (z : Machine U C). AlikeMachines plain z later) (sym tm) (subst (λ (z : Machine U C). AlikeMachines plain m z) (sym tn) was)
  alike-turns m n after later (p ∷ ps) om on was tm tn =
      let a = tm.2 in
      let b = tn.2 in
      let one : AlikeMachines plain (turned f p a.fresh m) (turned f p b.fresh n) =
      (turned-both f plain IsMade laws stands keep m n p a.fresh b.fresh om.between on.between om.regular on.regular tm.1.within tm.1.event tn.1.event
      a.unused b.unused was).alike in
      let here : AlikeMachines plain tm.0 tn.0 =
      subst (λ (z : Machine U C). AlikeMachines plain z tn.0) (sym a.is)
      (subst (λ (z : Machine U C). AlikeMachines plain (turned f p a.fresh m) z) (sym b.is) one) in
      alike-turns tm.0 tn.0 after later ps (of-turn m tm.0 p om tm.1 a) (of-turn n tn.0 p on tn.1 b) here tm.3 tn.3

  pub turns-same : (m n after later : Machine U C) (ps : List ProcNo) → Invariant stands IsMade m → Invariant stands IsMade n
      → outlook plain m ≡ outlook plain n → AreTurns f ps m after → AreTurns f ps n later → outlook plain after ≡ outlook plain later
  turns-same m n after later ps om on same tm tn =
      outlook-of plain after later (alike-turns m n after later ps om on (alike-of plain stands IsMade m n om on same) tm tn)

  pub ends-same : (m n : Machine U C) → Invariant stands IsMade m → Invariant stands IsMade n → outlook plain m ≡ outlook plain n → SameEnds f m n
  ends-same m n om on same =
      let was = alike-of plain stands IsMade m n om on same in
      record { done = done-alike f plain IsMade laws m n was; stuck = stuck-alike f plain IsMade laws m n om.regular.made was }

  made-opening : (w : WorkloadView) (s : ℕ) (u : U) → slice_get (started_from f w 0 w.spaces) s ≡ Some u → IsMade (slice_get w.spaces s) u
  made-opening w s u at = from w.spaces 0 s at
    where
      from : (defs : List SpaceView) (o i : ℕ) → slice_get (started_from f w o defs) i ≡ Some u → IsMade (slice_get defs i) u
      from [] o i h = absurd cc
      from (def ∷ defs) o zero h = subst (IsMade (Some def)) (same_Some _ _ h) (laws.started (setting w o def))
      from (def ∷ defs) o (suc i) h = from defs (o + 1) i h

  regular-opening : (w : WorkloadView) → IsRegular IsMade (opening f w)
  regular-opening w =
      let kept = closes (fixed_of w) 0 (proc_no 0)
      (record { state = opening_state {C = C} w; items = items_at 0 (proc_no 0) (first_wants 0 (length w.spaces)) }) (refl, omega arith) in record {
        numbered = kept.1;
        fixed = kept.0;
        made = made-opening w;
      }

  of-turns : (m after : Machine U C) (ps : List ProcNo) → Invariant stands IsMade m → AreTurns f ps m after → Invariant stands IsMade after
  of-turns m after [] of turns = subst (Invariant stands IsMade) (sym turns) of
  of-turns m after (p ∷ ps) of turns = of-turns turns.0 after ps (of-turn m turns.0 p of turns.1 turns.2) turns.3

  pub of-run : (m : Machine U C) → IsOfRun f m → Invariant stands IsMade m
  of-run m run =
      of-turns (opening f run.of) m run.turns (record { between = stands-opening f stands keep run.of run.ok; regular = regular-opening run.of }) run.are

  -- WHAT IS PUT OUT

  -- one turn of machines that are alike says the same
  said-alike : (m n : Machine U C) (p : ProcNo) → Invariant stands IsMade m → Invariant stands IsMade n → AlikeMachines plain m n
      → said f p m ≡ said f p n
  said-alike m n p om on was =
      raised-alike f plain IsMade laws p (next_event m) (next_event n) (line_of m.kernel p) (line_of n.kernel p) om.regular.numbered on.regular.numbered
      (was.kernel.raised p.0)
      (next-both f plain IsMade laws m n om.regular.fixed om.between.standing.sound.formed.sizes.some_space
      (record { alike = was; made = om.regular.made }))

  outs-turn : (m after : Machine U C) (p : ProcNo) → IsTurn f m p after → outs_of after.items ≡ with_puts (outs_of m.items) (said f p m)
  outs-turn m after p is = ap (λ (z : Machine U C). outs_of z.items) is.is ∙ outs-turned f p is.fresh m

  outs-alike : (m n after later : Machine U C) (ps : List ProcNo) → Invariant stands IsMade m → Invariant stands IsMade n → AlikeMachines plain m n
      → outs_of m.items ≡ outs_of n.items → AreTurns f ps m after → AreTurns f ps n later → outs_of after.items ≡ outs_of later.items
  outs-alike m n after later [] om on was same tm tn =
      ap (λ (z : Machine U C). outs_of z.items) tm ∙ same ∙ sym (ap (λ (z : Machine U C). outs_of z.items) tn)
  outs-alike m n after later (p ∷ ps) om on was same tm tn =
      let here = alike-turns m n tm.0 tn.0 (p ∷ []) om on was (tm.0, tm.1, tm.2, refl) (tn.0, tn.1, tn.2, refl) in
      let one = outs-turn m tm.0 p tm.2
      ∙ ap (λ (os : List Put). with_puts os (said f p m)) same
      ∙ ap (with_puts (outs_of n.items)) (said-alike m n p om on was)
      ∙ sym (outs-turn n tn.0 p tn.2) in
      outs-alike tm.0 tn.0 after later ps (of-turn m tm.0 p om tm.1 tm.2) (of-turn n tn.0 p on tn.1 tn.2) here one tm.3 tn.3

  pub outs-same : (m n after later : Machine U C) (ps : List ProcNo) → Invariant stands IsMade m → Invariant stands IsMade n
      → outlook plain m ≡ outlook plain n → outs_of m.items ≡ outs_of n.items → AreTurns f ps m after → AreTurns f ps n later
      → outs_of after.items ≡ outs_of later.items
  outs-same m n after later ps om on same outs tm tn =
      outs-alike m n after later ps om on (alike-of plain stands IsMade m n om on same) outs tm tn

  -- THE LAWS

  pub turns-put-out-alike : TurnsPutOutAlike f plain
  turns-put-out-alike m n after later ps rm rn same outs tm tn = outs-same m n after later ps (of-run m rm) (of-run n rn) same outs tm tn

  pub turns-keep-outlooks : TurnsKeepOutlooks f plain
  turns-keep-outlooks m n after later ps rm rn same tm tn = turns-same m n after later ps (of-run m rm) (of-run n rn) same tm tn

  pub ends-follow-outlooks : EndsFollowOutlooks f plain
  ends-follow-outlooks m n rm rn same = ends-same m n (of-run m rm) (of-run n rn) same

  pub ends-ignore-numbers : EndsIgnoreNumbers f
  ends-ignore-numbers w ps m n ok tm tn =
      let start : IsOfRun f (opening f w) = record { of = w; ok = ok; turns = []; are = refl } in
      let same = turns-keep-outlooks (opening f w) (opening f w) m n ps start start refl tm tn in
      ends-follow-outlooks m n (record { of = w; ok = ok; turns = ps; are = tm }) (record { of = w; ok = ok; turns = ps; are = tn }) same
