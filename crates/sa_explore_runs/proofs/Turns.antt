-- The runs of a workload as ways: how they begin, go on, and what each machine of them keeps.
use Rattle.std.proofs.Common.{◌≡◌, ℕ, ◌+◌, Bool, true, false, ◌||◌, Option, Some, None, List, [], ◌∷◌, ◌++◌, length, refl, sym, ap, subst, ◌∙◌, arith}
use Rattle.sa_base.specs.declared.number.ProcNo.{ProcNo}
use Rattle.sa_base.specs.declared.record.End.{End}
use Rattle.sa_base.specs.declared.record.End.TheVariants.{AllDone, Stuck, Budget}
use Rattle.sa_spaces.specs.Space.{SpaceView}
use Rattle.sa_spaces.specs.Workload.{WorkloadView, IsWorkload}
use Rattle.sa_abstract.specs.Calls.{Calls}
use Rattle.sa_abstract.specs.Keeps.{Standing, Keeps}
use Rattle.sa_core_model.specs.Machine.{Machine}
use Rattle.sa_core_model.specs.End.{all_done, is_stuck}
use Rattle.sa_core_model.specs.Run.{opening, CanTurn, IsTurn}
use Rattle.sa_core_model.proofs.Turns.{rests-turned}
use Rattle.sa_outlook.specs.Outlook.{outlook}
use Rattle.sa_outlook.specs.UserLevels.{IgnoresNumbers}
use Rattle.sa_outlook.specs.Laws.{AreTurns, IsOfRun}
use Rattle.sa_outlook.specs.Search.{is_over, AreOpenTurns}
use Rattle.sa_outlook.proofs.Invariant.{Invariant}
use Rattle.sa_outlook.proofs.outlooks.Runs.{turns-same, ends-same, of-turn, of-run}
use Rattle.sa_explore_runs.specs.Runs.{end, IsOpenTurn, LeadTo}

abbrev pub end_by : Bool → Bool → Option End
end_by true b = Some AllDone
end_by false true = Some Stuck
end_by false false = None

module _ {U C : Type 0} (f : Calls U C) where
  end-by : (m : Machine U C) → end f m ≡ end_by (all_done f m) (is_stuck f m)
  end-by m = go (all_done f m) (is_stuck f m) refl refl
    where
      go : (a b : Bool) → all_done f m ≡ a → is_stuck f m ≡ b → end f m ≡ end_by a b
      go true b x y = rw x refl
      go false true x y = rw (x, y) refl
      go false false x y = rw (x, y) refl

  pub open-over : (m : Machine U C) → end f m ≡ None → is_over f m ≡ false
  open-over m none = go (all_done f m) (is_stuck f m) (sym (end-by m) ∙ none)
    where
      go : (a b : Bool) → end_by a b ≡ None → (a || b) ≡ false
      go true b h = absurd cc
      go false true h = absurd cc
      go false false h = refl

  pub over-open : (m : Machine U C) → is_over f m ≡ false → end f m ≡ None
  over-open m over = end-by m ∙ go (all_done f m) (is_stuck f m) over
    where
      go : (a b : Bool) → (a || b) ≡ false → end_by a b ≡ None
      go true b h = absurd cc
      go false true h = absurd cc
      go false false h = refl

  pub no-budget : (m : Machine U C) → end f m ≡ Some Budget → ⊥
  no-budget m is = go (all_done f m) (is_stuck f m) (sym (end-by m) ∙ is)
    where
      go : (a b : Bool) → end_by a b ≡ Some Budget → ⊥
      go true b h = cc
      go false true h = cc
      go false false h = cc

  -- TURNS IN A ROW

  pub turns-split : (ps qs : List ProcNo) (m after : Machine U C) → AreOpenTurns f (ps ++ qs) m after
      → (between : Machine U C) × AreOpenTurns f ps m between × AreOpenTurns f qs between after
  turns-split [] qs m after turns = (m, refl, turns)
  turns-split (p ∷ ps) qs m after turns =
      let rest = turns-split ps qs turns.0 after turns.4 in
      (rest.0, (turns.0, turns.1, turns.2, turns.3, rest.1), rest.2)

  pub turns-join : (ps qs : List ProcNo) (m between after : Machine U C) → AreOpenTurns f ps m between → AreOpenTurns f qs between after
      → AreOpenTurns f (ps ++ qs) m after
  turns-join [] qs m between after first second = subst (λ (z : Machine U C). AreOpenTurns f qs z after) first second
  turns-join (p ∷ ps) qs m between after first second =
      (first.0, first.1, first.2, first.3, turns-join ps qs first.0 between after first.4 second)

  pub turns-one : (m after : Machine U C) (p : ProcNo) → IsOpenTurn f m p after → AreOpenTurns f (p ∷ []) m after
  turns-one m after p turn = (after, open-over m turn.goes, turn.can, turn.is, refl)

  turns-all : (ps : List ProcNo) (m after : Machine U C) → AreOpenTurns f ps m after → AreTurns f ps m after
  turns-all [] m after turns = turns
  turns-all (p ∷ ps) m after turns = (turns.0, turns.2, turns.3, turns-all ps turns.0 after turns.4)

  pub run-of : (w : WorkloadView) (ok : IsWorkload w) (ps : List ProcNo) (m : Machine U C) → LeadTo f w ps m → IsOfRun f m
  run-of w ok ps m lead = record { of = w; ok = ok; turns = ps; are = turns-all ps (opening f w) m lead }

module _ {U C D : Type 0} (f : Calls U C) (plain : Option SpaceView → C → D) (IsMade : Option SpaceView → U → Type 0) (laws : IgnoresNumbers f plain IsMade)
    (stands : Standing U C) (keep : Keeps f stands) (w : WorkloadView) (ok : IsWorkload w) where
  -- a machine of a run of the workload, after that many events
  pub record IsOf (events : ℕ) (m : Machine U C) : Type 0 where
    pub stays : Invariant stands IsMade m
    pub workload : m.workload ≡ w
    pub event : m.event ≡ events

  pub of-opening : IsOf 0 (opening f w)
  of-opening = record {
    stays = of-run f plain IsMade laws stands keep (opening f w) (run-of f w ok [] (opening f w) refl);
    workload = refl;
    event = refl;
  }

  pub of-one : (e : ℕ) (m after : Machine U C) (p : ProcNo) → IsOf e m → CanTurn f m p → IsTurn f m p after → IsOf (e + 1) after
  of-one e m after p of can is =
      let rests = rests-turned f stands keep m p is.fresh of.stays.between (let few = can.event in omega arith) can.within is.unused in
      let event = of.event in
      record {
        stays = of-turn f plain IsMade laws stands keep m after p of.stays can is;
        workload = ap (λ (z : Machine U C). z.workload) is.is ∙ rests.workload ∙ of.workload;
        event = ap (λ (z : Machine U C). z.event) is.is ∙ rests.event ∙ ap (λ (n : ℕ). n + 1) event;
      }

  pub of-turns : (ps : List ProcNo) (e : ℕ) (m after : Machine U C) → IsOf e m → AreOpenTurns f ps m after → IsOf (e + length ps) after
  of-turns [] e m after of turns =
      subst (λ (n : ℕ). IsOf n after) (omega arith) (subst (λ (z : Machine U C). IsOf e z) (sym turns) of)
  of-turns (p ∷ ps) e m after of turns =
      subst (λ (n : ℕ). IsOf n after) (omega arith) (of-turns ps (e + 1) turns.0 after (of-one e m turns.0 p of turns.2 turns.3) turns.4)

  pub of-lead : (ps : List ProcNo) (m : Machine U C) → LeadTo f w ps m → IsOf (length ps) m
  of-lead ps m lead = subst (λ (n : ℕ). IsOf n m) (omega arith) (of-turns ps 0 (opening f w) m of-opening lead)

  pub ends-alike : (d e : ℕ) (m n : Machine U C) → IsOf d m → IsOf e n → outlook plain m ≡ outlook plain n → end f m ≡ end f n
  ends-alike d e m n of_m of_n same =
      let ends = ends-same f plain IsMade laws stands keep m n of_m.stays of_n.stays same in
      end-by f m ∙ ap (λ (b : Bool). end_by b (is_stuck f m)) ends.done ∙ ap (λ (b : Bool). end_by (all_done f n) b) ends.stuck ∙ sym (end-by f n)

  pub turns-alike : (d e : ℕ) (m n after later : Machine U C) (ps : List ProcNo) → IsOf d m → IsOf e n → outlook plain m ≡ outlook plain n
      → AreOpenTurns f ps m after → AreOpenTurns f ps n later → outlook plain after ≡ outlook plain later
  turns-alike d e m n after later ps of_m of_n same first second =
      turns-same f plain IsMade laws stands keep m n after later ps of_m.stays of_n.stays same (turns-all f ps m after first) (turns-all f ps n later second)

  -- the same turns lead to one outlook
  pub leads-alike : (ps : List ProcNo) (m n : Machine U C) → LeadTo f w ps m → LeadTo f w ps n → outlook plain m ≡ outlook plain n
  leads-alike ps m n first second =
      turns-alike 0 0 (opening f w) (opening f w) m n ps of-opening of-opening refl first second
