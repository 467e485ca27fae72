-- The machines of the runs of a workload are a system that can be searched.
use Rattle.std.proofs.Common.{◌≡◌, ℕ, ◌+◌, ◌<◌, Option, List, [], ◌∷◌, ◌++◌, length, refl, sym, ap, subst, append_assoc}
use Rattle.sa_base.specs.declared.number.ProcNo.{ProcNo}
use Rattle.sa_spaces.specs.Space.{SpaceView}
use Rattle.sa_spaces.specs.Workload.{WorkloadView, IsWorkload}
use Rattle.sa_abstract.specs.Calls.{Calls}
use Rattle.sa_abstract.specs.Keeps.{Standing, Keeps}
use Rattle.sa_core_model.specs.Machine.{Machine}
use Rattle.sa_core_model.specs.Run.{opening}
use Rattle.sa_outlook.specs.Outlook.{outlook}
use Rattle.sa_outlook.specs.UserLevels.{IgnoresNumbers}
use Rattle.sa_outlook.specs.Search.{AreOpenTurns}
use Rattle.sa_explore_model.proofs.Laws.{Lead, Laws}
use Rattle.sa_explore_runs.specs.Runs.{end, IsOpenTurn, LeadTo, IsWay}
use Rattle.sa_explore_runs.proofs.Turns.{over-open, turns-split, turns-join, turns-one, IsOf, of-one, of-lead, ends-alike, turns-alike, leads-alike}

pub nil-end : (xs : List ProcNo) → xs ++ [] ≡ xs
nil-end [] = refl
nil-end (x ∷ xs) = ap (λ (ps : List ProcNo). x ∷ ps) (nil-end xs)

module _ {U C D : Type 0} (f : Calls U C) (plain : Option SpaceView → C → D) (IsMade : Option SpaceView → U → Type 0) (laws : IgnoresNumbers f plain IsMade)
    (stands : Standing U C) (keep : Keeps f stands) (w : WorkloadView) (ok : IsWorkload w) (begun : List ProcNo) where
  -- a machine of some run
  abbrev pub OfSome : Machine U C → Type 0
  OfSome m = (e : ℕ) × IsOf f plain IsMade laws stands keep w ok e m

  -- turns in a row, as the search sees them
  lead-of : (ps : List ProcNo) (m after : Machine U C) → AreOpenTurns f ps m after
      → Lead (outlook plain) (end f) (IsWay f w begun) (IsOpenTurn f) w.processors ps m after
  lead-of [] m after turns = turns
  lead-of (p ∷ ps) m after turns =
      (turns.0, record { goes = over-open f m turns.1; can = turns.2; is = turns.3 }, lead-of ps turns.0 after turns.4)

  pub runs-are-searched : Laws (outlook plain) (end f) (IsWay f w begun) (IsOpenTurn f) w.processors OfSome
  runs-are-searched = record {
    ends = λ m n of_m of_n same. ends-alike f plain IsMade laws stands keep w ok of_m.0 of_n.0 m n of_m.1 of_n.1 same;
    turns = λ m n after later p of_m of_n same turn other.
        turns-alike f plain IsMade laws stands keep w ok of_m.0 of_n.0 m n after later (p ∷ []) of_m.1 of_n.1 same (turns-one f m after p turn)
        (turns-one f n later p other);
    of-turn = λ m after p of turn. (of.0 + 1, of-one f plain IsMade laws stands keep w ok of.0 m after p of.1 turn.can turn.is);
    of-way = λ qs m way. (length (begun ++ qs), of-lead f plain IsMade laws stands keep w ok (begun ++ qs) m way);
    goes = λ m after p turn. turn.goes;
    within = λ m after p of turn. subst (λ (v : WorkloadView). p.0 < v.processors) of.1.workload turn.can.within;
    begins = λ qs m way. (let both = turns-split f begun qs (opening f w) m way in
        (both.0, subst (λ (ps : List ProcNo). LeadTo f w ps both.0) (sym (nil-end begun)) both.1, lead-of qs both.0 m both.2));
    starts = λ m n first second. leads-alike f plain IsMade laws stands keep w ok (begun ++ []) m n first second;
    more = λ qs m after p way turn.
        subst (λ (ps : List ProcNo). LeadTo f w ps after) (append_assoc begun qs (p ∷ []))
        (turns-join f (begun ++ qs) (p ∷ []) (opening f w) m after way (turns-one f m after p turn));
  }
