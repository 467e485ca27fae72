-- The first rule that was not found to hold is the first that does not hold.
use Rattle.std.proofs.Common.{◌≡◌, ◌↔◌, refl, sym, ◌∙◌, List, [], ◌∷◌, ◌++◌, drop, Bool, true, false, Option, Some, None}
use Rattle.std.specs.Prelude.{not, find, IsTrue, MatchOption, if◌then◌else◌, ◌&&◌}
use Rattle.std.specs.List.{list_all}
use Rattle.sa_spaces.specs.Workload.{WorkloadView}
use Rattle.sa_laws.specs.declared.rule.Rule.{Rule}
use Rattle.sa_laws.specs.declared.rule.Rule.TheVariants.{Numbered, Stepwise, ToldOnce, ToldInTime, WhereOwned, AllTold, UpcallGiven, InterruptNext, LineCause, WantCause, SharesCovered, DemandAnnounced, TurnsTaken, LocksKept, OrderKept, EndTold}
use Rattle.sa_laws.specs.Event.{Event}
use Rattle.sa_laws.specs.Readings.{Readings}
use Rattle.sa_laws.specs.Ends.{LastLine}
use Rattle.sa_laws.specs.Rules.{UserRules, Holds, HoldEach, Breaks, rules, rules_before}

module _ (u : UserRules) (w : WorkloadView) (r : Readings) (e : Event) (last : Option LastLine) (found : Rule → Bool)
    (each : (rule : Rule) → IsTrue (found rule) ↔ Holds u w rule r e last) where
  abbrev pub Outcome : Option Rule → Type 0
  Outcome o = MatchOption o (HoldEach u w rules r e last) (Breaks u w r e last)

  hold-more : (list : List Rule) (rule : Rule) → HoldEach u w list r e last → Holds u w rule r e last
      → HoldEach u w (list ++ rule ∷ []) r e last
  hold-more [] rule all one = (one, tt)
  hold-more (x ∷ xs) rule all one = (all.0, hold-more xs rule all.1 one)

  -- one rule more
  step : (rule : Rule) (rest : List Rule) → (HoldEach u w (rules_before rule ++ rule ∷ []) r e last → Outcome (find (λ x. not (found x)) rest))
      → HoldEach u w (rules_before rule) r e last → Outcome (find (λ x. not (found x)) (rule ∷ rest))
  step rule rest more held = by (found rule) refl where
    by : (b : Bool) → found rule ≡ b → Outcome (if not b then Some rule else find (λ x. not (found x)) rest)
    by true is = more (hold-more (rules_before rule) rule held ((each rule).0 is))
    by false is = record { earlier = held; broken = λ holds. let yes = (each rule).1 holds in let no = sym is ∙ yes in cc }

  pub first-is : Outcome (find (λ x. not (found x)) rules)
  first-is =
      step Numbered (drop 1 rules) (step Stepwise (drop 2 rules) (step ToldOnce (drop 3 rules) (step ToldInTime (drop 4 rules) (step WhereOwned (drop 5 rules)
      (step AllTold (drop 6 rules) (step UpcallGiven (drop 7 rules) (step InterruptNext (drop 8 rules)
      (step LineCause (drop 9 rules) (step WantCause (drop 10 rules)
      (step SharesCovered (drop 11 rules) (step DemandAnnounced (drop 12 rules) (step TurnsTaken (drop 13 rules)
      (step LocksKept (drop 14 rules) (step OrderKept (drop 15 rules) (step EndTold [] (λ all. all)))))))))))))))) tt

-- where each rule holds, none that does not is found
pub none-fails : (holds : Rule → Bool) (list : List Rule) → list_all holds list ≡ true → find (λ rule. not (holds rule)) list ≡ None
none-fails holds [] all = refl
none-fails holds (rule ∷ others) all = by (holds rule) (list_all holds others) all (none-fails holds others) where
  by : (b c : Bool) → (b && c) ≡ true → (c ≡ true → find (λ r. not (holds r)) others ≡ None)
      → (if not b then Some rule else find (λ r. not (holds r)) others) ≡ None
  by true c is rest = rest is
  by false c is rest = absurd cc
