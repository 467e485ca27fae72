-- A verdict that is true of a trace is the only one.
use Rattle.std.proofs.Common.{List, ◌≡◌, ◌↔◌, ℕ, refl, ◌∙◌, ap, subst}
use Rattle.sa_spaces.specs.Workload.{WorkloadView}
use Rattle.sa_base.specs.declared.record.Item.{Item}
use Rattle.sa_laws.specs.Ends.{LastLine}
use Rattle.sa_laws.specs.declared.rule.Rule.{Rule}
use Rattle.sa_laws.specs.Rules.{UserRules}
use Rattle.sa_laws.specs.Legal.{IsRight, FirstBreak}
use Rattle.sa_histories.proofs.FirstBreaks.{breaks-once, right-or-broken}
use Rattle.sa_check.specs.declared.verdict.Verdict.{Verdict}
use Rattle.sa_check.specs.declared.verdict.Verdict.TheVariants.{Legal, Broken}
use Rattle.sa_check.specs.Verdict.{IsVerdict}

pub one-verdict : (u : UserRules) (w : WorkloadView) (items : List Item) (line : LastLine) (a b : Verdict) → IsVerdict u w items line a → IsVerdict u w items line b → a ≡ b
one-verdict u w items line Legal Legal x y = refl
one-verdict u w items line Legal (Broken n rule) x y = absurd (right-or-broken u w items line n rule x y)
one-verdict u w items line (Broken m a) Legal x y = absurd (right-or-broken u w items line m a y x)
one-verdict u w items line (Broken m a) (Broken n b) x y =
    let both = breaks-once u w items line m n a b x y in
    ap (λ k. Broken k a) both.0 ∙ ap (λ one. Broken n one) both.1

pub legal-exact : (u : UserRules) (w : WorkloadView) (items : List Item) (line : LastLine) (v : Verdict) → IsVerdict u w items line v
    → (v ≡ Legal) ↔ IsRight u w items line
legal-exact u w items line v is =
    (λ same. subst (IsVerdict u w items line) same is, λ right. one-verdict u w items line v Legal is right)

pub broken-exact : (u : UserRules) (w : WorkloadView) (items : List Item) (line : LastLine) (v : Verdict) → IsVerdict u w items line v
    → (n : ℕ) (rule : Rule) → (v ≡ Broken n rule) ↔ FirstBreak u w items line n rule
broken-exact u w items line v is n rule =
    (λ same. subst (IsVerdict u w items line) same is, λ broken. one-verdict u w items line v (Broken n rule) is broken)
