-- There is one first break, and none where every rule holds.
use Rattle.std.proofs.Common.{◌≡◌, ℕ, zero, suc, ◌<◌, inl, inr, refl, sym, ◌∙◌, ap, subst, arith, Some, List, [], ◌∷◌, length, take}
use Rattle.std.specs.Prelude.{◌≢◌, slice_get, Option}
use Rattle.std.proofs.lemmas.Bool.{cases_order}
use Rattle.std.proofs.lemmas.Option.{none-some, same_Some, slice_get_within}
use Rattle.sa_spaces.specs.Workload.{WorkloadView}
use Rattle.sa_base.specs.declared.record.Item.{Item}
use Rattle.sa_laws.specs.declared.rule.Rule.{Rule}
use Rattle.sa_laws.specs.declared.rule.Rule.TheVariants.{Numbered}
use Rattle.sa_laws.specs.Event.{Event, events_of}
use Rattle.sa_laws.specs.Readings.{Readings}
use Rattle.sa_laws.specs.Ends.{LastLine}
use Rattle.sa_laws.specs.Rules.{UserRules, Holds, HoldEach, Breaks, rules, rules_before, rule_place}
use Rattle.sa_laws.specs.Legal.{before, BreaksAt, FirstBreak, FirstBreakIn, IsRight, HoldsBefore, line_at}

at-place : (rule : Rule) → slice_get rules (rule_place rule) ≡ Some rule
at-place Numbered = refl
at-place _ = refl

-- one of rules that all hold
holds-one : (u : UserRules) (w : WorkloadView) (list : List Rule) (r : Readings) (e : Event) (last : Option LastLine) (k : ℕ) (rule : Rule)
    → HoldEach u w list r e last → slice_get list k ≡ Some rule → Holds u w rule r e last
holds-one u w [] r e last k rule all at = absurd (none-some rule at)
holds-one u w (x ∷ xs) r e last zero rule all at = subst (λ y. Holds u w y r e last) (same_Some x rule at) all.0
holds-one u w (x ∷ xs) r e last (suc k) rule all at = holds-one u w xs r e last k rule all.1 at

get-front : (list : List Rule) (n k : ℕ) → k < n → slice_get (take n list) k ≡ slice_get list k
get-front [] zero k below = refl
get-front [] (suc n) k below = refl
get-front (x ∷ xs) zero k below = absurd (omega arith)
get-front (x ∷ xs) (suc n) zero below = refl
get-front (x ∷ xs) (suc n) (suc k) below = get-front xs n k (omega arith)

pub holds-each : (u : UserRules) (w : WorkloadView) (r : Readings) (e : Event) (last : Option LastLine) (rule : Rule) → HoldEach u w rules r e last
    → Holds u w rule r e last
holds-each u w r e last rule all = holds-one u w rules r e last (rule_place rule) rule all (at-place rule)

holds-earlier : (u : UserRules) (w : WorkloadView) (r : Readings) (e : Event) (last : Option LastLine) (a b : Rule) → rule_place a < rule_place b
    → HoldEach u w (rules_before b) r e last → Holds u w a r e last
holds-earlier u w r e last a b less all =
    holds-one u w (take (rule_place b) rules) r e last (rule_place a) a all
    (get-front rules (rule_place b) (rule_place a) less ∙ at-place a)

same-place : (a b : Rule) → rule_place a ≡ rule_place b → a ≡ b
same-place a b same = same_Some a b (sym (at-place a) ∙ ap (slice_get rules) same ∙ at-place b)

-- at one event one rule is the first that fails
one-rule : (u : UserRules) (w : WorkloadView) (r : Readings) (e : Event) (last : Option LastLine) (a b : Rule) → Breaks u w r e last a
    → Breaks u w r e last b → a ≡ b
one-rule u w r e last a b of_a of_b = elim (cases_order (rule_place a) (rule_place b)) [
  | inl same ↦ same-place a b same
  | inr (inl less) ↦ absurd (of_a.broken (holds-earlier u w r e last a b less of_b.earlier))
  | inr (inr more) ↦ absurd (of_b.broken (holds-earlier u w r e last b a more of_a.earlier))
]

-- and no break comes before another
not-before : (u : UserRules) (w : WorkloadView) (events : List Event) (line : LastLine) (m n : ℕ) (a b : Rule)
    → (x : BreaksAt u w events line m a) → (y : BreaksAt u w events line n b) → x.place < y.place → ⊥
not-before u w events line m n a b x y below =
    x.breaks.broken (holds-each u w (before u w events x.place) x.event (line_at events line x.place) a (y.earlier x.place x.event below x.at))

one-place : (u : UserRules) (w : WorkloadView) (events : List Event) (line : LastLine) (m n : ℕ) (a b : Rule) (k : ℕ) (e f : Event)
    → slice_get events k ≡ Some e → slice_get events k ≡ Some f → e.number ≡ m → f.number ≡ n
    → Breaks u w (before u w events k) e (line_at events line k) a → Breaks u w (before u w events k) f (line_at events line k) b → (m ≡ n) × (a ≡ b)
one-place u w events line m n a b k e f at_e at_f is_m is_n of_a of_b =
    let same : e ≡ f = same_Some e f (sym at_e ∙ at_f) in (
      sym is_m ∙ ap (λ (x : Event). x.number) same ∙ is_n,
      one-rule u w (before u w events k) f (line_at events line k) a b
          (subst (λ (x : Event). Breaks u w (before u w events k) x (line_at events line k) a) same of_a) of_b,
    )

one-break : (u : UserRules) (w : WorkloadView) (events : List Event) (line : LastLine) (m n : ℕ) (a b : Rule)
    → BreaksAt u w events line m a → BreaksAt u w events line n b → (m ≡ n) × (a ≡ b)
one-break u w events line m n a b x y = elim (cases_order x.place y.place) [
  | inl same ↦ one-place u w events line m n a b y.place x.event y.event
      (subst (λ k. slice_get events k ≡ Some x.event) same x.at) y.at x.numbered y.numbered
      (subst (λ k. Breaks u w (before u w events k) x.event (line_at events line k) a) same x.breaks) y.breaks
  | inr (inl less) ↦ absurd (not-before u w events line m n a b x y less)
  | inr (inr more) ↦ absurd (not-before u w events line n m b a y x more)
]

pub breaks-once : (u : UserRules) (w : WorkloadView) (items : List Item) (line : LastLine) (m n : ℕ) (a b : Rule)
    → FirstBreak u w items line m a → FirstBreak u w items line n b → (m ≡ n) × (a ≡ b)
breaks-once u w items line m n a b x y = by (events_of items) x y where
  by : (events : List Event) → FirstBreakIn u w events line m a → FirstBreakIn u w events line n b → (m ≡ n) × (a ≡ b)
  by [] p q = (p.0 ∙ sym q.0, p.1 ∙ sym q.1)
  by (e ∷ es) p q = one-break u w (e ∷ es) line m n a b p q

pub right-or-broken : (u : UserRules) (w : WorkloadView) (items : List Item) (line : LastLine) (n : ℕ) (rule : Rule)
    → IsRight u w items line → FirstBreak u w items line n rule → ⊥
right-or-broken u w items line n rule right broken = by (events_of items) right.some right.each broken where
  by : (events : List Event) → events ≢ [] → HoldsBefore u w events line (length events) → FirstBreakIn u w events line n rule → ⊥
  by [] some each broken = some refl
  by (e ∷ es) some each broken =
      broken.breaks.broken (holds-each u w (before u w (e ∷ es) broken.place) broken.event (line_at (e ∷ es) line broken.place) rule
      (each broken.place broken.event (slice_get_within (e ∷ es) broken.place broken.event broken.at) broken.at))
