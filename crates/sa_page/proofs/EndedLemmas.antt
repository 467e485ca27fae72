-- A history leads to one end.
use Rattle.std.proofs.Common.{◌≡◌, ℕ, sym, ◌∙◌, ap, subst, List, [], ◌∷◌, ◌++◌, Option, Some, None, inl, inr, refl}
use Rattle.sa_base.specs.declared.record.End.{End}
use Rattle.sa_laws.specs.Event.{Event}
use Rattle.sa_laws.specs.Step.{IsStepwise}
use Rattle.sa_check_moment.specs.Seen.{Seen}
use Rattle.sa_check.specs.Judged.{after}
use Rattle.sa_page.specs.Advance.{IsAdvanced}
use Rattle.sa_page.specs.Said.{end_said}
use Rattle.sa_page.specs.Ended.{EndsAt, SaysEnd, last_said}

-- so far these events led to this moment, and what the rest leads to the whole leads to
abbrev pub Leads : Seen → List Event → Seen → List Event → Type 0
Leads start events now rest = (end : Option Seen) → EndsAt now rest end → EndsAt start events end

pub leads-on : (start now next : Seen) (events all es : List Event) (e : Event) → all ≡ e ∷ es → IsAdvanced now e next → Leads start events now all
    → Leads start events next es
leads-on start now next events all es e at goes so end ends =
    so end (subst (λ xs. EndsAt now xs end) (sym at) (inl (goes.steps, subst (λ (s : Seen). EndsAt s es end) goes.moment ends)))

-- nothing is left, or an event is not stepwise
pub leads-to : (start now : Seen) (events all : List Event) → all ≡ [] → Leads start events now all → EndsAt start events (Some now)
leads-to start now events all none so = so (Some now) (subst (λ xs. EndsAt now xs (Some now)) (sym none) refl)

pub leads-nowhere : (start now : Seen) (events all es : List Event) (e : Event) → all ≡ e ∷ es → (IsStepwise now.workload now.readings e → ⊥)
    → Leads start events now all → EndsAt start events None
leads-nowhere start now events all es e at apart so = so None (subst (λ xs. EndsAt now xs None) (sym at) (inr (apart, refl)))

-- only one end, and only one text of it
end-one : (m : Seen) (events : List Event) (a b : Option Seen) → EndsAt m events a → EndsAt m events b → a ≡ b
end-one m [] a b p q = p ∙ sym q
end-one m (e ∷ es) a b (inl p) (inl q) = end-one (after m e) es a b p.1 q.1
end-one m (e ∷ es) a b (inl p) (inr q) = absurd (q.0 p.0)
end-one m (e ∷ es) a b (inr p) (inl q) = absurd (p.0 q.0)
end-one m (e ∷ es) a b (inr p) (inr q) = p.1 ∙ sym q.1

pub says-one : (m : Seen) (end : End) (number : ℕ) (events : List Event) (a b : List ℕ) → SaysEnd m end number events a → SaysEnd m end number events b
    → a ≡ b
says-one m end number events a b p q =
    p.is ∙ ap (λ (last : Option Seen). end_said end number ++ last_said end last) (end-one m events p.last q.last p.ends q.ends) ∙ sym q.is
