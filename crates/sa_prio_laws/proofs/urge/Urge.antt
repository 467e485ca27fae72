-- A step of a context with the mark: its own thread gives way; another processor is interrupted; or no pair is left, and it
-- goes on as FastThreads does.
use Rattle.std.proofs.Common.{◌≡◌, ℕ, Bool, true, false, ◌==◌, if◌then◌else◌, cond, [], Option, Some, None, refl, sym, ap, ◌∙◌, subst}
use Rattle.std.specs.Int.{bit_at}
use Rattle.std.specs.Option.{option_and_then}
use Rattle.std.proofs.lemmas.Option.{none-some}
use Rattle.sa_base.specs.declared.context.Seen.{Seen}
use Rattle.sa_base.specs.declared.number.ActNo.{ActNo}
use Rattle.sa_base.specs.declared.number.ProcNo.{ProcNo}
use Rattle.sa_base.specs.declared.number.ThreadNo.{ThreadNo}
use Rattle.sa_spaces.specs.Workload.{WorkloadView}
use Rattle.sa_abstract.specs.Calls.{Contexts}
use Rattle.sa_abstract.specs.Setting.{Setting}
use Rattle.sa_package_model.specs.Context.{carried_by}
use Rattle.sa_package_model.specs.Rules.{settled}
use Rattle.sa_package_model.specs.declared.context.ContextState.{ContextState}
use Rattle.sa_package_model.specs.declared.context.ContextState.TheVariants.{Code, Work, Hint, Return, User, Look}
use Rattle.sa_laws.specs.Life.{Life}
use Rattle.sa_laws.specs.Readings.{Readings}
use Rattle.sa_user_laws.specs.Steps.{IsLegalStep}
use Rattle.sa_ranks.specs.Rules.{prio_threads}
use Rattle.sa_prio_model.specs.Prio.{Prio, on_at, first_rank, rank_below, outranked, lowest}
use Rattle.sa_prio_model.specs.Step.{prio_calls, goes, urged, urged_by}
use Rattle.sa_prio_model.specs.Urge.{is_out}
use Rattle.sa_prio_model.specs.declared.context.PrioContext.{PrioContext}
use Rattle.sa_prio_model.specs.declared.pair.Outranked.{Outranked}
use Rattle.sa_prio_laws.specs.PrioFits.{prio_fits}
use Rattle.sa_prio_laws.proofs.urge.GivesWay.{gives_way-legal}
use Rattle.sa_prio_laws.proofs.urge.Interrupts.{interrupts-legal}
use Rattle.sa_prio_laws.proofs.steps.Scenes.{IsPrioScene}

-- who is outranked runs
nobody-outranked : (v : Prio) (seen : Seen) (q : ProcNo) → on_at v q.0 ≡ None → outranked v seen q ≡ None
nobody-outranked v seen q none =
    ap (λ (o : Option ThreadNo). option_and_then (λ best. if bit_at seen.low q.0 == 1 then rank_below v.base best o else None) (first_rank v.base)) none
    ∙ by (first_rank v.base) where
      low : (b : Bool) → cond {A = Option ℕ} b None None ≡ None
      low true = refl
      low false = refl

      by : (o : Option ℕ) → option_and_then (λ best. if bit_at seen.low q.0 == 1 then rank_below v.base best None else None) o ≡ None
      by None = refl
      by (Some best) = low (bit_at seen.low q.0 == 1)

module _ (set : Setting) (e : ℕ) (v : Prio) (cs : Contexts PrioContext) (w : WorkloadView) (r : Readings) (p : ProcNo) (a : ActNo) (life : Life)
    (seen : Seen) where
  pub urged-legal : (state : ContextState) → is_out state ≡ true
      → IsPrioScene set e v cs w r p a life (record { base = record { state = state; sections = []; work = None }; urge = true }) seen
      → (outranked v seen seen.proc ≡ None → lowest v seen ≡ None
      → IsLegalStep prio_calls prio_threads prio_fits w set r p seen.event a cs
      (goes v seen (settled v.base seen (record { state = state; sections = []; work = None }) (carried_by state))))
      → IsLegalStep prio_calls prio_threads prio_fits w set r p seen.event a cs (urged v seen (record { state = state; sections = []; work = None }))
  urged-legal state out i calm = by (outranked v seen seen.proc) refl (lowest v seen) refl where
    on : on_at v seen.proc.0 ≡ carried_by state
    on =
        ap (λ (z : ProcNo). on_at v z.0) i.sees.proc
        ∙ i.kept p a (record { base = record { state = state; sections = []; work = None }; urge = true }) i.on.runs i.on.mine

    way : (x : ContextState) → is_out x ≡ true
        → IsPrioScene set e v cs w r p a life (record { base = record { state = x; sections = []; work = None }; urge = true }) seen
        → on_at v seen.proc.0 ≡ carried_by x → (rank : ℕ) → outranked v seen seen.proc ≡ Some rank → (other : Option Outranked)
        → IsLegalStep prio_calls prio_threads prio_fits w set r p seen.event a cs
        (urged_by v seen (record { state = x; sections = []; work = None }) (Some rank) other)
    way (User t) out i on rank is other = gives_way-legal set e v cs w r p a life t seen i rank is
    way (Look looks) out i on rank is other = absurd (none-some rank (sym (nobody-outranked v seen seen.proc on) ∙ is))
    way (Code f) out i on rank is other = absurd cc
    way (Work t) out i on rank is other = absurd cc
    way (Hint t) out i on rank is other = absurd cc
    way Return out i on rank is other = absurd cc

    by : (own : Option ℕ) → outranked v seen seen.proc ≡ own → (other : Option Outranked) → lowest v seen ≡ other
        → IsLegalStep prio_calls prio_threads prio_fits w set r p seen.event a cs (urged v seen (record { state = state; sections = []; work = None }))
    by (Some rank) is other found =
        subst
        (λ (o : Option ℕ). IsLegalStep prio_calls prio_threads prio_fits w set r p seen.event a cs
        (urged_by v seen (record { state = state; sections = []; work = None }) o (lowest v seen)))
        (sym is) (way state out i on rank is (lowest v seen))
    by None is (Some other) found =
        subst
        (λ (o : Option ℕ). IsLegalStep prio_calls prio_threads prio_fits w set r p seen.event a cs
        (urged_by v seen (record { state = state; sections = []; work = None }) o (lowest v seen)))
        (sym is)
        (subst (λ (o : Option Outranked). IsLegalStep prio_calls prio_threads prio_fits w set r p seen.event a cs
        (urged_by v seen (record { state = state; sections = []; work = None }) None o))
        (sym found) (interrupts-legal set e v cs w r p a life state out seen i is other found))
    by None is None found =
        subst
        (λ (o : Option ℕ). IsLegalStep prio_calls prio_threads prio_fits w set r p seen.event a cs
        (urged_by v seen (record { state = state; sections = []; work = None }) o (lowest v seen)))
        (sym is)
        (subst (λ (o : Option Outranked). IsLegalStep prio_calls prio_threads prio_fits w set r p seen.event a cs
        (urged_by v seen (record { state = state; sections = []; work = None }) None o))
        (sym found) (calm is found))
