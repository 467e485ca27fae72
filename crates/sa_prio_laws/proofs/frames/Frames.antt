-- The frame laws: what concerns no thread or life of the space does not matter; and who runs where.
use Rattle.std.proofs.Common.{◌≡◌, ℕ, false, [], Option, Some, None, option_map, slice_index_or, refl, sym, ap, ◌∙◌, subst}
use Rattle.std.proofs.lemmas.Option.{same_Some, none-some}
use Rattle.sa_base.specs.declared.number.ActNo.{ActNo}
use Rattle.sa_base.specs.declared.number.ProcNo.{ProcNo}
use Rattle.sa_spaces.specs.Workload.{WorkloadView}
use Rattle.sa_abstract.specs.Calls.{Contexts}
use Rattle.sa_abstract.specs.Setting.{Setting}
use Rattle.sa_package_model.specs.Context.{carried_by}
use Rattle.sa_package_model.specs.declared.context.Context.{Context}
use Rattle.sa_package_model.specs.declared.context.ContextState.TheVariants.{Work}
use Rattle.sa_laws.specs.Life.{Life}
use Rattle.sa_laws.specs.Readings.{Readings}
use Rattle.sa_user_laws.specs.Moments.{SameFor, AlikeButDemands}
use Rattle.sa_user_laws.specs.Scene.{Holds as HoldsNow, IsOfSpace, IsOn, RunsAlone}
use Rattle.sa_fast_laws.proofs.relation.Runners.{alone-runs}
use Rattle.sa_fast_laws.proofs.lives.SameSpace.{same-fits, runs-back}
use Rattle.sa_fast_laws.proofs.lives.Upcalls.{alike-hears}
use Rattle.sa_fast_laws.specs.Rests.{IsBasedOn}
use Rattle.sa_prio_model.specs.Prio.{Prio}
use Rattle.sa_prio_model.specs.Stands.{bases, prio_stands}
use Rattle.sa_prio_model.specs.declared.context.PrioContext.{PrioContext}
use Rattle.sa_prio_laws.specs.PrioFits.{prio_view, prio_fits, prio_hears}
use Rattle.sa_prio_laws.specs.Ready.{FitsRanked}

-- a context in its upcall
abbrev pub plain : PrioContext → PrioContext
plain y = record { base = record { state = Work None; sections = y.base.sections; work = y.base.work }; urge = false }

-- FastThreads' context in each
pub base-is : (cs : Contexts PrioContext) (i : ℕ) (c : PrioContext) → cs i ≡ Some c → bases cs i ≡ Some c.base
base-is cs i c at = ap (option_map (λ (z : PrioContext). z.base)) at

pub prio-based : (cs : Contexts PrioContext) → IsBasedOn prio_view (λ c. c.base) (bases cs) cs
prio-based cs = record { up = λ i b at. by i b (cs i) refl at; down = base-is cs; carries = λ c. refl } where
  by : (i : ℕ) (b : Context) (o : Option PrioContext) → cs i ≡ o → bases cs i ≡ Some b → (c : PrioContext) × (cs i ≡ Some c) × (c.base ≡ b)
  by i b None none at = absurd (none-some b (sym (ap (option_map (λ (z : PrioContext). z.base)) none) ∙ at))
  by i b (Some c) is at = (c, is, same_Some c.base b (sym (base-is cs i c is) ∙ at))

pub prio-same : (w : WorkloadView) (s : Setting) (m n : Readings) (v : Prio) (cs : Contexts PrioContext) → IsOfSpace w s → SameFor s.space m n
    → prio_fits w s m v cs → prio_fits w s n v cs
prio-same w s m n v cs of same k = record {
  lives = same-fits prio_view (λ c. c.base) s.space m n v.base (bases cs) cs (prio-based cs) same k.lives;
  ranked = subst (FitsRanked v.base) (sym same.ready) k.ranked;
  on = λ q a c at mine. k.on q a c (runs-back s.space m n v.base (bases cs) same k.lives.holds q a c.base (base-is cs a.0 c mine) at) mine;
}

pub prio-hears_same : (w : WorkloadView) (s : Setting) (m n : Readings) (a : ActNo) (v : Prio) (cs : Contexts PrioContext)
    → IsOfSpace w s → AlikeButDemands m n → prio_hears w s m a v cs → prio_hears w s n a v cs
prio-hears_same w s m n a v cs of same k = record {
  lives = alike-hears prio_view s.space m v.base (bases cs) cs n a same k.lives;
  ranked = subst (FitsRanked v.base) (sym (ap (λ ls. slice_index_or ls s.space.0 []) same.ready)) k.ranked;
  on = λ q b c at mine. k.on q b c (sym (ap (λ ps. slice_index_or ps q.0 None) same.running) ∙ at) mine;
  calm = k.calm;
}

pub prio-carries : (w : WorkloadView) (s : Setting) (e : ℕ) (r : Readings) (v : Prio) (cs : Contexts PrioContext) (p : ProcNo) (a : ActNo)
    (life : Life) (c : PrioContext)
    → HoldsNow prio_stands w s e r v cs → prio_fits w s r v cs → IsOn s.space r p a life cs c → RunsAlone s.space r p (carried_by c.base.state)
prio-carries w s e r v cs p a life c h k on =
    alone-runs s e v.base (bases cs) h.value.base s.space r k.lives.holds p a c.base life (base-is cs a.0 c on.mine) on.is on.space on.runs
