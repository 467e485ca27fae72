-- FastThreads' relation as threads and lives that fit, with the ready lists; and the frame laws: what concerns no thread
-- or life of the space does not matter.
use Rattle.std.proofs.Common.{[], slice_index_or, refl, sym, ap, subst}
use Rattle.sa_base.specs.declared.number.ActNo.{ActNo}
use Rattle.sa_base.specs.declared.number.SpaceNo.{SpaceNo}
use Rattle.sa_spaces.specs.Workload.{WorkloadView}
use Rattle.sa_abstract.specs.Calls.{Contexts}
use Rattle.sa_abstract.specs.Setting.{Setting}
use Rattle.sa_package_model.specs.declared.context.Context.{Context}
use Rattle.sa_package_model.specs.declared.package.Package.{Package}
use Rattle.sa_laws.specs.Readings.{Readings, ready_of}
use Rattle.sa_user_laws.specs.Moments.{SameFor, AlikeButDemands}
use Rattle.sa_user_laws.specs.Scene.{IsOfSpace}
use Rattle.sa_fast_laws.specs.FastFits.{FitsLists, FastFits, FastHears, fast_hears, fast_fits}
use Rattle.sa_fast_laws.specs.View.{view}
use Rattle.sa_fast_laws.proofs.lives.SameSpace.{same-fits}
use Rattle.sa_fast_laws.proofs.lives.Upcalls.{alike-hears}
use Rattle.sa_fast_laws.specs.Rests.{IsBasedOn, LivesFit, LivesHear}

-- each context is its own base
pub fast-based : (cs : Contexts Context) → IsBasedOn view (λ c. c) cs cs
fast-based cs = record { up = λ i b at. (b, at, refl); down = λ i c at. at; carries = λ c. refl }

module _ (s : SpaceNo) (r : Readings) (u : Package) (cs : Contexts Context) where
  abbrev pub lives-of : FastFits s r u cs → LivesFit view s r u cs cs
  lives-of k = record { holds = k.holds; rest = k.rest }

  pub fits-of : FitsLists u (ready_of r s) → LivesFit view s r u cs cs → FastFits s r u cs
  fits-of lists k = record { holds = k.holds; lists = lists; rest = k.rest }

  abbrev pub told-of : (n : ActNo) → FastHears s r n u cs → LivesHear view s r n u cs cs
  told-of n k = record { holds = k.holds; others = k.others; begins = k.begins; runs = k.runs }

  pub hears-of : (n : ActNo) → FitsLists u (ready_of r s) → LivesHear view s r n u cs cs → FastHears s r n u cs
  hears-of n lists k = record { holds = k.holds; lists = lists; others = k.others; begins = k.begins; runs = k.runs }

pub fast-same : (w : WorkloadView) (s : Setting) (m n : Readings) (u : Package) (cs : Contexts Context) → IsOfSpace w s → SameFor s.space m n
    → fast_fits w s m u cs → fast_fits w s n u cs
fast-same w s m n u cs of same k =
    fits-of s.space n u cs (subst (FitsLists u) (sym same.ready) k.lists)
    (same-fits view (λ c. c) s.space m n u cs cs (fast-based cs) same (lives-of s.space m u cs k))

pub hears-same : (w : WorkloadView) (s : Setting) (m n : Readings) (a : ActNo) (u : Package) (cs : Contexts Context)
    → IsOfSpace w s → AlikeButDemands m n → fast_hears w s m a u cs → fast_hears w s n a u cs
hears-same w s m n a u cs of same k =
    hears-of s.space n u cs a (subst (FitsLists u) (sym (ap (λ ls. slice_index_or ls s.space.0 []) same.ready)) k.lists)
    (alike-hears view s.space m u cs cs n a same (told-of s.space m u cs a k))
