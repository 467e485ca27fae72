-- The spaces of a machine beside what is read, at a moment.
use Rattle.std.proofs.Common.{Contains, ◌<◌, length, [], arith, ◌≡◌, ◌≢◌, ℕ, Some, List, slice_get, slice_set, inl, inr, refl, sym, ap, subst, ◌∙◌}
use Rattle.std.proofs.Math.Path.{fun_ext}
use Rattle.sa_base.specs.declared.number.SpaceNo.{SpaceNo}
use Rattle.sa_base.specs.declared.number.ActNo.{ActNo}
use Rattle.sa_lemmas.proofs.ListUpdates.{slice_get-set_cases}
use Rattle.sa_spaces.specs.Space.{SpaceView}
use Rattle.sa_spaces.specs.Workload.{WorkloadView, IsWorkload}
use Rattle.sa_abstract.specs.Calls.{Contexts}
use Rattle.sa_assign.specs.Aims.{space_no}
use Rattle.sa_laws.specs.Readings.{Readings}
use Rattle.sa_kernel_laws.specs.Overview.{overview, read_off}
use Rattle.std.proofs.lemmas.Option.{slice_get_within}
use Rattle.sa_histories.proofs.Sizes.{IsSized}
use Rattle.sa_core_model.specs.Machine.{Machine}
use Rattle.sa_core_model.specs.Standing.{contexts_of, Stands}
use Rattle.sa_core_model.proofs.Turns.{none-taken}
use Rattle.sa_core_model.specs.Run.{setting}
use Rattle.sa_user_laws.specs.Moments.{IsMoment}
use Rattle.sa_user_laws.specs.Scene.{Holds}
use Rattle.sa_legal_runs.proofs.frames.Sizes.{are-sized}
use Rattle.sa_legal_runs.proofs.matching.Overviews.{taken-reads}
use Rattle.sa_user_laws.specs.Moments.{SameFor}
use Rattle.sa_user_laws.specs.Scene.{Fits, Hears, IsOfSpace}
use Rattle.sa_user_laws.specs.Level.{UserLevel}

-- Each space fits; each but this one.
abbrev pub AreFit : {U C : Type 0} → Fits U C → WorkloadView → Readings → List U → (ℕ → Contexts C) → Type 0
AreFit {U} fits w r users contexts =
    (s : ℕ) (u : U) (def : SpaceView) → slice_get users s ≡ Some u → slice_get w.spaces s ≡ Some def
    → fits w (setting w s def) r u (contexts s)

abbrev pub AreFitBut : {U C : Type 0} → Fits U C → WorkloadView → Readings → ℕ → List U → (ℕ → Contexts C) → Type 0
AreFitBut {U} fits w r s users contexts =
    (t : ℕ) (u : U) (def : SpaceView) → t ≢ s → slice_get users t ≡ Some u → slice_get w.spaces t ≡ Some def
    → fits w (setting w t def) r u (contexts t)

-- One space hears, and the others fit.
pub record AreHearing {U C : Type 0} (fits : Fits U C) (hears : Hears U C) (w : WorkloadView) (r : Readings) (s : SpaceNo)
    (n : ActNo) (users : List U) (contexts : ℕ → Contexts C) : Type 0 where
  pub hear : (u : U) (def : SpaceView) → slice_get users s.0 ≡ Some u → slice_get w.spaces s.0 ≡ Some def
      → hears w (setting w s.0 def) r n u (contexts s.0)
  pub others : AreFitBut fits w r s.0 users contexts

pub of-space : (w : WorkloadView) (s : ℕ) (def : SpaceView) → IsWorkload w → slice_get w.spaces s ≡ Some def → IsOfSpace w (setting w s def)
of-space w s def ok is = record { ok = ok; def = is; processors = refl; fetch = refl }

module _ {U C : Type 0} (level : UserLevel U C) where
  -- The value of a space, and what else holds of it where the readings are what the kernel has.
  pub value-of : (w : WorkloadView) (e : ℕ) (m : Machine U C) (s : ℕ) (u : U) (def : SpaceView) → m.workload ≡ w → Stands level.stands e m
      → slice_get m.users s ≡ Some u → slice_get w.spaces s ≡ Some def → level.stands (setting w s def) e u (contexts_of m s)
  value-of w e m s u def same st at of =
      subst (λ (v : WorkloadView). level.stands (setting v s def) e u (contexts_of m s)) same
      (st.values s u def at (subst (λ (v : WorkloadView). slice_get v.spaces s ≡ Some def) (sym same) of))

  pub holds-of : (w : WorkloadView) (e : ℕ) (m : Machine U C) (r : Readings) (s : ℕ) (u : U) (def : SpaceView) → IsWorkload w
      → m.workload ≡ w → Stands level.stands e m
      → m.kernel.telling ≡ [] → overview r ≡ read_off m.kernel → IsSized w r → IsMoment r → slice_get m.users s ≡ Some u
      → slice_get w.spaces s ≡ Some def
      → Holds level.stands w (setting w s def) e r u (contexts_of m s)
  holds-of w e m r s u def ok same st fetched reads sized moment at of =
      let below : s < length m.kernel.demands =
      (let z = slice_get_within w.spaces s def of in omega (arith, z, st.demands, ap (λ (v : WorkloadView). length v.spaces) same)) in
      let taken = taken-reads m.kernel r (space_no s) st.sound reads fetched below in
      record {
        of = of-space w s def ok of;
        sizes = are-sized w r sized;
        value = value-of w e m s u def same st at of;
        moment = moment;
        taken = λ b has. none-taken level.calls level.stands level.keep m.kernel m.contexts (space_no s) st.sound b
            (subst (λ (xs : List ActNo). Contains xs b) taken has) s;
      }

  pub fit-same : (w : WorkloadView) (m n : Readings) (users : List U) (contexts : ℕ → Contexts C) → IsWorkload w
      → ((t : ℕ) → SameFor (space_no t) m n)
      → AreFit level.fits w m users contexts → AreFit level.fits w n users contexts
  fit-same w m n users contexts ok same h s u def at of =
      level.laws.same w (setting w s def) m n u (contexts s) (of-space w s def ok of) (same s) (h s u def at of)

  pub but-same : (w : WorkloadView) (m n : Readings) (s : ℕ) (users : List U) (contexts : ℕ → Contexts C) → IsWorkload w
      → ((t : ℕ) → t ≢ s → SameFor (space_no t) m n)
      → AreFitBut level.fits w m s users contexts → AreFitBut level.fits w n s users contexts
  but-same w m n s users contexts ok same h t u def apart at of =
      level.laws.same w (setting w t def) m n u (contexts t) (of-space w t def ok of) (same t apart) (h t u def apart at of)

  pub but-all : (w : WorkloadView) (r : Readings) (s : ℕ) (users : List U) (contexts : ℕ → Contexts C)
      → AreFit level.fits w r users contexts → AreFitBut level.fits w r s users contexts
  but-all w r s users contexts h t u def apart at of = h t u def at of

  -- Equal contexts fit alike.
  pub fit-contexts : (w : WorkloadView) (r : Readings) (users : List U) (old new : ℕ → Contexts C)
      → ((t b : ℕ) → old t b ≡ new t b) → AreFit level.fits w r users old → AreFit level.fits w r users new
  fit-contexts w r users old new same h s u def at of =
      subst (λ (cs : Contexts C). level.fits w (setting w s def) r u cs) (fun_ext (same s)) (h s u def at of)

  pub but-put : (w : WorkloadView) (r : Readings) (s : ℕ) (users : List U) (v : U) (old new : ℕ → Contexts C)
      → ((t : ℕ) → t ≢ s → (b : ℕ) → old t b ≡ new t b)
      → AreFitBut level.fits w r s users old → AreFitBut level.fits w r s (slice_set users s v) new
  but-put w r s users v old new same h t u def apart at of = elim (slice_get-set_cases users s t v u at) [
    | inl y ↦ absurd (apart y.0)
    | inr y ↦ subst (λ (cs : Contexts C). level.fits w (setting w t def) r u cs) (fun_ext (same t apart)) (h t u def apart y.1 of)
  ]

  -- One space gets another value, and the others fit as before.
  pub fit-put : (w : WorkloadView) (r : Readings) (s : ℕ) (users : List U) (v : U) (old new : ℕ → Contexts C)
      → ((t : ℕ) → t ≢ s → (b : ℕ) → old t b ≡ new t b)
      → ((def : SpaceView) → slice_get w.spaces s ≡ Some def → level.fits w (setting w s def) r v (new s))
      → AreFitBut level.fits w r s users old → AreFit level.fits w r (slice_set users s v) new
  fit-put w r s users v old new same here h t u def at of = elim (slice_get-set_cases users s t v u at) [
    | inl y ↦
        subst (λ (n : ℕ). level.fits w (setting w n def) r u (new n)) (sym y.0)
        (subst (λ (x : U). level.fits w (setting w s def) r x (new s)) (sym y.1) (here def (ap (slice_get w.spaces) (sym y.0) ∙ of)))
    | inr y ↦ subst (λ (cs : Contexts C). level.fits w (setting w t def) r u cs) (fun_ext (same t y.0)) (h t u def y.0 y.1 of)
  ]
