-- What always holds, kept by each call.
use Rattle.std.proofs.Common.{◌≡◌, ℕ, ◌<◌, Bool, true, false, eqb, None, IsSome, List, [], length, sum_by, get_or, replicate, refl, sym, ap, subst, ◌∙◌, arith}
use Rattle.sa_base.specs.declared.number.ProcNo.{ProcNo}
use Rattle.sa_base.specs.declared.number.ActNo.{ActNo}
use Rattle.sa_base.specs.declared.record.Note.{Note}
use Rattle.sa_spaces.specs.Workload.{WorkloadView, IsWorkload}
use Rattle.sa_lemmas.proofs.ListReads.{all-same}
use Rattle.sa_assign.specs.Reaim.{proc_no}
use Rattle.sa_kernel_model.specs.declared.entry.Given.{Given}
use Rattle.sa_kernel_model.specs.declared.entry.Given.TheVariants.{Upcall}
use Rattle.sa_kernel_model.specs.State.{KernelState, Scene}
use Rattle.sa_kernel_model.specs.Closing.{closed}
use Rattle.sa_kernel_model.specs.Entries.{entered_as, after_fetch, evicted_at}
use Rattle.sa_kernel_model.specs.Opening.{opening_state, opened}
use Rattle.sa_kernel_model.specs.Enters.{Enters, given_by}
use Rattle.sa_kernel_model.specs.Entering.{MayEnter, upcalls}
use Rattle.sa_kernel_model.specs.declared.entry.Entry.{Entry}
use Rattle.sa_kernel_model.specs.Sound.{note_claim, IsPlaced, ArePlaced, AreClaimed, IsSound, IsUpcalled}
use Rattle.sa_kernel_model.proofs.sound.Formed.{no_event, no_space, no_notes, formed-opening, formed-entered_as, formed-closed, formed-after_fetch, formed-evicted}
use Rattle.sa_kernel_model.proofs.parts.Running.{no_life}
use Rattle.sa_kernel_model.proofs.parts.Placed.{placed-same, placed-entered_as, placed-closed, placed-after_fetch}
use Rattle.sa_kernel_model.proofs.sound.Claims.{cond-zero}
use Rattle.sa_kernel_model.proofs.sound.Held.{claimed-entered_as, upcalled-entered_as, claimed-closed, claimed-after_fetch}

nothing-placed : IsPlaced no_space no_space no_event no_life
nothing-placed = record { runs = λ h. absurd (none h); aimed = λ h. absurd (low h); settled = λ h. refl }
  where
    none : IsSome no_space → ⊥
    none h = cc

    low : IsSome no_event → ⊥
    low h = cc

placed-opening : (C : Type 0) (w : WorkloadView) → ArePlaced (opening_state {C = C} w).assign (opening_state {C = C} w).lives
placed-opening C w p =
    let n = w.processors in
    placed-same no_space _ no_space _ no_event _ no_life _ (all-same n p no_space) (all-same n p no_space) (all-same n p no_event)
    (all-same n p no_life) nothing-placed

claimed-opening : (C : Type 0) (w : WorkloadView) → AreClaimed (opening_state {C = C} w) 0
claimed-opening C w s a =
    let none : sum_by (note_claim a) (get_or (replicate (length w.spaces) no_notes) s []) ≡ 0 =
    ap (sum_by (note_claim a)) (all-same (length w.spaces) s no_notes) in
    let told = cond-zero (eqb s 0) in
    omega arith

-- the number that an upcall is in
given-upcall : (up : Bool) (b a : ActNo) → given_by up b ≡ Upcall a → (up ≡ true) × (b ≡ a)
given-upcall true b a is = (refl, cc)
given-upcall false b a is = absurd cc

module _ {C : Type 0} where
  pub sound-opening : (w : WorkloadView) → IsWorkload w → IsSound (opening_state {C = C} w)
  sound-opening w ok = record { formed = formed-opening w ok; placed = placed-opening C w; claimed = record { told_to = 0; once = claimed-opening C w } }

  pub sound-entered_as : (e : ℕ) (p : ProcNo) (a : ActNo) (entry : Entry C) (x : Scene C) → p.0 < length x.state.lives → MayEnter x.state p e entry
      → x.state.acts a.0 ≡ None → x.state.telling ≡ [] → IsSound x.state → IsSound (entered_as e p a entry x).state
  sound-entered_as e p a entry x within fit unused empty sound = record {
    formed = formed-entered_as e p a entry x within fit unused sound.formed;
    placed = placed-entered_as e p a entry x sound.formed.sizes within fit sound.placed;
    claimed = claimed-entered_as e p a entry x sound.claimed.told_to within unused empty sound.formed sound.claimed.once;
  }

  pub sound-closed : (e : ℕ) (p : ProcNo) (x : Scene C) → IsSound x.state → IsSound (closed e p x).state
  sound-closed e p x sound = record {
    formed = formed-closed e p x sound.formed;
    placed = placed-closed e p x sound.formed.sizes sound.placed;
    claimed = record { told_to = sound.claimed.told_to; once = claimed-closed e p x sound.claimed.told_to sound.claimed.once };
  }

  pub sound-after_fetch : (notes : List Note) (k : KernelState C) → notes ≡ k.telling → IsSound k → IsSound (after_fetch notes k)
  sound-after_fetch notes k is sound = record {
    formed = formed-after_fetch notes k sound.formed;
    placed = placed-after_fetch notes k sound.placed;
    claimed = record { told_to = sound.claimed.told_to; once = claimed-after_fetch notes k sound.claimed.told_to is sound.claimed.once };
  }

  pub sound-evicted : (event : ℕ) (k : KernelState C) → IsSound k → IsSound (evicted_at event k)
  sound-evicted event k sound = record {
    formed = formed-evicted event k sound.formed;
    placed = sound.placed;
    claimed = record { told_to = sound.claimed.told_to; once = sound.claimed.once };
  }

  -- an entry in some number that is not in use, before its closing
  pub sound-enters : (e : ℕ) (p : ProcNo) (entry : Entry C) (old new : Scene C) (given : Given)
      → Enters old new given (upcalls old.state p entry) (λ a. entered_as e p a entry) → p.0 < length old.state.lives → MayEnter old.state p e entry
      → old.state.telling ≡ [] → IsSound old.state → IsSound new.state
  sound-enters e p entry old new given enters within may empty sound =
      subst (λ (x : Scene C). IsSound x.state) (sym enters.scene) (sound-entered_as e p enters.fresh entry old within may enters.unused empty sound)

  pub upcalled-enters : (e : ℕ) (p : ProcNo) (entry : Entry C) (old new : Scene C) (given : Given)
      → Enters old new given (upcalls old.state p entry) (λ a. entered_as e p a entry) → p.0 < length old.state.lives → old.state.telling ≡ []
      → IsSound old.state → (a : ActNo) → given ≡ Upcall a → IsUpcalled new.state p a
  upcalled-enters e p entry old new given enters within empty sound a is =
      let claimed = sound.claimed in
      let both = given-upcall (upcalls old.state p entry) enters.fresh a (sym enters.given ∙ is) in
      let up = upcalled-entered_as e p enters.fresh entry old claimed.told_to both.0 within enters.unused empty sound.formed claimed.once in
      subst (λ (x : Scene C). IsUpcalled x.state p a) (sym enters.scene)
      (subst (λ b. IsUpcalled (entered_as e p enters.fresh entry old).state p b) both.1 up)

  pub sound-opened : (w : WorkloadView) → IsWorkload w → IsSound (opened {C = C} w).state
  sound-opened w ok = sound-closed 0 (proc_no 0) _ (sound-opening w ok)
