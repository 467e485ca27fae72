-- The laws of stops and unblocks, of an upcall's beginning, and of what a life owes.
use Rattle.std.proofs.Common.{◌≡◌, ◌≢◌, ℕ, ◌<◌, ◌&&◌, not, Some, None, is_none, Contains, length, sym, ap, ◌∙◌, arith}
use Rattle.sa_base.specs.declared.context.Seen.{Seen}
use Rattle.sa_base.specs.declared.number.ActNo.{ActNo}
use Rattle.sa_base.specs.declared.number.ProcNo.{ProcNo}
use Rattle.sa_base.specs.declared.record.Note.TheVariants.{Preempted, Unblocked}
use Rattle.sa_base.specs.declared.record.Record.TheVariants as records
use Rattle.sa_lemmas.specs.Function.{put}
use Rattle.sa_spaces.specs.Workload.{WorkloadView}
use Rattle.sa_abstract.specs.Calls.{Contexts}
use Rattle.sa_abstract.specs.Setting.{Setting}
use Rattle.sa_package_model.specs.Context.{carried_by, fresh, stands_idle}
use Rattle.sa_package_model.specs.Stands.{fast_stands}
use Rattle.sa_package_model.specs.Step.{fast_calls}
use Rattle.sa_package_model.specs.declared.context.Context.{Context}
use Rattle.sa_package_model.specs.declared.package.Package.{Package}
use Rattle.sa_laws.specs.Life.{Life}
use Rattle.sa_laws.specs.Readings.{Readings, running_of, life_of, untold_of, owner_of}
use Rattle.sa_laws.specs.Record.{after_record}
use Rattle.sa_laws.specs.Step.{StandsIn}
use Rattle.sa_laws.specs.declared.place.Place.TheVariants as place
use Rattle.sa_user_laws.specs.Scene.{event_begun_at, IsActing, Holds as HoldsNow, HoldsIn, IsOn}
use Rattle.sa_fast_laws.specs.FastFits.{fast_fits, fast_hears}
use Rattle.sa_fast_laws.specs.View.{view}
use Rattle.sa_fast_laws.proofs.lives.Ceases.{stop-fits, return-fits, return-stands}
use Rattle.sa_fast_laws.proofs.lives.Upcalls.{up-hears}
use Rattle.sa_fast_laws.proofs.FrameLaws.{fast-based, lives-of, fits-of, hears-of}
use Rattle.sa_fast_laws.proofs.StepLaws.{idle_is}

pub fast-stops : (w : WorkloadView) (s : Setting) (e : ℕ) (r : Readings) (u : Package) (cs : Contexts Context) (p : ProcNo) (a : ActNo) (life : Life)
    (c : Context) (number : ℕ)
    → IsActing fast_calls fast_stands fast_fits w s e r u cs p a life c
    → (stands_idle c.state ≡ (not life.inside && is_none (carried_by c.state)))
    × fast_fits w s (after_record w number p (event_begun_at w number p r) (records.Stop s.space (carried_by c.state) a)) u cs
fast-stops w s e r u cs p a life c number i = (
  idle_is c.state ∙ ap (λ b. not b && is_none (carried_by c.state)) (sym (i.fit.rest a c life i.on.mine i.on.is).marks.inside),
  fits-of s.space _ u cs (record { many = i.fit.lists.many; ranks = i.fit.lists.ranks; numbers = i.fit.lists.numbers })
      (stop-fits view (λ d. d) cs cs (fast-based cs) w s e r u i.holds.of i.holds.sizes i.holds.value (lives-of s.space r u cs i.fit)
      p a life c number i.on.mine i.on.is i.on.space i.on.runs),
)

pub fast-unblocks : (w : WorkloadView) (s : Setting) (e : ℕ) (r : Readings) (u : Package) (cs : Contexts Context) (p : ProcNo) (a : ActNo)
    (life : Life) (c : Context) (number : ℕ)
    → HoldsNow fast_stands w s e r u cs → fast_fits w s r u cs → cs a.0 ≡ Some c → life_of r a ≡ Some life → life.space ≡ s.space
    → ((q : ProcNo) → running_of r q ≢ Some a)
    → (Contains (untold_of r s.space) (Preempted a) → ⊥) → (Contains (untold_of r s.space) (Unblocked a) → ⊥)
    → StandsIn place.Blocked r.state s.space life.thread
    × fast_fits w s (after_record w number p r (records.Unblock s.space life.thread a)) u cs
fast-unblocks w s e r u cs p a life c number h k mine is of nowhere no_stop no_back =
    let lives = lives-of s.space r u cs k in (
      return-stands view (λ d. d) cs cs (fast-based cs) w s e r u h.of h.sizes h.value lives p a life c number mine is of nowhere no_stop no_back,
      fits-of s.space _ u cs (record { many = k.lists.many; ranks = k.lists.ranks; numbers = k.lists.numbers })
          (return-fits view (λ d. d) cs cs (fast-based cs) w s e r u h.of h.sizes h.value lives p a life c number mine is of nowhere no_stop no_back),
    )

-- AN UPCALL
pub fast-begins : (w : WorkloadView) (s : Setting) (e : ℕ) (r : Readings) (u : Package) (cs : Contexts Context) (p : ProcNo) (n : ActNo) (seen : Seen)
    (number : ℕ)
    → HoldsIn fast_stands w s e r u cs → fast_fits w s r u cs → seen.proc ≡ p → p.0 < w.processors → owner_of r p ≡ Some s.space
    → running_of r p ≡ None → life_of r n ≡ None → cs n.0 ≡ None → ((q : ProcNo) → running_of r q ≢ Some n)
    → fast_hears w s (after_record w number p r (records.Up s.space n)) n (fast_calls.begun u seen).0 (put cs n.0 (Some (fast_calls.begun u seen).1))
fast-begins w s e r u cs p n seen number h k sees inside owner free unused none nowhere =
    let procs : p.0 < length r.running = (let same = h.sizes.running in omega arith) in
    hears-of s.space _ u (put cs n.0 (Some fresh)) n (record { many = k.lists.many; ranks = k.lists.ranks; numbers = k.lists.numbers })
    (up-hears view s.space r u cs cs (lives-of s.space r u cs k) w p n fresh number free unused none nowhere procs)

-- WHO IS IN
pub fast-owes : (w : WorkloadView) (s : Setting) (e : ℕ) (r : Readings) (u : Package) (cs : Contexts Context) (p : ProcNo) (a : ActNo) (life : Life)
    (c : Context)
    → HoldsNow fast_stands w s e r u cs → fast_fits w s r u cs → IsOn s.space r p a life cs c → life.inside ≡ fast_calls.owes u c
fast-owes w s e r u cs p a life c h k on = (k.rest a c life on.mine on.is).marks.inside
