-- The thread that runs on a processor of a space is the one that its running life's context carries: before a step, and
-- after records of the space. For all user levels.
use Rattle.std.proofs.Common.{◌≡◌, ◌≢◌, ℕ, List, [], ◌∷◌, All, Option, Some, None, get_or, refl, sym, ap, subst, ◌∙◌, zero-add, inl, inr}
use Rattle.std.proofs.lemmas.Bool.{cases_eq}
use Rattle.std.proofs.lemmas.List.Elements.{All-head, All-tail}
use Rattle.std.proofs.lemmas.Option.{same_Some}
use Rattle.sa_base.specs.declared.number.ProcNo.{ProcNo}
use Rattle.sa_base.specs.declared.number.SpaceNo.{SpaceNo}
use Rattle.sa_base.specs.declared.number.ThreadNo.{ThreadNo}
use Rattle.sa_base.specs.declared.number.ActNo.{ActNo}
use Rattle.sa_base.specs.declared.record.Record.{Record}
use Rattle.sa_base.specs.declared.record.Record.TheVariants as records
use Rattle.sa_spaces.specs.Workload.{WorkloadView}
use Rattle.sa_abstract.specs.Setting.{Setting}
use Rattle.sa_abstract.specs.Calls.{Calls, Contexts}
use Rattle.sa_abstract.specs.Keeps.{Standing, IsOwn}
use Rattle.sa_laws.specs.declared.place.Place.TheVariants.{Running}
use Rattle.sa_laws.specs.State.{State, Runner, space_at, thread_at, thread_in, runner_on, runner_of, no_threads}
use Rattle.sa_laws.specs.Machine.{changed}
use Rattle.sa_laws.specs.Life.{Life}
use Rattle.sa_laws.specs.Readings.{Readings, owner_of}
use Rattle.sa_laws.specs.Record.{after_record}
use Rattle.sa_laws.specs.History.{after_records}
use Rattle.sa_laws.specs.Rules.{UserRules}
use Rattle.sa_laws.proofs.Searches.{place_of, found-from, passed-from}
use Rattle.sa_laws.proofs.Spaces.{space-elsewhere, placed-elsewhere}
use Rattle.sa_user_laws.specs.Moments.{IsMoment}
use Rattle.sa_user_laws.specs.Scene.{Fits, Hears, Holds, IsOn, RunsAlone, IsActing}
use Rattle.sa_user_laws.specs.Laws.{UserLaws}

-- where this thread of this space alone runs on a processor, or none, it is the one that a search through all finds
pub runner-is : (a : State) (p : ProcNo) (s : SpaceNo) (o : Option ThreadNo)
    → ((z : SpaceNo) (t : ThreadNo) → (thread_at a z t).place ≡ Running p → (z ≡ s) × (o ≡ Some t))
    → ((t : ThreadNo) → o ≡ Some t → (thread_at a s t).place ≡ Running p)
    → runner_on a p ≡ runner_of s o
runner-is a p s o alone runs = by (runner_on a p) refl o refl where
  by : (x : Option Runner) → runner_on a p ≡ x → (t : Option ThreadNo) → o ≡ t → runner_on a p ≡ runner_of s o
  by None none None at = none ∙ sym (ap (runner_of s) at)
  by None none (Some t) at = absurd (passed-from p 0 a.spaces none s.0 t.0 (runs t at))
  by (Some x) some t at =
      let found = found-from p 0 a.spaces x some in
      let there : (thread_at a x.space x.thread).place ≡ Running p =
      subst (λ n. place_of (get_or a.spaces n no_threads).threads x.thread.0 ≡ Running p) (sym (found.1 ∙ zero-add found.0)) found.2 in
      let it = alone x.space x.thread there in
      some ∙ ap (λ z. Some (record { space = z; thread = x.thread })) it.0 ∙ sym (ap (runner_of s) it.1)

-- so on a processor that the space owns, also at a later moment at which the other spaces are as before
pub runner-behind : (s : SpaceNo) (r last : Readings) (p : ProcNo) (o : Option ThreadNo) → IsMoment r → owner_of r p ≡ Some s
    → ((z : SpaceNo) → z.0 ≢ s.0 → space_at last.state z ≡ space_at r.state z) → RunsAlone s last p o
    → runner_on last.state p ≡ runner_of s o
runner-behind s r last p o moment owner elsewhere here = runner-is last.state p s o
    (λ z t at. elim (cases_eq z.0 s.0) [
      | inl same ↦ let one : z ≡ s = ap (λ n. record { 0 = n }) same in (one, (here t).0 (subst (λ x. (thread_at last.state x t).place ≡ Running p) one at))
      | inr apart ↦ absurd (
          let before : (thread_at r.state z t).place ≡ Running p = ap (λ x. (thread_in x t).place) (sym (elsewhere z apart)) ∙ at in
          apart (ap (λ (x : SpaceNo). x.0) (same_Some z s (sym (moment.owned p z t before) ∙ owner))))
    ])
    (λ t at. (here t).1 at)

-- THE RUNNER of a running life
module _ {U C : Type 0} (calls : Calls U C) (stands : Standing U C) (rules : UserRules) (fits : Fits U C) (hears : Hears U C)
    (laws : UserLaws calls stands rules fits hears) where
  pub acting : (w : WorkloadView) (s : Setting) (e : ℕ) (r : Readings) (u : U) (cs : Contexts C) (p : ProcNo) (a : ActNo) (life : Life) (c : C)
      → Holds stands w s e r u cs → fits w s r u cs → IsOn s.space r p a life cs c
      → IsActing calls stands fits w s e r u cs p a life c
  acting w s e r u cs p a life c holds fit on = record {
    holds = holds;
    fit = fit;
    on = on;
    runner = runner-behind s.space r r p (calls.thread u c) holds.moment on.owner (λ z apart. refl) (laws.carries w s e r u cs p a life c holds fit on);
  }

-- RECORDS OF A SPACE leave the others
pub own-elsewhere : (w : WorkloadView) (p : ProcNo) (a : State) (s z : SpaceNo) (x : Record) → IsOwn s x → z.0 ≢ s.0
    → space_at (changed w p a x) z ≡ space_at a z
own-elsewhere w p a s z x own apart = by x own where
  from : (of : SpaceNo) → of ≡ s → z.0 ≢ of.0
  from of same e = apart (e ∙ ap (λ (y : SpaceNo). y.0) same)

  by : (x : Record) → IsOwn s x → space_at (changed w p a x) z ≡ space_at a z
  by (records.Ins of t i) own = space-elsewhere a of z _ (from of own)
  by (records.Out of t v) own = refl
  by (records.Run of t) own = space-elsewhere a of z _ (from of own)
  by (records.Cont of t) own = placed-elsewhere a of z t _ (from of own)
  by (records.Back of t) own = placed-elsewhere a of z t _ (from of own)
  by (records.Ready of t) own = space-elsewhere a of z _ (from of own)
  by (records.Take of l t) own = refl
  by (records.Free of l t) own = refl
  by records.Idle own = refl
  by (records.Spin l) own = refl
  by (records.Stop of t b) own = absurd own
  by (records.Block of t b io) own = absurd own
  by (records.Unblock of t b) own = absurd own
  by (records.Up of b) own = absurd own
  by (records.Told n) own = absurd own
  by (records.Move old new) own = absurd own
  by (records.Want of n) own = absurd own
  by (records.Aim q of) own = absurd own
  by (records.Line q) own = absurd own
  by (records.Fetch of) own = absurd own
  by (records.Fetched of) own = absurd own
  by (records.GiveBack b) own = absurd own
  by records.Tick own = absurd own

pub all-elsewhere : (w : WorkloadView) (e : ℕ) (p : ProcNo) (r : Readings) (s z : SpaceNo) (xs : List Record) → All (IsOwn s) xs → z.0 ≢ s.0
    → space_at (after_records w e p r xs).state z ≡ space_at r.state z
all-elsewhere w e p r s z [] own apart = refl
all-elsewhere w e p r s z (x ∷ xs) own apart =
    all-elsewhere w e p (after_record w e p r x) s z xs (All-tail (IsOwn s) x xs own) apart
    ∙ own-elsewhere w p r.state s z x (All-head (IsOwn s) x xs own) apart
