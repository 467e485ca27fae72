-- A fresh activation begins, is told of its notices, and takes over the contexts of those that stopped or came back.
use Rattle.std.proofs.Common.{◌≡◌, ◌≢◌, ℕ, ◌<◌, Bool, false, length, List, Option, Some, None, Contains, refl, sym, ap, ◌∙◌, subst}
use Rattle.std.proofs.lemmas.Option.{same_Some}
use Rattle.sa_base.specs.declared.number.ActNo.{ActNo}
use Rattle.sa_base.specs.declared.number.ProcNo.{ProcNo}
use Rattle.sa_base.specs.declared.number.SpaceNo.{SpaceNo}
use Rattle.sa_base.specs.declared.number.ThreadNo.{ThreadNo}
use Rattle.sa_base.specs.declared.record.Note.{Note}
use Rattle.sa_base.specs.declared.record.Note.TheVariants.{Add, Blocked}
use Rattle.sa_base.specs.declared.record.Record.TheVariants as records
use Rattle.sa_lemmas.proofs.FunctionUpdates.{put-same, put-other}
use Rattle.sa_lemmas.specs.Function.{put}
use Rattle.sa_spaces.specs.Workload.{WorkloadView}
use Rattle.sa_code.specs.declared.state.Frame.{Frame}
use Rattle.sa_abstract.specs.Calls.{Contexts}
use Rattle.sa_abstract.specs.Setting.{Setting}
use Rattle.sa_package_model.specs.Context.{fresh}
use Rattle.sa_package_model.specs.Rules.{took_over}
use Rattle.sa_package_model.specs.Stands.{IsStanding}
use Rattle.sa_package_model.specs.declared.context.Context.{Context}
use Rattle.sa_package_model.specs.declared.context.ContextState.TheVariants.{Work}
use Rattle.sa_package_model.specs.declared.package.Package.{Package}
use Rattle.sa_laws.specs.Life.{Life, new_life, inherits}
use Rattle.sa_laws.specs.Readings.{Readings, running_of, life_of, untold_of}
use Rattle.sa_laws.specs.Record.{after_record}
use Rattle.sa_user_laws.specs.Moments.{AlikeButDemands}
use Rattle.sa_fast_laws.proofs.relation.Notices.{note_of}
use Rattle.sa_fast_laws.specs.Stage.{stage_of, Runs}
use Rattle.sa_fast_laws.specs.View.{View}
use Rattle.sa_fast_laws.proofs.notices.Handovers.{stage_kept, told-holds, live_a, live_x, stage_now}
use Rattle.sa_fast_laws.proofs.notices.Ups.{up-holds, up-stage}
use Rattle.sa_fast_laws.proofs.notices.Ups as ups
use Rattle.sa_fast_laws.specs.Rests.{LivesFit, LivesHear}
use Rattle.sa_fast_laws.proofs.lives.PlainNotices.{IsLess, less-holds, less-lives, less-stage, less-rests, add-less, blocked-less}
use Rattle.sa_fast_laws.proofs.lives.Rests.{others-rest, others-rest_handed}
use Rattle.sa_fast_laws.proofs.lives.SameSpace.{alike-holds, alike-rest, alike-stage}

module _ {C : Type 0} (look : C → View) (s : SpaceNo) (r : Readings) (u : Package) (bs : Contexts Context) where
  -- ITS BEGINNING, on a processor on which nobody runs
  pub up-hears : (cs : Contexts C) → LivesFit look s r u bs cs → (w : WorkloadView) (p : ProcNo) (n : ActNo) (new : C) (number : ℕ)
      → running_of r p ≡ None → life_of r n ≡ None → bs n.0 ≡ None → ((q : ProcNo) → running_of r q ≢ Some n) → p.0 < length r.running
      → LivesHear look s (after_record w number p r (records.Up s n)) n u (put bs n.0 (Some fresh)) (put cs n.0 (Some new))
  up-hears cs k w p n new number free unused none nowhere procs =
      let q = after_record w number p r (records.Up s n) in
      record {
        holds = up-holds s r u bs k.holds w number p n free unused none nowhere procs;
        others = others-rest look s r q n cs (put cs n.0 (Some new)) (λ x ne. put-other cs n.0 x.0 (Some new) ne)
            (λ x ne. put-other r.lives n.0 x.0 (Some (new_life s p)) ne)
            (λ x y ne. ups.stage_x s r u bs k.holds w number p n free unused none nowhere procs x y ne) (λ x d l ne at is. k.rest x d l at is);
        begins = λ b at. ap (λ (x : Context). x.state) (sym (same_Some fresh b (sym (put-same bs n.0 (Some fresh)) ∙ at)));
        runs = λ life is.
            let one : new_life s p ≡ life = same_Some (new_life s p) life (sym (put-same r.lives n.0 (Some (new_life s p))) ∙ is) in
            subst (λ (l : Life). (stage_of q s n l ≡ Runs) × (l.freed ≡ false) × (l.scans ≡ 0)) one
            (up-stage s r u bs k.holds w number p n free unused none nowhere procs, refl, refl);
      }

  -- A CLOSING after its notices
  pub alike-hears : (cs : Contexts C) (q : Readings) (n : ActNo) → AlikeButDemands r q → LivesHear look s r n u bs cs → LivesHear look s q n u bs cs
  alike-hears cs q n same k = record {
    holds = alike-holds s r q same u bs k.holds;
    others = alike-rest s r q same look cs n k.others;
    begins = k.begins;
    runs = λ life is.
        let was = k.runs life (sym (ap (λ (f : ℕ → Option Life). f n.0) same.lives) ∙ is) in
        (alike-stage s r q same n life.proc ∙ was.0, was.1, was.2);
  }

  -- NOTICES that hand nothing over
  less-hears : (cs : Contexts C) (q : Readings) (m : Note) → IsLess s r q m → (n : ActNo) → LivesHear look s r n u bs cs → LivesHear look s q n u bs cs
  less-hears cs q m i n k = record {
    holds = less-holds s r q m u bs i k.holds;
    others = less-rests s r q m u bs i look cs n k.others;
    begins = k.begins;
    runs = λ l here.
        let was = k.runs l (sym (less-lives s r q m u bs i n) ∙ here) in (less-stage s r q m u bs i n l.proc ∙ was.0, was.1, was.2);
  }

  pub add-hears : (cs : Contexts C) (w : WorkloadView) (p : ProcNo) (n : ActNo) (number : ℕ) (z : ProcNo) → LivesHear look s r n u bs cs
      → LivesHear look s (after_record w number p r (records.Told (Add z))) n u bs cs
  add-hears cs w p n number z k = less-hears cs (after_record w number p r (records.Told (Add z))) (Add z) (add-less w s r p number z) n k

  pub blocked-hears : (cs : Contexts C) (w : WorkloadView) (p : ProcNo) (n : ActNo) (number : ℕ) (z : ActNo) → LivesHear look s r n u bs cs
      → LivesHear look s (after_record w number p r (records.Told (Blocked z))) n u bs cs
  blocked-hears cs w p n number z k =
      less-hears cs (after_record w number p r (records.Told (Blocked z))) (Blocked z) (blocked-less w s r p number z) n k

-- NOTICES of a stop or a return of activation b, whose context d is handed over
module _ {C : Type 0} (look : C → View) (s : Setting) (e : ℕ) (r : Readings) (u : Package) (bs : Contexts Context) (cs : Contexts C)
    (h : IsStanding s e u bs) (n b : ActNo) (k : LivesHear look s.space r n u bs cs) (ss : List Frame) (wk : Option ThreadNo) (d : Context)
    (is : bs n.0 ≡ Some (record { state = Work None; sections = ss; work = wk })) (theirs : bs b.0 ≡ Some d) (differ : b.0 ≢ n.0)
    (life : Life) (there : life_of r b ≡ Some life) (upped : r.upped ≡ Some n) (w : WorkloadView) (p : ProcNo) (number : ℕ) where
  pub hand-hears : (kind : Bool) → Contains (untold_of r s.space) (note_of kind b) → (new : C)
      → LivesHear look s.space (after_record w number p r (records.Told (note_of kind b))) n
      (took_over u (record { state = Work None; sections = ss; work = wk }) d).user
      (put (put bs n.0 (Some (took_over u (record { state = Work None; sections = ss; work = wk }) d).ctx)) b.0 None) (put (put cs n.0 (Some new)) b.0 None)
  hand-hears kind told new =
      let c : Context = record { state = Work None; sections = ss; work = wk } in
      let mixed = (took_over u c d).ctx in
      let q = after_record w number p r (records.Told (note_of kind b)) in
      let its = k.holds.lives n c is in
      let mine = its.0 in
      let runs = k.runs mine its.1 in
      record {
        holds = told-holds s e u bs h s.space r k.holds n b ss wk d is theirs differ w number p mine life its.1 there upped runs.0 kind told;
        others = others-rest_handed look s.space r q n b cs (put (put cs n.0 (Some new)) b.0 None) (put-same (put cs n.0 (Some new)) b.0 None)
            (λ x ne nb. put-other (put cs n.0 (Some new)) b.0 x.0 None nb ∙ put-other cs n.0 x.0 (Some new) ne)
            (λ x ne nb. live_x s e u bs h s.space r k.holds n b ss wk d is theirs differ w number p mine life its.1 there upped runs.0 kind told x.0 ne nb)
            (λ x y ne nb. stage_kept s e u bs h s.space r k.holds n b ss wk d is theirs differ w number p mine life its.1 there upped runs.0 kind told x y nb)
            k.others;
        begins = λ y at. ap (λ (z : Context). z.state) (sym (same_Some mixed y
            (sym (put-other (put bs n.0 (Some mixed)) b.0 n.0 None (λ x. differ (sym x)) ∙ put-same bs n.0 (Some mixed)) ∙ at)));
        runs = λ l here.
            let one : inherits life mine ≡ l = same_Some (inherits life mine) l
            (sym (live_a s e u bs h s.space r k.holds n b ss wk d is theirs differ w number p mine life its.1 there upped runs.0 kind told) ∙ here) in
            subst (λ (z : Life). (stage_of q s.space n z ≡ Runs) × (z.freed ≡ false) × (z.scans ≡ 0)) one
            (stage_now s e u bs h s.space r k.holds n b ss wk d is theirs differ w number p mine life its.1 there upped runs.0 kind told, runs.1, runs.2);
      }
