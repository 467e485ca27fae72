-- Notices that hand nothing over, of a processor more and of a block, leave lives as they are.
use Rattle.std.proofs.Common.{◌≡◌, ℕ, Bool, true, false, List, [], ◌∷◌, Option, None, slice_index_or, refl, sym, ap, ◌∙◌, subst, inl, inr, arith, sum_by, Contains, filter, count_by}
use Rattle.std.specs.Prelude.{◌≤◌, if◌then◌else◌}
use Rattle.std.proofs.lemmas.List.Sums.{sum_by-cons}
use Rattle.std.specs.List.{list_any}
use Rattle.sa_base.specs.declared.number.ActNo.{ActNo}
use Rattle.sa_base.specs.declared.number.ProcNo.{ProcNo}
use Rattle.sa_base.specs.declared.number.SpaceNo.{SpaceNo}
use Rattle.sa_base.specs.declared.record.Note.{Note}
use Rattle.sa_base.specs.declared.record.Note.TheVariants.{Add, Preempted, Blocked, Unblocked}
use Rattle.sa_base.specs.declared.record.Record.TheVariants as records
use Rattle.sa_spaces.specs.Workload.{WorkloadView}
use Rattle.sa_lemmas.proofs.ListReads.{map-list}
use Rattle.sa_abstract.specs.Calls.{Contexts}
use Rattle.sa_package_model.specs.declared.context.Context.{Context}
use Rattle.sa_package_model.specs.declared.package.Package.{Package}
use Rattle.sa_laws.specs.Life.{Life}
use Rattle.sa_laws.specs.Readings.{Readings, running_of, life_of, untold_of, stopped_thread, untold_thread}
use Rattle.sa_laws.specs.Record.{after_record, same_note, is_other_note}
use Rattle.sa_laws.specs.State.{space_at, active_threads}
use Rattle.sa_fast_laws.proofs.relation.NoteLists.{notes-same}
use Rattle.sa_fast_laws.proofs.relation.Notices.{any-filter, tells, contained-fails, count-without}
use Rattle.sa_fast_laws.specs.FastFits.{Holds, is_of, FitsShared}
use Rattle.sa_fast_laws.specs.Life.{HasLife}
use Rattle.sa_fast_laws.specs.Stage.{stage_on, stage_of, stage_by, is_act}
use Rattle.sa_fast_laws.specs.View.{View, view}
use Rattle.sa_fast_laws.specs.Rests.{RestBut}
use Rattle.sa_fast_laws.proofs.lives.Rests.{others-rest}

filter-sum : (f : Note → ℕ) (keep : Note → Bool) (xs : List Note) → ((y : Note) → keep y ≡ false → f y ≡ 0) → sum_by f (filter keep xs) ≡ sum_by f xs
filter-sum f keep [] none = refl
filter-sum f keep (x ∷ xs) none = by (filter-sum f keep xs none) (keep x) refl where
  by : sum_by f (filter keep xs) ≡ sum_by f xs → (b : Bool) → keep x ≡ b
      → sum_by f (if keep x then x ∷ filter keep xs else filter keep xs) ≡ sum_by f (x ∷ xs)
  by rest true e =
      ap (λ b. sum_by f (if b then x ∷ filter keep xs else filter keep xs)) e
      ∙ (let one = sum_by-cons f x (filter keep xs) in let all = sum_by-cons f x xs in
      let sum : sum_by f (x ∷ filter keep xs) ≡ sum_by f (x ∷ xs) = omega arith in sum)
  by rest false e =
      ap (λ b. sum_by f (if b then x ∷ filter keep xs else filter keep xs)) e
      ∙ (let zero_is = none x e in let all = sum_by-cons f x xs in let sum : sum_by f (filter keep xs) ≡ sum_by f (x ∷ xs) = omega arith in sum)

-- one notice less, of nobody's stop or unblock
pub record IsLess (s : SpaceNo) (r q : Readings) (m : Note) : Type 0 where
  pub state : q.state ≡ r.state
  pub ready : q.ready ≡ r.ready
  pub running : q.running ≡ r.running
  pub lives : q.lives ≡ r.lives
  pub untold : untold_of q s ≡ filter (is_other_note m) (untold_of r s)
  pub none : (y : Note) → is_other_note m y ≡ false → untold_thread r y ≡ 0
  pub stops : (x : ActNo) (y : Note) → same_note (Preempted x) y ≡ true → is_other_note m y ≡ true
  pub backs : (x : ActNo) (y : Note) → same_note (Unblocked x) y ≡ true → is_other_note m y ≡ true

module _ (s : SpaceNo) (r q : Readings) (m : Note) (u : Package) (cs : Contexts Context) (i : IsLess s r q m) where
  pub less-stage : (x : ActNo) (y : ProcNo) → stage_on q s x y ≡ stage_on r s x y
  less-stage x y =
      ap (λ ns. stage_by (list_any (same_note (Preempted x)) ns) (list_any (same_note (Unblocked x)) ns) (is_act x (running_of q y))) i.untold
      ∙ ap (λ b. stage_by b (list_any (same_note (Unblocked x)) (filter (is_other_note m) (untold_of r s))) (is_act x (running_of q y)))
      (any-filter (same_note (Preempted x)) (is_other_note m) (untold_of r s) (i.stops x))
      ∙ ap (λ b. stage_by (list_any (same_note (Preempted x)) (untold_of r s)) b (is_act x (running_of q y)))
      (any-filter (same_note (Unblocked x)) (is_other_note m) (untold_of r s) (i.backs x))
      ∙ ap
      (λ ps. stage_by (list_any (same_note (Preempted x)) (untold_of r s)) (list_any (same_note (Unblocked x)) (untold_of r s))
      (is_act x (slice_index_or ps y.0 None))) i.running

  pub less-lives : (x : ActNo) → life_of q x ≡ life_of r x
  less-lives x = ap (λ (f : ℕ → Option Life). f x.0) i.lives

  pub less-holds : Holds s r u cs → Holds s q u cs
  less-holds k = record {
    space = subst (λ z. FitsShared u.shared (space_at z s)) (sym i.state) k.space;
    load =
        let one : sum_by (untold_thread q) (untold_of q s) ≡ sum_by (untold_thread q) (filter (is_other_note m) (untold_of r s)) =
        ap (sum_by (untold_thread q)) i.untold in
        let two = filter-sum (untold_thread q) (is_other_note m) (untold_of r s) (λ y e. untold_is y ∙ i.none y e) in
        let three = notes-same r q (untold_of r s) (λ b has. ap stopped_thread (less-lives b)) in
        let active : active_threads (space_at q.state s) ≡ active_threads (space_at r.state s) = ap (λ z. active_threads (space_at z s)) i.state in
        let was = k.load in omega arith;
    lives = λ x d at. let its = k.lives x d at in (
      its.0,
      less-lives x ∙ its.1,
      subst (λ z. HasLife s u.shared (space_at z s) (stage_of q s x its.0) (view d) its.0) (sym i.state)
          (subst (λ g. HasLife s u.shared (space_at r.state s) g (view d) its.0) (sym (less-stage x its.0.proc)) its.2),
    );
    others = λ x l at of none. k.others x l (sym (less-lives x) ∙ at) of none;
    noted = λ x there. k.noted x (elim there [
      | inl stop ↦ inl (contained-fails (tells m) (Preempted x) (untold_of r s) (subst (λ ns. Contains ns (Preempted x)) i.untold stop)).0
      | inr back ↦ inr (contained-fails (tells m) (Unblocked x) (untold_of r s) (subst (λ ns. Contains ns (Unblocked x)) i.untold back)).0
    ]);
    single =
        λ x. subst (λ ns. count_by (is_of x) ns ≤ 1) (sym i.untold)
        (let less = count-without (tells m) (is_of x) (untold_of r s) in let was = k.single x in omega arith);
    runs = λ y x l at its of.
        let old =
        k.runs y x l (sym (ap (λ ps. slice_index_or ps y.0 None) i.running) ∙ at) (sym (less-lives x) ∙ its) of in (old.0, old.1, less-stage x l.proc ∙ old.2);
  } where
    untold_is : (y : Note) → untold_thread q y ≡ untold_thread r y
    untold_is (Preempted b) = ap stopped_thread (less-lives b)
    untold_is _ = refl

  pub less-rests : {C : Type 0} (look : C → View) (ds : Contexts C) (n : ActNo) → RestBut look s r n ds → RestBut look s q n ds
  less-rests look ds n rest = others-rest look s r q n ds ds (λ x ne. refl) (λ x ne. less-lives x) (λ x y ne. less-stage x y) rest

-- a processor was added, or an activation blocked
module _ (w : WorkloadView) (s : SpaceNo) (r : Readings) (p : ProcNo) (number : ℕ) where
  pub add-less : (z : ProcNo) → IsLess s r (after_record w number p r (records.Told (Add z))) (Add z)
  add-less z = record {
    state = refl;
    ready = refl;
    running = refl;
    lives = refl;
    untold = map-list (filter (is_other_note (Add z))) r.untold s.0 refl;
    none = none;
    stops = stops;
    backs = backs;
  } where
    none : (y : Note) → is_other_note (Add z) y ≡ false → untold_thread r y ≡ 0
    none (Preempted b) e = absurd cc
    none _ e = refl

    stops : (x : ActNo) (y : Note) → same_note (Preempted x) y ≡ true → is_other_note (Add z) y ≡ true
    stops x (Add y) e = absurd cc
    stops x _ e = refl

    backs : (x : ActNo) (y : Note) → same_note (Unblocked x) y ≡ true → is_other_note (Add z) y ≡ true
    backs x (Add y) e = absurd cc
    backs x _ e = refl

  pub blocked-less : (z : ActNo) → IsLess s r (after_record w number p r (records.Told (Blocked z))) (Blocked z)
  blocked-less z = record {
    state = refl;
    ready = refl;
    running = refl;
    lives = refl;
    untold = map-list (filter (is_other_note (Blocked z))) r.untold s.0 refl;
    none = none;
    stops = stops;
    backs = backs;
  } where
    none : (y : Note) → is_other_note (Blocked z) y ≡ false → untold_thread r y ≡ 0
    none (Preempted b) e = absurd cc
    none _ e = refl

    stops : (x : ActNo) (y : Note) → same_note (Preempted x) y ≡ true → is_other_note (Blocked z) y ≡ true
    stops x (Blocked b) e = absurd cc
    stops x _ e = refl

    backs : (x : ActNo) (y : Note) → same_note (Unblocked x) y ≡ true → is_other_note (Blocked z) y ≡ true
    backs x (Blocked b) e = absurd cc
    backs x _ e = refl
