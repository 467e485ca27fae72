-- A thread that is left waits in a queue, where no life is in and each context runs, or its stop or its return is untold.
use Rattle.std.proofs.Common.{◌≡◌, ℕ, ◌+◌, ◌≤◌, ◌<◌, Bool, true, false, ◌||◌, List, [], ◌∷◌, length, Option, Some, None, is_some, IsSome, Contains, refl, sym, ap, ◌∙◌, subst, inl, inr, arith, ◌⊎◌}
use Rattle.std.specs.Prelude.{if◌then◌else◌}
use Rattle.std.proofs.lemmas.Bool.{cases_lt}
use Rattle.sa_base.specs.declared.number.ActNo.{ActNo}
use Rattle.sa_base.specs.declared.number.ProcNo.{ProcNo}
use Rattle.sa_base.specs.declared.number.SpaceNo.{SpaceNo}
use Rattle.sa_base.specs.declared.number.ThreadNo.{ThreadNo}
use Rattle.sa_base.specs.declared.record.Note.TheVariants.{Preempted, Unblocked}
use Rattle.sa_links.specs.Lists.{count_in, count_in_all}
use Rattle.sa_sync.specs.Sync.{Sync, Waits, waits_of}
use Rattle.sa_code.specs.declared.state.Frame.{Frame}
use Rattle.sa_fast.specs.Rest.{AgreesBy, done_at, unmade_at, is_unmade, is_carried, not_carried, place_at}
use Rattle.sa_fast.specs.Work.{work_of}
use Rattle.sa_fast.specs.declared.threads.KeptPlace.{KeptPlace}
use Rattle.sa_fast.specs.declared.threads.KeptPlace.TheVariants as kept
use Rattle.sa_abstract.specs.Calls.{Contexts}
use Rattle.sa_abstract.specs.Setting.{Setting}
use Rattle.sa_package_model.specs.Context.{section_in, stands_inside, has_some}
use Rattle.sa_package_model.specs.Hands.{threads_in, threads_of, carried_of}
use Rattle.sa_package_model.specs.Stands.{IsStanding}
use Rattle.sa_package_model.specs.declared.context.Context.{Context}
use Rattle.sa_package_model.specs.declared.context.ContextState.{ContextState}
use Rattle.sa_package_model.specs.declared.context.ContextState.TheVariants.{Code, Work, Hint, Return, User, Look}
use Rattle.sa_package_model.specs.declared.package.Package.{Package}
use Rattle.sa_laws.specs.Ends.{is_done, is_at_rest}
use Rattle.sa_laws.specs.Life.{Life}
use Rattle.sa_laws.specs.Readings.{Readings, running_of, life_of, untold_of}
use Rattle.sa_laws.specs.Record.{same_note}
use Rattle.sa_laws.specs.State.{space_at, thread_in}
use Rattle.sa_fast_laws.proofs.relation.Hands.{split}
use Rattle.sa_lemmas.proofs.Searches.{any-contained}
use Rattle.sa_fast_laws.proofs.relation.Notices.{same-self}
use Rattle.sa_fast_laws.proofs.relation.Runners.{IsCarrier, carrier-of, made-kept}
use Rattle.sa_fast_laws.specs.FastFits.{SitsIn, Holds}
use Rattle.sa_fast_laws.specs.Life.{pushed_in, beside}
use Rattle.sa_fast_laws.specs.Rests.{IsBasedOn, Rests}
use Rattle.sa_fast_laws.specs.Stage.{Stage, Runs, InBlock, Stopped, Returned, stage_by, stage_of, is_gone, is_running, place_of}
use Rattle.sa_fast_laws.specs.View.{View, view, has_left, left_at}

-- an activation of the space runs, or its stop or its return is untold
abbrev pub IsOnItsWay : Readings → SpaceNo → ActNo → Type 0
IsOnItsWay r s a = ((p : ProcNo) × (running_of r p ≡ Some a)) ⊎ (Contains (untold_of r s) (Preempted a) ⊎ Contains (untold_of r s) (Unblocked a))

-- A context outside the package has no thread beside its own.
nothing-left : (works : List (List ℕ)) (fs : List Frame) (work : Option ThreadNo) (t : ℕ) → (has_some fs || is_some work) ≡ false
    → threads_in fs t + count_in t (work_of works work) ≡ 0
nothing-left works [] None t none = refl
nothing-left works [] (Some first) t none = absurd cc
nothing-left works (f ∷ fs) work t none = absurd cc

nothing-beside : (works : List (List ℕ)) (state : ContextState) (fs : List Frame) (work : Option ThreadNo) (t : ℕ) → stands_inside state ≡ false
    → (has_some fs || is_some work) ≡ left_at state (has_some fs || is_some work)
    → pushed_in (section_in state) t + threads_in fs t + count_in t (work_of works work) ≡ 0
nothing-beside works (Code f) fs work t out left = absurd cc
nothing-beside works (Work o) fs work t out left = absurd cc
nothing-beside works (Hint o) fs work t out left = absurd cc
nothing-beside works Return fs work t out left = absurd cc
nothing-beside works (User n) fs work t out left = let none = nothing-left works fs work t left in omega (arith, none)
nothing-beside works (Look looks) fs work t out left = let none = nothing-left works fs work t left in omega (arith, none)

-- The stage of a life whose thread is at rest, and of one whose stop or return is untold.
blocked-at : (g : Stage) (p : ProcNo) → is_at_rest (place_of g p) ≡ true → g ≡ InBlock
blocked-at Runs p rest = absurd cc
blocked-at InBlock p rest = refl
blocked-at Stopped p rest = absurd cc
blocked-at Returned p rest = absurd cc

gone-by : (stopped returned runs : Bool) → (stopped ≡ true) ⊎ (returned ≡ true) → is_gone (stage_by stopped returned runs) ≡ true
gone-by true returned runs one = refl
gone-by false true runs one = refl
gone-by false false runs (inl is) = absurd cc
gone-by false false runs (inr is) = absurd cc

module _ (s : Setting) (e : ℕ) (r : Readings) (u : Package) (cs : Contexts Context) (h : IsStanding s e u cs) (k : Holds s.space r u cs) where
  -- A thread that a context carries is not at rest.
  module _ (ways : (a : ActNo) → IsSome (cs a.0) → IsOnItsWay r s.space a) where
    not-blocked : (a : ActNo) (life : Life) → life_of r a ≡ Some life → life.space ≡ s.space → IsOnItsWay r s.space a
        → stage_of r s.space a life ≡ InBlock → ⊥
    not-blocked a life is mine (inl runs) at =
        let no_such : is_running Runs ≡ is_running InBlock = ap is_running (sym (k.runs runs.0 a life runs.1 is mine).2 ∙ at) in cc
    not-blocked a life is mine (inr (inl has)) at =
        let here = any-contained (same_note (Preempted a)) (Preempted a) (untold_of r s.space) has (same-self true a) in
        let no_such : true ≡ is_gone InBlock = sym (gone-by _ _ _ (inl here)) ∙ ap is_gone at in cc
    not-blocked a life is mine (inr (inr has)) at =
        let here = any-contained (same_note (Unblocked a)) (Unblocked a) (untold_of r s.space) has (same-self false a) in
        let no_such : true ≡ is_gone InBlock = sym (gone-by _ _ _ (inr here)) ∙ ap is_gone at in cc

    carried-stirs : (t : ThreadNo) → IsCarrier s.space r u cs t → is_at_rest (thread_in (space_at r.state s.space) t).place ≡ true → ⊥
    carried-stirs t c rest =
        not-blocked c.act c.life c.is c.space (ways c.act (subst IsSome (sym c.mine) refl))
        (sym c.stage_is ∙ blocked-at c.stage c.life.proc (sym (ap is_at_rest c.place) ∙ rest))

  module _ {C : Type 0} (look : C → View) (base : C → Context) (ds : Contexts C) (on : IsBasedOn look base cs ds) (rests : Rests look s.space r ds)
      (out : (c : C) → (look c).inside ≡ false → stands_inside (base c).state ≡ false)
      (left : (c : C) → has_left (look c) ≡ (look c).left → has_left (view (base c)) ≡ (view (base c)).left)
      (none-in : (a : ActNo) (life : Life) → life_of r a ≡ Some life → life.inside ≡ false) where
    -- NO CONTEXT HAS a thread beside its own
    none-beside : (a : ActNo) (b : Context) (t : ℕ) → cs a.0 ≡ Some b → beside u.shared.works (view b) t ≡ 0
    none-beside a b t there =
        let its = k.lives a b there in
        let d = on.up a.0 b there in
        let marks = (rests a d.0 its.0 d.1 its.1).marks in
        subst (λ (c : Context). beside u.shared.works (view c) t ≡ 0) d.2
        (nothing-beside u.shared.works (base d.0).state (base d.0).sections (base d.0).work t
        (out d.0 (sym marks.inside ∙ none-in a its.0 its.1)) (left d.0 marks.left))

    -- so a thread that waits is in a queue
    module _ (t : ThreadNo) (at : place_at u.shared t.0 ≡ kept.Waiting) where
      agrees : AgreesBy (count_in_all t.0 u.shared.state.lists.lists) (waits_of u.shared.sync t.0) (done_at u.shared.sync t.0)
          (unmade_at u.shared.state.lists t.0) kept.Waiting
      agrees = subst (AgreesBy (count_in_all t.0 u.shared.state.lists.lists) (waits_of u.shared.sync t.0) (done_at u.shared.sync t.0)
          (unmade_at u.shared.state.lists t.0)) at (h.places t.0)

      alone : not_carried u.shared t.0 ≡ 1
      alone = ap (λ (p : KeptPlace). if is_carried p then 0 else 1) at

      in-hand : (a : ℕ) (o : Option Context) → cs a ≡ o → 1 ≤ threads_of u.shared.works o t.0 → ⊥
      in-hand a None is some = absurd (omega arith)
      in-hand a (Some c) is some =
          let all = split u.shared.works c t.0 in
          let none = none-beside (record { 0 = a }) c t.0 is in
          let once = subst (λ (o : Option Context). not_carried u.shared t.0 + carried_of o t.0 ≤ 1) is (h.carries.once a t.0) in
          let one = alone in
          omega (arith, all, none, once, one, some)

      queued : 1 ≤ waits_of u.shared.sync t.0
      queued = elim (cases_lt (waits_of u.shared.sync t.0) 1) [
        | inr more ↦ more
        | inl less ↦
            let is = agrees in let listed = is.ready in let ends = is.ends in let new = is.new in
            let found = h.threads.somewhere t.0 (omega (arith, less, listed, ends, new)) in
            absurd (in-hand found.0 (cs found.0) refl found.1)
      ]

    -- A THREAD THAT IS LEFT WAITS
    pub rest-waits : ((a : ActNo) → IsSome (cs a.0) → IsOnItsWay r s.space a) → (t : ThreadNo) → t.0 < length (space_at r.state s.space).threads
        → is_at_rest (thread_in (space_at r.state s.space) t).place ≡ true → is_done (thread_in (space_at r.state s.space) t).place ≡ false
        → Waits (space_at r.state s.space).sync t.0
    rest-waits ways t below rest left = by (place_at u.shared t.0) refl (k.space.threads t made).place where
      made : t.0 < u.shared.state.lists.made
      made = let all = k.space.made in omega (arith, all, below)

      by : (p : KeptPlace) → place_at u.shared t.0 ≡ p → SitsIn p (thread_in (space_at r.state s.space) t).place
          → Waits (space_at r.state s.space).sync t.0
      by kept.Unmade at sits = absurd (let no_such : true ≡ false = sym (ap is_unmade at) ∙ made-kept s e u cs h t.0 made in cc)
      by kept.Ready at sits = absurd (let no_such : false ≡ true = sym (ap is_at_rest sits) ∙ rest in cc)
      by kept.Running at sits = absurd (carried-stirs ways t (carrier-of s e u cs h s.space r k t (ap is_carried at)) rest)
      by kept.Waiting at sits = subst (λ (x : Sync). 1 ≤ waits_of x t.0) (sym k.space.sync) (queued t at)
      by kept.Blocked at sits = absurd (carried-stirs ways t (carrier-of s e u cs h s.space r k t (ap is_carried at)) rest)
      by kept.Carried at sits = absurd (let no_such : false ≡ true = sym (ap is_at_rest sits) ∙ rest in cc)
      by kept.Done at sits = absurd (let no_such : true ≡ false = sym (ap is_done sits) ∙ left in cc)
