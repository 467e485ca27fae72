-- A thread that a context has beside the one that it carries.
use Rattle.std.proofs.Common.{◌≡◌, ℕ, ◌+◌, ◌≤◌, ◌<◌, Bool, true, false, ◌||◌, length, Contains, Option, Some, None, refl, sym, ap, ◌∙◌, subst, ◌⊎◌, inl, inr, arith}
use Rattle.std.specs.Prelude.{◌&&◌, ◌==◌, if◌then◌else◌}
use Rattle.std.proofs.lemmas.Bool.{cases_eq}
use Rattle.std.proofs.lemmas.Option.{same_Some}
use Rattle.sa_base.specs.declared.number.ActNo.{ActNo}
use Rattle.sa_base.specs.declared.number.SpaceNo.{SpaceNo}
use Rattle.sa_base.specs.declared.number.ThreadNo.{ThreadNo}
use Rattle.sa_links.specs.Lists.{count_in}
use Rattle.sa_sync.specs.Sync.{waits_of}
use Rattle.sa_fast.specs.Rest.{one_where, is_ready, is_unmade, is_carried, place_at, threads_at_rest}
use Rattle.sa_fast.specs.Threads.{is_done, is_loaded}
use Rattle.sa_fast.specs.Work.{work_of}
use Rattle.sa_fast.specs.declared.threads.KeptPlace.{KeptPlace}
use Rattle.sa_fast.specs.declared.threads.KeptPlace.TheVariants as kept
use Rattle.sa_abstract.specs.Calls.{Contexts}
use Rattle.sa_abstract.specs.Setting.{Setting}
use Rattle.sa_package_model.proofs.Holding.{thread_once, own_rest, own_made, own_below}
use Rattle.sa_package_model.proofs.PlaceFacts.{own_beside}
use Rattle.sa_package_model.specs.Context.{section_in}
use Rattle.sa_package_model.specs.Hands.{threads_of}
use Rattle.sa_package_model.specs.Stands.{IsStanding}
use Rattle.sa_package_model.specs.declared.context.Context.{Context}
use Rattle.sa_package_model.specs.declared.package.Package.{Package}
use Rattle.sa_laws.specs.Life.{Life}
use Rattle.sa_laws.specs.Locks.{HoldsLock}
use Rattle.sa_laws.specs.Readings.{Readings, life_of, counts}
use Rattle.sa_laws.specs.State.{space_at, thread_in, thread_at, is_due, is_active, is_carried as is_put, is_waiting as waits}
use Rattle.sa_laws.specs.Step.{CanBeReady}
use Rattle.sa_laws.specs.declared.place.Place.{Place}
use Rattle.sa_laws.specs.declared.place.Place.TheVariants as place
use Rattle.sa_fast_laws.proofs.relation.Hands.{split}
use Rattle.sa_fast_laws.proofs.relation.InCode.{among_locks, locked_less, threads_locked}
use Rattle.sa_fast_laws.proofs.relation.OneLife.{other_none}
use Rattle.sa_fast_laws.specs.FastFits.{Holds, SitsIn}
use Rattle.sa_fast_laws.specs.Life.{locks_had, pushed_in, beside, carried, HasLife}
use Rattle.sa_fast_laws.specs.Stage.{stage_of}
use Rattle.sa_fast_laws.specs.View.{view, in_copy}

-- a place that is none of these is one of the other two
left_places : (p : KeptPlace) → is_ready p ≡ false → is_carried p ≡ false → is_done p ≡ false → is_unmade p ≡ false
    → (p ≡ kept.Waiting) ⊎ (p ≡ kept.Carried)
left_places kept.Waiting a b c d = inl refl
left_places kept.Carried a b c d = inr refl
left_places _ a b c d = absurd cc

no_one : (b : Bool) → one_where b ≡ 0 → b ≡ false
no_one true e = absurd (omega arith)
no_one false e = refl

abbrev pub zero_if : Bool → ℕ
zero_if b = if b then 0 else 1

not_held : (b : Bool) → zero_if b ≡ 1 → b ≡ false
not_held true e = absurd (omega arith)
not_held false e = refl

module _ (set : Setting) (e : ℕ) (u : Package) (cs : Contexts Context) (h : IsStanding set e u cs) (s : SpaceNo) (r : Readings) (k : Holds s r u cs)
    (a : ActNo) (c : Context) (is : cs a.0 ≡ Some c) where
  -- A THREAD BESIDE THE CONTEXT waits in no queue, or is carried: so it counts, and is not of the load
  module _ (t : ThreadNo) (has : 1 ≤ beside u.shared.works (view c) t.0) where
    mine : 1 + carried (view c) t.0 ≤ threads_of u.shared.works (Some c) t.0
    mine = let all = split u.shared.works c t.0 in omega arith

    rests : threads_at_rest u.shared t.0 ≡ 0
    rests = own_rest set e u cs h a.0 c is t.0 (let some = mine in omega arith)

    pub beside_made : t.0 < u.shared.state.lists.made
    beside_made = own_made set e u cs h a.0 c is t.0 (let some = mine in omega arith)

    pub beside_below : t.0 < length u.shared.threads
    beside_below = let below = own_below set e u cs h a.0 c is t.0 (let some = mine in omega arith) in let all = h.parts.blocks in omega arith

    pub beside_kept : (place_at u.shared t.0 ≡ kept.Waiting) ⊎ (place_at u.shared t.0 ≡ kept.Carried)
    beside_kept =
        let none = rests in let agrees = h.places t.0 in
        let one = own_beside set e u cs h a.0 c is t.0 mine in
        left_places (place_at u.shared t.0) (no_one _ (let is = agrees.ready in omega arith)) (not_held _ one) (no_one _ (let is = agrees.ends in omega arith))
        (no_one _ (let is = agrees.new in omega arith))

    pub beside_unloaded : is_loaded (place_at u.shared t.0) ≡ false
    beside_unloaded = elim beside_kept [ inl at ↦ ap is_loaded at | inr at ↦ ap is_loaded at ]

    sits : SitsIn (place_at u.shared t.0) (thread_in (space_at r.state s) t).place
    sits = (k.space.threads t beside_made).place

    pub beside_place : ((thread_at r.state s t).place ≡ place.Waiting) ⊎ ((thread_at r.state s t).place ≡ place.Carried)
    beside_place = elim beside_kept [
      | inl at ↦ inl (subst (λ p. SitsIn p (thread_in (space_at r.state s) t).place) at sits)
      | inr at ↦ inr (subst (λ p. SitsIn p (thread_in (space_at r.state s) t).place) at sits)
    ]

    nowhere : waits_of (space_at r.state s).sync t.0 ≡ 0
    nowhere = ap (λ x. waits_of x t.0) k.space.sync ∙ (let none = rests in omega arith)

    is_due_now : (thread_at r.state s t).place ≡ place.Waiting → is_due (space_at r.state s) t ≡ true
    is_due_now at = due_now (thread_at r.state s t).place (waits_of (space_at r.state s).sync t.0) at nowhere where
      due_now : (p : Place) (n : ℕ) → p ≡ place.Waiting → n ≡ 0 → (waits p && (n == 0)) ≡ true
      due_now p n at none = ap (λ q. waits q && (n == 0)) at ∙ ap (λ m. m == 0) none

    pub beside_ready : CanBeReady r.state s t
    beside_ready = elim beside_place [ inl at ↦ inr (is_due_now at) | inr at ↦ inl at ]

    pub beside_counts : counts (space_at r.state s) t ≡ true
    beside_counts = elim beside_place [
      | inl at ↦ ap (λ p. is_put p || is_due (space_at r.state s) t) at ∙ is_due_now at
      | inr at ↦ ap (λ p. is_put p || is_due (space_at r.state s) t) at
    ]

    pub beside_inactive : is_active (thread_at r.state s t).place ≡ false
    beside_inactive = elim beside_place [ inl at ↦ ap is_active at | inr at ↦ ap is_active at ]

    -- one that no section has holds no lock
    pub beside_free : 1 ≤ pushed_in (section_in c.state) t.0 + count_in t.0 (work_of u.shared.works c.work) → HoldsLock r s t → ⊥
    beside_free loose holds = by (cs holds.act.0) refl where
      by : (o : Option Context) → cs holds.act.0 ≡ o → ⊥
      by None none =
          let bare = k.others holds.act holds.life holds.is holds.space none in
          let inside : holds.among.0 < length holds.life.locks = holds.among.1 in
          let empty : length holds.life.locks ≡ 0 = ap length bare.locks in omega arith
      by (Some d) there =
          let its = k.lives holds.act d there in
          let one : its.0 ≡ holds.life = same_Some its.0 holds.life (sym its.1 ∙ holds.is) in
          let locks : holds.life.locks ≡ locks_had (view d) = ap (λ (x : Life). x.locks) (sym one) ∙ its.2.locks in
          let some =
          among_locks (in_copy d.state) (section_in d.state) d.sections holds.lock t (subst (λ ls. Contains ls holds.lock) locks holds.among) holds.thread in
          let less = locked_less u.shared.works d t.0 in
          elim (cases_eq holds.act.0 a.0) [
            | inl same ↦
                let is_c : d ≡ c = same_Some d c (sym there ∙ ap cs same ∙ is) in
                let some_c : 1 ≤ threads_locked (section_in c.state) c.sections t.0 =
                subst (λ (x : Context). 1 ≤ threads_locked (section_in x.state) x.sections t.0) is_c some in
                let less_c = locked_less u.shared.works c t.0 in let once = thread_once set e u cs h a.0 c is t.0 in omega arith
            | inr ne ↦ let none = other_none set e u cs h s r k a c is holds.act.0 d there ne t.0 (omega arith) in let mine_is = mine in omega arith
          ]

-- the life of a context
pub life-here : (s : SpaceNo) (r : Readings) (u : Package) (cs : Contexts Context) → Holds s r u cs → (a : ActNo) (c : Context) (life : Life)
    → cs a.0 ≡ Some c → life_of r a ≡ Some life
    → HasLife s u.shared (space_at r.state s) (stage_of r s a life) (view c) life
life-here s r u cs k a c life is at =
    let its = k.lives a c is in
    subst (λ l. HasLife s u.shared (space_at r.state s) (stage_of r s a l) (view c) l) (same_Some its.0 life (sym its.1 ∙ at)) its.2
