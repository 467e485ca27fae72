-- Which threads can be made ready: the value's set is what is read, of threads that are due, or carried and heard of.
use Rattle.std.proofs.Common.{◌≡◌, ℕ, zero, suc, ◌+◌, ◌≤◌, Bool, true, false, not, ◌||◌, ◌&&◌, List, [], ◌∷◌, Contains, Option, Some, None, IsSome, ◌⊎◌, refl, sym, ap, ◌∙◌, subst, inl, inr, arith}
use Rattle.std.specs.Prelude.{◌==◌, if◌then◌else◌}
use Rattle.std.specs.List.{list_any}
use Rattle.std.proofs.lemmas.Bool.{cases_lt, eq-eqb, eqb-true}
use Rattle.std.proofs.lemmas.List.{get_or_past}
use Rattle.sa_base.specs.declared.number.ActNo.{ActNo}
use Rattle.sa_base.specs.declared.number.SpaceNo.{SpaceNo}
use Rattle.sa_base.specs.declared.number.ThreadNo.{ThreadNo}
use Rattle.sa_base.specs.declared.record.Note.{Note}
use Rattle.sa_base.specs.declared.record.Note.TheVariants.{Add, Preempted, Blocked, Unblocked}
use Rattle.sa_lemmas.proofs.Searches.{any-contained}
use Rattle.sa_sync.specs.Sync.{waits_of}
use Rattle.sa_fast.specs.Rest.{one_where, is_ready, is_unmade, is_carried as is_kept, place_at, done_at, unmade_at, not_carried, AgreesBy}
use Rattle.sa_fast.specs.declared.threads.KeptPlace.{KeptPlace}
use Rattle.sa_fast.specs.declared.threads.KeptPlace.TheVariants as fast
use Rattle.sa_abstract.specs.Calls.{Contexts}
use Rattle.sa_abstract.specs.Setting.{Setting}
use Rattle.sa_driven_model.specs.declared.context.DrivenContext.{DrivenContext}
use Rattle.sa_driven_model.specs.declared.space.DrivenSpace.{DrivenSpace}
use Rattle.sa_driven_model.specs.Threads.{has}
use Rattle.sa_driven_model.specs.Stands.{IsStanding, ready_at, handed_at}
use Rattle.sa_laws.specs.Any.{is_held_by, names_thread, is_heard, is_handed}
use Rattle.sa_laws.specs.Life.{Life}
use Rattle.sa_laws.specs.Readings.{Readings, running_of, life_of, untold_of}
use Rattle.sa_laws.specs.Record.{same_note, is_thread}
use Rattle.sa_laws.specs.State.{Thread, at_start, space_at, thread_in, is_carried, is_due, is_waiting}
use Rattle.sa_laws.specs.declared.place.Place.{Place}
use Rattle.sa_laws.specs.declared.place.Place.TheVariants as place
use Rattle.sa_laws.proofs.Notes.{same_note-itself}
use Rattle.sa_fast_laws.specs.FastFits.{SitsIn}
use Rattle.sa_fast_laws.specs.Stage.{Stage, Runs, InBlock, Stopped, Returned, stage_by, stage_of, is_act, is_gone, is_running, place_of, kept_of}
use Rattle.sa_driven_laws.specs.DrivenFits.{Holds}
use Rattle.sa_driven_laws.proofs.Changed.{life-here, IsNamed}
use Rattle.sa_driven_laws.proofs.Runners.{IsCarrier, carrier-of, made-kept, made-below}

-- a list of which some entry passes a test has one, and the other way about
pub any-found : {A : Type 0} (p : A → Bool) (xs : List A) → list_any p xs ≡ true → (x : A) × Contains xs x × (p x ≡ true)
any-found p [] is = absurd cc
any-found p (x ∷ xs) is = elim (p x) as (λ b. p x ≡ b → (y : _) × Contains (x ∷ xs) y × (p y ≡ true)) [
  | true ↦ λ at. (x, (zero, omega arith, refl), at)
  | false ↦ λ at.
      let rest = any-found p xs (sym (ap (λ b. b || list_any p xs) at) ∙ is) in
      let inside = rest.1.1 in (rest.0, (suc rest.1.0, omega (arith, inside), rest.1.2), rest.2)
] refl

pub any-not : {A : Type 0} (p : A → Bool) (xs : List A) → ((x : A) → Contains xs x → p x ≡ true → ⊥) → list_any p xs ≡ false
any-not p xs none = by (list_any p xs) refl where
  by : (b : Bool) → list_any p xs ≡ b → list_any p xs ≡ false
  by false is = is
  by true is = absurd (let found = any-found p xs is in none found.0 found.1 found.2)

abbrev zero_if : Bool → ℕ
zero_if b = if b then 0 else 1

-- THE STAGE of a life of which a notice waits
stops : (x y z : Bool) → x ≡ true → is_running (stage_by x y z) ≡ false
stops true y z e = refl
stops false y z e = absurd cc

returns : (x y z : Bool) → y ≡ true → is_running (stage_by x y z) ≡ false
returns true true z e = refl
returns false true z e = refl
returns _ false z e = absurd cc

noted-stage : (s : SpaceNo) (r : Readings) (a : ActNo) (life : Life) → IsNamed s r a → is_running (stage_of r s a life) ≡ false
noted-stage s r a life there = elim there [
  | inl stop ↦ stops (list_any (same_note (Preempted a)) (untold_of r s)) (list_any (same_note (Unblocked a)) (untold_of r s))
      (is_act a (running_of r life.proc)) (any-contained (same_note (Preempted a)) (Preempted a) (untold_of r s) stop (same_note-itself (Preempted a)))
  | inr back ↦ returns (list_any (same_note (Preempted a)) (untold_of r s)) (list_any (same_note (Unblocked a)) (untold_of r s))
      (is_act a (running_of r life.proc)) (any-contained (same_note (Unblocked a)) (Unblocked a) (untold_of r s) back (same_note-itself (Unblocked a)))
]

-- the notice of a stage
found-note : (kind : Bool) → (a : ActNo) (n : Note) → same_note (if kind then Preempted a else Unblocked a) n ≡ true → n ≡ (if kind then Preempted a else Unblocked a)
found-note true a (Preempted b) is = ap (λ j. Preempted (record { 0 = j })) (sym (eqb-true a.0 b.0 is))
found-note false a (Unblocked b) is = ap (λ j. Unblocked (record { 0 = j })) (sym (eqb-true a.0 b.0 is))
found-note true a _ is = absurd cc
found-note false a _ is = absurd cc

any-note : (kind : Bool) (a : ActNo) (ns : List Note) → list_any (same_note (if kind then Preempted a else Unblocked a)) ns ≡ true
    → Contains ns (if kind then Preempted a else Unblocked a)
any-note kind a ns is =
    let found = any-found (same_note (if kind then Preempted a else Unblocked a)) ns is in
    subst (Contains ns) (found-note kind a found.0 found.2) found.1

gone-noted : (x y z : Bool) → is_gone (stage_by x y z) ≡ true → (x ≡ true) ⊎ (y ≡ true)
gone-noted true y z e = inl refl
gone-noted false true z e = inr refl
gone-noted false false true e = absurd cc
gone-noted false false false e = absurd cc

gone-named : (s : SpaceNo) (r : Readings) (a : ActNo) (life : Life) → is_gone (stage_of r s a life) ≡ true → IsNamed s r a
gone-named s r a life gone = elim (gone-noted (list_any (same_note (Preempted a)) (untold_of r s)) (list_any (same_note (Unblocked a)) (untold_of r s))
    (is_act a (running_of r life.proc)) gone) [
      | inl stop ↦ inl (any-note true a (untold_of r s) stop)
      | inr back ↦ inr (any-note false a (untold_of r s) back)
    ]

-- the place of a thread that a context carries
gone-runs : (g : Stage) → is_gone g ≡ true → is_running g ≡ false
gone-runs Runs e = absurd cc
gone-runs _ e = refl

place-gone : (g : Stage) (p : _) → is_carried (place_of g p) ≡ is_gone g
place-gone Runs p = refl
place-gone InBlock p = refl
place-gone Stopped p = refl
place-gone Returned p = refl

place-waits : (g : Stage) (p : _) → is_waiting (place_of g p) ≡ false
place-waits Runs p = refl
place-waits InBlock p = refl
place-waits Stopped p = refl
place-waits Returned p = refl

kept-carried : (g : Stage) → is_kept (kept_of g) ≡ true
kept-carried Runs = refl
kept-carried InBlock = refl
kept-carried Stopped = refl
kept-carried Returned = refl

names-it : (r : Readings) (t : ThreadNo) (a : ActNo) (life : Life) → life_of r a ≡ Some life → life.thread ≡ Some t
    → is_held_by t (life_of r a) ≡ true
names-it r t a life is thread = ap (is_held_by t) is ∙ ap (is_thread t) thread ∙ eq-eqb t.0 t.0 refl

held-thread : (t : ThreadNo) (o : Option ThreadNo) → is_thread t o ≡ true → o ≡ Some t
held-thread t None is = absurd cc
held-thread t (Some n) is = ap (λ j. Some (record { 0 = j })) (sym (eqb-true t.0 n.0 is))

module _ (set : Setting) (e : ℕ) (u : DrivenSpace) (cs : Contexts DrivenContext) (h : IsStanding set e u cs) (s : SpaceNo) (r : Readings)
    (k : Holds s r u.base.shared cs) where
  -- A THREAD that no context carries is heard of
  named-kept : (t : ThreadNo) (a : ActNo) → IsNamed s r a → is_held_by t (life_of r a) ≡ true → is_kept (place_at u.base.shared t.0) ≡ true
  named-kept t a there held = by (cs a.0) refl (k.noted a there) where
    by : (o : Option DrivenContext) → cs a.0 ≡ o → IsSome (cs a.0) → is_kept (place_at u.base.shared t.0) ≡ true
    by None none some = absurd (let no_such = subst IsSome none some in cc)
    by (Some c) at some =
        let its = k.lives a c at in
        let thread : its.0.thread ≡ Some t = held-thread t its.0.thread (sym (ap (is_held_by t) its.1) ∙ held) in
        let named = its.2.named (noted-stage s r a its.0 there) in
        ap is_kept (its.2.kept t (sym named ∙ thread)) ∙ kept-carried (stage_of r s a its.0)

  pub heard-of : (t : ThreadNo) → is_kept (place_at u.base.shared t.0) ≡ false → is_heard r s t ≡ true
  heard-of t none = ap not (any-not (names_thread r t) (untold_of r s) (λ n has is. by n has is)) where
    by : (n : Note) → Contains (untold_of r s) n → names_thread r t n ≡ true → ⊥
    by (Add p) has is = cc
    by (Blocked b) has is = cc
    by (Preempted b) has is = let yes = named-kept t b (inl has) is in cc
    by (Unblocked b) has is = let yes = named-kept t b (inr has) is in cc

  -- One that a context carries cannot be made ready.
  unheard : (t : ThreadNo) (c : IsCarrier s r u cs t) → is_gone c.stage ≡ true → is_heard r s t ≡ false
  unheard t c gone =
      let named = gone-named s r c.act c.life (ap is_gone (sym c.stage_is) ∙ gone) in
      let thread : c.life.thread ≡ Some t =
      (life-here s r u.base.shared cs k c.act c.ctx c.life c.mine c.is).named (ap is_running (sym c.stage_is) ∙ gone-runs c.stage gone) ∙ c.carries in
      let it = names-it r t c.act c.life c.is thread in
      ap not (elim named [
        | inl stop ↦ any-contained (names_thread r t) (Preempted c.act) (untold_of r s) stop it
        | inr back ↦ any-contained (names_thread r t) (Unblocked c.act) (untold_of r s) back it
      ])

  carried-handed : (t : ThreadNo) → is_kept (place_at u.base.shared t.0) ≡ true → is_handed r s t ≡ false
  carried-handed t is =
      let c = carrier-of set e u cs h s r k t is in
      let x = thread_in (space_at r.state s) t in
      let due : is_due (space_at r.state s) t ≡ false =
      ap (λ p. is_waiting p && (waits_of (space_at r.state s).sync t.0 == 0)) c.place
      ∙ ap (λ b. b && (waits_of (space_at r.state s).sync t.0 == 0)) (place-waits c.stage c.life.proc) in
      ap (λ b. b || (is_carried x.place && is_heard r s t)) due ∙ ap (λ p. is_carried p && is_heard r s t) c.place
      ∙ ap (λ b. b && is_heard r s t) (place-gone c.stage c.life.proc) ∙ by c (is_gone c.stage) refl where
        by : (c : IsCarrier s r u cs t) (b : Bool) → is_gone c.stage ≡ b → (is_gone c.stage && is_heard r s t) ≡ false
        by c true gone = ap (λ b. b && is_heard r s t) gone ∙ unheard t c gone
        by c false gone = ap (λ b. b && is_heard r s t) gone

  one-is : (b : Bool) → one_where b ≡ 1 → b ≡ true
  one-is true is = refl
  one-is false is = absurd (omega (arith, is))

  none-is : (b : Bool) → one_where b ≡ 0 → b ≡ false
  none-is true is = absurd (omega (arith, is))
  none-is false is = refl

  -- THE SET is what is read
  pub handed-is : (t : ThreadNo) → has u.handed t.0 ≡ is_handed r s t
  handed-is t = by (place_at u.base.shared t.0) refl where
    sums : ready_at u.base.shared t.0 + handed_at u.handed t.0 + waits_of u.base.shared.sync t.0 + done_at u.base.shared.sync t.0
        + unmade_at u.base.shared.state.lists t.0 ≡ not_carried u.base.shared t.0
    sums = h.somewhere t.0

    AtPlace : KeptPlace → Type 0
    AtPlace p = (one_where (is_ready p) + handed_at u.handed t.0 + waits_of u.base.shared.sync t.0 + done_at u.base.shared.sync t.0
        + unmade_at u.base.shared.state.lists t.0 ≡ zero_if (is_kept p))
        × AgreesBy (one_where (is_ready p)) (waits_of u.base.shared.sync t.0) (done_at u.base.shared.sync t.0) (unmade_at u.base.shared.state.lists t.0) p

    at-place : (p : KeptPlace) → place_at u.base.shared t.0 ≡ p → AtPlace p
    at-place p at = subst AtPlace at (sums, h.places t.0)

    sits : (p : KeptPlace) → place_at u.base.shared t.0 ≡ p → is_unmade p ≡ false → SitsIn p (thread_in (space_at r.state s) t).place
    sits p at made = subst (λ q. SitsIn q (thread_in (space_at r.state s) t).place) at
        (k.space.threads t (made-below set e u cs h t.0 (ap is_unmade at ∙ made))).place

    -- at a place where it neither waits nor is carried
    still : (p : Place) → (thread_in (space_at r.state s) t).place ≡ p → is_waiting p ≡ false → is_carried p ≡ false → is_handed r s t ≡ false
    still p at wait carry =
        ap (λ y. (is_waiting y && (waits_of (space_at r.state s).sync t.0 == 0)) || (is_carried y && is_heard r s t)) at
        ∙ ap (λ b. (b && (waits_of (space_at r.state s).sync t.0 == 0)) || (is_carried p && is_heard r s t)) wait
        ∙ ap (λ b. b && is_heard r s t) carry

    by : (p : KeptPlace) → place_at u.base.shared t.0 ≡ p → has u.handed t.0 ≡ is_handed r s t
    by fast.Unmade at =
        let y = at-place fast.Unmade at in
        let past : u.base.shared.state.lists.made ≤ t.0 = elim (cases_lt t.0 u.base.shared.state.lists.made) [
          | inl less ↦ absurd (let made = made-kept set e u cs h t.0 less in let no = sym (ap is_unmade at) ∙ made in cc)
          | inr more ↦ more
        ] in
        let done : (thread_in (space_at r.state s) t).place ≡ place.Done =
        ap (λ (z : Thread). z.place) (get_or_past (space_at r.state s).threads t.0 (at_start 0 place.Done) (let all = k.space.made in omega (arith, all, past))) in
        none-is (has u.handed t.0) (omega (arith, y.0, y.1.new)) ∙ sym (still place.Done done refl refl)
    by fast.Ready at =
        let y = at-place fast.Ready at in
        none-is (has u.handed t.0) (omega (arith, y.0)) ∙ sym (still place.Ready (sits fast.Ready at refl) refl refl)
    by fast.Running at =
        let y = at-place fast.Running at in
        none-is (has u.handed t.0) (omega (arith, y.0)) ∙ sym (carried-handed t (ap is_kept at))
    by fast.Blocked at =
        let y = at-place fast.Blocked at in
        none-is (has u.handed t.0) (omega (arith, y.0)) ∙ sym (carried-handed t (ap is_kept at))
    by fast.Done at =
        let y = at-place fast.Done at in
        none-is (has u.handed t.0) (omega (arith, y.0, y.1.ends)) ∙ sym (still place.Done (sits fast.Done at refl) refl refl)
    by fast.Carried at =
        let y = at-place fast.Carried at in
        one-is (has u.handed t.0) (omega (arith, y.0, y.1.waiting, y.1.ends, y.1.new))
        ∙ sym (ap (λ z. (is_waiting z && (waits_of (space_at r.state s).sync t.0 == 0)) || (is_carried z && is_heard r s t)) (sits fast.Carried at refl)
        ∙ heard-of t (ap is_kept at))
    by fast.Waiting at =
        let y = at-place fast.Waiting at in
        let waits_are : waits_of (space_at r.state s).sync t.0 ≡ waits_of u.base.shared.sync t.0 = ap (λ z. waits_of z t.0) k.space.sync in
        waiting (has u.handed t.0) (waits_of u.base.shared.sync t.0) (omega (arith, y.0, y.1.ends, y.1.new))
        ∙ sym (ap (λ z. (is_waiting z && (waits_of (space_at r.state s).sync t.0 == 0)) || (is_carried z && is_heard r s t)) (sits fast.Waiting at refl)
        ∙ or-none (waits_of (space_at r.state s).sync t.0 == 0) ∙ ap (λ n. n == 0) waits_are) where
          or-none : (b : Bool) → (b || false) ≡ b
          or-none true = refl
          or-none false = refl

          waiting : (b : Bool) (n : ℕ) → one_where b + n ≡ 1 → b ≡ (n == 0)
          waiting true n is = let none : n ≡ 0 = omega (arith, is) in sym (ap (λ m. m == 0) none)
          waiting false n is = let one : n ≡ 1 = omega (arith, is) in sym (ap (λ m. m == 0) one)
