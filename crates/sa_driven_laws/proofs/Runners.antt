-- A thread runs on a processor exactly where the context of its space's life there carries it.
use Rattle.std.proofs.Common.{le-ltb, ◌≡◌, ℕ, ◌≤◌, ◌<◌, Bool, true, false, length, Option, Some, None, IsSome, option_map, refl, sym, ap, ◌∙◌, subst, inl, inr, arith}
use Rattle.std.specs.Prelude.{◌↔◌, if◌then◌else◌}
use Rattle.std.proofs.lemmas.Bool.{cases_eq, cases_lt, eq-eqb, eqb-true, lt-ltb}
use Rattle.std.proofs.lemmas.List.{get_or_past}
use Rattle.std.proofs.lemmas.Option.{same_Some}
use Rattle.std.specs.List.{list_any}
use Rattle.sa_base.specs.declared.number.ActNo.{ActNo}
use Rattle.sa_base.specs.declared.number.ProcNo.{ProcNo}
use Rattle.sa_base.specs.declared.number.SpaceNo.{SpaceNo}
use Rattle.sa_base.specs.declared.number.ThreadNo.{ThreadNo}
use Rattle.sa_base.specs.declared.record.Note.TheVariants.{Preempted, Unblocked}
use Rattle.sa_fast.proofs.WorkSteps.{one_same, one_other}
use Rattle.sa_fast.specs.Rest.{one_of, one_where, is_unmade, unmade_at, is_carried, place_at, not_carried}
use Rattle.sa_fast.specs.declared.threads.KeptPlace.{KeptPlace}
use Rattle.sa_fast.specs.declared.threads.KeptPlace.TheVariants as fast
use Rattle.sa_abstract.specs.Calls.{Contexts}
use Rattle.sa_abstract.specs.Setting.{Setting}
use Rattle.sa_driven_model.specs.declared.context.DrivenContext.{DrivenContext}
use Rattle.sa_driven_model.specs.declared.space.DrivenSpace.{DrivenSpace}
use Rattle.sa_driven_model.specs.Stands.{carried_of, IsStanding}
use Rattle.sa_laws.specs.Life.{Life}
use Rattle.sa_laws.specs.Readings.{Readings, running_of, life_of, untold_of}
use Rattle.sa_laws.specs.Record.{same_note}
use Rattle.sa_laws.specs.State.{Thread, at_start, space_at, thread_at}
use Rattle.sa_laws.specs.declared.place.Place.{Place}
use Rattle.sa_laws.specs.declared.place.Place.TheVariants as place
use Rattle.sa_user_laws.specs.Moments.{ThreadsRun, runs_in, life_in}
use Rattle.sa_fast_laws.specs.FastFits.{SitsIn}
use Rattle.sa_fast_laws.specs.Stage.{kept_of, Stage, stage_by, stage_of, is_act, place_of, Runs}
use Rattle.sa_driven_laws.specs.DrivenFits.{Holds}
use Rattle.sa_driven_laws.proofs.Changed.{life-here}

abbrev zero_if : Bool → ℕ
zero_if b = if b then 0 else 1

abbrev place_running : Place → Option ProcNo
place_running (place.Running p) = Some p
place_running _ = None

runs_at : (g : Stage) (q p : ProcNo) → place_of g q ≡ place.Running p → (g ≡ Runs) × (q ≡ p)
runs_at Runs q p e = (refl, same_Some q p (ap place_running e))
runs_at _ q p e = absurd (let no_such = ap place_running e in cc)

acts_there : (x y z : Bool) → stage_by x y z ≡ Runs → z ≡ true
acts_there false false true e = refl
acts_there _ _ _ e = absurd cc

is_that : (a : ActNo) (o : Option ActNo) → is_act a o ≡ true → o ≡ Some a
is_that a None e = absurd cc
is_that a (Some b) e = ap (λ n. Some (record { 0 = n })) (eqb-true b.0 a.0 e)

-- a thread that runs in the history is one that some context carries
sits_carried : (p : KeptPlace) (q : ProcNo) → is_unmade p ≡ false → SitsIn p (place.Running q) → is_carried p ≡ true
sits_carried fast.Unmade q made e = absurd cc
sits_carried fast.Running q made e = refl
sits_carried fast.Blocked q made e = refl
sits_carried _ q made e = absurd (let no_such = ap place_running e in cc)

-- the context that carries a thread, with its life
pub record IsCarrier (s : SpaceNo) (r : Readings) (u : DrivenSpace) (cs : Contexts DrivenContext) (t : ThreadNo) : Type 0 where
  pub act : ActNo
  pub ctx : DrivenContext
  pub mine : cs act.0 ≡ Some ctx
  pub carries : ctx.thread ≡ Some t
  pub life : Life
  pub is : life_of r act ≡ Some life
  pub space : life.space ≡ s
  pub stage : Stage
  pub stage_is : stage ≡ stage_of r s act life
  pub place : (thread_at r.state s t).place ≡ place_of stage life.proc
  pub kept : place_at u.base.shared t.0 ≡ kept_of stage

pub record IsRun (s : SpaceNo) (r : Readings) (cs : Contexts DrivenContext) (t : ThreadNo) (p : ProcNo) : Type 0 where
  pub act : ActNo
  pub ctx : DrivenContext
  pub mine : cs act.0 ≡ Some ctx
  pub carries : ctx.thread ≡ Some t
  pub runs : running_of r p ≡ Some act
  pub life : Life
  pub is : life_of r act ≡ Some life
  pub space : life.space ≡ s

-- THREADS that were made, and those that were not
module _ (set : Setting) (e : ℕ) (u : DrivenSpace) (cs : Contexts DrivenContext) (h : IsStanding set e u cs) where
  pub made-kept : (n : ℕ) → n < u.base.shared.state.lists.made → is_unmade (place_at u.base.shared n) ≡ false
  made-kept n less = by (is_unmade (place_at u.base.shared n)) (let agrees = h.places n in let new = agrees.new in
      let zero_is : unmade_at u.base.shared.state.lists n ≡ 0 = ap (λ b. if b then 0 else 1) (lt-ltb n u.base.shared.state.lists.made less) in
      omega (arith, new, zero_is)) where
        by : (b : Bool) → one_where b ≡ 0 → b ≡ false
        by true same = absurd (omega (arith, same))
        by false same = refl

  pub kept-made : (n : ℕ) → u.base.shared.state.lists.made ≤ n → is_unmade (place_at u.base.shared n) ≡ true
  kept-made n more = by (is_unmade (place_at u.base.shared n)) (let agrees = h.places n in let new = agrees.new in
      let one_is : unmade_at u.base.shared.state.lists n ≡ 1 = ap (λ b. if b then 0 else 1) (le-ltb n u.base.shared.state.lists.made more) in
      omega (arith, new, one_is)) where
        by : (b : Bool) → one_where b ≡ 1 → b ≡ true
        by true same = refl
        by false same = absurd (omega (arith, same))

  pub made-below : (n : ℕ) → is_unmade (place_at u.base.shared n) ≡ false → n < u.base.shared.state.lists.made
  made-below n made = elim (cases_lt n u.base.shared.state.lists.made) [
    | inl less ↦ less
    | inr more ↦ absurd (let not = kept-made n more in cc)
  ]

  -- a thread that a context carries is no other's
  pub carried-apart : (a b : ℕ) (c d : DrivenContext) (t n : ThreadNo) → cs a ≡ Some c → cs b ≡ Some d → c.thread ≡ Some t → d.thread ≡ Some n → t.0 ≡ n.0
      → a ≡ b
  carried-apart a b c d t n at there mine theirs same =
      let one : carried_of (cs a) t.0 ≡ 1 = ap (λ x. carried_of x t.0) at ∙ ap (λ o. one_of o t.0) mine ∙ one_same t.0 t.0 refl in
      let two : carried_of (cs b) t.0 ≡ 1 = ap (λ x. carried_of x t.0) there ∙ ap (λ o. one_of o t.0) theirs ∙ one_same n.0 t.0 (sym same) in
      h.carries.apart a b t.0 (omega (arith, one)) (omega (arith, two))

  -- and stands at one of the places Running and Blocked
  pub carried-not : (a : ℕ) (c : DrivenContext) (t : ThreadNo) → cs a ≡ Some c → c.thread ≡ Some t → not_carried u.base.shared t.0 ≡ 0
  carried-not a c t at mine =
      let one : carried_of (cs a) t.0 ≡ 1 = ap (λ x. carried_of x t.0) at ∙ ap (λ o. one_of o t.0) mine ∙ one_same t.0 t.0 refl in
      let once = h.carries.once a t.0 in omega (arith, one, once)

  pub carried-made : (a : ℕ) (c : DrivenContext) (t : ThreadNo) → cs a ≡ Some c → c.thread ≡ Some t → t.0 < u.base.shared.state.lists.made
  carried-made a c t at mine = made-below t.0 (by (place_at u.base.shared t.0) (carried-not a c t at mine)) where
    by : (p : KeptPlace) → zero_if (is_carried p) ≡ 0 → is_unmade p ≡ false
    by fast.Running e = refl
    by fast.Blocked e = refl
    by _ e = absurd (omega (arith, e))

module _ (set : Setting) (e : ℕ) (u : DrivenSpace) (cs : Contexts DrivenContext) (h : IsStanding set e u cs) (s : SpaceNo) (r : Readings)
    (k : Holds s r u.base.shared cs) where
  -- A THREAD at one of the places Running and Blocked is carried by a context
  pub carrier-of : (t : ThreadNo) → is_carried (place_at u.base.shared t.0) ≡ true → IsCarrier s r u cs t
  carrier-of t is = by found.0 (cs found.0) refl found.1 where
    found : (a : ℕ) × (1 ≤ carried_of (cs a) t.0)
    found = h.carries.somewhere t.0 (ap (λ b. if b then 0 else 1) is)

    by : (b : ℕ) (o : Option DrivenContext) → cs b ≡ o → 1 ≤ carried_of (cs b) t.0 → IsCarrier s r u cs t
    by b None none some = absurd (let zero_is : carried_of (cs b) t.0 ≡ 0 = ap (λ x. carried_of x t.0) none in omega (arith, zero_is, some))
    by b (Some c) there some = by_thread c.thread refl where
      by_thread : (o : Option ThreadNo) → c.thread ≡ o → IsCarrier s r u cs t
      by_thread None none =
          absurd (let zero_is : carried_of (cs b) t.0 ≡ 0 = ap (λ x. carried_of x t.0) there ∙ ap (λ o. one_of o t.0) none in omega (arith, zero_is, some))
      by_thread (Some n) carries = elim (cases_eq n.0 t.0) [
        | inr ne ↦
            absurd
            (let zero_is : carried_of (cs b) t.0 ≡ 0 = ap (λ x. carried_of x t.0) there ∙ ap (λ o. one_of o t.0) carries ∙ one_other n.0 t.0 ne in
            omega (arith, zero_is, some))
        | inl same ↦
            let is_t : c.thread ≡ Some t = carries ∙ ap (λ j. Some (record { 0 = j })) same in
            let its = k.lives (record { 0 = b }) c there in
            record {
              act = record { 0 = b };
              ctx = c;
              mine = there;
              carries = is_t;
              life = its.0;
              is = its.1;
              space = its.2.space;
              stage = stage_of r s (record { 0 = b }) its.0;
              stage_is = refl;
              place = its.2.place t is_t;
              kept = its.2.kept t is_t;
            }
      ]

  pub runs-carried : (t : ThreadNo) (p : ProcNo) → (thread_at r.state s t).place ≡ place.Running p → IsRun s r cs t p
  runs-carried t p at = elim (cases_lt t.0 (length (space_at r.state s).threads)) [
    | inr past ↦ absurd (
        let done : thread_at r.state s t ≡ at_start 0 place.Done = get_or_past (space_at r.state s).threads t.0 (at_start 0 place.Done) past in
        let no_such = ap place_running (sym (ap (λ (x : Thread). x.place) done) ∙ at) in cc)
    | inl below ↦
        let made : t.0 < u.base.shared.state.lists.made = (let all = k.space.made in omega (arith, all, below)) in
        let sits = subst (λ x. SitsIn (place_at u.base.shared t.0) x) at (k.space.threads t made).place in
        let c = carrier-of t (sits_carried (place_at u.base.shared t.0) p (made-kept set e u cs h t.0 made) sits) in
        let both = runs_at c.stage c.life.proc p (sym c.place ∙ at) in
        let acts =
        acts_there (list_any (same_note (Preempted c.act)) (untold_of r s)) (list_any (same_note (Unblocked c.act)) (untold_of r s))
        (is_act c.act (running_of r c.life.proc)) (sym c.stage_is ∙ both.0) in
        record {
          act = c.act;
          ctx = c.ctx;
          mine = c.mine;
          carries = c.carries;
          runs = ap (running_of r) (sym both.1) ∙ is_that c.act (running_of r c.life.proc) acts;
          life = c.life;
          is = c.is;
          space = c.space;
        }
  ]

  -- two threads that run there are one
  pub runs-alone : (t n : ThreadNo) (p : ProcNo) → (thread_at r.state s t).place ≡ place.Running p → (thread_at r.state s n).place ≡ place.Running p
      → t ≡ n
  runs-alone t n p one two =
      let first = runs-carried t p one in let second = runs-carried n p two in
      let same : first.act ≡ second.act = same_Some first.act second.act (sym first.runs ∙ second.runs) in
      let ctx : first.ctx ≡ second.ctx = same_Some first.ctx second.ctx (sym first.mine ∙ ap (λ (x : ActNo). cs x.0) same ∙ second.mine) in
      same_Some t n (sym first.carries ∙ ap (λ (x : DrivenContext). x.thread) ctx ∙ second.carries)

  -- of the space's threads exactly the one that a running life's context carries runs there
  pub alone-runs : (p : ProcNo) (a : ActNo) (c : DrivenContext) (life : Life) → cs a.0 ≡ Some c → life_of r a ≡ Some life → life.space ≡ s
      → running_of r p ≡ Some a
      → (t : ThreadNo) → ((thread_at r.state s t).place ≡ place.Running p) ↔ (c.thread ≡ Some t)
  alone-runs p a c life mine is of runs t = (
    λ at. let run = runs-carried t p at in
        let same : run.act ≡ a = same_Some run.act a (sym run.runs ∙ runs) in
        let ctx : run.ctx ≡ c = same_Some run.ctx c (sym run.mine ∙ ap (λ (x : ActNo). cs x.0) same ∙ mine) in
        ap (λ (x : DrivenContext). x.thread) (sym ctx) ∙ run.carries,
    λ carries. let its = k.runs p a life runs is of in
        (life-here s r u.base.shared cs k a c life mine is).place t carries ∙ ap (λ g. place_of g life.proc) its.2 ∙ ap place.Running its.1,
  )

  some_runs : (lives : ℕ → Option Life) (o : Option ActNo) (a : ActNo) (life : Life) → o ≡ Some a → lives a.0 ≡ Some life → life.space ≡ s
      → IsSome (runs_in s lives o)
  some_runs lives o a life at is of =
      subst IsSome (sym (ap (runs_in s lives) at ∙ ap (λ (x : Option Life). option_map (λ (l : Life). a) (life_in s x)) is
      ∙ ap (λ b. option_map (λ (l : Life). a) (if b then Some life else None)) (eq-eqb life.space.0 s.0 (ap (λ (x : SpaceNo). x.0) of)))) refl

  pub run-threads : ThreadsRun s r
  run-threads = record {
    owned = λ p t at. let run = runs-carried t p at in some_runs r.lives (running_of r p) run.act run.life run.runs run.is run.space;
    alone = λ p t n one two. runs-alone t n p one two;
    proc = λ p a life at is of. (k.runs p a life at is of).1;
  }
