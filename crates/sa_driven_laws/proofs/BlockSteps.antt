-- A step that blocks for a page, before which it says nothing, is legal: so a fault at the ready lists.
use Rattle.std.proofs.Common.{◌≡◌, ℕ, true, false, not, ◌||◌, ◌&&◌, nat_lt, List, [], ◌∷◌, ◌++◌, Some, None, option_map, refl, sym, ap, ◌∙◌, subst, inr}
use Rattle.std.specs.Prelude.{if◌then◌else◌}
use Rattle.std.proofs.Math.Bool.{or-true}
use Rattle.std.proofs.lemmas.Bool.{and_parts, not-true}
use Rattle.sa_base.specs.declared.context.Seen.{Seen}
use Rattle.sa_base.specs.declared.limits.TheConstants.{PACKAGE_PAGE}
use Rattle.sa_base.specs.declared.number.ActNo.{ActNo}
use Rattle.sa_base.specs.declared.number.ProcNo.{ProcNo}
use Rattle.sa_base.specs.declared.record.Record.{Record}
use Rattle.sa_base.specs.declared.record.Record.TheVariants as records
use Rattle.sa_base.specs.Pages.{has_page}
use Rattle.sa_lemmas.proofs.FunctionUpdates.{put-put}
use Rattle.sa_lemmas.specs.Function.{put}
use Rattle.sa_spaces.specs.Workload.{WorkloadView}
use Rattle.sa_devices.specs.declared.kind.IoKind.TheVariants.{Page}
use Rattle.sa_fast.specs.declared.shared.Shared.{Shared}
use Rattle.sa_fast.specs.declared.threads.KeptPlace.TheVariants as fast
use Rattle.sa_abstract.specs.Calls.{Contexts}
use Rattle.sa_abstract.specs.Setting.{Setting}
use Rattle.sa_abstract.specs.declared.answer.Step.TheVariants as asked
use Rattle.sa_package_model.specs.Rules.{placed}
use Rattle.sa_driven_model.specs.declared.context.DrivenContext.{DrivenContext}
use Rattle.sa_driven_model.specs.declared.space.DrivenSpace.{DrivenSpace}
use Rattle.sa_driven_model.specs.Step.{asks_for, faults, faulted}
use Rattle.sa_laws.specs.Any.{is_inside_any, has_heard_hand}
use Rattle.sa_laws.specs.History.{is_step, stepped, with_step}
use Rattle.sa_laws.specs.Life.{Life, has_lock, held_with}
use Rattle.sa_laws.specs.Readings.{Readings, running_of, life_of, is_resident}
use Rattle.sa_laws.specs.Record.{after_record, locks_one, page_touched, with_life}
use Rattle.sa_laws.specs.State.{space_at}
use Rattle.sa_laws.specs.Step.{HasCause}
use Rattle.sa_user_laws.specs.Scene.{event_begun_at}
use Rattle.sa_user_laws.specs.Steps.{event_with}
use Rattle.sa_fast_laws.specs.Stage.{InBlock, stage_of, is_running}
use Rattle.sa_driven_laws.specs.Life.{HasLife}
use Rattle.sa_driven_laws.specs.DrivenFits.{Holds, DrivenFits}
use Rattle.sa_driven_laws.proofs.Ceases.{block-changed, block-stage}
use Rattle.sa_driven_laws.proofs.Changed.{life-here, IsChanged, changed-holds, changed-others, changed-rest}
use Rattle.sa_driven_laws.proofs.Inside.{locks-some}
use Rattle.sa_driven_laws.proofs.Moves.{IsLegal, rules-of}
use Rattle.sa_driven_laws.proofs.Moves as moves
use Rattle.sa_driven_laws.proofs.Replies.{unlowered}
use Rattle.sa_driven_laws.proofs.Scenes.{IsScene}
use Rattle.sa_driven_laws.proofs.Scenes as scene
use Rattle.sa_driven_laws.proofs.Turned.{remark}

module _ (set : Setting) (e : ℕ) (u : DrivenSpace) (cs : Contexts DrivenContext) (w : WorkloadView) (r : Readings) (p : ProcNo) (a : ActNo) (life : Life)
    (c : DrivenContext) (seen : Seen) (i : IsScene set e u cs w r p a life c seen) where
  abbrev r0 : Readings
  r0 = event_begun_at w seen.event p r

  k0 : Holds set.space (event_begun_at w seen.event p r) u.base.shared cs
  k0 = moves.k0 set e u cs w r p a life c seen i

  l : HasLife set.space u.base.shared (space_at r.state set.space) (stage_of (event_begun_at w seen.event p r) set.space a life) c life
  l = life-here set.space r0 u.base.shared cs k0 a c life i.on.mine i.on.is

  -- AFTER A BLOCK all fits, whatever the kernel writes after it, where its life is in if it has no thread
  pub blocked-fits : (here : Readings) (v : Shared) (now : Life) (new : DrivenContext) (x : Record) (xs behind : List Record) (last : Readings)
      → IsChanged set.space r0 here u.base.shared v cs (put cs a.0 (Some new)) a now new → stage_of here set.space a now ≡ InBlock
      → is_step x ≡ true → new.lowers ≡ false
      → (new.thread ≡ None → (stepped is_inside_any w r (event_with seen.event p (x ∷ xs) behind) last x now).inside ≡ true)
      → DrivenFits set.space (record here {
        lives = with_step is_inside_any w r (event_with seen.event p (x ∷ xs) behind) last
            (x ∷ (xs ++ behind)) here.lives;
      }) v (put cs a.0 (Some new))
  blocked-fits here v now new x xs behind last ch stage step lowers busy =
      let ev = event_with seen.event p (x ∷ xs) behind in
      let ds = put cs a.0 (Some new) in
      let k = changed-holds set.space r0 here u.base.shared v cs ds a now new ch k0 in
      let rest = changed-others set.space r0 here u.base.shared v cs ds a now new ch (moves.rest0 set e u cs w r p a life c seen i) in
      let after = stepped is_inside_any w r ev last x now in
      let mark = remark set.space here v ds k a new new ch.mine now ch.here after.freed after.inside after.scans here.number here.last here.moved
      (record { thread = refl; locks = refl; continues = refl; hand = refl }) in
      let twice : put ds a.0 (Some new) ≡ ds = put-put cs a.0 (Some new) (Some new) in
      subst (λ ls. DrivenFits set.space (record here { lives = ls }) v ds)
      (sym (ap (λ z. if z then with_life (stepped is_inside_any w r ev last x) (running_of r p) here.lives else here.lives) step
      ∙ ap (λ o. with_life (stepped is_inside_any w r ev last x) o here.lives) i.on.runs
      ∙ ap (λ o. put here.lives a.0 (option_map (stepped is_inside_any w r ev last x) o)) ch.here))
      (subst (DrivenFits set.space (record here { lives = put here.lives a.0 (Some after) }) v) twice (record {
        holds = changed-holds set.space here _ v v ds (put ds a.0 (Some new)) a after new mark k;
        rest = changed-rest set.space here _ v v ds (put ds a.0 (Some new)) a after new mark rest (record {
          lowers = lowers;
          inside = λ runs. absurd (let no = ap is_running stage in cc);
          busy = λ no none idle. busy none;
        });
      }))

  -- A BLOCK FOR A PAGE, before which nothing is said
  pub lock-is : has_lock life ≡ nat_lt 0 c.locks
  lock-is = locks-some life.locks c.locks l.locks

  pub resident-is : (k : ℕ) → is_resident r0 set.space k ≡ has_page seen.pages k
  resident-is k = ap (λ m. has_page m k) (sym i.sees.pages)

  pub first-is : (locks_one (life_of r a) && not (is_resident r0 set.space PACKAGE_PAGE)) ≡ faults seen c
  first-is = ap (λ o. locks_one o && not (is_resident r0 set.space PACKAGE_PAGE)) i.on.is
      ∙ ap (λ b. b && not (is_resident r0 set.space PACKAGE_PAGE)) lock-is ∙ ap (λ b. nat_lt 0 c.locks && not b) (resident-is PACKAGE_PAGE)

  fetch-is : u.base.fetch ≡ w.fetch
  fetch-is = i.stands.made.fetch ∙ i.of.fetch

  pub page-legal : (v : DrivenSpace) (k : ℕ) → v.base.shared ≡ placed u.base.shared c.thread fast.Blocked
      → (if locks_one (life_of r a) && not (is_resident r0 set.space PACKAGE_PAGE) then PACKAGE_PAGE else page_touched w r0 set.space c.thread) ≡ k
      → HasCause w r0 set.space c.thread a → (c.thread ≡ None → has_lock life ≡ true)
      → IsLegal w set r p seen.event a cs (asks_for v c [] (asked.Block u.base.fetch (Some k)))
  page-legal v k value for cause busy = record {
    steps = tt;
    answer = record {
      begins = λ io. refl;
      for = ap (λ n. record { kind = Page set.space a n; length = w.fetch }) for
          ∙ ap (λ n. record { kind = Page set.space a k; length = n }) (sym fetch-is);
      needs = λ io. record { owned = i.on.owner; runs = i.runner; cause = cause };
      rules_hold = λ io passage closing passes closed.
          let x = records.Block set.space c.thread a io in
          rules-of w r (event_with seen.event p (x ∷ passage) closing) a life x passage (passage ++ closing) i.on.runs i.on.is refl passes tt;
      after = λ io behind last spaces.
          let x = records.Block set.space c.thread a io in
          let known = scene.known set e u cs w r p a life c seen i in
          let heard = scene.heard set e u cs w r p a life c seen i in
          let procs = scene.procs set e u cs w r p a life c seen i in
          let ch = block-changed set e u cs i.stands set.space r0 k0 a c i.on.mine w seen.event p life i.on.is i.on.space known heard i.on.runs procs io in
          let stage = block-stage set e u cs i.stands set.space r0 k0 a c i.on.mine w seen.event p life i.on.is i.on.space known heard i.on.runs procs io in
          let here = after_record w seen.event p r0 x in
          let now = held_with c.thread life in
          subst (λ y. DrivenFits set.space (record here {
            lives = with_step is_inside_any w r (event_with seen.event p (x ∷ []) behind) last
                (x ∷ behind) here.lives;
          }) y (put cs a.0 (Some c))) (sym value)
          (blocked-fits here (placed u.base.shared c.thread fast.Blocked) now c x [] behind last ch stage refl (unlowered set e u cs w r p a life c seen i)
          (λ none. ap (λ b. has_heard_hand last now || (b || life.cont)) (busy none) ∙ or-true (has_heard_hand last now)));
    };
  }

  -- A FAULT
  pub faulted-legal : faults seen c ≡ true → IsLegal w set r p seen.event a cs (faulted u c)
  faulted-legal fault =
      let both = and_parts (nat_lt 0 c.locks) (not (has_page seen.pages PACKAGE_PAGE)) fault in
      let locked : has_lock life ≡ true = lock-is ∙ both.0 in
      let absent : is_resident r0 set.space PACKAGE_PAGE ≡ false = resident-is PACKAGE_PAGE ∙ not-true (has_page seen.pages PACKAGE_PAGE) both.1 in
      page-legal _ PACKAGE_PAGE refl
      (ap (λ b. if b then PACKAGE_PAGE else page_touched w r0 set.space c.thread) (first-is ∙ fault))
      (inr (inr (ap locks_one i.on.is ∙ locked, absent))) (λ none. locked)
