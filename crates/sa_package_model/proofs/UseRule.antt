-- An instruction of a context's thread leaves all standing.
use Rattle.std.proofs.Common.{◌≡◌, ℕ, ◌+◌, ◌≤◌, ◌<◌, cond, get_or, false, Option, Some, None, refl, sym, ap, ◌∙◌, subst, arith}
use Rattle.sa_base.specs.declared.number.ThreadNo.{ThreadNo}
use Rattle.sa_base.specs.declared.context.Seen.{Seen}
use Rattle.sa_base.specs.declared.record.Record.{Record}
use Rattle.std.specs.Prelude.{List}
use Rattle.sa_spaces.specs.Space.{IsSpace}
use Rattle.sa_abstract.specs.Setting.{Setting}
use Rattle.sa_abstract.specs.Calls.{Contexts}
use Rattle.sa_links.specs.Lists.{list_at}
use Rattle.sa_fast.specs.declared.instruction.Ran.{Ran}
use Rattle.sa_fast.specs.declared.instruction.Ran.TheVariants as rans
use Rattle.sa_fast.specs.Instruction.{Outcome, run, run_says}
use Rattle.sa_fast.specs.Rest.{one_if, one_of, threads_at_rest, not_carried}
use Rattle.sa_fast.proofs.Moves.{RunStep, PlaceStep, stays_with}
use Rattle.sa_fast.proofs.WorkSteps.{one_same}
use Rattle.sa_fast.proofs.RunSteps.{run-step}
use Rattle.sa_fast.proofs.PlaceSteps.{place-step}
use Rattle.sa_package_model.specs.declared.context.Context.{Context}
use Rattle.sa_package_model.specs.declared.context.ContextState.{ContextState}
use Rattle.sa_package_model.specs.declared.context.ContextState.TheVariants.{User}
use Rattle.sa_package_model.specs.declared.package.Package.{Package}
use Rattle.sa_package_model.specs.Context.{carried_by, section_in, settled_to, is_left, has_bulk}
use Rattle.sa_package_model.specs.Rules.{at_state, owed, with_shared, stays_user, used_by, used}
use Rattle.std.specs.Prelude.{is_some}
use Rattle.sa_package_model.specs.Hands.{free_locks, threads_of}
use Rattle.sa_package_model.specs.Stands.{AreSections, IsStanding}
use Rattle.sa_package_model.proofs.Changing.{IsChange, sections_kept}
use Rattle.sa_package_model.proofs.Views.{IsBetween, settled_between, between_locks, between_threads, between_context, between_rest}
use Rattle.sa_package_model.proofs.Holding.{rest_unlisted, rest_once, own_rest, own_work}
use Rattle.sa_package_model.proofs.PlaceFacts.{own_carried}
use Rattle.sa_package_model.proofs.Parts.{parts_later, made_with}

-- the thread of a context that is at an instruction is in its hand
pub user_has : (works : List (List ℕ)) (c : Context) (t : ThreadNo) → c.state ≡ User t → 1 ≤ threads_of works (Some c) t.0
user_has works c t at = omega (arith, between_threads c (Some t) (ap section_in at) (ap carried_by at) works t.0, one_same t.0 t.0 refl)

module _ (s : Setting) (e : ℕ) (u : Package) (cs : Contexts Context) (h : IsStanding s e u cs) (a : ℕ) (c : Context) (is : cs a ≡ Some c) (t : ThreadNo)
    (at : c.state ≡ User t) where
  outside : section_in c.state ≡ None
  outside = ap section_in at

  carries : carried_by c.state ≡ Some t
  carries = ap carried_by at

  -- what an instruction did to the threads, and to their places
  abbrev HasRun : Outcome → Type 0
  HasRun o = RunStep u.def u.processors e u.shared c.work t o × PlaceStep u.shared t o

  hand : threads_at_rest u.shared t.0 ≡ 0
  hand = own_rest s e u cs h a c is t.0 (user_has u.shared.works c t at)

  runs : not_carried u.shared t.0 ≡ 0
  runs =
      own_carried s e u cs h a c is t.0 (let one : one_of (carried_by c.state) t.0 ≡ 1 = ap (λ o. one_of o t.0) carries ∙ one_same t.0 t.0 refl in omega arith)

  ran : (fetch pages : ℕ) → HasRun (run u.def fetch pages u.shared c.work t)
  ran fetch pages = let step = ran_step fetch pages in
      (step, place-step u.def u.processors e fetch pages u.shared c.work t h.parts hand (rest_once s e u cs h) h.places runs step) where
        ran_step : (fetch pages : ℕ) → RunStep u.def u.processors e u.shared c.work t (run u.def fetch pages u.shared c.work t)
        ran_step fetch pages =
            run-step u.def u.processors e fetch pages u.shared c.work t (subst IsSpace (sym h.made.def) h.made.setting.def) h.parts
            (own_work s e u cs h a c is) (own_rest s e u cs h a c is t.0 (user_has u.shared.works c t at)) (rest_unlisted s e u cs h) (rest_once s e u cs h)

  -- after the instruction the context has what the instruction left it, and carries the thread or none
  outcome-change : (f : ℕ) (o : Outcome) (state : ContextState) (n : Option ThreadNo) → e < f → HasRun o → IsBetween state n
      → ((x : ℕ) → one_of n x ≡ stays_with o.answer t x) → IsChange s f u (with_shared u o.shared) (Some c) (at_state (record c { work = o.work }) state)
  outcome-change f o state n later both new stays =
      let step = both.0 in
      let moved = both.1 in
      let d : Context = at_state (record c { work = o.work }) state in
      let sections : AreSections o.shared.state.lists c.sections =
      sections_kept u.shared.state.lists o.shared.state.lists c.sections (λ l some. ap (λ ls. list_at ls l) step.lists)
      (between_rest c (Some t) outside carries u.shared.state.lists (h.contexts a c is)) in
      record {
        made = made_with s u o.shared h.made step.space;
        code = step.code ∙ h.code;
        parts = parts_later u.def u.processors (e + 1) f o.shared step.parts (omega arith);
        locks = λ l.
            let free : free_locks o.shared.state.lists l ≡ free_locks u.shared.state.lists l = ap (λ bs. cond (get_or bs l false) 0 1) step.locked in
            omega (arith, free, between_locks d n new.section new.carries l, between_locks c (Some t) outside carries l);
        threads = λ x. omega (
          arith,
          step.threads x,
          step.works.threads x,
          stays x,
          between_threads d n new.section new.carries o.shared.works x,
          between_threads c (Some t) outside carries u.shared.works x,
        );
        names = λ l. step.works.names l;
        works = λ l none some. step.works.others l none some;
        lists = λ l none held. ap (λ ls. list_at ls l) step.lists;
        places = moved.places;
        carries = λ x.
            let now : one_of (carried_by state) x ≡ one_of n x = ap (λ o. one_of o x) new.carries in
            let was : one_of (carried_by c.state) x ≡ one_if t.0 x = ap (λ o. one_of o x) carries in
            omega (arith, moved.carries x, stays x);
        context = between_context d n new.section new.carries o.shared.state.lists new.is sections;
      }

  -- THE RULE, by the answer, and by whether threads are left to be made ready
  goes-change : (f : ℕ) (seen : Seen) (o : Outcome) (w : Option ThreadNo) → e < f → HasRun o → o.answer ≡ rans.Goes
      → IsChange s f u (with_shared u o.shared) (Some c) (stays_user (with_shared u o.shared) seen (record c { work = o.work }) t w)
  goes-change f seen o None later step answer =
      outcome-change f o (User t) (Some t) later step (record { section = refl; carries = refl; is = tt }) (λ x. sym (ap (λ r. stays_with r t x) answer))
  goes-change f seen o (Some first) later step answer =
      let v : Package = with_shared u o.shared in
      let d : Context = record c { work = o.work } in
      outcome-change f o (settled_to (Some t) (is_left d) (is_some (owed v seen)) (has_bulk seen)) (Some t) later step
      (settled_between (Some t) (is_left d) (is_some (owed v seen)) (has_bulk seen))
      (λ x. sym (ap (λ r. stays_with r t x) answer))

  used_by-change : (f : ℕ) (seen : Seen) (o : Outcome) (answer : Ran) (says : List Record) → e < f → HasRun o → o.answer ≡ answer
      → IsChange s f u (used_by (with_shared u o.shared) seen (record c { work = o.work }) t answer says).user (Some c)
      (used_by (with_shared u o.shared) seen (record c { work = o.work }) t answer says).ctx
  used_by-change f seen o rans.Goes says later step answer = goes-change f seen o o.work later step answer
  used_by-change f seen o rans.Leaves says later step answer =
      let v : Package = with_shared u o.shared in
      let d : Context = record c { work = o.work } in
      outcome-change f o (settled_to None (is_left d) (is_some (owed v seen)) (has_bulk seen)) None later step
      (settled_between None (is_left d) (is_some (owed v seen)) (has_bulk seen))
      (λ x. sym (ap (λ r. stays_with r t x) answer))
  used_by-change f seen o (rans.Blocks length page) says later step answer =
      subst (λ state. IsChange s f u (with_shared u o.shared) (Some c) (at_state (record c { work = o.work }) state)) (sym at)
      (outcome-change f o (User t) (Some t) later step (record { section = refl; carries = refl; is = tt }) (λ x. sym (ap (λ r. stays_with r t x) answer)))

  pub used-change : (seen : Seen) → e < seen.event → IsChange s seen.event u (used u seen c t).user (Some c) (used u seen c t).ctx
  used-change seen later =
      let o = run u.def u.fetch seen.pages u.shared c.work t in
      used_by-change seen.event seen o o.answer (run_says u.def seen.pages u.shared t) later (ran u.fetch seen.pages) refl
