-- What is known of the turn that a question is of.
use Rattle.std.proofs.Common.{◌≡◌, refl, ap, subst, ◌∙◌, ℕ, ◌+◌, ◌<◌, Option, Some, None, length}
use Rattle.std.specs.Option.{option_map}
use Rattle.std.proofs.lemmas.Option.{same_Some, none-some, slice_get_within}
use Rattle.sa_base.specs.declared.number.ProcNo.{ProcNo}
use Rattle.sa_base.specs.declared.number.SpaceNo.{SpaceNo}
use Rattle.sa_base.specs.declared.number.ActNo.{ActNo}
use Rattle.sa_base.specs.declared.number.IoNo.{IoNo}
use Rattle.sa_abstract.specs.Calls.{Calls}
use Rattle.sa_abstract.specs.Keeps.{Standing, Keeps}
use Rattle.sa_devices.specs.Ios.{due_of, io_no}
use Rattle.sa_kernel_model.specs.State.{owner_of, line_of, life_of, demand_of, taken_of}
use Rattle.sa_core_model.specs.Machine.{Machine, user_of, context_on}
use Rattle.sa_core_model.specs.Standing.{IsBetween}
use Rattle.sa_core_model.proofs.Phases.{at-owned}
use Rattle.sa_asked.specs.declared.question.Question.{Question}
use Rattle.sa_asked.specs.Questions.{steps_by, steps_in, asked_of, asked_in, question}

-- a step is one of the space that owns the processor
owns-by : (line : Option ℕ) (due : Option IoNo) (owner : Option SpaceNo) (s : SpaceNo) → steps_by line due owner ≡ Some s → owner ≡ Some s
owns-by None None owner s is = is
owns-by None (Some io) owner s is = absurd (none-some s is)
owns-by (Some e) due owner s is = absurd (none-some s is)

module _ {U C : Type 0} (f : Calls U C) (m : Machine U C) (p : ProcNo) where
  pub record IsQuestion (q : Question) : Type 0 where
    pub steps : steps_in m p ≡ Some q.space
    pub life : life_of m.kernel p ≡ Some q.act
    pub user : U
    pub is_user : user_of m q.space ≡ Some user
    pub ctx : C
    pub is_ctx : context_on m p ≡ Some ctx
    pub thread : q.thread ≡ f.thread user ctx
    pub demand : q.demand ≡ demand_of m.kernel q.space.0
    pub taken : q.taken ≡ length (taken_of m.kernel q.space.0)

  -- EACH PART of a question is the machine's.
  pub question-of : (q : Question) → question f m p ≡ Some q → IsQuestion q
  question-of q is = by (steps_in m p) refl is where
    parts : (s : SpaceNo) (a : Option ActNo) (u : Option U) (c : Option C) → steps_in m p ≡ Some s → life_of m.kernel p ≡ a → user_of m s ≡ u
        → context_on m p ≡ c → asked_of f m.kernel s a u c ≡ Some q → IsQuestion q
    parts s (Some a) (Some u) (Some c) steps life user ctx is = subst (λ (z : Question). IsQuestion z) (same_Some _ q is) (record {
      steps = steps;
      life = life;
      user = u;
      is_user = user;
      ctx = c;
      is_ctx = ctx;
      thread = refl;
      demand = refl;
      taken = refl;
    })
    parts s None u c steps life user ctx is = absurd (none-some q is)
    parts s (Some a) None c steps life user ctx is = absurd (none-some q is)
    parts s (Some a) (Some u) None steps life user ctx is = absurd (none-some q is)

    by : (o : Option SpaceNo) → steps_in m p ≡ o → asked_in f m p o ≡ Some q → IsQuestion q
    by None steps is = absurd (none-some q is)
    by (Some s) steps is = parts s (life_of m.kernel p) (user_of m s) (context_on m p) steps refl refl refl is

  -- ITS SPACE has a user level, for which a reply can be put.
  pub space-within : (q : Question) → question f m p ≡ Some q → q.space.0 < length m.users
  space-within q is = let here = question-of q is in slice_get_within m.users q.space.0 here.user here.is_user

  -- EACH STEP IS ASKED.
  pub step-is-asked : (stands : Standing U C) (keep : Keeps f stands) (s : SpaceNo) → IsBetween stands m → steps_in m p ≡ Some s
      → (q : Question) × (question f m p ≡ Some q) × (q.space ≡ s)
  step-is-asked stands keep s between steps =
      let owner : owner_of m.kernel p ≡ Some s =
      owns-by (line_of m.kernel p) (option_map io_no (due_of (m.event + 1) m.kernel.under_way)) (owner_of m.kernel p) s steps in
      let here = at-owned f stands keep m.event m p s between.standing owner in
      let q : Question = record {
        space = s;
        act = here.act;
        thread = f.thread here.user here.ctx;
        demand = demand_of m.kernel s.0;
        taken = length (taken_of m.kernel s.0);
      } in (
        q,
        ap (λ (o : Option SpaceNo). asked_in f m p o) steps
            ∙ ap (λ (o : Option ActNo). asked_of f m.kernel s o (user_of m s) (context_on m p)) here.life
            ∙ ap (λ (o : Option U). asked_of f m.kernel s (Some here.act) o (context_on m p)) here.is_user
            ∙ ap (λ (o : Option C). asked_of f m.kernel s (Some here.act) (Some here.user) o) here.is_ctx,
        refl,
      )
