-- A step that is an instruction.
use Rattle.std.proofs.Common.{◌≡◌, ◌+◌, ◌++◌, Bool, List, length, Some, refl, sym, ap, ◌∙◌, subst}
use Rattle.sa_base.specs.Recorded.{Recorded}
use Rattle.sa_base.specs.Items.{items_at}
use Rattle.sa_base.specs.declared.number.ThreadNo.{ThreadNo}
use Rattle.sa_base.specs.declared.context.Seen.{Seen}
use Rattle.sa_base.specs.declared.record.Record.{Record}
use Rattle.sa_abstract.specs.declared.answer.Step.{Step}
use Rattle.sa_fast.specs.declared.instruction.Ran.{Ran}
use Rattle.sa_fast.specs.declared.instruction.Ran.TheVariants.{Goes, Leaves, Blocks}
use Rattle.sa_fast.specs.Work.{work_of}
use Rattle.sa_fast.specs.Instruction.{run_says}
use Rattle.sa_driven_model.specs.declared.context.DrivenContext.{DrivenContext}
use Rattle.sa_driven_model.specs.declared.space.DrivenSpace.{DrivenSpace}
use Rattle.sa_driven_model.specs.Threads.{with_all}
use Rattle.sa_driven_model.specs.Step.{after_run, run_of, is_next_local, ran_by, ran}
use Rattle.sa_driven.specs.Does.{Does}

-- the value and the records are the same whatever became of the thread
ran_same : (u : DrivenSpace) (seen : Seen) (c : DrivenContext) (local : Bool) (answer : Ran) (says : List Record)
    → ((ran_by u seen c local answer says).user ≡ u) × ((ran_by u seen c local answer says).says ≡ says)
ran_same u seen c local Goes says = (refl, refl)
ran_same u seen c local Leaves says = (refl, refl)
ran_same u seen c local (Blocks length page) says = (refl, refl)

-- of its parts
does_by : (v : DrivenSpace) (seen : Seen) (d : DrivenContext) (local : Bool) (answer : Ran) (says : List Record) (old new : Recorded)
    (ctx : DrivenContext) (result : Step)
    → ctx ≡ (ran_by v seen d local answer says).ctx → result ≡ (ran_by v seen d local answer says).answer
    → new.items ≡ old.items ++ items_at seen.event seen.proc says → new.spare + length says ≡ old.spare
    → Does (ran_by v seen d local answer says) seen old v ctx result new
does_by v seen d local answer says old new ctx result is_ctx is_answer items spare =
    let same = ran_same v seen d local answer says in
    record {
      user = sym same.0;
      ctx = is_ctx;
      answers = is_answer;
      items = items ∙ ap (λ xs. old.items ++ items_at seen.event seen.proc xs) (sym same.1);
      spare = ap (λ xs. new.spare + length xs) same.1 ∙ spare;
    }

pub ran_does : (u : DrivenSpace) (seen : Seen) (c : DrivenContext) (t : ThreadNo) (old new : Recorded) (v : DrivenSpace) (d ctx : DrivenContext)
    (local : Bool) (answer : Ran) (result : Step)
    → v ≡ after_run u (run_of u seen t)
    → d ≡ record c { hand = with_all c.hand (work_of (run_of u seen t).shared.works (run_of u seen t).work) }
    → answer ≡ (run_of u seen t).answer → local ≡ is_next_local u t
    → ((says : List Record) → ctx ≡ (ran_by v seen d local answer says).ctx) → ((says : List Record) → result ≡ (ran_by v seen d local answer says).answer)
    → new.items ≡ old.items ++ items_at seen.event seen.proc (run_says u.base.def seen.pages u.base.shared t)
    → new.spare + length (run_says u.base.def seen.pages u.base.shared t) ≡ old.spare
    → Does (ran u seen c (Some t)) seen old v ctx result new
ran_does u seen c t old new v d ctx local answer result is_v is_d is_answer is_local is_ctx is_result items spare =
    let says = run_says u.base.def seen.pages u.base.shared t in
    let by = does_by v seen d local answer says old new ctx result (is_ctx says) (is_result says) items spare in
    let a = subst (λ w. Does (ran_by w seen d local answer says) seen old v ctx result new) is_v by in
    let b = subst (λ x. Does (ran_by (after_run u (run_of u seen t)) seen x local answer says) seen old v ctx result new) is_d a in
    let e = subst (λ l. Does (ran_by (after_run u (run_of u seen t)) seen
    (record c { hand = with_all c.hand (work_of (run_of u seen t).shared.works (run_of u seen t).work) }) l answer says) seen old v ctx result new) is_local b in
    subst (λ r. Does (ran_by (after_run u (run_of u seen t)) seen
    (record c { hand = with_all c.hand (work_of (run_of u seen t).shared.works (run_of u seen t).work) }) (is_next_local u t) r says) seen old v ctx result new) is_answer e
