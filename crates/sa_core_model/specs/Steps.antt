-- When local instructions that are committed at once are as many turns.
--
-- What a user level's calls keep does not tie a step to a run of local instructions: a context that stands at an
-- instruction may do something else in its step. So it is a condition here that each step does one of the instructions.
-- And I/Os that are due wait for a later turn in a commit, while a turn completes one; so none may be due.
use Rattle.std.specs.Prelude.{◌≡◌, ℕ, zero, suc, ◌+◌, Some, None, ◌++◌}
use Rattle.sa_base.specs.declared.number.ProcNo.{ProcNo}
use Rattle.sa_base.specs.declared.number.SpaceNo.{SpaceNo}
use Rattle.sa_base.specs.declared.context.Seen.{Seen}
use Rattle.sa_abstract.specs.Calls.{Calls, Stepped, Gone}
use Rattle.sa_abstract.specs.declared.answer.Step.TheVariants.{Did}
use Rattle.sa_devices.specs.Ios.{due_of}
use Rattle.sa_kernel_model.specs.State.{owner_of}
use Rattle.sa_core_model.specs.Machine.{Machine, user_of, context_on}

module _ {U C : Type 0} where
  -- a step that does so, and asks for nothing
  abbrev pub as_step : Gone U C → Stepped U C
  as_step r = record { user = r.user; ctx = r.ctx; says = r.says; answer = Did }

  -- one run of instructions, and another after it
  abbrev pub both : Gone U C → Gone U C → Gone U C
  both first rest = record { user = rest.user; ctx = rest.ctx; says = first.says ++ rest.says }

module _ {U C : Type 0} (f : Calls U C) where
  -- the first of the instructions, and n others after it, are done at once as one after the other
  abbrev pub IsFirstOf : ℕ → U → Seen → C → Type 0
  IsFirstOf zero u seen c = Unit {0}
  IsFirstOf (suc n) u seen c =
      (next : Seen) → f.went u seen c (suc (suc n)) ≡ both (f.went u seen c 1) (f.went (f.went u seen c 1).user next (f.went u seen c 1).ctx (suc n))

  -- each of the next n steps of a context does a local instruction, whatever is seen
  abbrev pub AreSteps : ℕ → U → C → Type 0
  AreSteps zero u c = Unit {0}
  AreSteps (suc n) u c =
      ((seen : Seen) → f.stepped u seen c ≡ as_step (f.went u seen c 1))
      × ((seen : Seen) → IsFirstOf n u seen c)
      × ((seen : Seen) → AreSteps n (f.went u seen c 1).user (f.went u seen c 1).ctx)

  -- no I/O is due before the last of n events is over, and the context that runs on a processor does a local
  -- instruction in each of its next n steps
  pub record CanStep (m : Machine U C) (p : ProcNo) (n : ℕ) : Type 0 where
    pub none_due : due_of (m.event + n) m.kernel.under_way ≡ None
    pub steps : (s : SpaceNo) (u : U) (c : C) → owner_of m.kernel p ≡ Some s → user_of m s ≡ Some u → context_on m p ≡ Some c → AreSteps n u c
