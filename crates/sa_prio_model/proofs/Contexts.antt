-- The contexts without their marks; and when all stand.
use Rattle.std.proofs.Common.{◌≡◌, ℕ, ◌<◌, length, Option, Some, None, sym, ap, ◌∙◌, subst, inl, inr, arith}
use Rattle.std.proofs.Math.Path.{fun_ext}
use Rattle.std.proofs.lemmas.Bool.{cases_eq}
use Rattle.std.proofs.lemmas.Option.{same_Some}
use Rattle.std.specs.Option.{option_map}
use Rattle.sa_base.specs.declared.number.ProcNo.{ProcNo}
use Rattle.sa_base.specs.declared.number.ThreadNo.{ThreadNo}
use Rattle.sa_abstract.specs.Setting.{Setting}
use Rattle.sa_abstract.specs.Calls.{Contexts}
use Rattle.sa_lemmas.specs.Function.{put}
use Rattle.sa_lemmas.proofs.FunctionUpdates.{put-other, put-at}
use Rattle.sa_lists.proofs.Changes.{home-inside}
use Rattle.sa_fast.proofs.SyncSteps.{holds-set}
use Rattle.sa_package_model.specs.Conditions.{IsThread}
use Rattle.sa_package_model.specs.Stands.{IsStanding}
use Rattle.sa_prio_model.specs.declared.context.PrioContext.{PrioContext}
use Rattle.sa_prio_model.specs.Prio.{Prio, on_at, with_on}
use Rattle.sa_prio_model.specs.Conditions.{CanRank}
use Rattle.sa_prio_model.specs.Stands.{unmarked_of, bases, IsMarkedWell, IsPrioStanding}

pub bases-put : (cs : Contexts PrioContext) (a : ℕ) (o : Option PrioContext) → bases (put cs a o) ≡ put (bases cs) a (option_map unmarked_of o)
bases-put cs a o = fun_ext (λ b. elim (cases_eq b a) [
  | inl same ↦ ap (option_map unmarked_of) (put-at cs a b o same) ∙ sym (put-at (bases cs) a b (option_map unmarked_of o) same)
  | inr apart ↦ ap (option_map unmarked_of) (put-other cs a b o apart) ∙ sym (put-other (bases cs) a b (option_map unmarked_of o) apart)
])

-- the marks, where one context changes, or is gone
pub marks-put : (cs : Contexts PrioContext) (a : ℕ) (d : PrioContext) → ((b : ℕ) (c : PrioContext) → cs b ≡ Some c → IsMarkedWell c) → IsMarkedWell d
    → (b : ℕ) (c : PrioContext) → put cs a (Some d) b ≡ Some c → IsMarkedWell c
marks-put cs a d marks well b c is = elim (cases_eq b a) [
  | inl same ↦ subst IsMarkedWell (same_Some d c (sym (put-at cs a b (Some d) same) ∙ is)) well
  | inr apart ↦ marks b c (sym (put-other cs a b (Some d) apart) ∙ is)
]

pub marks-gone : (cs : Contexts PrioContext) (a : ℕ) → ((b : ℕ) (c : PrioContext) → cs b ≡ Some c → IsMarkedWell c)
    → (b : ℕ) (c : PrioContext) → put cs a None b ≡ Some c → IsMarkedWell c
marks-gone cs a marks b c is = elim (cases_eq b a) [
  | inl same ↦ absurd (let none : None ≡ Some c = sym (put-at cs a b None same) ∙ is in cc)
  | inr apart ↦ marks b c (sym (put-other cs a b None apart) ∙ is)
]

-- the threads on the processors, once another one is on one of them
pub threads-with : (v : Prio) (p : ProcNo) (t : Option ThreadNo) → p.0 < length v.on → IsThread t → ((q : ℕ) → IsThread (on_at v q)) → (q : ℕ)
    → IsThread (on_at (with_on v p t) q)
threads-with v p t inside thread threads q = holds-set IsThread v.on p.0 q t None inside (λ same. thread) (λ other. threads q)

module _ (s : Setting) (e : ℕ) (v : Prio) (cs : Contexts PrioContext) (h : IsPrioStanding s e v cs) where
  pub ranks_can : CanRank v
  ranks_can =
      let some = h.base.made.setting.some_processor in
      let inside = home-inside v.base.shared.state.lists v.base.processors 0 h.base.parts.lists (let processors = h.base.made.processors in omega arith) in
      record {
        list = omega arith;
        all = h.base.parts.threads;
        few = let few = h.base.made.setting.few_processors in let processors = h.processors in omega arith;
        threads = h.threads;
      }

  -- another value and one context that changed
  pub built : (f a : ℕ) (w : Prio) (d : PrioContext) → IsStanding s f w.base (put (bases cs) a (Some d.base)) → IsMarkedWell d → length w.on ≡ s.processors
      → ((q : ℕ) → IsThread (on_at w q))
      → IsPrioStanding s f w (put cs a (Some d))
  built f a w d base well processors threads = record {
    base = subst (IsStanding s f w.base) (sym (bases-put cs a (Some d))) base;
    marks = marks-put cs a d h.marks well;
    processors = processors;
    threads = threads;
  }
