-- A user level that looks at no number also keeps what each of its calls keeps.
use Rattle.std.proofs.Common.{◌≡◌, ℕ, Bool, true, false, if◌then◌else◌, Option, None, length, refl, ◌∙◌}
use Rattle.std.proofs.lemmas.List.{length-replicate}
use Rattle.sa_base.specs.declared.context.Seen.{Seen}
use Rattle.sa_base.specs.declared.context.Stopped.{Stopped}
use Rattle.sa_base.specs.declared.record.Note.{Note}
use Rattle.sa_base.specs.declared.limits.TheConstants.{MAX_THREADS}
use Rattle.sa_spaces.specs.Space.{SpaceView}
use Rattle.sa_abstract.specs.Setting.{Setting}
use Rattle.sa_abstract.specs.Calls.{Calls}
use Rattle.sa_outlook.specs.UserLevels.{IgnoresNumbers}
use Rattle.sa_lists.specs.declared.ranks.Ranks.TheVariants.{One, Many}
use Rattle.sa_lists.specs.ReadyView.{no_threads}
use Rattle.sa_package_model.specs.declared.context.Context.{Context}
use Rattle.sa_package_model.specs.Step.{fast_calls, stepped}
use Rattle.sa_package_model.specs.Rules.{settled}
use Rattle.sa_package_model.specs.Context.{carried_by}
use Rattle.sa_prio_model.specs.declared.context.PrioContext.{PrioContext}
use Rattle.sa_prio_model.specs.declared.pair.Outranked.{Outranked}
use Rattle.sa_prio_model.specs.Prio.{Prio, outranked, lowest}
use Rattle.sa_prio_model.specs.Step as prio
use Rattle.sa_package_outlook.specs.Contexts.{plain, IsMade, plain_prio, IsMadeFor}
use Rattle.sa_package_outlook.proofs.FastThreads.{fast-ignores-numbers}
use Rattle.sa_package_outlook.proofs.Priorities.{prio-ignores-numbers}
use Rattle.sa_package_keys.specs.Packages.{IsFast, IsPrio}
use Rattle.sa_package_keys.proofs.RanksStay.{ranks_of, made-ranks, stepped-stay, told-stay}

module _ {U C D : Type 0} (f : Calls U C) (plain : Option SpaceView → C → D) (IsMade : Option SpaceView → U → Type 0) (laws : IgnoresNumbers f plain IsMade)
    (Q : U → Type 0) where
  also-kept : ((s : Setting) → Q (f.started s)) → ((u : U) (seen : Seen) → Q u → Q (f.begun u seen).0)
      → ((u : U) (c : C) (note : Note) (held : Option (Stopped C)) → Q u → Q (f.told u c note held).0)
      → ((u : U) (seen : Seen) (c : C) → Q u → Q (f.answered u seen c).0) → ((u : U) (seen : Seen) (c : C) → Q u → Q (f.stepped u seen c).user)
      → IgnoresNumbers f plain (λ def u. IsMade def u × Q u)
  also-kept started begun told answered stepped = record {
    started = λ s. (laws.started s, started s);
    begun = λ def u seen e made.
        let x = laws.begun def u seen e made.0 in record { user = x.user; ctx = x.ctx; made = (x.made, begun u seen made.1) };
    told = λ def u c d note other held i made same_c same_n.
        let x = laws.told def u c d note other held i made.0 same_c same_n in
        record { user = x.user; ctx = x.ctx; made = (x.made, told u c note held made.1) };
    answered = λ def u seen e c d made same.
        let x = laws.answered def u seen e c d made.0 same in record { user = x.user; ctx = x.ctx; made = (x.made, answered u seen c made.1) };
    stepped = λ def u seen e c d made same.
        let x = laws.stepped def u seen e c d made.0 same in
        record { user = x.user; ctx = x.ctx; says = x.says; answer = x.answer; made = (x.made, stepped u seen c made.1) };
    thread = λ def u c d made same. laws.thread def u c d made.0 same;
    idle = λ def u c d made same. laws.idle def u c d made.0 same;
    owes = λ def u c d made same. laws.owes def u c d made.0 same;
  }

pub fast-ignores : IgnoresNumbers fast_calls plain IsFast
fast-ignores =
    also-kept fast_calls plain IsMade fast-ignores-numbers (λ u. length (ranks_of u) ≡ 0) (λ s. made-ranks (no_threads s.processors One MAX_THREADS) 0 0) (λ u seen same. same)
    (λ u c note held same. told-stay u c note held ∙ same) (λ u seen c same. same) (λ u seen c same. stepped-stay u seen c ∙ same)

-- thread priorities
module _ (v : Prio) where
  abbrev Stay : Prio → Type 0
  Stay w = length (ranks_of w.base) ≡ length (ranks_of v.base)

  goes-stay : (seen : Seen) (c : Context) → Stay (prio.goes v seen c).user
  goes-stay seen c = stepped-stay v.base seen c

  urged-stay : (seen : Seen) (c : Context) (own : Option ℕ) (other : Option Outranked) → Stay (prio.urged_by v seen c own other).user
  urged-stay seen c None None = goes-stay seen (settled v.base seen c (carried_by c.state))
  urged-stay seen c _ _ = refl

  served-stay : (seen : Seen) (c : PrioContext) → Stay (prio.served v seen c).user
  served-stay seen c = go c.urge
    where
      go : (b : Bool) → Stay (if b then prio.urged v seen c.base else prio.goes v seen c.base).user
      go true = urged-stay seen c.base (outranked v seen seen.proc) (lowest v seen)
      go false = goes-stay seen c.base

pub prio-ignores : IgnoresNumbers prio.prio_calls plain_prio IsPrio
prio-ignores =
    also-kept prio.prio_calls plain_prio IsMadeFor prio-ignores-numbers (λ v. length (ranks_of v.base) ≡ MAX_THREADS) started (λ v seen same. same)
    (λ v c note held same. told-stay v.base c.base note _ ∙ same) (λ v seen c same. same)
    (λ v seen c same. served-stay v seen (prio.again v seen c) ∙ same)
  where
    started : (s : Setting) → length (ranks_of (prio.started s).base) ≡ MAX_THREADS
    started s = made-ranks (no_threads 1 Many MAX_THREADS) 0 0 ∙ length-replicate {A = ℕ} MAX_THREADS 0
