-- A context that settles can go on.
use Rattle.std.proofs.Common.{ℕ, Bool, true, false, Option, Some, None, is_some, arith}
use Rattle.sa_base.specs.declared.number.ThreadNo.{ThreadNo}
use Rattle.sa_base.specs.declared.context.Seen.{Seen}
use Rattle.sa_package_model.specs.declared.context.Context.{Context}
use Rattle.sa_package_model.specs.declared.context.ContextState.{ContextState}
use Rattle.sa_package_model.specs.declared.context.ContextState.TheVariants.{Hint, Return}
use Rattle.sa_package_model.specs.declared.package.Package.{Package}
use Rattle.sa_package_model.specs.Context.{is_left, settled_to, has_bulk}
use Rattle.sa_package_model.specs.Conditions.{CanWork, CanSettle, CanAct, CanStep}
use Rattle.sa_package_model.specs.Rules.{at_state, owed, settled}
use Rattle.sa_package_model.specs.Step.{if_owed, if_bulk, resettled}

works_at : (u : Package) (c : Context) (t : Option ThreadNo) (s : ContextState) → CanWork u c t → CanWork u (at_state c s) t
works_at u c t s h = record { section = h.section; carries = h.carries; thread = h.thread }

acts : (u : Package) (c : Context) (t : Option ThreadNo) (left owes bulk : Bool) → CanSettle u c t → (s : ContextState)
    → CanAct u (at_state c s) (settled_to t left owes bulk)
acts u c t true owes bulk h s = works_at u c t s h.works
acts u c t false true bulk h s = record { works = works_at u c t s h.works; thread = h.thread }
acts u c (Some n) false false bulk h s = h.thread
acts u c None false false true h s = record { works = works_at u c None s h.works; thread = tt }
acts u c None false false false h s = omega arith

can-settled : (u : Package) (seen : Seen) (c : Context) (t : Option ThreadNo) → CanStep u seen c → CanSettle u c t → CanStep u seen (settled u seen c t)
can-settled u seen c t can h = record {
  code = can.code;
  threads = can.threads;
  proc = can.proc;
  work = can.work;
  acts = acts u c t (is_left c) (is_some (owed u seen)) (has_bulk seen) h (settled_to t (is_left c) (is_some (owed u seen)) (has_bulk seen));
}

can-if_owed : (u : Package) (seen : Seen) (c : Context) (t : Option ThreadNo) (more : Option ℕ) → CanStep u seen c → CanSettle u c t
    → CanStep u seen (if_owed u seen c t more)
can-if_owed u seen c t (Some n) can h = can
can-if_owed u seen c t None can h = can-settled u seen c t can h

can-if_bulk : (u : Package) (seen : Seen) (c : Context) (bulk : Bool) → CanStep u seen c → CanSettle u c None → CanStep u seen (if_bulk u seen c bulk)
can-if_bulk u seen c true can h = can
can-if_bulk u seen c false can h = can-settled u seen c None can h

can-at : (u : Package) (seen : Seen) (c : Context) (s : ContextState) → CanAct u c s → CanStep u seen c → CanStep u seen (resettled u seen c s)
can-at u seen c (Hint t) act can = can-if_owed u seen c t (owed u seen) can act
can-at u seen c Return act can = can-if_bulk u seen c (has_bulk seen) can act
can-at u seen c _ act can = can

pub can-resettled : (u : Package) (seen : Seen) (c : Context) → CanStep u seen c → CanStep u seen (resettled u seen c c.state)
can-resettled u seen c can = can-at u seen c c.state can.acts can
