-- What an entry that the running context asks for makes of the machine.
use Rattle.std.proofs.Common.{◌≡◌, ℕ, ◌+◌, ◌≤◌, Option, Some, None, refl, sym, ap, subst, ◌∙◌, arith}
use Rattle.sa_base.specs.declared.number.ProcNo.{ProcNo}
use Rattle.sa_base.specs.declared.number.SpaceNo.{SpaceNo}
use Rattle.sa_base.specs.declared.number.ActNo.{ActNo}
use Rattle.sa_base.specs.Recorded.{Recorded}
use Rattle.sa_abstract.specs.Calls.{Calls}
use Rattle.sa_abstract.specs.Keeps.{Standing}
use Rattle.sa_kernel_model.specs.declared.entry.TheConstants.{ENTRY_ITEMS}
use Rattle.sa_kernel_model.specs.declared.entry.Entry.{Entry}
use Rattle.sa_kernel_model.specs.State.{Scene, owner_of}
use Rattle.sa_kernel_model.specs.Entries.{entered}
use Rattle.sa_kernel_model.specs.Owed.{owed_items}
use Rattle.sa_kernel.specs.Kept.{KernelView, kernel_of}
use Rattle.sa_core_model.specs.Machine.{Machine, scene_of, with_scene, called_by, called, user_of, context_on, answered}
use Rattle.sa_core_model.specs.Turn.{kernel_entered, answered_in, hinted}
use Rattle.sa_core_model.specs.Standing.{Stands}
use Rattle.sa_machine.specs.declared.machine.MachineParts.{MachineParts}
use Rattle.sa_machine.specs.Room.{owed, Spends}

module _ {U C : Type 0} (p : ProcNo) (m : Machine U C) (entry : Entry C) (x : Scene C) (fresh : ActNo)
    (is : x ≡ entered m.event p fresh entry (scene_of m)) where
  entered-is : with_scene x m ≡ kernel_entered p fresh entry m
  entered-is = ap (λ (z : Scene C). with_scene z m) is

  pub stands-entered : (stands : Standing U C) (e : ℕ) → Stands stands e (kernel_entered p fresh entry m) → Stands stands e (with_scene x m)
  stands-entered stands e st = subst (λ (z : Machine U C). Stands stands e z) (sym entered-is) st

  -- no space owns the processor after the entry, or one does
  pub hinted-away : (f : Calls U C) → owner_of x.state p ≡ None → with_scene x m ≡ hinted f p fresh entry m
  hinted-away f owner =
      sym (ap (λ (o : Option SpaceNo). answered_in f p o (with_scene x m)) owner)
      ∙ ap (λ (z : Machine U C). answered_in f p (owner_of z.kernel p) z) entered-is

  pub hinted-some : (f : Calls U C) (s : SpaceNo) (n : Machine U C) → owner_of x.state p ≡ Some s → n ≡ answered f p s (with_scene x m)
      → n ≡ hinted f p fresh entry m
  hinted-some f s n owner is_n =
      is_n ∙ sym (ap (λ (o : Option SpaceNo). answered_in f p o (with_scene x m)) owner)
      ∙ ap (λ (z : Machine U C). answered_in f p (owner_of z.kernel p) z) entered-is

-- a call of a user level is no event
pub called-event : {U C : Type 0} (call : U → C → U × C) (p : ProcNo) (s : SpaceNo) (m : Machine U C) → (called call p s m).event ≡ m.event
called-event {U} {C} call p s m = go (user_of m s) (context_on m p)
  where
    go : (u : Option U) (c : Option C) → (called_by call p s u c m).event ≡ m.event
    go (Some u) (Some c) = refl
    go (Some u) None = refl
    go None (Some c) = refl
    go None None = refl

-- what an entry and a call after it spend
pub spends-entered : {U C : Type 0} (old new : MachineParts U C) (k : KernelView C) (t : Recorded) → new.kernel ≡ k → new.trace ≡ t → new.events ≡ old.events
    → old.trace.spare + owed_items (kernel_of k) ≤ t.spare + owed old + ENTRY_ITEMS → k.spare + 1 ≡ old.kernel.spare → k.last ≡ old.events
    → Spends old new ENTRY_ITEMS 1
spends-entered {U} {C} old new k t kernel trace event items spare last =
    let room = ap (λ (r : Recorded). r.spare) trace in
    let due = ap (λ (v : KernelView C). owed_items (kernel_of v)) kernel in
    let left = ap (λ (v : KernelView C). v.spare) kernel in
    let latest = ap (λ (v : KernelView C). v.last) kernel in
    record {
      items = omega (arith, items, room, due);
      entries = omega (arith, spare, left);
      last = omega (arith, last, latest, event);
      events = omega (arith, event);
    }
