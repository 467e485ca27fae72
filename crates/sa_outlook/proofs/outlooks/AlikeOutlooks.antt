-- Machines of runs are alike exactly where their outlooks are equal; and machines of one workload with the same key have one outlook.
use Rattle.std.proofs.Common.{◌≡◌, ℕ, Bool, Option, Some, None, is_some, List, length, get_or, refl, sym, ap, ◌∙◌}
use Rattle.std.proofs.Math.Path.{fun_ext}
use Rattle.sa_base.specs.declared.number.SpaceNo.{SpaceNo}
use Rattle.sa_base.specs.declared.number.ActNo.{ActNo}
use Rattle.sa_spaces.specs.Space.{SpaceView}
use Rattle.sa_spaces.specs.Workload.{WorkloadView}
use Rattle.sa_abstract.specs.Keeps.{Standing}
use Rattle.sa_kernel_model.specs.State.{KernelState}
use Rattle.sa_kernel_model.specs.Sound.{IsSound}
use Rattle.sa_core_model.specs.Machine.{Machine}
use Rattle.sa_outlook.specs.Nameless.{NamelessNote, NamelessIo}
use Rattle.sa_outlook.specs.Outlook.{untold_notes, nameless_ios, look_in, Outlook, outlook}
use Rattle.sa_outlook.specs.Key.{SameKey}
use Rattle.sa_outlook.proofs.Alike.{AlikeMachines}
use Rattle.sa_outlook.proofs.Invariant.{fixed_of, Invariant}

-- an activation runs where a space owns the processor, and nowhere else
live-owned : {C : Type 0} (k : KernelState C) → IsSound k → (p : ℕ) → is_some (get_or k.lives p None) ≡ is_some (get_or k.assign.owners p None)
live-owned k sound p = go (get_or k.lives p None) (get_or k.assign.owners p None) refl refl
  where
    go : (l : Option ActNo) (o : Option SpaceNo) → get_or k.lives p None ≡ l → get_or k.assign.owners p None ≡ o → is_some l ≡ is_some o
    go None None is_l is_o = refl
    go (Some a) (Some s) is_l is_o = refl
    go (Some a) None is_l is_o = absurd (let r = sound.formed.lives.run p a is_l in let z = r.owner in cc)
    go None (Some s) is_l is_o =
        absurd (let z = (sound.placed p).runs (ap (λ (x : Option SpaceNo). is_some x) is_o) in let y = ap (λ (x : Option ActNo). is_some x) is_l in cc)

module _ {U C D : Type 0} (plain : Option SpaceView → C → D) where
  -- outlooks with the same fields are one
  fields-same : (o q : Outlook U D) → o.workload ≡ q.workload → o.owners ≡ q.owners → o.aims ≡ q.aims → o.raised ≡ q.raised → o.marks ≡ q.marks
      → o.contexts ≡ q.contexts → o.users ≡ q.users
      → o.taken ≡ q.taken → o.demands ≡ q.demands → o.untold ≡ q.untold → o.pages ≡ q.pages → o.ios ≡ q.ios → o.first ≡ q.first → o.beat ≡ q.beat
      → o.until ≡ q.until → o ≡ q
  fields-same o q e1 e2 e3 e4 e5 e6 e7 e8 e9 e10 e11 e12 e13 e14 e15 =
      let o1 : Outlook U D = record o { workload = q.workload } in
      let o2 : Outlook U D = record o1 { owners = q.owners } in
      let o3 : Outlook U D = record o2 { aims = q.aims } in
      let o4 : Outlook U D = record o3 { raised = q.raised } in
      let o5 : Outlook U D = record o4 { marks = q.marks } in
      let o6 : Outlook U D = record o5 { contexts = q.contexts } in
      let o7 : Outlook U D = record o6 { users = q.users } in
      let o8 : Outlook U D = record o7 { taken = q.taken } in
      let o9 : Outlook U D = record o8 { demands = q.demands } in
      let o10 : Outlook U D = record o9 { untold = q.untold } in
      let o11 : Outlook U D = record o10 { pages = q.pages } in
      let o12 : Outlook U D = record o11 { ios = q.ios } in
      let o13 : Outlook U D = record o12 { first = q.first } in
      let o14 : Outlook U D = record o13 { beat = q.beat } in
      ap {B = Outlook U D} (λ (z : WorkloadView). record o { workload = z }) e1
      ∙ ap {B = Outlook U D} (λ (z : List (Option SpaceNo)). record o1 { owners = z }) e2
      ∙ ap {B = Outlook U D} (λ (z : List (Option SpaceNo)). record o2 { aims = z }) e3
      ∙ ap {B = Outlook U D} (λ (z : ℕ → Bool). record o3 { raised = z }) e4
      ∙ ap {B = Outlook U D} (λ (z : List Bool). record o4 { marks = z }) e5
      ∙ ap {B = Outlook U D} (λ (z : ℕ → Option D). record o5 { contexts = z }) e6
      ∙ ap {B = Outlook U D} (λ (z : List U). record o6 { users = z }) e7
      ∙ ap {B = Outlook U D} (λ (z : ℕ → ℕ). record o7 { taken = z }) e8
      ∙ ap {B = Outlook U D} (λ (z : List ℕ). record o8 { demands = z }) e9
      ∙ ap {B = Outlook U D} (λ (z : ℕ → List (NamelessNote D)). record o9 { untold = z }) e10
      ∙ ap {B = Outlook U D} (λ (z : List ℕ). record o10 { pages = z }) e11
      ∙ ap {B = Outlook U D} (λ (z : List (NamelessIo D)). record o11 { ios = z }) e12
      ∙ ap {B = Outlook U D} (λ (z : ℕ). record o12 { first = z }) e13
      ∙ ap {B = Outlook U D} (λ (z : ℕ). record o13 { beat = z }) e14
      ∙ ap {B = Outlook U D} (λ (z : Option ℕ). record o14 { until = z }) e15

  pub outlook-of-key : (m n : Machine U C) → m.workload ≡ n.workload → SameKey plain m n → outlook plain m ≡ outlook plain n
  outlook-of-key m n workload same =
      fields-same (outlook plain m) (outlook plain n) workload same.owners same.aims (fun_ext same.raised) same.marks (fun_ext same.contexts) same.users
      (fun_ext same.taken) same.demands
      (fun_ext (λ s. same.untold s ∙ ap (λ (w : WorkloadView). untold_notes (look_in plain w) n.kernel s) workload)) same.pages
      (same.ios ∙ ap (λ (w : WorkloadView). nameless_ios (look_in plain w) n.event n.kernel) workload) same.first same.beat same.until

  pub outlook-of : (m n : Machine U C) → AlikeMachines plain m n → outlook plain m ≡ outlook plain n
  outlook-of m n was =
      let k = was.kernel in
      outlook-of-key m n was.workload (record {
        owners = k.owners;
        aims = k.aims;
        raised = k.raised;
        marks = k.marks;
        contexts = was.contexts;
        users = was.users;
        taken = k.taken;
        demands = k.demands;
        untold = k.untold;
        pages = k.pages;
        ios = k.ios;
        first = k.first;
        beat = was.beat;
        until = was.until;
      })

  -- what an outlook does not have follows from the workload
  pub alike-of : (stands : Standing U C) (IsMade : Option SpaceView → U → Type 0) (m n : Machine U C) → Invariant stands IsMade m → Invariant stands IsMade n
      → outlook plain m ≡ outlook plain n → AlikeMachines plain m n
  alike-of stands IsMade m n om on same =
      let a = om.between.standing in
      let b = on.between.standing in
      let x = a.sound.formed.sizes in
      let y = b.sound.formed.sizes in
      let workload : m.workload ≡ n.workload = ap (λ (o : Outlook U D). o.workload) same in
      let owners : m.kernel.assign.owners ≡ n.kernel.assign.owners = ap (λ (o : Outlook U D). o.owners) same in
      let processors : m.workload.processors ≡ n.workload.processors = ap (λ (w : WorkloadView). w.processors) workload in
      let spaces : length m.workload.spaces ≡ length n.workload.spaces = ap (λ (w : WorkloadView). length w.spaces) workload in
      record {
        workload = workload;
        kernel = record {
          fixed = om.regular.fixed ∙ ap fixed_of workload ∙ sym on.regular.fixed;
          owners = owners;
          aims = ap (λ (o : Outlook U D). o.aims) same;
          raised = λ p. ap (λ (o : Outlook U D). o.raised p) same;
          lines = x.lines ∙ a.lives ∙ processors ∙ sym b.lives ∙ sym y.lines;
          marks = ap (λ (o : Outlook U D). o.marks) same;
          live = λ p. live-owned m.kernel a.sound p ∙ ap (λ (os : List (Option SpaceNo)). is_some (get_or os p None)) owners
              ∙ sym (live-owned n.kernel b.sound p);
          lives = a.lives ∙ processors ∙ sym b.lives;
          taken = λ s. ap (λ (o : Outlook U D). o.taken s) same;
          takers = x.taken ∙ sym y.taken;
          demands = ap (λ (o : Outlook U D). o.demands) same;
          untold = λ s. ap (λ (o : Outlook U D). o.untold s) same ∙ ap (λ (w : WorkloadView). untold_notes (look_in plain w) n.kernel s) (sym workload);
          spaces = x.untold ∙ a.demands ∙ spaces ∙ sym b.demands ∙ sym y.untold;
          ios = ap (λ (o : Outlook U D). o.ios) same ∙ ap (λ (w : WorkloadView). nameless_ios (look_in plain w) n.event n.kernel) (sym workload);
          pages = ap (λ (o : Outlook U D). o.pages) same;
          first = ap (λ (o : Outlook U D). o.first) same;
        };
        users = ap (λ (o : Outlook U D). o.users) same;
        contexts = λ p. ap (λ (o : Outlook U D). o.contexts p) same;
        processors = a.contexts ∙ processors ∙ sym b.contexts;
        until = ap (λ (o : Outlook U D). o.until) same;
        beat = ap (λ (o : Outlook U D). o.beat) same;
      }
