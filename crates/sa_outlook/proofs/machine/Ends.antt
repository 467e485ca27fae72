-- Machines that are alike have the same end.
use Rattle.std.proofs.Common.{◌≡◌, ℕ, Bool, ◌&&◌, not, eqb, Option, Some, None, is_some, List, [], ◌∷◌, length, map, get_or, slice_get, refl, sym, ap, ◌∙◌, arith}
use Rattle.std.specs.List.{list_all}
use Rattle.std.proofs.lemmas.Option.{same_Some}
use Rattle.sa_base.specs.declared.number.SpaceNo.{SpaceNo}
use Rattle.sa_spaces.specs.Space.{SpaceView}
use Rattle.sa_spaces.specs.Workload.{WorkloadView}
use Rattle.sa_abstract.specs.Calls.{Calls}
use Rattle.sa_assign.specs.Reaim.{proc_no}
use Rattle.sa_devices.specs.Ios.{Io}
use Rattle.sa_kernel_model.specs.State.{KernelState, owner_of}
use Rattle.sa_kernel_model.specs.Seen.{is_raised, has_line, is_called, has_call, is_quiet}
use Rattle.sa_core_model.specs.Machine.{Machine, user_of, context_on}
use Rattle.sa_core_model.specs.End.{is_done, is_inactive, owes_by, owes_in, is_inside, is_any_inside, all_done, is_stuck}
use Rattle.sa_outlook.specs.Nameless.{Held, NamelessIo, nameless_io}
use Rattle.sa_outlook.specs.DueOrder.{in_order}
use Rattle.sa_outlook.specs.Outlook.{held_by, look_in, see}
use Rattle.sa_outlook.specs.UserLevels.{IgnoresNumbers}
use Rattle.sa_outlook.proofs.ios.WholeLists.{length-order}
use Rattle.sa_outlook.proofs.Alike.{AlikeKernels, AlikeMachines}
use Rattle.sa_outlook.proofs.kernel.Closings.{calls-alike, least-alike}
use Rattle.sa_outlook.proofs.machine.Calls.{AreMade}

module _ {C D : Type 0} (look : ℕ → C → D) where
  length-ios : (e : ℕ) (held : Held C) (xs : List Io) → length (map (nameless_io look e held) xs) ≡ length xs
  length-ios e held [] = refl
  length-ios e held (x ∷ xs) = let z = length-ios e held xs in omega arith

  under_way-alike : (e g : ℕ) (k l : KernelState C) → AlikeKernels look e g k l → length k.under_way ≡ length l.under_way
  under_way-alike e g k l was =
      sym (length-order k.under_way) ∙ sym (length-ios e (held_by k) (in_order k.under_way))
      ∙ ap (λ (xs : List (NamelessIo D)). length xs) was.ios
      ∙ length-ios g (held_by l) (in_order l.under_way) ∙ length-order l.under_way

  pub quiet-alike : (e g : ℕ) (k l : KernelState C) → AlikeKernels look e g k l → is_quiet k ≡ is_quiet l
  quiet-alike e g k l was =
      ap (λ (n : ℕ). eqb n 0 && not (has_line k) && not (has_call k)) (under_way-alike e g k l was)
      ∙ ap (λ (o : Option ℕ). eqb (length l.under_way) 0 && not (is_some o) && not (has_call k))
      (least-alike look (length k.lives) (length l.lives) (is_raised k) (is_raised l) was.lives was.raised)
      ∙ ap (λ (o : Option ℕ). eqb (length l.under_way) 0 && not (has_line l) && not (is_some o))
      (least-alike look (length k.demands) (length l.demands) (is_called k) (is_called l) (ap (λ (ds : List ℕ). length ds) was.demands)
      (calls-alike look e g k l was))

module _ {U C D : Type 0} (f : Calls U C) (plain : Option SpaceView → C → D) (IsMade : Option SpaceView → U → Type 0) (laws : IgnoresNumbers f plain IsMade) where
  pub done-alike : (m n : Machine U C) → AlikeMachines plain m n → all_done f m ≡ all_done f n
  done-alike m n was = ap (list_all (is_done f)) was.users

  owes-same : (w : WorkloadView) (s : SpaceNo) (o : Option U) (c d : Option C) → ((u : U) → o ≡ Some u → IsMade (slice_get w.spaces s.0) u)
      → see plain w (Some s) c ≡ see plain w (Some s) d → owes_by f o c ≡ owes_by f o d
  owes-same w s (Some u) None (Some d) made same = absurd cc
  owes-same w s (Some u) (Some c) None made same = absurd cc
  owes-same w s (Some u) (Some c) (Some d) made same = laws.owes (slice_get w.spaces s.0) u c d (made u refl) (same_Some _ _ same)
  owes-same w s _ _ _ made same = refl

  inside-in : (m n : Machine U C) (p : ℕ) (o : Option SpaceNo) → AreMade f plain IsMade laws m → AlikeMachines plain m n
      → see plain m.workload o (context_on m (proc_no p)) ≡ see plain m.workload o (context_on n (proc_no p))
      → owes_in f m (proc_no p) o ≡ owes_in f n (proc_no p) o
  inside-in m n p None made was same = refl
  inside-in m n p (Some s) made was same =
      owes-same m.workload s (user_of m s) (context_on m (proc_no p)) (context_on n (proc_no p)) (λ u at. made s.0 u at) same
      ∙ ap (λ (us : List U). owes_by f (slice_get us s.0) (context_on n (proc_no p))) was.users

  inside-alike : (m n : Machine U C) → AreMade f plain IsMade laws m → AlikeMachines plain m n → (p : ℕ) → is_inside f m p ≡ is_inside f n p
  inside-alike m n made was p =
      let own : owner_of m.kernel (proc_no p) ≡ owner_of n.kernel (proc_no p) = ap (λ (os : List (Option SpaceNo)). get_or os p None) was.kernel.owners in
      inside-in m n p (owner_of m.kernel (proc_no p)) made was
      (was.contexts p ∙ ap (λ (w : WorkloadView). see plain w (owner_of n.kernel (proc_no p)) (context_on n (proc_no p))) (sym was.workload)
      ∙ ap (λ (o : Option SpaceNo). see plain m.workload o (context_on n (proc_no p))) (sym own))
      ∙ ap (owes_in f n (proc_no p)) own

  pub stuck-alike : (m n : Machine U C) → AreMade f plain IsMade laws m → AlikeMachines plain m n → is_stuck f m ≡ is_stuck f n
  stuck-alike m n made was =
      ap (λ (us : List U). list_all (is_inactive f) us && is_quiet m.kernel && not (is_any_inside f m)) was.users
      ∙ ap (λ (b : Bool). list_all (is_inactive f) n.users && b && not (is_any_inside f m))
      (quiet-alike (look_in plain m.workload) m.event n.event m.kernel n.kernel was.kernel)
      ∙ ap (λ (o : Option ℕ). list_all (is_inactive f) n.users && is_quiet n.kernel && not (is_some o))
      (least-alike (look_in plain m.workload) (length m.contexts) (length n.contexts) (is_inside f m) (is_inside f n) was.processors
      (inside-alike m n made was))
