-- What a call leaves to the next one: its room, and the lengths of the lists.
use Rattle.std.proofs.Common.{◌≡◌, ℕ, ◌+◌, ◌≤◌, ◌<◌, Bool, true, false, Option, Some, None, List, [], ◌∷◌, ◌++◌, length, get_or, slice_index, refl, sym, ap, subst, ◌∙◌, arith}
use Rattle.std.proofs.lemmas.Grind.{get_or_default_zero}
use Rattle.std.proofs.Math.ListN.{length-set}
use Rattle.sa_base.specs.declared.number.ProcNo.{ProcNo}
use Rattle.sa_base.specs.declared.number.SpaceNo.{SpaceNo}
use Rattle.sa_base.specs.declared.number.ActNo.{ActNo}
use Rattle.sa_base.specs.declared.context.Stopped.{Stopped}
use Rattle.sa_base.specs.declared.record.Note.TheVariants.{Preempted, Blocked}
use Rattle.sa_base.specs.Recorded.{Recorded, Adds}
use Rattle.sa_assign.specs.AssignView.{AssignView}
use Rattle.sa_kernel.specs.declared.parts.Parts.{Parts}
use Rattle.sa_kernel.specs.View.{Spends}
use Rattle.sa_kernel.specs.Needs.{HasProc, HasSpace, MayUpcall}
use Rattle.sa_kernel_model.specs.State.{KernelState, Scene, untold_of}
use Rattle.sa_kernel_model.specs.Parts.{with_line, moved}
use Rattle.sa_kernel_model.specs.Entries.{stopped, block_begun}
use Rattle.sa_kernel_model.proofs.parts.Sizes.{Sizes, sizes_of, sizes-kept}

-- what is spent in turn
two-spent : (x y z a b : ℕ) → x ≤ y + a → y ≤ z + b → x ≤ z + (a + b)
two-spent x y z a b first next = omega arith

-- what is counted in turn
two-counted : (x y z a b : ℕ) → y ≤ x + a → z ≤ y + b → z ≤ x + (a + b)
two-counted x y z a b first next = omega arith

one-within : (x y a b : ℕ) → x ≤ y + a → x ≤ y + (a + b)
one-within x y a b few = omega arith

pub adds-more : {m n : ℕ} {t u v : Recorded} → Adds m t u → Adds n u v → Adds (m + n) t v
adds-more first next = record { spare = two-spent _ _ _ _ _ first.spare next.spare; same = next.same ∙ first.same }

-- what adds few items adds at most more
pub adds-within : {m : ℕ} {t u : Recorded} (n : ℕ) → m ≤ n → Adds m t u → Adds n t u
adds-within n few adds = record { spare = omega (arith, adds.spare); same = adds.same }

-- a read of a list of numbers, by an equal index
pub demand-read : (demands : List ℕ) (i j demand : ℕ) → demand ≡ get_or demands i demand → i ≡ j → j < length demands → demand ≡ slice_index demands j
demand-read demands i j demand is same within =
    is ∙ ap (λ (n : ℕ). get_or demands n demand) same ∙ get_or_default_zero demands j demand within

module _ {C : Type 0} where
  -- another assignment spends nothing
  pub spends-none : (m : Parts C) (a : AssignView) → Spends m (record m { assign = a }) 0 0 0
  spends-none m a = record { notices = nothing _; acts = nothing _; ios = nothing _; count = nothing _; used = nothing _ }
    where
      nothing : (x : ℕ) → x ≤ x + 0
      nothing x = omega arith

  pub spends-more : {m n o : Parts C} {a b c d e f : ℕ} → Spends m n a b c → Spends n o d e f → Spends m o (a + d) (b + e) (c + f)
  spends-more first next = record {
    notices = two-spent _ _ _ _ _ first.notices next.notices;
    acts = two-spent _ _ _ _ _ first.acts next.acts;
    ios = two-spent _ _ _ _ _ first.ios next.ios;
    count = two-counted _ _ _ _ _ first.count next.count;
    used = two-counted _ _ _ _ _ first.used next.used;
  }

  -- what spends little spends at most more
  pub spends-within : {m n : Parts C} {a b c : ℕ} (d e f : ℕ) → Spends m n a b c → Spends m n (a + d) (b + e) (c + f)
  spends-within d e f spends = record {
    notices = one-within _ _ _ _ spends.notices;
    acts = one-within _ _ _ _ spends.acts;
    ios = one-within _ _ _ _ spends.ios;
    count = one-within _ _ _ _ spends.count;
    used = one-within _ _ _ _ spends.used;
  }

  pub upcall-kept : {m n : Parts C} {a c : ℕ} → Spends m n a 0 c → n.notices.telling ≡ m.notices.telling → MayUpcall m → MayUpcall n
  upcall-kept spends same may = record {
    fetched = same ∙ may.fetched;
    room = omega (arith, spends.acts, may.room);
    few = omega (arith, spends.used, may.few);
  }

  pub proc-kept : (k m : KernelState C) (p : ProcNo) → sizes_of m ≡ sizes_of k → HasProc k p → HasProc m p
  proc-kept k m p kept has = record {
    sizes = sizes-kept k m kept has.sizes;
    within = subst (λ (n : Sizes). p.0 < n.lives) (sym kept) has.within;
  }

  pub space-kept : (k m : KernelState C) (s : SpaceNo) → sizes_of m ≡ sizes_of k → HasSpace k s → HasSpace m s
  space-kept k m s kept has = record {
    sizes = sizes-kept k m kept has.sizes;
    within = subst (λ (n : Sizes). s.0 < n.demands) (sym kept) has.within;
  }

  pub sizes-moved : (e : ℕ) (p : ProcNo) (s : SpaceNo) (owned : Bool) (x : Scene C) → sizes_of (moved e p s owned x).state ≡ sizes_of x.state
  sizes-moved e p s true x = refl
  sizes-moved e p s false x = ap (λ n. record (sizes_of x.state) { owners = n }) (length-set x.state.assign.owners p.0 (Some s))

  pub sizes-line : (p : ProcNo) (line : Option ℕ) (k : KernelState C) → sizes_of (with_line p line k) ≡ sizes_of k
  sizes-line p line k = ap (λ n. record (sizes_of k) { lines = n }) (length-set k.assign.lines p.0 line)

  pub sizes-stopped : (e : ℕ) (p : ProcNo) (o : Option SpaceNo) (l : Option ActNo) (held : Option (Stopped C)) (x : Scene C)
      → sizes_of (stopped e p o l held x).state ≡ sizes_of x.state
  sizes-stopped e p (Some s) (Some a) (Some h) x =
      let noted = untold_of x.state s.0 ++ Preempted a ∷ [] in
      λ i. record (sizes_of x.state) { lives = length-set x.state.lives p.0 None i; untold = length-set x.state.untold s.0 noted i }
  sizes-stopped e p _ _ _ x = refl

  pub sizes-begun : (e : ℕ) (p : ProcNo) (s : SpaceNo) (a : ActNo) (held : Stopped C) (len : ℕ) (page : Option ℕ) (x : Scene C)
      → sizes_of (block_begun e p s a held len page x).state ≡ sizes_of x.state
  sizes-begun e p s a held len page x =
      let noted = untold_of x.state s.0 ++ Blocked a ∷ [] in
      λ i. record (sizes_of x.state) { lives = length-set x.state.lives p.0 None i; untold = length-set x.state.untold s.0 noted i }

  pub notes-moved : (e : ℕ) (p : ProcNo) (s : SpaceNo) (owned : Bool) (x : Scene C)
      → ((moved e p s owned x).state.telling ≡ x.state.telling) × ((moved e p s owned x).state.untold ≡ x.state.untold)
  notes-moved e p s true x = (refl, refl)
  notes-moved e p s false x = (refl, refl)

  pub telling-stopped : (e : ℕ) (p : ProcNo) (o : Option SpaceNo) (l : Option ActNo) (held : Option (Stopped C)) (x : Scene C)
      → (stopped e p o l held x).state.telling ≡ x.state.telling
  telling-stopped e p None l held x = refl
  telling-stopped e p (Some s) None held x = refl
  telling-stopped e p (Some s) (Some a) None x = refl
  telling-stopped e p (Some s) (Some a) (Some h) x = refl
