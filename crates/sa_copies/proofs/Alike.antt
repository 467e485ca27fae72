-- A section and its copy do alike.
use Rattle.std.proofs.Common.{◌≡◌, ◌↔◌, ℕ, ◌+◌, Bool, true, false, List, [], ◌∷◌, ◌++◌, Option, Some, None, slice_get, if◌then◌else◌, refl, sym, ap, ◌∙◌, subst, inl, inr}
use Rattle.sa_base.specs.declared.number.ProcNo.{ProcNo}
use Rattle.sa_base.specs.declared.number.ThreadNo.{ThreadNo}
use Rattle.sa_base.specs.Items.{items_at}
use Rattle.sa_base.specs.declared.context.Seen.{Seen}
use Rattle.sa_code.specs.declared.code.Op.{Op}
use Rattle.sa_code.specs.declared.code.Op.TheVariants.{TakePush, Push, TakePop, Pop, Free}
use Rattle.sa_base.specs.declared.limits.TheConstants.{PACKAGE_PAGE}
use Rattle.sa_code.specs.declared.state.PackageState.{PackageState}
use Rattle.sa_code.specs.declared.state.Frame.{Frame}
use Rattle.sa_lists.specs.ReadyView.{thread}
use Rattle.sa_code.specs.Micro.{HasList, CanChange, CanPush, CanDo, Micro, micro, micro_at, pushed, popped, takes_first, chosen, list_in, is_resident}
use Rattle.sa_code.proofs.Steps.{micro-changes_only}
use Rattle.sa_copies.specs.Copies.{package_ops, is_in_section, copy_at}
use Rattle.sa_copies.specs.Runs.{at, is_over, Run, over, behind, run_of, IsAlike}
use Rattle.sa_copies.proofs.Places.{has_copy, ArePaired, next-paired}

-- the next place, where the operation was done
abbrev pub stepped : Bool → ℕ → ℕ
stepped true c = c + 1
stepped false c = c

-- the same operation at two places does the same, but that it leads on from its own place
pub record StepsAlike (c d : ℕ) (m n : Micro) : Type 0 where
  pub done : m.done ≡ n.done
  pub says : m.says ≡ n.says
  pub state : m.state ≡ n.state
  pub frame : Frame
  pub on : Bool
  pub here : m.frame ≡ at frame (stepped on c)
  pub there : n.frame ≡ at frame (stepped on d)

pushed-alike : (s : PackageState) (f : Frame) (c d : ℕ) (resident : Bool) (l : ProcNo) (t : Option ThreadNo)
    → StepsAlike c d (pushed s (at f c) resident l t) (pushed s (at f d) resident l t)
pushed-alike s f c d true l (Some t) =
    record { done = refl; says = refl; state = refl; frame = record f { pushed = None }; on = true; here = refl; there = refl }
pushed-alike s f c d _ l _ = record { done = refl; says = refl; state = refl; frame = f; on = false; here = refl; there = refl }

popped-alike : (s : PackageState) (f : Frame) (c d : ℕ) (resident : Bool) (l : ProcNo) (t : Option ℕ)
    → StepsAlike c d (popped s (at f c) resident l t) (popped s (at f d) resident l t)
popped-alike s f c d true l (Some t) =
    record { done = refl; says = refl; state = refl; frame = record f { thread = Some (thread t) }; on = true; here = refl; there = refl }
popped-alike s f c d _ l _ = record { done = refl; says = refl; state = refl; frame = f; on = false; here = refl; there = refl }

micro_at-alike : (s : PackageState) (f : Frame) (c d : ℕ) (resident : Bool) (l : ProcNo) (op : Op) → is_in_section op ≡ true
    → StepsAlike c d (micro_at s (at f c) resident l (Some op)) (micro_at s (at f d) resident l (Some op))
micro_at-alike s f c d resident l Push e = pushed-alike s f c d resident l f.pushed
micro_at-alike s f c d resident l Pop e = popped-alike s f c d resident l (chosen s.lists (takes_first s.lists f.own) l.0)
micro_at-alike s f c d resident l Free e = record { done = refl; says = refl; state = refl; frame = f; on = true; here = refl; there = refl }
micro_at-alike s f c d resident l _ e = absurd cc

-- the step law: a place and its copy
pub micro-alike : (s : PackageState) (f : Frame) (c d : ℕ) (pages : ℕ) → s.code ≡ package_ops → copy_at c ≡ Some d
    → StepsAlike c d (micro s (at f c) pages) (micro s (at f d) pages)
micro-alike s f c d pages code copy =
    let h = has_copy c d copy in
    let resident = is_resident pages PACKAGE_PAGE in
    let here : slice_get s.code c ≡ Some h.op = ap (λ ops. slice_get ops c) code ∙ h.here in
    let there : slice_get s.code d ≡ Some h.op = ap (λ ops. slice_get ops d) code ∙ h.there in
    let left : micro s (at f c) pages ≡ micro_at s (at f c) resident (list_in f) (Some h.op) = ap (λ o. micro_at s (at f c) resident (list_in f) o) here in
    let right : micro s (at f d) pages ≡ micro_at s (at f d) resident (list_in f) (Some h.op) = ap (λ o. micro_at s (at f d) resident (list_in f) o) there in
    subst (λ (m : Micro). StepsAlike c d m (micro s (at f d) pages)) (sym left)
    (subst (λ (n : Micro). StepsAlike c d (micro_at s (at f c) resident (list_in f) (Some h.op)) n) (sym right)
    (micro_at-alike s f c d resident (list_in f) h.op h.inside))

-- a run at an end is over, and one elsewhere begins with the operation there
pub run_of-over : (s : PackageState) (f : Frame) (seen : List Seen) → is_over (slice_get s.code f.pc) ≡ true → run_of s f seen ≡ over s f
run_of-over s f [] e = refl
run_of-over s f (seen ∷ more) e =
    ap (λ b. if b then over s f else behind seen (micro s f seen.pages) (run_of (micro s f seen.pages).state (micro s f seen.pages).frame more)) e

pub run_of-behind : (s : PackageState) (f : Frame) (seen : Seen) (more : List Seen) → is_over (slice_get s.code f.pc) ≡ false
    → run_of s f (seen ∷ more) ≡ behind seen (micro s f seen.pages) (run_of (micro s f seen.pages).state (micro s f seen.pages).frame more)
run_of-behind s f seen more e =
    ap (λ b. if b then over s f else behind seen (micro s f seen.pages) (run_of (micro s f seen.pages).state (micro s f seen.pages).frame more)) e

-- what is in a section is no end
section-goes_on : (op : Op) → is_in_section op ≡ true → is_over (Some op) ≡ false
section-goes_on Push e = refl
section-goes_on Pop e = refl
section-goes_on Free e = refl
section-goes_on _ e = absurd cc

stepped-paired : (c d : ℕ) (on : Bool) → copy_at c ≡ Some d → ArePaired (stepped on c) (stepped on d)
stepped-paired c d true copy = next-paired c d copy
stepped-paired c d false copy = inl copy

-- the law for a whole run
pub run_of-alike : (seen : List Seen) (s : PackageState) (f : Frame) (c d : ℕ) → s.code ≡ package_ops → ArePaired c d
    → IsAlike (run_of s (at f c) seen) (run_of s (at f d) seen)
run_of-alike [] s f c d code paired = record { answers = refl; items = refl; state = refl; frame = refl }
run_of-alike (seen ∷ more) s f c d code (inr ends) =
    let left = run_of-over s (at f c) (seen ∷ more) (ap (λ ops. is_over (slice_get ops c)) code ∙ ends.0) in
    let right = run_of-over s (at f d) (seen ∷ more) (ap (λ ops. is_over (slice_get ops d)) code ∙ ends.1) in
    subst (λ (r : Run). IsAlike r (run_of s (at f d) (seen ∷ more))) (sym left)
    (subst (λ (r : Run). IsAlike (over s (at f c)) r) (sym right) (record { answers = refl; items = refl; state = refl; frame = refl }))
run_of-alike (seen ∷ more) s f c d code (inl copy) =
    let h = has_copy c d copy in
    let step = micro-alike s f c d seen.pages code copy in
    let m = micro s (at f c) seen.pages in
    let n = micro s (at f d) seen.pages in
    let only = micro-changes_only s (at f c) seen.pages in
    let rest = run_of-alike more m.state step.frame (stepped step.on c) (stepped step.on d) (only.code ∙ code) (stepped-paired c d step.on copy) in
    let rest_here : IsAlike (run_of m.state m.frame more) (run_of m.state (at step.frame (stepped step.on d)) more) =
    subst (λ (g : Frame). IsAlike (run_of m.state g more) (run_of m.state (at step.frame (stepped step.on d)) more)) (sym step.here) rest in
    let rest_frame : IsAlike (run_of m.state m.frame more) (run_of m.state n.frame more) =
    subst (λ (g : Frame). IsAlike (run_of m.state m.frame more) (run_of m.state g more)) (sym step.there) rest_here in
    let rest_state : IsAlike (run_of m.state m.frame more) (run_of n.state n.frame more) =
    subst (λ (t : PackageState). IsAlike (run_of m.state m.frame more) (run_of t n.frame more)) step.state rest_frame in
    let left = run_of-behind s (at f c) seen more (ap (λ ops. is_over (slice_get ops c)) code ∙ ap is_over h.here ∙ section-goes_on h.op h.inside) in
    let right = run_of-behind s (at f d) seen more (ap (λ ops. is_over (slice_get ops d)) code ∙ ap is_over h.there ∙ section-goes_on h.op h.inside) in
    subst (λ (r : Run). IsAlike r (run_of s (at f d) (seen ∷ more))) (sym left)
    (subst (λ (r : Run). IsAlike (behind seen m (run_of m.state m.frame more)) r) (sym right)
    (record {
      answers = ap (λ x. x ∷ (run_of m.state m.frame more).answers) step.done ∙ ap (λ xs. n.done ∷ xs) rest_state.answers;
      items = ap (λ x. items_at seen.event seen.proc x ++ (run_of m.state m.frame more).items) step.says
          ∙ ap (λ xs. items_at seen.event seen.proc n.says ++ xs) rest_state.items;
      state = rest_state.state;
      frame = rest_state.frame;
    }))

-- what an operation asks does not depend on its place
has_list-at : (s : PackageState) (f : Frame) (c d : ℕ) → HasList s (at f c) → HasList s (at f d)
has_list-at s f c d h = record { there = h.there; inside = h.inside }

can_change-at : (s : PackageState) (f : Frame) (c d : ℕ) → CanChange s (at f c) → CanChange s (at f d)
can_change-at s f c d h = record { list = has_list-at s f c d h.list; locked = h.locked }

can_push-at : (s : PackageState) (f : Frame) (c d : ℕ) → CanPush s (at f c) → CanPush s (at f d)
can_push-at s f c d h = record { thread = h.thread; pushes = h.pushes; below = h.below; unlisted = h.unlisted }

pub can_do-at : (s : PackageState) (f : Frame) (c d : ℕ) (op : Option Op) → CanDo s (at f c) op → CanDo s (at f d) op
can_do-at s f c d (Some TakePush) h = (has_list-at s f c d h.0, can_push-at s f c d h.1)
can_do-at s f c d (Some Push) h = (can_change-at s f c d h.0, can_push-at s f c d h.1)
can_do-at s f c d (Some TakePop) h = has_list-at s f c d h
can_do-at s f c d (Some Pop) h = (can_change-at s f c d h.0, record { some = h.1.some; carries = h.1.carries })
can_do-at s f c d (Some Free) h = can_change-at s f c d h
can_do-at s f c d _ h = h

-- so a copy asks what its section asks
pub can_do-copied : (s : PackageState) (f : Frame) (c d : ℕ) → s.code ≡ package_ops → copy_at c ≡ Some d
    → CanDo s (at f c) (slice_get s.code c) ↔ CanDo s (at f d) (slice_get s.code d)
can_do-copied s f c d code copy =
    let h = has_copy c d copy in
    let same : slice_get s.code c ≡ slice_get s.code d = ap (λ ops. slice_get ops c) code ∙ h.here ∙ sym h.there ∙ sym (ap (λ ops. slice_get ops d) code) in (
      λ can. can_do-at s f c d (slice_get s.code d) (subst (λ (o : Option Op). CanDo s (at f c) o) same can),
      λ can. can_do-at s f d c (slice_get s.code c) (subst (λ (o : Option Op). CanDo s (at f d) o) (sym same) can),
    )
