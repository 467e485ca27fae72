-- What a context has, by where it is.
use Rattle.std.proofs.Common.{◌≡◌, ℕ, ◌+◌, ◌≤◌, Bool, true, false, List, ◌∷◌, Option, Some, None, is_some, slice_get, refl, sym, ap, ◌∙◌, subst, arith}
use Rattle.sa_base.specs.declared.number.ThreadNo.{ThreadNo}
use Rattle.sa_links.specs.Lists.{count_in}
use Rattle.sa_lists.specs.ReadyView.{ReadyView}
use Rattle.sa_code.specs.declared.code.Op.{Op}
use Rattle.sa_code.specs.declared.code.Op.TheVariants.{TakePush, Push, TakePop, Pop, Free, Leave, Yield}
use Rattle.sa_code.specs.declared.state.Frame.{Frame}
use Rattle.sa_code.specs.Micro.{list_in}
use Rattle.sa_copies.specs.Copies.{package_ops, copy_at}
use Rattle.sa_copies.specs.Runs.{at as moved_at, is_section_op}
use Rattle.sa_copies.proofs.Places.{ops-copied, copies-copied, copies-ops}
use Rattle.sa_fast.specs.Work.{work_of}
use Rattle.sa_fast.specs.Rest.{one_if, one_of}
use Rattle.sa_package_model.specs.declared.context.Context.{Context}
use Rattle.sa_package_model.specs.declared.context.ContextState.{ContextState}
use Rattle.sa_package_model.specs.declared.context.ContextState.TheVariants.{Code}
use Rattle.sa_package_model.specs.Context.{carried_by, section_in, before_all, at_copy, settled_to}
use Rattle.sa_package_model.specs.Rules.{thread_alone}
use Rattle.sa_package_model.specs.Hands.{sections_of, locks_in, locks_of, threads_in, threads_of}
use Rattle.sa_package_model.specs.Stands.{FitsOperation, IsSection, AreSections, StandsAt, IsState, IsContext}

-- a state in no section, which carries t
pub record IsBetween (state : ContextState) (t : Option ThreadNo) : Type 0 where
  pub section : section_in state ≡ None
  pub carries : carried_by state ≡ t
  pub is : IsState state

pub settled_between : (t : Option ThreadNo) (left owes bulk : Bool) → IsBetween (settled_to t left owes bulk) t
settled_between t true owes bulk = record { section = refl; carries = refl; is = tt }
settled_between t false true bulk = record { section = refl; carries = refl; is = tt }
settled_between (Some n) false false bulk = record { section = refl; carries = refl; is = tt }
settled_between None false false true = record { section = refl; carries = refl; is = tt }
settled_between None false false false = record { section = refl; carries = refl; is = omega arith }

-- what a context has in no section
module _ (c : Context) (t : Option ThreadNo) (no : section_in c.state ≡ None) (carries : carried_by c.state ≡ t) where
  pub between_sections : sections_of c ≡ c.sections
  between_sections = ap (λ o. before_all o c.sections) no

  pub between_locks : (l : ℕ) → locks_of (Some c) l ≡ locks_in c.sections l
  between_locks l = ap (λ fs. locks_in fs l) between_sections

  pub between_threads : (works : List (List ℕ)) (x : ℕ) → threads_of works (Some c) x ≡ threads_in c.sections x + one_of t x + count_in x (work_of works c.work)
  between_threads works x =
      let w = count_in x (work_of works c.work) in
      ap (λ o. threads_in (before_all o c.sections) x + one_of (thread_alone o (carried_by c.state)) x + w) no
      ∙ ap (λ o. threads_in c.sections x + one_of o x + w) carries

  pub between_context : (r : ReadyView) → IsState c.state → AreSections r c.sections → IsContext r c
  between_context r state sections = record { state = state; sections = subst (AreSections r) (sym between_sections) sections }

  pub between_rest : (r : ReadyView) → IsContext r c → AreSections r c.sections
  between_rest r h = subst (AreSections r) between_sections h.sections

-- what it has in a section
module _ (c : Context) (f : Frame) (k : ℕ) (at : c.state ≡ Code f) (copy : copy_at f.pc ≡ Some k) where
  section_is : section_in c.state ≡ Some (moved_at f k)
  section_is = ap section_in at ∙ ap (at_copy f) copy

  pub section_sections : sections_of c ≡ moved_at f k ∷ c.sections
  section_sections = ap (λ o. before_all o c.sections) section_is

  pub section_locks : (l : ℕ) → locks_of (Some c) l ≡ one_if (list_in f).0 l + locks_in c.sections l
  section_locks l = ap (λ fs. locks_in fs l) section_sections

  pub section_threads : (works : List (List ℕ)) (x : ℕ)
      → threads_of works (Some c) x ≡ one_of f.thread x + one_of f.pushed x + threads_in c.sections x + 0 + count_in x (work_of works c.work)
  section_threads works x =
      ap (λ o. threads_in (before_all o c.sections) x + one_of (thread_alone o (carried_by c.state)) x + count_in x (work_of works c.work)) section_is

  pub section_context : (r : ReadyView) → IsState (Code f) → FitsOperation r f (slice_get package_ops f.pc) → AreSections r c.sections → IsContext r c
  section_context r state fits sections =
      let own : IsSection r (moved_at f k) = record {
        copy = copies-copied f.pc k copy;
        fits = subst (FitsOperation r (moved_at f k)) (sym (ops-copied f.pc k copy)) (refit r (slice_get package_ops f.pc) fits);
      } in
      record {
        state = subst IsState (sym at) state;
        sections = subst (AreSections r) (sym section_sections) (own, sections);
      } where
        refit : (r : ReadyView) (op : Option Op) → FitsOperation r f op → FitsOperation r (moved_at f k) op
        refit r None h = absurd h
        refit r (Some TakePush) h = absurd h
        refit r (Some Push) h = h
        refit r (Some TakePop) h = absurd h
        refit r (Some Pop) h = h
        refit r (Some Free) h = h
        refit r (Some Leave) h = absurd h
        refit r (Some Yield) h = absurd h

  pub section_fits : (r : ReadyView) → IsContext r c → FitsOperation r f (slice_get package_ops f.pc)
  section_fits r h =
      let both : AreSections r (moved_at f k ∷ c.sections) = subst (AreSections r) section_sections h.sections in
      let own : IsSection r (moved_at f k) = both.0 in
      let fits : FitsOperation r (moved_at f k) (slice_get package_ops f.pc) = subst (FitsOperation r (moved_at f k)) (ops-copied f.pc k copy) own.fits in
      refit r (slice_get package_ops f.pc) fits where
        refit : (r : ReadyView) (op : Option Op) → FitsOperation r (moved_at f k) op → FitsOperation r f op
        refit r None h = absurd h
        refit r (Some TakePush) h = absurd h
        refit r (Some Push) h = h
        refit r (Some TakePop) h = absurd h
        refit r (Some Pop) h = h
        refit r (Some Free) h = h
        refit r (Some Leave) h = absurd h
        refit r (Some Yield) h = absurd h

  pub section_rest : (r : ReadyView) → IsContext r c → AreSections r c.sections
  section_rest r h =
      let both : AreSections r (moved_at f k ∷ c.sections) = subst (AreSections r) section_sections h.sections in both.1

-- a place where an operation of a section stands has a copy, and others have none
pub has_copy : (pc : ℕ) → is_section_op (slice_get package_ops pc) ≡ true → (k : ℕ) × (copy_at pc ≡ Some k)
has_copy pc e = some_is (copy_at pc) (copies-ops pc ∙ e) where
  some_is : (o : Option ℕ) → is_some o ≡ true → (k : ℕ) × (o ≡ Some k)
  some_is None h = absurd cc
  some_is (Some k) h = (k, refl)

pub has_none : (pc : ℕ) → is_section_op (slice_get package_ops pc) ≡ false → copy_at pc ≡ None
has_none pc e = none_is (copy_at pc) (copies-ops pc ∙ e) where
  none_is : (o : Option ℕ) → is_some o ≡ false → o ≡ None
  none_is None h = refl
  none_is (Some k) h = absurd cc

-- a context at a copy's end
pub yields_between : (f : Frame) → slice_get package_ops f.pc ≡ Some Yield → f.pushed ≡ None → IsBetween (Code f) f.thread
yields_between f op none = record {
  section = ap (at_copy f) (has_none f.pc (ap is_section_op op));
  carries = refl;
  is = subst (StandsAt f) (sym op) none;
}

-- the thread that a context carries is that of its section, or its own
carried_at : (f : Frame) (fs : List Frame) (x : ℕ) (k : Option ℕ)
    → one_of f.thread x ≤ threads_in (before_all (at_copy f k) fs) x + one_of (thread_alone (at_copy f k) f.thread) x
carried_at f fs x None = omega arith
carried_at f fs x (Some k) = omega arith

pub carried_less : (state : ContextState) (fs : List Frame) (x : ℕ)
    → one_of (carried_by state) x ≤ threads_in (before_all (section_in state) fs) x + one_of (thread_alone (section_in state) (carried_by state)) x
carried_less (Code f) fs x = carried_at f fs x (copy_at f.pc)
carried_less _ fs x = omega arith
