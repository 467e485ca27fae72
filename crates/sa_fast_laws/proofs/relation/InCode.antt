-- What a context in the code of the package has, place by place.
use Rattle.std.proofs.Common.{◌≡◌, ℕ, zero, suc, ◌+◌, ◌≤◌, ◌<◌, Bool, true, List, [], ◌∷◌, map, length, Contains, Option, Some, None, slice_get, slice_index_or, refl, ap, ◌∙◌, arith}
use Rattle.sa_base.specs.declared.number.ThreadNo.{ThreadNo}
use Rattle.sa_links.specs.Lists.{count_in}
use Rattle.sa_code.specs.Micro.{list_in}
use Rattle.sa_code.specs.declared.code.Op.{Op}
use Rattle.sa_code.specs.declared.code.Op.TheVariants.{Push, Pop, Free}
use Rattle.sa_code.specs.declared.state.Frame.{Frame}
use Rattle.sa_copies.proofs.Places.{at_copies}
use Rattle.sa_copies.specs.Copies.{package_ops, copy_at}
use Rattle.sa_fast.proofs.WorkSteps.{one_same}
use Rattle.sa_fast.specs.Rest.{one_of}
use Rattle.sa_fast.specs.Work.{work_of}
use Rattle.sa_package_model.specs.Context.{carried_by, section_in, at_copy, before_all}
use Rattle.sa_package_model.specs.Hands.{threads_in, threads_of}
use Rattle.sa_package_model.specs.declared.context.Context.{Context}
use Rattle.sa_package_model.specs.declared.context.ContextState.{ContextState}
use Rattle.sa_package_model.specs.declared.context.ContextState.TheVariants.{Code}
use Rattle.sa_laws.specs.Life.{Lock}
use Rattle.sa_fast_laws.specs.Life.{stopped_in, carried, lock_of, locks_from, pushed_in}
use Rattle.sa_fast_laws.specs.View.{view}
use Rattle.sa_base.specs.declared.number.ActNo.{ActNo}
use Rattle.sa_copies.specs.Runs.{is_section_op}
use Rattle.sa_abstract.specs.Calls.{Contexts}
use Rattle.sa_abstract.specs.Setting.{Setting}
use Rattle.sa_package_model.proofs.Holding.{own_inside}
use Rattle.sa_package_model.proofs.Views.{has_copy, section_locks}
use Rattle.sa_package_model.specs.Stands.{IsStanding}
use Rattle.sa_package_model.specs.declared.package.Package.{Package}

-- the two places of a push, of a pop, and the four of a free, with their copies
pub push_at : (Q : ℕ → ℕ → Type 0) → Q 1 8 → Q 8 8 → (c d : ℕ) → copy_at c ≡ Some d → slice_get package_ops c ≡ Some Push → Q c d
push_at Q a b = at_copies (λ c d. slice_get package_ops c ≡ Some Push → Q c d)
    (λ e. a) (λ e. absurd cc) (λ e. absurd cc) (λ e. absurd cc) (λ e. b) (λ e. absurd cc) (λ e. absurd cc) (λ e. absurd cc)

pub pop_at : (Q : ℕ → ℕ → Type 0) → Q 5 11 → Q 11 11 → (c d : ℕ) → copy_at c ≡ Some d → slice_get package_ops c ≡ Some Pop → Q c d
pop_at Q a b = at_copies (λ c d. slice_get package_ops c ≡ Some Pop → Q c d)
    (λ e. absurd cc) (λ e. absurd cc) (λ e. a) (λ e. absurd cc) (λ e. absurd cc) (λ e. absurd cc) (λ e. b) (λ e. absurd cc)

pub free_at : (Q : ℕ → ℕ → Type 0) → Q 2 9 → Q 6 12 → Q 9 9 → Q 12 12 → (c d : ℕ) → copy_at c ≡ Some d → slice_get package_ops c ≡ Some Free → Q c d
free_at Q a b x y = at_copies (λ c d. slice_get package_ops c ≡ Some Free → Q c d)
    (λ e. absurd cc) (λ e. a) (λ e. absurd cc) (λ e. b) (λ e. absurd cc) (λ e. x) (λ e. absurd cc) (λ e. y)

pub pushed_none : (f : Frame) (o : Option ℕ) (n : ℕ) → f.pushed ≡ None → pushed_in (at_copy f o) n ≡ 0
pushed_none f None n none = refl
pushed_none f (Some k) n none = ap (λ p. one_of p n) none

-- a lock of a context has a thread of it
thread_of_lock : (x : Lock) (f : Frame) (b : Bool) (t : ThreadNo) → lock_of b f ≡ x → x.thread ≡ Some t → one_of f.thread t.0 ≡ 1
thread_of_lock x f b t is has = ap (λ o. one_of o t.0) (ap (λ (y : Lock). y.thread) is ∙ has) ∙ one_same t.0 t.0 refl

pub among_map : (fs : List Frame) (x : Lock) (t : ThreadNo) → Contains (map (lock_of true) fs) x → x.thread ≡ Some t → 1 ≤ threads_in fs t.0
among_map [] x t among has = absurd (let none : length {A = Lock} [] ≡ 0 = refl in let inside = among.1 in omega arith)
among_map (f ∷ fs) x t among has = by (λ more. among_map fs x t more has) among.0 among.1 among.2 where
  by : (Contains (map (lock_of true) fs) x → 1 ≤ threads_in fs t.0) → (k : ℕ) → k < length (map (lock_of true) (f ∷ fs))
      → slice_index_or (map (lock_of true) (f ∷ fs)) k x ≡ x
      → 1 ≤ threads_in (f ∷ fs) t.0
  by rest zero inside is = let one = thread_of_lock x f true t is has in omega arith
  by rest (suc k) inside is = let more = rest (k, omega arith, is) in omega arith

-- how many threads the sections with locks have
abbrev pub threads_locked : Option Frame → List Frame → ℕ → ℕ
threads_locked None fs t = threads_in fs t
threads_locked (Some f) fs t = one_of f.thread t + threads_in fs t

pub among_locks : (copy : Bool) (o : Option Frame) (fs : List Frame) (x : Lock) (t : ThreadNo) → Contains (locks_from copy o fs) x → x.thread ≡ Some t
    → 1 ≤ threads_locked o fs t.0
among_locks copy None fs x t among has = among_map fs x t among has
among_locks copy (Some f) fs x t among has = by among.0 among.1 among.2 where
  by : (k : ℕ) → k < length (locks_from copy (Some f) fs) → slice_index_or (locks_from copy (Some f) fs) k x ≡ x → 1 ≤ threads_locked (Some f) fs t.0
  by zero inside is = let one = thread_of_lock x f copy t is has in omega arith
  by (suc k) inside is = let rest = among_map fs x t (k, omega arith, is) has in omega arith

-- The threads that a life holds under a lock are its own, besides those that it pushes and those of its work list.
locked_by : (works : List (List ℕ)) (o : Option Frame) (fs : List Frame) (alone n t : ℕ)
    → threads_locked o fs t + pushed_in o t + n ≤ threads_in (before_all o fs) t + alone + n
locked_by works None fs alone n t = omega arith
locked_by works (Some f) fs alone n t = omega arith

pub locked_less : (works : List (List ℕ)) (c : Context) (t : ℕ)
    → threads_locked (section_in c.state) c.sections t + pushed_in (section_in c.state) t + count_in t (work_of works c.work) ≤ threads_of works
    (Some c) t
locked_less works c t = locked_by works (section_in c.state) c.sections _ (count_in t (work_of works c.work)) t

-- the threads of a context's sections, its own one among them
before_at : (f : Frame) (fs : List Frame) (k : Option ℕ) (t : ℕ) → stopped_in (before_all (at_copy f k) fs) t ≤ one_of f.thread t + stopped_in fs t
before_at f fs None t = omega arith
before_at f fs (Some k) t = omega arith

before_by : (state : ContextState) (fs : List Frame) (t : ℕ)
    → stopped_in (before_all (section_in state) fs) t ≤ one_of (carried_by state) t + stopped_in fs t
before_by (Code f) fs t = before_at f fs (copy_at f.pc) t
before_by _ fs t = omega arith

pub before-less : (c : Context) (t : ℕ) → stopped_in (before_all (section_in c.state) c.sections) t ≤ carried (view c) t + stopped_in c.sections t
before-less c t = before_by c.state c.sections t

-- the list of a section is one of the package's
pub section-room : (set : Setting) (e : ℕ) (u : Package) (cs : Contexts Context) (h : IsStanding set e u cs) (a : ActNo) (f : Frame) (fs : List Frame)
    (wk : Option ThreadNo) (k : ℕ) → cs a.0 ≡ Some (record { state = Code f; sections = fs; work = wk }) → copy_at f.pc ≡ Some k
    → (list_in f).0 < length u.shared.state.lists.lists
section-room set e u cs h a f fs wk k is copy =
    let c : Context = record { state = Code f; sections = fs; work = wk } in
    own_inside set e u cs h a.0 c is (list_in f).0
    (let all = section_locks c f k refl copy (list_in f).0 in let one = one_same (list_in f).0 (list_in f).0 refl in omega arith)

pub section-copy : (f : Frame) (op : Op) → is_section_op (Some op) ≡ true → slice_get package_ops f.pc ≡ Some op → (k : ℕ) × (copy_at f.pc ≡ Some k)
section-copy f op section is = has_copy f.pc (ap is_section_op is ∙ section)
