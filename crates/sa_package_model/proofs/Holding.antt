-- What follows for one context from how all stand: its locks are held, its threads are nowhere else, its work list is its own.
use Rattle.std.proofs.Common.{◌≡◌, ℕ, zero, suc, ◌+◌, ◌≤◌, ◌<◌, Bool, true, false, cond, List, [], ◌∷◌, length, Option, Some, None, nat_lt, refl, sym, ap, ◌∙◌, subst, inl, inr, arith}
use Rattle.std.proofs.lemmas.Bool.{cases_eq, cases_lt, ltb-true, le-ltb}
use Rattle.std.proofs.lemmas.List.{get_or_past}
use Rattle.std.proofs.lemmas.List.Sums.{sum_by-cons}
use Rattle.std.proofs.lemmas.Option.{same_Some}
use Rattle.sa_base.specs.declared.number.ThreadNo.{ThreadNo}
use Rattle.sa_base.specs.declared.limits.TheConstants.{MAX_THREADS, MAX_EVENTS}
use Rattle.sa_abstract.specs.Setting.{Setting}
use Rattle.sa_abstract.specs.Calls.{Contexts}
use Rattle.sa_links.specs.Lists.{list_at, count_in, count_in_all}
use Rattle.sa_links.proofs.Counting.{few_below}
use Rattle.sa_lists.specs.ReadyView.{is_locked, IsLocked}
use Rattle.sa_lists.specs.ReadyView as ready
use Rattle.sa_sync.specs.Sync.{WaitsNowhere}
use Rattle.sa_code.specs.declared.state.Frame.{Frame}
use Rattle.sa_code.specs.Micro.{list_in}
use Rattle.sa_fast.specs.Work.{work_of, IsWork, IsUnlisted}
use Rattle.sa_fast.specs.Instruction.{CanRun}
use Rattle.sa_fast.specs.Rest.{one_if, one_of, one_if_empty, unmade_at, threads_at_rest, empty_at}
use Rattle.sa_fast.proofs.WorkSteps.{count_one, one_same, one_other, not_empty}
use Rattle.sa_package_model.specs.declared.context.Context.{Context}
use Rattle.sa_package_model.specs.declared.package.Package.{Package}
use Rattle.sa_package_model.specs.Context.{carried_by, section_in}
use Rattle.sa_package_model.specs.Rules.{thread_alone}
use Rattle.sa_package_model.specs.Conditions.{IsThread, CanBeDue}
use Rattle.sa_package_model.specs.Hands.{sections_of, locks_in, free_locks, locks_of, threads_in, threads_of, name_of}
use Rattle.sa_package_model.specs.Stands.{IsStanding}
use Rattle.sa_package_model.proofs.Changing.{names_own}

-- 0 or 1 by a test
abbrev zero_if : Bool → ℕ
zero_if b = cond b 0 1

free_is : (b : Bool) → zero_if b ≡ 0 → b ≡ true
free_is true e = refl
free_is false e = absurd (omega arith)

-- what is in lists is in one of them
stands_in_one : (ls : List (List ℕ)) (t : ℕ) → 1 ≤ count_in_all t ls → (l : ℕ) × (1 ≤ count_in t (list_at ls l))
stands_in_one [] t some = absurd (let none : count_in_all t [] ≡ 0 = refl in omega arith)
stands_in_one (xs ∷ ls) t some = elim (cases_lt (count_in t xs) 1) [
  | inl less ↦
      let sum : count_in_all t (xs ∷ ls) ≡ count_in t xs + count_in_all t ls = sum_by-cons (count_in t) xs ls in
      let rest = stands_in_one ls t (omega arith) in (suc rest.0, rest.1)
  | inr more ↦ (zero, more)
]

filled_by : (xs : List ℕ) (t : ℕ) → 1 ≤ count_in t xs → one_if_empty xs ≡ 0
filled_by [] t some = absurd (let none : count_in t [] ≡ 0 = refl in omega arith)
filled_by (x ∷ xs) t some = refl

-- who names a work list
named_by : (w : Option ThreadNo) (l : ℕ) → 1 ≤ one_of w l → (n : ThreadNo) × (w ≡ Some n) × (n.0 ≡ l)
named_by None l some = absurd (omega arith)
named_by (Some n) l some = elim (cases_eq n.0 l) [ inl e ↦ (n, refl, e) | inr ne ↦ absurd (let none = one_other n.0 l ne in omega arith) ]

context_naming : (x : Option Context) (l : ℕ) → 1 ≤ name_of x l → (d : Context) × (x ≡ Some d) × (1 ≤ one_of d.work l)
context_naming None l some = absurd (omega arith)
context_naming (Some d) l some = (d, refl, some)

module _ (s : Setting) (e : ℕ) (u : Package) (cs : Contexts Context) (h : IsStanding s e u cs) where
  -- a thread of a work list is in the hand of the context that names the list
  works_held : (t : ℕ) → 1 ≤ count_in_all t u.shared.works → (b : ℕ) × (d : Context) × (cs b ≡ Some d) × (1 ≤ count_in t (work_of u.shared.works d.work))
  works_held t some =
      let at = stands_in_one u.shared.works t some in
      let found = h.works.somewhere at.0 (filled_by (list_at u.shared.works at.0) t at.1) in
      let whose = context_naming (cs found.0) at.0 found.1 in
      let name = named_by whose.0.work at.0 whose.2 in (
        found.0,
        whose.0,
        whose.1,
        subst (λ w. 1 ≤ count_in t (work_of u.shared.works w)) (sym name.1) (subst (λ l. 1 ≤ count_in t (list_at u.shared.works l)) (sym name.2) at.1),
      )

  pub rest_unlisted : (t : ℕ) → 1 ≤ threads_at_rest u.shared t → IsUnlisted u.shared.works t
  rest_unlisted t rest = elim (cases_lt (count_in_all t u.shared.works) 1) [
    | inl less ↦ omega arith
    | inr more ↦
        let held = works_held t more in
        let once : threads_at_rest u.shared t + threads_of u.shared.works (Some held.1) t ≤ 1 =
        subst (λ x. threads_at_rest u.shared t + threads_of u.shared.works x t ≤ 1) held.2 (h.threads.once held.0 t) in
        absurd (let there = held.3 in omega arith)
  ]

  pub rest_once : (t : ℕ) → threads_at_rest u.shared t ≤ 1
  rest_once t = let once = h.threads.once 0 t in omega arith

  module _ (a : ℕ) (c : Context) (is : cs a ≡ Some c) where
    pub lock_once : (l : ℕ) → free_locks u.shared.state.lists l + locks_of (Some c) l ≤ 1
    lock_once l = subst (λ x. free_locks u.shared.state.lists l + locks_of x l ≤ 1) is (h.locks.once a l)

    pub thread_once : (t : ℕ) → threads_at_rest u.shared t + threads_of u.shared.works (Some c) t ≤ 1
    thread_once t = subst (λ x. threads_at_rest u.shared t + threads_of u.shared.works x t ≤ 1) is (h.threads.once a t)

    -- a lock of its own is held, and its list is one of the space
    pub own_locked : (l : ℕ) → 1 ≤ locks_of (Some c) l → IsLocked u.shared.state.lists l
    own_locked l some = let once = lock_once l in free_is (is_locked u.shared.state.lists l) (omega arith)

    pub own_inside : (l : ℕ) → 1 ≤ locks_of (Some c) l → l < length u.shared.state.lists.lists
    own_inside l some = elim (cases_lt l (length u.shared.state.lists.locked)) [
      | inl inside ↦ let same = h.parts.state.ready.locks in omega arith
      | inr past ↦
          let none : is_locked u.shared.state.lists l ≡ false = get_or_past u.shared.state.lists.locked l false past in
          let some_lock = own_locked l some in absurd cc
    ]

    -- a thread of its own was made, and is in no list and no queue
    pub own_rest : (t : ℕ) → 1 ≤ threads_of u.shared.works (Some c) t → threads_at_rest u.shared t ≡ 0
    own_rest t some = let once = thread_once t in omega arith

    pub own_made : (t : ℕ) → 1 ≤ threads_of u.shared.works (Some c) t → t < u.shared.state.lists.made
    own_made t some =
        let rest = own_rest t some in
        ltb-true t u.shared.state.lists.made (free_is (nat_lt t u.shared.state.lists.made) (omega arith))

    pub own_below : (t : ℕ) → 1 ≤ threads_of u.shared.works (Some c) t → t < MAX_THREADS
    own_below t some = let made = own_made t some in let most = h.parts.state.ready.made in let all = h.parts.threads in omega arith

    pub own_unready : (t : ℕ) → 1 ≤ threads_of u.shared.works (Some c) t → ready.IsUnlisted u.shared.state.lists t
    own_unready t some = let rest = own_rest t some in omega arith

    pub own_nowhere : (t : ℕ) → 1 ≤ threads_of u.shared.works (Some c) t → WaitsNowhere u.shared.sync t
    own_nowhere t some = let rest = own_rest t some in omega arith

    -- a thread that it has beside its work list is in no work list
    pub own_unlisted : (t : ℕ) → 1 ≤ threads_in (sections_of c) t + one_of (thread_alone (section_in c.state) (carried_by c.state)) t
        → IsUnlisted u.shared.works t
    own_unlisted t some = elim (cases_lt (count_in_all t u.shared.works) 1) [
      | inl less ↦ omega arith
      | inr more ↦
          let held = works_held t more in
          let mine : 1 ≤ threads_of u.shared.works (cs a) t = subst (λ x. 1 ≤ threads_of u.shared.works x t) (sym is) (omega arith) in
          let theirs : 1 ≤ threads_of u.shared.works (cs held.0) t =
          subst (λ x. 1 ≤ threads_of u.shared.works x t) (sym held.2) (let there = held.3 in omega arith) in
          let same : held.0 ≡ a = h.threads.apart held.0 a t theirs mine in
          let one : held.1 ≡ c = same_Some held.1 c (sym held.2 ∙ ap cs same ∙ is) in
          let there : 1 ≤ count_in t (work_of u.shared.works c.work) = subst (λ (x : Context). 1 ≤ count_in t (work_of u.shared.works x.work)) one held.3 in
          absurd (let once = thread_once t in omega arith)
    ]

    pub own_due : (t : Option ThreadNo)
        → ((x : ℕ) → one_of t x ≤ threads_in (sections_of c) x + one_of (thread_alone (section_in c.state) (carried_by c.state)) x) → CanBeDue u.shared t
    own_due None has = tt
    own_due (Some n) has =
        let one = one_same n.0 n.0 refl in let here = has n.0 in
        (own_below n.0 (omega arith), own_unlisted n.0 (omega arith))

    pub own_thread : (t : Option ThreadNo) → ((x : ℕ) → one_of t x ≤ threads_of u.shared.works (Some c) x) → IsThread t
    own_thread None has = tt
    own_thread (Some n) has = let one = one_same n.0 n.0 refl in let here = has n.0 in own_below n.0 (omega arith)

    -- its work list
    pub own_work : IsWork u.shared.works c.work
    own_work = by c.work (λ n e. names_own c n e) where
      by : (w : Option ThreadNo) → ((n : ThreadNo) → w ≡ Some n → name_of (Some c) n.0 ≡ 1) → IsWork u.shared.works w
      by None names = tt
      by (Some n) names =
          let name = names n refl in
          let once : empty_at u.shared.works n.0 + name_of (Some c) n.0 ≤ 1 =
          subst (λ x. empty_at u.shared.works n.0 + name_of x n.0 ≤ 1) is (h.works.once a n.0) in
          let some : 1 ≤ length (list_at u.shared.works n.0) = not_empty (list_at u.shared.works n.0) (omega arith) in
          elim (cases_lt n.0 (length u.shared.works)) [
            | inl inside ↦ (let all = h.parts.works.named.all in omega arith, some)
            | inr past ↦ absurd (let none = ap length (get_or_past u.shared.works n.0 [] past) in let zero_is : length {A = ℕ} [] ≡ 0 = refl in omega arith)
          ]

    -- its thread can run
    pub own_runs : (f : ℕ) → e < f → f ≤ MAX_EVENTS → (t : ThreadNo)
        → ((x : ℕ) → one_if t.0 x ≤ one_of (thread_alone (section_in c.state) (carried_by c.state)) x) → CanRun u.def u.shared c.work t
    own_runs f later within t has =
        let one = one_same t.0 t.0 refl in let here = has t.0 in
        let mine : 1 ≤ threads_of u.shared.works (Some c) t.0 = omega arith in
        record {
          below = own_below t.0 mine;
          at = h.parts.at t.0 (own_made t.0 mine);
          nowhere = own_nowhere t.0 mine;
          work = own_work;
          mutexes = h.parts.sync.mutexes;
          semaphores = h.parts.sync.semaphores;
          cells = h.parts.sync.cells;
          joiners = h.parts.sync.joiners;
          few = λ k. let few = h.parts.counts k in omega arith;
          threads = h.parts.threads;
          waiting = λ x waits. rest_unlisted x (omega arith);
          unmade = λ x unmade. rest_unlisted x (let no = no_made x unmade in omega arith);
        } where
          no_made : (x : ℕ) → u.shared.state.lists.made ≤ x → unmade_at u.shared.state.lists x ≡ 1
          no_made x past = ap zero_if (le-ltb x u.shared.state.lists.made past)

-- each section has a lock
abbrev lists_in : List Frame → List ℕ
lists_in [] = []
lists_in (f ∷ fs) = (list_in f).0 ∷ lists_in fs

locks_counted : (fs : List Frame) (l : ℕ) → count_in l (lists_in fs) ≡ locks_in fs l
locks_counted [] l = refl
locks_counted (f ∷ fs) l = count_one l (list_in f).0 (lists_in fs) ∙ ap (λ n. one_if (list_in f).0 l + n) (locks_counted fs l)

length_lists : (fs : List Frame) → length (lists_in fs) ≡ length fs
length_lists [] = refl
length_lists (f ∷ fs) = ap suc (length_lists fs)

-- sections of which no two have one lock, all of lists below n, are at most n
pub few_sections : (fs : List Frame) (n : ℕ) → ((l : ℕ) → locks_in fs l ≤ 1) → ((l : ℕ) → 1 ≤ locks_in fs l → l < n) → length fs ≤ n
few_sections fs n once below =
    let few = few_below n (lists_in fs) (λ l. omega (arith, locks_counted fs l, once l)) (λ l some. below l (omega (arith, locks_counted fs l))) in
    omega (arith, length_lists fs)
