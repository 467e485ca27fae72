-- The parts of the package stay what they are where a rule changes some of them.
use Rattle.std.proofs.Common.{◌≡◌, ℕ, ◌+◌, ◌-◌, ◌≤◌, ◌<◌, zero, suc, Bool, true, false, cond, List, [], ◌∷◌, length, take, drop, Option, Some, None, slice_get, refl, sym, ap, ◌∙◌, subst, inl, inr, arith}
use Rattle.std.proofs.lemmas.Bool.{cases_eq, cases_lt}
use Rattle.std.proofs.lemmas.List.{get_or-set_same, get_or-set_other, length-set, set_past}
use Rattle.std.proofs.lemmas.Option.{same_Some}
use Rattle.sa_base.specs.declared.number.ThreadNo.{ThreadNo}
use Rattle.sa_spaces.specs.Space.{SpaceView}
use Rattle.sa_abstract.specs.Setting.{Setting}
use Rattle.sa_links.specs.Lists.{count_in}
use Rattle.sa_lists.specs.ReadyView.{AreListsFor, ReadyView, list_of, is_locked, with_lock}
use Rattle.sa_lists.proofs.Changes.{is_locked-with_lock_same, is_locked-with_lock_other}
use Rattle.sa_code.specs.declared.state.PackageState.{PackageState}
use Rattle.sa_code.specs.Micro.{chosen, without_chosen}
use Rattle.sa_code.specs.Changes.{IsPackage, ChangesOnly}
use Rattle.sa_fast.specs.declared.shared.Shared.{Shared}
use Rattle.sa_fast.specs.declared.threads.Block.{Block}
use Rattle.sa_fast.specs.declared.threads.KeptPlace.{KeptPlace}
use Rattle.sa_fast.specs.Threads.{unmade, block_at, with_block, moved_to}
use Rattle.sa_fast.specs.Work.{with_name, IsWork}
use Rattle.sa_fast.specs.Instruction.{IsAt}
use Rattle.sa_fast.specs.Rest.{one_if, one_of, AreWorks, ArePartsFor}
use Rattle.sa_fast.proofs.Moves.{WorkStep}
use Rattle.sa_fast.proofs.WorkSteps.{count_one, one_same, one_other, still-step, added-step}
use Rattle.sa_package_model.specs.declared.package.Package.{Package}
use Rattle.sa_package_model.specs.Laws.{IsMadeFor}
use Rattle.sa_package_model.specs.Conditions.{CanBeDue}
use Rattle.sa_package_model.specs.Rules.{blocks_placed, placed, due_last, with_shared}
use Rattle.sa_package_model.specs.Hands.{free_locks}

-- a later event
pub parts_later : (def : SpaceView) (p e f : ℕ) (x : Shared) → ArePartsFor def p e x → e ≤ f → ArePartsFor def p f x
parts_later def p e f x h later = record {
  state = h.state;
  lists = h.lists;
  threads = h.threads;
  blocks = h.blocks;
  sync = h.sync;
  works = h.works;
  at = h.at;
  counts = λ k. let few = h.counts k in omega arith;
}

-- a thread is elsewhere
pub length_placed : (blocks : List Block) (t : Option ThreadNo) (place : KeptPlace) → length (blocks_placed blocks t place) ≡ length blocks
length_placed blocks None place = refl
length_placed blocks (Some n) place = length-set blocks n.0 (moved_to (block_at blocks n.0) place)

at_set : (def : SpaceView) (blocks : List Block) (t n : ℕ) (b : Block) → (t ≡ n → IsAt def b) → IsAt def (block_at blocks t)
    → IsAt def (block_at (with_block blocks n b) t)
at_set def blocks t n b new old = elim (cases_eq t n) [
  | inr ne ↦ subst (IsAt def) (sym (get_or-set_other blocks n t b unmade ne)) old
  | inl e ↦ elim (cases_lt n (length blocks)) [
    | inl inside ↦ subst (IsAt def) (sym (ap (block_at (with_block blocks n b)) e ∙ get_or-set_same blocks n b unmade inside)) (new e)
    | inr past ↦ subst (IsAt def) (sym (ap (λ bs. block_at bs t) (set_past blocks n b past))) old
  ]
]

at_placed : (def : SpaceView) (blocks : List Block) (t : ℕ) (n : Option ThreadNo) (place : KeptPlace) → IsAt def (block_at blocks t)
    → IsAt def (block_at (blocks_placed blocks n place) t)
at_placed def blocks t None place h = h
at_placed def blocks t (Some n) place h =
    at_set def blocks t n.0 (moved_to (block_at blocks n.0) place)
    (λ e. let here : IsAt def (block_at blocks n.0) = subst (λ k. IsAt def (block_at blocks k)) e h in record { program = here.program; pc = here.pc }) h

pub parts_placed : (def : SpaceView) (p e : ℕ) (x : Shared) (t : Option ThreadNo) (place : KeptPlace) → ArePartsFor def p e x
    → ArePartsFor def p e (placed x t place)
parts_placed def p e x t place h = record {
  state = h.state;
  lists = h.lists;
  threads = h.threads;
  sync = h.sync;
  works = h.works;
  counts = h.counts;
  blocks = length_placed x.threads t place ∙ h.blocks;
  at = λ n made. at_placed def x.threads n t place (h.at n made);
}

-- another package state, with as many lists and threads
pub parts_state : (def : SpaceView) (p e l : ℕ) (x : Shared) (state : PackageState) → ArePartsFor def p e x → IsPackage state → ChangesOnly l x.state state
    → ArePartsFor def p e (record x { state = state })
parts_state def p e l x state h is only = record {
  state = is;
  sync = h.sync;
  works = h.works;
  counts = h.counts;
  blocks = h.blocks;
  lists = subst (AreListsFor p) (sym only.lists) h.lists;
  threads = only.most ∙ h.threads;
  at = λ n made. h.at n (subst (λ m. n < m) only.made made);
}

-- other work lists
pub parts_works : (def : SpaceView) (p e : ℕ) (x : Shared) (works : List (List ℕ)) → ArePartsFor def p e x → AreWorks works
    → ArePartsFor def p e (record x { works = works })
parts_works def p e x works h is = record {
  state = h.state;
  lists = h.lists;
  threads = h.threads;
  sync = h.sync;
  works = is;
  counts = h.counts;
  blocks = h.blocks;
  at = h.at;
}

-- the package stays made for its setting
pub made_with : (s : Setting) (u : Package) (x : Shared) → IsMadeFor s u → x.state.space ≡ u.shared.state.space → IsMadeFor s (with_shared u x)
made_with s u x h same = record { setting = h.setting; space = same ∙ h.space; def = h.def; processors = h.processors; fetch = h.fetch }

-- a stopped thread is put into a work list, if there is one
pub due-step : (x : Shared) (w t : Option ThreadNo) → AreWorks x.works → IsWork x.works w → CanBeDue x t
    → WorkStep (with_name x.works w) (due_last x w t) (λ u. 0) (one_of t)
due-step x w None h work due = still-step (with_name x.works w) h
due-step x w (Some n) h work due = added-step x.works w n h work due.0 due.1

-- LOCKS: one is taken, or freed
abbrev as_free : Bool → ℕ
as_free b = cond b 0 1

module _ (r : ReadyView) (l : ℕ) (inside : l < length r.locked) where
  pub lock_taken : is_locked r l ≡ false → (m : ℕ) → free_locks (with_lock r l true) m + one_if l m ≡ free_locks r m
  lock_taken free m = elim (cases_eq m l) [
    | inl e ↦
        let now : free_locks (with_lock r l true) l ≡ 0 = ap as_free (is_locked-with_lock_same r l true inside) in
        let was : free_locks r l ≡ 1 = ap as_free free in
        subst (λ k. free_locks (with_lock r l true) k + one_if l k ≡ free_locks r k) (sym e) (omega (arith, one_same l l refl))
    | inr ne ↦
        let same : free_locks (with_lock r l true) m ≡ free_locks r m = ap as_free (is_locked-with_lock_other r l m true ne) in
        omega (arith, one_other l m (λ e. ne (sym e)))
  ]

  pub lock_freed : is_locked r l ≡ true → (m : ℕ) → free_locks (with_lock r l false) m ≡ free_locks r m + one_if l m
  lock_freed held m = elim (cases_eq m l) [
    | inl e ↦
        let now : free_locks (with_lock r l false) l ≡ 1 = ap as_free (is_locked-with_lock_same r l false inside) in
        let was : free_locks r l ≡ 0 = ap as_free held in
        subst (λ k. free_locks (with_lock r l false) k ≡ free_locks r k + one_if l k) (sym e) (omega (arith, one_same l l refl))
    | inr ne ↦
        let same : free_locks (with_lock r l false) m ≡ free_locks r m = ap as_free (is_locked-with_lock_other r l m false ne) in
        omega (arith, one_other l m (λ e. ne (sym e)))
  ]

-- a list without the thread that a pop takes
count_last : (xs : List ℕ) (k t u : ℕ) → slice_get xs k ≡ Some t → length xs ≡ suc k → count_in u (take k xs) + one_if t u ≡ count_in u xs
count_last [] k t u e all = absurd cc
count_last (x ∷ []) zero t u e all =
    let same = same_Some x t e in let one = count_one u x [] in let nil : count_in u [] ≡ 0 = refl in
    let is : one_if x u ≡ one_if t u = ap (λ y. one_if y u) same in omega arith
count_last (x ∷ y ∷ xs) zero t u e all = absurd (omega arith)
count_last (x ∷ xs) (suc k) t u e all =
    let rest = count_last xs k t u e (omega arith) in
    omega (arith, count_one u x (take k xs), count_one u x xs)

count_first : (xs : List ℕ) (t u : ℕ) → slice_get xs 0 ≡ Some t → count_in u (drop 1 xs) + one_if t u ≡ count_in u xs
count_first [] t u e = absurd cc
count_first (x ∷ xs) t u e = let one = count_one u x xs in let is : one_if x u ≡ one_if t u = ap (λ y. one_if y u) (same_Some x t e) in omega arith

some_length : (xs : List ℕ) (t : ℕ) → slice_get xs (length xs - 1) ≡ Some t → 1 ≤ length xs
some_length [] t e = absurd cc
some_length (x ∷ xs) t e = omega arith

pub count_chosen : (r : ReadyView) (own : Bool) (l t u : ℕ) → chosen r own l ≡ Some t
    → count_in u (without_chosen r own l) + one_if t u ≡ count_in u (list_of r l)
count_chosen r true l t u e = count_first (list_of r l) t u e
count_chosen r false l t u e =
    let some = some_length (list_of r l) t e in count_last (list_of r l) (length (list_of r l) - 1) t u e (omega arith)
