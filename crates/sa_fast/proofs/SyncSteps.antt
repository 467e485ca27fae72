-- What a call does to those that wait, to those that are done and to the counts of semaphores.
use Rattle.std.proofs.Common.{◌≡◌, ◌≢◌, ℕ, zero, suc, ◌+◌, ◌≤◌, ◌<◌, Bool, true, false, cond, not, ◌&&◌, nat_lt, List, [], ◌∷◌, ◌++◌, length, set, get_or, Option, Some, None, refl, sym, ap, ◌∙◌, subst, inl, inr, arith}
use Rattle.std.proofs.lemmas.Bool.{cases_eq}
use Rattle.std.proofs.lemmas.List.{get_or-set_same, get_or-set_other, length-set}
use Rattle.sa_links.specs.Lists.{count_in}
use Rattle.sa_sync.specs.Sync.{Sync, Semaphore, semaphore_of, mutex_at, semaphore_at, joiners_at, is_done, with_semaphore, with_joiners, waits_of}
use Rattle.sa_sync.specs.Calls.{Change, goes, waits, is_holder, locked, locked_by, passed_on, unlocked, waited, waited_by, signalled, signalled_by, joined, finished}
use Rattle.sa_sync.specs.Laws.{SameNumbers, TellsWhoWaits}
use Rattle.sa_sync.proofs.LawLemmas.{locked_tells, unlocked_tells, waited_tells, signalled_tells, joined_tells}
use Rattle.sa_sync.proofs.Numbers.{locked_keeps, unlocked_keeps, waited_keeps, signalled_keeps, joined_keeps}
use Rattle.sa_fast.specs.Rest.{one_if, done_at}
use Rattle.sa_sync.proofs.LawLemmas.{waits-joiners}
use Rattle.sa_fast.proofs.WorkSteps.{one_same, one_other}

-- what holds of each item of a list once one of them is another
pub holds-set : {A : Type 0} (P : A → Type 0) (xs : List A) (i j : ℕ) (x d : A) → i < length xs → (j ≡ i → P x) → (j ≢ i → P (get_or xs j d))
    → P (get_or (set xs i x) j d)
holds-set P xs i j x d inside here there = elim (cases_eq j i) [
  | inl same ↦ subst P (sym (ap (λ k. get_or (set xs i x) k d) same ∙ get_or-set_same xs i x d inside)) (here same)
  | inr other ↦ subst P (sym (get_or-set_other xs i j x d other)) (there other)
]

-- no call but a thread's end makes a thread done, and a count rises by one at most
pub record SyncStep (old : Sync) (t : ℕ) (change : Change) : Type 0 where
  pub numbers : SameNumbers old change.state
  pub tells : TellsWhoWaits old t change
  pub done : change.state.done ≡ old.done
  pub counts : (k : ℕ) → (semaphore_at change.state k).count ≤ (semaphore_at old k).count + 1

one_more : (n : ℕ) → n ≤ n + 1
one_more n = omega arith

-- one semaphore's count rises by one at most
count_of : (s : Sync) (k count : ℕ) (q : List ℕ) (j : ℕ) → k < length s.semaphores → count ≤ (semaphore_at s k).count + 1
    → (semaphore_at (with_semaphore s k count q) j).count ≤ (semaphore_at s j).count + 1
count_of s k count q j inside most =
    holds-set (λ (x : Semaphore). x.count ≤ (semaphore_at s j).count + 1) s.semaphores k j (record { count = count; queue = q }) (semaphore_of 0) inside
    (λ same. subst (λ i. count ≤ (semaphore_at s i).count + 1) (sym same) most) (λ other. one_more (semaphore_at s j).count)

pub locked_by-done : (s : Sync) (t m : ℕ) (holder : Option ℕ) (q : List ℕ) → (locked_by s t m holder q).state.done ≡ s.done
locked_by-done s t m None q = refl
locked_by-done s t m (Some holder) q = refl

locked_by-semaphores : (s : Sync) (t m : ℕ) (holder : Option ℕ) (q : List ℕ) → (locked_by s t m holder q).state.semaphores ≡ s.semaphores
locked_by-semaphores s t m None q = refl
locked_by-semaphores s t m (Some holder) q = refl

-- a call that leaves all semaphores
same_counts : (old new : Sync) → new.semaphores ≡ old.semaphores → (k : ℕ) → (semaphore_at new k).count ≤ (semaphore_at old k).count + 1
same_counts old new same k =
    subst (λ xs. (get_or xs k (semaphore_of 0)).count ≤ (semaphore_at old k).count + 1) (sym same) (one_more (semaphore_at old k).count)

pub locked-step : (s : Sync) (t m : ℕ) → m < length s.mutexes → SyncStep s t (locked s t m)
locked-step s t m inside = record {
  numbers = locked_keeps s t m;
  tells = locked_tells s t m inside;
  done = locked_by-done s t m (mutex_at s m).holder (mutex_at s m).queue;
  counts = same_counts s (locked s t m).state (locked_by-semaphores s t m (mutex_at s m).holder (mutex_at s m).queue);
}

pub passed_on-done : (s : Sync) (m : ℕ) (q : List ℕ) → (passed_on s m q).state.done ≡ s.done
passed_on-done s m [] = refl
passed_on-done s m (next ∷ q) = refl

passed_on-semaphores : (s : Sync) (m : ℕ) (q : List ℕ) → (passed_on s m q).state.semaphores ≡ s.semaphores
passed_on-semaphores s m [] = refl
passed_on-semaphores s m (next ∷ q) = refl

pub unlocked-step : (s : Sync) (t m : ℕ) → m < length s.mutexes → SyncStep s t (unlocked s t m)
unlocked-step s t m inside =
    let q = (mutex_at s m).queue in
    record {
      numbers = unlocked_keeps s t m;
      tells = unlocked_tells s t m inside;
      done =
          elim (is_holder t (mutex_at s m).holder) as (λ b. (cond b (passed_on s m q) (goes s)).state.done ≡ s.done) [
            | true ↦ passed_on-done s m q
            | false ↦ refl
          ];
      counts = same_counts s (unlocked s t m).state
          (elim (is_holder t (mutex_at s m).holder) as (λ b. (cond b (passed_on s m q) (goes s)).state.semaphores ≡ s.semaphores) [
            | true ↦
                passed_on-semaphores s m q
            | false ↦ refl
          ]);
    }

pub waited_by-done : (s : Sync) (t k count : ℕ) (q : List ℕ) → (waited_by s t k count q).state.done ≡ s.done
waited_by-done s t k zero q = refl
waited_by-done s t k (suc count) q = refl

waited_by-counts : (s : Sync) (t k count : ℕ) (q : List ℕ) (j : ℕ) → k < length s.semaphores → (semaphore_at s k).count ≡ count
    → (semaphore_at (waited_by s t k count q).state j).count ≤ (semaphore_at s j).count + 1
waited_by-counts s t k zero q j inside e = count_of s k 0 (q ++ t ∷ []) j inside (omega arith)
waited_by-counts s t k (suc count) q j inside e = count_of s k count q j inside (omega arith)

pub waited-step : (s : Sync) (t k : ℕ) → k < length s.semaphores → SyncStep s t (waited s t k)
waited-step s t k inside = record {
  numbers = waited_keeps s t k;
  tells = waited_tells s t k inside;
  done = waited_by-done s t k (semaphore_at s k).count (semaphore_at s k).queue;
  counts = λ j. waited_by-counts s t k (semaphore_at s k).count (semaphore_at s k).queue j inside refl;
}

pub signalled_by-done : (s : Sync) (k count : ℕ) (q : List ℕ) → (signalled_by s k count q).state.done ≡ s.done
signalled_by-done s k count [] = refl
signalled_by-done s k count (first ∷ q) = refl

signalled_by-counts : (s : Sync) (k count : ℕ) (q : List ℕ) (j : ℕ) → k < length s.semaphores → (semaphore_at s k).count ≡ count
    → (semaphore_at (signalled_by s k count q).state j).count ≤ (semaphore_at s j).count + 1
signalled_by-counts s k count [] j inside e = count_of s k (count + 1) [] j inside (omega arith)
signalled_by-counts s k count (first ∷ q) j inside e = count_of s k count q j inside (omega arith)

pub signalled-step : (s : Sync) (t k : ℕ) → k < length s.semaphores → SyncStep s t (signalled s k)
signalled-step s t k inside = record {
  numbers = signalled_keeps s k;
  tells = signalled_tells s t k inside;
  done = signalled_by-done s k (semaphore_at s k).count (semaphore_at s k).queue;
  counts = λ j. signalled_by-counts s k (semaphore_at s k).count (semaphore_at s k).queue j inside refl;
}

pub joined-step : (s : Sync) (t other made : ℕ) → made ≤ length s.joiners → SyncStep s t (joined s t other made)
joined-step s t other made few =
    let after : Bool → Change = λ b. cond b (waits (with_joiners s other (joiners_at s other ++ t ∷ []))) (goes s) in
    let waits_on : Bool = nat_lt other made && not (is_done s other) in
    record {
      numbers = joined_keeps s t other made;
      tells = joined_tells s t other made few;
      done = elim waits_on as (λ b. (after b).state.done ≡ s.done) [ true ↦ refl | false ↦ refl ];
      counts = same_counts s (joined s t other made).state (elim waits_on as (λ b. (after b).state.semaphores ≡ s.semaphores) [ true ↦ refl | false ↦ refl ]);
    }

-- at a thread's end those that join it wait no more, and it is done
abbrev pub ended_sync : Sync → ℕ → Sync
ended_sync s t = with_joiners (finished s t) t []

pub ended-numbers : (s : Sync) (t : ℕ) → SameNumbers s (ended_sync s t)
ended-numbers s t = record { mutexes = refl; semaphores = refl; joiners = length-set s.joiners t []; done = length-set s.done t true; cells = refl }

pub ended-waits : (s : Sync) (t u : ℕ) → t < length s.joiners → waits_of (ended_sync s t) u + count_in u (joiners_at s t) ≡ waits_of s u
ended-waits s t u inside = omega (arith, waits-joiners (finished s t) t [] u inside)

pub ended-done : (s : Sync) (t u : ℕ) → t < length s.done → done_at s t ≡ 0 → done_at (ended_sync s t) u ≡ done_at s u + one_if t u
ended-done s t u inside live = elim (cases_eq u t) [
  | inl same ↦
      let after : done_at (ended_sync s t) u ≡ 1 =
      ap (λ b. cond b 1 0) (ap (λ i. get_or (set s.done t true) i false) same ∙ get_or-set_same s.done t true false inside) in
      let before : done_at s u ≡ 0 = ap (done_at s) same ∙ live in
      omega (arith, after, before, one_same t u (sym same))
  | inr other ↦
      let after : done_at (ended_sync s t) u ≡ done_at s u = ap (λ b. cond b 1 0) (get_or-set_other s.done t u true false other) in
      omega (arith, after, one_other t u (λ e. other (sym e)))
]
