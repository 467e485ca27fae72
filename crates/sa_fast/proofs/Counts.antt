-- The counts of a space's threads after one block of them changed.
use Rattle.std.proofs.Common.{◌≡◌, ℕ, ◌+◌, ◌<◌, ◌≤◌, Bool, cond, max, get_or, List, length, sym, ap, ◌∙◌, arith}
use Rattle.std.proofs.lemmas.List.{get_or-set_other, length-set}
use Rattle.std.proofs.lemmas.List.Sums.{sum_by-set, get_or-le-sum_by, count_by-le-length}
use Rattle.std.specs.List.{count_by}
use Rattle.std.specs.Prelude.{slice_set}
use Rattle.sa_base.specs.declared.limits.TheConstants.{MAX_THREADS}
use Rattle.sa_fast.specs.declared.threads.Block.{Block}
use Rattle.sa_fast.specs.declared.threads.KeptPlace.{KeptPlace}
use Rattle.sa_fast.specs.Threads.{unmade, is_loaded, is_active, is_done, IsCounted}

-- how many blocks count, once the block x of thread t is another one
counted : (p : Block → Bool) (xs : List Block) (t : ℕ) (x y : Block) (n m : ℕ) → t < length xs → x ≡ get_or xs t x → n ≡ count_by p xs
    → m + cond (p x) 1 0 ≡ n + cond (p y) 1 0 → m ≡ count_by p (slice_set xs t y)
counted p xs t x y n m inside at is moved =
    let here = ap {B = ℕ} (λ b. cond (p b) 1 0) at in omega (arith, here, sum_by-set (λ b. cond (p b) 1 0) xs t y x inside)

-- a count has the block of a thread, where that counts, and no more than all threads
pub counted-some : (p : Block → Bool) (xs : List Block) (t : ℕ) (x : Block) (n : ℕ) → t < length xs → x ≡ get_or xs t x → n ≡ count_by p xs
    → cond (p x) 1 0 ≤ n
counted-some p xs t x n inside at is =
    let here = ap {B = ℕ} (λ b. cond (p b) 1 0) at in omega (arith, here, is, get_or-le-sum_by (λ b. cond (p b) 1 0) xs t x inside)

pub counted-few : (p : Block → Bool) (xs : List Block) (n : ℕ) → length xs ≡ MAX_THREADS → n ≡ count_by p xs → n ≤ MAX_THREADS
counted-few p xs n all is = omega (arith, all, is, count_by-le-length p xs)

pub counted-set : (xs : List Block) (load active done used t : ℕ) (x y : Block) → IsCounted xs load active done used → t < MAX_THREADS → x ≡ get_or xs t x
    → (loads actives ends uses : ℕ)
    → loads + cond (is_loaded x.place) 1 0 ≡ load + cond (is_loaded y.place) 1 0
    → actives + cond (is_active x.place) 1 0 ≡ active + cond (is_active y.place) 1 0
    → ends + cond (is_done x.place) 1 0 ≡ done + cond (is_done y.place) 1 0
    → uses ≡ max used (t + 1) → IsCounted (slice_set xs t y) loads actives ends uses
counted-set xs load active done used t x y is below at loads actives ends uses load_moved active_moved done_moved most =
    let inside : t < length xs = omega (arith, is.all) in
    record {
      all = length-set xs t y ∙ is.all;
      loads = counted (λ b. is_loaded b.place) xs t x y load loads inside at is.loads load_moved;
      actives = counted (λ b. is_active b.place) xs t x y active actives inside at is.actives active_moved;
      ends = counted (λ b. is_done b.place) xs t x y done ends inside at is.ends done_moved;
      most = omega (arith, is.most, most);
      rest = λ k from. get_or-set_other xs t k y unmade (λ e. omega (arith, from, most)) ∙ is.rest k (omega (arith, from, most));
    }

-- a thread whose place stays counts as before
pub counted-within : (xs : List Block) (load active done used t : ℕ) (x y : Block) → IsCounted xs load active done used → t < MAX_THREADS → x ≡ get_or xs t x
    → y.place ≡ x.place → (uses : ℕ) → uses ≡ max used (t + 1) → IsCounted (slice_set xs t y) load active done uses
counted-within xs load active done used t x y is below at same uses most =
    let by = λ (n : ℕ) (p : KeptPlace → Bool). ap {B = ℕ} (λ q. n + cond (p q) 1 0) same in
    counted-set xs load active done used t x y is below at load active done uses (sym (by load is_loaded)) (sym (by active is_active)) (sym (by done is_done)) most
