-- The opening: numbers and tables, as far as a loop has come.
use Rattle.std.proofs.Common.{◌≡◌, ℕ, zero, suc, ◌+◌, ◌*◌, ◌<◌, ◌≤◌, List, [], ◌∷◌, ◌++◌, length, refl, sym, ap, ◌∙◌, arith, append_assoc}
use Rattle.std.specs.List.{range_with_len}
use Rattle.std.proofs.lemmas.List.{map-append, append-nil, length-replicate}
use Rattle.std.proofs.lemmas.List.FromFn.{map-range_with_len_more}
use Rattle.sa_base.specs.declared.number.ActNo.{ActNo}
use Rattle.sa_base.specs.declared.limits.TheConstants.{MAX_PROCESSORS}
use Rattle.sa_assign.specs.Aims.{space_no}
use Rattle.std.proofs.lemmas.List.Sums.{sum_by-cons}
use Rattle.sa_spaces.specs.Workload.{WorkloadView, IsWorkload}
use Rattle.sa_links.specs.Lists.{Lists, count_in, count_in_all, list_at, with_list}
use Rattle.sa_links.proofs.Counting.{count-replicate}
use Rattle.sa_virtual.specs.Virtual.{virtual, of_place, of_places, opening, opening_queue}
use Rattle.sa_virtual.specs.Holding.{one_where, is_virtual}
use Rattle.sa_virtual.proofs.Opening.{queue_once, opening_good}
use Rattle.sa_virtual.proofs.Sums.{one_or_none}
use Rattle.sa_vp_model.specs.declared.limits.TheConstants.{VIRTUALS}
use Rattle.sa_vp_model.proofs.Main.{number_small}
use Rattle.sa_vp_model.proofs.Safe.{queue_count}
use Rattle.sa_vp_model.specs.Board.{act_numbers, empty, first_ready}
use Rattle.sa_vp.proofs.Rounds.{range-append}

pub place-more : (s k : ℕ) → of_place (s + 1) k ≡ of_place s k ++ virtual (space_no s) k ∷ []
place-more s k = map-range_with_len_more (λ r. virtual (space_no r) k) 0 s s (omega arith)

pub places-append : (spaces : ℕ) (ks js : List ℕ) → of_places spaces (ks ++ js) ≡ of_places spaces ks ++ of_places spaces js
places-append spaces [] js = refl
places-append spaces (k ∷ ks) js =
    ap (λ xs. of_place spaces k ++ xs) (places-append spaces ks js) ∙ sym (append_assoc (of_place spaces k) (of_places spaces ks) (of_places spaces js))

pub places-more : (spaces k : ℕ) → of_places spaces (range_with_len 0 (k + 1)) ≡ of_places spaces (range_with_len 0 k) ++ of_place spaces k
places-more spaces k =
    let from : 0 + k ≡ k = omega arith in
    ap (of_places spaces) (range-append 0 k 1) ∙ places-append spaces (range_with_len 0 k) (range_with_len (0 + k) 1)
    ∙ ap (λ a. of_places spaces (range_with_len 0 k) ++ (of_place spaces a ++ [])) from
    ∙ ap (λ xs. of_places spaces (range_with_len 0 k) ++ xs) (append-nil (of_place spaces k))

pub numbers-append : (xs ys : List ActNo) → act_numbers (xs ++ ys) ≡ act_numbers xs ++ act_numbers ys
numbers-append xs ys = map-append (λ (a : ActNo). a.0) xs ys

pub number-more : (xs : List ℕ) (numbers : List ℕ) (s k n : ℕ) → n ≡ MAX_PROCESSORS * s + k → numbers ≡ xs ++ act_numbers (of_place s k)
    → numbers ++ n ∷ [] ≡ xs ++ act_numbers (of_place (s + 1) k)
number-more xs numbers s k n is old =
    ap (λ ys. ys ++ n ∷ []) old ∙ append_assoc xs (act_numbers (of_place s k)) (n ∷ [])
    ∙ ap (λ m. xs ++ (act_numbers (of_place s k) ++ m ∷ [])) is
    ∙ ap (λ ys. xs ++ ys) (sym (ap act_numbers (place-more s k) ∙ numbers-append (of_place s k) (virtual (space_no s) k ∷ [])))

pub numbers-more : (numbers more : List ℕ) (spaces k : ℕ) → numbers ≡ act_numbers (of_places spaces (range_with_len 0 k))
    → more ≡ numbers ++ act_numbers (of_place spaces k) → more ≡ act_numbers (of_places spaces (range_with_len 0 (k + 1)))
numbers-more numbers more spaces k old is =
    is ∙ ap (λ xs. xs ++ act_numbers (of_place spaces k)) old
    ∙ sym (ap act_numbers (places-more spaces k) ∙ numbers-append (of_places spaces (range_with_len 0 k)) (of_place spaces k))

-- no number of the opening's queue comes twice, and each is that of a virtual processor
module _ (w : WorkloadView) (valid : IsWorkload w) (u : ℕ) where
  counted : count_in u (act_numbers (opening_queue w)) ≡ one_where (is_virtual w (record { 0 = u }))
  counted = queue_count (opening_queue w) u ∙ queue_once u w valid.few_processors

  pub queue-below : 1 ≤ count_in u (act_numbers (opening_queue w)) → u < VIRTUALS
  queue-below some = number_small w valid (opening w) (opening_good w valid) u (omega (arith, some, counted))

  pub queue-once : count_in_all u ([] ∷ []) + count_in u (act_numbers (opening_queue w)) ≤ 1
  queue-once = omega (arith, counted, sum_by-cons (count_in u) [] [], one_or_none (is_virtual w (record { 0 = u })))

-- lists that are empty take a thread
pub takes-first : (c : Lists) (n : ℕ) → c ≡ empty n → 1 ≤ n
    → record { list : 0 < length c.lists; thread : 0 < c.nodes; free : count_in_all 0 c.lists ≡ 0 }
takes-first c n is some =
    let many = ap (λ (x : Lists). length x.lists) is ∙ length-replicate n [] in
    let nodes = ap (λ (x : Lists). x.nodes) is in
    record {
      list = omega (arith, many, some);
      thread = omega (arith, nodes);
      free = ap (λ (x : Lists). count_in_all 0 x.lists) is ∙ count-replicate 0 n;
    }

-- the first thread becomes ready
pub first-pushed : (c : Lists) (n : ℕ) → c ≡ empty n → with_list c 0 (0 ∷ list_at c.lists 0) ≡ first_ready n
first-pushed c n is =
    ap (λ (x : Lists). with_list x 0 (0 ∷ list_at x.lists 0)) is ∙ ap (λ (ts : List ℕ). with_list (empty n) 0 (0 ∷ ts)) (none n)
  where
    none : (k : ℕ) → list_at (empty k).lists 0 ≡ []
    none zero = refl
    none (suc k) = refl
