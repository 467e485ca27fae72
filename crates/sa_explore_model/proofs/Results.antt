-- The groups of a search that stopped are the results of the runs that end.
use Rattle.std.proofs.Common.{◌≡◌, ℕ, ◌+◌, ◌<◌, ◌≤◌, inl, inr, Bool, if◌then◌else◌, Option, Some, None, option_map, List, [], ◌∷◌, ◌++◌, length, map, slice_get, count_by, refl, sym, ap, ◌∙◌, arith}
use Rattle.std.proofs.lemmas.Option.{same_Some, slice_get_within, slice_get-map}
use Rattle.std.proofs.lemmas.List.{take_all, length-map}
use Rattle.std.proofs.lemmas.List.Sums.{sum_by-cons}
use Rattle.sa_lemmas.proofs.ListReads.{read-at}
use Rattle.sa_base.specs.declared.number.ProcNo.{ProcNo}
use Rattle.sa_base.specs.declared.record.End.{End}
use Rattle.sa_explore_model.specs.declared.answer.State.{State}
use Rattle.sa_explore_model.specs.Order.{ComesFirst}
use Rattle.sa_explore_model.specs.Search.{way_to, IsSearch}
use Rattle.sa_explore_model.specs.Results.{Grouped, is_key, AreGroups, is_result, IsResult}
use Rattle.sa_explore_model.proofs.Orders.{first-trans, first-behind}
use Rattle.sa_explore_model.proofs.Ways.{ways-first}
use Rattle.sa_explore_model.proofs.Places.{before-more}
use Rattle.sa_explore_model.proofs.Laws.{Laws}
use Rattle.sa_explore_model.proofs.Seen.{proc_of, IsSeen, IsBehind, of-kept, within-kept, target-first, seen-all}

-- the bytes of a result, if there is one
abbrev pub bytes_of : {M R : Type 0} → (M → Option R) → (R → List ℕ) → M → Option (List ℕ)
bytes_of result code m = option_map code (result m)

count-bytes : {M R : Type 0} (result : M → Option R) (code : R → List ℕ) (r : R) (kept : List M)
    → count_by (is_key (code r)) (map (bytes_of result code) kept) ≡ count_by (λ m. is_result code r (result m)) kept
count-bytes result code r [] = refl
count-bytes {M} {R} result code r (m ∷ kept) =
    sum_by-cons (λ (x : Option (List ℕ)). if is_key (code r) x then 1 else 0) (bytes_of result code m) (map (bytes_of result code) kept)
    ∙ ap (λ (b : Bool). (if b then 1 else 0) + count_by (is_key (code r)) (map (bytes_of result code) kept)) (one (result m))
    ∙ ap (λ (k : ℕ). (if is_result code r (result m) then 1 else 0) + k) (count-bytes result code r kept)
    ∙ sym (sum_by-cons (λ (n : M). if is_result code r (result n) then 1 else 0) m kept)
  where
    one : (o : Option R) → is_key (code r) (option_map code o) ≡ is_result code r o
    one None = refl
    one (Some other) = refl

module _ {M O R : Type 0} (look : M → O) (end : M → Option End) (Way : List ProcNo → M → Type 0) (Turn : M → ProcNo → M → Type 0) (processors : ℕ)
    (Of : M → Type 0) (laws : Laws look end Way Turn processors Of)
    (states : List State) (kept : List M) (nexts : List ℕ) (at next : ℕ) (search : IsSearch look end Way Turn processors states kept nexts at next)
    (few : next ≤ processors) (begun : List ProcNo)
    (result : M → Option R) (code : R → List ℕ) (gives : (m n : M) → Of m → Of n → look m ≡ look n → result m ≡ result n)
    (tells : (x y : R) → code x ≡ code y → x ≡ y) where
  abbrev keys : List (Option (List ℕ))
  keys = map (bytes_of result code) kept

  key-at : (k : ℕ) (m : M) → slice_get kept k ≡ Some m → slice_get keys k ≡ Some (bytes_of result code m)
  key-at k m is = slice_get-map (bytes_of result code) kept k ∙ ap (option_map (bytes_of result code)) is

  -- the result whose bytes these are
  bytes-result : (key : List ℕ) (o : Option R) → option_map code o ≡ Some key → (r : R) × (o ≡ Some r) × (code r ≡ key)
  bytes-result key None is = absurd cc
  bytes-result key (Some r) is = (r, refl, same_Some (code r) key is)

  -- a state comes before all that was not done
  behind-first : (k : ℕ) (m : M) → slice_get kept k ≡ Some m → (turns : List ProcNo)
      → IsBehind look end Way Turn processors Of laws states kept nexts at next search few turns → ComesFirst (way_to states k) turns
  behind-first k m is turns behind =
      first-trans (way_to states k) (way_to states at ++ proc_of next ∷ []) turns
      (target-first look end Way Turn processors Of laws states kept nexts at next search few k at (proc_of next) behind.0
      (within-kept look end Way Turn processors Of laws states kept nexts at next search few k m is)
      (λ s some is_s. before-more s.before s.proc.0 at next (search.made k s some is_s)))
      behind.1

  module _ (groups : List Grouped) (are : AreGroups keys (length kept) groups) where
    -- the machine of a group's first state, and its result
    pub record First (g : Grouped) : Type 0 where
      pub machine : M
      pub is : slice_get kept g.first ≡ Some machine
      pub value : R
      pub gives_it : result machine ≡ Some value
      pub bytes : code value ≡ g.key

    pub first-of : (i : ℕ) (g : Grouped) → slice_get groups i ≡ Some g → First g
    first-of i g there =
        let m = read-at kept g.first (are.within i g there) in
        let of = bytes-result g.key (result m.0) (same_Some _ _ (sym (key-at g.first m.0 m.1) ∙ are.is i g there)) in
        record { machine = m.0; is = m.1; value = of.0; gives_it = of.1; bytes = of.2 }

    -- EACH GROUP IS A RESULT
    pub group-result : (i : ℕ) (g : Grouped) (there : slice_get groups i ≡ Some g)
        → IsResult Way result code begun kept (first-of i g there).value (begun ++ way_to states g.first) g.states
    group-result i g there =
        let first = first-of i g there in
        let r = first.value in
        record {
          sound = record {
            turns = way_to states g.first;
            is = refl;
            machine = first.machine;
            way = search.reached g.first first.machine first.is;
            gives = first.gives_it;
          };
          least = λ turns m way given.
              first-behind begun (way_to states g.first) turns
              (elim (seen-all look end Way Turn processors Of laws states kept nexts at next search few turns m way) [
                | inl seen ↦
                    (let of_k = of-kept look end Way Turn processors Of laws states kept nexts at next search few seen.place seen.machine seen.is in
                    let same = gives seen.machine m of_k (laws.of-way turns m way) seen.looks ∙ given in
                    let key : slice_get keys seen.place ≡ Some (Some g.key) = key-at seen.place seen.machine seen.is
                    ∙ ap (λ (o : Option R). Some (option_map code o)) same ∙ ap (λ (l : List ℕ). Some (Some l)) first.bytes in
                    first-trans (way_to states g.first) (way_to states seen.place) turns
                    (ways-first states search.linked search.rise g.first seen.place (are.least i g seen.place there key)
                    (within-kept look end Way Turn processors Of laws states kept nexts at next search few seen.place seen.machine seen.is))
                    seen.first)
                | inr behind ↦ behind-first g.first first.machine first.is turns behind
              ]);
          count = are.count i g there
              ∙ ap (count_by (is_key g.key)) (take_all (length kept) keys (let size = length-map kept (bytes_of result code) in omega arith))
              ∙ ap (λ (l : List ℕ). count_by (is_key l) keys) (sym first.bytes)
              ∙ count-bytes result code r kept;
        }

    -- EACH RUN THAT WAS SEEN HAS ITS RESULT AMONG THEM
    pub result-found : (turns : List ProcNo) (m : M) (r : R) → Way turns m
        → IsSeen look end Way Turn processors Of laws states kept nexts at next search few turns m → result m ≡ Some r
        → (i : ℕ) × (g : Grouped) × (there : slice_get groups i ≡ Some g) × ((first-of i g there).value ≡ r)
    result-found turns m r way seen given =
        let of_k = of-kept look end Way Turn processors Of laws states kept nexts at next search few seen.place seen.machine seen.is in
        let same = gives seen.machine m of_k (laws.of-way turns m way) seen.looks ∙ given in
        let key : slice_get keys seen.place ≡ Some (Some (code r)) = key-at seen.place seen.machine seen.is
        ∙ ap (λ (o : Option R). Some (option_map code o)) same in
        let e = are.every seen.place (code r) (slice_get_within kept seen.place seen.machine seen.is) key in
        (e.0, e.1, e.2, tells (first-of e.0 e.1 e.2).value r ((first-of e.0 e.1 e.2).bytes ∙ e.3))

    -- NO RESULT IS TOLD TWICE
    pub results-different : (i j : ℕ) (g h : Grouped) (at_i : slice_get groups i ≡ Some g) (at_j : slice_get groups j ≡ Some h)
        → (first-of i g at_i).value ≡ (first-of j h at_j).value → i ≡ j
    results-different i j g h at_i at_j same =
        are.different i j g h at_i at_j (sym (first-of i g at_i).bytes ∙ ap code same ∙ (first-of j h at_j).bytes)

    -- IN THE ORDER IN WHICH THE SEARCH MEETS THEM
    pub results-rise : (i j : ℕ) (g h : Grouped) → i < j → slice_get groups i ≡ Some g → slice_get groups j ≡ Some h
        → ComesFirst (begun ++ way_to states g.first) (begun ++ way_to states h.first)
    results-rise i j g h below at_i at_j =
        let m = first-of j h at_j in
        let rise = are.rise i j g h below at_i at_j in
        first-behind begun (way_to states g.first) (way_to states h.first)
        (ways-first states search.linked search.rise g.first h.first (omega arith)
        (within-kept look end Way Turn processors Of laws states kept nexts at next search few h.first m.machine m.is))
