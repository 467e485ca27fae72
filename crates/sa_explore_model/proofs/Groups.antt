-- The states with an end, counted one after another, are grouped by their bytes.
use Rattle.std.proofs.Common.{◌≡◌, ◌≢◌, ℕ, zero, suc, ◌+◌, ◌<◌, ◌⊎◌, inl, inr, Bool, true, false, if◌then◌else◌, Option, Some, None, List, [], ◌∷◌, ◌++◌, length, take, get_or, slice_get, slice_set, count_by, refl, sym, ap, subst, ◌∙◌, arith}
use Rattle.std.proofs.lemmas.Bool.{cases_lt}
use Rattle.std.proofs.lemmas.Option.{same_Some, slice_get_within, get_or_from_slice_get}
use Rattle.std.proofs.lemmas.List.{take_more}
use Rattle.std.proofs.lemmas.List.Sums.{sum_by-append, sum_by-cons}
use Rattle.std.specs.Str.{bytes_eq}
use Rattle.std.specs.Cmp.Lexicographic.{bytes_decides}
use Rattle.sa_lemmas.proofs.ListUpdates.{slice_get-set_cases, slice_get-append_left, slice_get-append_seam, slice_get-push_cases}
use Rattle.sa_explore_model.specs.Results.{Grouped, IsOneMore, IsFirstOfIts, Counts, is_key, AreGroups}

abbrev new_group : List ℕ → ℕ → Grouped
new_group key at = record { key = key; first = at; states = 1 }

abbrev one_more : Grouped → Grouped
one_more g = record g { states = g.states + 1 }

pub cases_bytes : (bytes other : List ℕ) → (bytes ≡ other) ⊎ (bytes_eq bytes other ≡ false)
cases_bytes bytes other = go (bytes_eq bytes other) refl
  where
    go : (b : Bool) → bytes_eq bytes other ≡ b → (bytes ≡ other) ⊎ (bytes_eq bytes other ≡ false)
    go true same = inl ((bytes_decides bytes other).0 same)
    go false apart = inr apart

pub bytes-same : (bytes other : List ℕ) → bytes ≡ other → bytes_eq bytes other ≡ true
bytes-same bytes other same = (bytes_decides bytes other).1 same

-- HOW MANY HAVE THESE BYTES, one state more
count-more : (key : List ℕ) (keys : List (Option (List ℕ))) (n : ℕ) (o : Option (List ℕ)) → slice_get keys n ≡ Some o
    → count_by (is_key key) (take (n + 1) keys) ≡ count_by (is_key key) (take n keys) + (if is_key key o then 1 else 0)
count-more key keys n o is =
    let f : Option (List ℕ) → ℕ = λ x. if is_key key x then 1 else 0 in
    ap (count_by (is_key key)) (take_more keys n None (slice_get_within keys n o is))
    ∙ sum_by-append f (take n keys) (get_or keys n None ∷ [])
    ∙ ap (λ (x : ℕ). count_by (is_key key) (take n keys) + x) (sum_by-cons f (get_or keys n None) [])
    ∙ ap (λ (x : Option (List ℕ)). count_by (is_key key) (take n keys) + (f x + 0)) (get_or_from_slice_get keys n o None is)
    ∙ omega arith

count-same : (key : List ℕ) (keys : List (Option (List ℕ))) (n : ℕ) (other : List ℕ) → slice_get keys n ≡ Some (Some other) → key ≡ other
    → count_by (is_key key) (take (n + 1) keys) ≡ count_by (is_key key) (take n keys) + 1
count-same key keys n other is same =
    count-more key keys n (Some other) is
    ∙ ap (λ (b : Bool). count_by (is_key key) (take n keys) + (if b then 1 else 0)) (bytes-same key other same)

count-other : (key : List ℕ) (keys : List (Option (List ℕ))) (n : ℕ) (o : Option (List ℕ)) → slice_get keys n ≡ Some o → is_key key o ≡ false
    → count_by (is_key key) (take (n + 1) keys) ≡ count_by (is_key key) (take n keys)
count-other key keys n o is apart =
    count-more key keys n o is ∙ ap (λ (b : Bool). count_by (is_key key) (take n keys) + (if b then 1 else 0)) apart ∙ omega arith

apart-key : (key other : List ℕ) → key ≢ other → bytes_eq key other ≡ false
apart-key key other apart = elim (cases_bytes key other) [ inl same ↦ absurd (apart same) | inr other_one ↦ other_one ]

-- none counted before the first has its bytes
count-none : (key : List ℕ) (keys : List (Option (List ℕ))) (n : ℕ) → ((k : ℕ) → k < n → slice_get keys k ≡ Some (Some key) → ⊥)
    → count_by (is_key key) (take n keys) ≡ 0
count-none key [] zero none = refl
count-none key [] (suc n) none = refl
count-none key (o ∷ keys) zero none = refl
count-none key (o ∷ keys) (suc n) none =
    sum_by-cons (λ (x : Option (List ℕ)). if is_key key x then 1 else 0) o (take n keys)
    ∙ ap (λ (b : Bool). (if b then 1 else 0) + count_by (is_key key) (take n keys)) (first o refl)
    ∙ (let rest = count-none key keys n (λ k below is. none (suc k) (omega arith) is) in omega (arith, rest))
  where
    first : (x : Option (List ℕ)) → o ≡ x → is_key key x ≡ false
    first None same = refl
    first (Some other) same =
        apart-key key other (λ e. none 0 (omega arith) (ap (λ (x : Option (List ℕ)). Some x) (same ∙ ap (λ (l : List ℕ). Some l) (sym e))))

-- NOTHING COUNTED YET
pub groups-none : (keys : List (Option (List ℕ))) → AreGroups keys 0 []
groups-none keys = record {
  within = λ i g is. absurd cc;
  is = λ i g at. absurd cc;
  least = λ i g k at is. absurd cc;
  count = λ i g at. absurd cc;
  every = λ k key below is. absurd (omega arith);
  different = λ i j g h at there same. absurd cc;
  rise = λ i j g h below at there. absurd cc;
}

module _ (keys : List (Option (List ℕ))) (n : ℕ) (groups : List Grouped) (was : AreGroups keys n groups) where
  -- A STATE WITHOUT AN END
  pub groups-open : slice_get keys n ≡ Some None → AreGroups keys (n + 1) groups
  groups-open here = record {
    within = λ i g at. (let within = was.within i g at in omega arith);
    is = was.is;
    least = was.least;
    count = λ i g at. was.count i g at ∙ sym (count-other g.key keys n None here refl);
    every = λ k key below is. elim (cases_lt k n) [
      | inl less ↦ was.every k key less is
      | inr past ↦ absurd (
          let same : k ≡ n = omega arith in
          let wrong : Some None ≡ Some (Some key) = sym here ∙ ap (slice_get keys) (sym same) ∙ is in cc)
    ];
    different = was.different;
    rise = was.rise;
  }

  module _ (key : List ℕ) (here : slice_get keys n ≡ Some (Some key)) where
    -- A STATE OF A GROUP THAT IS THERE
    module _ {after : List Grouped} (there : IsOneMore key groups after) where
      abbrev After : List Grouped
      After = slice_set groups there.place (one_more there.group)

      -- what a group was before
      record Was (j : ℕ) (h : Grouped) : Type 0 where
        old : Grouped
        is : slice_get groups j ≡ Some old
        key_is : h.key ≡ old.key
        first_is : h.first ≡ old.first
        count_is : h.states ≡ count_by (is_key h.key) (take (n + 1) keys)

      before : (j : ℕ) (h : Grouped) → slice_get After j ≡ Some h → Was j h
      before j h at = elim (slice_get-set_cases groups there.place j (one_more there.group) h at) [
        | inl same ↦
            let is : h ≡ one_more there.group = same.1 in
            record {
              old = there.group;
              is = ap (slice_get groups) same.0 ∙ there.is;
              key_is = ap (λ (g : Grouped). g.key) is;
              first_is = ap (λ (g : Grouped). g.first) is;
              count_is = ap (λ (g : Grouped). g.states) is
                  ∙ ap (λ (k : ℕ). k + 1) (was.count there.place there.group there.is)
                  ∙ sym (count-same there.group.key keys n key here there.same)
                  ∙ ap (λ (g : Grouped). count_by (is_key g.key) (take (n + 1) keys)) (sym is);
            }
        | inr other ↦ record {
          old = h;
          is = other.1;
          key_is = refl;
          first_is = refl;
          count_is = was.count j h other.1
              ∙ sym (count-other h.key keys n (Some key) here
              (apart-key h.key key (λ same. other.0 (was.different j there.place h there.group other.1 there.is (same ∙ sym there.same)))));
        }
      ]

      -- and what it is now
      record Now (j : ℕ) (g : Grouped) : Type 0 where
        new : Grouped
        is : slice_get After j ≡ Some new
        key_is : new.key ≡ g.key

      set-at : (xs : List Grouped) (i : ℕ) (x y : Grouped) → slice_get xs i ≡ Some y → slice_get (slice_set xs i x) i ≡ Some x
      set-at [] i x y is = absurd cc
      set-at (z ∷ xs) zero x y is = refl
      set-at (z ∷ xs) (suc i) x y is = set-at xs i x y is

      set-other : (xs : List Grouped) (i j : ℕ) (x y : Grouped) → j ≢ i → slice_get xs j ≡ Some y → slice_get (slice_set xs i x) j ≡ Some y
      set-other [] i j x y apart is = is
      set-other (z ∷ xs) zero zero x y apart is = absurd (apart refl)
      set-other (z ∷ xs) zero (suc j) x y apart is = is
      set-other (z ∷ xs) (suc i) zero x y apart is = is
      set-other (z ∷ xs) (suc i) (suc j) x y apart is = set-other xs i j x y (λ same. apart (ap suc same)) is

      now : (j : ℕ) (g : Grouped) → slice_get groups j ≡ Some g → Now j g
      now j g at = elim (cases_place j there.place) [
        | inl same ↦ record {
          new = one_more there.group;
          is = ap (slice_get After) same ∙ set-at groups there.place (one_more there.group) there.group there.is;
          key_is = ap (λ (x : Grouped). x.key) (same_Some there.group g (sym there.is ∙ ap (slice_get groups) (sym same) ∙ at));
        }
        | inr apart ↦ record { new = g; is = set-other groups there.place j (one_more there.group) g apart at; key_is = refl }
      ]
        where
          cases_place : (i k : ℕ) → (i ≡ k) ⊎ (i ≢ k)
          cases_place i k = elim (cases_lt i k) [
            | inl less ↦ inr (λ same. omega arith)
            | inr more ↦ elim (cases_lt k i) [ inl above ↦ inr (λ same. omega arith) | inr less ↦ inl (omega arith) ]
          ]

      groups-there : AreGroups keys (n + 1) After
      groups-there = record {
        within = λ i h at. (let b = before i h at in let first = b.first_is in let within = was.within i b.old b.is in omega arith);
        is = λ i h at.
            (let b = before i h at in
            ap (slice_get keys) b.first_is ∙ was.is i b.old b.is ∙ ap (λ (l : List ℕ). Some (Some l)) (sym b.key_is));
        least = λ i h k at is.
            (let b = before i h at in
            let low = was.least i b.old k b.is (is ∙ ap (λ (l : List ℕ). Some (Some l)) b.key_is) in
            let first = b.first_is in omega arith);
        count = λ i h at. (before i h at).count_is;
        every = λ k other below is. elim (cases_lt k n) [
          | inl less ↦ (let e = was.every k other less is in let x = now e.0 e.1 e.2 in (e.0, x.new, x.is, x.key_is ∙ e.3))
          | inr past ↦
              (let same : k ≡ n = omega arith in
              let key_is : key ≡ other = same_Some key other (same_Some (Some key) (Some other) (sym here ∙ ap (slice_get keys) (sym same) ∙ is)) in
              let x = now there.place there.group there.is in
              (there.place, x.new, x.is, x.key_is ∙ there.same ∙ key_is))
        ];
        different = λ i j g h at other same.
            (let b = before i g at in let c = before j h other in
            was.different i j b.old c.old b.is c.is (sym b.key_is ∙ same ∙ c.key_is));
        rise = λ i j g h below at other.
            (let b = before i g at in let c = before j h other in
            let rise = was.rise i j b.old c.old below b.is c.is in
            let f = b.first_is in let l = c.first_is in omega arith);
      }

    -- THE FIRST STATE OF A GROUP
    module _ {after : List Grouped} (new : IsFirstOfIts key n groups after) where
      abbrev Grown : List Grouped
      Grown = groups ++ new_group key n ∷ []

      abbrev Of : (i : ℕ) (g : Grouped) → Type 0
      Of i g = ((i ≡ length groups) × (g ≡ new_group key n)) ⊎ (slice_get groups i ≡ Some g)

      of : (i : ℕ) (g : Grouped) → slice_get Grown i ≡ Some g → Of i g
      of i g at = slice_get-push_cases groups i (new_group key n) g at

      no-earlier : (k : ℕ) → k < n → slice_get keys k ≡ Some (Some key) → ⊥
      no-earlier k below is = let e = was.every k key below is in new.absent e.0 e.1 e.2 e.3

      new-count : (g : Grouped) → g ≡ new_group key n → g.states ≡ count_by (is_key g.key) (take (n + 1) keys)
      new-count g is =
          ap (λ (x : Grouped). x.states) is
          ∙ sym (count-same key keys n key here refl ∙ ap (λ (k : ℕ). k + 1) (count-none key keys n no-earlier))
          ∙ ap (λ (x : Grouped). count_by (is_key x.key) (take (n + 1) keys)) (sym is)

      groups-new : AreGroups keys (n + 1) Grown
      groups-new = record {
        within = λ i g at. elim (of i g at) [
          | inl last ↦ (let first = ap (λ (x : Grouped). x.first) last.1 in omega arith)
          | inr old ↦ (let within = was.within i g old in omega arith)
        ];
        is = λ i g at. elim (of i g at) [
          | inl last ↦ ap (λ (x : Grouped). slice_get keys x.first) last.1 ∙ here
              ∙ ap (λ (x : Grouped). Some (Some x.key)) (sym last.1)
          | inr old ↦ was.is i g old
        ];
        least = λ i g k at is. elim (of i g at) [
          | inl last ↦
              (let first : g.first ≡ n = ap (λ (x : Grouped). x.first) last.1 in
              let its : slice_get keys k ≡ Some (Some key) = is ∙ ap (λ (x : Grouped). Some (Some x.key)) last.1 in
              elim (cases_lt k n) [ inl less ↦ absurd (no-earlier k less its) | inr past ↦ omega arith ])
          | inr old ↦ was.least i g k old is
        ];
        count = λ i g at. elim (of i g at) [
          | inl last ↦ new-count g last.1
          | inr old ↦ was.count i g old ∙ sym (count-other g.key keys n (Some key) here (apart-key g.key key (new.absent i g old)))
        ];
        every = λ k other below is. elim (cases_lt k n) [
          | inl less ↦
              (let e = was.every k other less is in
              (e.0, e.1, slice_get-append_left groups (new_group key n ∷ []) e.0 (slice_get_within groups e.0 e.1 e.2) ∙ e.2, e.3))
          | inr past ↦
              (let same : k ≡ n = omega arith in
              let key_is : key ≡ other = same_Some key other (same_Some (Some key) (Some other) (sym here ∙ ap (slice_get keys) (sym same) ∙ is)) in
              (length groups, new_group key n, slice_get-append_seam groups [] (new_group key n), key_is))
        ];
        different = λ i j g h at other same. elim (of i g at) [
          | inl last ↦ elim (of j h other) [
            | inl both ↦ last.0 ∙ sym both.0
            | inr old ↦ absurd (new.absent j h old (sym same ∙ ap (λ (x : Grouped). x.key) last.1))
          ]
          | inr old ↦ elim (of j h other) [
            | inl last ↦ absurd (new.absent i g old (same ∙ ap (λ (x : Grouped). x.key) last.1))
            | inr both ↦ was.different i j g h old both same
          ]
        ];
        rise = λ i j g h below at other. elim (of j h other) [
          | inl last ↦
              (let first : h.first ≡ n = ap (λ (x : Grouped). x.first) last.1 in
              elim (of i g at) [
                | inl both ↦ absurd (let a = last.0 in let b = both.0 in omega arith)
                | inr old ↦ (let within = was.within i g old in omega arith)
              ])
          | inr old ↦ elim (of i g at) [
            | inl last ↦ absurd (let within = slice_get_within groups j h old in let a = last.0 in omega arith)
            | inr both ↦ was.rise i j g h below both old
          ]
        ];
      }

    -- A STATE WITH AN END
    pub groups-counted : (after : List Grouped) → Counts key n groups after → AreGroups keys (n + 1) after
    groups-counted after (inl there) = subst (AreGroups keys (n + 1)) (sym there.after) (groups-there there)
    groups-counted after (inr new) = subst (AreGroups keys (n + 1)) (sym new.after) (groups-new new)
