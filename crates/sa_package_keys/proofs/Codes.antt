-- The codes can be read back from the left.
use Rattle.std.proofs.Common.{◌≡◌, ℕ, ◌+◌, ◌^◌, ◌<◌, ◌≤◌, Bool, true, false, List, [], Option, ◌∷◌, ◌++◌, length, take, drop, Some, None, nat_lt, refl, sym, ap, ◌∙◌, arith, append_assoc}
use Rattle.std.specs.Int.{to_le_bytes, from_le_bytes, w16, w64}
use Rattle.std.specs.List.{flat_map}
use Rattle.std.specs.Option.{option_map}
use Rattle.std.proofs.lemmas.Bool.{ltb-true, lt-ltb, le-ltb}
use Rattle.std.proofs.lemmas.Nat.{from_le_bytes-to_le_bytes_2, from_le_bytes-to_le_bytes_8}
use Rattle.sa_base.specs.declared.number.SpaceNo.{SpaceNo}
use Rattle.sa_base.specs.declared.number.ThreadNo.{ThreadNo}
use Rattle.sa_package_keys.specs.Codes.{IsPrefixCode, number, flag, number_or_none, thread_key, space_no_key, optional, list, kept_before, trimmed, padded}

-- what can be read back is a prefix code
pub code-read : {A : Type 0} (code : A → List ℕ) (read : List ℕ → A × List ℕ) → ((x : A) (r : List ℕ) → read (code x ++ r) ≡ (x, r)) → IsPrefixCode code
code-read {A} code read is x y r s same =
    let e : (let p : A × List ℕ = (x, r) in p) ≡ (y, s) = sym (is x r) ∙ ap read same ∙ is y s in (ap (λ (p : A × List ℕ). p.0) e, ap (λ (p : A × List ℕ). p.1) e)

-- parts one after another, put apart from the left
pub apart3 : (a b c r : List ℕ) → (a ++ b ++ c) ++ r ≡ a ++ (b ++ (c ++ r))
apart3 a b c r = simp append_assoc

pub apart4 : (a b c d : List ℕ) → a ++ b ++ c ++ d ≡ a ++ (b ++ c ++ d)
apart4 a b c d = simp append_assoc

pub apart5 : (a b c d e r : List ℕ) → (a ++ b ++ c ++ d ++ e) ++ r ≡ a ++ (b ++ (c ++ (d ++ (e ++ r))))
apart5 a b c d e r = simp append_assoc

-- NUMBERS, by their first bytes
abbrev read_wide : Bool → List ℕ → ℕ × List ℕ
read_wide true bytes = (from_le_bytes w64 (take 8 bytes), drop 8 bytes)
read_wide false [] = (0, [])
read_wide false (n ∷ bytes) = (n, bytes)

abbrev read_long : Bool → ℕ → List ℕ → ℕ × List ℕ
read_long true b bytes = (from_le_bytes w16 (take 2 bytes), drop 2 bytes)
read_long false b bytes = read_wide (nat_lt b 256) bytes

abbrev read_by : Bool → ℕ → List ℕ → ℕ × List ℕ
read_by true b bytes = (b, bytes)
read_by false b bytes = read_long (nat_lt b 255) b bytes

abbrev read_number : List ℕ → ℕ × List ℕ
read_number [] = (0, [])
read_number (b ∷ bytes) = read_by (nat_lt b 254) b bytes

number-read : (n : ℕ) (r : List ℕ) → read_number (number n ++ r) ≡ (n, r)
unfolding number
number-read n r = small (nat_lt n 254) refl
  where
    wide : (b : Bool) → nat_lt n (2 ^ 64) ≡ b → nat_lt n 254 ≡ false → nat_lt n (2 ^ 16) ≡ false → read_number (number n ++ r) ≡ (n, r)
    wide true is big long =
        rw (big, long, is) (ap (λ (m : ℕ). (let p : ℕ × List ℕ = (m, r) in p)) (from_le_bytes-to_le_bytes_8 n (ltb-true n (2 ^ 64) is)))
    wide false is big long = rw (big, long, is) refl

    long : (b : Bool) → nat_lt n (2 ^ 16) ≡ b → nat_lt n 254 ≡ false → read_number (number n ++ r) ≡ (n, r)
    long true is big =
        rw (big, is) (ap (λ (m : ℕ). (let p : ℕ × List ℕ = (m, r) in p)) (from_le_bytes-to_le_bytes_2 n (ltb-true n (2 ^ 16) is)))
    long false is big = wide (nat_lt n (2 ^ 64)) refl big is

    small : (b : Bool) → nat_lt n 254 ≡ b → read_number (number n ++ r) ≡ (n, r)
    small true is = rw (is, is) refl
    small false is = long (nat_lt n (2 ^ 16)) refl is

-- a number by its size
pub number-small : (n : ℕ) → n < 254 → number n ≡ n ∷ []
unfolding number
number-small n low = rw (lt-ltb n 254 low) refl

pub number-middle : (n : ℕ) → 254 ≤ n → n < 2 ^ 16 → number n ≡ 254 ∷ to_le_bytes w16 n
unfolding number
number-middle n some low = rw (le-ltb n 254 some, lt-ltb n (2 ^ 16) low) refl

pub number-large : (n : ℕ) → 2 ^ 16 ≤ n → n < 2 ^ 64 → number n ≡ 255 ∷ to_le_bytes w64 n
unfolding number
number-large n some low = rw (le-ltb n 254 (let h : 254 ≤ n = omega arith in h), le-ltb n (2 ^ 16) some, lt-ltb n (2 ^ 64) low) refl

pub number-code : IsPrefixCode number
number-code = code-read number read_number number-read

-- FLAGS
pub flag-code : IsPrefixCode flag
flag-code true true r s same = (refl, let e : (1 ∷ r) ≡ 1 ∷ s = same in cc)
flag-code false false r s same = (refl, let e : (0 ∷ r) ≡ 0 ∷ s = same in cc)
flag-code true false r s same = absurd (let e : (1 ∷ r) ≡ 0 ∷ s = same in cc)
flag-code false true r s same = absurd (let e : (0 ∷ r) ≡ 1 ∷ s = same in cc)

-- NUMBERS that may be missing
pub number_or_none-code : IsPrefixCode number_or_none
number_or_none-code None None r s same = (refl, (number-code 0 0 r s same).1)
number_or_none-code (Some n) (Some m) r s same =
    let both = number-code (n + 1) (m + 1) r s same in (ap Some (let e : n ≡ m = omega (arith, both.0) in e), both.1)
number_or_none-code None (Some m) r s same = absurd (let both = number-code 0 (m + 1) r s same in omega (arith, both.0))
number_or_none-code (Some n) None r s same = absurd (let both = number-code (n + 1) 0 r s same in omega (arith, both.0))

-- LISTS of one length that are the same without their ends, which have one value alone
module _ {A : Type 0} (test : A → Bool) (d : A) (only : (x : A) → test x ≡ true → x ≡ d) where
  none_kept : (x : A) (zs : List A) → kept_before test x zs ≡ [] → (x ≡ d) × (zs ≡ [])
  none_kept x [] none = (go (test x) refl, refl)
    where
      go : (b : Bool) → test x ≡ b → x ≡ d
      go true is = only x is
      go false is = absurd (let e : (x ∷ []) ≡ [] = (rw is at none) in cc)
  none_kept x (z ∷ zs) none = absurd (let e : (x ∷ z ∷ zs) ≡ [] = none in cc)

  some_kept : (x y : A) (zs us : List A) → kept_before test x zs ≡ y ∷ us → (x ≡ y) × (zs ≡ us)
  some_kept x y [] us some = go (test x) refl
    where
      go : (b : Bool) → test x ≡ b → (x ≡ y) × ([] ≡ us)
      go true is = absurd (let e : [] ≡ y ∷ us = (rw is at some) in cc)
      go false is = let e : (x ∷ []) ≡ y ∷ us = (rw is at some) in (cc, cc)
  some_kept x y (z ∷ zs) us some = let e : (x ∷ z ∷ zs) ≡ y ∷ us = some in (cc, cc)

  one : (x y : A) (zs us : List A) → kept_before test x zs ≡ kept_before test y us → (x ≡ y) × (zs ≡ us)
  one x y zs us both = go (kept_before test y us) refl
    where
      go : (ks : List A) → kept_before test y us ≡ ks → (x ≡ y) × (zs ≡ us)
      go [] is =
          let left = none_kept x zs (both ∙ is) in let right = none_kept y us is in (left.0 ∙ sym right.0, left.1 ∙ sym right.1)
      go (k ∷ ks) is =
          let left = some_kept x k zs ks (both ∙ is) in let right = some_kept y k us ks is in (left.0 ∙ sym right.0, left.1 ∙ sym right.1)

  pub trimmed-same : (xs ys : List A) → length xs ≡ length ys → trimmed test xs ≡ trimmed test ys → xs ≡ ys
  trimmed-same [] [] count both = refl
  trimmed-same (x ∷ xs) (y ∷ ys) count both =
      let e = one x y (trimmed test xs) (trimmed test ys) both in
      ap (λ z. z ∷ xs) e.0 ∙ ap (λ z. y ∷ z) (trimmed-same xs ys (let n : length xs ≡ length ys = omega arith in n) e.1)
  trimmed-same _ _ count both = absurd (omega arith)

module _ {A : Type 0} (code : A → List ℕ) (is : IsPrefixCode code) where
  pub optional-code : IsPrefixCode (optional code)
  optional-code None None r s same = (refl, (number-code 0 0 r s same).1)
  optional-code (Some x) (Some y) r s same =
      let both = number-code 1 1 (code x ++ r) (code y ++ s) (simp append_assoc at same) in
      let rest = is x y r s both.1 in (ap Some rest.0, rest.1)
  optional-code None (Some y) r s same =
      absurd (let both = number-code 0 1 r (code y ++ s) (simp append_assoc at same) in omega (arith, both.0))
  optional-code (Some x) None r s same =
      absurd (let both = number-code 1 0 (code x ++ r) s (simp append_assoc at same) in omega (arith, both.0))

  -- LISTS of one length
  pub all-code : (xs ys : List A) (r s : List ℕ) → length xs ≡ length ys → flat_map code xs ++ r ≡ flat_map code ys ++ s → (xs ≡ ys) × (r ≡ s)
  all-code [] [] r s count same = (refl, same)
  all-code (x ∷ xs) (y ∷ ys) r s count same =
      let first = is x y (flat_map code xs ++ r) (flat_map code ys ++ s) (simp append_assoc at same) in
      let rest = all-code xs ys r s (let e : length xs ≡ length ys = omega arith in e) first.1 in
      (ap (λ z. z ∷ xs) first.0 ∙ ap (λ z. y ∷ z) rest.0, rest.1)
  all-code _ _ r s count same = absurd (omega arith)

  pub list-code : IsPrefixCode (list code)
  unfolding list
  list-code xs ys r s same =
      let count = number-code (length xs) (length ys) (flat_map code xs ++ r) (flat_map code ys ++ s) (simp append_assoc at same) in
      all-code xs ys r s count.0 count.1

  -- lists whose ends have one value alone
  pub padded-code : (test : A → Bool) (d : A) → ((x : A) → test x ≡ true → x ≡ d) → IsPrefixCode (padded test code)
  unfolding padded
  padded-code test d only xs ys r s same =
      let count = number-code (length xs) (length ys) (list code (trimmed test xs) ++ r) (list code (trimmed test ys) ++ s) (simp append_assoc at same) in
      let kept = list-code (trimmed test xs) (trimmed test ys) r s count.1 in
      (trimmed-same test d only xs ys count.0 kept.0, kept.1)

-- VALUES of several forms: a tag, which tells the form, and what stands there
pub tagged-code : {A : Type 0} (tag : A → ℕ) (body : A → List ℕ)
    → ((x y : A) (r s : List ℕ) → tag x ≡ tag y → body x ++ r ≡ body y ++ s → (x ≡ y) × (r ≡ s))
    → (code : A → List ℕ) → ((x : A) → code x ≡ number (tag x) ++ body x) → IsPrefixCode code
tagged-code tag body tells code is x y r s same =
    let parts : (number (tag x) ++ body x) ++ r ≡ (number (tag y) ++ body y) ++ s =
    ap (λ z. z ++ r) (sym (is x)) ∙ same ∙ ap (λ z. z ++ s) (is y) in
    let tags = number-code (tag x) (tag y) (body x ++ r) (body y ++ s)
    (sym (append_assoc (number (tag x)) (body x) r) ∙ parts ∙ append_assoc (number (tag y)) (body y) s) in
    tells x y r s tags.0 tags.1

-- a number with a name of its own, if it is there
pub thread-code : IsPrefixCode thread_key
thread-code s t r q same =
    let e = number_or_none-code (option_map (λ (n : ThreadNo). n.0) s) (option_map (λ (n : ThreadNo). n.0) t) r q same in (go s t e.0, e.1)
  where
    go : (s t : Option ThreadNo) → option_map (λ (n : ThreadNo). n.0) s ≡ option_map (λ (n : ThreadNo). n.0) t → s ≡ t
    go None None is = refl
    go (Some a) (Some b) is = let e : a.0 ≡ b.0 = cc in ap (λ (n : ℕ). Some (let t : ThreadNo = record { 0 = n } in t)) e
    go None (Some b) is = absurd (let e : None ≡ Some b.0 = is in cc)
    go (Some a) None is = absurd (let e : Some a.0 ≡ None = is in cc)

pub space_no-code : IsPrefixCode space_no_key
space_no-code s t r q same =
    let e = number_or_none-code (option_map (λ (n : SpaceNo). n.0) s) (option_map (λ (n : SpaceNo). n.0) t) r q same in (go s t e.0, e.1)
  where
    go : (s t : Option SpaceNo) → option_map (λ (n : SpaceNo). n.0) s ≡ option_map (λ (n : SpaceNo). n.0) t → s ≡ t
    go None None is = refl
    go (Some a) (Some b) is = let e : a.0 ≡ b.0 = cc in ap (λ (n : ℕ). Some (let t : SpaceNo = record { 0 = n } in t)) e
    go None (Some b) is = absurd (let e : None ≡ Some b.0 = is in cc)
    go (Some a) None is = absurd (let e : Some a.0 ≡ None = is in cc)
