-- Laws of I/Os and pages.
use Rattle.std.proofs.Common.{◌≡◌, ◌≢◌, ℕ, zero, suc, ◌<◌, ◌^◌, eqb, true, false, List, [], ◌∷◌, length, Option, Some, None, sym, ap, ◌∙◌, arith, inl, inr, Contains, MatchOption, slice_index_or, w16}
use Rattle.std.specs.Int.{bit_at, bit_not}
use Rattle.std.proofs.lemmas.Nat.Bits.{bit_at_and, bit_at_or, bit_at-pow_same, bit_at-pow_other, bit_at_not, bit_at-lt}
use Rattle.std.proofs.Math.Pow.{pow-lt}
use Rattle.sa_devices.specs.Ios.{Io, due_of}
use Rattle.sa_devices.specs.Pages.{with_page, without_page}
use Rattle.sa_base.specs.Pages.{has_page}
use Rattle.sa_devices.specs.Laws.{IsSoonest, NoneIsDue}
use Rattle.sa_devices.proofs.IosLemmas.{Member, IsDueOf, due_of-due}

Member-from_Contains : (io : Io) (ios : List Io) → Contains ios io → Member io ios
Member-from_Contains io [] at = omega (arith, at.1)
Member-from_Contains io (x ∷ xs) at = go at.0 at.1 at.2 (Member-from_Contains io xs) where
  go : (k : ℕ) → k < length (x ∷ xs) → slice_index_or (x ∷ xs) k io ≡ io → (Contains xs io → Member io xs) → Member io (x ∷ xs)
  go zero below is again = inl (sym is)
  go (suc k) below is again = inr (again (k, omega arith, is))

Contains-from_Member : (io : Io) (ios : List Io) → Member io ios → Contains ios io
Contains-from_Member io [] member = absurd member
Contains-from_Member io (x ∷ xs) (inl same) = (0, omega arith, sym same)
Contains-from_Member io (x ∷ xs) (inr there) = let at = Contains-from_Member io xs there in (suc at.0, omega (arith, at.1), at.2)

pub due_of-soonest : (event : ℕ) (ios : List Io) → MatchOption (due_of event ios) (NoneIsDue event ios) (IsSoonest event ios)
due_of-soonest event ios = go (due_of event ios) (due_of-due event ios) where
  go : (d : Option Io) → IsDueOf event ios d → MatchOption d (NoneIsDue event ios) (IsSoonest event ios)
  go None due = λ io at. due io (Member-from_Contains io ios at)
  go (Some d) due = record {
    under_way = Contains-from_Member d ios due.0;
    due = due.1;
    first = λ io at early. due.2 io (Member-from_Contains io ios at) early;
  }

pub has_page-with_same : (pages k : ℕ) → k < 16 → has_page (with_page pages k) k ≡ true
has_page-with_same pages k within =
    let one = bit_at-pow_same k in
    let less = bit_at-lt pages k in
    let bit : bit_at (with_page pages k) k ≡ 1 = bit_at_or pages (2 ^ k) k ∙ omega arith in
    ap (λ (n : ℕ). eqb n 1) bit

pub has_page-with_other : (pages k j : ℕ) → j ≢ k → has_page (with_page pages k) j ≡ has_page pages j
has_page-with_other pages k j apart =
    let none = bit_at-pow_other k j apart in
    let bit : bit_at (with_page pages k) j ≡ bit_at pages j = bit_at_or pages (2 ^ k) j ∙ omega arith in
    ap (λ (n : ℕ). eqb n 1) bit

-- a page's bit is one of 16
below-pages : (k : ℕ) → k < 16 → 2 ^ k < 2 ^ 16
below-pages k within = pow-lt within

pub has_page-without_same : (pages k : ℕ) → k < 16 → has_page (without_page pages k) k ≡ false
has_page-without_same pages k within =
    let one = bit_at-pow_same k in
    let mask = bit_at_not w16 (2 ^ k) k (below-pages k within) within in
    let bit : bit_at (without_page pages k) k ≡ 0 = bit_at_and pages (bit_not w16 (2 ^ k)) k ∙ omega arith in
    ap (λ (n : ℕ). eqb n 1) bit

pub has_page-without_other : (pages k j : ℕ) → k < 16 → j < 16 → j ≢ k → has_page (without_page pages k) j ≡ has_page pages j
has_page-without_other pages k j within inside apart =
    let none = bit_at-pow_other k j apart in
    let mask = bit_at_not w16 (2 ^ k) j (below-pages k within) inside in
    let less = bit_at-lt pages j in
    let bit : bit_at (without_page pages k) j ≡ bit_at pages j = bit_at_and pages (bit_not w16 (2 ^ k)) j ∙ omega arith in
    ap (λ (n : ℕ). eqb n 1) bit
