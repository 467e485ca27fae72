-- The I/Os at their places, and which of them is due.
use Rattle.std.proofs.Common.{IsSome, IfSome, ◌≡◌, ℕ, zero, suc, ◌+◌, ◌<◌, ◌≤◌, Bool, true, false, cond, eqb, leb, ◌⊎◌, inl, inr, List, [], ◌∷◌, ◌++◌, length, set, Option, Some, None, option_map, refl, sym, ap, subst, ◌∙◌, arith}
use Rattle.std.proofs.lemmas.Bool.{both_ways, eq-eqb, ne_eqb, leb-true, leb-false, cond-true, cond-false}
use Rattle.std.proofs.lemmas.Bool.Decides.{nat_tests}
use Rattle.std.proofs.lemmas.Option.{none-some, same_Some}
use Rattle.sa_devices.specs.declared.under_way.Entry.{Entry}
use Rattle.sa_devices.specs.Ios.{Io, is_number, io_no, is_sooner, sooner_of, due_of, io_at, without}
use Rattle.sa_devices.specs.Kept.{listed, entry_at, ends_at}

-- the I/O of a number, by the entry at its place
abbrev pub io_of : ℕ → Entry → Io
io_of n e = record { number = n; ends = e.ends; kind = e.kind }

pub listed-append : (first : ℕ) (places : List (Option Entry)) (e : Entry)
    → listed first (places ++ Some e ∷ []) ≡ listed first places ++ io_of (first + length places) e ∷ []
listed-append first [] e = ap (λ (n : ℕ). io_of n e ∷ []) (omega arith)
listed-append first (None ∷ places) e = listed-append (first + 1) places e ∙ ap (λ (n : ℕ). listed (first + 1) places ++ io_of n e ∷ []) (omega arith)
listed-append first (Some x ∷ places) e =
    ap (λ (ios : List Io). io_of first x ∷ ios) (listed-append (first + 1) places e ∙ ap (λ (n : ℕ). listed (first + 1) places ++ io_of n e ∷ []) (omega arith))

-- a number below the first is nowhere
io_at-below : (n first : ℕ) (places : List (Option Entry)) → n < first → io_at n (listed first places) ≡ None
io_at-below n first [] below = refl
io_at-below n first (None ∷ places) below = io_at-below n (first + 1) places (omega arith)
io_at-below n first (Some e ∷ places) below =
    cond-false (eqb first n) (Some (io_of first e)) (io_at n (listed (first + 1) places)) (ne_eqb first n (λ same. omega arith))
    ∙ io_at-below n (first + 1) places (omega arith)

pub io_at-listed : (first i : ℕ) (places : List (Option Entry)) → io_at (first + i) (listed first places) ≡ option_map (io_of (first + i)) (entry_at places i)
io_at-listed first i [] = refl
io_at-listed first zero (None ∷ places) = io_at-below (first + 0) (first + 1) places (omega arith)
io_at-listed first zero (Some e ∷ places) =
    cond-true (eqb first (first + 0)) (Some (io_of first e)) (io_at (first + 0) (listed (first + 1) places)) (eq-eqb first (first + 0) (omega arith))
    ∙ ap (λ (n : ℕ). Some (io_of n e)) (omega arith)
io_at-listed first (suc i) (None ∷ places) =
    let n : first + suc i ≡ first + 1 + i = omega arith in
    ap (λ (k : ℕ). io_at k (listed (first + 1) places)) n ∙ io_at-listed (first + 1) i places ∙ ap (λ (k : ℕ). option_map (io_of k) (entry_at places i)) (sym n)
io_at-listed first (suc i) (Some e ∷ places) =
    let n : first + suc i ≡ first + 1 + i = omega arith in
    cond-false (eqb first (first + suc i)) (Some (io_of first e)) (io_at (first + suc i) (listed (first + 1) places))
    (ne_eqb first (first + suc i) (λ same. omega arith))
    ∙ ap (λ (k : ℕ). io_at k (listed (first + 1) places)) n ∙ io_at-listed (first + 1) i places
    ∙ ap (λ (k : ℕ). option_map (io_of k) (entry_at places i)) (sym n)

without-below : (n first : ℕ) (places : List (Option Entry)) → n < first → without n (listed first places) ≡ listed first places
without-below n first [] below = refl
without-below n first (None ∷ places) below = without-below n (first + 1) places (omega arith)
without-below n first (Some e ∷ places) below =
    let rest = listed (first + 1) places in
    cond-false (eqb first n) rest (io_of first e ∷ without n rest) (ne_eqb first n (λ same. omega arith))
    ∙ ap (λ (ios : List Io). io_of first e ∷ ios) (without-below n (first + 1) places (omega arith))

pub without-listed : (first i : ℕ) (places : List (Option Entry)) → without (first + i) (listed first places) ≡ listed first (set places i None)
without-listed first i [] = refl
without-listed first zero (None ∷ places) = without-below (first + 0) (first + 1) places (omega arith)
without-listed first zero (Some e ∷ places) =
    let rest = listed (first + 1) places in
    cond-true (eqb first (first + 0)) rest (io_of first e ∷ without (first + 0) rest) (eq-eqb first (first + 0) (omega arith))
without-listed first (suc i) (None ∷ places) =
    let n : first + suc i ≡ first + 1 + i = omega arith in
    ap (λ (k : ℕ). without k (listed (first + 1) places)) n ∙ without-listed (first + 1) i places
without-listed first (suc i) (Some e ∷ places) =
    let n : first + suc i ≡ first + 1 + i = omega arith in
    let rest = listed (first + 1) places in
    cond-false (eqb first (first + suc i)) rest (io_of first e ∷ without (first + suc i) rest) (ne_eqb first (first + suc i) (λ same. omega arith))
    ∙ ap (λ (ios : List Io). io_of first e ∷ ios) (ap (λ (k : ℕ). without k rest) n ∙ without-listed (first + 1) i places)

-- ---- members

abbrev pub Member : Io → List Io → Type 0
Member io [] = ⊥
Member io (x ∷ xs) = (io ≡ x) ⊎ Member io xs

-- an I/O of the list is at a place
pub record StandsAt (first : ℕ) (places : List (Option Entry)) (io : Io) : Type 0 where
  pub index : ℕ
  pub number : io.number ≡ first + index
  pub ends : ends_at places index ≡ Some io.ends

listed-stands : (first : ℕ) (places : List (Option Entry)) (io : Io) → Member io (listed first places) → StandsAt first places io
listed-stands first [] io member = absurd member
listed-stands first (None ∷ places) io member =
    let later = listed-stands (first + 1) places io member in
    let number = later.number in
    record { index = suc later.index; number = omega arith; ends = later.ends }
listed-stands first (Some e ∷ places) io (inl same) = record {
  index = 0;
  number = ap (λ (x : Io). x.number) same ∙ omega arith;
  ends = ap (λ (x : Io). Some x.ends) (sym same);
}
listed-stands first (Some e ∷ places) io (inr member) =
    let later = listed-stands (first + 1) places io member in
    let number = later.number in
    record { index = suc later.index; number = omega arith; ends = later.ends }

pub stands-under_way : (places : List (Option Entry)) (io : Io) → Member io (listed 0 places) → ends_at places io.number ≡ Some io.ends
stands-under_way places io member =
    let at = listed-stands 0 places io member in
    let number = at.number in
    let same : io.number ≡ at.index = omega arith in
    ap (ends_at places) same ∙ at.ends

-- what is at a place is an I/O of the list
pub record IsListed (first i ends : ℕ) (places : List (Option Entry)) : Type 0 where
  pub io : Io
  pub member : Member io (listed first places)
  pub number : io.number ≡ first + i
  pub ends_then : io.ends ≡ ends

pub ends_at-listed : (first i ends : ℕ) (places : List (Option Entry)) → ends_at places i ≡ Some ends → IsListed first i ends places
ends_at-listed first i ends [] at = absurd (none-some ends at)
ends_at-listed first zero ends (None ∷ places) at = absurd (none-some ends at)
ends_at-listed first zero ends (Some e ∷ places) at = record {
  io = io_of first e;
  member = inl refl;
  number = omega arith;
  ends_then = same_Some e.ends ends at;
}
ends_at-listed first (suc i) ends (None ∷ places) at =
    let later = ends_at-listed (first + 1) i ends places at in
    let number = later.number in
    record { io = later.io; member = later.member; number = omega arith; ends_then = later.ends_then }
ends_at-listed first (suc i) ends (Some e ∷ places) at =
    let later = ends_at-listed (first + 1) i ends places at in
    let number = later.number in
    record { io = later.io; member = inr later.member; number = omega arith; ends_then = later.ends_then }

-- ---- the one that is due

abbrev pub ComesFirst : Io → Io → Type 0
ComesFirst a b = (a.ends < b.ends) ⊎ ((a.ends ≡ b.ends) × (a.number ≤ b.number))

-- none is due, or this one, which none that is due comes before
abbrev pub IsDueOf : ℕ → List Io → Option Io → Type 0
IsDueOf event ios None = (io : Io) → Member io ios → event < io.ends
IsDueOf event ios (Some d) = Member d ios × (d.ends ≤ event) × ((io : Io) → Member io ios → io.ends ≤ event → ComesFirst d io)

is_sooner-true : (a b : Io) → is_sooner a b ≡ true → ComesFirst a b
is_sooner-true a b e = grind (arith, nat_tests)

is_sooner-false : (a b : Io) → is_sooner a b ≡ false → ComesFirst b a
is_sooner-false a b e = grind (arith, nat_tests)

ComesFirst-trans : (a b c : Io) → ComesFirst a b → ComesFirst b c → ComesFirst a c
ComesFirst-trans a b c ab bc = grind arith

IsDueOf-later : (event : ℕ) (x : Io) (xs : List Io) (d : Option Io) → event < x.ends → IsDueOf event xs d → IsDueOf event (x ∷ xs) d
IsDueOf-later event x xs None later due = λ io member. elim member [
  | inl same ↦ subst (λ (y : Io). event < y.ends) (sym same) later
  | inr there ↦ due io there
]
IsDueOf-later event x xs (Some d) later due = (
  inr due.0,
  due.1,
  λ io member early. elim member [
    | inl same ↦ (let e : event < io.ends = subst (λ (y : Io). event < y.ends) (sym same) later in absurd (omega arith))
    | inr there ↦ due.2 io there early
  ],
)

IsDueOf-sooner : (event : ℕ) (x : Io) (xs : List Io) (d : Option Io) → x.ends ≤ event → IsDueOf event xs d → IsDueOf event (x ∷ xs) (Some (sooner_of x d))
IsDueOf-sooner event x xs None early due = (
  inl refl,
  early,
  λ io member is_early. elim member [
    | inl same ↦ subst (λ (y : Io). ComesFirst x y) (sym same) (inr (refl, omega arith))
    | inr there ↦ (let e = due io there in absurd (omega arith))
  ],
)
IsDueOf-sooner event x xs (Some d) early due = go (is_sooner d x) refl where
  go : (b : Bool) → is_sooner d x ≡ b → IsDueOf event (x ∷ xs) (Some (cond b d x))
  go true is = (
    inr due.0,
    due.1,
    λ io member is_early. elim member [
      | inl same ↦ subst (λ (y : Io). ComesFirst d y) (sym same) (is_sooner-true d x is)
      | inr there ↦ due.2 io there is_early
    ],
  )
  go false is = (
    inl refl,
    early,
    λ io member is_early. elim member [
      | inl same ↦ subst (λ (y : Io). ComesFirst x y) (sym same) (inr (refl, omega arith))
      | inr there ↦ ComesFirst-trans x d io (is_sooner-false d x is) (due.2 io there is_early)
    ],
  )

pub due_of-due : (event : ℕ) (ios : List Io) → IsDueOf event ios (due_of event ios)
due_of-due event [] = λ io member. absurd member
due_of-due event (x ∷ xs) = go (leb x.ends event) refl (due_of-due event xs) where
  go : (b : Bool) → leb x.ends event ≡ b → IsDueOf event xs (due_of event xs)
      → IsDueOf event (x ∷ xs) (cond b (Some (sooner_of x (due_of event xs))) (due_of event xs))
  go true is due = IsDueOf-sooner event x xs (due_of event xs) (leb-true x.ends event is) due
  go false is due = IsDueOf-later event x xs (due_of event xs) (leb-false x.ends event is) due

-- the one that is due is under way
io_at-member : (d : Io) (ios : List Io) → Member d ios → IsSome (io_at d.number ios)
io_at-member d [] member = absurd member
io_at-member d (x ∷ xs) member = go (is_number d.number x) refl member (io_at-member d xs) where
  go : (b : Bool) → is_number d.number x ≡ b → (d ≡ x) ⊎ Member d xs → (Member d xs → IsSome (io_at d.number xs)) → IsSome (cond b (Some x) (io_at d.number xs))
  go true is at again = refl
  go false is (inl same) again = absurd (both_ways (is_number d.number x) is (eq-eqb x.number d.number (ap (λ (io : Io). io.number) (sym same))))
  go false is (inr there) again = again there

pub due_of-under_way : (event : ℕ) (ios : List Io) → IfSome (option_map io_no (due_of event ios)) (λ io. IsSome (io_at io.0 ios))
due_of-under_way event ios = go (due_of event ios) (due_of-due event ios) where
  go : (d : Option Io) → IsDueOf event ios d → IfSome (option_map io_no d) (λ io. IsSome (io_at io.0 ios))
  go None due = tt
  go (Some d) due = io_at-member d ios due.0
