-- How often a thread is in a hand, which of these count, and that what a context has is the thread that it carries and
-- those beside it.
use Rattle.std.proofs.Common.{◌≡◌, ◌≢◌, ℕ, zero, suc, ◌+◌, ◌≤◌, Bool, true, false, ◌||◌, not, List, [], ◌∷◌, ◌++◌, map, filter, Contains, Option, Some, None, refl, ap, ◌∙◌, inl, inr, arith, if◌then◌else◌}
use Rattle.std.proofs.lemmas.Bool.{cases_eq}
use Rattle.std.proofs.lemmas.List.{map-append}
use Rattle.std.specs.List.{list_any}
use Rattle.sa_base.specs.declared.number.ThreadNo.{ThreadNo}
use Rattle.sa_links.proofs.Counting.{count-append, count_without_same, count_without_other}
use Rattle.sa_links.specs.Lists.{count_in, without}
use Rattle.sa_code.specs.declared.state.Frame.{Frame}
use Rattle.sa_copies.specs.Copies.{copy_at}
use Rattle.sa_fast.proofs.WorkSteps.{one_same, one_other, count_one}
use Rattle.sa_fast.specs.Rest.{one_of, one_if}
use Rattle.sa_fast.specs.Work.{work_of}
use Rattle.sa_package_model.specs.Context.{carried_by, section_in, at_copy, before_all}
use Rattle.sa_package_model.specs.Hands.{threads_in, threads_of}
use Rattle.sa_package_model.specs.Rules.{thread_alone}
use Rattle.sa_package_model.specs.declared.context.Context.{Context}
use Rattle.sa_package_model.specs.declared.context.ContextState.{ContextState}
use Rattle.sa_package_model.specs.declared.context.ContextState.TheVariants.{Code}
use Rattle.sa_laws.specs.Life.{same_thread}
use Rattle.sa_laws.specs.Readings.{counts}
use Rattle.sa_laws.specs.State.{SpaceState}
use Rattle.sa_fast_laws.specs.Life.{pushed_in, beside, carried, number_of, held, count_if}
use Rattle.sa_fast_laws.specs.View.{view}
use Rattle.sa_laws.specs.Record.{one_thread}
use Rattle.std.proofs.Math.Bool.{or-true}

-- WHAT A CONTEXT HAS is the thread that it carries, and those beside it
split_at : (works : List (List ℕ)) (f : Frame) (fs : List Frame) (k : Option ℕ) (n t : ℕ)
    → threads_in (before_all (at_copy f k) fs) t + one_of (thread_alone (at_copy f k) f.thread) t + n ≡ pushed_in
    (at_copy f k) t + threads_in fs t + n + one_of f.thread t
split_at works f fs None n t = omega arith
split_at works f fs (Some k) n t = omega arith

split_by : (works : List (List ℕ)) (state : ContextState) (fs : List Frame) (n t : ℕ)
    → threads_in (before_all (section_in state) fs) t + one_of (thread_alone (section_in state) (carried_by state)) t + n
    ≡ pushed_in (section_in state) t + threads_in fs t + n + one_of (carried_by state) t
split_by works (Code f) fs n t = split_at works f fs (copy_at f.pc) n t
split_by works _ fs n t = omega arith

pub split : (works : List (List ℕ)) (c : Context) (t : ℕ) → threads_of works (Some c) t ≡ beside works (view c) t + carried (view c) t
split works c t = split_by works c.state c.sections (count_in t (work_of works c.work)) t

-- HANDS
pub held-append : (hand more : List ThreadNo) (t : ℕ) → held (hand ++ more) t ≡ held hand t + held more t
held-append hand more t = ap (count_in t) (map-append number_of hand more) ∙ count-append t (map number_of hand) (map number_of more)

pub held-cons : (u : ThreadNo) (hand : List ThreadNo) (t : ℕ) → held (u ∷ hand) t ≡ one_if u.0 t + held hand t
held-cons u hand t = count_one t u.0 (map number_of hand)

pub held-one : (u : ThreadNo) (t : ℕ) → held (u ∷ []) t ≡ one_if u.0 t
held-one u t = let one = held-cons u [] t in let none : held [] t ≡ 0 = refl in omega arith

pub held-thread : (o : Option ThreadNo) (t : ℕ) → held (one_thread o) t ≡ one_of o t
held-thread None t = refl
held-thread (Some u) t = held-one u t

-- what counts where it is told so
pub count-less : (b : Bool) (n : ℕ) → count_if b n ≤ n
count-less true n = omega arith
count-less false n = omega arith

pub count-none : (b : Bool) → count_if b 0 ≡ 0
count-none true = refl
count-none false = refl

numbers-without : (t : ThreadNo) (hand : List ThreadNo) → map number_of (filter (λ u. not (same_thread u t)) hand) ≡ without t.0 (map number_of hand)
numbers-without t [] = refl
numbers-without t (u ∷ hand) =
    kept-or (same_thread u t) u (filter (λ v. not (same_thread v t)) hand) (without t.0 (map number_of hand)) (numbers-without t hand) where
      kept-or : (b : Bool) (v : ThreadNo) (vs : List ThreadNo) (ns : List ℕ) → map number_of vs ≡ ns
          → map number_of (if not b then v ∷ vs else vs) ≡ (if not b then v.0 ∷ ns else ns)
      kept-or true v vs ns e = e
      kept-or false v vs ns e = ap (λ ms. v.0 ∷ ms) e

pub held-without : (t : ThreadNo) (hand : List ThreadNo) → held (filter (λ u. not (same_thread u t)) hand) t.0 ≡ 0
held-without t hand = ap (count_in t.0) (numbers-without t hand) ∙ count_without_same t.0 (map number_of hand)

pub held-others : (t : ThreadNo) (hand : List ThreadNo) (n : ℕ) → n ≢ t.0 → held (filter (λ u. not (same_thread u t)) hand) n ≡ held hand n
held-others t hand n ne = ap (count_in n) (numbers-without t hand) ∙ count_without_other n t.0 (map number_of hand) ne

-- a hand of which some thread counts, or none does
pub counts_some : (x : SpaceState) (hand : List ThreadNo) (t : ThreadNo) → 1 ≤ held hand t.0 → counts x t ≡ true → list_any (counts x) hand ≡ true
counts_some x [] t some is = absurd (let none : held [] t.0 ≡ 0 = refl in omega arith)
counts_some x (u ∷ hand) t some is = elim (cases_eq u.0 t.0) [
  | inl e ↦ let same : u ≡ t = ap (λ n. record { 0 = n }) e in ap (λ v. counts x v || list_any (counts x) hand) same
      ∙ ap (λ b. b || list_any (counts x) hand) is
  | inr ne ↦
      let rest = counts_some x hand t (let all = held-cons u hand t.0 in let other = one_other u.0 t.0 ne in omega arith) is in
      ap (λ b. counts x u || b) rest ∙ or-true (counts x u)
]

pub counts_none : (x : SpaceState) (hand : List ThreadNo) → ((t : ThreadNo) → 1 ≤ held hand t.0 → counts x t ≡ false)
    → list_any (counts x) hand ≡ false
counts_none x [] none = refl
counts_none x (u ∷ hand) none =
    ap (λ b. b || list_any (counts x) hand) (none u (let all = held-cons u hand u.0 in let one = one_same u.0 u.0 refl in omega arith))
    ∙ counts_none x hand (λ t some. none t (let all = held-cons u hand t.0 in omega arith))

-- a thread that is in a hand
pub held_contains : (hand : List ThreadNo) (t : ThreadNo) → 1 ≤ held hand t.0 → Contains hand t
held_contains [] t some = absurd (let none : held [] t.0 ≡ 0 = refl in omega arith)
held_contains (u ∷ hand) t some = elim (cases_eq u.0 t.0) [
  | inl e ↦ (zero, omega arith, ap (λ n. record { 0 = n }) e)
  | inr ne ↦
      let rest = held_contains hand t (let all = held-cons u hand t.0 in let other = one_other u.0 t.0 ne in omega arith) in
      let below = rest.1 in (suc rest.0, omega arith, rest.2)
]
