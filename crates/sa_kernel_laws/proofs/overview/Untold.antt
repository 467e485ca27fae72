-- What is untold, and what a run of told records leaves of it.
use Rattle.std.proofs.Common.{◌≡◌, ℕ, zero, suc, ◌<◌, ◌≤◌, ◌+◌, refl, ◌∙◌, ap, arith, List, [], ◌∷◌, length, map, true, false}
use Rattle.std.specs.Prelude.{Bool, not, if◌then◌else◌, slice_set, filter}
use Rattle.sa_base.specs.declared.number.ProcNo.{ProcNo}
use Rattle.sa_base.specs.declared.record.Note.{Note}
use Rattle.sa_base.specs.declared.record.Note.TheVariants.{Preempted, Unblocked}
use Rattle.sa_base.specs.declared.record.Record.TheVariants.{Told}
use Rattle.sa_spaces.specs.Workload.{WorkloadView}
use Rattle.sa_laws.specs.Readings.{Readings}
use Rattle.sa_laws.specs.Record.{after_record, same_note, is_other_note, without_note}
use Rattle.sa_laws.specs.History.{after_records}
use Rattle.sa_laws.proofs.Notes.{same_note-itself}
use Rattle.sa_kernel_laws.specs.Overview.{Overview, overview, taken_by, taken_behind}
use Rattle.sa_kernel_laws.proofs.overview.Records.{told-spaces}

-- how often a notice is in a list, and in all lists
abbrev pub once_if : Bool → ℕ
once_if b = if b then 1 else 0

abbrev pub copies_in : Note → List Note → ℕ
copies_in n [] = 0
copies_in n (m ∷ ms) = once_if (same_note m n) + copies_in n ms

abbrev pub copies : Note → List (List Note) → ℕ
copies n [] = 0
copies n (u ∷ us) = copies_in n u + copies n us

abbrev pub AreOnce : List (List Note) → Type 0
AreOnce untold = (n : Note) → copies n untold ≤ 1

-- what is not there is not taken out
none-filtered : (n : Note) (ms : List Note) → copies_in n ms ≡ 0 → filter (is_other_note n) ms ≡ ms
none-filtered n [] none = refl
none-filtered n (m ∷ ms) none = here (same_note m n) none (λ rest. none-filtered n ms rest) where
  here : (b : Bool) → once_if b + copies_in n ms ≡ 0 → (copies_in n ms ≡ 0 → filter (is_other_note n) ms ≡ ms)
      → (if not b then m ∷ filter (is_other_note n) ms else filter (is_other_note n) ms) ≡ m ∷ ms
  here true is rest = absurd (omega arith)
  here false is rest = ap (λ ns. m ∷ ns) (rest (omega arith))

pub none-without : (n : Note) (us : List (List Note)) → copies n us ≡ 0 → without_note us n ≡ us
none-without n [] none = refl
none-without n (u ∷ us) none =
    let one : filter (is_other_note n) u ≡ u = none-filtered n u (omega arith) in
    let all : without_note us n ≡ us = none-without n us (omega arith) in
    λ i. one i ∷ all i

-- the first of a space's notices is told
some-there : (n : Note) (us : List (List Note)) (s : ℕ) (ns : List Note) → s < length us → 1 ≤ copies n (slice_set us s (n ∷ ns))
some-there n [] s ns within = absurd (omega arith)
some-there n (u ∷ us) zero ns within = let one = ap once_if (same_note-itself n) in omega arith
some-there n (u ∷ us) (suc s) ns within = let rest = some-there n us s ns (omega arith) in omega arith

first-told : (n : Note) (ns : List Note) → copies_in n ns ≡ 0 → filter (is_other_note n) (n ∷ ns) ≡ ns
first-told n ns none = ap (λ b. if not b then n ∷ filter (is_other_note n) ns else filter (is_other_note n) ns) (same_note-itself n) ∙ none-filtered n ns none

tell-one : (n : Note) (us : List (List Note)) (s : ℕ) (ns : List Note) → s < length us → copies n (slice_set us s (n ∷ ns)) ≤ 1
    → without_note (slice_set us s (n ∷ ns)) n ≡ slice_set us s ns
tell-one n [] s ns within once = refl
tell-one n (u ∷ us) zero ns within once =
    let one = ap once_if (same_note-itself n) in
    let here : filter (is_other_note n) (n ∷ ns) ≡ ns = first-told n ns (omega arith) in
    let rest : without_note us n ≡ us = none-without n us (omega arith) in
    λ i. here i ∷ rest i
tell-one n (u ∷ us) (suc s) ns within once =
    let some = some-there n us s ns (omega arith) in
    let here : filter (is_other_note n) u ≡ u = none-filtered n u (omega arith) in
    let rest : without_note (slice_set us s (n ∷ ns)) n ≡ slice_set us s ns = tell-one n us s ns (omega arith) (omega arith) in
    λ i. here i ∷ rest i

less-set : (n m : Note) (us : List (List Note)) (s : ℕ) (ns : List Note) → copies n (slice_set us s ns) ≤ copies n (slice_set us s (m ∷ ns))
less-set n m (u ∷ us) (suc s) ns = let rest = less-set n m us s ns in omega arith
less-set n m _ _ ns = omega arith

pub told-left : (n : Note) (us : List (List Note)) (s : ℕ) (ns : List Note) (untold : List (List Note)) → s < length us → untold ≡ slice_set us s (n ∷ ns)
    → AreOnce (slice_set us s (n ∷ ns)) → without_note untold n ≡ slice_set us s ns
told-left n us s ns untold within is once = ap (λ u. without_note u n) is ∙ tell-one n us s ns within (once n)

pub once-left : (n : Note) (us : List (List Note)) (s : ℕ) (ns : List Note) → AreOnce (slice_set us s (n ∷ ns)) → AreOnce (slice_set us s ns)
once-left n us s ns once m = omega (arith, less-set m n us s ns, once m)

-- one told record
told-one : (w : WorkloadView) (e : ℕ) (p : ProcNo) (r : Readings) (us : List (List Note)) (n : Note) → without_note r.untold n ≡ us
    → overview (after_record w e p r (Told n)) ≡ (record (overview r) { untold = us; taken = taken_by (overview r).spaces n r.taken })
told-one w e p r us (Preempted a) is =
    let spaces = told-spaces w e p r (Preempted a) in
    λ i. record (overview r) { spaces = spaces i; untold = is i; taken = taken_by (overview r).spaces (Preempted a) r.taken }
told-one w e p r us (Unblocked a) is =
    let spaces = told-spaces w e p r (Unblocked a) in
    λ i. record (overview r) { spaces = spaces i; untold = is i; taken = taken_by (overview r).spaces (Unblocked a) r.taken }
told-one w e p r us _ is = λ i. record (overview r) { untold = is i }

-- all of a space's notices, in order
pub told-run : (w : WorkloadView) (e : ℕ) (p : ProcNo) (r : Readings) (us : List (List Note)) (s : ℕ) (ns : List Note) → s < length us
    → r.untold ≡ slice_set us s ns → AreOnce (slice_set us s ns)
    → overview (after_records w e p r (map Told ns)) ≡ (record (overview r) { untold = slice_set us s []; taken = taken_behind (overview r).spaces ns r.taken })
told-run w e p r us s [] within is once = λ i. record (overview r) { untold = is i }
told-run w e p r us s (n ∷ ns) within is once =
    let F : Overview → Overview = λ (v : Overview). record v { untold = slice_set us s []; taken = taken_behind v.spaces ns v.taken } in
    let left : without_note r.untold n ≡ slice_set us s ns = told-left n us s ns r.untold within is once in
    let next = after_record w e p r (Told n) in
    told-run w e p next us s ns within left (once-left n us s ns once)
    ∙ ap F (told-one w e p r (slice_set us s ns) n left)
