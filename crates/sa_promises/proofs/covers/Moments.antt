-- At each moment after the opening of a legal run, the demand of a space covers its load, or a life of it is in, or something is untold to it.
use Rattle.std.proofs.Common.{◌≡◌, ℕ, zero, suc, ◌+◌, ◌<◌, ◌≤◌, ◌⊎◌, inl, inr, refl, sym, ◌∙◌, ap, subst, arith, Some, None, List, [], ◌∷◌, ◌++◌, length, map, take}
use Rattle.std.specs.Prelude.{Option, min, get_or, slice_set, slice_get, sum_by}
use Rattle.std.specs.List.{range_with_len}
use Rattle.std.proofs.lemmas.Bool.{cases_eq}
use Rattle.std.proofs.lemmas.List.{get_or-set_same, length-set}
use Rattle.std.proofs.lemmas.Option.{none-some}
use Rattle.sa_base.specs.declared.number.SpaceNo.{SpaceNo}
use Rattle.sa_base.specs.declared.number.ProcNo.{ProcNo}
use Rattle.sa_base.specs.declared.record.Record.{Record}
use Rattle.sa_base.specs.declared.record.Record.TheVariants.{Want, Aim, Line}
use Rattle.sa_base.specs.declared.record.Item.{Item}
use Rattle.sa_lemmas.proofs.Membership.{contains-nil}
use Rattle.sa_spaces.specs.Space.{SpaceView}
use Rattle.sa_spaces.specs.Workload.{WorkloadView}
use Rattle.sa_assign.specs.Aims.{Change, space_no}
use Rattle.sa_assign.specs.Reaim.{records_of, line_at, lines_with, line_records, proc_no}
use Rattle.sa_laws.specs.Event.{Event, events_of}
use Rattle.sa_laws.specs.State.{space_at, active_threads, opening_space, no_threads}
use Rattle.sa_laws.specs.Readings.{Readings, opening_readings, demand_of, untold_thread, load_of, usable}
use Rattle.sa_laws.specs.Record.{after_record}
use Rattle.sa_laws.specs.History.{event_begun, behind_all, after_records, after_event, after_events}
use Rattle.sa_laws.specs.Closing.{want_one, aims_due, spaces_of}
use Rattle.sa_laws.specs.Opening.{first_wants, opening_records}
use Rattle.sa_laws.specs.Rules.{UserRules, IsLawful}
use Rattle.sa_promises.specs.Needs.{AnnouncesDemand}
use Rattle.sa_histories.specs.Lawful.{AreLawful}
use Rattle.sa_laws.specs.Legal.{IsLegal}
use Rattle.sa_laws.proofs.Records.{records-append}
use Rattle.sa_histories.proofs.Traces.{legal-lawful}
use Rattle.sa_promises.proofs.lives.Standing.{Standing, standing_after}
use Rattle.sa_promises.proofs.lives.Moves.{lawful-moves, stood, nowhere_first}
use Rattle.sa_promises.specs.Demands.{DemandCoversLoad, DemandsCoverLoads}
use Rattle.sa_promises.proofs.read.Ends.{IsSaidAt, said-next}
use Rattle.sa_promises.proofs.read.Moments.{after-start}
use Rattle.sa_promises.proofs.covers.Apart.{IsApart, apart-step, apart-start, apart-begun, apart-ended}
use Rattle.sa_promises.proofs.covers.Passed.{Goes}
use Rattle.sa_promises.proofs.covers.Fine.{Fine}
use Rattle.sa_promises.proofs.covers.Events.{IsCovered, event-fine}

-- no note is untold to two spaces, from event to event
pub record StaysApart (r : Readings) : Type 0 where
  pub st : ℕ → Standing
  pub apart : IsApart st r []

apart-all : (w : WorkloadView) (e : ℕ) (p : ProcNo) (st : ℕ → Standing) (r : Readings) (xs : List Record) → IsApart st r xs → Goes w e p r xs
    → StaysApart (after_records w e p r xs)
apart-all w e p st r [] apart goes = record { st = st; apart = apart }
apart-all w e p st r (x ∷ xs) apart goes =
    let was = stood w p st r x xs apart.agrees goes.moves.0 in
    apart-all w e p (standing_after p st x) (after_record w e p r x) xs (apart-step w e p st r x xs apart was goes.moves.0 goes.tells.0)
    (record { moves = goes.moves.1; tells = goes.tells.1; steps = goes.steps.1 })

apart-next : (rules : UserRules) → AnnouncesDemand rules → (w : WorkloadView) (r : Readings) (e : Event) → StaysApart r → IsLawful rules w r e
    → StaysApart (after_event rules.inside w r e)
apart-next rules meets w r e known law =
    let all = apart-all w e.number e.proc known.st (event_begun w e r) e.records (apart-begun w known.st r e e.records known.apart)
    (record { moves = lawful-moves rules meets.forms.tells w r e law; tells = law.all_told.told; steps = law.stepwise.steps }) in
    record { st = all.st; apart = apart-ended rules.inside w all.st r e (behind_all w e r) all.apart }

stays-start : (w : WorkloadView) → StaysApart (opening_readings w)
stays-start w = record { st = nowhere_first; apart = apart-start w }

-- the opening: one thread is ready in each space, and each space wants one processor
abbrev AllAims : List Record → Type 0
AllAims [] = Unit {0}
AllAims (Aim q s ∷ xs) = AllAims xs
AllAims (Line q ∷ xs) = AllAims xs
AllAims (x ∷ xs) = ⊥

aims-append : (xs ys : List Record) → AllAims xs → AllAims ys → AllAims (xs ++ ys)
aims-append [] ys left right = right
aims-append (Aim q s ∷ xs) ys left right = aims-append xs ys left right
aims-append (Line q ∷ xs) ys left right = aims-append xs ys left right
aims-append (x ∷ xs) ys left right = absurd left

aims-line : (p : ℕ) (line : Option ℕ) → AllAims (line_records p line)
aims-line p None = tt
aims-line p (Some e) = tt

aims-of : (e : ℕ) (lines : List (Option ℕ)) (cs : List Change) → AllAims (records_of e lines cs)
aims-of e lines [] = tt
aims-of e lines (c ∷ cs) =
    aims-append (line_records c.proc (line_at lines c.proc)) (records_of e (lines_with e lines c) cs) (aims-line c.proc (line_at lines c.proc))
    (aims-of e (lines_with e lines c) cs)

pub record SameWants (r c : Readings) : Type 0 where
  pub demands : c.demands ≡ r.demands
  pub state : c.state ≡ r.state

aims-same : (w : WorkloadView) (e : ℕ) (p : ProcNo) (r : Readings) (xs : List Record) → AllAims xs → SameWants r (after_records w e p r xs)
aims-same w e p r [] all = record { demands = refl; state = refl }
aims-same w e p r (Aim q s ∷ xs) all =
    let more = aims-same w e p (after_record w e p r (Aim q s)) xs all in record { demands = more.demands; state = more.state }
aims-same w e p r (Line q ∷ xs) all = let more = aims-same w e p (after_record w e p r (Line q)) xs all in record { demands = more.demands; state = more.state }
aims-same w e p r (x ∷ xs) all = absurd all

wants-state : (w : WorkloadView) (e : ℕ) (p : ProcNo) (r : Readings) (spaces : List SpaceNo) → (after_records w e p r (map want_one spaces)).state ≡ r.state
wants-state w e p r [] = refl
wants-state w e p r (s ∷ spaces) = wants-state w e p (after_record w e p r (Want s 1)) spaces

still-one : (ds : List ℕ) (i j : ℕ) → 1 ≤ get_or ds j 0 → 1 ≤ get_or (slice_set ds i 1) j 0
still-one (d ∷ ds) zero zero some = omega arith
still-one (d ∷ ds) (suc i) (suc j) some = still-one ds i j some
still-one _ _ _ some = some

wants-demand : (w : WorkloadView) (e : ℕ) (p : ProcNo) (k m : ℕ) (r : Readings) (s : SpaceNo) → s.0 < length r.demands
    → ((k ≤ s.0) × (s.0 < k + m)) ⊎ (1 ≤ demand_of r s)
    → 1 ≤ demand_of (after_records w e p r (map want_one (map space_no (range_with_len k m)))) s
wants-demand w e p k zero r s long (inl due) = absurd (let a = due.0 in let b = due.1 in omega arith)
wants-demand w e p k zero r s long (inr some) = some
wants-demand w e p k (suc m) r s long state =
    wants-demand w e p (k + 1) m (after_record w e p r (Want (space_no k) 1)) s (let len = length-set r.demands k 1 in omega arith) (next state)
  where
    next : ((k ≤ s.0) × (s.0 < k + suc m)) ⊎ (1 ≤ demand_of r s) → ((k + 1 ≤ s.0) × (s.0 < k + 1 + m)) ⊎ (1 ≤ get_or (slice_set r.demands k 1) s.0 0)
    next (inl due) = elim (cases_eq s.0 k) [
      | inl same ↦
          inr (let there = ap (λ n. get_or (slice_set r.demands n 1) s.0 0) (sym same) ∙ get_or-set_same r.demands s.0 1 0 long in omega (arith, there))
      | inr apart ↦ inl ((let a = due.0 in omega (arith, apart, a)), (let b = due.1 in omega arith))
    ]
    next (inr some) = inr (still-one r.demands k s.0 some)

one-active : (def : SpaceView) → active_threads (opening_space def) ≡ 1
one-active def = refl

open-active : (defs : List SpaceView) (k : ℕ)
    → active_threads (get_or (map opening_space defs) k no_threads) ≤ 1
open-active [] k = omega arith
open-active (def ∷ defs) zero = let one = one-active def in omega (arith, one)
open-active (def ∷ defs) (suc k) = open-active defs k

min-one : (p a d : ℕ) → a ≤ 1 → 1 ≤ d → min p a ≤ d
min-one p a d low some = omega (arith, low, some)

first-fine : (rules : UserRules) → AnnouncesDemand rules → (w : WorkloadView) (e : Event) → IsLawful rules w (opening_readings w) e → (s : SpaceNo)
    → s.0 < length w.spaces
    → Fine w (after_event rules.inside w (opening_readings w) e) (after_event rules.inside w (opening_readings w) e).lives s
first-fine rules meets w e law s within =
    let wanting = after_records w 0 (proc_no 0) (opening_readings w) (first_wants w) in
    let records : e.records ≡ opening_records w = ap (λ (f : Event). f.records) (law.numbered.opening law.numbered.number) in
    let long : length (event_begun w e (opening_readings w)).demands ≡ length w.spaces = Rattle.std.proofs.lemmas.List.length-replicate (length w.spaces) 0 in
    let wants = wants-demand w e.number e.proc 0 (length w.spaces) (event_begun w e (opening_readings w)) s (omega arith) (inl (omega arith, omega arith)) in
    let same = aims-same w e.number e.proc (after_records w e.number e.proc (event_begun w e (opening_readings w)) (first_wants w))
    (records_of 0 wanting.lines (aims_due w 0 wanting)) (aims-of 0 wanting.lines (aims_due w 0 wanting)) in
    let whole : behind_all w e (opening_readings w) ≡ after_records w e.number e.proc
    (after_records w e.number e.proc (event_begun w e (opening_readings w)) (first_wants w)) (records_of 0 wanting.lines (aims_due w 0 wanting)) =
    ap (after_records w e.number e.proc (event_begun w e (opening_readings w))) records
    ∙ records-append w e.number e.proc (event_begun w e (opening_readings w)) (first_wants w) (records_of 0 wanting.lines (aims_due w 0 wanting)) in
    let demand : 1 ≤ demand_of (behind_all w e (opening_readings w)) s =
    subst (λ (ds : List ℕ). 1 ≤ get_or ds s.0 0) (sym (ap (λ (k : Readings). k.demands) whole ∙ same.demands)) wants in
    let state : (behind_all w e (opening_readings w)).state ≡ (opening_readings w).state =
    ap (λ (k : Readings). k.state) whole ∙ same.state ∙ wants-state w e.number e.proc (event_begun w e (opening_readings w)) (spaces_of w) in
    let active : active_threads (space_at (behind_all w e (opening_readings w)).state s) ≤ 1 =
    subst (λ a. active_threads (space_at a s) ≤ 1) (sym state) (open-active w.spaces s.0) in
    inr
    (inr (min-one w.processors (active_threads (space_at (behind_all w e (opening_readings w)).state s))
    (demand_of (behind_all w e (opening_readings w)) s) active demand))

-- at each moment after the opening
abbrev FineAll : WorkloadView → Readings → Type 0
FineAll w r = (s : SpaceNo) → s.0 < length w.spaces → Fine w r r.lives s

fine-along : (rules : UserRules) → AnnouncesDemand rules → (w : WorkloadView) (es : List Event) (r : Readings) (events : List Event)
    → IsSaidAt rules.inside w es r → StaysApart r → 1 ≤ r.number → FineAll w r
    → AreLawful rules w r events → (n : ℕ)
    → FineAll w (after_events rules.inside w r (take n events))
fine-along rules meets w es r [] read apart later fine law zero = fine
fine-along rules meets w es r [] read apart later fine law (suc n) = fine
fine-along rules meets w es r (e ∷ events) read apart later fine law zero = fine
fine-along rules meets w es r (e ∷ events) read apart later fine law (suc n) =
    let known : IsCovered w r = record { st = apart.st; apart = apart.apart; owned = read.owned; sized = read.at.read.sized } in
    let from : 1 ≤ e.number = (let same = law.0.numbered.number in omega arith) in
    fine-along rules meets w (es ++ e ∷ []) (after_event rules.inside w r e) events (said-next rules meets.forms w es r e read law.0) (apart-next rules meets w r e apart law.0)
    (let next = Rattle.sa_histories.proofs.Numbers.number-next rules w r e in omega arith)
    (λ s within. event-fine rules meets w r e known law.0 from s within (fine s within)) law.1 n

fine-at : (rules : UserRules) → AnnouncesDemand rules → (w : WorkloadView) (events : List Event) → AreLawful rules w (opening_readings w) events
    → (n : ℕ) (e : Event) → slice_get events n ≡ Some e
    → FineAll w (after_events rules.inside w (opening_readings w) (take (suc n) events))
fine-at rules meets w [] law n e at = absurd (none-some e at)
fine-at rules meets w (x ∷ xs) law n e at =
    fine-along rules meets w ([] ++ x ∷ []) (after_event rules.inside w (opening_readings w) x) xs (said-next rules meets.forms w [] (opening_readings w) x (after-start rules.inside w) law.0)
    (apart-next rules meets w (opening_readings w) x (stays-start w) law.0)
    (let next = Rattle.sa_histories.proofs.Numbers.number-next rules w (opening_readings w) x in omega arith)
    (first-fine rules meets w x law.0) law.1 n

covers-load : (w : WorkloadView) (r : Readings) → FineAll w r → DemandCoversLoad w r
covers-load w r fine s within none untold = one (fine s within) where
  load : load_of r s ≡ active_threads (space_at r.state s)
  load =
      ap (λ ns. active_threads (space_at r.state s) + sum_by (untold_thread r) ns) untold
      ∙ (let zero_sum : active_threads (space_at r.state s) + 0 ≡ active_threads (space_at r.state s) = omega arith in zero_sum)

  one : Fine w r r.lives s → usable w r s ≤ demand_of r s
  one (inl (a, life, is, of, inside, each)) = absurd (let clash = sym inside ∙ none (record { 0 = a }) life is of in cc)
  one (inr (inl noted)) = absurd (contains-nil noted.0 (subst (λ ns. Rattle.std.specs.Prelude.Contains ns noted.0) untold noted.2))
  one (inr (inr covers)) = subst (λ n. min w.processors n ≤ demand_of r s) (sym load) covers

pub demands-cover-loads : (rules : UserRules) → AnnouncesDemand rules → (w : WorkloadView) (items : List Item) → IsLegal rules w items
    → DemandsCoverLoads rules w items
demands-cover-loads rules meets w items legal n e at =
    subst (λ k. DemandCoversLoad w (after_events rules.inside w (opening_readings w) (take k (events_of items)))) (let k : suc n ≡ n + 1 = omega arith in k)
    (covers-load w (after_events rules.inside w (opening_readings w) (take (suc n) (events_of items)))
    (fine-at rules meets w (events_of items) (legal-lawful rules w items legal) n e at))
