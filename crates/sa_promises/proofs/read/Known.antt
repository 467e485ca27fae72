-- What is known of each record of a lawful event.
use Rattle.std.proofs.Common.{◌≡◌, ℕ, zero, suc, ◌+◌, ◌<◌, ◌≤◌, inl, inr, refl, sym, ◌∙◌, ap, subst, arith, Some, None, List, [], ◌∷◌, ◌++◌, length, map, true, false}
use Rattle.std.specs.Prelude.{Option, Bool, is_some, nat_lt, take_while}
use Rattle.std.specs.List.{sum_by, range_with_len}
use Rattle.std.proofs.lemmas.Bool.{cases_lt}
use Rattle.std.proofs.lemmas.List.{get_or_past}
use Rattle.std.proofs.lemmas.Option.{none-some}
use Rattle.sa_base.specs.declared.number.SpaceNo.{SpaceNo}
use Rattle.sa_base.specs.declared.number.ProcNo.{ProcNo}
use Rattle.sa_base.specs.declared.number.ActNo.{ActNo}
use Rattle.sa_base.specs.declared.record.Record.{Record}
use Rattle.sa_base.specs.declared.record.Record.TheVariants.{Want}
use Rattle.sa_spaces.specs.Workload.{WorkloadView}
use Rattle.sa_devices.specs.declared.kind.IoKind.{IoKind}
use Rattle.sa_devices.specs.declared.kind.IoKind.TheVariants.{Plain, Page, Upcall}
use Rattle.sa_devices.specs.Ios.{Io, due_of}
use Rattle.sa_assign.specs.Aims.{Change, space_no}
use Rattle.sa_assign.specs.Reaim.{records_of, proc_no}
use Rattle.sa_laws.specs.Event.{Event}
use Rattle.sa_laws.specs.Life.{Life}
use Rattle.sa_laws.specs.Readings.{Readings, opening_readings, demand_of, load_of, untold_of, untold_thread, owner_of, aim_of, running_of, life_on, line_of}
use Rattle.sa_laws.specs.Record.{after_record}
use Rattle.sa_laws.specs.History.{event_begun, after_records}
use Rattle.sa_laws.specs.Shape.{own_part, is_own}
use Rattle.sa_laws.specs.Turns.{IsTurn, IsTurnWhileDue, IsTickOrStep, IsOver}
use Rattle.sa_laws.specs.Upcalls.{EachRecord, RaisesLine}
use Rattle.sa_laws.specs.Closing.{want_one, aims_due}
use Rattle.sa_laws.specs.Opening.{first_wants}
use Rattle.sa_laws.specs.Rules.{UserRules, IsLawful}
use Rattle.sa_promises.specs.Needs.{Hints, FormedIn, IsFormed, OwnTakes, HasForms}
use Rattle.sa_promises.proofs.lives.Shapes.{Moves}
use Rattle.sa_promises.proofs.lives.Moves.{lawful-moves}
use Rattle.sa_promises.proofs.read.Records.{WantKnown}
use Rattle.sa_promises.proofs.read.Items.{Known}
use Rattle.sa_promises.proofs.read.Spaces.{AllRanged, event-ranged}
use Rattle.sa_histories.proofs.Sizes.{IsSized}

-- a space that the workload does not have has no demand and no load
no-demand : (w : WorkloadView) (r : Readings) (s : SpaceNo) → IsSized w r → length w.spaces ≤ s.0 → demand_of r s ≡ 0
no-demand w r s sized past = let len = sized.demands in get_or_past r.demands s.0 0 (omega arith)

no-load : (w : WorkloadView) (r : Readings) (s : SpaceNo) → IsSized w r → length w.spaces ≤ s.0 → load_of r s ≡ 0
no-load w r s sized past =
    let spaces = sized.spaces in
    let untold = sized.untold in
    ap (λ x. Rattle.sa_laws.specs.State.active_threads x + sum_by (untold_thread r) (untold_of r s)) (get_or_past r.state.spaces s.0 _ (omega arith))
    ∙ ap (λ ns. 0 + sum_by (untold_thread r) ns) (get_or_past r.untold s.0 [] (omega arith))

-- so nobody hints for it
hint-within : (w : WorkloadView) (r : Readings) (s : SpaceNo) (n : ℕ) (life : Life) (lower : Bool) → IsSized w r → s ≡ life.space → Hints lower w r life n
    → s.0 < length w.spaces
hint-within w r s n life lower sized same can = elim (cases_lt s.0 (length w.spaces)) [
  | inl below ↦ below
  | inr past ↦ absurd (none lower can past)
] where
  none : (b : Bool) → Hints b w r life n → length w.spaces ≤ s.0 → ⊥
  none true lowers past =
      let above = lowers.above in
      let zero_demand = ap (demand_of r) (sym same) ∙ no-demand w r s sized past in
      omega arith
  none false raises past =
      let below = raises in
      let zero_load = ap (load_of r) (sym same) ∙ no-load w r s sized past in
      omega arith

want-step : (w : WorkloadView) (r : Readings) (p : ProcNo) (a : Option ActNo) (life : Option Life) (s : SpaceNo) (n : ℕ) (others : List Record) → IsSized w r
    → FormedIn w r p a life (Want s n ∷ others) → s.0 < length w.spaces
want-step w r p (Some a) (Some life) s n others sized is = hint-within w r s n life (nat_lt n (demand_of r s)) sized is.1 is.2
want-step w r p (Some a) None s n others sized is = absurd is
want-step w r p None life s n others sized is = absurd is

want-turn : (w : WorkloadView) (r : Readings) (p : ProcNo) (e : ℕ) (raised : Bool) (s : SpaceNo) (n : ℕ) (others : List Record) → IsSized w r
    → IsTurn IsFormed raised e w r p (Want s n ∷ others) → s.0 < length w.spaces
want-turn w r p e true s n others sized is = absurd is
want-turn w r p e false s n others sized is = due (due_of e r.under_way) is where
  owned : (o : Option SpaceNo) → IsTickOrStep IsFormed o w r p (Want s n ∷ others) → s.0 < length w.spaces
  owned None tick = absurd (cc)
  owned (Some t) step = want-step w r p (running_of r p) (life_on r p) s n others sized step

  over : (kind : IoKind) → IsOver kind (Want s n ∷ others) → ⊥
  over (Plain t a) none = none
  over (Page t a k) none = none
  over (Upcall t) none = none

  due : (o : Option Io) → IsTurnWhileDue IsFormed o w r p (Want s n ∷ others) → s.0 < length w.spaces
  due None step = owned (owner_of r p) step
  due (Some io) (inl done) = absurd (over io.kind done)
  due (Some io) (inr local) = absurd local.0

-- the wants of the opening are of spaces of the workload
wants-first : (k m e : ℕ) (lines : List (Option ℕ)) (cs : List Change) (s : SpaceNo) (n : ℕ) (others : List Record)
    → Want s n ∷ others ≡ map want_one (map space_no (range_with_len k m)) ++ records_of e lines cs → s.0 < k + m
wants-first k zero e lines [] s n others is = absurd (cc)
wants-first k zero e lines (c ∷ cs) s n others is = absurd (cc)
wants-first k (suc m) e lines cs s n others is =
    let same : s ≡ space_no k = cc in
    let number = ap (λ (t : SpaceNo). t.0) same in omega arith

pub first-want : (rules : UserRules) → HasForms rules → (w : WorkloadView) (r : Readings) (e : Event) (s : SpaceNo) (n : ℕ) (others : List Record)
    → IsSized w (event_begun w e r)
    → IsLawful rules w r e
    → e.records ≡ Want s n ∷ others → s.0 < length w.spaces
first-want rules meets w r e s n others sized law is = one e.number refl where
  one : (k : ℕ) → e.number ≡ k → s.0 < length w.spaces
  one zero at =
      let same = ap (λ (f : Event). f.records) (law.numbered.opening at) in
      let wanting = after_records w 0 (proc_no 0) (opening_readings w) (first_wants w) in
      let below = wants-first 0 (length w.spaces) 0 wanting.lines (aims_due w 0 wanting) s n others (sym is ∙ same) in omega arith
  one (suc k) at =
      let later : 1 ≤ e.number = omega arith in
      let turns = meets.formed w r e law in
      want-turn w (event_begun w e r) e.proc e.number (is_some (line_of r e.proc)) s n (take_while is_own others) sized
      (subst (λ xs. IsTurn IsFormed (is_some (line_of r e.proc)) e.number w (event_begun w e r) e.proc (own_part xs)) is (turns.turn later))

-- each record
want-known : (w : WorkloadView) (r : Readings) (x : Record) → (r.last ≡ None → (s : SpaceNo) (n : ℕ) → x ≡ Want s n → s.0 < length w.spaces) → WantKnown w r x
want-known w r (Want s n) first = λ none. first none s n refl
want-known w r x first = tt

known-each : (w : WorkloadView) (e : ℕ) (p : ProcNo) (r : Readings) (xs : List Record) → p.0 < w.processors
    → (r.last ≡ None → (s : SpaceNo) (n : ℕ) (others : List Record) → xs ≡ Want s n ∷ others → s.0 < length w.spaces)
    → EachRecord (Moves w p) w e p r xs → EachRecord (OwnTakes p) w e p r xs → EachRecord RaisesLine w e p r xs → AllRanged (length w.spaces) xs
    → EachRecord (Known w p) w e p r xs
known-each w e p r [] within first moves takes raises ranged = tt
known-each w e p r (x ∷ xs) within first moves takes raises ranged = (
  record {
    moves = moves.0;
    takes = takes.0;
    within = within;
    raises = raises.0;
    ranged = ranged.0;
    want = want-known w r x (λ none s n is. first none s n xs (ap (λ y. y ∷ xs) is));
  },
  known-each w e p (after_record w e p r x) xs within (λ none. absurd (none-some x (sym none))) moves.1 takes.1 raises.1 ranged.1,
)

pub known-event : (rules : UserRules) → HasForms rules → (w : WorkloadView) (r : Readings) (e : Event) → IsSized w (event_begun w e r)
    → ((s : SpaceNo) → aim_of r e.proc ≡ Some s → s.0 < length w.spaces) → IsLawful rules w r e
    → EachRecord (Known w e.proc) w e.number e.proc (event_begun w e r) e.records
known-event rules meets w r e sized below law =
    known-each w e.number e.proc (event_begun w e r) e.records law.numbered.proc (λ none s n others is. first-want rules meets w r e s n others sized law is)
    (lawful-moves rules meets.tells w r e law) (meets.own w r e law) law.line_cause.heard (event-ranged rules meets w r e below sized law)
