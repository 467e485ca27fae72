-- A trace is judged event by event.
use Rattle.std.proofs.Common.{◌≡◌, ◌≢◌, ◌⊎◌, ℕ, ◌+◌, ◌<◌, refl, sym, ◌∙◌, ap, subst, inl, inr, arith, List, [], ◌∷◌, ◌++◌, length, take, append_assoc, length-append, Option, Some, None, false}
use Rattle.std.specs.Prelude.{slice_get, ◌==◌, if◌then◌else◌}
use Rattle.std.proofs.lemmas.Bool.{cases_eq, eq-eqb}
use Rattle.std.proofs.lemmas.Bool.Decides.{nat_tests}
use Rattle.std.proofs.lemmas.List.{append-nil}
use Rattle.std.proofs.lemmas.Option.{same_Some}
use Rattle.sa_lemmas.proofs.ListUpdates.{slice_get-append_seam}
use Rattle.sa_base.specs.declared.record.Item.{Item}
use Rattle.sa_spaces.specs.Workload.{WorkloadView}
use Rattle.sa_laws.specs.declared.rule.Rule.{Rule}
use Rattle.sa_laws.specs.Event.{Event, events_of}
use Rattle.sa_laws.specs.Readings.{Readings, opening_readings}
use Rattle.sa_laws.specs.History.{after_event, after_events}
use Rattle.sa_laws.specs.Ends.{LastLine}
use Rattle.sa_laws.specs.Rules.{HoldEach, Breaks, rules}
use Rattle.sa_laws.specs.Legal.{before, line_at, HoldsBefore, BreaksAt, FirstBreakIn}
use Rattle.sa_base.specs.declared.package.RulesName.{RulesName}
use Rattle.sa_ranks.specs.Packages.{rules_named}
use Rattle.sa_check_moment.specs.Seen.{Seen}
use Rattle.sa_histories.proofs.Appended.{events-append}
use Rattle.sa_check.specs.declared.verdict.Verdict.{Verdict}
use Rattle.sa_check.specs.declared.verdict.Verdict.TheVariants.{Legal, Broken}
use Rattle.sa_check.specs.Sides.{line_before}
use Rattle.sa_check.specs.Judged.{IsRightAt}
use Rattle.sa_check.specs.Verdict.{IsVerdict}

module _ (level : RulesName) where
  -- the verdict on the events from one on, before which this was read
  abbrev pub IsVerdictFrom : WorkloadView → Readings → List Event → LastLine → Verdict → Type 0
  IsVerdictFrom w r [] line v = v ≡ Legal
  IsVerdictFrom w r (e ∷ es) line v =
      (HoldEach (rules_named level) w rules r e (line_before es line) × IsVerdictFrom w (after_event (rules_named level).inside w r e) es line v)
      ⊎ ((rule : Rule) × Breaks (rules_named level) w r e (line_before es line) rule × (v ≡ Broken e.number rule))

  -- the verdict on all events
  abbrev IsVerdictOf : WorkloadView → List Event → LastLine → Verdict → Type 0
  IsVerdictOf w events line Legal = HoldsBefore (rules_named level) w events line (length events)
  IsVerdictOf w events line (Broken number rule) = BreaksAt (rules_named level) w events line number rule

  take-all-front : (xs ys : List Event) → take (length xs) (xs ++ ys) ≡ xs
  take-all-front [] ys = refl
  take-all-front (x ∷ xs) ys = ap (λ zs. x ∷ zs) (take-all-front xs ys)

  not-more : (n k : ℕ) → (n + 1 == n + (k + 2)) ≡ false
  not-more n k = grind (arith, nat_tests)

  -- the last line at an event after the first ones
  line-at : (done es : List Event) (e : Event) (line : LastLine) → line_at (done ++ e ∷ es) line (length done) ≡ line_before es line
  line-at done [] e line =
      ap (λ n. if length done + 1 == n then Some line else None) (length-append done (e ∷ []))
      ∙ ap (λ b. if b then Some line else None) (eq-eqb (length done + 1) (length done + 1) refl)
  line-at done (f ∷ fs) e line =
      let len : length (done ++ e ∷ f ∷ fs) ≡ length done + (length fs + 2) = omega (arith, length-append done (e ∷ f ∷ fs)) in
      ap (λ n. if length done + 1 == n then Some line else None) len
      ∙ ap (λ b. if b then Some line else None) (not-more (length done) (length fs))

  read-behind : (w : WorkloadView) (done es : List Event) → before (rules_named level) w (done ++ es) (length done) ≡ after_events (rules_named level).inside w (opening_readings w) done
  read-behind w done es = ap (after_events (rules_named level).inside w (opening_readings w)) (take-all-front done es)

  -- where the rules hold before an event and at it, they hold before the next
  hold-one : (w : WorkloadView) (done es : List Event) (e : Event) (line : LastLine) → HoldsBefore (rules_named level) w (done ++ e ∷ es) line (length done)
      → HoldEach (rules_named level) w rules (after_events (rules_named level).inside w (opening_readings w) done) e (line_before es line)
      → (k : ℕ) (f : Event) → k < length done + 1 → slice_get (done ++ e ∷ es) k ≡ Some f
      → HoldEach (rules_named level) w rules (before (rules_named level) w (done ++ e ∷ es) k) f (line_at (done ++ e ∷ es) line k)
  hold-one w done es e line held here k f below at = elim (cases_eq k (length done)) [
    | inl same ↦
        let one : e ≡ f = same_Some e f (sym (slice_get-append_seam done es e) ∙ ap (slice_get (done ++ e ∷ es)) (sym same) ∙ at) in
        let at_read : HoldEach (rules_named level) w rules (before (rules_named level) w (done ++ e ∷ es) (length done)) e (line_before es line) =
        subst (λ (r : Readings). HoldEach (rules_named level) w rules r e (line_before es line)) (sym (read-behind w done (e ∷ es))) here in
        let at_line : HoldEach (rules_named level) w rules (before (rules_named level) w (done ++ e ∷ es) (length done)) e (line_at (done ++ e ∷ es) line (length done)) =
        subst (λ (last : Option LastLine). HoldEach (rules_named level) w rules (before (rules_named level) w (done ++ e ∷ es) (length done)) e last)
        (sym (line-at done es e line)) at_read in
        let at_place : HoldEach (rules_named level) w rules (before (rules_named level) w (done ++ e ∷ es) k) e (line_at (done ++ e ∷ es) line k) =
        subst (λ n. HoldEach (rules_named level) w rules (before (rules_named level) w (done ++ e ∷ es) n) e (line_at (done ++ e ∷ es) line n)) (sym same) at_line in
        subst (λ (g : Event). HoldEach (rules_named level) w rules (before (rules_named level) w (done ++ e ∷ es) k) g (line_at (done ++ e ∷ es) line k)) one at_place
    | inr other ↦ held k f (omega arith) at
  ]

  walk : (w : WorkloadView) (done es : List Event) (line : LastLine) (v : Verdict) → HoldsBefore (rules_named level) w (done ++ es) line (length done)
      → IsVerdictFrom w (after_events (rules_named level).inside w (opening_readings w) done) es line v → IsVerdictOf w (done ++ es) line v
  walk w done [] line v held is =
      let whole : done ≡ done ++ [] = sym (append-nil done) in
      let len = ap length whole in
      subst (λ (x : Verdict). IsVerdictOf w (done ++ []) line x) (sym is) (λ k f below at. held k f (omega arith) at)
  walk w done (e ∷ es) line v held (inl goes) =
      let joined : (done ++ e ∷ []) ++ es ≡ done ++ e ∷ es = append_assoc done (e ∷ []) es in
      let len : length (done ++ e ∷ []) ≡ length done + 1 = length-append done (e ∷ []) in
      let more : HoldsBefore (rules_named level) w (done ++ e ∷ es) line (length done + 1) = hold-one w done es e line held goes.0 in
      let more' : HoldsBefore (rules_named level) w ((done ++ e ∷ []) ++ es) line (length (done ++ e ∷ [])) =
      subst (λ (events : List Event). HoldsBefore (rules_named level) w events line (length (done ++ e ∷ []))) (sym joined)
      (subst (λ n. HoldsBefore (rules_named level) w (done ++ e ∷ es) line n) (sym len) more) in
      let read : after_event (rules_named level).inside w (after_events (rules_named level).inside w (opening_readings w) done) e ≡ after_events (rules_named level).inside w (opening_readings w) (done ++ e ∷ []) =
      sym (events-append (rules_named level).inside w (opening_readings w) done (e ∷ [])) in
      subst (λ (events : List Event). IsVerdictOf w events line v) joined
      (walk w (done ++ e ∷ []) es line v more' (subst (λ (r : Readings). IsVerdictFrom w r es line v) read goes.1))
  walk w done (e ∷ es) line v held (inr stops) =
      let breaks : Breaks (rules_named level) w (before (rules_named level) w (done ++ e ∷ es) (length done)) e (line_at (done ++ e ∷ es) line (length done)) stops.0 =
      subst (λ (last : Option LastLine). Breaks (rules_named level) w (before (rules_named level) w (done ++ e ∷ es) (length done)) e last stops.0)
      (sym (line-at done es e line))
      (subst (λ (r : Readings). Breaks (rules_named level) w r e (line_before es line) stops.0) (sym (read-behind w done (e ∷ es))) stops.1) in
      subst (λ (x : Verdict). IsVerdictOf w (done ++ e ∷ es) line x) (sym stops.2) (record {
        place = length done;
        event = e;
        at = slice_get-append_seam done es e;
        numbered = refl;
        earlier = held;
        breaks = breaks;
      })

  pub verdict-from : (w : WorkloadView) (items : List Item) (line : LastLine) (v : Verdict) → events_of items ≢ []
      → IsVerdictFrom w (opening_readings w) (events_of items) line v → IsVerdict (rules_named level) w items line v
  verdict-from w items line v some is = by (events_of items) v refl (walk w [] (events_of items) line v (λ k f below at. absurd (omega arith)) is) where
    by : (events : List Event) (x : Verdict) → events_of items ≡ events → IsVerdictOf w (events_of items) line x → IsVerdict (rules_named level) w items line x
    by events Legal same holds = record { some = some; each = holds }
    by [] (Broken number rule) same holds = absurd (some same)
    by (e ∷ es) (Broken number rule) same holds =
        let there : FirstBreakIn (rules_named level) w (e ∷ es) line number rule =
        subst (λ (list : List Event). BreaksAt (rules_named level) w list line number rule) same holds in
        subst (λ (list : List Event). FirstBreakIn (rules_named level) w list line number rule) (sym same) there

  -- one event more: it is right, and the rest decides; or it breaks a rule
  pub goes-on : (w : WorkloadView) (m next : Seen) (events es : List Event) (e : Event) (line : LastLine) (last : Option LastLine) (v : Verdict)
      → events ≡ e ∷ es → m.rules ≡ level → m.workload ≡ w → last ≡ line_before es line → IsRightAt m e last next
      → IsVerdictFrom w next.readings es line v → IsVerdictFrom w m.readings events line v
  goes-on w m next events es e line last v is of same ends right rest =
      let held : HoldEach (rules_named level) w rules m.readings e (line_before es line) =
      subst (λ (l : Option LastLine). HoldEach (rules_named level) w rules m.readings e l) ends
      (subst (λ (u : WorkloadView). HoldEach (rules_named level) u rules m.readings e last) same
      (subst (λ (l : RulesName). HoldEach (rules_named l) m.workload rules m.readings e last) of right.holds)) in
      let read : next.readings ≡ after_event (rules_named level).inside w m.readings e =
      ap (λ (s : Seen). s.readings) right.next ∙ ap (λ (l : RulesName). after_event (rules_named l).inside m.workload m.readings e) of ∙ ap (λ (u : WorkloadView). after_event (rules_named level).inside u m.readings e) same in
      subst (λ (list : List Event). IsVerdictFrom w m.readings list line v) (sym is)
      (inl (held, subst (λ (r : Readings). IsVerdictFrom w r es line v) read rest))

  pub stops-at : (w : WorkloadView) (m : Seen) (events es : List Event) (e : Event) (line : LastLine) (last : Option LastLine) (rule : Rule)
      → events ≡ e ∷ es → m.rules ≡ level → m.workload ≡ w → last ≡ line_before es line → Breaks (rules_named m.rules) m.workload m.readings e last rule
      → IsVerdictFrom w m.readings events line (Broken e.number rule)
  stops-at w m events es e line last rule is of same ends breaks =
      let here : Breaks (rules_named level) w m.readings e (line_before es line) rule =
      subst (λ (l : Option LastLine). Breaks (rules_named level) w m.readings e l rule) ends
      (subst (λ (u : WorkloadView). Breaks (rules_named level) u m.readings e last rule) same
      (subst (λ (l : RulesName). Breaks (rules_named l) m.workload m.readings e last rule) of breaks)) in
      subst (λ (list : List Event). IsVerdictFrom w m.readings list line (Broken e.number rule)) (sym is) (inr (rule, here, refl))
