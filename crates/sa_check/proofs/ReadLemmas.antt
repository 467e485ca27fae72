-- A trace is judged while it is read.
use Rattle.std.proofs.Common.{◌≡◌, ◌≢◌, refl, sym, ◌∙◌, ap, subst, List, [], ◌∷◌, ◌++◌, Option, Result, Ok, Err}
use Rattle.std.specs.Prelude.{IsOk}
use Rattle.sa_base.specs.declared.record.Item.{Item}
use Rattle.sa_base.specs.declared.record.Record.{Record}
use Rattle.sa_base.specs.declared.refusal.Bad.{Bad}
use Rattle.sa_base.specs.declared.refusal.Unread.{Unread}
use Rattle.sa_base.specs.Items.{items_at}
use Rattle.sa_spaces.specs.Workload.{WorkloadView}
use Rattle.sa_laws.specs.declared.rule.Rule.{Rule}
use Rattle.sa_laws.specs.Event.{events_of}
use Rattle.sa_laws.specs.Ends.{LastLine}
use Rattle.sa_laws.specs.Readings.{Readings, opening_readings}
use Rattle.sa_laws.specs.Rules.{Breaks}
use Rattle.sa_trace.specs.declared.line.Said.{Said}
use Rattle.sa_trace.specs.declared.line.Said.TheVariants.{Next, Last}
use Rattle.sa_trace.specs.Reading.{Told, told}
use Rattle.sa_trace.specs.Reader.{in_front, with_said}
use Rattle.sa_base.specs.declared.package.RulesName.{RulesName}
use Rattle.sa_ranks.specs.Packages.{rules_named}
use Rattle.sa_check_moment.specs.Seen.{Seen, event}
use Rattle.sa_check.specs.declared.verdict.Verdict.{Verdict}
use Rattle.sa_check.specs.declared.verdict.Verdict.TheVariants.{Broken}
use Rattle.sa_check.specs.Gathered.{IsOther, line_said, HasGathered, Gathers}
use Rattle.sa_check.specs.Judged.{IsRightAt}
use Rattle.sa_check.specs.Verdict.{last_line, IsVerdict, IsExact, IsChecked, unless_bad}
use Rattle.sa_check.proofs.EventLemmas.{front-event, some-event, no-line}
use Rattle.sa_check.proofs.VerdictLemmas.{legal-exact, broken-exact}
use Rattle.sa_check.proofs.WalkLemmas.{IsVerdictFrom, goes-on, stops-at, verdict-from}

module _ (level : RulesName) where
  -- what comes of a text, of which the rest from here, before which this was read, is read as this: it is refused, or has this verdict
  abbrev pub Comes : WorkloadView → Readings → Result Told Bad → Result Verdict Bad → Type 0
  Comes w r (Ok t) a = (v : Verdict) × (a ≡ Ok v) × IsVerdictFrom level w r (events_of t.items) (last_line t) v
  Comes w r (Err bad) a = a ≡ Err bad

  -- items in front of a bad reading
  front-bad : (items : List Item) (rest : Result Told Bad) (bad : Bad) → rest ≡ Err bad → in_front items rest ≡ Err bad
  front-bad items rest bad is = ap (in_front items) is

  -- the event that was gathered is right, so what comes of the rest comes of the whole
  behind-right : (w : WorkloadView) (m next : Seen) (first : Item) (records : List Record) (said : Said) (rest : Result Told Bad)
      (last : Option LastLine) (a : Result Verdict Bad)
      → records ≢ [] → IsOther first said → m.rules ≡ level → m.workload ≡ w → last ≡ line_said said → IsRightAt m (event first.event first.proc records) last next
      → Comes w next.readings (with_said said rest) a
      → Comes w m.readings (in_front (items_at first.event first.proc records) (with_said said rest)) a
  behind-right w m next first records (Last end events) rest last a some other of same ends right comes =
      let items = items_at first.event first.proc records in (
        comes.0,
        comes.1,
        goes-on level w m next (events_of (items ++ [])) [] (event first.event first.proc records) (record { end = end; events = events }) last comes.0
            (front-event first records [] some tt) of same ends right comes.2,
      )
  behind-right w m next first records (Next item) (Ok t) last a some other of same ends right comes =
      let items = items_at first.event first.proc records in (
        comes.0,
        comes.1,
        goes-on level w m next (events_of (items ++ item ∷ t.items)) (events_of (item ∷ t.items)) (event first.event first.proc records) (last_line t) last comes.0
            (front-event first records (item ∷ t.items) some other) of same
            (ends ∙ no-line (events_of (item ∷ t.items)) (last_line t) (some-event (item ∷ t.items) item t.items refl)) right comes.2,
      )
  behind-right w m next first records (Next item) (Err bad) last a some other of same ends right comes = comes

  pub right-event : (w : WorkloadView) (m next : Seen) (first : Item) (before after : Result Told Bad) (records : List Record) (said : Said)
      (last : Option LastLine) (a : Result Verdict Bad)
      → HasGathered first before after records said → m.rules ≡ level → m.workload ≡ w → last ≡ line_said said → IsRightAt m (event first.event first.proc records) last next
      → Comes w next.readings (with_said said after) a → Comes w m.readings (with_said (Next first) before) a
  right-event w m next first before after records said last a has of same ends right comes =
      subst (λ (rest : Result Told Bad). Comes w m.readings rest a) (sym has.cut)
      (behind-right w m next first records said after last a has.some has.other of same ends right comes)

  -- the event that was gathered breaks a rule, so where no line after it is bad, this comes of the whole
  at-break : (w : WorkloadView) (m : Seen) (first : Item) (records : List Record) (said : Said) (rest : Result Told Bad) (last : Option LastLine) (rule : Rule)
      → records ≢ [] → IsOther first said → m.rules ≡ level → m.workload ≡ w → last ≡ line_said said
      → Breaks (rules_named m.rules) m.workload m.readings (event first.event first.proc records) last rule → IsOk (with_said said rest)
      → Comes w m.readings (in_front (items_at first.event first.proc records) (with_said said rest)) (Ok (Broken first.event rule))
  at-break w m first records (Last end events) rest last rule some other of same ends breaks ok =
      let items = items_at first.event first.proc records in (
        Broken first.event rule,
        refl,
        stops-at level w m (events_of (items ++ [])) [] (event first.event first.proc records) (record { end = end; events = events }) last rule
            (front-event first records [] some tt) of same ends breaks,
      )
  at-break w m first records (Next item) (Ok t) last rule some other of same ends breaks ok =
      let items = items_at first.event first.proc records in (
        Broken first.event rule,
        refl,
        stops-at level w m (events_of (items ++ item ∷ t.items)) (events_of (item ∷ t.items)) (event first.event first.proc records) (last_line t) last rule
            (front-event first records (item ∷ t.items) some other) of same
            (ends ∙ no-line (events_of (item ∷ t.items)) (last_line t) (some-event (item ∷ t.items) item t.items refl)) breaks,
      )
  at-break w m first records (Next item) (Err bad) last rule some other of same ends breaks ok = absurd cc

  pub broken-event : (w : WorkloadView) (m : Seen) (first : Item) (before after : Result Told Bad) (records : List Record) (said : Said)
      (last : Option LastLine) (rule : Rule)
      → HasGathered first before after records said → m.rules ≡ level → m.workload ≡ w → last ≡ line_said said
      → Breaks (rules_named m.rules) m.workload m.readings (event first.event first.proc records) last rule → IsOk (with_said said after)
      → Comes w m.readings (with_said (Next first) before) (Ok (Broken first.event rule))
  broken-event w m first before after records said last rule has of same ends breaks ok =
      subst (λ (rest : Result Told Bad). Comes w m.readings rest (Ok (Broken first.event rule))) (sym has.cut)
      (at-break w m first records said after last rule has.some has.other of same ends breaks ok)

  -- a line is bad while the records of an event are gathered, or after them
  bad-comes : (w : WorkloadView) (r : Readings) (rest : Result Told Bad) (bad : Bad) → rest ≡ Err bad → Comes w r rest (Err bad)
  bad-comes w r rest bad is = subst (λ (one : Result Told Bad). Comes w r one (Err bad)) (sym is) refl

  pub bad-event : (w : WorkloadView) (r : Readings) (first : Item) (before after : Result Told Bad) (records : List Record) (said : Said) (bad : Bad)
      → HasGathered first before after records said → with_said said after ≡ Err bad → Comes w r (with_said (Next first) before) (Err bad)
  bad-event w r first before after records said bad has is =
      bad-comes w r (with_said (Next first) before) bad (has.cut ∙ front-bad (items_at first.event first.proc records) (with_said said after) bad is)

  -- what comes of a text is what is promised
  refused : (w : WorkloadView) (r : Readings) (reading : Result Told Bad) (bad : Bad) → Comes w r reading (Err bad) → reading ≡ Err bad
  refused w r (Ok t) bad comes = let is = comes.1 in absurd cc
  refused w r (Err b) bad comes = cc

  pub judged : (w : WorkloadView) (first : Item) (rest : Result Told Bad) (v : Verdict) → Comes w (opening_readings w) (in_front (first ∷ []) rest) (Ok v)
      → IsExact (rules_named level) w (in_front (first ∷ []) rest) v
  judged w first (Ok t) v comes =
      let same : comes.0 ≡ v = let is = comes.1 in cc in
      let items : List Item = first ∷ t.items in
      let is : IsVerdict (rules_named level) w items (last_line t) v =
      subst (λ (one : Verdict). IsVerdict (rules_named level) w items (last_line t) one) same
      (verdict-from level w items (last_line t) comes.0 (some-event items first t.items refl) comes.2) in
      record {
        trace = told items t.end t.events;
        read = refl;
        legal = legal-exact (rules_named level) w items (last_line t) v is;
        broken = broken-exact (rules_named level) w items (last_line t) v is;
      }
  judged w first (Err bad) v comes = absurd cc

  -- what comes of a text in which a line is bad while the records of an event are gathered
  pub bad-ahead : (w : WorkloadView) (r : Readings) (first : Item) (before after whole : Result Told Bad) (records : List Record) (e : Unread)
      → Gathers first before after records (Err e)
      → ((a : Result Verdict Bad) → Comes w r (with_said (Next first) before) a → Comes w (opening_readings w) whole a)
      → IsChecked (rules_named level) w whole (Err e)
  bad-ahead w r first before after whole records (Unread.Bad bad) is rest =
      refused w (opening_readings w) whole bad (rest (Err bad) (bad-comes w r (with_said (Next first) before) bad (front-bad (first ∷ []) before bad is)))
  bad-ahead w r first before after whole records Unread.OutOfMemory is rest = tt

  -- what comes of a text in which the event that was gathered breaks a rule, and of which all lines after it were read
  pub break-found : (w : WorkloadView) (r : Readings) (here behind : Result Told Bad) (first : Item) (left : Result Told Bad) (v : Verdict)
      → (IsOk behind → Comes w r here (Ok v)) → ((bad : Bad) → behind ≡ Err bad → Comes w r here (Err bad))
      → ((a : Result Verdict Bad) → Comes w r here a → Comes w (opening_readings w) (in_front (first ∷ []) left) a)
      → IsChecked (rules_named level) w (in_front (first ∷ []) left) (unless_bad behind (Ok v))
  break-found w r here (Ok t) first left v good wrong rest = judged w first left v (rest (Ok v) (good refl))
  break-found w r here (Err bad) first left v good wrong rest = refused w (opening_readings w) (in_front (first ∷ []) left) bad (rest (Err bad) (wrong bad refl))

  -- what comes of a text of which the event that was gathered could not be judged
  pub none-found : (w : WorkloadView) (r : Readings) (here behind whole : Result Told Bad)
      → ((bad : Bad) → behind ≡ Err bad → Comes w r here (Err bad))
      → ((a : Result Verdict Bad) → Comes w r here a → Comes w (opening_readings w) whole a)
      → IsChecked (rules_named level) w whole (unless_bad behind (Err Unread.OutOfMemory))
  none-found w r here (Ok t) whole wrong rest = tt
  none-found w r here (Err bad) whole wrong rest = refused w (opening_readings w) whole bad (rest (Err bad) (wrong bad refl))
