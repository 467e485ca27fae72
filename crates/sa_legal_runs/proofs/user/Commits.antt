-- Local instructions that are committed at once.
use Rattle.sa_legal_runs.proofs.matching.OwnRecords.{foreign-says, says-users, users-leave, closing-leave, users-no_up, users-no_stop, users-first, of-spaces, step-event_foreign}
use Rattle.sa_legal_runs.proofs.matching.Shown.{line-reads, lawful-by, rules-pass}
use Rattle.sa_legal_runs.proofs.frames.Idle.{no-stops, stops-first_both}
use Rattle.sa_core_model.proofs.Commits.{whole-slice}
use Rattle.std.proofs.Common.{map, replicate, ◌%◌, get_or, ◌≡◌, ◌≢◌, ℕ, zero, suc, ◌+◌, ◌<◌, ◌≤◌, arith, sym, ◌∙◌, ap, subst, refl, Bool, false, ◌&&◌, ◌||◌, Option, Some, None, is_some, List, [], ◌∷◌, ◌++◌, length, slice_set, All, inr, not, append_assoc}
use Rattle.std.proofs.lemmas.List.Folds.{list_all-append, list_any-append}
use Rattle.std.specs.List.{list_all, list_any}
use Rattle.std.proofs.Math.Path.{fun_ext}
use Rattle.std.proofs.lemmas.Option.{same_Some}
use Rattle.std.specs.Prelude.{◌==◌}
use Rattle.sa_base.specs.declared.number.ProcNo.{ProcNo}
use Rattle.sa_base.specs.declared.number.SpaceNo.{SpaceNo}
use Rattle.sa_base.specs.declared.number.ActNo.{ActNo}
use Rattle.sa_base.specs.declared.limits.TheConstants.{MAX_EVENTS}
use Rattle.sa_base.specs.declared.record.Record.{Record}
use Rattle.sa_base.specs.declared.record.Record.TheVariants.{Ins}
use Rattle.sa_base.specs.declared.record.Item.{Item}
use Rattle.sa_base.specs.declared.number.ThreadNo.{ThreadNo}
use Rattle.sa_base.specs.Items.{items_at, items_from}
use Rattle.sa_instr.specs.declared.instr.Instr.{Instr}
use Rattle.sa_lemmas.specs.Function.{put}
use Rattle.sa_spaces.specs.Space.{SpaceView}
use Rattle.sa_spaces.specs.Workload.{WorkloadView}
use Rattle.sa_abstract.specs.declared.answer.SeatState.{SeatState}
use Rattle.sa_abstract.specs.declared.answer.SeatState.TheVariants.{Local, Away}
use Rattle.sa_abstract.specs.Calls.{Contexts, Gone}
use Rattle.sa_abstract.specs.Keeps.{Keeps, IsOwn, StaysLocal, records_of}
use Rattle.sa_abstract.specs.Setting.{Setting}
use Rattle.sa_abstract.specs.Walk.{ins_records, Spot}
use Rattle.sa_acts.specs.declared.acts.Act.{Act}
use Rattle.sa_acts.specs.Table.{runs_in}
use Rattle.sa_assign.specs.Aims.{space_no}
use Rattle.sa_devices.specs.Ios.{Io, due_of}
use Rattle.sa_laws.specs.Turns.{IsTurnWhileDue, IsTickOrStep, IsTurn, IsLocalIns}
use Rattle.sa_laws.specs.Event.{Event}
use Rattle.sa_laws.specs.Readings.{Readings, running_of, line_of as line_in, owner_of as owner_in}
use Rattle.sa_laws.specs.History.{after_records, after_event, is_up}
use Rattle.sa_laws.specs.Step.{Needs}
use Rattle.sa_laws.proofs.Records.{records-append}
use Rattle.sa_kernel_laws.proofs.overview.Records.{users-records}
use Rattle.sa_kernel_model.specs.State.{line_of, owner_of, life_of, says}
use Rattle.sa_kernel_laws.specs.Overview.{Overview}
use Rattle.sa_kernel_laws.proofs.entries.Walks.{not-empty}
use Rattle.sa_core_model.specs.Machine.{Machine, seen_on}
use Rattle.sa_core_model.specs.Turn.{next_event, sliced, sliced_if, ends_slice, more_events, gone_in, committed}
use Rattle.sa_core_model.specs.Run.{setting, CanCommit}
use Rattle.sa_core_model.specs.Standing.{contexts_of, contexts_in, IsBetween}
use Rattle.sa_core_model.proofs.Phases.{at-owned}
use Rattle.sa_core_model.proofs.Calls.{runs-at}
use Rattle.sa_core_model.proofs.Running.{contexts-put, contexts-put_kept}
use Rattle.sa_core_model.proofs.Turns.{between-rests}
use Rattle.sa_core_model.proofs.Effects.{SameRuns}
use Rattle.sa_core_model.proofs.Runs.{gone-is, local-is, gone-law, rests-committed, can-go}
use Rattle.sa_user_laws.specs.Moments.{AlikeButDemands, SameFor, Alike}
use Rattle.sa_user_laws.specs.Scene.{event_begun_at}
use Rattle.sa_user_laws.specs.Steps.{IsClosed, event_with, AreLegalIns, IsLegalIns}
use Rattle.sa_user_laws.specs.Level.{UserLevel}
use Rattle.sa_legal_runs.proofs.user.GoingOn.{GoOn, go-on-cons, running-goes-on}
use Rattle.sa_legal_runs.proofs.matching.Composed.{traced-of, IsComposed, read, IsTraced, traced-goes, read-push, composed-of}
use Rattle.sa_legal_runs.proofs.frames.Moments.{same-trans, closing-alike}
use Rattle.sa_legal_runs.proofs.frames.Foreign.{AreLivesOf}
use Rattle.sa_legal_runs.proofs.frames.Lives.{AreMatched, leaves_lives, matched-records, matched-ended}
use Rattle.sa_legal_runs.proofs.matching.Spaces.{AreFit, but-same, but-all, fit-put}
use Rattle.sa_legal_runs.proofs.matching.EventLaws.{closing-no_up}
use Rattle.sa_legal_runs.proofs.matching.EventBegins.{begins-now, acts-at, sees-now, low-now}
use Rattle.sa_legal_runs.proofs.matching.Slices.{sliced-goes}
use Rattle.sa_legal_runs.proofs.kernel.Telling.{matched-of}

-- A local instruction is the space's own.
local-own : (w : WorkloadView) (p : ProcNo) (r : Readings) (s : SpaceNo) (x : Record) → IsLocalIns w r (x ∷ []) → Needs w p r x
    → owner_in r p ≡ Some s → Rattle.sa_abstract.specs.Keeps.IsOwn s x
local-own w p r s (Ins of t i) is needs owner = same_Some of s (sym needs.owned ∙ owner)
local-own w p r s x is needs owner = absurd is

one-own : (s : SpaceNo) (x : Record) → Rattle.sa_abstract.specs.Keeps.IsOwn s x → All (Rattle.sa_abstract.specs.Keeps.IsOwn s) (x ∷ [])
one-own s x own zero d below = own
one-own s x own (suc i) d below = absurd (omega (arith, below))

length-ins : (s : SpaceNo) (t : ThreadNo) (program : List Instr) (n : ℕ) (spot : Spot) → length (ins_records s t program n spot) ≡ n
length-ins s t program zero spot = refl
length-ins s t program (suc n) spot = ap suc (length-ins s t program n _)

length-records : (s : Setting) (n : ℕ) (x : SeatState) → StaysLocal s n x → length (records_of s n x) ≡ n
length-records s n (Local space thread program pc regs) goes = length-ins space thread _ n _
length-records s n Away goes = absurd goes

parts-of : (xs : List Record) (n : ℕ) → length xs ≡ suc n → (x : Record) × (rest : List Record) × (xs ≡ x ∷ rest) × (length rest ≡ n)
parts-of [] n is = absurd (omega (arith, is))
parts-of (x ∷ xs) n is = (x, xs, refl, omega (arith, is))

module _ {U C : Type 0} (level : UserLevel U C) where
  -- the machine after an event with this record, and after one event for each of these
  abbrev pub with_record : ProcNo → Record → Machine U C → Machine U C
  with_record p x m = record (next_event m) { items = m.items ++ items_at (m.event + 1) p (x ∷ []) }

  abbrev pub walked : ProcNo → Record → List Record → Machine U C → Machine U C
  walked p x [] m = with_record p x m
  walked p x (y ∷ xs) m = walked p y xs (with_record p x m)

  walked-is : (p : ProcNo) (x : Record) (xs : List Record) (m : Machine U C)
      → walked p x xs m ≡ more_events (length xs) (record (next_event m) { items = m.items ++ items_from (m.event + 1) p (x ∷ xs) })
  walked-is p x [] m = refl
  walked-is p x (y ∷ xs) m =
      walked-is p y xs (with_record p x m)
      ∙ ap (λ (items : List Item). more_events (length xs) (record (next_event (next_event m)) { items = items }))
      (append_assoc m.items (items_at (m.event + 1) p (x ∷ [])) (items_from (m.event + 1 + 1) p (y ∷ xs)))

  -- The life that goes on.
  pub record GoesHere (m : Machine U C) (p : ProcNo) (s : SpaceNo) (a : ActNo) : Type 0 where
    pub low : line_of m.kernel p ≡ None
    pub within : p.0 < length m.kernel.lives
    pub owner : owner_of m.kernel p ≡ Some s
    pub life : life_of m.kernel p ≡ Some a
    pub act : m.kernel.acts a.0 ≡ Some (runs_in s)

  -- ONE LOCAL INSTRUCTION.
  record OneGone (w : WorkloadView) (events : List Event) (m : Machine U C) (p : ProcNo) (s : SpaceNo) (x : Record) : Type 0 where
    closing : List Record
    parts : IsClosed (x ∷ []) closing
    none : ends_slice (next_event m) ≡ false → closing ≡ []
    alike : let b = event_begun_at w (m.event + 1) p (read level w events) in
        Alike (after_records w (m.event + 1) p b (x ∷ [])) (after_records w (m.event + 1) p b (x ∷ closing))
    traced : IsTraced level w (events ++ event_with (m.event + 1) p (x ∷ []) closing ∷ []) (sliced p (with_record p x m))
    others : (t : SpaceNo) → t.0 ≢ s.0
        → SameFor t (read level w events)
        (after_event level.rules.inside w (read level w events) (event_with (m.event + 1) p (x ∷ []) closing))
    same : SameRuns m.kernel (sliced p (with_record p x m)).kernel
    users_are : (sliced p (with_record p x m)).users ≡ m.users
    contexts_are : (sliced p (with_record p x m)).contexts ≡ m.contexts

  one-gone : (w : WorkloadView) (events : List Event) (m : Machine U C) (p : ProcNo) (s : SpaceNo) (a : ActNo) (x : Record)
      → IsTraced level w events m → GoesHere m p s a
      → IsLegalIns level.rules w (m.event + 1) p (read level w events) x → OneGone w events m p s x
  one-gone w events m p s a x c here good =
      let g = m.event + 1 in
      let r = read level w events in
      let b0 = event_begun_at w g p r in
      let k = m.kernel in
      let says = x ∷ [] in
      let owner : owner_in b0 p ≡ Some s = ap (λ (v : Overview). get_or v.assign.owners p.0 None) c.history.kept.reads ∙ here.owner in
      let runs : running_of r p ≡ Some a = ap (λ (v : Overview). get_or v.running p.0 None) c.history.kept.reads ∙ here.life in
      let own = one-own s x (local-own w p b0 s x good.is_local good.needs owner) in
      let are = says-users s says own in
      let slice = sliced-goes level w events m p says m.users m.contexts c here.low here.within (not-empty x []) are in
      let after : Machine U C = sliced p (with_record p x m) in
      let cl = slice.closing in
      let ev : Event = event_with g p says cl in
      let hold_rules = good.rules_hold cl slice.parts in
      let first = after_records w g p b0 says in
      let last = after_records w g p b0 (says ++ cl) in
      let behind : last ≡ after_records w g p first cl = records-append w g p b0 says cl in
      let close : AlikeButDemands first last =
      subst (λ (z : Readings). AlikeButDemands first z) (sym behind) (closing-alike w g p first cl slice.closes) in
      let alike : Alike first last = record { kernel = close; demands = slice.demands } in
      let final = after_event level.rules.inside w r ev in
      let no_up : list_any is_up ev.records ≡ false =
      list_any-append is_up says cl ∙ ap (λ (z : Bool). z || list_any is_up cl) (users-no_up says are)
      ∙ closing-no_up cl slice.closes in
      let mine_of : AreLivesOf s r.lives (running_of r p) = λ i is life has.
      let same : a ≡ i = same_Some a i (sym runs ∙ is) in
      matched-of s k.acts r.lives a (runs_in s) c.matched here.act refl life (ap (λ (z : ActNo). r.lives z.0) same ∙ has) in
      let others : (t : SpaceNo) → t.0 ≢ s.0 → SameFor t r final = λ t apart.
      step-event_foreign level.rules w r g p s t says cl (line-reads level w events m p c.history ∙ here.low) slice.closes no_up
      (of-spaces s r.lives first.lives (running_of r p)
      (λ i. ap (λ (v : Overview). v.spaces i) (users-records w g p b0 says are)) mine_of) apart
      (foreign-says w g p s t b0 says own mine_of apart) in
      let turn : IsTurn level.rules.Steps (is_some (line_in r p)) g w b0 p says =
      subst (λ (l : Option ℕ). IsTurn level.rules.Steps (is_some l) g w b0 p says)
      (sym (line-reads level w events m p c.history ∙ here.low))
      (while-due w b0 p s says (due_of g b0.under_way) owner good.is_local hold_rules.steps) in
      let matched = matched-ended level.rules.inside w r ev last k.acts (matched-records w g p b0 (says ++ cl) k.acts
      (list_all-append leaves_lives says cl ∙ ap (λ (z : Bool). z && list_all leaves_lives cl) (users-leave says are)
      ∙ closing-leave cl slice.closes) c.matched) in
      record {
        closing = cl;
        parts = slice.parts;
        none = slice.none;
        alike = alike;
        traced = traced-goes level w events m after ev c (slice.same.telling ∙ c.fetched)
            (slice.workload ∙ c.workload) slice.event refl slice.history
            (lawful-by level w events m _ p says cl c slice.history (record {
              within = here.within;
              some = not-empty x [];
              parts = slice.parts;
              closes = slice.closes;
              steps = (good.needs, tt);
              first = users-first level.rules w r p says cl (not-empty x []) are;
              turn = turn;
              rules = rules-pass level w r ev says hold_rules;
            }))
            (stops-first_both says cl (no-stops says (users-no_stop says are)) slice.closes)
            (subst (λ (fs : ℕ → Option (Act C)). AreMatched fs final.lives) (sym slice.same.acts) matched);
        others = others;
        same = slice.same;
        users_are = slice.users_are;
        contexts_are = slice.contexts_are;
      }
    where
      while-due : (w : WorkloadView) (b : Readings) (p : ProcNo) (s : SpaceNo) (says : List Record) (o : Option Io)
          → owner_in b p ≡ Some s → IsLocalIns w b says → level.rules.Steps w b p says
          → IsTurnWhileDue level.rules.Steps o w b p says
      while-due w b p s says None owner local steps =
          subst (λ (o : Option SpaceNo). IsTickOrStep level.rules.Steps o w b p says) (sym owner) steps
      while-due w b p s says (Some io) owner local steps = inr (local, steps)

  -- Where an instruction is next, the run goes on.
  head-good : (e : ℕ) (w : WorkloadView) (p : ProcNo) (r : Readings) (y : Record) (xs : List Record) (Goal : Readings → Type 0)
      → AreLegalIns level.rules w e p r (y ∷ xs) Goal → IsLegalIns level.rules w e p r y
  head-good e w p r y [] Goal gone = gone.0
  head-good e w p r y (z ∷ xs) Goal gone = gone.0

  goes-on-at : (w : WorkloadView) (p : ProcNo) (e : ℕ) (r : Readings) (y : Record) → IsLegalIns level.rules w e p r y
      → Rattle.sa_laws.specs.Ends.GoesOn r
  goes-on-at w p e r y good = by y good.is_local good.needs
    where
      by : (y : Record) → IsLocalIns w (event_begun_at w e p r) (y ∷ []) → Needs w p (event_begun_at w e p r) y → Rattle.sa_laws.specs.Ends.GoesOn r
      by (Ins s t i) is needs = running-goes-on r p s t needs.runs
      by y is needs = absurd is

  -- So all of them go through.
  record AllGone (w : WorkloadView) (events : List Event) (m : Machine U C) (p : ProcNo) (s : SpaceNo) (many : ℕ)
      (Goal : Readings → Type 0) (after : Machine U C) : Type 0 where
    more : List Event
    procs : map (λ (e : Event). e.proc) more ≡ replicate (suc many) p
    traced : IsTraced level w (events ++ more) after
    holds : Goal (read level w (events ++ more))
    on : GoOn level.rules.inside w (read level w events) more
    others : (t : SpaceNo) → t.0 ≢ s.0 → SameFor t (read level w events) (read level w (events ++ more))
    same : SameRuns m.kernel after.kernel
    users_are : after.users ≡ m.users
    contexts_are : after.contexts ≡ m.contexts

  all-gone : (w : WorkloadView) (events : List Event) (m : Machine U C) (p : ProcNo) (s : SpaceNo) (a : ActNo) (x : Record)
      (xs : List Record) (Goal : Readings → Type 0)
      → IsTraced level w events m → GoesHere m p s a → AreLegalIns level.rules w (m.event + 1) p (read level w events) (x ∷ xs) Goal
      → ((k : ℕ) → 1 ≤ k → k ≤ length xs → (not (m.workload.slice == 0) && ((m.event + k) % m.workload.slice == 0)) ≡ false)
      → AllGone w events m p s (length xs) Goal (sliced p (walked p x xs m))
  all-gone w events m p s a x [] Goal c here gone whole =
      let one = one-gone w events m p s a x c here gone.0 in
      let ev = event_with (m.event + 1) p (x ∷ []) one.closing in
      let push = read-push level w events ev in
      record {
        more = ev ∷ [];
        procs = refl;
        on = tt;
        traced = one.traced;
        holds = subst Goal (sym push) (gone.1 one.closing one.parts one.alike);
        others = λ t apart. subst (λ (v : Readings). SameFor t (read level w events) v) (sym push) (one.others t apart);
        same = one.same;
        users_are = one.users_are;
        contexts_are = one.contexts_are;
      }
  all-gone w events m p s a x (y ∷ xs) Goal c here gone whole =
      let one = one-gone w events m p s a x c here gone.0 in
      let ends : ends_slice (next_event m) ≡ false = whole 1 (omega arith) (omega arith) in
      let ev = event_with (m.event + 1) p (x ∷ []) [] in
      let next : Machine U C = with_record p x m in
      let still : sliced p next ≡ next = ap (λ (q : Bool). sliced_if p q next) ends in
      let none = one.none ends in
      let traced : IsTraced level w (events ++ ev ∷ []) next =
      subst (λ (z : Machine U C). IsTraced level w (events ++ ev ∷ []) z) still
      (subst (λ (cl : List Record). IsTraced level w (events ++ event_with (m.event + 1) p (x ∷ []) cl ∷ [])
      (sliced p next)) none one.traced) in
      let push = read-push level w events ev in
      let past = read level w events in
      let mid = read level w (events ++ ev ∷ []) in
      let rest = all-gone w (events ++ ev ∷ []) next p s a y xs Goal traced
      (record { low = here.low; within = here.within; owner = here.owner; life = here.life; act = here.act })
      (subst (λ (v : Readings). AreLegalIns level.rules w (m.event + 1 + 1) p v (y ∷ xs) Goal) (sym push) gone.1)
      (λ i some below.
      let e : m.event + (i + 1) ≡ m.event + 1 + i = omega arith in
      subst (λ (j : ℕ). (not (m.workload.slice == 0) && (j % m.workload.slice == 0)) ≡ false) e
      (whole (i + 1) (omega arith) (omega (arith, below)))) in
      let again : (events ++ ev ∷ []) ++ rest.more ≡ events ++ ev ∷ rest.more = append_assoc events (ev ∷ []) rest.more in
      record {
        more = ev ∷ rest.more;
        procs = ap (λ (ps : List ProcNo). p ∷ ps) rest.procs;
        on = go-on-cons level.rules.inside w past ev rest.more
            (goes-on-at w p (m.event + 1 + 1) (after_event level.rules.inside w past ev) y
            (head-good (m.event + 1 + 1) w p (after_event level.rules.inside w past ev) y xs Goal gone.1))
            (subst (λ (v : Readings). GoOn level.rules.inside w v rest.more) push rest.on);
        traced = subst (λ (es : List Event). IsTraced level w es (sliced p (walked p x (y ∷ xs) m))) again rest.traced;
        holds = subst (λ (es : List Event). Goal (read level w es)) again rest.holds;
        others = λ t apart. subst (λ (es : List Event). SameFor t past (read level w es)) again
            (same-trans t past mid (read level w ((events ++ ev ∷ []) ++ rest.more))
            (subst (λ (v : Readings). SameFor t past v) (sym push)
            (subst (λ (cl : List Record). SameFor t past
            (after_event level.rules.inside w past (event_with (m.event + 1) p (x ∷ []) cl))) none (one.others t apart)))
            (rest.others t apart));
        same = record { lives = rest.same.lives; acts = rest.same.acts; telling = rest.same.telling; demands = rest.same.demands };
        users_are = rest.users_are;
        contexts_are = rest.contexts_are;
      }

  -- A COMMIT.
  pub composed-commit : (w : WorkloadView) (events : List Event) (m : Machine U C) (p : ProcNo) (n : ℕ)
      → IsComposed level w events m → CanCommit level.calls m p n
      → (more : List Event) × IsComposed level w (events ++ more) (committed level.calls p n m)
      × GoOn level.rules.inside w (read level w events) more
      × (map (λ (e : Event). e.proc) more ≡ replicate n p)
  composed-commit w events m p zero c can = absurd (let z = can.some in omega (arith, z))
  composed-commit w events m p (suc n) c can =
      let x : Machine U C = next_event m in
      let g = m.event + 1 in
      let r = read level w events in
      let b0 = event_begun_at w g p r in
      let b = begins-now level w events m p c in
      let go = can-go level.calls level.stands level.keep m.event (suc n) m p c.between.standing can.go in
      let s = go.space in
      let here = at-owned level.calls level.stands level.keep m.event x p s b.rest.standing go.owner in
      let at = acts-at level w events m p s c here in
      let k = x.kernel in
      let same_def : go.def ≡ here.def = same_Some go.def here.def (sym go.is_def ∙ here.is_def) in
      let goes : StaysLocal (setting m.workload s.0 here.def) (suc n) (level.calls.local here.user here.ctx) =
      subst (λ (d : SpaceView). StaysLocal (setting m.workload s.0 d) (suc n) (level.calls.local here.user here.ctx)) same_def
      (subst (λ z. StaysLocal (setting m.workload s.0 go.def) (suc n) z) (local-is level.calls level.stands level.keep x p s here) go.goes) in
      let many : m.event + suc n ≤ MAX_EVENTS = can.event in
      let done : Gone U C = level.calls.went here.user (seen_on x p s) here.ctx (suc n) in
      let law = gone-law level.calls level.stands level.keep m.event (suc n) x p s b.rest.standing here (omega arith)
      (omega arith) (omega (arith, many)) goes in
      let count : length done.says ≡ suc n =
      ap (λ (xs : List Record). length xs) law.says
      ∙ length-records (setting m.workload s.0 here.def) (suc n) (level.calls.local here.user here.ctx) goes in
      let parts = parts-of done.says n count in
      let set = setting w s.0 here.def in
      let Goal : Readings → Type 0 = λ last. level.fits w set last done.user (put (contexts_of m s.0) here.act.0 (Some done.ctx)) in
      let good = level.laws.goes w set m.event r here.user (contexts_of m s.0) p here.act at.life here.ctx (seen_on x p s) (suc n)
      at.acting (sees-now level w events m p s c can.low here.owner) (low-now level w events m p c can.low) (omega arith) (omega arith) (omega (arith, many))
      (subst (λ (v : WorkloadView). StaysLocal (setting v s.0 here.def) (suc n) (level.calls.local here.user here.ctx)) c.workload goes) in
      let users : List U = slice_set m.users s.0 done.user in
      let contexts : List (Option C) = slice_set m.contexts p.0 (Some done.ctx) in
      let start : Machine U C = record m { users = users; contexts = contexts } in
      let old = traced-of level w events m c in
      let traced : IsTraced level w events start =
      record {
        fetched = old.fetched;
        workload = old.workload;
        history = old.history;
        lawful = old.lawful;
        number = old.number;
        last = old.last;
        sized = old.sized;
        calm = old.calm;
        ios = old.ios;
        idle = old.idle;
        matched = old.matched;
      } in
      let all = all-gone w events start p s here.act parts.0 parts.1 Goal traced
      (record { low = can.low; within = here.within; owner = here.owner; life = here.life; act = here.runs })
      (subst (λ (xs : List Record). AreLegalIns level.rules w g p r xs Goal) parts.2 good)
      (λ i some under. let z = parts.3 in whole-slice (suc n) m.workload.slice m.event
      (m.workload.slice == 0) refl can.slice i some (omega (arith, under, z))) in
      let is : committed level.calls p (suc n) m ≡ sliced p (walked p parts.0 parts.1 start) =
      ap (λ (o : Option SpaceNo). sliced p (more_events n (gone_in level.calls p (suc n) o x))) go.owner
      ∙ ap (λ (z : Machine U C). sliced p (more_events n z)) (gone-is level.calls level.stands level.keep x p s (suc n) here)
      ∙ ap (λ (xs : List Record). sliced p (more_events n (record (next_event start) { items = m.items ++ items_from g p xs }))) parts.2
      ∙ ap (λ (i : ℕ). sliced p
      (more_events i (record (next_event start) { items = m.items ++ items_from g p (parts.0 ∷ parts.1) }))) (sym parts.3)
      ∙ ap (λ (z : Machine U C). sliced p z) (sym (walked-is p parts.0 parts.1 start)) in
      let after : Machine U C = sliced p (walked p parts.0 parts.1 start) in
      let rest = rests-committed level.calls level.stands level.keep m p n c.between many go in
      let between : IsBetween level.stands after =
      subst (λ (z : Machine U C). IsBetween level.stands z) is
      (between-rests level.calls level.stands level.keep m.workload (m.event + suc n) (committed level.calls p (suc n) m) rest) in
      let final = read level w (events ++ all.more) in
      let runs = runs-at level.calls level.stands level.keep m.event x p s b.rest.standing here in
      let size : length m.contexts ≡ length k.lives = b.rest.standing.contexts ∙ sym b.rest.standing.lives in
      let to : (t i : ℕ) → contexts_in k.lives k.acts contexts t i ≡ contexts_of after t i = λ t i.
      ap (λ (ls : List (Option ActNo)). contexts_in ls k.acts contexts t i) (sym all.same.lives)
      ∙ ap (λ (fs : ℕ → Option (Act C)). contexts_in after.kernel.lives fs contexts t i) (sym all.same.acts)
      ∙ ap (λ (cs : List (Option C)). contexts_in after.kernel.lives after.kernel.acts cs t i) (sym all.contexts_are) in
      let fit_now : AreFit level.fits w final after.users (contexts_of after) =
      subst (λ (us : List U). AreFit level.fits w final us (contexts_of after)) (sym all.users_are)
      (fit-put level w final s.0 m.users done.user (contexts_of m) (contexts_of after)
      (λ t apart i. contexts-put_kept k.assign.owners k.lives k.acts m.contexts p.0 here.act s runs (Some done.ctx) t apart i ∙ to t i)
      (λ d of. subst (λ (y : SpaceView). level.fits w (setting w s.0 y) final done.user (contexts_of after s.0))
      (same_Some here.def d (sym at.def_at ∙ of))
      (subst (λ (cs : Contexts C). level.fits w set final done.user cs)
      (fun_ext (λ i. contexts-put k.assign.owners k.lives k.acts m.contexts p.0 here.act s runs size here.within done.ctx i
      ∙ to s.0 i)) all.holds))
      (but-same level w r final s.0 m.users (contexts_of m) b.ok (λ t apart. all.others (space_no t) apart)
      (but-all level w r s.0 m.users (contexts_of m) c.fit))) in (
        all.more,
        subst (λ (z : Machine U C). IsComposed level w (events ++ all.more) z) (sym is)
            (composed-of level w (events ++ all.more) after all.traced between fit_now),
        all.on,
        all.procs ∙ ap (λ (k : ℕ). replicate (suc k) p) parts.3,
      )
