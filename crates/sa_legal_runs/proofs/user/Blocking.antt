-- The event of a step that blocks.
use Rattle.std.proofs.lemmas.List.{length-set, get_or-set_same}
use Rattle.std.proofs.Common.{get_or, ◌≡◌, ◌≢◌, ℕ, zero, suc, ◌+◌, ◌<◌, ◌≤◌, arith, sym, ◌∙◌, ap, subst, refl, Bool, true, false, Option, Some, None, List, [], ◌∷◌, ◌++◌, length, inl, inr, not, ◌||◌, map, append_assoc, slice_set, Contains}
use Rattle.std.proofs.lemmas.Bool.{cases_eq}
use Rattle.std.proofs.lemmas.Option.{same_Some, none-some}
use Rattle.std.specs.List.{list_any}
use Rattle.std.proofs.lemmas.List.Folds.{list_any-append}
use Rattle.std.specs.Prelude.{◌==◌}
use Rattle.std.specs.Option.{option_map}
use Rattle.std.proofs.lemmas.Bool.Decides.{nat_tests}
use Rattle.std.proofs.lemmas.List.Elements.{Contains-append_right}
use Rattle.sa_base.specs.declared.record.Item.{Item}
use Rattle.sa_base.specs.declared.number.ProcNo.{ProcNo}
use Rattle.sa_base.specs.declared.number.SpaceNo.{SpaceNo}
use Rattle.sa_base.specs.declared.number.ThreadNo.{ThreadNo}
use Rattle.sa_base.specs.declared.number.ActNo.{ActNo}
use Rattle.sa_base.specs.declared.context.Stopped.{Stopped}
use Rattle.sa_base.specs.declared.record.Note.{Note}
use Rattle.sa_base.specs.declared.record.Note.TheVariants.{Add, Preempted, Blocked, Unblocked}
use Rattle.sa_base.specs.declared.record.Record.{Record}
use Rattle.sa_base.specs.declared.record.Record.TheVariants.{Block, Up, Told, Aim, Line, Want}
use Rattle.sa_base.specs.declared.limits.TheConstants.{MAX_EVENTS}
use Rattle.sa_base.specs.declared.number.IoNo.{IoNo}
use Rattle.sa_base.specs.Items.{items_at}
use Rattle.sa_base.proofs.Items.{items_at-append}
use Rattle.sa_lemmas.proofs.Membership.{contains-head}
use Rattle.sa_lemmas.specs.Function.{put}
use Rattle.sa_lemmas.proofs.FunctionUpdates.{put-other, put-at}
use Rattle.sa_spaces.specs.Workload.{WorkloadView}
use Rattle.sa_abstract.specs.Calls.{Stepped, Contexts}
use Rattle.sa_abstract.specs.Keeps.{IsAsked}
use Rattle.sa_abstract.specs.declared.answer.Step.TheVariants.{Block as BlockAsked}
use Rattle.sa_abstract.specs.declared.answer.Step.{Step}
use Rattle.sa_acts.specs.Table.{held_of, runs_in}
use Rattle.sa_devices.specs.declared.kind.IoKind.{IoKind}
use Rattle.sa_devices.specs.Ios.{due_of}
use Rattle.sa_laws.specs.Turns.{IsPassage}
use Rattle.sa_laws.specs.Record.{Blocking, blocking, after_record, with_life}
use Rattle.sa_laws.specs.Life.{Life}
use Rattle.sa_laws.specs.Readings.{Readings}
use Rattle.sa_laws.specs.Rules.{UserRules, IsLawful}
use Rattle.sa_laws.specs.History.{after_records, behind_all, with_step, is_up, is_step, stepped, after_event}
use Rattle.sa_laws.specs.Event.{Event}
use Rattle.sa_laws.specs.Upcalls.{FirstLineIsAsked, leave_records}
use Rattle.sa_histories.proofs.Appended.{steps-append}
use Rattle.sa_kernel_model.specs.Entries.{blocked_by, told_or_left, io_for, entered, entered_as}
use Rattle.sa_kernel_model.specs.Sound.{IsSound}
use Rattle.sa_kernel_model.specs.State.{untold_of, life_of, KernelState, Scene, owner_of, line_of, can_upcall, is_fetching}
use Rattle.sa_kernel_laws.proofs.overview.Once.{none-of}
use Rattle.sa_kernel_laws.proofs.entries.OwnPart.{users-are_own, own-others}
use Rattle.sa_kernel_laws.proofs.entries.Walks.{own-both, own-told, told-alone, AreOwn}
use Rattle.sa_kernel_model.specs.Parts.{put_aside, with_io, upcall, leave}
use Rattle.sa_kernel_laws.proofs.overview.Untold.{copies, copies_in, once_if}
use Rattle.sa_kernel_model.specs.declared.entry.Entry.{Entry}
use Rattle.sa_kernel_model.specs.declared.entry.Entry.TheVariants.{Block as BlockEntry}
use Rattle.sa_kernel_model.specs.Closing.{closed}
use Rattle.sa_kernel_model.specs.Entering.{upcalls, MayEnter}
use Rattle.sa_kernel_laws.specs.Histories.{IsHistory}
use Rattle.sa_kernel_laws.specs.Turn.{Turn, CanTurn, event_of, AreUsers}
use Rattle.sa_core_model.proofs.Phases.{IsAt, contexts-same}
use Rattle.sa_core_model.specs.Machine.{Machine, without_context, step_to, seen_on, stopped_in, scene_of}
use Rattle.sa_core_model.specs.Run.{setting}
use Rattle.sa_core_model.specs.Standing.{contexts_of, IsBetween, contexts_in}
use Rattle.sa_core_model.proofs.Turns.{step-law, Welcomed, rests-stepped, welcomed-upcall, stopped-is, can-block, own-page}
use Rattle.sa_core_model.specs.Turn.{next_event, entered_on, kernel_entered, welcomed_in, welcomed_if, blocked, blocked_by as blocked_on}
use Rattle.sa_user_laws.specs.Moments.{AlikeButEnds, unended}
use Rattle.sa_user_laws.specs.Scene.{event_begun_at}
use Rattle.sa_user_laws.specs.Steps.{begins_step, event_with, IsLegalAnswer, IsLegalBlock, io_of, IsLegalStep, IsClosed}
use Rattle.sa_user_laws.specs.Level.{UserLevel}
use Rattle.sa_legal_runs.proofs.matching.Composed.{IsComposed, Goes, read, traced-of}
use Rattle.sa_legal_runs.proofs.kernel.Passes.{upped-items, up_records, passes-up}
use Rattle.sa_legal_runs.proofs.matching.EventBegins.{begins-now, acts-at, IsBegun, Acts, steps-legally, tidy-now}
use Rattle.sa_legal_runs.proofs.user.EarlyEnds.{early, early-all, up-leaves, NotOf, AllLeave, Leaves}
use Rattle.sa_legal_runs.proofs.matching.EventLaws.{some-step, ended-step, closing-no_up}
use Rattle.sa_legal_runs.proofs.matching.Longer.{Parted, parted, history-turn}
use Rattle.sa_legal_runs.proofs.kernel.Upcalled.{Upcalled}
use Rattle.sa_legal_runs.proofs.user.Blocks.{halted-block, stepped-at}
use Rattle.sa_legal_runs.proofs.kernel.Interrupts.{told-steps, told-no_stop}
use Rattle.sa_acts.specs.declared.acts.Act.{Act}
use Rattle.sa_assign.specs.Aims.{space_no}
use Rattle.sa_laws.specs.Step.{AreSteps}
use Rattle.sa_laws.proofs.Records.{records-append}
use Rattle.sa_laws.proofs.Closings.{AreClosing}
use Rattle.sa_kernel_model.specs.Enters.{upcalls_in}
use Rattle.sa_core_model.proofs.Effects.{same-closed, same-again, same-leave}
use Rattle.sa_legal_runs.proofs.frames.Moments.{same-for, alike-stays, closing-alike, put-again, StaysPut, plains-stay}
use Rattle.sa_legal_runs.proofs.frames.Lives.{AreMatched}
use Rattle.sa_legal_runs.proofs.matching.Spaces.{AreFit, fit-contexts, fit-same}
use Rattle.sa_legal_runs.proofs.kernel.Halted.{IsHalted, nobody-halted}
use Rattle.sa_legal_runs.proofs.kernel.Leaving.{leave-items, leave-own, leave-plain, leave-no_up, leave-passage, leave-steps, leave-no_stop}
use Rattle.sa_legal_runs.proofs.frames.Idle.{is_stop, StopsFirst, no-stops, stops-first_both}
use Rattle.sa_legal_runs.proofs.matching.OwnRecords.{says-users, users-no_stop, users-no_up}
use Rattle.sa_legal_runs.proofs.matching.Shown.{lawful-by, rules-pass, step-turns, strict-due}

-- An upcall and a closing leave the threads.
leave-spaces : (w : WorkloadView) (e : ℕ) (p : ProcNo) (a : ActNo) (r : Readings) (xs : List Record) → AllLeave w e p a r xs
    → (after_records w e p r xs).state.spaces ≡ r.state.spaces
leave-spaces w e p a r [] leave = refl
leave-spaces w e p a r (x ∷ xs) leave = leave-spaces w e p a (after_record w e p r x) xs leave.1 ∙ one x leave.0 where
  one : (y : Record) → Leaves a r y → (after_record w e p r y).state.spaces ≡ r.state.spaces
  one (Up s n) l = refl
  one (Told n) l = refl
  one (Want s n) l = refl
  one (Aim q s) l = refl
  one (Line q) l = refl
  one y l = absurd (cc)

-- The end of a life's own event changes nothing but what it says.
unended-with : (h : Life → Life) (a : ActNo) (lives : ℕ → Option Life) → ((l : Life) → unended (Some (h l)) ≡ unended (Some l))
    → (i : ℕ) → unended (with_life h (Some a) lives i) ≡ unended (lives i)
unended-with h a lives same i = elim (cases_eq i a.0) [
  | inl y ↦ ap unended (put-at lives a.0 i (option_map h (lives a.0)) y) ∙ one (lives a.0) ∙ sym (ap (λ n. unended (lives n)) y)
  | inr y ↦ ap unended (put-other lives a.0 i (option_map h (lives a.0)) y)
]
  where
    one : (o : Option Life) → unended (option_map h o) ≡ unended o
    one None = refl
    one (Some l) = same l

-- No notice hands over the context that has just been set aside by a block.
copies-at : (n : Note) (us : List (List Note)) (s : ℕ) → copies n us ≡ 0 → copies_in n (get_or us s []) ≡ 0
copies-at n [] s none = refl
copies-at n (u ∷ us) zero none = omega (arith, none)
copies-at n (u ∷ us) (suc s) none = copies-at n us s (omega (arith, none))

differs : (a b : ℕ) (rest : ℕ) → once_if (b == a) + rest ≡ 0 → a ≢ b
differs a b rest none same = let is : (b == a) ≡ true =
    grind (arith, nat_tests, same) in absurd (let z = ap once_if is in omega (arith, none, z))

not-of : (a : ActNo) (ns : List Note) → copies_in (Preempted a) ns ≡ 0 → copies_in (Unblocked a) ns ≡ 0 → NotOf a ns
not-of a [] one two = tt
not-of a (Add q ∷ ns) one two = not-of a ns (omega (arith, one)) (omega (arith, two))
not-of a (Blocked b ∷ ns) one two = not-of a ns (omega (arith, one)) (omega (arith, two))
not-of a (Preempted b ∷ ns) one two =
    (differs a.0 b.0 (copies_in (Preempted a) ns) one, not-of a ns (omega (arith, one)) (omega (arith, two)))
not-of a (Unblocked b ∷ ns) one two =
    (differs a.0 b.0 (copies_in (Unblocked a) ns) two, not-of a ns (omega (arith, one)) (omega (arith, two)))

not-behind : (a : ActNo) (ns : List Note) → NotOf a ns → NotOf a (ns ++ Blocked a ∷ [])
not-behind a [] not = tt
not-behind a (Add q ∷ ns) not = not-behind a ns not
not-behind a (Blocked b ∷ ns) not = not-behind a ns not
not-behind a (Preempted b ∷ ns) not = (not.0, not-behind a ns not.1)
not-behind a (Unblocked b ∷ ns) not = (not.0, not-behind a ns not.1)

-- An event that begins with a step has such a first record.
pub begins : (xs ys : List Record) → begins_step xs ≡ true
    → (x : Record) × (rest : List Record) × (xs ++ ys ≡ x ∷ rest) × (is_step x ≡ true)
begins [] ys is = absurd (cc)
begins (x ∷ xs) ys is = (x, xs ++ ys, refl, is)

block-first : (rules : UserRules) (w : WorkloadView) (r : Readings) (p : ProcNo) (says rest : List Record) (s : SpaceNo)
    (t : Option ThreadNo) (a : ActNo) (io : IoNo) → AreUsers says
    → FirstLineIsAsked rules.Lines w r p (says ++ Block s t a io ∷ rest)
block-first rules w r p (Line q ∷ xs) rest s t a io are = absurd (cc)
block-first rules w r p _ rest s t a io are = tt

io-same : (s : SpaceNo) (a : ActNo) (page : Option ℕ) → io_of s a page ≡ io_for s a page
io-same s a None = refl
io-same s a (Some k) = refl

some-behind : (xs : List Record) (x : Record) (ys : List Record) → xs ++ x ∷ ys ≢ []
some-behind [] x ys is = cc
some-behind (z ∷ xs) x ys is = cc

-- A STEP THAT BLOCKS. In the same event its space is upcalled on the processor, or where its upcall page is absent the
-- processor is left.
module _ {U C : Type 0} (level : UserLevel U C) (w : WorkloadView) (events : List Event) (m : Machine U C)
    (c : IsComposed level w events m) (p : ProcNo) (n : ActNo) (s : SpaceNo) (len : ℕ) (page : Option ℕ)
    (low : line_of m.kernel p ≡ None) (due : due_of (m.event + 1) m.kernel.under_way ≡ None) (few : m.event + 1 ≤ MAX_EVENTS)
    (unused : m.kernel.acts n.0 ≡ None)
    (here : IsAt level.calls level.stands level.keep (next_event m) p s)
    (asks : (level.calls.stepped here.user (seen_on (next_event m) p s) here.ctx).answer ≡ BlockAsked len page) where
  -- the machine in the event, its kernel, the event's number, and the moment at its beginning
  abbrev x : Machine U C
  x = next_event m

  abbrev k : KernelState C
  k = x.kernel

  abbrev g : ℕ
  g = m.event + 1

  abbrev r : Readings
  r = read level w events

  abbrev b0 : Readings
  b0 = event_begun_at w g p r

  -- the step, what is set aside, the block's record, and the moment after it
  abbrev st : Stepped U C
  st = level.calls.stepped here.user (seen_on x p s) here.ctx

  abbrev says : List Record
  says = st.says

  abbrev held : Stopped C
  held = record { ctx = st.ctx; thread = level.calls.thread st.user st.ctx; idle = level.calls.idle st.user st.ctx }

  abbrev entry : Entry C
  entry = BlockEntry held len page

  abbrev z : Machine U C
  z = step_to level.calls p s st x

  abbrev y : Machine U C
  y = without_context p z

  abbrev io : IoNo
  io = record { 0 = k.io_count }

  abbrev block : Record
  block = Block s held.thread here.act io

  abbrev real : Readings
  real = after_records w g p b0 (says ++ block ∷ [])

  abbrev aside : KernelState C
  aside = put_aside p s here.act (Blocked here.act) held (with_io (io_for s here.act page) (g + len) k)

  -- the scene after the block, if the event began with these items
  abbrev behind_block : List Item → Scene C
  behind_block items = record { state = aside; items = items ++ items_at g p (block ∷ []) }

  b : IsBegun level w m.event g p x b0
  b = begins-now level w events m p c

  at : Acts level w events m p s here
  at = acts-at level w events m p s c here

  sound : IsSound k
  sound = b.rest.standing.sound

  are : AreUsers says
  are = says-users s says (step-law level.calls level.stands level.keep m.event x p s b.rest.standing here (omega arith) few).own

  good : IsLegalStep level.calls level.rules level.fits w (setting w s.0 here.def) r p g here.act (contexts_of m s.0) st
  good = steps-legally level w events m p s c low few here

  answer : IsLegalBlock level.calls level.rules level.fits w (setting w s.0 here.def) r p g here.act (contexts_of m s.0) st len page
  answer = subst (λ (q : Step). IsLegalAnswer level.calls level.rules level.fits w (setting w s.0 here.def) r p g here.act
      (contexts_of m s.0) st q) asks good.answer

  abbrev turn : Turn C
  turn = record { number = g; proc = p; says = says; fresh = n; entry = Some entry }

  can-turn : MayEnter k p g entry → CanTurn w m.kernel r turn
  can-turn fit = record {
    within = here.within;
    later = omega arith;
    unused = unused;
    fetched = c.between.fetched;
    fits = fit;
    says = (
      are,
      λ u i owner life.
          subst (λ (v : SpaceNo). blocking w
          (after_records w g p b0 says) v held.thread i ≡ record { kind = io_for v i page; length = len })
          (same_Some s u (sym here.owner ∙ owner))
          (subst (λ (j : ActNo). blocking w
          (after_records w g p b0 says) s held.thread j ≡ record { kind = io_for s j page; length = len })
          (same_Some here.act i (sym here.life ∙ life))
          (answer.for ∙ ap (λ (kind : IoKind). let what : Blocking = record { kind = kind; length = len } in what)
          (io-same s here.act page))),
    );
  }

  entering : (items : List Item)
      → entered_as g p n entry (record { state = k; items = items }) ≡ told_or_left g p s n (can_upcall k s) (behind_block items)
  entering items =
      let v : Scene C = record { state = k; items = items } in
      ap (λ (o : Option SpaceNo). blocked_by g p n o (life_of k p) held len page v) here.owner
      ∙ ap (λ (l : Option ActNo). blocked_by g p n (Some s) l held len page v) here.life

  -- The kernel after the block's entry, by what follows the block there.
  kernel-is : (what : Scene C → Scene C) (b : Bool) → ((v : Scene C) → told_or_left g p s n b v ≡ what v) → can_upcall k s ≡ b
      → entered g p n entry (record { state = k; items = m.items ++ items_at g p says }) ≡ closed g p
      (what (behind_block (m.items ++ items_at g p says)))
  kernel-is what b is resident = ap (λ (v : Scene C). closed g p v)
      (entering (m.items ++ items_at g p says)
      ∙ ap (λ (q : Bool). told_or_left g p s n q (behind_block (m.items ++ items_at g p says))) resident
      ∙ is (behind_block (m.items ++ items_at g p says)))

  -- The event, with the passage after its block.
  record Blocks (passage : List Record) (k_after : Scene C) : Type 0 where
    closing : List Record
    parts : IsClosed (says ++ block ∷ passage) closing
    closes : AreClosing closing
    history : IsHistory level.rules.inside w (events ++ event_with g p (says ++ block ∷ passage) closing ∷ []) k_after

  blocks : (fit : MayEnter k p g entry) (passage : List Record) (what : Scene C → Scene C) (b : Bool)
      → ((v : Scene C) → told_or_left g p s n b v ≡ what v) → can_upcall k s ≡ b
      → ((v : Scene C) → v.state ≡ aside → (what v).items ≡ v.items ++ items_at g p passage) → AreOwn passage
      → Blocks passage (closed g p (what (behind_block (m.items ++ items_at g p says))))
  blocks fit passage what b is resident adds own =
      let all = says ++ block ∷ passage in
      let can = can-turn fit in
      let now = kernel-is what b is resident in
      let part : Parted turn m.kernel all = parted w m.kernel r turn all c.history.ok c.history.kept can (some-behind says block passage)
      (own-others all (own-both says (block ∷ passage) (users-are_own says are) own))
      (ap (λ (v : Scene C). v.items)
      (entering (items_at g p says) ∙ ap (λ (q : Bool). told_or_left g p s n q (behind_block (items_at g p says))) resident
      ∙ is (behind_block (items_at g p says)))
      ∙ adds (behind_block (items_at g p says)) refl
      ∙ append_assoc (items_at g p says) (items_at g p (block ∷ [])) (items_at g p passage)
      ∙ sym (items_at-append g p says (block ∷ passage))) in
      let past = history-turn level.rules.inside w events m.kernel m.items turn c.history can in
      let k_after = closed g p (what (behind_block (m.items ++ items_at g p says))) in
      record {
        closing = part.closing;
        parts = part.parts;
        closes = part.closes;
        history = subst (λ (e : Event). IsHistory level.rules.inside w (events ++ e ∷ []) k_after) part.is
            (subst (λ (v : Scene C). IsHistory level.rules.inside w (events ++ event_of turn m.kernel ∷ []) v) now past);
      }

  -- The own event of the life ends early, with its block: its life is changed by this there.
  abbrev ends_by : List Record → List Record → Life → Life
  ends_by passage cl = stepped level.rules.inside w r (event_with g p (says ++ block ∷ passage) cl)
      (behind_all w (event_with g p (says ++ block ∷ passage) cl) r)
      (begins (says ++ block ∷ []) (passage ++ cl) (answer.begins io)).0

  abbrev front : List Record → List Record → Readings
  front passage cl = early (ends_by passage cl) here.act real

  records-are : (passage cl : List Record) → (says ++ block ∷ []) ++ (passage ++ cl) ≡ (says ++ block ∷ passage) ++ cl
  records-are passage cl = append_assoc says (block ∷ []) (passage ++ cl) ∙ sym (append_assoc says (block ∷ passage) cl)

  step-is : (passage cl : List Record) (lives : ℕ → Option Life)
      → let ev : Event = event_with g p (says ++ block ∷ passage) cl in
      with_step level.rules.inside w r ev (behind_all w ev r) ev.records lives ≡ with_life (ends_by passage cl) (Some here.act) lives
  step-is passage cl lives =
      let ev : Event = event_with g p (says ++ block ∷ passage) cl in
      let head = begins (says ++ block ∷ []) (passage ++ cl) (answer.begins io) in
      ap (λ (xs : List Record). with_step level.rules.inside w r ev (behind_all w ev r) xs lives) (sym (records-are passage cl) ∙ head.2)
      ∙ some-step level.rules.inside w r ev (behind_all w ev r) head.0 head.1 lives head.3
      ∙ ap (λ (o : Option ActNo). with_life (ends_by passage cl) o lives) at.on.runs

  -- So the processor is halted there.
  halted : (passage cl : List Record)
      → (behind_all w (event_with g p (says ++ block ∷ passage) cl) r).state.spaces ≡ real.state.spaces
      → IsHalted level w g p n z aside (front passage cl)
  halted passage cl spaces =
      let ev : Event = event_with g p (says ++ block ∷ passage) cl in
      let cs : Contexts C = put (contexts_of m s.0) here.act.0 (Some st.ctx) in
      halted-block level w events m p n s len page (ends_by passage cl) c low unused few here (λ life. (refl, refl))
      (subst (λ (ls : ℕ → Option Life). level.fits w (setting w s.0 here.def) (record real { lives = ls }) st.user cs)
      (step-is passage cl real.lives)
      (subst (λ (e : Event). level.fits w (setting w s.0 here.def)
      (record real { lives = with_step level.rules.inside w r e (behind_all w ev r) e.records real.lives }) st.user cs)
      (λ i. record { number = g; proc = p; records = records-are passage cl i })
      (answer.after io (passage ++ cl) (behind_all w ev r) spaces)))

  -- All laws hold at the event.
  lawful : (passage : List Record) (k_after : Scene C) (e : Blocks passage k_after) → IsPassage passage
      → AreSteps w g p real passage → IsLawful level.rules w r (event_with g p (says ++ block ∷ passage) e.closing)
  lawful passage k_after e is steps =
      let all = says ++ block ∷ passage in
      let rules = answer.rules_hold io passage e.closing is e.parts in
      let both : real ≡ after_record w g p (after_records w g p b0 says) block = records-append w g p b0 says (block ∷ []) in
      lawful-by level w events m k_after p all e.closing (traced-of level w events m c) e.history (record {
        within = here.within;
        some = some-behind says block passage;
        parts = e.parts;
        closes = e.closes;
        steps = steps-append w g p b0 says (block ∷ passage) good.steps
            (answer.needs io, subst (λ (v : Readings). AreSteps w g p v passage) both steps);
        first = subst (λ (xs : List Record). FirstLineIsAsked level.rules.Lines w r p xs)
            (sym (append_assoc says (block ∷ passage) e.closing))
            (block-first level.rules w r p says (passage ++ e.closing) s held.thread here.act io are);
        turn = step-turns level w events m p s all c.history low due here.owner rules.steps;
        rules = rules-pass level w r (event_with g p all e.closing) all rules;
      })

  stops : (passage : List Record) → list_any is_stop passage ≡ false → StopsFirst (says ++ block ∷ passage)
  stops passage none = no-stops (says ++ block ∷ passage)
      (list_any-append is_stop says (block ∷ passage)
      ∙ ap (λ (b : Bool). b || list_any is_stop (block ∷ passage)) (users-no_stop says are) ∙ none)

  -- AN UPCALL in the same event.
  block-up : MayEnter k p g entry → can_upcall k s ≡ true
      → Welcomed level.calls level.stands level.keep w g g p (kernel_entered p n entry y) → upcalls k p entry ≡ true
      → let after : Machine U C = entered_on level.calls p n entry y in
      IsBetween level.stands after → after.workload ≡ w → after.event ≡ g
      → (ev : Event) × Goes level w events m p after ev
  block-up fit resident new up between workload event =
      let a = here.act in
      let notes = untold_of aside s.0 in
      let ups = up_records s n notes in
      let e = blocks fit ups (λ v. upcall g p s n false v) true (λ v. refl) resident
      (λ v is. upped-items g p s n true v
      ∙ ap (λ (q : KernelState C). v.items ++ items_at g p (up_records s n (untold_of q s.0))) is) (own-told notes) in
      let cl = e.closing in
      let all = says ++ block ∷ ups in
      let ev : Event = event_with g p all cl in
      let yx : Scene C = behind_block (m.items ++ items_at g p says) in
      let kk = closed g p (upcall g p s n false yx) in
      let now = kernel-is (λ v. upcall g p s n false v) true (λ v. refl) resident in
      let last = behind_all w ev r in
      let differ : a.0 ≢ n.0 = λ same. none-some (runs_in s) (sym unused ∙ ap k.acts (sym same) ∙ here.runs) in
      let inside : s.0 < length k.untold =
      (let below = sound.formed.owners p.0 s here.owner in omega (arith, below, sound.formed.sizes.untold)) in
      let old_notes : notes ≡ untold_of k s.0 ++ Blocked a ∷ [] =
      get_or-set_same k.untold s.0 (untold_of k s.0 ++ Blocked a ∷ []) [] inside in
      let tidy = tidy-now level w events m c in
      let none : (copies (Preempted a) k.untold ≡ 0) × (copies (Unblocked a) k.untold ≡ 0) = (
        none-of k sound.claimed.told_to (Preempted a) a.0 refl sound.claimed.once tidy (ap held_of here.runs),
        none-of k sound.claimed.told_to (Unblocked a) a.0 refl sound.claimed.once tidy (ap held_of here.runs),
      ) in
      let not : NotOf a notes = subst (λ (ns : List Note). NotOf a ns) (sym old_notes)
      (not-behind a (untold_of k s.0)
      (not-of a (untold_of k s.0) (copies-at (Preempted a) k.untold s.0 none.0) (copies-at (Unblocked a) k.untold s.0 none.1))) in
      let leave : AllLeave w g p a real (ups ++ cl) = up-leaves w g p a s n real notes cl differ not e.closes in
      let behind : last ≡ after_records w g p real (ups ++ cl) =
      ap (λ (xs : List Record). after_records w g p b0 xs) (sym (records-are ups cl))
      ∙ records-append w g p b0 (says ++ block ∷ []) (ups ++ cl) in
      let h = ends_by ups cl in
      let closing : after_records w g p (front ups cl) (ups ++ cl) ≡ early h a last =
      early-all w g p h a real (ups ++ cl) leave ∙ ap (λ (v : Readings). early h a v) (sym behind) in
      let aside_is = halted ups cl (ap (λ (v : Readings). v.state.spaces) behind ∙ leave-spaces w g p a real (ups ++ cl) leave) in
      let ends : AlikeButEnds last (after_records w g p (front ups cl) (ups ++ cl)) =
      subst (λ (v : Readings). AlikeButEnds last v) (sym closing)
      (record { lives = unended-with h a last.lives (λ l. refl); is = refl }) in
      let stepped_at : (after_records w g p (front ups cl)
      (ups ++ cl)).lives ≡ with_step level.rules.inside w r ev last ev.records last.lives =
      ap (λ (v : Readings). v.lives) closing ∙ sym (step-is ups cl last.lives) in
      let has : Contains ev.records (Up s n) = subst (λ (xs : List Record). Contains xs (Up s n)) (records-are ups cl)
      (Contains-append_right (says ++ block ∷ []) (ups ++ cl) (Up s n) (contains-head (Up s n) (map Told notes ++ cl))) in
      let new_k = subst (λ (v : Scene C). Welcomed level.calls level.stands level.keep w g g p
      (record y { kernel = v.state; items = v.items })) now new in
      let done = passes-up level w events g g p s n true z yx (front ups cl) cl ev aside_is (λ is. here.owner)
      (omega (arith, inside, length-set k.untold s.0 (untold_of k s.0 ++ Blocked a ∷ [])))
      (omega (arith, here.within, sound.formed.sizes.owners))
      (ap (λ (os : List (Option SpaceNo)). length os) aside_is.owners) new_k e.history refl refl has e.closes ends stepped_at in
      let is : entered_on level.calls p n entry y ≡ welcomed_in level.calls p (owner_of kk.state p)
      (record y { kernel = kk.state; items = kk.items }) =
      ap (λ (v : Bool). welcomed_if level.calls p v (kernel_entered p n entry y)) up
      ∙ ap (λ (v : Scene C). welcomed_in level.calls p (owner_of v.state p) (record y { kernel = v.state; items = v.items })) now in
      let done_after = subst (λ (v : Machine U C). Upcalled level w events v ev) (sym is) done in (
        ev,
        record {
          between = between;
          workload = workload;
          event = event;
          number = refl;
          proc = refl;
          history = done_after.history;
          strict = strict-due level w events m p all cl c.history due;
          stops = stops-first_both all cl (stops ups (told-no_stop notes)) e.closes;
          lawful = lawful ups kk e (told-alone notes) (tt, told-steps w g p (after_record w g p real (Up s n)) notes);
          matched = done_after.matched;
          fit = done_after.fit;
        },
      )

  -- A LEAVE in the same event.
  block-leave : MayEnter k p g entry → can_upcall k s ≡ false → upcalls k p entry ≡ false
      → let after : Machine U C = entered_on level.calls p n entry y in
      IsBetween level.stands after → after.workload ≡ w → after.event ≡ g
      → (ev : Event) × Goes level w events m p after ev
  block-leave fit resident up between workload event =
      let a = here.act in
      let o = owner_of aside p in
      let still = is_fetching aside s.0 in
      let leaves = leave_records p o s still in
      let e = blocks fit leaves (λ v. leave g p s v) false (λ v. refl) resident
      (λ v is. leave-items g p s v
      ∙ ap (λ (q : KernelState C). v.items ++ items_at g p (leave_records p (owner_of q p) s (is_fetching q s.0))) is) (leave-own p o s still) in
      let cl = e.closing in
      let all = says ++ block ∷ leaves in
      let ev : Event = event_with g p all cl in
      let yx : Scene C = behind_block (m.items ++ items_at g p says) in
      let kk = closed g p (leave g p s yx) in
      let now = kernel-is (λ v. leave g p s v) false (λ v. refl) resident in
      let last = behind_all w ev r in
      let left = after_records w g p real leaves in
      let behind : last ≡ after_records w g p left cl =
      ap (λ (xs : List Record). after_records w g p b0 xs) (sym (records-are leaves cl))
      ∙ records-append w g p b0 (says ++ block ∷ []) (leaves ++ cl) ∙ records-append w g p real leaves cl in
      let stays : StaysPut real last = put-again real left last (plains-stay w g p real leaves (leave-plain p o s still))
      (subst (λ (v : Readings). StaysPut left v) (sym behind)
      (alike-stays left (after_records w g p left cl) (closing-alike w g p left cl e.closes))) in
      let aside_is = halted leaves cl stays.spaces in
      let no_up : list_any is_up ev.records ≡ false =
      list_any-append is_up all cl
      ∙ ap (λ (v : Bool). v || list_any is_up cl)
      (list_any-append is_up says (block ∷ leaves)
      ∙ ap (λ (v : Bool). v || list_any is_up (block ∷ leaves)) (users-no_up says are) ∙ leave-no_up p o s still)
      ∙ closing-no_up cl e.closes in
      let final = after_event level.rules.inside w r ev in
      let lives : final.lives ≡ (front leaves cl).lives =
      ended-step level.rules.inside w r ev last no_up ∙ step-is leaves cl last.lives
      ∙ ap (λ (ls : ℕ → Option Life). with_life (ends_by leaves cl) (Some a) ls) stays.lives in
      let put_final : StaysPut (front leaves cl) final =
      record {
        spaces = stays.spaces;
        lives = lives;
        running = stays.running;
        taken = stays.taken;
        untold = stays.untold;
        ready = stays.ready;
        lines = stays.lines;
      } in
      let done : Machine U C = record y { kernel = kk.state; items = kk.items } in
      let is : entered_on level.calls p n entry y ≡ done =
      ap (λ (v : Bool). welcomed_if level.calls p v (kernel_entered p n entry y)) up
      ∙ ap (λ (v : Scene C). let q : Machine U C = record y { kernel = v.state; items = v.items } in q) now in
      let runs = same-again aside (leave g p s yx).state kk.state (same-leave g p s yx) (same-closed g p (leave g p s yx)) in
      let cs : List (Option C) = slice_set z.contexts p.0 None in
      let fit_now : AreFit level.fits w final done.users (contexts_of done) =
      fit-contexts level w final z.users (contexts_in aside.lives aside.acts cs) (contexts_of done)
      (contexts-same aside.lives kk.state.lives aside.acts kk.state.acts cs runs.lives runs.acts)
      (fit-same level w (front leaves cl) final z.users (contexts_in aside.lives aside.acts cs) c.history.ok
      (λ i. same-for (front leaves cl) final put_final (space_no i)) aside_is.fit) in
      let matched_now : AreMatched done.kernel.acts final.lives =
      subst (λ (fs : ℕ → Option (Act C)). AreMatched fs final.lives) (sym runs.acts)
      (subst (λ (ls : ℕ → Option Life). AreMatched aside.acts ls) (sym lives) aside_is.matched) in
      let steps : AreSteps w g p real leaves =
      leave-steps w g p real o s still aside_is.owner (nobody-halted level w g p n z aside (front leaves cl) aside_is) in (
        ev,
        record {
          between = between;
          workload = workload;
          event = event;
          number = refl;
          proc = refl;
          history = subst (λ (q : Machine U C). IsHistory level.rules.inside w (events ++ ev ∷ []) (scene_of q)) (sym is) e.history;
          strict = strict-due level w events m p all cl c.history due;
          stops = stops-first_both all cl (stops leaves (leave-no_stop p o s still)) e.closes;
          lawful = lawful leaves kk e (leave-passage p o s still) steps;
          matched = subst (λ (q : Machine U C). AreMatched q.kernel.acts final.lives) (sym is) matched_now;
          fit = subst (λ (q : Machine U C). AreFit level.fits w final q.users (contexts_of q)) (sym is) fit_now;
        },
      )

  block-either : MayEnter k p g entry
      → (upcalls k p entry ≡ true → Welcomed level.calls level.stands level.keep w g g p (kernel_entered p n entry y))
      → upcalls k p entry ≡ can_upcall k s
      → let after : Machine U C = entered_on level.calls p n entry y in
      IsBetween level.stands after → after.workload ≡ w → after.event ≡ g
      → (ev : Event) × Goes level w events m p after ev
  block-either fit new up between workload event = go (can_upcall k s) refl
    where
      go : (b : Bool) → can_upcall k s ≡ b → (ev : Event) × Goes level w events m p (entered_on level.calls p n entry y) ev
      go true resident = block-up fit resident (new (up ∙ resident)) (up ∙ resident) between workload event
      go false resident = block-leave fit resident (up ∙ resident) between workload event

module _ {U C : Type 0} (level : UserLevel U C) where
  -- THE TURN of a step that blocks.
  pub block-goes : (w : WorkloadView) (events : List Event) (m : Machine U C) (p : ProcNo) (n : ActNo) (s : SpaceNo) (len : ℕ)
      (page : Option ℕ) → (c : IsComposed level w events m)
      → line_of m.kernel p ≡ None → due_of (m.event + 1) m.kernel.under_way ≡ None → m.event + 1 ≤ MAX_EVENTS
      → m.kernel.acts n.0 ≡ None → (here : IsAt level.calls level.stands level.keep (next_event m) p s)
      → let x : Machine U C = next_event m in
      let st = level.calls.stepped here.user (seen_on x p s) here.ctx in
      let after : Machine U C = blocked level.calls p n len page (step_to level.calls p s st x) in
      st.answer ≡ BlockAsked len page
      → IsBetween level.stands after → after.workload ≡ w → after.event ≡ m.event + 1
      → (ev : Event) × Goes level w events m p after ev
  block-goes w events m p n s len page c low due few unused here asks between workload event =
      let x : Machine U C = next_event m in
      let g = m.event + 1 in
      let k = x.kernel in
      let b = begins-now level w events m p c in
      let st = level.calls.stepped here.user (seen_on x p s) here.ctx in
      let held : Stopped C = record { ctx = st.ctx; thread = level.calls.thread st.user st.ctx; idle = level.calls.idle st.user st.ctx } in
      let entry : Entry C = BlockEntry held len page in
      let z : Machine U C = step_to level.calls p s st x in
      let y : Machine U C = without_context p z in
      let rest = rests-stepped level.calls level.stands level.keep w m.event g x p s b.rest here (omega arith) few in
      let there = stepped-at level w m.event g p s x b.rest here st in
      let law = step-law level.calls level.stands level.keep m.event x p s b.rest.standing here (omega arith) few in
      let ask = subst (λ (q : Step). IsAsked (setting x.workload s.0 here.def) (seen_on x p s) q) asks law.asked in
      let is_held : stopped_in level.calls z p (owner_of z.kernel p) ≡ Some held =
      stopped-is level.calls level.stands level.keep z p s there in
      let can = can-block level.calls level.stands level.keep w g g z p n s len page held rest here.owner low unused
      (own-page level.calls level.stands level.keep page ask.2) is_held in
      let up : upcalls k p entry ≡ can_upcall k s =
      ap (λ (o : Option SpaceNo). upcalls_in k o (life_of k p)) here.owner ∙ ap (λ (l : Option ActNo). upcalls_in k (Some s) l) here.life in
      let is : blocked level.calls p n len page z ≡ entered_on level.calls p n entry y =
      ap (λ (h : Option (Stopped C)). blocked_on level.calls p n len page h y) is_held in
      let between_is = subst (λ (q : Machine U C). IsBetween level.stands q) is between in
      let workload_is = ap (λ (q : Machine U C). q.workload) (sym is) ∙ workload in
      let event_is = ap (λ (q : Machine U C). q.event) (sym is) ∙ event in
      subst (λ (q : Machine U C). (ev : Event) × Goes level w events m p q ev) (sym is)
      (block-either level w events m c p n s len page low due few unused here asks can.fit
      (λ is_up. welcomed-upcall level.calls level.stands level.keep w g g z p n entry can.state rest here.within can.fit
      unused can.pauses is_up) up between_is workload_is event_is)
