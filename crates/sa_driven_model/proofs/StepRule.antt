-- A step, and a notice, keep all standing.
use Rattle.std.proofs.Common.{◌≡◌, ◌≢◌, ℕ, ◌+◌, ◌-◌, ◌≤◌, ◌<◌, Bool, true, false, cond, not, ◌&&◌, ◌||◌, ◌==◌, nat_lt, nat_le, List, [], ◌∷◌, length, Option, Some, None, is_none, IfSome, All, refl, sym, ap, ◌∙◌, subst, inl, inr, arith}
use Rattle.std.proofs.lemmas.Bool.{and_parts, eqb-true}
use Rattle.std.proofs.lemmas.Bool.Decides.{nat_tests}
use Rattle.std.proofs.lemmas.List.Elements.{All-cons, All-nil, All-get_or}
use Rattle.std.specs.Int.{bit_at}
use Rattle.sa_base.specs.declared.number.ProcNo.{ProcNo}
use Rattle.sa_base.specs.declared.number.ThreadNo.{ThreadNo}
use Rattle.sa_base.specs.declared.limits.TheConstants.{MAX_EVENTS, PAGES, FIRST_THREAD_PAGE, PACKAGE_PAGE}
use Rattle.sa_base.specs.declared.context.Seen.{Seen}
use Rattle.sa_base.specs.declared.context.Stopped.{Stopped}
use Rattle.sa_base.specs.declared.record.Note.{Note}
use Rattle.sa_base.specs.declared.record.Note.TheVariants.{Preempted, Unblocked}
use Rattle.sa_base.specs.declared.record.Record.{Record}
use Rattle.sa_base.specs.declared.record.Record.TheVariants as records
use Rattle.sa_instr.specs.declared.limits.TheConstants.{LAST_PAGE, MAX_FETCH, MAX_IO_LENGTH}
use Rattle.sa_instr.specs.Instr.{IsInRange}
use Rattle.sa_instr.specs.Program.{IsProgram}
use Rattle.sa_instr.specs.declared.instr.Reg.{Reg}
use Rattle.sa_instr.specs.declared.instr.Instr.{Instr}
use Rattle.sa_instr.specs.declared.instr.Instr.TheVariants.{Out, Fork, Join, Lock, Unlock, Wait, Signal, Io, Touch, End}
use Rattle.sa_spaces.specs.Space.{SpaceView, IsSpace}
use Rattle.sa_abstract.specs.declared.answer.Step.{Step}
use Rattle.sa_abstract.specs.declared.answer.Step.TheVariants as asks
use Rattle.sa_abstract.specs.Setting.{Setting}
use Rattle.sa_abstract.specs.Walk.{program_at}
use Rattle.sa_abstract.specs.Calls.{Contexts, Stepped}
use Rattle.sa_abstract.specs.Keeps.{IsSeen, IsHandedOver, IsHanded, IsAsked, IsOwn, IsStepped, told_contexts}
use Rattle.sa_lemmas.specs.Function.{put}
use Rattle.sa_lemmas.proofs.FunctionUpdates.{put-self}
use Rattle.sa_lists.specs.ReadyView.{next_made}
use Rattle.sa_code.specs.Micro.{is_resident}
use Rattle.sa_sync.specs.declared.answer.SyncAnswer.{SyncAnswer}
use Rattle.sa_sync.specs.declared.answer.SyncAnswer.TheVariants as answer
use Rattle.sa_fast.specs.declared.threads.Block.{Block}
use Rattle.sa_fast.specs.declared.shared.Shared.{Shared}
use Rattle.sa_fast.specs.declared.threads.KeptPlace.TheVariants as place
use Rattle.sa_fast.specs.declared.instruction.Ran.{Ran}
use Rattle.sa_fast.specs.declared.instruction.Ran.TheVariants.{Goes, Leaves, Blocks}
use Rattle.sa_fast.specs.Threads.{block_at}
use Rattle.sa_fast.specs.Work.{work_of}
use Rattle.sa_fast.specs.Instruction.{told_by, forked, touched, outcome_of, instr_of, says_of, IsAt}
use Rattle.sa_fast.specs.Rest.{is_ready, place_at}
use Rattle.sa_fast.proofs.RunSteps.{made_below}
use Rattle.sa_package_model.proofs.Parts.{parts_later}
use Rattle.sa_driven_model.specs.declared.context.DrivenContext.{DrivenContext}
use Rattle.sa_driven_model.specs.declared.space.DrivenSpace.{DrivenSpace}
use Rattle.sa_driven_model.specs.declared.reply.Reply.{Reply}
use Rattle.sa_driven_model.specs.declared.reply.Reply.TheVariants.{Ins, Run, Ready, Cont, Back, Take, Free, Spin, Idle, Want, GiveBack, Line}
use Rattle.sa_driven_model.specs.Threads.{has, with_some, without_thread, with_all}
use Rattle.sa_driven_model.specs.Context.{settled, says_idle}
use Rattle.sa_driven_model.specs.Reply.{can, can_cont, can_want}
use Rattle.sa_driven_model.specs.Step.{moved, handed_over, picked_up, carries, asks_for, idles, faults, faulted, page_of, is_next_local, ran_by, after_run, run_of, ran, runs, readies, wants, done, done_if, without_reply, stepped, took_over, told_of, told}
use Rattle.sa_driven_model.specs.Stands.{IsStanding, driven_stands}
use Rattle.sa_driven_model.proofs.Places.{carried_free}
use Rattle.sa_driven_model.proofs.Changing.{IsValue, IsChange, change-stands, join-stands}
use Rattle.sa_driven_model.proofs.InsRule.{ran_change, runs as thread_runs}
use Rattle.sa_driven_model.proofs.Rules.{still_change, fault_change, run_change, ready_change, cont_change, back_change, over_join, no_thread}

-- WHAT IS ASKED. An instruction blocks for a length, and for a page, in their ranges
abbrev CanBlock : Ran → Type 0
CanBlock (Blocks length page) = (1 ≤ length) × (length ≤ MAX_IO_LENGTH) × IfSome page (λ k. (1 ≤ k) × (k < PAGES))
CanBlock _ = Unit {0}

told_blocks : (x : Shared) (w : Option ThreadNo) (t : ThreadNo) (b : Block) (a : SyncAnswer) → CanBlock (told_by x w t b a).answer
told_blocks x w t b answer.Goes = tt
told_blocks x w t b _ = tt

forked_blocks : (x : Shared) (w : Option ThreadNo) (t : ThreadNo) (b : Block) (reg : Reg) (program : ℕ) (made : Option ℕ)
    → CanBlock (forked x w t b reg program made).answer
forked_blocks x w t b reg program None = tt
forked_blocks x w t b reg program (Some n) = tt

touched_blocks : (x : Shared) (w : Option ThreadNo) (t : ThreadNo) (b : Block) (fetch page : ℕ) (there : Bool) → 1 ≤ fetch → fetch ≤ MAX_FETCH
    → FIRST_THREAD_PAGE ≤ page → page ≤ LAST_PAGE → CanBlock (touched x w t b fetch page there).answer
touched_blocks x w t b fetch page true some few first last = tt
touched_blocks x w t b fetch page false some few first last = (some, omega arith, (omega arith, omega arith))

blocks : (fetch pages : ℕ) (x : Shared) (w : Option ThreadNo) (t : ThreadNo) (b : Block) (i : Instr) → 1 ≤ fetch → fetch ≤ MAX_FETCH → IsInRange i
    → CanBlock (outcome_of fetch pages x w t b i).answer
blocks fetch pages x w t b (Fork reg program) some few range = forked_blocks x w t b reg program (next_made x.state.lists)
blocks fetch pages x w t b (Join reg) some few range = told_blocks _ w t _ _
blocks fetch pages x w t b (Lock m) some few range = told_blocks _ w t _ _
blocks fetch pages x w t b (Unlock m) some few range = told_blocks _ w t _ _
blocks fetch pages x w t b (Wait k) some few range = told_blocks _ w t _ _
blocks fetch pages x w t b (Signal k) some few range = told_blocks _ w t _ _
blocks fetch pages x w t b (Io length) some few range = (range.0.0, range.0.1, tt)
blocks fetch pages x w t b (Touch page) some few range = touched_blocks x w t b fetch page (is_resident pages page) some few range.0.0 range.0.1
blocks fetch pages x w t b _ some few range = tt

-- an instruction of a space is in its range
in_range : (def : SpaceView) (b : Block) → IsSpace def → IsAt def b → IsInRange (instr_of def b)
in_range def b h at =
    let program : IsProgram (program_at def.programs b.program) = All-get_or IsProgram def.programs b.program [] at.program h.programs in
    All-get_or IsInRange (program_at def.programs b.program) b.pc End at.pc program.ranges

-- the package's page comes first
page_fits : (first : Bool) (page : Option ℕ) → IfSome page (λ k. (1 ≤ k) × (k < PAGES)) → IfSome (page_of first page) (λ k. (1 ≤ k) × (k < PAGES))
page_fits true (Some k) fits = (omega arith, omega arith)
page_fits true None fits = fits
page_fits false page fits = fits

raise_fits : (demand n processors : ℕ) → nat_lt demand n ≡ true → ((nat_lt demand n && nat_le n processors) || n + 1 == demand) ≡ true
    → (1 ≤ n - demand) × (demand + (n - demand) ≤ processors)
raise_fits demand n processors more is =
    let below : demand < n = grind (arith, nat_tests) in
    let most : n ≤ processors = grind (arith, nat_tests) in
    (omega (arith, below), omega (arith, below, most))

lower_fits : (demand n processors : ℕ) → nat_lt demand n ≡ false → ((nat_lt demand n && nat_le n processors) || n + 1 == demand) ≡ true → 1 ≤ demand
lower_fits demand n processors less is = grind (arith, nat_tests)

line_fits : (q p low processors : ℕ) → (not (q == p) && nat_lt q processors && bit_at low q == 1) ≡ true
    → (q ≢ p) × (q < processors) × (bit_at low q ≡ 1)
line_fits q p low processors is =
    let outer = and_parts (not (q == p) && nat_lt q processors) (bit_at low q == 1) is in
    let inner = and_parts (not (q == p)) (nat_lt q processors) outer.0 in
    let apart : not (q == p) ≡ true = inner.0 in
    let below : nat_lt q processors ≡ true = inner.1 in
    (grind (arith, nat_tests), grind (arith, nat_tests), eqb-true (bit_at low q) 1 outer.1)

later_value : (s : Setting) (e f : ℕ) (v : DrivenSpace) → IsValue s e v → e ≤ f → IsValue s f v
later_value s e f v k later = record {
  made = k.made;
  parts = parts_later v.base.def v.base.processors e f v.base.shared k.parts later;
  unused = k.unused;
  places = k.places;
  somewhere = k.somewhere;
  handed = k.handed;
}

module _ (s : Setting) (e : ℕ) (u : DrivenSpace) (cs : Contexts DrivenContext) (h : IsStanding s e u cs) (a : ℕ) (c : DrivenContext) (is : cs a ≡ Some c)
    (seen : Seen) (later : e < seen.event) (within : seen.event ≤ MAX_EVENTS) where
  abbrev Well : Stepped DrivenSpace DrivenContext → Type 0
  Well r = IsStepped driven_stands s seen cs a r

  abbrev Own : List Record → Type 0
  Own says = All (IsOwn s.space) says × (length says ≤ 4)

  none : Own []
  none = (All-nil (IsOwn s.space), omega arith)

  one : (r : Record) → IsOwn s.space r → Own (r ∷ [])
  one r own = (All-cons (IsOwn s.space) r [] own (All-nil (IsOwn s.space)), omega arith)

  two : (r q : Record) → IsOwn s.space r → IsOwn s.space q → Own (r ∷ q ∷ [])
  two r q own its = (All-cons (IsOwn s.space) r (q ∷ []) own (one q its).0, omega arith)

  stands_by : (v : DrivenSpace) (new : DrivenContext) (more : ℕ) → more ≤ 1 → IsChange s e u v (Some c) new more
      → IsStanding s seen.event v (put cs a (Some new))
  stands_by v new more small k =
      change-stands s e u cs h seen.event a more v (Some c) new is
      (record { value = later_value s e seen.event v k.value (omega (arith, later)); carries = k.carries; locks = k.locks; hand = k.hand })
      (omega (arith, later, small)) (inr within)

  well : (v : DrivenSpace) (new : DrivenContext) (more : ℕ) (says : List Record) (answer : Step) → more ≤ 1 → IsChange s e u v (Some c) new more
      → IsAsked s seen answer → Own says → Well (asks_for v new says answer)
  well v new more says answer small k asked own = record { value = stands_by v new more small k; asked = asked; own = own.0; few = own.1 }

  did_well : (v : DrivenSpace) (new : DrivenContext) (more : ℕ) (r : Record) → more ≤ 1 → IsChange s e u v (Some c) new more → IsOwn s.space r
      → Well (asks_for v new (r ∷ []) asks.Did)
  did_well v new more r small k own = well v new more (r ∷ []) asks.Did small k tt (one r own)

  idles_well : Well (idles u c)
  idles_well = did_well u (says_idle u c) 0 records.Idle (omega arith) (still_change s e u cs h a c is (says_idle u c) 0 refl refl (omega arith)) tt

  some_fetch : 1 ≤ u.base.fetch
  some_fetch = subst (λ n. 1 ≤ n) (sym h.made.fetch) h.made.setting.some_fetch

  few_fetch : u.base.fetch ≤ MAX_FETCH
  few_fetch = subst (λ n. n ≤ MAX_FETCH) (sym h.made.fetch) h.made.setting.short_fetch

  faulted_well : Well (faulted u c)
  faulted_well = well (moved u c.thread place.Blocked) c 0 [] (asks.Block u.base.fetch (Some PACKAGE_PAGE)) (omega arith) (fault_change s e u cs h a c is)
      (let some = some_fetch in let few = few_fetch in (some, omega (arith, few), (omega arith, omega arith))) none

  -- INS
  touched_own : (t : ThreadNo) (b : Block) (there : Bool) → Own (cond there (records.Ins u.base.shared.state.space t b.pc ∷ []) [])
  touched_own t b true = one _ h.made.space
  touched_own t b false = none

  says_own : (t : ThreadNo) (b : Block) (i : Instr) → Own (says_of u.base.shared.state.space t b seen.pages i)
  says_own t b (Out reg) = two _ _ h.made.space h.made.space
  says_own t b (Touch page) = touched_own t b (is_resident seen.pages page)
  says_own t b _ = one _ h.made.space

  -- by the answer, whatever the value and the context are afterwards
  outcome_well : (v : DrivenSpace) (d : DrivenContext) (local : Bool) (answer : Ran) (says : List Record)
      → IsStanding s seen.event (ran_by v seen d local answer says).user (put cs a (Some (ran_by v seen d local answer says).ctx))
      → CanBlock answer → Own says → Well (ran_by v seen d local answer says)
  outcome_well v d local Goes says there blocks own = record { value = there; asked = tt; own = own.0; few = own.1 }
  outcome_well v d local Leaves says there blocks own = record { value = there; asked = tt; own = own.0; few = own.1 }
  outcome_well v d local (Blocks length page) says there blocks own =
      record { value = there; asked = (blocks.0, blocks.1, page_fits (faults seen d) page blocks.2); own = own.0; few = own.1 }

  ran_well : (t : Option ThreadNo) → c.thread ≡ t → Well (ran u seen c t)
  ran_well None at = idles_well
  ran_well (Some t) at =
      let o = run_of u seen t in
      let b = block_at u.base.shared.threads t.0 in
      let says = says_of u.base.shared.state.space t b seen.pages (instr_of u.base.def b) in
      let d : DrivenContext = record c { hand = with_all c.hand (work_of o.shared.works o.work) } in
      let free = carried_free u.base.shared u.handed t.0 (h.somewhere t.0) (thread_runs s e u cs h a c is t at) in
      let there : IsAt u.base.def b = h.parts.at t.0 (made_below u.base.shared.state.lists t.0 (omega (arith, free.0))) in
      let local = is_next_local u t in
      outcome_well (after_run u o) d local o.answer says
      (change-stands s e u cs h seen.event a 0 (ran_by (after_run u o) seen d local o.answer says).user (Some c)
      (ran_by (after_run u o) seen d local o.answer says).ctx is
      (ran_change s e u cs h a c is t at seen.pages seen.event seen local o.answer says later refl) (omega (arith, later)) (inl refl))
      (blocks u.base.fetch seen.pages u.base.shared None t b (instr_of u.base.def b) some_fetch few_fetch
      (in_range u.base.def b (subst IsSpace (sym h.made.def) h.made.setting.def) there))
      (says_own t b (instr_of u.base.def b))

  -- RUN, READY, WANT
  runs_well : (t : ThreadNo) (fault : Bool) → (is_none c.thread && is_ready (place_at u.base.shared t.0)) ≡ true → Well (runs u seen c t fault)
  runs_well t true can = faulted_well
  runs_well t false can =
      let both = and_parts (is_none c.thread) (is_ready (place_at u.base.shared t.0)) can in
      let v = moved u (Some t) place.Running in
      let new = settled v seen (carries c (Some t)) in
      did_well v new 0 (records.Run u.base.shared.state.space t) (omega arith)
      (run_change s e u cs h a c is t new (no_thread c.thread both.0) both.1 refl refl refl) h.made.space

  readies_well : (t : ThreadNo) (fault : Bool) → has u.handed t.0 ≡ true → Well (readies u seen c t fault)
  readies_well t true can = faulted_well
  readies_well t false can =
      let v = picked_up u (Some t) place.Ready in
      let new = settled v seen (record c { hand = without_thread c.hand t.0 }) in
      did_well v new 0 (records.Ready u.base.shared.state.space t) (omega arith)
      (ready_change s e u cs h a c is t new can refl refl refl) h.made.space

  wants_well : (n : ℕ) (more : Bool) → nat_lt seen.demand n ≡ more → can_want u seen n ≡ true → Well (wants u seen c n more)
  wants_well n true test can =
      let fits = raise_fits seen.demand n u.base.processors test can in
      well u c 0 [] (asks.More (n - seen.demand)) (omega arith) (still_change s e u cs h a c is c 0 refl refl (omega arith))
      (fits.0, subst (λ p. seen.demand + (n - seen.demand) ≤ p) h.made.processors fits.1) none
  wants_well n false test can =
      well u (record c { lowers = true }) 0 [] asks.Idle (omega arith) (still_change s e u cs h a c is (record c { lowers = true }) 0 refl refl (omega arith))
      (lower_fits seen.demand n u.base.processors test can) none

  -- THE REPLIES
  done_well : (reply : Reply) → can u seen c reply ≡ true → Well (done u seen c reply)
  done_well Ins can = ran_well c.thread refl
  done_well (Run t) can = runs_well t (faults seen c) can
  done_well (Ready t) can = readies_well t (faults seen c) can
  done_well (Cont t) can =
      let both = and_parts (is_none c.thread) (can_cont u t) can in
      let v = picked_up u t place.Running in
      let new = settled v seen (record c { thread = t; continues = true }) in
      did_well v new 0 (records.Cont u.base.shared.state.space t) (omega arith)
      (cont_change s e u cs h a c is t new (no_thread c.thread both.0) both.1 refl refl refl) h.made.space
  done_well Back can =
      let v = handed_over u c.thread in
      let new = settled v seen (record c { thread = None; continues = false; hand = with_some c.hand c.thread }) in
      did_well v new 0 (records.Back u.base.shared.state.space c.thread) (omega arith) (back_change s e u cs h a c is new refl refl refl) h.made.space
  done_well (Take l) can =
      let new = settled u seen (record c { locks = c.locks + 1 }) in
      did_well u new 1 (records.Take u.base.shared.state.space l c.thread) (omega arith)
      (still_change s e u cs h a c is new 1 refl refl (omega arith)) h.made.space
  done_well (Free l) can =
      let new = settled u seen (record c { locks = c.locks - 1 }) in
      did_well u new 0 (records.Free u.base.shared.state.space l c.thread) (omega arith)
      (still_change s e u cs h a c is new 0 refl refl (omega arith)) h.made.space
  done_well (Spin l) can =
      let new = settled u seen c in
      did_well u new 0 (records.Spin l) (omega arith) (still_change s e u cs h a c is new 0 refl refl (omega arith)) tt
  done_well Idle can = idles_well
  done_well (Want n) can = wants_well n (nat_lt seen.demand n) refl can
  done_well GiveBack can =
      well u c 0 [] asks.GiveBack (omega arith) (still_change s e u cs h a c is c 0 refl refl (omega arith))
      (let some : nat_lt 0 seen.taken ≡ true = can in grind (arith, nat_tests)) none
  done_well (Line q) can =
      let fits = line_fits q.0 seen.proc.0 seen.low u.base.processors can in
      well u c 0 [] (asks.InterruptOwn q) (omega arith) (still_change s e u cs h a c is c 0 refl refl (omega arith))
      ((λ same. fits.0 (ap (λ (p : ProcNo). p.0) same)), subst (λ p. q.0 < p) h.made.processors fits.1, fits.2) none

  done_by : (reply : Reply) (test : Bool) → can u seen c reply ≡ test → Well (cond test (done u seen c reply) (idles u c))
  done_by reply true is = done_well reply is
  done_by reply false is = idles_well

  pub done_if_well : (reply : Option Reply) → Well (done_if u seen c reply)
  done_if_well None = idles_well
  done_if_well (Some reply) = done_by reply (can u seen c reply) refl

-- A STEP
pub without_stands : (s : Setting) (e : ℕ) (u : DrivenSpace) (cs : Contexts DrivenContext) → IsStanding s e u cs → IsStanding s e (without_reply u) cs
without_stands s e u cs h = record {
  made = h.made;
  parts = h.parts;
  unused = h.unused;
  places = h.places;
  somewhere = h.somewhere;
  carries = h.carries;
  locks = h.locks;
  within = h.within;
  handed = h.handed;
  hands = h.hands;
}

pub steps_well : (s : Setting) (e : ℕ) (u : DrivenSpace) (cs : Contexts DrivenContext) (a : ℕ) (c : DrivenContext) (seen : Seen)
    → IsStanding s e u cs → cs a ≡ Some c → IsSeen s seen → e < seen.event → seen.event ≤ MAX_EVENTS → IsStepped driven_stands s seen cs a (stepped u seen c)
steps_well s e u cs a c seen h is sees later within =
    done_if_well s e (without_reply u) cs (without_stands s e u cs h) a c is seen later within u.reply

-- A NOTICE
module _ (s : Setting) (e : ℕ) (u : DrivenSpace) (cs : Contexts DrivenContext) (h : IsStanding s e u cs) (a : ℕ) (c : DrivenContext) (is : cs a ≡ Some c) where
  unchanged_stands : IsStanding s e u (put cs a (Some c))
  unchanged_stands = subst (λ xs. IsStanding s e u xs) (sym (ap (put cs a) (sym is) ∙ put-self cs a)) h

  over_stands : (b : ℕ) (held : Option (Stopped DrivenContext)) → IsHandedOver cs a b held
      → IsStanding s e (told_of u c held).0 (put (put cs a (Some (told_of u c held).1)) b None)
  over_stands b held handed =
      let d = handed.stopped.ctx in
      subst (λ o. IsStanding s e (told_of u c o).0 (put (put cs a (Some (told_of u c o).1)) b None)) (sym handed.is)
      (join-stands s e u cs h a b (handed_over u d.thread) c d (took_over c d) is handed.theirs handed.differ
      (over_join s e u cs h a b c d is handed.theirs))

  pub told_stands : (note : Note) (held : Option (Stopped DrivenContext)) → IsHanded cs a note held
      → IsStanding s e (told u c note held).0 (told_contexts cs a (told u c note held).1 note)
  told_stands (Preempted b) held handed = over_stands b.0 held handed
  told_stands (Unblocked b) held handed = over_stands b.0 held handed
  told_stands _ held handed = unchanged_stands
