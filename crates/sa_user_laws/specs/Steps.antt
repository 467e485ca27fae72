-- When what a user level does is legal: its steps, and its runs of local instructions.
use Rattle.std.specs.Prelude.{◌≡◌, ◌≢◌, ℕ, ◌+◌, ◌-◌, ◌⊎◌, Bool, true, false, List, [], ◌∷◌, ◌++◌, map, Option, Some, None}
use Rattle.sa_base.specs.declared.number.ProcNo.{ProcNo}
use Rattle.sa_base.specs.declared.number.SpaceNo.{SpaceNo}
use Rattle.sa_base.specs.declared.number.ActNo.{ActNo}
use Rattle.sa_base.specs.declared.number.IoNo.{IoNo}
use Rattle.sa_base.specs.declared.context.Seen.{Seen}
use Rattle.sa_base.specs.declared.record.Record.{Record}
use Rattle.sa_base.specs.declared.record.Record.TheVariants.{Block as BlockRecord, Want, Line, GiveBack as GiveBackRecord, Tick}
use Rattle.sa_lemmas.specs.Function.{put}
use Rattle.sa_spaces.specs.Workload.{WorkloadView}
use Rattle.sa_abstract.specs.Setting.{Setting}
use Rattle.sa_abstract.specs.Calls.{Calls, Contexts, Stepped}
use Rattle.sa_abstract.specs.declared.answer.Step.{Step}
use Rattle.sa_abstract.specs.declared.answer.Step.TheVariants.{Did, Block, More, Idle, GiveBack, InterruptOwn}
use Rattle.sa_devices.specs.declared.kind.IoKind.{IoKind}
use Rattle.sa_devices.specs.declared.kind.IoKind.TheVariants.{Plain, Page}
use Rattle.sa_laws.specs.Event.{Event}
use Rattle.sa_laws.specs.Readings.{Readings, demand_of, taken_of}
use Rattle.sa_laws.specs.Record.{blocking}
use Rattle.sa_laws.specs.History.{event_begun, after_records, after_event, with_step, is_step}
use Rattle.sa_laws.specs.Shape.{own_part}
use Rattle.sa_laws.specs.Step.{Needs, AreSteps}
use Rattle.sa_laws.specs.Turns.{IsClosing, IsPassage, IsInterrupt, IsOver, IsLocalIns}
use Rattle.sa_laws.specs.Rules.{UserRules}
use Rattle.sa_user_laws.specs.Moments.{Alike, AlikeButDemands, Sees}
use Rattle.sa_user_laws.specs.Scene.{Fits, event_begun_at}

-- an event with these records of its own, and a closing after them
abbrev pub event_with : ℕ → ProcNo → List Record → List Record → Event
event_with e p own closing = record { number = e; proc = p; records = own ++ closing }

-- A closing comes after an event's own records, which read as its own.
pub record IsClosed (own closing : List Record) : Type 0 where
  pub closes : IsClosing closing
  pub is_own : own_part (own ++ closing) ≡ own

-- The user level's rules hold at an event of its own.
pub record RulesHold (rules : UserRules) (w : WorkloadView) (r : Readings) (ev : Event) (own : List Record) : Type 0 where
  pub steps : rules.Steps w (event_begun w ev r) ev.proc own
  pub demand : rules.Demand w r ev
  pub locks : rules.Locks w r ev
  pub order : rules.Order w r ev

-- The rules that a user level brings hold at an event of the kernel's, where no step is asked for.
pub record RulesPass (rules : UserRules) (w : WorkloadView) (r : Readings) (ev : Event) : Type 0 where
  pub demand : rules.Demand w r ev
  pub locks : rules.Locks w r ev
  pub order : rules.Order w r ev

-- the records of the kernel's events: an interrupt, a completion, a tick
abbrev pub AreKernels : List Record → Type 0
AreKernels own = IsInterrupt own ⊎ (((kind : IoKind) × IsOver kind own) ⊎ (own ≡ Tick ∷ []))

-- an event begins with a record that makes it a step of the running life
abbrev pub begins_step : List Record → Bool
begins_step [] = false
begins_step (x ∷ xs) = is_step x

-- what a block is for: an I/O of its life, or a page
abbrev pub io_of : SpaceNo → ActNo → Option ℕ → IoKind
io_of s a None = Plain s a
io_of s a (Some k) = Page s a k

-- the records that the kernel writes where a step asks for something, but for a block
abbrev pub records_asked : Readings → SpaceNo → Step → List Record
records_asked r s (More n) = Want s (demand_of r s + n) ∷ []
records_asked r s Idle = Want s (demand_of r s - 1) ∷ []
records_asked r s GiveBack = map GiveBackRecord (taken_of r s)
records_asked r s (InterruptOwn q) = Line q ∷ []
records_asked r s _ = []

module _ (rules : UserRules) where
  -- A local instruction is a legal event of its own, whether or not a slice ends with it.
  pub record IsLegalIns (w : WorkloadView) (e : ℕ) (p : ProcNo) (r : Readings) (x : Record) : Type 0 where
    pub needs : Needs w p (event_begun_at w e p r) x
    pub is_local : IsLocalIns w (event_begun_at w e p r) (x ∷ [])
    pub rules_hold : (closing : List Record) → IsClosed (x ∷ []) closing → RulesHold rules w r (event_with e p (x ∷ []) closing) (x ∷ [])

  -- Local instructions that are committed at once: each is legal, and after the last, with which a slice may end,
  -- this holds.
  abbrev pub AreLegalIns : WorkloadView → ℕ → ProcNo → Readings → List Record → (Readings → Type 0) → Type 0
  AreLegalIns w e p r [] finally = finally r
  AreLegalIns w e p r (x ∷ []) finally =
      IsLegalIns w e p r x
      × ((closing : List Record) → IsClosed (x ∷ []) closing
      → Alike (after_records w e p (event_begun_at w e p r) (x ∷ [])) (after_records w e p (event_begun_at w e p r) (x ∷ closing))
      → finally (after_event rules.inside w r (event_with e p (x ∷ []) closing)))
  AreLegalIns w e p r (x ∷ y ∷ xs) finally =
      IsLegalIns w e p r x × AreLegalIns w (e + 1) p (after_event rules.inside w r (event_with e p (x ∷ []) [])) (y ∷ xs) finally

-- A step, before which r was read, of the running life a of processor p in event e.
module _ {U C : Type 0} (calls : Calls U C) (rules : UserRules) (fits : Fits U C) where
  -- One that asks for nothing adds a record. A slice may end with its event.
  pub record IsLegalDid (w : WorkloadView) (s : Setting) (r : Readings) (p : ProcNo) (e : ℕ) (a : ActNo) (cs : Contexts C) (st : Stepped U C) : Type 0 where
    pub some : st.says ≢ []
    pub rules_hold : (closing : List Record) → IsClosed st.says closing → RulesHold rules w r (event_with e p st.says closing) st.says
    pub after : (closing : List Record) → IsClosed st.says closing
        → Alike (after_records w e p (event_begun_at w e p r) st.says) (after_records w e p (event_begun_at w e p r) (st.says ++ closing))
        → fits w s (after_event rules.inside w r (event_with e p st.says closing)) st.user (put cs a.0 (Some st.ctx))

  -- One that asks for a hint, for the return of activations, or for a line, adds none. The kernel's records and the
  -- closing follow, and then the context goes on, whatever it sees there.
  pub record IsLegalAsk (w : WorkloadView) (s : Setting) (r : Readings) (p : ProcNo) (e : ℕ) (a : ActNo) (cs : Contexts C) (st : Stepped U C) : Type 0 where
    pub none : st.says ≡ []
    pub rules_hold : (closing : List Record) → IsClosed (records_asked r s.space st.answer) closing
        → RulesHold rules w r (event_with e p (records_asked r s.space st.answer) closing) (records_asked r s.space st.answer)
    pub after : (closing : List Record) (seen : Seen) → IsClosed (records_asked r s.space st.answer) closing
        → let own = records_asked r s.space st.answer in
        let last = after_records w e p (event_begun_at w e p r) (own ++ closing) in
        AlikeButDemands (after_records w e p (event_begun_at w e p r) own) last
        → Sees s.space last p e seen
        → fits w s (after_event rules.inside w r (event_with e p own closing)) (calls.answered st.user seen st.ctx).0
        (put (put cs a.0 (Some st.ctx)) a.0 (Some (calls.answered st.user seen st.ctx).1))

  -- One that asks for a block. The own event of its life ends with the block, whatever the kernel writes after it; an
  -- upcall in the same event begins from that moment.
  pub record IsLegalBlock (w : WorkloadView) (s : Setting) (r : Readings) (p : ProcNo) (e : ℕ) (a : ActNo) (cs : Contexts C) (st : Stepped U C) (len : ℕ)
      (page : Option ℕ) : Type 0 where
    pub begins : (io : IoNo) → begins_step (st.says ++ BlockRecord s.space (calls.thread st.user st.ctx) a io ∷ []) ≡ true
    pub for : blocking w (after_records w e p (event_begun_at w e p r) st.says) s.space (calls.thread st.user st.ctx) a
        ≡ record { kind = io_of s.space a page; length = len }
    pub needs : (io : IoNo) → Needs w p (after_records w e p (event_begun_at w e p r) st.says) (BlockRecord s.space (calls.thread st.user st.ctx) a io)
    pub rules_hold : (io : IoNo) (passage closing : List Record)
        → let own = st.says ++ BlockRecord s.space (calls.thread st.user st.ctx) a io ∷ passage in
        IsPassage passage → IsClosed own closing → RulesHold rules w r (event_with e p own closing) own
    pub after : (io : IoNo) (behind : List Record)
        → let own = st.says ++ BlockRecord s.space (calls.thread st.user st.ctx) a io ∷ [] in
        let here = after_records w e p (event_begun_at w e p r) own in
        let ev = event_with e p own behind in
        (last : Readings) → last.state.spaces ≡ here.state.spaces
        → fits w s (record here { lives = with_step rules.inside w r ev last ev.records here.lives }) st.user (put cs a.0 (Some st.ctx))

  abbrev pub IsLegalAnswer : WorkloadView → Setting → Readings → ProcNo → ℕ → ActNo → Contexts C → Stepped U C → Step → Type 0
  IsLegalAnswer w s r p e a cs st Did = IsLegalDid w s r p e a cs st
  IsLegalAnswer w s r p e a cs st (Block len page) = IsLegalBlock w s r p e a cs st len page
  IsLegalAnswer w s r p e a cs st (InterruptOwn q) = IsLegalAsk w s r p e a cs st × rules.Lines w r p q
  IsLegalAnswer w s r p e a cs st answer = IsLegalAsk w s r p e a cs st

  -- Its records are steps of the abstract machine, and what follows is legal by what it asks for.
  pub record IsLegalStep (w : WorkloadView) (s : Setting) (r : Readings) (p : ProcNo) (e : ℕ) (a : ActNo) (cs : Contexts C) (st : Stepped U C) : Type 0 where
    pub steps : AreSteps w e p (event_begun_at w e p r) st.says
    pub answer : IsLegalAnswer w s r p e a cs st st.answer
