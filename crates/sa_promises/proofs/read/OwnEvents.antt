-- Own events: which they are, what settles, and which lives are in.
use Rattle.std.proofs.Common.{◌≡◌, ℕ, zero, suc, ◌≤◌, inl, inr, refl, sym, ◌∙◌, ap, subst, arith, Some, None, List, [], ◌∷◌, map, true, false}
use Rattle.std.specs.Prelude.{Option, Bool, not, is_some, if◌then◌else◌, get_or, take_while}
use Rattle.std.specs.Option.{option_map}
use Rattle.std.proofs.lemmas.Option.{none-some}
use Rattle.sa_base.specs.declared.number.SpaceNo.{SpaceNo}
use Rattle.sa_base.specs.declared.number.ProcNo.{ProcNo}
use Rattle.sa_base.specs.declared.number.ActNo.{ActNo}
use Rattle.sa_base.specs.declared.record.Record.{Record}
use Rattle.sa_base.specs.declared.record.Record.TheVariants.{Ins, Out, Unblock, Up, Told, Move, Aim, Fetch, Fetched, Tick}
use Rattle.sa_base.specs.declared.record.Item.{Item}
use Rattle.sa_spaces.specs.Workload.{WorkloadView}
use Rattle.sa_devices.specs.declared.kind.IoKind.{IoKind}
use Rattle.sa_devices.specs.declared.kind.IoKind.TheVariants.{Plain, Page, Upcall}
use Rattle.sa_devices.specs.Ios.{Io, due_of}
use Rattle.sa_laws.specs.Event.{Event}
use Rattle.sa_laws.specs.Life.{Life}
use Rattle.sa_laws.specs.Readings.{Readings, running_of, life_of, owner_of, aim_of, line_of, life_on, space_of_life}
use Rattle.sa_laws.specs.History.{event_begun, is_step}
use Rattle.sa_laws.specs.Shape.{own_part, is_own}
use Rattle.sa_laws.specs.Turns.{IsTurn, IsTurnWhileDue, IsTickOrStep, IsOver, IsLocalIns}
use Rattle.sa_laws.specs.Upcalls.{StopsAndGoes}
use Rattle.sa_laws.specs.Rules.{UserRules, IsLawful}
use Rattle.sa_promises.specs.Needs.{FormedIn, IsFormed, HasForms}
use Rattle.sa_promises.specs.Moments.{runs_on}
use Rattle.sa_promises.specs.Steps.{begins_otherwise, stepping}
use Rattle.sa_promises.proofs.read.Items.{IsRead}
use Rattle.sa_promises.proofs.read.Raised.{Until}

-- records that begin neither a step nor an interrupt nor a completion
abbrev pub is_odd : Record → Bool
is_odd (Out s t v) = true
is_odd (Up s a) = true
is_odd (Told n) = true
is_odd (Move old new) = true
is_odd (Aim p s) = true
is_odd (Fetch s) = true
is_odd Tick = true
is_odd _ = false

-- no turn of a processor with a running life begins with one
odd-interrupt : (p : ProcNo) (r : Readings) (o : SpaceNo) (aim : Option SpaceNo) (x : Record) (others : List Record) → is_odd x ≡ true
    → StopsAndGoes p r (Some o) aim (x ∷ others) → ⊥
odd-interrupt p r o aim (Out s t v) others odd is = is
odd-interrupt p r o aim (Up s a) others odd is = is
odd-interrupt p r o aim (Told n) others odd is = is
odd-interrupt p r o aim (Move old new) others odd is = is
odd-interrupt p r o aim (Aim q s) others odd is = is
odd-interrupt p r o aim (Fetch s) others odd is = is
odd-interrupt p r o aim Tick others odd is = is
odd-interrupt p r o aim x others odd is = absurd (cc)

odd-over : (kind : IoKind) (x : Record) (others : List Record) → is_odd x ≡ true → IsOver kind (x ∷ others) → ⊥
odd-over (Plain t a) (Unblock of u b) others odd is = absurd (cc)
odd-over (Plain t a) x others odd is = is
odd-over (Page t a k) (Unblock of u b) others odd is = absurd (cc)
odd-over (Page t a k) x others odd is = is
odd-over (Upcall t) (Fetched of) others odd is = absurd (cc)
odd-over (Upcall t) x others odd is = is

odd-local : (w : WorkloadView) (r : Readings) (x : Record) (others : List Record) → is_odd x ≡ true → IsLocalIns w r (x ∷ others) → ⊥
odd-local w r (Ins s t i) others odd is = absurd (cc)
odd-local w r x others odd is = is

odd-step : (w : WorkloadView) (r : Readings) (p : ProcNo) (a : Option ActNo) (life : Option Life) (x : Record) (others : List Record) → is_odd x ≡ true
    → FormedIn w r p a life (x ∷ others) → ⊥
odd-step w r p (Some a) (Some life) (Out s t v) others odd is = is
odd-step w r p (Some a) (Some life) (Up s b) others odd is = is
odd-step w r p (Some a) (Some life) (Told n) others odd is = is
odd-step w r p (Some a) (Some life) (Move old new) others odd is = is
odd-step w r p (Some a) (Some life) (Aim q s) others odd is = is
odd-step w r p (Some a) (Some life) (Fetch s) others odd is = is
odd-step w r p (Some a) (Some life) Tick others odd is = is
odd-step w r p (Some a) (Some life) x others odd is = absurd (cc)
odd-step w r p (Some a) None x others odd is = is
odd-step w r p None life x others odd is = is

odd-turn : (w : WorkloadView) (r : Readings) (p : ProcNo) (e : ℕ) (o : SpaceNo) (x : Record) (others : List Record) → is_odd x ≡ true → owner_of r p ≡ Some o
    → IsTurn IsFormed false e w r p (x ∷ others) → ⊥
odd-turn w r p e o x others odd owned is = due (due_of e r.under_way) is where
  stands : (k : Option SpaceNo) → k ≡ Some o → IsTickOrStep IsFormed k w r p (x ∷ others) → ⊥
  stands None same tick = none-some o same
  stands (Some t) same step = odd-step w r p (running_of r p) (life_on r p) x others odd step

  due : (k : Option Io) → IsTurnWhileDue IsFormed k w r p (x ∷ others) → ⊥
  due None step = stands (owner_of r p) owned step
  due (Some io) (inl done) = odd-over io.kind x others odd done
  due (Some io) (inr local) = odd-local w r x others odd local.0

-- the owner of a processor is the space of its running life
abbrev pub OwnedByLives : Readings → Type 0
OwnedByLives r = r.state.owners ≡ map (space_of_life r) r.running

map-at : {A B : Type 0} (f : A → B) (xs : List A) (k : ℕ) (d : A) → get_or (map f xs) k (f d) ≡ f (get_or xs k d)
map-at f [] k d = refl
map-at f (x ∷ xs) zero d = refl
map-at f (x ∷ xs) (suc k) d = map-at f xs k d

pub owner-runs : (r : Readings) (p : ProcNo) → OwnedByLives r → owner_of r p ≡ space_of_life r (running_of r p)
owner-runs r p owned = ap (λ os. get_or os p.0 None) owned ∙ map-at (space_of_life r) r.running p.0 None

has-space : (o : Option Life) (life : Life) → o ≡ Some life → option_map (λ (l : Life). l.space) o ≡ Some life.space
has-space o life is = ap (option_map (λ (l : Life). l.space)) is

-- so the first record of an event with a running life is none of them
no-odd : (rules : UserRules) → HasForms rules → (w : WorkloadView) (r : Readings) (e : Event) (a : ActNo) (life : Life) (x : Record) (others : List Record)
    → IsLawful rules w r e
    → OwnedByLives r → 1 ≤ e.number
    → running_of r e.proc ≡ Some a → life_of r a ≡ Some life → e.records ≡ x ∷ others → is_odd x ≡ true → ⊥
no-odd rules meets w r e a life x others law owned later runs is records odd = one (is_some (line_of r e.proc)) refl where
  owner : owner_of r e.proc ≡ Some life.space
  owner = owner-runs r e.proc owned ∙ ap (space_of_life r) runs ∙ has-space (life_of r a) life is

  stops : StopsAndGoes e.proc (event_begun w e r) (owner_of r e.proc) (aim_of r e.proc) e.records → ⊥
  stops goes = odd-interrupt e.proc (event_begun w e r) life.space (aim_of r e.proc) x others odd
      (subst (λ xs. StopsAndGoes e.proc (event_begun w e r) (Some life.space) (aim_of r e.proc) xs) records
      (subst (λ k. StopsAndGoes e.proc (event_begun w e r) k (aim_of r e.proc) e.records) owner goes))

  turns : IsTurn IsFormed (is_some (line_of r e.proc)) e.number w (event_begun w e r) e.proc (own_part (x ∷ others))
  turns = subst (λ xs. IsTurn IsFormed (is_some (line_of r e.proc)) e.number w (event_begun w e r) e.proc (own_part xs)) records ((meets.formed w r e law).turn later)

  one : (b : Bool) → is_some (line_of r e.proc) ≡ b → ⊥
  one true raised = stops (law.interrupt_next.interrupt raised)
  one false low =
      odd-turn w (event_begun w e r) e.proc e.number life.space x (take_while is_own others) odd owner
      (subst (λ b. IsTurn IsFormed b e.number w (event_begun w e r) e.proc (own_part (x ∷ others))) low turns)

-- a step is what is neither an interrupt nor a completion
step-or : (x : Record) (others : List Record) → (is_odd x ≡ true → ⊥) → is_step x ≡ not (begins_otherwise (x ∷ others))
step-or (Out s t v) others plain = absurd (plain refl)
step-or (Up s a) others plain = absurd (plain refl)
step-or (Told n) others plain = absurd (plain refl)
step-or (Move old new) others plain = absurd (plain refl)
step-or (Aim p s) others plain = absurd (plain refl)
step-or (Fetch s) others plain = absurd (plain refl)
step-or Tick others plain = absurd (plain refl)
step-or x others plain = refl

-- the life that the fold takes an event for a step of
abbrev pub stepper : Readings → Event → List Record → Option ActNo
stepper r e [] = None
stepper r e (first ∷ others) = if is_step first then running_of r e.proc else None

if-not : {A : Type 0} (b c : Bool) (x y : A) → b ≡ not c → (if b then x else y) ≡ (if c then y else x)
if-not true true x y is = absurd (cc)
if-not true false x y is = refl
if-not false true x y is = refl
if-not false false x y is = absurd (cc)

same-none : {A : Type 0} (b c : Bool) (x : Option A) → x ≡ None → (if b then x else None) ≡ (if c then None else x)
same-none true true x none = none
same-none true false x none = refl
same-none false true x none = refl
same-none false false x none = sym none

-- before event 0 nothing ran
first-none : (past : List Item) (r : Readings) (p : ProcNo) → Until past r.number → r.number ≡ 0 → runs_on past p ≡ None
first-none [] r p until zero_number = refl
first-none (x ∷ xs) r p until zero_number = absurd (let early = until 0 x refl in omega arith)

pub own-event : (rules : UserRules) → HasForms rules → (w : WorkloadView) (past : List Item) (r : Readings) (e : Event) → IsRead w past r
    → Until past r.number → OwnedByLives r
    → IsLawful rules w r e
    → stepper r e e.records ≡ stepping past e
own-event rules meets w past r e read until owned law = by_records e.records refl where
  runs : running_of r e.proc ≡ runs_on past e.proc
  runs = read.running e.proc

  by_life : (x : Record) (others : List Record) → e.records ≡ x ∷ others → (o : Option ActNo) → running_of r e.proc ≡ o
      → (if is_step x then running_of r e.proc else None) ≡ (if begins_otherwise (x ∷ others) then None else running_of r e.proc)
  by_life x others records None none = same-none (is_step x) (begins_otherwise (x ∷ others)) (running_of r e.proc) none
  by_life x others records (Some a) is =
      let there = read.agrees.running e.proc a is in
      let life = Rattle.sa_promises.proofs.read.Items.life-at w past r a there.0
      (Rattle.sa_promises.proofs.lives.Standing.Runs there.0 e.proc) read there.1 refl in
      let later : 1 ≤ e.number = number e.number refl a is in
      if-not (is_step x) (begins_otherwise (x ∷ others)) (running_of r e.proc) None
      (step-or x others (λ odd. no-odd rules meets w r e a life.0 x others law owned later is life.1 records odd))
    where
      number : (n : ℕ) → e.number ≡ n → (b : ActNo) → running_of r e.proc ≡ Some b → 1 ≤ e.number
      number zero at b some = absurd (none-some b (sym (first-none past r e.proc until (sym law.numbered.number ∙ at)) ∙ sym (read.running e.proc) ∙ some))
      number (suc n) at b some = omega arith

  by_records : (xs : List Record) → e.records ≡ xs → stepper r e xs ≡ (if begins_otherwise xs then None else runs_on past e.proc)
  by_records [] records = refl
  by_records (x ∷ others) records =
      by_life x others records (running_of r e.proc) refl ∙ ap (λ o. if begins_otherwise (x ∷ others) then None else o) runs
