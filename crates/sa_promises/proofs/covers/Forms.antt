-- The forms of a turn: what its records do to who runs, and which spaces they concern.
use Rattle.std.proofs.Common.{◌≡◌, ◌≢◌, ℕ, zero, suc, ◌<◌, ◌≤◌, ◌⊎◌, inl, inr, refl, sym, ◌∙◌, ap, subst, arith, Some, None, List, [], ◌∷◌, ◌++◌, length, map, true, false}
use Rattle.std.specs.Prelude.{Option, Bool, get_or, slice_set, Contains}
use Rattle.std.specs.List.{list_any}
use Rattle.std.proofs.lemmas.Bool.{cases_eq}
use Rattle.std.proofs.lemmas.List.{get_or-set_same}
use Rattle.std.proofs.lemmas.List.Elements.{Contains-append_right}
use Rattle.std.proofs.lemmas.Option.{none-some}
use Rattle.sa_lemmas.proofs.FunctionUpdates.{put-at, put-other}
use Rattle.sa_base.specs.declared.number.SpaceNo.{SpaceNo}
use Rattle.sa_base.specs.declared.number.ProcNo.{ProcNo}
use Rattle.sa_base.specs.declared.number.ActNo.{ActNo}
use Rattle.sa_base.specs.declared.record.Note.TheVariants as note
use Rattle.sa_base.specs.declared.record.Record.{Record}
use Rattle.sa_base.specs.declared.record.Record.TheVariants.{Ins, Out, Run, Stop, Block, Unblock, Cont, Back, Ready, Take, Free, Up, Told, Move, Want, Aim, Line, Fetch, Fetched, GiveBack, Idle, Spin, Tick}
use Rattle.sa_instr.specs.declared.instr.Instr.{Instr}
use Rattle.sa_instr.specs.declared.instr.Instr.TheVariants as instr
use Rattle.sa_spaces.specs.Workload.{WorkloadView}
use Rattle.sa_devices.specs.declared.kind.IoKind.{IoKind}
use Rattle.sa_devices.specs.declared.kind.IoKind.TheVariants.{Plain, Page, Upcall}
use Rattle.sa_devices.specs.Ios.{Io, due_of}
use Rattle.sa_laws.specs.Life.{Life}
use Rattle.sa_laws.specs.Readings.{Readings, running_of, life_of, life_on, demand_of, owner_of, taken_of, space_of_life}
use Rattle.sa_laws.specs.Record.{after_record, running_after}
use Rattle.sa_laws.specs.History.{after_records, is_step, is_up}
use Rattle.sa_laws.specs.Turns.{AreRaising, IsClosing, AreTold, IsFetchOrNothing, IsPassage, IsInterrupt, IsOver, IsInsOf, Steps, IsTickOrStep, IsTurnWhileDue, IsTurn}
use Rattle.sa_promises.specs.Needs.{FormedBy, FormedIn, IsFormed}
use Rattle.sa_laws.specs.Upcalls.{EachRecord}
use Rattle.sa_promises.proofs.lives.Standing.{Standing, Runs, kind, kind_before, stays, standing_after}
use Rattle.sa_promises.proofs.lives.Moves.{AreCalm, stood}
use Rattle.sa_promises.proofs.covers.Apart.{IsApart, apart-step}
use Rattle.sa_promises.proofs.covers.Passed.{Passes, Goes}
use Rattle.sa_laws.proofs.Lengths.{running-length}

-- a turn with a passage: the records before an up, or a leave
abbrev pub Turning : List Record → Type 0
Turning (Up u a ∷ xs) = AreTold xs
Turning (Stop u t a ∷ xs) = Turning xs
Turning (Ins u t i ∷ xs) = Turning xs
Turning (Block u t a io ∷ xs) = Turning xs
Turning (Move old new ∷ xs) = Turning xs
Turning (Aim q None ∷ xs) = IsFetchOrNothing xs
Turning _ = ⊥

-- A turn is a step only where a block is its first record, or comes after an instruction.
abbrev pub BlocksFirst : Record → List Record → Type 0
BlocksFirst (Block u t a io) ys = Unit {0}
BlocksFirst (Ins u t i) (Block v k a io ∷ ys) = Unit {0}
BlocksFirst x ys = is_step x ≡ false

-- records that leave every life where it runs
abbrev pub is_quiet : Record → Bool
is_quiet (Up u a) = false
is_quiet (Stop u t a) = false
is_quiet (Block u t a io) = false
is_quiet (Told n) = false
is_quiet x = true

abbrev pub AllQuiet : List Record → Type 0
AllQuiet [] = Unit {0}
AllQuiet (x ∷ xs) = (is_quiet x ≡ true) × AllQuiet xs

abbrev pub AllOut : List Record → Type 0
AllOut [] = Unit {0}
AllOut (Out s t v ∷ xs) = AllOut xs
AllOut (x ∷ xs) = ⊥

-- another turn: a completion or a tick; a step, by a user level's table of the steps of a running life
pub record Calm (x : Record) (ys : List Record) : Type 0 where
  pub none : is_step x ≡ false
  pub quiet : is_quiet x ≡ true
  pub alone : ys ≡ []

abbrev pub StepTable : Type 1
StepTable = WorkloadView → Readings → ProcNo → ActNo → Life → Record → List Record → Type 0

pub record StepOf (By : StepTable) (w : WorkloadView) (r : Readings) (p : ProcNo) (x : Record) (ys : List Record) : Type 0 where
  pub act : ActNo
  pub life : Life
  pub runs : running_of r p ≡ Some act
  pub on : life_on r p ≡ Some life
  pub by : By w r p act life x ys
  pub step : is_step x ≡ true
  pub quiet : AllQuiet (x ∷ ys)
  pub rest : AllOut ys ⊎ ((x ∷ ys ≡ map GiveBack (taken_of r life.space)) × ((b c : Readings) → Rattle.sa_laws.specs.History.settles b c x ≡ true))

abbrev pub Form : StepTable → WorkloadView → Readings → ProcNo → Record → List Record → Type 0
Form By w r p x ys = (Turning (x ∷ ys) × BlocksFirst x ys) ⊎ (Calm x ys ⊎ StepOf By w r p x ys)

pub passage-turning : (xs : List Record) → IsPassage xs → Turning xs
passage-turning (Up u a ∷ xs) is = is
passage-turning (Move old (Some new) ∷ Up u a ∷ xs) is = is
passage-turning (Move old None ∷ Aim q None ∷ xs) is = is
passage-turning xs is = absurd (is)

passage-first : (x : Record) (ys : List Record) → IsPassage (x ∷ ys) → BlocksFirst x ys
passage-first (Up u a) ys is = refl
passage-first (Move old new) ys is = refl
passage-first x ys is = absurd (is)

pub interrupt-form : (x : Record) (ys : List Record) → IsInterrupt (x ∷ ys) → Turning (x ∷ ys) × BlocksFirst x ys
interrupt-form (Stop u t a) ys is = (passage-turning ys is, refl)
interrupt-form (Up u a) ys is = (passage-turning (Up u a ∷ ys) is, refl)
interrupt-form (Move old new) ys is = (passage-turning (Move old new ∷ ys) is, refl)
interrupt-form x ys is = absurd (is)

pub over-form : (kind : IoKind) (x : Record) (ys : List Record) → IsOver kind (x ∷ ys) → Calm x ys
over-form (Plain s a) (Unblock of t b) [] is = record { none = refl; quiet = refl; alone = refl }
over-form (Page s a k) (Unblock of t b) [] is = record { none = refl; quiet = refl; alone = refl }
over-form (Upcall s) (Fetched of) [] is = record { none = refl; quiet = refl; alone = refl }
over-form kind x ys is = absurd (is)

pub given-quiet : (acts : List ActNo) → AllQuiet (map GiveBack acts)
given-quiet [] = tt
given-quiet (a ∷ acts) = (refl, given-quiet acts)

-- a step
pub step-alone : (By : StepTable) (w : WorkloadView) (r : Readings) (p : ProcNo) (a : ActNo) (life : Life) (x : Record) (ys : List Record)
    → running_of r p ≡ Some a → life_on r p ≡ Some life → By w r p a life x ys
    → is_step x ≡ true → is_quiet x ≡ true → ys ≡ [] → StepOf By w r p x ys
step-alone By w r p a life x ys runs on by step quiet alone = record {
  act = a;
  life = life;
  runs = runs;
  on = on;
  by = by;
  step = step;
  quiet = (quiet, subst AllQuiet (sym alone) tt);
  rest = inl (subst AllOut (sym alone) tt);
}

pub give-form : (By : StepTable) (w : WorkloadView) (r : Readings) (p : ProcNo) (a : ActNo) (life : Life) (b : ActNo) (ys : List Record)
    → running_of r p ≡ Some a → life_on r p ≡ Some life → By w r p a life (GiveBack b) ys → GiveBack b ∷ ys ≡ map GiveBack (taken_of r life.space)
    → Form By w r p (GiveBack b) ys
give-form By w r p a life b ys runs on by all =
    inr (inr (record {
      act = a;
      life = life;
      runs = runs;
      on = on;
      by = by;
      step = refl;
      quiet = subst AllQuiet (sym all) (given-quiet (taken_of r life.space));
      rest = inr (all, λ b' c. refl);
    }))

pub ins-form : (By : StepTable) (w : WorkloadView) (r : Readings) (p : ProcNo) (a : ActNo) (life : Life) (s : SpaceNo)
    (t : Rattle.sa_base.specs.declared.number.ThreadNo.ThreadNo) (k : ℕ) (i : Instr) (ys : List Record)
    → running_of r p ≡ Some a → life_on r p ≡ Some life → By w r p a life (Ins s t k) ys → IsInsOf i ys → Form By w r p (Ins s t k) ys
ins-form By w r p a life s t k (instr.Out reg) (Out u v n ∷ []) runs on by is =
    inr (inr (record { act = a; life = life; runs = runs; on = on; by = by; step = refl; quiet = (refl, (refl, tt)); rest = inl tt }))
ins-form By w r p a life s t k (instr.Out reg) ys runs on by is = absurd (is)
ins-form By w r p a life s t k (instr.Io n) (Block u v b io ∷ ys) runs on by is = inl (passage-turning ys is, tt)
ins-form By w r p a life s t k (instr.Io n) ys runs on by is = absurd (is)
ins-form By w r p a life s t k i ys runs on by is = inr (inr (step-alone By w r p a life (Ins s t k) ys runs on by refl refl is))

by-form : (w : WorkloadView) (r : Readings) (p : ProcNo) (a : ActNo) (life : Life) (x : Record) (ys : List Record) → running_of r p ≡ Some a
    → life_on r p ≡ Some life → FormedBy w r p a life x ys → Form FormedBy w r p x ys
by-form w r p a life (Ins s t i) ys runs on by = ins-form FormedBy w r p a life s t i _ ys runs on by by
by-form w r p a life (Block s t b io) ys runs on by = inl (passage-turning ys by, tt)
by-form w r p a life (GiveBack b) ys runs on by = give-form FormedBy w r p a life b ys runs on by by
by-form w r p a life (Want s n) ys runs on by = inr (inr (step-alone FormedBy w r p a life (Want s n) ys runs on by refl refl by.0))
by-form w r p a life (Spin l) ys runs on by = inr (inr (step-alone FormedBy w r p a life (Spin l) ys runs on by refl refl by))
by-form w r p a life Idle ys runs on by = inr (inr (step-alone FormedBy w r p a life Idle ys runs on by refl refl by))
by-form w r p a life (Take s l t) ys runs on by = inr (inr (step-alone FormedBy w r p a life (Take s l t) ys runs on by refl refl by))
by-form w r p a life (Ready s t) ys runs on by = inr (inr (step-alone FormedBy w r p a life (Ready s t) ys runs on by refl refl by))
by-form w r p a life (Run s t) ys runs on by = inr (inr (step-alone FormedBy w r p a life (Run s t) ys runs on by refl refl by))
by-form w r p a life (Free s l t) ys runs on by = inr (inr (step-alone FormedBy w r p a life (Free s l t) ys runs on by refl refl by))
by-form w r p a life (Cont s t) ys runs on by = inr (inr (step-alone FormedBy w r p a life (Cont s t) ys runs on by refl refl by))
by-form w r p a life (Back s t) ys runs on by = inr (inr (step-alone FormedBy w r p a life (Back s t) ys runs on by refl refl by))
by-form w r p a life (Line q) ys runs on by = inr (inr (step-alone FormedBy w r p a life (Line q) ys runs on by refl refl by))
by-form w r p a life x ys runs on by = absurd (by)

in-form : (w : WorkloadView) (r : Readings) (p : ProcNo) (a : Option ActNo) (life : Option Life) (x : Record) (ys : List Record) → running_of r p ≡ a
    → life_on r p ≡ life → FormedIn w r p a life (x ∷ ys) → Form FormedBy w r p x ys
in-form w r p (Some a) (Some life) x ys runs on is = by-form w r p a life x ys runs on is
in-form w r p (Some a) None x ys runs on is = absurd is
in-form w r p None life x ys runs on is = absurd is

pub step-form : (w : WorkloadView) (r : Readings) (p : ProcNo) (x : Record) (ys : List Record) → IsFormed w r p (x ∷ ys) → Form FormedBy w r p x ys
step-form w r p x ys step = in-form w r p (running_of r p) (life_on r p) x ys refl refl step

-- a turn, where each step has such a form
pub turn-form : (By : StepTable) (Step : Steps) (w : WorkloadView) (r : Readings) (p : ProcNo) (e : ℕ) (raised : Bool) (x : Record) (ys : List Record)
    → (Step w r p (x ∷ ys) → Form By w r p x ys) → IsTurn Step raised e w r p (x ∷ ys) → Form By w r p x ys
turn-form By Step w r p e true x ys form is = inl (interrupt-form x ys is)
turn-form By Step w r p e false x ys form is = due (due_of e r.under_way) is where
  tick : (y : Record) (zs : List Record) → y ∷ zs ≡ Tick ∷ [] → Calm y zs
  tick Tick [] same = record { none = refl; quiet = refl; alone = refl }
  tick y zs same = absurd (cc)

  owned : (o : Option SpaceNo) → IsTickOrStep Step o w r p (x ∷ ys) → Form By w r p x ys
  owned None ticks = inr (inl (tick x ys ticks))
  owned (Some s) step = form step

  due : (o : Option Io) → IsTurnWhileDue Step o w r p (x ∷ ys) → Form By w r p x ys
  due None step = owned (owner_of r p) step
  due (Some io) (inl done) = inr (inl (over-form io.kind x ys done))
  due (Some io) (inr local) = form local.1

-- an up of the space is in a turn, or none is, and then the turn does not concern it
abbrev pub UpOf : SpaceNo → List Record → Type 0
UpOf s [] = ⊥
UpOf s (Up u a ∷ xs) = u ≡ s
UpOf s (x ∷ xs) = UpOf s xs

told-pass : (w : WorkloadView) (e : ℕ) (p : ProcNo) (s : SpaceNo) (r : Readings) (xs : List Record) → AreTold xs → EachRecord (Passes s) w e p r xs
told-pass w e p s r [] is = tt
told-pass w e p s r (Told n ∷ xs) is = (tt, told-pass w e p s (after_record w e p r (Told n)) xs is)
told-pass w e p s r (x ∷ xs) is = absurd is

fetch-pass : (w : WorkloadView) (e : ℕ) (p : ProcNo) (s : SpaceNo) (r : Readings) (xs : List Record) → IsFetchOrNothing xs → EachRecord (Passes s) w e p r xs
fetch-pass w e p s r [] is = tt
fetch-pass w e p s r (Fetch u ∷ []) is = (tt, tt)
fetch-pass w e p s r (Fetch u ∷ y ∷ xs) is = absurd is
fetch-pass w e p s r (x ∷ xs) is = absurd is

both : (w : WorkloadView) (e : ℕ) (p : ProcNo) (s : SpaceNo) (x : Record) (xs : List Record) → ((r : Readings) → Passes s r x xs)
    → UpOf s xs ⊎ ((r : Readings) → EachRecord (Passes s) w e p r xs)
    → UpOf s xs ⊎ ((r : Readings) → EachRecord (Passes s) w e p r (x ∷ xs))
both w e p s x xs one (inl up) = inl up
both w e p s x xs one (inr each) = inr (λ r. (one r, each (after_record w e p r x)))

pub turning-cases : (w : WorkloadView) (e : ℕ) (p : ProcNo) (s : SpaceNo) (xs : List Record) → Turning xs
    → UpOf s xs ⊎ ((r : Readings) → EachRecord (Passes s) w e p r xs)
turning-cases w e p s [] is = absurd is
turning-cases w e p s (Up u a ∷ xs) is = elim (cases_eq u.0 s.0) [
  | inl same ↦ inl (ap (λ n. record { 0 = n }) same)
  | inr apart ↦ inr (λ r. ((λ e'. apart (ap (λ (k : SpaceNo). k.0) e')), told-pass w e p s (after_record w e p r (Up u a)) xs is))
]
turning-cases w e p s (Stop u t a ∷ xs) is = both w e p s (Stop u t a) xs (λ r. tt) (turning-cases w e p s xs is)
turning-cases w e p s (Ins u t i ∷ xs) is = both w e p s (Ins u t i) xs (λ r. tt) (turning-cases w e p s xs is)
turning-cases w e p s (Block u t a io ∷ xs) is = both w e p s (Block u t a io) xs (λ r. tt) (turning-cases w e p s xs is)
turning-cases w e p s (Move old new ∷ xs) is = both w e p s (Move old new) xs (λ r. tt) (turning-cases w e p s xs is)
turning-cases w e p s (Aim q None ∷ xs) is = inr (λ r. (tt, fetch-pass w e p s (after_record w e p r (Aim q None)) xs is))
turning-cases w e p s (Aim q (Some v) ∷ xs) is = absurd is
turning-cases w e p s (x ∷ xs) is = absurd is

-- after the up its life runs
pub record RunsAt (p : ProcNo) (s : SpaceNo) (c : Readings) : Type 0 where
  pub act : ActNo
  pub runs : running_of c p ≡ Some act
  pub space : space_of_life c (Some act) ≡ Some s

raising-runs : (w : WorkloadView) (e : ℕ) (p : ProcNo) (s : SpaceNo) (r : Readings) (xs : List Record) → AreRaising xs → RunsAt p s r
    → RunsAt p s (after_records w e p r xs)
raising-runs w e p s r [] is at = at
raising-runs w e p s r (Aim q (Some t) ∷ xs) is at =
    raising-runs w e p s (after_record w e p r (Aim q (Some t))) xs is (record { act = at.act; runs = at.runs; space = at.space })
raising-runs w e p s r (Line q ∷ xs) is at =
    raising-runs w e p s (after_record w e p r (Line q)) xs is (record { act = at.act; runs = at.runs; space = at.space })
raising-runs w e p s r (Aim q None ∷ xs) is at = absurd is
raising-runs w e p s r (x ∷ xs) is at = absurd is

closing-runs : (w : WorkloadView) (e : ℕ) (p : ProcNo) (s : SpaceNo) (r : Readings) (xs : List Record) → IsClosing xs → RunsAt p s r
    → RunsAt p s (after_records w e p r xs)
closing-runs w e p s r (Want u n ∷ xs) is at =
    closing-runs w e p s (after_record w e p r (Want u n)) xs is (record { act = at.act; runs = at.runs; space = at.space })
closing-runs w e p s r [] is at = at
closing-runs w e p s r (Aim q (Some t) ∷ xs) is at = raising-runs w e p s r (Aim q (Some t) ∷ xs) is at
closing-runs w e p s r (Line q ∷ xs) is at = raising-runs w e p s r (Line q ∷ xs) is at
closing-runs w e p s r (Aim q None ∷ xs) is at = absurd is
closing-runs w e p s r (x ∷ xs) is at = absurd is

told-life : (w : WorkloadView) (e : ℕ) (p : ProcNo) (r : Readings) (n : Rattle.sa_base.specs.declared.record.Note.Note) (a : ActNo)
    → space_of_life (after_record w e p r (Told n)) (Some a) ≡ space_of_life r (Some a)
told-life w e p r (note.Preempted b) a = Rattle.sa_promises.proofs.lives.Standing.space-handed r.upped b (life_of r b) r.lives a.0
told-life w e p r (note.Unblocked b) a = Rattle.sa_promises.proofs.lives.Standing.space-handed r.upped b (life_of r b) r.lives a.0
told-life w e p r (note.Add q) a = refl
told-life w e p r (note.Blocked b) a = refl

told-runs : (w : WorkloadView) (e : ℕ) (p : ProcNo) (s : SpaceNo) (r : Readings) (xs cs : List Record) → AreTold xs → IsClosing cs → RunsAt p s r
    → RunsAt p s (after_records w e p r (xs ++ cs))
told-runs w e p s r [] cs is closes at = closing-runs w e p s r cs closes at
told-runs w e p s r (Told n ∷ xs) cs is closes at =
    told-runs w e p s (after_record w e p r (Told n)) xs cs is closes (record { act = at.act; runs = at.runs; space = told-life w e p r n at.act ∙ at.space })
told-runs w e p s r (x ∷ xs) cs is closes at = absurd is

pub up-runs : (w : WorkloadView) (e : ℕ) (p : ProcNo) (s : SpaceNo) (r : Readings) (xs cs : List Record) → p.0 < length r.running → Turning xs → UpOf s xs
    → IsClosing cs
    → RunsAt p s (after_records w e p r (xs ++ cs)) × (list_any is_up (xs ++ cs) ≡ true)
up-runs w e p s r [] cs within is up closes = absurd is
up-runs w e p s r (Up u a ∷ xs) cs within is up closes = (
  told-runs w e p s (after_record w e p r (Up u a)) xs cs is closes (record {
    act = a;
    runs = get_or-set_same r.running p.0 (Some a) None within;
    space = ap Rattle.sa_promises.proofs.lives.Standing.space_of (put-at r.lives a.0 a.0 (Some (Rattle.sa_laws.specs.Life.new_life u p)) refl) ∙ ap Some up;
  }),
  refl,
)
up-runs w e p s r (Stop u t a ∷ xs) cs within is up closes =
    up-runs w e p s (after_record w e p r (Stop u t a)) xs cs (subst (λ n. p.0 < n) (sym (running-length p r.running (Stop u t a))) within) is up closes
up-runs w e p s r (Ins u t i ∷ xs) cs within is up closes = up-runs w e p s (after_record w e p r (Ins u t i)) xs cs within is up closes
up-runs w e p s r (Block u t a io ∷ xs) cs within is up closes =
    up-runs w e p s (after_record w e p r (Block u t a io)) xs cs (subst (λ n. p.0 < n) (sym (running-length p r.running (Block u t a io))) within) is up closes
up-runs w e p s r (Move old new ∷ xs) cs within is up closes = up-runs w e p s (after_record w e p r (Move old new)) xs cs within is up closes
up-runs w e p s r (Aim q None ∷ []) cs within is up closes = absurd up
up-runs w e p s r (Aim q None ∷ Fetch u ∷ []) cs within is up closes = absurd up
up-runs w e p s r (Aim q None ∷ xs) cs within is up closes = absurd (is)
up-runs w e p s r (Aim q (Some v) ∷ xs) cs within is up closes = absurd is
up-runs w e p s r (x ∷ xs) cs within is up closes = absurd is

-- quiet records leave a running life where it runs
pub quiet-kind : (x : Record) → is_quiet x ≡ true → 1 ≢ kind_before x
quiet-kind (Up u a) is = absurd (cc)
quiet-kind (Stop u t a) is = absurd (cc)
quiet-kind (Block u t a io) is = absurd (cc)
quiet-kind (Told n) is = absurd (cc)
quiet-kind (Unblock u t a) is = λ e. cc
quiet-kind (GiveBack a) is = λ e. cc
quiet-kind x is = λ e. cc

pub quiet-running : (p q : ProcNo) (r : Readings) (x : Record) → is_quiet x ≡ true → running_after p r.running x ≡ r.running
quiet-running p q r (Up u a) is = absurd (cc)
quiet-running p q r (Stop u t a) is = absurd (cc)
quiet-running p q r (Block u t a io) is = absurd (cc)
quiet-running p q r x is = refl

pub quiet-runs : (w : WorkloadView) (e : ℕ) (p : ProcNo) (st : ℕ → Standing) (r : Readings) (s : SpaceNo) (a : ActNo) (xs : List Record) → IsApart st r xs
    → Goes w e p r xs → AllQuiet xs
    → running_of r p ≡ Some a → st a.0 ≡ Runs s p → RunsAt p s (after_records w e p r xs) × (running_of (after_records w e p r xs) p ≡ Some a)
quiet-runs w e p st r s a [] apart goes quiet runs at =
    (record { act = a; runs = runs; space = apart.agrees.lives a ∙ ap Rattle.sa_promises.proofs.lives.Standing.space_in at }, runs)
quiet-runs w e p st r s a (x ∷ xs) apart goes quiet runs at =
    let law = goes.moves.0 in
    let was = stood w p st r x xs apart.agrees law in
    quiet-runs w e p (standing_after p st x) (after_record w e p r x) s a xs (apart-step w e p st r x xs apart was law goes.tells.0)
    (record { moves = goes.moves.1; tells = goes.tells.1; steps = goes.steps.1 }) quiet.1 (ap (λ os. get_or os p.0 None) (quiet-running p p r x quiet.0) ∙ runs)
    (stays p st x a.0 (Runs s p) was at (quiet-kind x quiet.0))

-- the closing: its wants lower no demand
abbrev pub LowWants : Readings → List Record → Type 0
LowWants r [] = Unit {0}
LowWants r (Want u n ∷ xs) = (demand_of r u ≤ 1) × (n ≡ 1) × LowWants r xs
LowWants r (x ∷ xs) = LowWants r xs

abbrev AtMostOne : Readings → Readings → Type 0
AtMostOne r c = (u : SpaceNo) → demand_of r u ≤ 1 → demand_of c u ≤ 1

raising-pass : (w : WorkloadView) (e : ℕ) (p : ProcNo) (s : SpaceNo) (c : Readings) (xs : List Record) → AreRaising xs → EachRecord (Passes s) w e p c xs
raising-pass w e p s c [] is = tt
raising-pass w e p s c (Aim q (Some t) ∷ xs) is = (tt, raising-pass w e p s (after_record w e p c (Aim q (Some t))) xs is)
raising-pass w e p s c (Line q ∷ xs) is = (tt, raising-pass w e p s (after_record w e p c (Line q)) xs is)
raising-pass w e p s c (Aim q None ∷ xs) is = absurd is
raising-pass w e p s c (x ∷ xs) is = absurd is

set-one : (ds : List ℕ) (i j : ℕ) → get_or ds j 0 ≤ 1 → get_or (slice_set ds i 1) j 0 ≤ 1
set-one (d ∷ ds) zero zero low = omega arith
set-one (d ∷ ds) (suc i) (suc j) low = set-one ds i j low
set-one _ _ _ low = low

pub closing-pass : (w : WorkloadView) (e : ℕ) (p : ProcNo) (s : SpaceNo) (r c : Readings) (xs : List Record) → IsClosing xs → LowWants r xs → AtMostOne r c
    → EachRecord (Passes s) w e p c xs
closing-pass w e p s r c (Want u n ∷ xs) is low most =
    let same : u.0 ≡ s.0 → demand_of c s ≤ n =
    λ at. let here = most u low.0 in let one = low.1 in let there : demand_of c s ≡ demand_of c u = ap (λ k. get_or c.demands k 0) (sym at) in
    omega (arith, here, one, there) in (
      same,
      closing-pass w e p s r (after_record w e p c (Want u n)) xs is low.2
          (λ v less. subst (λ k. get_or (slice_set c.demands u.0 k) v.0 0 ≤ 1) (sym low.1) (set-one c.demands u.0 v.0 (most v less))),
    )
closing-pass w e p s r c [] is low most = tt
closing-pass w e p s r c (Aim q (Some t) ∷ xs) is low most = raising-pass w e p s c (Aim q (Some t) ∷ xs) is
closing-pass w e p s r c (Line q ∷ xs) is low most = raising-pass w e p s c (Line q ∷ xs) is
closing-pass w e p s r c (Aim q None ∷ xs) is low most = absurd is
closing-pass w e p s r c (x ∷ xs) is low most = absurd is

pub pass-append : (w : WorkloadView) (e : ℕ) (p : ProcNo) (s : SpaceNo) (r : Readings) (xs cs : List Record) → EachRecord (Passes s) w e p r xs
    → EachRecord (Passes s) w e p (after_records w e p r xs) cs
    → EachRecord (Passes s) w e p r (xs ++ cs)
pass-append w e p s r [] cs one two = two
pass-append w e p s r (x ∷ xs) cs one two = (widen x one.0, pass-append w e p s (after_record w e p r x) xs cs one.1 two) where
  widen : (y : Record) → Passes s r y xs → Passes s r y (xs ++ cs)
  widen (Up u a) is = is
  widen (Run u t) is = is
  widen (Ready u t) is = is
  widen (Cont u t) is = is
  widen (GiveBack a) is = is
  widen (Want u n) is = is
  widen y is = is

pub quiet-append : (xs cs : List Record) → AllQuiet xs → AllQuiet cs → AllQuiet (xs ++ cs)
quiet-append [] cs one two = two
quiet-append (x ∷ xs) cs one two = (one.0, quiet-append xs cs one.1 two)

raising-calm : (xs : List Record) → AreRaising xs → AreCalm xs
raising-calm [] is = tt
raising-calm (Aim q (Some t) ∷ xs) is = (refl, raising-calm xs is)
raising-calm (Line q ∷ xs) is = (refl, raising-calm xs is)
raising-calm (Aim q None ∷ xs) is = absurd is
raising-calm (x ∷ xs) is = absurd is

pub closing-calm : (xs : List Record) → IsClosing xs → AreCalm xs
closing-calm (Want u n ∷ xs) is = (refl, closing-calm xs is)
closing-calm [] is = tt
closing-calm (Aim q (Some t) ∷ xs) is = raising-calm (Aim q (Some t) ∷ xs) is
closing-calm (Line q ∷ xs) is = raising-calm (Line q ∷ xs) is
closing-calm (Aim q None ∷ xs) is = absurd is
closing-calm (x ∷ xs) is = absurd is

calm-quiet : (xs : List Record) → AreCalm xs → AllQuiet xs
calm-quiet [] calm = tt
calm-quiet (Want u n ∷ xs) calm = (refl, calm-quiet xs calm.1)
calm-quiet (Aim q t ∷ xs) calm = (refl, calm-quiet xs calm.1)
calm-quiet (Line q ∷ xs) calm = (refl, calm-quiet xs calm.1)
calm-quiet (x ∷ xs) calm = absurd (let clash = calm.0 in cc)

pub closing-quiet : (xs : List Record) → IsClosing xs → AllQuiet xs
closing-quiet xs is = calm-quiet xs (closing-calm xs is)

pub out-pass : (w : WorkloadView) (e : ℕ) (p : ProcNo) (s : SpaceNo) (r : Readings) (xs : List Record) → AllOut xs → EachRecord (Passes s) w e p r xs
out-pass w e p s r [] is = tt
out-pass w e p s r (Out u t v ∷ xs) is = (tt, out-pass w e p s (after_record w e p r (Out u t v)) xs is)
out-pass w e p s r (x ∷ xs) is = absurd is

-- lives of another space are given back
pub given-pass : (w : WorkloadView) (e : ℕ) (p : ProcNo) (s : SpaceNo) (r : Readings) (acts : List ActNo)
    → ((a : ActNo) → Contains acts a → space_of_life r (Some a) ≢ Some s)
    → EachRecord (Passes s) w e p r (map GiveBack acts)
given-pass w e p s r [] other = tt
given-pass w e p s r (a ∷ acts) other = (
  other a (0, omega arith, refl),
  given-pass w e p s (after_record w e p r (GiveBack a)) acts (λ b has is. elim (cases_eq b.0 a.0) [
    | inl same ↦ none-some s (sym (ap Rattle.sa_promises.proofs.lives.Standing.space_of (put-at r.lives a.0 b.0 None same)) ∙ is)
    | inr apart ↦
        other b (Contains-append_right (a ∷ []) acts b has)
        (sym (ap Rattle.sa_promises.proofs.lives.Standing.space_of (put-other r.lives a.0 b.0 None apart)) ∙ is)
  ]),
)
