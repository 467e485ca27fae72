-- After each event of a legal run the demand of a space covers its load, where no life of it is in and nothing is untold to it.
use Rattle.std.proofs.Common.{◌≡◌, ◌≢◌, ℕ, ◌+◌, ◌<◌, ◌≤◌, ◌⊎◌, inl, inr, refl, sym, ◌∙◌, ap, subst, arith, Some, None, List, [], ◌∷◌, ◌++◌, length, map, drop, true, false}
use Rattle.std.specs.Prelude.{Option, Bool, ◌==◌, not, nat_lt, min, if◌then◌else◌, is_some, get_or, slice_set, take_while, filter, Contains}
use Rattle.std.specs.List.{list_any, prefix_len}
use Rattle.std.proofs.lemmas.Bool.{cases_eq, and_parts, not-false, eqb-true}
use Rattle.std.proofs.lemmas.List.{get_or-set_same}
use Rattle.std.proofs.lemmas.Option.{none-some, same_Some}
use Rattle.sa_base.specs.declared.number.SpaceNo.{SpaceNo}
use Rattle.sa_base.specs.declared.number.ProcNo.{ProcNo}
use Rattle.sa_base.specs.declared.number.ActNo.{ActNo}
use Rattle.sa_base.specs.declared.record.Record.{Record}
use Rattle.sa_base.specs.declared.record.Record.TheVariants.{Ins, Run, Block, Cont, Ready, Up, Want, Aim, Line, GiveBack, Idle}
use Rattle.sa_spaces.specs.Workload.{WorkloadView}
use Rattle.sa_lemmas.proofs.Searches.{while-none}
use Rattle.sa_laws.specs.Event.{Event}
use Rattle.sa_laws.specs.State.{space_at, active_threads}
use Rattle.sa_laws.specs.Life.{Life}
use Rattle.sa_laws.specs.Readings.{Readings, running_of, life_if, life_on, demand_of, load_of, usable, space_of_life, owner_of, taken_of, line_of}
use Rattle.sa_laws.specs.Record.{after_record}
use Rattle.sa_laws.specs.History.{Test, is_step, is_up, settles, with_step, with_up, event_begun, behind, after_records, after_event}
use Rattle.sa_laws.specs.Shape.{own_part, closing_part, is_own, is_want, is_no_want, wants_in, before_wants}
use Rattle.sa_laws.specs.Closing.{must_want, want_one, wants_due, spaces_of}
use Rattle.sa_laws.specs.Demand.{BeginsFreely, StepIsFree, StepIsFreeIf, OwesNothing, is_bound}
use Rattle.sa_laws.specs.Turns.{IsClosing, AreRaising, IsTurn}
use Rattle.sa_laws.specs.Upcalls.{RecordLaw, EachRecord, TellsAllThen}
use Rattle.sa_laws.specs.Step.{Needs, AreSteps}
use Rattle.sa_laws.specs.Rules.{UserRules, IsLawful}
use Rattle.sa_promises.specs.Needs.{Lowers, Hints, FormedBy, IsFormed, AnnouncesDemand}
use Rattle.sa_promises.proofs.lives.Standing.{Standing, Runs, Agrees, space_of, space_in, standing_after}
use Rattle.sa_lemmas.proofs.ListReads.{take_then_drop}
use Rattle.sa_promises.proofs.lives.Shapes.{Moves}
use Rattle.sa_promises.proofs.lives.Moves.{lawful-moves}
use Rattle.sa_histories.proofs.Sizes.{IsSized}
use Rattle.sa_promises.proofs.read.Spaces.{while-more}
use Rattle.sa_promises.proofs.read.OwnEvents.{OwnedByLives, owner-runs}
use Rattle.sa_promises.proofs.covers.Apart.{IsApart, apart-step, apart-begun}
use Rattle.sa_promises.proofs.covers.Passed.{Kept, Passing, Passes, passing-each, passes-so, Goes, kept-all}
use Rattle.sa_promises.proofs.covers.Forms.{Turning, BlocksFirst, AllOut, is_quiet, Calm, StepTable, StepOf, Form, step-form, turn-form, turning-cases, up-runs, quiet-runs, LowWants, closing-pass, pass-append, quiet-append, closing-quiet, out-pass, given-pass}
use Rattle.sa_promises.proofs.covers.Fine.{Covers, Each, Fine, demand-tested, min-less, covers-more, usable-covers, arise-fine, step-space, settle-fine, keep-fine, IsStepOf, blocks-untold}

-- an event in its parts
pub record InForm (w : WorkloadView) (r : Readings) (e : Event) : Type 0 where
  pub first : Record
  pub own : List Record
  pub closing : List Record
  pub is : e.records ≡ first ∷ (own ++ closing)
  pub form : Form FormedBy w (event_begun w e r) e.proc first own
  pub closes : IsClosing closing
  pub low : LowWants (after_records w e.number e.proc (event_begun w e r) (first ∷ own)) closing

-- the wants that are due are of spaces that want nothing
abbrev IsLow : Readings → Record → Type 0
IsLow r (Want u n) = (demand_of r u ≤ 1) × (n ≡ 1)
IsLow r x = Unit {0}

abbrev AllLow : Readings → List Record → Type 0
AllLow r [] = Unit {0}
AllLow r (x ∷ xs) = IsLow r x × AllLow r xs

due-low : (r : Readings) (spaces : List SpaceNo) → AllLow r (map want_one (filter (must_want r) spaces))
due-low r [] = tt
due-low r (s ∷ spaces) = one (must_want r s) refl (due-low r spaces) where
  one : (b : Bool) → must_want r s ≡ b → AllLow r (map want_one (filter (must_want r) spaces))
      → AllLow r (map want_one (if b then s ∷ filter (must_want r) spaces else filter (must_want r) spaces))
  one true is rest = let none = eqb-true (demand_of r s) 0 ((and_parts (demand_of r s == 0) _ is).0) in ((omega arith, refl), rest)
  one false is rest = rest

low-from : (r : Readings) (xs : List Record) → AllLow r (filter is_want xs) → LowWants r xs
low-from r [] all = tt
low-from r (Want u n ∷ xs) all = (all.0.0, all.0.1, low-from r xs all.1)
low-from r (x ∷ xs) all = low-from r xs all

raising-low : (r : Readings) (xs : List Record) → AreRaising xs → LowWants r xs
raising-low r [] is = tt
raising-low r (Aim q (Some t) ∷ xs) is = raising-low r xs is
raising-low r (Line q ∷ xs) is = raising-low r xs is
raising-low r (Aim q None ∷ xs) is = absurd is
raising-low r (x ∷ xs) is = absurd is

-- the wants of a closing that begins with one are those of the event, and its own part is what comes before them
pub record WantsBehind (others : List Record) : Type 0 where
  pub wants : wants_in others ≡ wants_in (drop (length (take_while is_own others)) others)
  pub part : take_while is_no_want others ≡ take_while is_own others

split-wants : (others : List Record) (u : SpaceNo) (n : ℕ) (more : List Record) → drop (length (take_while is_own others)) others ≡ Want u n ∷ more
    → WantsBehind others
split-wants [] u n more is = absurd (cc)
split-wants (x ∷ xs) u n more is = one x (is_own x) refl (λ rest. split-wants xs u n more rest) is where
  own : (y : Record) → is_own y ≡ true → is_want y ≡ false → is_no_want y ≡ true → (drop (length (take_while is_own xs)) xs ≡ Want u n ∷ more → WantsBehind xs)
      → drop (length (take_while is_own (y ∷ xs))) (y ∷ xs) ≡ Want u n ∷ more → WantsBehind (y ∷ xs)
  own y yes_own no_want yes_no further same =
      let whole = while-more is_own y xs yes_own in
      let rest : drop (length (take_while is_own (y ∷ xs))) (y ∷ xs) ≡ drop (length (take_while is_own xs)) xs = ap (λ ys. drop (length ys) (y ∷ xs)) whole in
      let more_is = further (sym rest ∙ same) in
      record {
        wants = ap (λ b. if b then y ∷ wants_in xs else wants_in xs) no_want ∙ more_is.wants ∙ ap wants_in (sym rest);
        part = while-more is_no_want y xs yes_no ∙ ap (λ ys. y ∷ ys) more_is.part ∙ sym whole;
      }

  wants-none : (y : Record) → is_own y ≡ true → is_want y ≡ false
  wants-none (Want v m) own_is = absurd (cc)
  wants-none y own_is = refl

  one : (y : Record) (b : Bool) → is_own y ≡ b → (drop (length (take_while is_own xs)) xs ≡ Want u n ∷ more → WantsBehind xs)
      → drop (length (take_while is_own (y ∷ xs))) (y ∷ xs) ≡ Want u n ∷ more → WantsBehind (y ∷ xs)
  one y true at further same = own y at (wants-none y at) (ap not (wants-none y at)) further same
  one y false at further same =
      let none = while-none is_own y xs at in
      let rest : drop (length (take_while is_own (y ∷ xs))) (y ∷ xs) ≡ y ∷ xs = ap (λ ys. drop (length ys) (y ∷ xs)) none in
      let head : y ≡ Want u n = (let both = sym rest ∙ same in cc) in
      record {
        wants = ap wants_in (sym rest);
        part = while-none is_no_want y xs (ap is_no_want head) ∙ sym none;
      }

low-wants : (rules : UserRules) → (w : WorkloadView) (r : Readings) (e : Event) (x : Record) (others cs : List Record) → IsLawful rules w r e → 1 ≤ e.number
    → e.records ≡ x ∷ others
    → drop (length (take_while is_own others)) others ≡ cs → IsClosing cs
    → LowWants (after_records w e.number e.proc (event_begun w e r) (x ∷ take_while is_own others)) cs
low-wants rules w r e x others (Want u n ∷ cs) law from is rest closes =
    let mid = after_records w e.number e.proc (event_begun w e r) (x ∷ take_while is_own others) in
    let split = split-wants others u n cs rest in
    let due : wants_in others ≡ wants_due w mid =
    ap (λ xs. wants_in (drop 1 xs)) (sym is) ∙ law.want_cause.due from
    ∙ ap (λ xs. wants_due w (behind w e r (before_wants xs))) is ∙ ap (λ ys. wants_due w (behind w e r (x ∷ ys))) split.part in
    let same : wants_due w mid ≡ wants_in (Want u n ∷ cs) = sym due ∙ split.wants ∙ ap wants_in rest in
    low-from mid (Want u n ∷ cs) (subst (AllLow mid) same (due-low mid (spaces_of w)))
low-wants rules w r e x others [] law from is rest closes = tt
low-wants rules w r e x others (Aim q (Some t) ∷ cs) law from is rest closes =
    raising-low (after_records w e.number e.proc (event_begun w e r) (x ∷ take_while is_own others)) (Aim q (Some t) ∷ cs) closes
low-wants rules w r e x others (Line q ∷ cs) law from is rest closes =
    raising-low (after_records w e.number e.proc (event_begun w e r) (x ∷ take_while is_own others)) (Line q ∷ cs) closes
low-wants rules w r e x others (Aim q None ∷ cs) law from is rest closes = absurd closes
low-wants rules w r e x others (y ∷ cs) law from is rest closes = absurd closes

in-form : (rules : UserRules) → AnnouncesDemand rules → (w : WorkloadView) (r : Readings) (e : Event) → IsLawful rules w r e → 1 ≤ e.number → InForm w r e
in-form rules meets w r e law from = one e.records refl where
  one : (xs : List Record) → e.records ≡ xs → InForm w r e
  one [] is = absurd (law.numbered.some is)
  one (x ∷ xs) is =
      let turns = meets.forms.formed w r e law in
      let closes : IsClosing (closing_part (x ∷ xs)) = subst (λ ys. IsClosing (closing_part ys)) is (turns.closing from) in
      record {
        first = x;
        own = take_while is_own xs;
        closing = closing_part (x ∷ xs);
        is = is ∙ ap (λ ys. x ∷ ys) (sym (take_then_drop (prefix_len is_own xs) xs));
        form = turn-form FormedBy IsFormed w (event_begun w e r) e.proc e.number (is_some (line_of r e.proc)) x (take_while is_own xs)
            (step-form w (event_begun w e r) e.proc x (take_while is_own xs))
            (subst (λ ys. IsTurn IsFormed (is_some (line_of r e.proc)) e.number w (event_begun w e r) e.proc (own_part ys)) is (turns.turn from));
        closes = closes;
        low = low-wants rules w r e x xs (closing_part (x ∷ xs)) law from is refl closes;
      }

-- what is known before an event
pub record IsCovered (w : WorkloadView) (r : Readings) : Type 0 where
  pub st : ℕ → Standing
  pub apart : IsApart st r []
  pub owned : OwnedByLives r
  pub sized : IsSized w r

pub other-life : (r : Readings) (p : ProcNo) (a : ActNo) (s o : SpaceNo) → running_of r p ≡ Some a → space_of_life r (Some a) ≡ Some o → o.0 ≢ s.0
    → (n : ℕ) (life : Life) (b : ActNo) → r.lives n ≡ Some life → life.space ≡ s → running_of r p ≡ Some b → n ≢ b.0
other-life r p a s o runs of apart n life b is in_it other same =
    let one : b ≡ a = same_Some b a (sym other ∙ runs) in
    let there : space_of (r.lives n) ≡ Some o = ap (λ k. space_of (r.lives k)) (same ∙ ap (λ (k : ActNo). k.0) one) ∙ of in
    apart (ap (λ (k : SpaceNo). k.0) (same_Some o s (sym there ∙ ap space_of is ∙ ap Some in_it)))

-- the first record of a turn that is no passage, of another space
first-passing : (w : WorkloadView) (p : ProcNo) (r : Readings) (s o : SpaceNo) (x : Record) (cs : List Record) → is_quiet x ≡ true → o.0 ≢ s.0
    → owner_of r p ≡ Some o
    → Needs w p r x → ((b : ActNo) → x ≡ GiveBack b → space_of_life r (Some b) ≢ Some s) → Passing s r x cs
first-passing w p r s o (Run u t) cs quiet apart owner needs given =
    λ same. apart (ap (λ (k : SpaceNo). k.0) (same_Some o s (sym owner ∙ needs.0 ∙ ap Some same)))
first-passing w p r s o (Ready u t) cs quiet apart owner needs given =
    λ same. apart (ap (λ (k : SpaceNo). k.0) (same_Some o s (sym owner ∙ needs.0 ∙ ap Some same)))
first-passing w p r s o (Cont u t) cs quiet apart owner needs given =
    λ same. apart (ap (λ (k : SpaceNo). k.0) (same_Some o s (sym owner ∙ needs.0 ∙ ap Some same)))
first-passing w p r s o (GiveBack b) cs quiet apart owner needs given = given b refl
first-passing w p r s o (Up u b) cs quiet apart owner needs given = absurd (cc)
first-passing w p r s o x cs quiet apart owner needs given = tt

pub calm-pass : (s : SpaceNo) (r : Readings) (x : Record) (rest : List Record) → is_step x ≡ false → is_quiet x ≡ true → Passes s r x rest
calm-pass s r (Run u t) rest none quiet = absurd (cc)
calm-pass s r (Ready u t) rest none quiet = absurd (cc)
calm-pass s r (Cont u t) rest none quiet = absurd (cc)
calm-pass s r (GiveBack b) rest none quiet = absurd (cc)
calm-pass s r (Want u n) rest none quiet = absurd (cc)
calm-pass s r (Up u b) rest none quiet = absurd (cc)
calm-pass s r x rest none quiet = tt

-- a step that settles nothing, and is no block
abbrev Unsettled : Readings → SpaceNo → Record → Type 0
Unsettled r s x =
    (((rest : List Record) (k : Readings) → Passes s k x rest) × ((life : Life) → is_bound r life x ≡ true)) ⊎
    ((u : SpaceNo) × (n : ℕ) × (x ≡ Want u n) × (nat_lt n (demand_of r u) ≡ true))

unsettled : (r c : Readings) (s : SpaceNo) (x : Record) → is_step x ≡ true → is_quiet x ≡ true → settles r c x ≡ false → Unsettled r s x
unsettled r c s (Ins u t i) step quiet is = inl ((λ rest k. tt), λ life. refl)
unsettled r c s Idle step quiet is = inl ((λ rest k. tt), λ life. refl)
unsettled r c s (Want u n) step quiet is = inr (u, n, refl, not-false (nat_lt n (demand_of r u)) is)
unsettled r c s (Block u t a io) step quiet is = absurd (cc)
unsettled r c s x step quiet is = absurd (cc)

-- after the records of an event, and its lives at the end
abbrev pub After : WorkloadView → Readings → Event → List Record → Readings
After w r e xs = after_records w e.number e.proc (event_begun w e r) xs

abbrev Final : (test : Test) → WorkloadView → Readings → Event → List Record → ℕ → Option Life
Final test w r e xs = with_up test w r e (After w r e xs) (with_step test w r e (After w r e xs) xs (After w r e xs).lives)

abbrev FineAfter : (test : Test) → WorkloadView → Readings → Event → List Record → SpaceNo → Type 0
FineAfter test w r e xs s = Fine w (After w r e xs) (Final test w r e xs) s

abbrev pub GoesThrough : WorkloadView → Readings → Event → List Record → Type 0
GoesThrough w r e xs = Goes w e.number e.proc (event_begun w e r) xs

abbrev PassesAll : WorkloadView → Readings → Event → List Record → SpaceNo → Type 0
PassesAll w r e xs s = EachRecord (Passes s) w e.number e.proc (event_begun w e r) xs

kept-begun : (w : WorkloadView) (r : Readings) (e : Event) (c : Readings) (s : SpaceNo) → Kept s (event_begun w e r) c → Kept s r c
kept-begun w r e c s kept = record { active = kept.active; demand = kept.demand; lives = kept.lives; noted = kept.noted }

held-fine : (rules : UserRules) → AnnouncesDemand rules → (w : WorkloadView) (r : Readings) (e : Event) (s : SpaceNo) (xs : List Record) → IsCovered w r
    → Fine w r r.lives s → GoesThrough w r e xs
    → PassesAll w r e xs s
    → ((a : ℕ) (life : Life) (b : ActNo) → r.lives a ≡ Some life → life.space ≡ s → life.inside ≡ true → running_of r e.proc ≡ Some b → IsStepOf xs → a ≢ b.0)
    → FineAfter rules.inside w r e xs s
held-fine rules meets w r e s xs known fine goes passes spared =
    let all = kept-all w e.number e.proc known.st (event_begun w e r) s xs (apart-begun w known.st r e xs known.apart) goes passes (λ telling. absurd (cc)) in
    keep-fine rules meets w r e (After w r e xs) s xs (kept-begun w r e (After w r e xs) s all.kept) fine spared

-- a turn with a passage
turning-fine : (rules : UserRules) → AnnouncesDemand rules → (w : WorkloadView) (r : Readings) (e : Event) (s : SpaceNo) (x : Record) (ys cs : List Record)
    → IsCovered w r → e.proc.0 < w.processors
    → s.0 < length w.spaces → Fine w r r.lives s
    → GoesThrough w r e (x ∷ (ys ++ cs)) → IsClosing cs → PassesAll w r e (x ∷ (ys ++ cs)) s → BlocksFirst x ys → FineAfter rules.inside w r e (x ∷ (ys ++ cs)) s
turning-fine rules meets w r e s x ys cs known proc within fine goes closes passes blocks = one (is_step x) refl (running_of r e.proc) refl where
  one : (b : Bool) → is_step x ≡ b → (o : Option ActNo) → running_of r e.proc ≡ o → FineAfter rules.inside w r e (x ∷ (ys ++ cs)) s
  one false none o runs =
      held-fine rules meets w r e s (x ∷ (ys ++ cs)) known fine goes passes (λ a life b is of inside other step. absurd (let clash = sym none ∙ step in cc))
  one true step None runs =
      held-fine rules meets w r e s (x ∷ (ys ++ cs)) known fine goes passes (λ a life b is of inside other at. absurd (none-some b (sym runs ∙ other)))
  one true step (Some a) runs =
      let there = known.apart.agrees.running e.proc a runs in
      let of : space_of_life r (Some a) ≡ Some there.0 = known.apart.agrees.lives a ∙ ap space_in there.1 in
      elim (cases_eq there.0.0 s.0) [
        | inl same ↦
            let at : space_of_life r (Some a) ≡ Some s = of ∙ ap (λ n. Some (record { 0 = n })) same in
            let untold = known.sized.untold in
            inr (inl (blocks-untold w e.number e.proc known.st (event_begun w e r) s a x ys cs blocks step runs at (omega arith)
            (apart-begun w known.st r e (x ∷ (ys ++ cs)) known.apart) goes
            (passing-each w e.number e.proc s (event_begun w e r) (x ∷ (ys ++ cs)) passes)))
        | inr apart ↦
            held-fine rules meets w r e s (x ∷ (ys ++ cs)) known fine goes passes
            (λ n life b is at inside other step'. other-life r e.proc a s there.0 runs of apart n life b is at other)
      ]

up-turn-fine : (rules : UserRules) → AnnouncesDemand rules → (w : WorkloadView) (r : Readings) (e : Event) (s : SpaceNo) (x : Record) (ys cs : List Record)
    → IsCovered w r → e.proc.0 < w.processors
    → s.0 < length w.spaces → Fine w r r.lives s
    → e.records ≡ x ∷ (ys ++ cs) → GoesThrough w r e (x ∷ (ys ++ cs)) → IsClosing cs → EachRecord (Passes s) w e.number e.proc (After w r e (x ∷ ys)) cs
    → Turning (x ∷ ys) → BlocksFirst x ys
    → FineAfter rules.inside w r e (x ∷ (ys ++ cs)) s
up-turn-fine rules meets w r e s x ys cs known proc within fine is goes closes closing turning blocks = elim (turning-cases w e.number e.proc s (x ∷ ys) turning) [
  | inl up ↦
      let running = known.sized.running in
      let runs = up-runs w e.number e.proc s (event_begun w e r) (x ∷ ys) cs (omega arith) turning up closes in
      arise-fine rules.inside w r e (After w r e (x ∷ (ys ++ cs))) s Each (Covers w (After w r e (x ∷ (ys ++ cs))) s)
      (with_step rules.inside w r e (After w r e (x ∷ (ys ++ cs))) (x ∷ (ys ++ cs)) (After w r e (x ∷ (ys ++ cs))).lives) runs.0
      (demand-tested rules meets w r e (After w r e (x ∷ (ys ++ cs))) s)
      (step-space rules.inside w r e (After w r e (x ∷ (ys ++ cs))) (x ∷ (ys ++ cs)) (After w r e (x ∷ (ys ++ cs))).lives runs.0.act.0 ∙ runs.0.space)
      tt (ap (list_any is_up) is ∙ runs.1)
  | inr each ↦
      turning-fine rules meets w r e s x ys cs known proc within fine goes closes
      (pass-append w e.number e.proc s (event_begun w e r) (x ∷ ys) cs (each (event_begun w e r)) closing) blocks
]

-- a completion or a tick
calm-fine : (rules : UserRules) → AnnouncesDemand rules → (w : WorkloadView) (r : Readings) (e : Event) (s : SpaceNo) (x : Record) (ys cs : List Record)
    → IsCovered w r → Fine w r r.lives s
    → GoesThrough w r e (x ∷ (ys ++ cs))
    → EachRecord (Passes s) w e.number e.proc (After w r e (x ∷ ys)) cs → Calm x ys → FineAfter rules.inside w r e (x ∷ (ys ++ cs)) s
calm-fine rules meets w r e s x ys cs known fine goes closing calm =
    let own : EachRecord (Passes s) w e.number e.proc (event_begun w e r) (x ∷ ys) = (
      calm-pass s (event_begun w e r) x ys calm.none calm.quiet,
      subst (EachRecord (Passes s) w e.number e.proc (after_record w e.number e.proc (event_begun w e r) x)) (sym calm.alone) tt,
    ) in
    held-fine rules meets w r e s (x ∷ (ys ++ cs)) known fine goes (pass-append w e.number e.proc s (event_begun w e r) (x ∷ ys) cs own closing)
    (λ a life b is of inside other step. absurd (let clash = sym calm.none ∙ step in cc))

-- A step of a life of another space does not concern this one, where a giveback of the table gives back all that was taken.
abbrev pub GivesAll : StepTable → Type 0
GivesAll By =
    (w : WorkloadView) (r : Readings) (p : ProcNo) (a : ActNo) (life : Life) (b : ActNo) (ys : List Record) → By w r p a life (GiveBack b) ys
    → GiveBack b ∷ ys ≡ map GiveBack (taken_of r life.space)

pub step-passes : (By : StepTable) (L : RecordLaw) (w : WorkloadView) (st : ℕ → Standing) (r : Readings) (e : Event) (s : SpaceNo) (x : Record)
    (ys : List Record) → GivesAll By → Agrees st r → OwnedByLives r → Needs w e.proc (event_begun w e r) x → (step : StepOf By w (event_begun w e r) e.proc x ys)
    → space_of_life r (Some step.act) ≡ Some step.life.space → step.life.space.0 ≢ s.0
    → (Passing s (event_begun w e r) x ys → L (event_begun w e r) x ys)
    → ((c : Readings) (xs : List Record) → EachRecord (Passes s) w e.number e.proc c xs → EachRecord L w e.number e.proc c xs)
    → EachRecord L w e.number e.proc (event_begun w e r) (x ∷ ys)
step-passes By L w st r e s x ys gives_all agrees owned needs step of apart first rest = own step.rest where
  owner : owner_of r e.proc ≡ Some step.life.space
  owner = owner-runs r e.proc owned ∙ ap (space_of_life r) step.runs ∙ of

  taken : (b : ActNo) → Contains (taken_of r step.life.space) b → space_of_life r (Some b) ≢ Some s
  taken b has at =
      apart
      (ap (λ (k : SpaceNo). k.0) (same_Some step.life.space s (sym (agrees.lives b ∙ ap space_in (agrees.taken step.life.space b has)) ∙ at)))

  own : AllOut ys ⊎ ((x ∷ ys ≡ map GiveBack (taken_of r step.life.space)) × ((b c : Readings) → settles b c x ≡ true))
      → EachRecord L w e.number e.proc (event_begun w e r) (x ∷ ys)
  own (inl out) = (
    first (first-passing w e.proc (event_begun w e r) s step.life.space x ys step.quiet.0 apart owner needs (λ b is. gives b is)),
    rest (after_record w e.number e.proc (event_begun w e r) x) ys
        (out-pass w e.number e.proc s (after_record w e.number e.proc (event_begun w e r) x) ys out),
  ) where
    gives : (b : ActNo) → x ≡ GiveBack b → space_of_life r (Some b) ≢ Some s
    gives b is =
        let by : By w (event_begun w e r) e.proc step.act step.life (GiveBack b) ys =
        subst (λ y. By w (event_begun w e r) e.proc step.act step.life y ys) is step.by in
        taken b (head-has b ys (taken_of r step.life.space) (gives_all w (event_begun w e r) e.proc step.act step.life b ys by))
      where
        head-has : (k : ActNo) (zs : List Record) (acts : List ActNo) → GiveBack k ∷ zs ≡ map GiveBack acts → Contains acts k
        head-has k zs [] same = absurd (cc)
        head-has k zs (a ∷ acts) same = (0, omega arith, (let one : a ≡ k = cc in one))
  own (inr all) =
      subst (EachRecord L w e.number e.proc (event_begun w e r)) (sym all.0)
      (rest (event_begun w e r) (map GiveBack (taken_of r step.life.space))
      (given-pass w e.number e.proc s (event_begun w e r) (taken_of r step.life.space) taken))

other-fine : (rules : UserRules) → AnnouncesDemand rules → (w : WorkloadView) (r : Readings) (e : Event) (s : SpaceNo) (x : Record) (ys cs : List Record)
    → IsCovered w r → Fine w r r.lives s
    → GoesThrough w r e (x ∷ (ys ++ cs))
    → EachRecord (Passes s) w e.number e.proc (After w r e (x ∷ ys)) cs → (step : StepOf FormedBy w (event_begun w e r) e.proc x ys)
    → space_of_life r (Some step.act) ≡ Some step.life.space → step.life.space.0 ≢ s.0
    → FineAfter rules.inside w r e (x ∷ (ys ++ cs)) s
other-fine rules meets w r e s x ys cs known fine goes closing step of apart =
    held-fine rules meets w r e s (x ∷ (ys ++ cs)) known fine goes (pass-append w e.number e.proc s (event_begun w e r) (x ∷ ys) cs own closing)
    (λ n life b is at inside other step'. other-life r e.proc step.act s step.life.space step.runs of apart n life b is at other)
  where
    lowers : (u : SpaceNo) (n : ℕ) → x ≡ Want u n → u.0 ≡ s.0 → demand_of r s ≤ n
    lowers u n is same =
        let hint : FormedBy w (event_begun w e r) e.proc step.act step.life (Want u n) ys =
        subst (λ y. FormedBy w (event_begun w e r) e.proc step.act step.life y ys) is step.by in
        absurd (apart (sym (ap (λ (k : SpaceNo). k.0) hint.1) ∙ same))

    own : EachRecord (Passes s) w e.number e.proc (event_begun w e r) (x ∷ ys)
    own =
        step-passes FormedBy (Passes s) w known.st r e s x ys (λ w' r' p a life b zs by. by) known.apart.agrees known.owned goes.steps.0 step of apart
        (λ passing'. passes-so s (event_begun w e r) x ys passing' lowers) (λ c xs each. each)

-- a lowering hint stays above the load
lower-covers : (w : WorkloadView) (r : Readings) (e : Event) (s u : SpaceNo) (n : ℕ) (cs : List Record) (life : Life) → IsCovered w r → s.0 < length w.spaces
    → u ≡ s → life.space ≡ s
    → Lowers (event_begun w e r) life n → GoesThrough w r e (Want u n ∷ cs) → EachRecord (Passes s) w e.number e.proc (After w r e (Want u n ∷ [])) cs
    → Covers w (After w r e (Want u n ∷ cs)) s
lower-covers w r e s u n cs life known within same of lower goes closing =
    let apart = apart-begun w known.st r e (Want u n ∷ cs) known.apart in
    let all = kept-all w e.number e.proc (standing_after e.proc known.st (Want u n)) (after_record w e.number e.proc (event_begun w e r) (Want u n)) s cs
    (apart-step w e.number e.proc known.st (event_begun w e r) (Want u n) cs apart tt tt tt)
    (record { moves = goes.moves.1; tells = goes.tells.1; steps = goes.steps.1 }) closing (λ telling. absurd (cc)) in
    let long = known.sized.demands in
    let demand : demand_of (after_record w e.number e.proc (event_begun w e r) (Want u n)) s ≡ n =
    ap (λ (k : SpaceNo). get_or (slice_set r.demands k.0 n) s.0 0) same ∙ get_or-set_same r.demands s.0 n 0 (omega arith) in
    let above : load_of r s < demand_of r s = subst (λ (k : SpaceNo). load_of r k < demand_of r k) of lower.above in
    let number : n + 1 ≡ demand_of r s = lower.number ∙ ap (demand_of r) of in
    let enough : usable w r s ≤ n = omega arith in
    let less : min w.processors (active_threads (space_at r.state s)) ≤ n =
    min-less w.processors (active_threads (space_at r.state s)) (load_of r s) n (omega arith) enough in
    covers-more w (after_record w e.number e.proc (event_begun w e r) (Want u n)) (After w r e (Want u n ∷ cs)) s all.kept.active all.kept.demand
    (subst (λ k. min w.processors (active_threads (space_at r.state s)) ≤ k) (sym demand) less)

-- a step of a life of the space
same-fine : (rules : UserRules) → AnnouncesDemand rules → (w : WorkloadView) (r : Readings) (e : Event) (s : SpaceNo) (x : Record) (ys cs : List Record)
    → IsCovered w r → s.0 < length w.spaces
    → Fine w r r.lives s
    → BeginsFreely w r e.proc (x ∷ (ys ++ cs)) → GoesThrough w r e (x ∷ (ys ++ cs)) → IsClosing cs
    → EachRecord (Passes s) w e.number e.proc (After w r e (x ∷ ys)) cs
    → (step : StepOf FormedBy w (event_begun w e r) e.proc x ys) → r.lives step.act.0 ≡ Some step.life → step.life.space ≡ s
    → FineAfter rules.inside w r e (x ∷ (ys ++ cs)) s
same-fine rules meets w r e s x ys cs known within fine freely goes closes closing step is of = one (settles r (After w r e (x ∷ (ys ++ cs))) x) refl where
  there : space_of_life r (Some step.act) ≡ Some s
  there = ap space_of is ∙ ap Some of

  settled : settles r (After w r e (x ∷ (ys ++ cs))) x ≡ true → FineAfter rules.inside w r e (x ∷ (ys ++ cs)) s
  settled settles_it =
      let stands = known.apart.agrees.running e.proc step.act step.runs in
      let space : stands.0 ≡ s = same_Some stands.0 s (sym (known.apart.agrees.lives step.act ∙ ap space_in stands.1) ∙ there) in
      let quiet = quiet-runs w e.number e.proc known.st (event_begun w e r) s step.act (x ∷ (ys ++ cs)) (apart-begun w known.st r e (x ∷ (ys ++ cs)) known.apart) goes
      (quiet-append (x ∷ ys) cs step.quiet (closing-quiet cs closes)) step.runs (stands.1 ∙ ap (λ k. Runs k e.proc) space) in
      let same : quiet.0.act ≡ step.act = same_Some quiet.0.act step.act (sym quiet.0.runs ∙ quiet.1) in
      settle-fine rules.inside w r e (After w r e (x ∷ (ys ++ cs))) s Each (Covers w (After w r e (x ∷ (ys ++ cs))) s) x (ys ++ cs)
      (After w r e (x ∷ (ys ++ cs))).lives step.act (demand-tested rules meets w r e (After w r e (x ∷ (ys ++ cs))) s) step.runs
      (ap (λ (k : ActNo). space_of ((After w r e (x ∷ (ys ++ cs))).lives k.0)) (sym same) ∙ quiet.0.space) tt step.step settles_it

  out : settles r (After w r e (x ∷ (ys ++ cs))) x ≡ false → AllOut ys
  out none = two step.rest where
    two : AllOut ys ⊎ ((x ∷ ys ≡ map GiveBack (taken_of r step.life.space)) × ((b c : Readings) → settles b c x ≡ true)) → AllOut ys
    two (inl outs) = outs
    two (inr given) = absurd (let clash = sym (given.1 r (After w r e (x ∷ (ys ++ cs)))) ∙ none in cc)

  bound : ((rest : List Record) (k : Readings) → Passes s k x rest) → ((life : Life) → is_bound r life x ≡ true) → AllOut ys
      → FineAfter rules.inside w r e (x ∷ (ys ++ cs)) s
  bound pass binds outs =
      let passes = pass-append w e.number e.proc s (event_begun w e r) (x ∷ ys) cs
      (pass ys (event_begun w e r), out-pass w e.number e.proc s (after_record w e.number e.proc (event_begun w e r) x) ys outs) closing in
      let free : StepIsFree w r (Some step.life) x =
      subst (λ o. StepIsFree w r o x) step.on (subst (λ k. StepIsFreeIf k w r (life_on r e.proc) x) step.step freely) in
      three passes (free.free (binds step.life))
    where
      three : PassesAll w r e (x ∷ (ys ++ cs)) s → (step.life.inside ≡ false) ⊎ OwesNothing w r step.life → FineAfter rules.inside w r e (x ∷ (ys ++ cs)) s
      three passes (inl outside) = held-fine rules meets w r e s (x ∷ (ys ++ cs)) known fine goes passes (λ a life b at in_it inside other step' same.
          let act : b ≡ step.act = same_Some b step.act (sym other ∙ step.runs) in
          let life_is : life ≡ step.life = same_Some life step.life (sym at ∙ ap r.lives (same ∙ ap (λ (k : ActNo). k.0) act) ∙ is) in
          let clash : true ≡ false = sym inside ∙ ap (λ (k : Life). k.inside) life_is ∙ outside in cc)
      three passes (inr owes) =
          let all = kept-all w e.number e.proc known.st (event_begun w e r) s (x ∷ (ys ++ cs)) (apart-begun w known.st r e (x ∷ (ys ++ cs)) known.apart) goes passes
          (λ telling. absurd (cc)) in
          inr
          (inr (covers-more w r (After w r e (x ∷ (ys ++ cs))) s all.kept.active all.kept.demand
          (subst (Covers w r) of (usable-covers w r step.life.space owes.announced))))

  lowers : (u : SpaceNo) (n : ℕ) → x ≡ Want u n → nat_lt n (demand_of r u) ≡ true → FineAfter rules.inside w r e (x ∷ (ys ++ cs)) s
  lowers u n want low =
      let by : FormedBy w (event_begun w e r) e.proc step.act step.life (Want u n) ys =
      subst (λ y. FormedBy w (event_begun w e r) e.proc step.act step.life y ys) want step.by in
      let can : Lowers (event_begun w e r) step.life n = subst (λ k. Hints k w (event_begun w e r) step.life n) low by.2 in
      inr (inr (subst (λ zs. Lowered x zs) (sym by.0) (subst (λ y. Lowered y []) (sym want)
      (λ goes' closing'. lower-covers w r e s u n cs step.life known within (by.1 ∙ of) of can goes' closing')) goes closing))
    where
      Lowered : Record → List Record → Type 0
      Lowered y zs =
          GoesThrough w r e (y ∷ (zs ++ cs)) → EachRecord (Passes s) w e.number e.proc (After w r e (y ∷ zs)) cs → Covers w (After w r e (y ∷ (zs ++ cs))) s

  one : (b : Bool) → settles r (After w r e (x ∷ (ys ++ cs))) x ≡ b → FineAfter rules.inside w r e (x ∷ (ys ++ cs)) s
  one true at = settled at
  one false at = elim (unsettled r (After w r e (x ∷ (ys ++ cs))) s x step.step step.quiet.0 at) [
    | inl binds ↦ bound binds.0 binds.1 (out at)
    | inr want ↦ lowers want.0 want.1 want.2 want.3
  ]

-- each event
pub event-fine : (rules : UserRules) → AnnouncesDemand rules → (w : WorkloadView) (r : Readings) (e : Event) → IsCovered w r → IsLawful rules w r e
    → 1 ≤ e.number → (s : SpaceNo)
    → s.0 < length w.spaces → Fine w r r.lives s
    → Fine w (after_event rules.inside w r e) (after_event rules.inside w r e).lives s
event-fine rules meets w r e known law from s within fine = whole (in-form rules meets w r e law from) where
  goes-at : (xs : List Record) → e.records ≡ xs → GoesThrough w r e xs
  goes-at xs is = record {
    moves = subst (EachRecord (Moves w e.proc) w e.number e.proc (event_begun w e r)) is (lawful-moves rules meets.forms.tells w r e law);
    tells = subst (EachRecord (TellsAllThen e.proc) w e.number e.proc (event_begun w e r)) is law.all_told.told;
    steps = subst (AreSteps w e.number e.proc (event_begun w e r)) is law.stepwise.steps;
  }

  formed : (x : Record) (ys cs : List Record) → e.records ≡ x ∷ (ys ++ cs) → IsClosing cs → EachRecord (Passes s) w e.number e.proc (After w r e (x ∷ ys)) cs
      → Form FormedBy w (event_begun w e r) e.proc x ys
      → FineAfter rules.inside w r e (x ∷ (ys ++ cs)) s
  formed x ys cs is closes closing (inl turns) =
      up-turn-fine rules meets w r e s x ys cs known law.numbered.proc within fine is (goes-at (x ∷ (ys ++ cs)) is) closes closing turns.0 turns.1
  formed x ys cs is closes closing (inr (inl calm)) = calm-fine rules meets w r e s x ys cs known fine (goes-at (x ∷ (ys ++ cs)) is) closing calm
  formed x ys cs is closes closing (inr (inr step)) =
      let life : r.lives step.act.0 ≡ Some step.life = ap (life_if r) (sym step.runs) ∙ step.on in
      elim (cases_eq step.life.space.0 s.0) [
        | inl same ↦
            same-fine rules meets w r e s x ys cs known within fine (subst (BeginsFreely w r e.proc) is ((meets.announced w r e law).step from))
            (goes-at (x ∷ (ys ++ cs)) is) closes closing step life
            (ap (λ n. record { 0 = n }) same)
        | inr apart ↦ other-fine rules meets w r e s x ys cs known fine (goes-at (x ∷ (ys ++ cs)) is) closing step (ap space_of life) apart
      ]

  whole : InForm w r e → Fine w (after_event rules.inside w r e) (after_event rules.inside w r e).lives s
  whole parts =
      subst (λ xs. FineAfter rules.inside w r e xs s) (sym parts.is)
      (formed parts.first parts.own parts.closing parts.is parts.closes
      (closing-pass w e.number e.proc s (After w r e (parts.first ∷ parts.own)) (After w r e (parts.first ∷ parts.own)) parts.closing parts.closes parts.low
      (λ u less. less)) parts.form)
