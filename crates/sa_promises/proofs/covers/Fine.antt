-- Of a space at the end of an event: a life of it is in, or something is untold to it, or all is good: for FastThreads, its
-- demand covers what is ready or runs.
use Rattle.std.proofs.Common.{◌≡◌, ◌≢◌, ℕ, ◌<◌, ◌≤◌, ◌⊎◌, inl, inr, refl, sym, ◌∙◌, ap, subst, arith, Some, None, List, [], ◌∷◌, ◌++◌, length, true, false}
use Rattle.std.specs.Prelude.{Option, Bool, ◌||◌, ◌&&◌, nat_lt, min, if◌then◌else◌, get_or, slice_set, Contains}
use Rattle.std.specs.List.{list_any}
use Rattle.std.specs.Option.{option_map}
use Rattle.std.proofs.lemmas.Bool.{cases_eq}
use Rattle.std.proofs.lemmas.Bool.Decides.{nat_tests}
use Rattle.std.proofs.lemmas.List.{get_or-set_same}
use Rattle.std.proofs.lemmas.List.Elements.{Contains-push}
use Rattle.std.proofs.lemmas.Option.{same_Some}
use Rattle.sa_lemmas.proofs.FunctionUpdates.{put-at, put-other}
use Rattle.sa_base.specs.declared.number.SpaceNo.{SpaceNo}
use Rattle.sa_base.specs.declared.number.ProcNo.{ProcNo}
use Rattle.sa_base.specs.declared.number.ActNo.{ActNo}
use Rattle.sa_base.specs.declared.record.Note.{Note}
use Rattle.sa_base.specs.declared.record.Note.TheVariants as note
use Rattle.sa_base.specs.declared.record.Record.{Record}
use Rattle.sa_base.specs.declared.record.Record.TheVariants.{Ins, Block}
use Rattle.sa_spaces.specs.Workload.{WorkloadView}
use Rattle.sa_laws.specs.Event.{Event}
use Rattle.sa_laws.specs.State.{space_at, active_threads}
use Rattle.sa_laws.specs.Machine.{next_effect}
use Rattle.sa_laws.specs.Life.{Life, has_lock, with_hand}
use Rattle.sa_laws.specs.Readings.{Readings, running_of, demand_of, untold_of, load_of, usable, has_hand, space_of_life}
use Rattle.sa_laws.specs.Record.{after_record, with_life}
use Rattle.sa_laws.specs.Rules.{UserRules}
use Rattle.sa_promises.specs.Needs.{AnnouncesDemand, is_telling}
use Rattle.sa_laws.specs.History.{Test, is_inside, is_step, is_up, settles, stepped, arisen, with_step, with_up, after_records}
use Rattle.sa_laws.specs.Upcalls.{EachRecord}
use Rattle.sa_promises.proofs.lives.Standing.{Standing, standing_after, space_of, space-with}
use Rattle.sa_promises.proofs.lives.Holders.{has-life}
use Rattle.sa_promises.proofs.lives.Moves.{stood}
use Rattle.sa_promises.proofs.covers.Apart.{IsApart, apart-step, is_real}
use Rattle.sa_promises.proofs.covers.Passed.{Kept, Passing, Goes, noted-all}
use Rattle.sa_promises.proofs.covers.Forms.{RunsAt, BlocksFirst}

-- a life of the space is in, of those whose numbers count
abbrev pub Within : (ℕ → Type 0) → (ℕ → Option Life) → SpaceNo → Type 0
Within Counts lives s = (a : ℕ) × (life : Life) × (lives a ≡ Some life) × (life.space ≡ s) × (life.inside ≡ true) × Counts a

abbrev pub Untold : Readings → SpaceNo → Type 0
Untold r s = (n : Note) × (is_real n ≡ true) × Contains (untold_of r s) n

abbrev pub IsFine : (ℕ → Type 0) → Type 0 → Readings → (ℕ → Option Life) → SpaceNo → Type 0
IsFine Counts Good r lives s = Within Counts lives s ⊎ (Untold r s ⊎ Good)

-- a life of the space that its event settled, or that of an up, is in, or all is good
abbrev pub IsTested : Test → WorkloadView → Readings → Event → Readings → SpaceNo → Type 0 → Type 0
IsTested test w r e c s Good = (life : Life) → life.space ≡ s → (test w r e c true life ≡ true) ⊎ Good

-- one life of the space at the end of the event
pub up-fine : (test : Test) (w : WorkloadView) (r : Readings) (e : Event) (c : Readings) (s : SpaceNo) (Counts : ℕ → Type 0) (Good : Type 0)
    (lives : ℕ → Option Life) → IsTested test w r e c s Good → Within Counts lives s → IsFine Counts Good c (with_up test w r e c lives) s
up-fine test w r e c s Counts Good lives tested (a, life, is, of, inside, counts) = one (list_any is_up e.records) where
  two : (o : Option ActNo) → IsFine Counts Good c (with_life (arisen test w r e c) o lives) s
  two None = inl (a, life, is, of, inside, counts)
  two (Some b) = elim (cases_eq a b.0) [
    | inl at ↦ elim (tested life of) [
      | inl tests ↦ inl (
        a,
        arisen test w r e c life,
        put-at lives b.0 a (option_map (arisen test w r e c) (lives b.0)) at ∙ ap (option_map (arisen test w r e c)) (ap lives (sym at) ∙ is),
        of,
        tests,
        counts,
      )
      | inr good ↦ inr (inr good)
    ]
    | inr apart ↦ inl (a, life, put-other lives b.0 a (option_map (arisen test w r e c) (lives b.0)) apart ∙ is, of, inside, counts)
  ]

  one : (b : Bool) → IsFine Counts Good c (if b then with_life (arisen test w r e c) (running_of c e.proc) lives else lives) s
  one false = inl (a, life, is, of, inside, counts)
  one true = two (running_of c e.proc)

pub step-space : (test : Test) (w : WorkloadView) (r : Readings) (e : Event) (c : Readings) (xs : List Record) (lives : ℕ → Option Life) (a : ℕ)
    → space_of (with_step test w r e c xs lives a) ≡ space_of (lives a)
step-space test w r e c [] lives a = refl
step-space test w r e c (x ∷ xs) lives a = one (is_step x) where
  one : (b : Bool) → space_of ((if b then with_life (stepped test w r e c x) (running_of r e.proc) lives else lives) a) ≡ space_of (lives a)
  one true = space-with (stepped test w r e c x) (running_of r e.proc) lives a (λ l. refl)
  one false = refl

-- the life of an up
pub arise-fine : (test : Test) (w : WorkloadView) (r : Readings) (e : Event) (c : Readings) (s : SpaceNo) (Counts : ℕ → Type 0) (Good : Type 0)
    (lives : ℕ → Option Life) (at : RunsAt e.proc s c) → IsTested test w r e c s Good → space_of (lives at.act.0) ≡ Some s → Counts at.act.0
    → list_any is_up e.records ≡ true → IsFine Counts Good c (with_up test w r e c lives) s
arise-fine test w r e c s Counts Good lives at tested space counts up =
    let l = has-life lives at.act.0 s (lives at.act.0) refl space in
    subst (λ b. IsFine Counts Good c (if b then with_life (arisen test w r e c) (running_of c e.proc) lives else lives) s) (sym up)
    (subst (λ o. IsFine Counts Good c (with_life (arisen test w r e c) o lives) s) (sym at.runs)
    (elim (tested l.0 l.2) [
      | inl tests ↦ inl (
        at.act.0,
        arisen test w r e c l.0,
        put-at lives at.act.0 at.act.0 (option_map (arisen test w r e c) (lives at.act.0)) refl ∙ ap (option_map (arisen test w r e c)) l.1,
        l.2,
        tests,
        counts,
      )
      | inr good ↦ inr (inr good)
    ]))

-- the life of a step that settles it
pub settle-fine : (test : Test) (w : WorkloadView) (r : Readings) (e : Event) (c : Readings) (s : SpaceNo) (Counts : ℕ → Type 0) (Good : Type 0)
    (x : Record) (xs : List Record) (lives : ℕ → Option Life) (a : ActNo) → IsTested test w r e c s Good → running_of r e.proc ≡ Some a
    → space_of (lives a.0) ≡ Some s → Counts a.0 → is_step x ≡ true → settles r c x ≡ true
    → IsFine Counts Good c (with_up test w r e c (with_step test w r e c (x ∷ xs) lives)) s
settle-fine test w r e c s Counts Good x xs lives a tested runs space counts step settled =
    let l = has-life lives a.0 s (lives a.0) refl space in
    elim (tested l.0 l.2) [
      | inl tests ↦
          up-fine test w r e c s Counts Good (with_step test w r e c (x ∷ xs) lives) tested
          (subst (λ b. Within Counts (if b then with_life (stepped test w r e c x) (running_of r e.proc) lives else lives) s) (sym step)
          (subst (λ o. Within Counts (with_life (stepped test w r e c x) o lives) s) (sym runs) (
            a.0,
            stepped test w r e c x l.0,
            put-at lives a.0 a.0 (option_map (stepped test w r e c x) (lives a.0)) refl ∙ ap (option_map (stepped test w r e c x)) l.1,
            l.2,
            ap (λ b. test w r e c b l.0) settled ∙ tests,
            counts,
          )))
      | inr good ↦ inr (inr good)
    ]

-- another life of the space
abbrev pub IsStepOf : List Record → Type 0
IsStepOf [] = ⊥
IsStepOf (x ∷ xs) = is_step x ≡ true

step-still : (test : Test) (w : WorkloadView) (r : Readings) (e : Event) (c : Readings) (s : SpaceNo) (Counts : ℕ → Type 0) (xs : List Record)
    (lives : ℕ → Option Life) → (within : Within Counts lives s) → ((b : ActNo) → running_of r e.proc ≡ Some b → IsStepOf xs → within.0 ≢ b.0)
    → Within Counts (with_step test w r e c xs lives) s
step-still test w r e c s Counts [] lives within other = within
step-still test w r e c s Counts (x ∷ xs) lives (a, life, is, of, inside, counts) other = one (is_step x) (λ b runs step. other b runs step) where
  one : (k : Bool) → ((b : ActNo) → running_of r e.proc ≡ Some b → k ≡ true → a ≢ b.0)
      → Within Counts (if k then with_life (stepped test w r e c x) (running_of r e.proc) lives else lives) s
  one false apart = (a, life, is, of, inside, counts)
  one true apart = two (running_of r e.proc) (λ b runs. apart b runs refl) where
    two : (o : Option ActNo) → ((b : ActNo) → o ≡ Some b → a ≢ b.0) → Within Counts (with_life (stepped test w r e c x) o lives) s
    two None away = (a, life, is, of, inside, counts)
    two (Some b) away = (a, life, put-other lives b.0 a (option_map (stepped test w r e c x) (lives b.0)) (away b refl) ∙ is, of, inside, counts)

pub still-fine : (test : Test) (w : WorkloadView) (r : Readings) (e : Event) (c : Readings) (s : SpaceNo) (Counts : ℕ → Type 0) (Good : Type 0)
    (xs : List Record) (lives : ℕ → Option Life) → IsTested test w r e c s Good → (within : Within Counts lives s)
    → ((b : ActNo) → running_of r e.proc ≡ Some b → IsStepOf xs → within.0 ≢ b.0)
    → IsFine Counts Good c (with_up test w r e c (with_step test w r e c xs lives)) s
still-fine test w r e c s Counts Good xs lives tested within other =
    up-fine test w r e c s Counts Good (with_step test w r e c xs lives) tested (step-still test w r e c s Counts xs lives within other)

-- for FastThreads each number counts, and it is good that the demand covers what is ready or runs
abbrev pub Covers : WorkloadView → Readings → SpaceNo → Type 0
Covers w r s = min w.processors (active_threads (space_at r.state s)) ≤ demand_of r s

abbrev pub Each : ℕ → Type 0
Each a = Unit {0}

abbrev pub Fine : WorkloadView → Readings → (ℕ → Option Life) → SpaceNo → Type 0
Fine w r lives s = IsFine Each (Covers w r s) r lives s

pub min-less : (p a b d : ℕ) → a ≤ b → min p b ≤ d → min p a ≤ d
min-less p a b d le is = omega (arith, le, is)

pub covers-more : (w : WorkloadView) (r c : Readings) (s : SpaceNo) → active_threads (space_at c.state s) ≤ active_threads (space_at r.state s)
    → demand_of r s ≤ demand_of c s → Covers w r s → Covers w c s
covers-more w r c s active demand is =
    let less = min-less w.processors (active_threads (space_at c.state s)) (active_threads (space_at r.state s)) (demand_of r s) active is in
    omega (arith, less, demand)

pub usable-covers : (w : WorkloadView) (r : Readings) (s : SpaceNo) → usable w r s ≤ demand_of r s → Covers w r s
usable-covers w r s is = min-less w.processors (active_threads (space_at r.state s)) (load_of r s) (demand_of r s) (omega arith) is

-- a life that its event settled, or that of an up
third : (a b c d x : Bool) → d ≡ true → (a || b || c || (true && d) || x) ≡ true
third false false false false x is = absurd (cc)
third _ _ _ _ x is = refl

not-below : (a b : ℕ) → nat_lt a b ≡ false → b ≤ a
not-below a b is = grind (arith, nat_tests)

pub test-fine : (w : WorkloadView) (before : Readings) (e : Event) (after : Readings) (life : Life)
    → (is_inside w before e after true life ≡ true) ⊎ Covers w after life.space
test-fine w before e after life = one (nat_lt (demand_of after life.space) (usable w after life.space)) refl where
  one : (b : Bool) → nat_lt (demand_of after life.space) (usable w after life.space) ≡ b
      → (is_inside w before e after true life ≡ true) ⊎ Covers w after life.space
  one true is = inl (third (has_lock life) life.cont (has_hand after life) (nat_lt (demand_of after life.space) (usable w after life.space)) _ is)
  one false is = inr (usable-covers w after life.space (not-below (demand_of after life.space) (usable w after life.space) is))

pub demand-tested : (rules : UserRules) → AnnouncesDemand rules → (w : WorkloadView) (r : Readings) (e : Event) (c : Readings) (s : SpaceNo)
    → IsTested rules.inside w r e c s (Covers w c s)
demand-tested rules meets w r e c s life of = elim (test-fine w r e c life) [
  | inl inside ↦ inl (meets.inside w r e c true life inside)
  | inr covers ↦ inr (subst (Covers w c) of covers)
]

pub keep-fine : (rules : UserRules) → AnnouncesDemand rules → (w : WorkloadView) (r : Readings) (e : Event) (c : Readings) (s : SpaceNo) (xs : List Record)
    → Kept s r c → Fine w r r.lives s
    → ((a : ℕ) (life : Life) (b : ActNo) → r.lives a ≡ Some life → life.space ≡ s → life.inside ≡ true → running_of r e.proc ≡ Some b → IsStepOf xs → a ≢ b.0)
    → Fine w c (with_up rules.inside w r e c (with_step rules.inside w r e c xs c.lives)) s
keep-fine rules meets w r e c s xs kept (inl (a, life, is, of, inside, each)) spared =
    let new = kept.lives a life is of in
    still-fine rules.inside w r e c s Each (Covers w c s) xs c.lives (demand-tested rules meets w r e c s) (a, new.0, new.1, new.2, new.3 ∙ inside, tt)
    (λ b runs step. spared a life b is of inside runs step)
keep-fine rules meets w r e c s xs kept (inr (inl untold)) spared = inr (inl (untold.0, untold.1, kept.noted untold.0 untold.1 untold.2))
keep-fine rules meets w r e c s xs kept (inr (inr covers)) spared = inr (inr (covers-more w r c s kept.active kept.demand covers))

-- what a record notes is untold, and stays so where what follows does not concern the space
pub note-has : (r : Readings) (s u : SpaceNo) (n : Note) → u ≡ s → s.0 < length r.untold
    → Contains (get_or (slice_set r.untold u.0 (get_or r.untold u.0 [] ++ n ∷ [])) s.0 []) n
note-has r s u n same within =
    subst (λ (k : SpaceNo). Contains (get_or (slice_set r.untold k.0 (get_or r.untold k.0 [] ++ n ∷ [])) s.0 []) n) (sym same)
    (subst (λ ns. Contains ns n) (sym (get_or-set_same r.untold s.0 (get_or r.untold s.0 [] ++ n ∷ []) [] within)) (Contains-push (get_or r.untold s.0 []) n))

pub noted-end : (w : WorkloadView) (e : ℕ) (p : ProcNo) (st : ℕ → Standing) (r : Readings) (s : SpaceNo) (x : Record) (xs : List Record) (n : Note)
    → is_real n ≡ true → is_telling (Some x) ≡ false
    → Contains (untold_of (after_record w e p r x) s) n → IsApart st r (x ∷ xs) → Goes w e p r (x ∷ xs) → EachRecord (Passing s) w e p r (x ∷ xs)
    → Untold (after_records w e p r (x ∷ xs)) s
noted-end w e p st r s x xs n real silent has apart goes passes =
    let law = goes.moves.0 in
    let was = stood w p st r x xs apart.agrees law in (
      n,
      real,
      noted-all w e p (standing_after p st x) (after_record w e p r x) s xs n (apart-step w e p st r x xs apart was law goes.tells.0)
          (record { moves = goes.moves.1; tells = goes.tells.1; steps = goes.steps.1 }) passes.1
          (λ telling. absurd (let clash = sym silent ∙ telling in cc)) real has,
    )

pub one-act : (r : Readings) (s u : SpaceNo) (a b : ActNo) (p : ProcNo) → running_of r p ≡ Some a → running_of r p ≡ Some b → space_of_life r (Some a) ≡ Some s
    → space_of_life r (Some b) ≡ Some u → u ≡ s
one-act r s u a b p one two first second =
    let same : a ≡ b = same_Some a b (sym one ∙ two) in
    same_Some u s (sym second ∙ ap (λ (k : ActNo). space_of_life r (Some k)) (sym same) ∙ first)

-- so a block leaves something untold
pub blocks-untold : (w : WorkloadView) (e : ℕ) (p : ProcNo) (st : ℕ → Standing) (r : Readings) (s : SpaceNo) (a : ActNo) (x : Record) (ys cs : List Record)
    → BlocksFirst x ys → is_step x ≡ true
    → running_of r p ≡ Some a → space_of_life r (Some a) ≡ Some s → s.0 < length r.untold → IsApart st r (x ∷ (ys ++ cs)) → Goes w e p r (x ∷ (ys ++ cs))
    → EachRecord (Passing s) w e p r (x ∷ (ys ++ cs))
    → Untold (after_records w e p r (x ∷ (ys ++ cs))) s
blocks-untold w e p st r s a (Block u t b io) ys cs blocks step runs space within apart goes passes =
    let law = goes.moves.0 in
    noted-end w e p st r s (Block u t b io) (ys ++ cs) (note.Blocked b) refl refl
    (note-has r s u (note.Blocked b) (one-act r s u a b p runs law.act space law.space) within) apart goes passes
blocks-untold w e p st r s a (Ins v k i) (Block u t b io ∷ ys) cs blocks step runs space within apart goes passes =
    let was = stood w p st r (Ins v k i) (Block u t b io ∷ (ys ++ cs)) apart.agrees goes.moves.0 in
    let after = after_record w e p r (Ins v k i) in
    let law = goes.moves.1.0 in
    let same : space_of_life after (Some b) ≡ space_of_life r (Some b) =
    space-with (with_hand (next_effect w r.state v k).roused) (running_of r p) r.lives b.0 (λ l. refl) in
    noted-end w e p (standing_after p st (Ins v k i)) after s (Block u t b io) (ys ++ cs) (note.Blocked b) refl refl
    (note-has after s u (note.Blocked b) (one-act r s u a b p runs law.act space (sym same ∙ law.space)) within)
    (apart-step w e p st r (Ins v k i) (Block u t b io ∷ (ys ++ cs)) apart was goes.moves.0 goes.tells.0)
    (record { moves = goes.moves.1; tells = goes.tells.1; steps = goes.steps.1 }) passes.1
blocks-untold w e p st r s a x ys cs blocks step runs space within apart goes passes = absurd (cc)
