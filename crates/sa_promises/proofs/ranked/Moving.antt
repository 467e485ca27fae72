-- What is known along the records of an event, and what they leave of a space that they do not concern.
use Rattle.std.proofs.Common.{◌≡◌, ◌≢◌, ℕ, zero, suc, ◌<◌, inl, inr, refl, sym, ◌∙◌, ap, Some, None, List, [], ◌∷◌, true}
use Rattle.std.specs.Prelude.{Option, Contains, get_or, slice_set}
use Rattle.std.proofs.lemmas.Bool.{cases_eq}
use Rattle.std.proofs.lemmas.Option.{none-some}
use Rattle.sa_lemmas.specs.Function.{put}
use Rattle.sa_lemmas.proofs.FunctionUpdates.{put-at, put-other}
use Rattle.sa_base.specs.declared.number.SpaceNo.{SpaceNo}
use Rattle.sa_base.specs.declared.number.ProcNo.{ProcNo}
use Rattle.sa_base.specs.declared.record.Note.{Note}
use Rattle.sa_base.specs.declared.record.Note.TheVariants as note
use Rattle.sa_base.specs.declared.record.Record.{Record}
use Rattle.sa_base.specs.declared.record.Record.TheVariants.{Run, Stop, Block, Unblock, Cont, Ready, Up, Told, GiveBack, Line}
use Rattle.sa_spaces.specs.Workload.{WorkloadView}
use Rattle.sa_laws.specs.Life.{Life}
use Rattle.sa_laws.specs.Readings.{Readings, line_of, untold_of, space_of_life}
use Rattle.sa_laws.specs.Record.{lines_after, after_record}
use Rattle.sa_laws.specs.History.{after_records}
use Rattle.sa_laws.specs.Upcalls.{EachRecord}
use Rattle.sa_promises.proofs.lives.Standing.{Standing, Runs, Stopped, Blocked, Returned, Nowhere, standing_after, space_of, space_in, kind, took}
use Rattle.sa_promises.specs.Needs.{is_telling}
use Rattle.sa_promises.proofs.lives.Shapes.{Moves}
use Rattle.sa_promises.proofs.lives.Moves.{stood}
use Rattle.sa_promises.proofs.lives.Shown.{Shows, shows-step}
use Rattle.sa_promises.proofs.covers.Apart.{IsApart, apart-step, is_real, told-space}
use Rattle.sa_promises.proofs.covers.Passed.{Passing, Goes, lives-kept, noted-step, quiet-step}
use Rattle.sa_promises.proofs.ranked.Fading.{Fades, Spares, record-fades, fades-more, fades-self}
use Rattle.sa_promises.proofs.ranked.Places.{IsPlaced, places-step}

-- lines are only raised
set-low : (lines : List (Option ℕ)) (i j e : ℕ) → get_or (slice_set lines i (Some e)) j None ≡ None → get_or lines j None ≡ None
set-low (l ∷ lines) zero zero e is = absurd (none-some e (sym is))
set-low (l ∷ lines) (suc i) (suc j) e is = set-low lines i j e is
set-low _ _ _ e is = is

pub low-step : (e : ℕ) (r : Readings) (x : Record) (q : ℕ) → get_or (lines_after e r.lines x) q None ≡ None → get_or r.lines q None ≡ None
low-step e r (Line k) q is = set-low r.lines k.0 q e is
low-step e r x q is = is

spares : (r : Readings) (s : SpaceNo) (x : Record) (xs : List Record) → Passing s r x xs → Spares s x
spares r s (Run u t) xs passes = passes
spares r s (Ready u t) xs passes = passes
spares r s (Cont u t) xs passes = passes
spares r s x xs passes = tt

-- a life of the space is not taken by a record that does not concern it
not-five : (st : ℕ → Standing) (a b : ℕ) (v : Standing) → (b ≡ a → kind v ≢ 5) → kind (st b) ≢ 5 → kind (put st a v b) ≢ 5
not-five st a b v new old five = elim (cases_eq b a) [
  | inl at ↦ new at (sym (ap kind (put-at st a b v at)) ∙ five)
  | inr apart ↦ old (sym (ap kind (put-other st a b v apart)) ∙ five)
]

untaken : (w : WorkloadView) (p : ProcNo) (st : ℕ → Standing) (r : Readings) (s : SpaceNo) (x : Record) (xs : List Record) (b : ℕ) → IsApart st r (x ∷ xs)
    → Moves w p r x xs
    → (is_telling r.last ≡ true → space_of_life r r.upped ≢ Some s) → space_in (st b) ≡ Some s → kind (st b) ≢ 5 → kind (standing_after p st x b) ≢ 5
untaken w p st r s (Stop u t a) xs b apart law quiet of free = not-five st a.0 b (Stopped u) (λ at e. cc) free
untaken w p st r s (Block u t a io) xs b apart law quiet of free = not-five st a.0 b (Blocked u) (λ at e. cc) free
untaken w p st r s (Unblock u t a) xs b apart law quiet of free = not-five st a.0 b (Returned u) (λ at e. cc) free
untaken w p st r s (Up u a) xs b apart law quiet of free = not-five st a.0 b (Runs u p) (λ at e. cc) free
untaken w p st r s (Told (note.Preempted a)) xs b apart law quiet of free =
    let up = told-space st r (note.Preempted a) a apart.agrees (inl refl) law.0 in
    not-five st a.0 b (took (st a.0)) (λ at. absurd (quiet law.1 (up.1 ∙ sym up.2 ∙ ap (λ k. space_in (st k)) (sym at) ∙ of))) free
untaken w p st r s (Told (note.Unblocked a)) xs b apart law quiet of free =
    let up = told-space st r (note.Unblocked a) a apart.agrees (inr refl) law.0 in
    not-five st a.0 b (took (st a.0)) (λ at. absurd (quiet law.1 (up.1 ∙ sym up.2 ∙ ap (λ k. space_in (st k)) (sym at) ∙ of))) free
untaken w p st r s (GiveBack a) xs b apart law quiet of free = not-five st a.0 b Nowhere (λ at e. cc) free
untaken w p st r s _ xs b apart law quiet of free = free

-- of a space: none more is ready or runs, lines that are low were low, its lives are as much in, and what is untold stays so
pub record Held (s : SpaceNo) (st now : ℕ → Standing) (r c : Readings) : Type 0 where
  pub fades : Fades s r.state c.state
  pub low : (q : ProcNo) → line_of c q ≡ None → line_of r q ≡ None
  pub lives : (a : ℕ) (life : Life) → r.lives a ≡ Some life → life.space ≡ s → kind (st a) ≢ 5
      → (new : Life) × (c.lives a ≡ Some new) × (new.space ≡ s) × (new.inside ≡ life.inside) × (kind (now a) ≢ 5)
  pub noted : (n : Note) → is_real n ≡ true → Contains (untold_of r s) n → Contains (untold_of c s) n

pub held-self : (s : SpaceNo) (st : ℕ → Standing) (r : Readings) → Held s st st r r
held-self s st r =
    record {
      fades = fades-self (Rattle.sa_laws.specs.State.space_at r.state s).threads;
      low = λ q is. is;
      lives = λ a life is of free. (life, is, of, refl, free);
      noted = λ n real has. has;
    }

pub held-more : (s : SpaceNo) (st mid now : ℕ → Standing) (r m c : Readings) → Held s st mid r m → Held s mid now m c → Held s st now r c
held-more s st mid now r m c one two = record {
  fades = fades-more _ _ _ one.fades two.fades;
  low = λ q is. one.low q (two.low q is);
  lives = λ a life is of free.
      let l = one.lives a life is of free in
      let k = two.lives a l.0 l.1 l.2 l.4 in (k.0, k.1, k.2, k.3 ∙ l.3, k.4);
  noted = λ n real has. two.noted n real (one.noted n real has);
}

-- what the numbers stand for after records
abbrev pub standings : ProcNo → (ℕ → Standing) → List Record → ℕ → Standing
standings p st [] = st
standings p st (x ∷ xs) = standings p (standing_after p st x) xs

pub record Known (w : WorkloadView) (st : ℕ → Standing) (r : Readings) (xs : List Record) : Type 0 where
  pub apart : IsApart st r xs
  pub shows : Shows w st r
  pub placed : IsPlaced w r.state

pub known-step : (w : WorkloadView) (e : ℕ) (p : ProcNo) (st : ℕ → Standing) (r : Readings) (x : Record) (xs : List Record) → p.0 < w.processors
    → Known w st r (x ∷ xs) → Goes w e p r (x ∷ xs)
    → Known w (standing_after p st x) (after_record w e p r x) xs
known-step w e p st r x xs within known goes =
    let was = stood w p st r x xs known.apart.agrees goes.moves.0 in
    record {
      apart = apart-step w e p st r x xs known.apart was goes.moves.0 goes.tells.0;
      shows = shows-step w e p st r x xs known.shows was goes.moves.0 within;
      placed = places-step w p r x within goes.steps.0 known.placed;
    }

pub known-all : (w : WorkloadView) (e : ℕ) (p : ProcNo) (st : ℕ → Standing) (r : Readings) (xs : List Record) → p.0 < w.processors → Known w st r xs
    → Goes w e p r xs
    → Known w (standings p st xs) (after_records w e p r xs) []
known-all w e p st r [] within known goes = known
known-all w e p st r (x ∷ xs) within known goes =
    known-all w e p (standing_after p st x) (after_record w e p r x) xs within (known-step w e p st r x xs within known goes)
    (record { moves = goes.moves.1; tells = goes.tells.1; steps = goes.steps.1 })

pub held-all : (w : WorkloadView) (e : ℕ) (p : ProcNo) (st : ℕ → Standing) (r : Readings) (s : SpaceNo) (xs : List Record) → p.0 < w.processors
    → Known w st r xs → Goes w e p r xs
    → EachRecord (Passing s) w e p r xs → (is_telling r.last ≡ true → space_of_life r r.upped ≢ Some s)
    → Held s st (standings p st xs) r (after_records w e p r xs)
held-all w e p st r s [] within known goes passes quiet = held-self s st r
held-all w e p st r s (x ∷ xs) within known goes passes quiet =
    let law = goes.moves.0 in
    let after = after_record w e p r x in
    let more = held-all w e p (standing_after p st x) after s xs within (known-step w e p st r x xs within known goes)
    (record { moves = goes.moves.1; tells = goes.tells.1; steps = goes.steps.1 }) passes.1 (λ telling. quiet-step w e p r s x xs law passes.0 quiet telling) in
    held-more s st (standing_after p st x) (standings p (standing_after p st x) xs) r after (after_records w e p after xs) (record {
      fades = record-fades w p r.state s x (spares r s x xs passes.0);
      low = λ q is. low-step e r x q.0 is;
      lives = λ a life is of free.
          let l = lives-kept w p st r s x xs known.apart law passes.0 quiet a life is of in (
            l.0,
            l.1,
            l.2,
            l.3,
            untaken w p st r s x xs a known.apart law quiet
                (sym (known.apart.agrees.lives (record { 0 = a })) ∙ ap space_of is ∙ ap Some of) free,
          );
      noted = λ n real has. noted-step w p st r s x xs n known.apart law quiet real has;
    }) more
