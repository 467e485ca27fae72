-- The laws of upcalls at the event of a turn: what they tell, and that they come in time and where the processor is owned.
use Rattle.std.proofs.Common.{◌≡◌, ◌≢◌, ℕ, suc, refl, sym, ◌∙◌, ap, subst, arith, Some, None, List, [], ◌∷◌, ◌++◌, length, map}
use Rattle.std.specs.Prelude.{Option, IsSome, is_some, get_or}
use Rattle.std.proofs.lemmas.Option.{none-some, same_Some}
use Rattle.sa_base.specs.declared.number.SpaceNo.{SpaceNo}
use Rattle.sa_base.specs.declared.number.ActNo.{ActNo}
use Rattle.sa_base.specs.declared.record.Record.{Record}
use Rattle.sa_base.specs.declared.record.Record.TheVariants.{Stop}
use Rattle.sa_spaces.specs.Workload.{WorkloadView}
use Rattle.sa_kernel_model.specs.State.{KernelState, line_of}
use Rattle.sa_kernel_model.specs.Closing.{closed}
use Rattle.sa_kernel_model.specs.Sound.{IsSound}
use Rattle.sa_kernel_model.proofs.sound.Sound.{sound-closed}
use Rattle.sa_kernel_model.proofs.sound.Prompt.{prompt-closed}
use Rattle.sa_laws.specs.Readings.{Readings, space_of_life, line_of as line_at, owner_of as owner_at, aim_of as aim_at}
use Rattle.sa_laws.specs.History.{after_event}
use Rattle.sa_laws.specs.Upcalls.{RecordLaw, EachRecord, TellsOnce, NamesTheLife, TellsAllThen, GivesUpcallThen, BeginsAsInterrupt, StopsAndGoes, IsToldInTime, RunsWhereOwned}
use Rattle.sa_kernel_laws.specs.Overview.{Overview, overview, read_off, act_space}
use Rattle.sa_kernel_laws.specs.Turn.{Turn, CanTurn, event_of}
use Rattle.sa_kernel_laws.specs.Kept.{IsKept}
use Rattle.sa_kernel_laws.specs.Laws.{HoldsAtTurns, TurnsKeep, ToldOnce, AllTold, UpcallGiven, InterruptNext}
use Rattle.sa_kernel_laws.proofs.entries.Upcalls.{Lawful, each-weaker}
use Rattle.sa_kernel_laws.proofs.turns.WholeTurn.{closing_of, reading_at, whole-turn}
use Rattle.sa_kernel_laws.proofs.turns.Kept.{reads-after, turn-keeps, prompt-in}

-- who owns a processor runs there
pub owned-map : (owners : List (Option SpaceNo)) (lives : List (Option ActNo)) (f : Option ActNo → Option SpaceNo) → length owners ≡ length lives
    → ((p : ℕ) → get_or owners p None ≡ f (get_or lives p None)) → owners ≡ map f lives
owned-map [] [] f len same = refl
owned-map (o ∷ owners) (l ∷ lives) f len same =
    let one = same 0 in
    let rest = owned-map owners lives f (omega arith) (λ p. same (suc p)) in
    λ i. one i ∷ rest i
owned-map _ _ f len same = absurd (omega arith)

begins-own : (xs rest : List Record) → xs ≢ [] → BeginsAsInterrupt (xs ++ rest) → BeginsAsInterrupt xs
begins-own [] rest some begins = absurd (some refl)
begins-own (Stop s t a ∷ xs) rest some begins = tt
begins-own (x ∷ xs) rest some begins = begins

module _ {C : Type 0} where
  pub owner-is : (k : KernelState C) (r : Readings) → IsSound k → overview r ≡ read_off k → (p : ℕ)
      → get_or k.assign.owners p None ≡ space_of_life r (get_or k.lives p None)
  owner-is k r sound reads p = go (get_or k.assign.owners p None) (get_or k.lives p None) refl refl where
    go : (o : Option SpaceNo) (l : Option ActNo) → get_or k.assign.owners p None ≡ o → get_or k.lives p None ≡ l → o ≡ space_of_life r l
    go None None owner life = refl
    go (Some s) None owner life =
        absurd (let some = (sound.placed p).runs (subst (λ (o : Option SpaceNo). IsSome o) (sym owner) refl) in
        let none = subst (λ (l : Option ActNo). IsSome l) life some in cc)
    go None (Some a) owner life = absurd (let runs = sound.formed.lives.run p a life in none-some runs.space (sym owner ∙ runs.owner))
    go (Some s) (Some a) owner life =
        let runs = sound.formed.lives.run p a life in
        let same : runs.space ≡ s = same_Some runs.space s (sym runs.owner ∙ owner) in
        sym (ap (λ (v : Overview). v.spaces a.0) reads ∙ ap act_space runs.act ∙ ap (λ (t : SpaceNo). Some t) same)

  pub each-of : (w : WorkloadView) (k : KernelState C) (r : Readings) (t : Turn C) (L : RecordLaw) → IsKept w k r → CanTurn w k r t
      → ((c : Readings) (x : Record) (rest : List Record) → Lawful t.proc c x rest → L c x rest)
      → EachRecord L w t.number t.proc (reading_at w r t k) (event_of t k).records
  each-of w k r t L kept can weaker =
      each-weaker (Lawful t.proc) L w t.number t.proc (reading_at w r t k) (event_of t k).records weaker (whole-turn w k r t kept can).lawful

pub told-once : (C : Type 0) → HoldsAtTurns C ToldOnce
told-once C test w k r t ok kept can = record { told = each-of w k r t TellsOnce kept can (λ c x rest law. law.once) }

pub all-told : (C : Type 0) → HoldsAtTurns C AllTold
all-told C test w k r t ok kept can = record { told = each-of w k r t (TellsAllThen t.proc) kept can (λ c x rest law. law.all) }

pub block-upcalls : (C : Type 0) → HoldsAtTurns C UpcallGiven
block-upcalls C test w k r t ok kept can = record { blocks = each-of w k r t (GivesUpcallThen t.proc) kept can (λ c x rest law. law.gives) }

pub in-time : (C : Type 0) → HoldsAtTurns C IsToldInTime
in-time C test w k r t ok kept can =
    let whole = whole-turn w k r t kept can in
    let y = whole.before in
    record {
      prompt =
          prompt-in (closed t.number t.proc y).state (after_event test w r (event_of t k)) (sound-closed t.number t.proc y whole.sound)
          (reads-after test w k r t whole)
          (prompt-closed t.number t.proc y whole.sound.formed.sizes);
    }

pub where-owned : (C : Type 0) → HoldsAtTurns C RunsWhereOwned
where-owned C test w k r t ok kept can =
    let whole = whole-turn w k r t kept can in
    let after = after_event test w r (event_of t k) in
    let new = (closed t.number t.proc whole.before).state in
    let sound = sound-closed t.number t.proc whole.before whole.sound in
    let reads = reads-after test w k r t whole in
    let owners : after.state.owners ≡ new.assign.owners = ap (λ (v : Overview). v.assign.owners) reads in
    let running : after.running ≡ new.lives = ap (λ (v : Overview). v.running) reads in
    record {
      named = each-of w k r t (NamesTheLife t.proc) kept can (λ c x rest law. law.named);
      owned =
          owners ∙ owned-map new.assign.owners new.lives (space_of_life after) sound.formed.sizes.owners (owner-is new after sound reads)
          ∙ ap (map (space_of_life after)) (sym running);
    }

pub interrupt-next : (C : Type 0) → HoldsAtTurns C InterruptNext
interrupt-next C test w k r t ok kept can =
    let whole = whole-turn w k r t kept can in
    let c = reading_at w r t k in
    let rest = closing_of w k r t whole in
    let line : is_some (line_at r t.proc) ≡ is_some (line_of k t.proc) = ap (λ (v : Overview). is_some (get_or v.assign.lines t.proc.0 None)) kept.reads in
    record {
      interrupt =
          λ up. subst (λ xs. StopsAndGoes t.proc c (owner_at r t.proc) (aim_at r t.proc) xs) (sym whole.records)
          (whole.own.turns (sym line ∙ up) rest whole.closing.closes);
      calm = λ begins. line ∙ whole.own.calm (begins-own whole.own.records rest whole.own.some (subst (λ xs. BeginsAsInterrupt xs) whole.records begins));
    }

pub turns-keep : (C : Type 0) → TurnsKeep C
turns-keep C test w k r t ok kept can = turn-keeps test w k r t kept can
