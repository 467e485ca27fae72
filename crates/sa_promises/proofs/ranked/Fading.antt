-- Records that make no thread of a space ready or running: what is ready or runs afterwards was so before, in the same program.
use Rattle.std.proofs.Common.{◌≡◌, ◌≢◌, ℕ, zero, suc, ◌⊎◌, inl, inr, refl, sym, ◌∙◌, ap, subst, Some, None, List, [], ◌∷◌, ◌++◌, length, true, false}
use Rattle.std.specs.Prelude.{Option, Bool, if◌then◌else◌, nat_lt, get_or, slice_set}
use Rattle.sa_base.specs.declared.number.SpaceNo.{SpaceNo}
use Rattle.sa_base.specs.declared.number.ProcNo.{ProcNo}
use Rattle.sa_base.specs.declared.number.ThreadNo.{ThreadNo}
use Rattle.sa_base.specs.declared.record.Record.{Record}
use Rattle.sa_base.specs.declared.record.Record.TheVariants.{Ins, Run, Stop, Block, Unblock, Cont, Back, Ready}
use Rattle.sa_instr.specs.declared.instr.Reg.{Reg}
use Rattle.sa_instr.specs.declared.instr.Instr.{Instr}
use Rattle.sa_instr.specs.declared.instr.Instr.TheVariants as instr
use Rattle.sa_spaces.specs.Workload.{WorkloadView}
use Rattle.sa_sync.specs.declared.answer.SyncAnswer.{SyncAnswer}
use Rattle.sa_sync.specs.declared.answer.SyncAnswer.TheVariants as answer
use Rattle.sa_sync.specs.Calls.{Change}
use Rattle.sa_laws.specs.declared.place.Place.{Place}
use Rattle.sa_laws.specs.declared.place.Place.TheVariants as place
use Rattle.sa_laws.specs.State.{State, SpaceState, Thread, space_at, with_space, with_thread, thread_in, put_thread, placed_if, is_active, next_instr, at_start}
use Rattle.sa_laws.specs.Effect.{effect, effect_of, answered, sync_effect, fork_effect, next_with, with_sync}
use Rattle.sa_laws.specs.Machine.{changed, next_effect}
use Rattle.sa_laws.proofs.Numbers.{space-by_number}
use Rattle.sa_promises.proofs.covers.Passed.{spaces-set}

abbrev pub nobody : Thread
nobody = at_start 0 place.Done

-- of one list of threads to another
abbrev pub FadesIn : List Thread → List Thread → Type 0
FadesIn xs ys = (j : ℕ) (X : Place) → is_active X ≡ true → (get_or ys j nobody).place ≡ X
    → ((get_or xs j nobody).place ≡ X) × ((get_or xs j nobody).program ≡ (get_or ys j nobody).program)

-- a thread that stays where it is, or comes where it is neither ready nor running
pub record Stays (old new : Thread) : Type 0 where
  pub program : old.program ≡ new.program
  pub place : (old.place ≡ new.place) ⊎ (is_active new.place ≡ false)

pub fades-self : (xs : List Thread) → FadesIn xs xs
fades-self xs j X active is = (is, refl)

fades-one : (old new : Thread) (X : Place) → Stays old new → is_active X ≡ true → new.place ≡ X → (old.place ≡ X) × (old.program ≡ new.program)
fades-one old new X stays active is = elim stays.place [
  | inl same ↦ (same ∙ is, stays.program)
  | inr idle ↦ absurd (let clash = sym active ∙ ap is_active (sym is) ∙ idle in cc)
]

pub fades-set : (xs : List Thread) (i : ℕ) (new : Thread) → Stays (get_or xs i nobody) new → FadesIn xs (slice_set xs i new)
fades-set (x ∷ xs) zero new stays zero X active is = fades-one x new X stays active is
fades-set (x ∷ xs) (suc i) new stays (suc j) X active is = fades-set xs i new stays j X active is
fades-set _ _ new stays _ X active is = (is, refl)

fades-push : (xs : List Thread) (new : Thread) → is_active new.place ≡ false → FadesIn xs (xs ++ new ∷ [])
fades-push [] new idle zero X active is = absurd (let clash = sym active ∙ ap is_active (sym is) ∙ idle in cc)
fades-push [] new idle (suc j) X active is = (is, refl)
fades-push (x ∷ xs) new idle zero X active is = (is, refl)
fades-push (x ∷ xs) new idle (suc j) X active is = fades-push xs new idle j X active is

pub fades-more : (xs ys zs : List Thread) → FadesIn xs ys → FadesIn ys zs → FadesIn xs zs
fades-more xs ys zs one two j X active is = let b = two j X active is in let a = one j X active b.0 in (a.0, a.1 ∙ b.1)

-- an instruction
abbrev Kept : SpaceState → SpaceState → Type 0
Kept x y = FadesIn x.threads y.threads

same : (x : SpaceState) (t : ThreadNo) (new : Thread) → (thread_in x t).program ≡ new.program → (thread_in x t).place ≡ new.place → Kept x (with_thread x t new)
same x t new program stands = fades-set x.threads t.0 new (record { program = program; place = inl stands })

ins-answered : (x : SpaceState) (t : ThreadNo) (thread : Thread) (change : Change) → (thread_in x t).program ≡ thread.program
    → (thread_in x t).place ≡ thread.place → Kept x (sync_effect x t thread change).space
ins-answered x t thread change program stands = one change.answer where
  one : (a : SyncAnswer) → Kept x (answered (with_sync x change.state) t thread a).space
  one answer.Goes = same x t thread program stands
  one answer.Waits = fades-set x.threads t.0 (record thread { place = place.Waiting }) (record { program = program; place = inr refl })
  one (answer.Wakes u) = same x t thread program stands

ins-forked : (x : SpaceState) (t : ThreadNo) (reg : Reg) (k : ℕ) → Kept x (fork_effect x t (thread_in x t) reg k).space
ins-forked x t reg k = one (nat_lt (length x.threads) Rattle.sa_base.specs.declared.limits.TheConstants.MAX_THREADS) where
  made : Thread
  made = next_with (thread_in x t) reg (length x.threads)

  one : (b : Bool) → Kept x (if b
      then effect (record (with_thread x t made) { threads = slice_set x.threads t.0 made ++ at_start k place.Waiting ∷ [] })
      (record { 0 = length x.threads } ∷ [])
      else effect (with_thread x t (next_with (thread_in x t) reg (Rattle.std.specs.Prelude.◌-◌ (Rattle.std.specs.Prelude.◌^◌ 2 64) 1))) []).space
  one true =
      fades-more x.threads (slice_set x.threads t.0 made) (slice_set x.threads t.0 made ++ at_start k place.Waiting ∷ []) (same x t made refl refl)
      (fades-push (slice_set x.threads t.0 made) (at_start k place.Waiting) refl)
  one false = same x t _ refl refl

pub ins-fades : (x : SpaceState) (t : ThreadNo) (i : Instr) → Kept x (effect_of x t (thread_in x t) i).space
ins-fades x t (instr.Fork reg k) = ins-forked x t reg k
ins-fades x t (instr.Join reg) = ins-answered x t _ _ refl refl
ins-fades x t (instr.Lock m) = ins-answered x t _ _ refl refl
ins-fades x t (instr.Unlock m) = ins-answered x t _ _ refl refl
ins-fades x t (instr.Wait m) = ins-answered x t _ _ refl refl
ins-fades x t (instr.Signal m) = ins-answered x t _ _ refl refl
ins-fades x t instr.End = fades-set x.threads t.0 _ (record { program = refl; place = inr refl })
ins-fades x t _ = same x t _ refl refl

-- of the spaces one is changed
abbrev pub Fades : SpaceNo → State → State → Type 0
Fades s a b = Kept (space_at a s) (space_at b s)

space-fades : (a : State) (s u : SpaceNo) (x : SpaceState) → (u ≡ s → Kept (space_at a u) x) → Fades s a (with_space a u x)
space-fades a s u x kept =
    spaces-set Kept (λ y. fades-self y.threads) a.spaces u.0 s.0 x (λ e. let one = space-by_number u s e in
    subst (λ (k : SpaceNo). Kept (space_at a k) x) one (kept one))

put-fades : (a : State) (s u : SpaceNo) (t : Option ThreadNo) (where_ : Place) → is_active where_ ≡ false → Fades s a (placed_if a u t where_)
put-fades a s u None where_ idle = fades-self (space_at a s).threads
put-fades a s u (Some t) where_ idle = space-fades a s u (put_thread where_ (space_at a u) t)
    (λ at. fades-set (space_at a u).threads t.0 (record (thread_in (space_at a u) t) { place = where_ }) (record { program = refl; place = inr idle }))

put-apart : (a : State) (s u : SpaceNo) (t : Option ThreadNo) (where_ : Place) → u ≢ s → Fades s a (placed_if a u t where_)
put-apart a s u None where_ apart = fades-self (space_at a s).threads
put-apart a s u (Some t) where_ apart = space-fades a s u (put_thread where_ (space_at a u) t) (λ at. absurd (apart at))

-- a record makes none of the space ready or running
abbrev pub Spares : SpaceNo → Record → Type 0
Spares s (Run u t) = u ≢ s
Spares s (Ready u t) = u ≢ s
Spares s (Cont u t) = u ≢ s
Spares s x = Unit {0}

pub record-fades : (w : WorkloadView) (p : ProcNo) (a : State) (s : SpaceNo) (x : Record) → Spares s x → Fades s a (changed w p a x)
record-fades w p a s (Ins u t i) spares = space-fades a s u (next_effect w a u t).space (λ at. ins-fades (space_at a u) t (next_instr w a u t))
record-fades w p a s (Stop u t b) spares = put-fades a s u t place.Carried refl
record-fades w p a s (Block u t b io) spares = put-fades a s u t place.Blocked refl
record-fades w p a s (Unblock u t b) spares = put-fades a s u t place.Carried refl
record-fades w p a s (Back u t) spares = put-fades a s u t place.Carried refl
record-fades w p a s (Cont u t) spares = put-apart a s u t (place.Running p) spares
record-fades w p a s (Run u t) spares = put-apart a s u (Some t) (place.Running p) spares
record-fades w p a s (Ready u t) spares = put-apart a s u (Some t) place.Ready spares
record-fades w p a s x spares = fades-self (space_at a s).threads
