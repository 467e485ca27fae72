-- In a lawful event each record that changes a life is one that may: a law of records, from the laws of events. Where its
-- steps are so, the records of an event are in their places, and the first one is guarded.
use Rattle.std.proofs.Common.{◌≡◌, ℕ, inl, inr, refl, sym, ap, subst, Some, None, List, [], ◌∷◌, ◌++◌, length, map, true, false}
use Rattle.std.specs.Prelude.{Option, Bool, drop, take_while}
use Rattle.std.specs.List.{list_any, prefix_len}
use Rattle.sa_lemmas.proofs.ListReads.{take_then_drop}
use Rattle.sa_base.specs.declared.number.SpaceNo.{SpaceNo}
use Rattle.sa_base.specs.declared.number.ProcNo.{ProcNo}
use Rattle.sa_base.specs.declared.number.ActNo.{ActNo}
use Rattle.sa_base.specs.declared.record.Record.{Record}
use Rattle.sa_base.specs.declared.record.Record.TheVariants.{Out, Run, Stop, Block, Unblock, Ready, Take, Free, Up, Told, Move, Want, Aim, Line, Fetch, Fetched, GiveBack}
use Rattle.sa_instr.specs.declared.instr.Instr.{Instr}
use Rattle.sa_instr.specs.declared.instr.Instr.TheVariants as instr
use Rattle.sa_spaces.specs.Workload.{WorkloadView}
use Rattle.sa_devices.specs.declared.kind.IoKind.{IoKind}
use Rattle.sa_devices.specs.declared.kind.IoKind.TheVariants.{Plain, Page, Upcall}
use Rattle.sa_devices.specs.Ios.{Io, due_of}
use Rattle.sa_laws.specs.Readings.{Readings, life_of, running_of, owner_of, space_of_life}
use Rattle.sa_laws.specs.Record.{is_io_of}
use Rattle.sa_laws.specs.Shape.{own_part, closing_part, is_own}
use Rattle.sa_laws.specs.Turns.{AreRaising, IsClosing, AreTold, IsFetchOrNothing, IsPassage, IsInterrupt, IsOver, IsOut, IsBlock, IsInsOf, Steps, IsTickOrStep, IsTurnWhileDue, IsTurn}
use Rattle.sa_laws.specs.Upcalls.{RecordLaw, IsUntoldTo, RunsOn, IsTaken}
use Rattle.sa_promises.specs.Needs.{is_telling, ToldBehindUps, ListsApart, HoldersKnown}

-- the records that change a life, and what each needs by the kernel's rules alone
abbrev pub AnyMoves : WorkloadView → ProcNo → RecordLaw
AnyMoves w p r (Stop s t a) rest = RunsOn r p s a
AnyMoves w p r (Block s t a io) rest = RunsOn r p s a
AnyMoves w p r (Unblock s t a) rest = (list_any (is_io_of a) r.under_way ≡ true) × (space_of_life r (Some a) ≡ Some s)
AnyMoves w p r (Up s a) rest = (running_of r p ≡ None) × (life_of r a ≡ None)
AnyMoves w p r (Told n) rest = IsUntoldTo r (space_of_life r r.upped) n
AnyMoves w p r (GiveBack a) rest = IsTaken r a
AnyMoves w p r _ rest = Unit {0}

-- and where told records come behind ups
abbrev pub Moves : WorkloadView → ProcNo → RecordLaw
Moves w p r (Told n) rest = IsUntoldTo r (space_of_life r r.upped) n × (is_telling r.last ≡ true)
Moves w p r x rest = AnyMoves w p r x rest

pub any-moves : (w : WorkloadView) (p : ProcNo) (r : Readings) (x : Record) (rest : List Record) → Moves w p r x rest → AnyMoves w p r x rest
any-moves w p r (Told n) rest law = law.0
any-moves w p r x rest law = law

pub told-moves : (w : WorkloadView) (p : ProcNo) (r : Readings) (x : Record) (rest : List Record) → AnyMoves w p r x rest → ToldBehindUps r x rest
    → Moves w p r x rest
told-moves w p r (Told n) rest law told = (law, told)
told-moves w p r x rest law told = law

-- what the operations on ready lists keep
abbrev pub Guards : ProcNo → RecordLaw
Guards p r x rest = ListsApart p r x rest × HoldersKnown p r x rest

-- which records come first, and which after another one
abbrev pub fits : Option Record → Record → Bool
fits None (Told n) = false
fits None x = true
fits (Some y) (Told n) = is_telling (Some y)
fits (Some y) (Run s t) = false
fits (Some y) (Ready s t) = false
fits (Some y) (Take s l t) = false
fits (Some y) (Free s l t) = false
fits (Some y) x = true

abbrev pub AllFit : Option Record → List Record → Type 0
AllFit last [] = Unit {0}
AllFit last (x ∷ xs) = (fits last x ≡ true) × AllFit (Some x) xs

-- the records of an event, or of its first part, are in their places, and the first one is guarded
abbrev pub FirstOf : ProcNo → Readings → List Record → Type 0
FirstOf p r [] = Unit {0}
FirstOf p r (x ∷ xs) = Guards p r x xs

abbrev pub IsShaped : ProcNo → Readings → List Record → Type 0
IsShaped p r xs = AllFit None xs × FirstOf p r xs

-- wants, aims and lines may be anywhere
pub fits-want : (last : Option Record) (s : SpaceNo) (n : ℕ) → fits last (Want s n) ≡ true
fits-want None s n = refl
fits-want (Some y) s n = refl

pub fits-aim : (last : Option Record) (p : ProcNo) (s : Option SpaceNo) → fits last (Aim p s) ≡ true
fits-aim None p s = refl
fits-aim (Some y) p s = refl

pub fits-line : (last : Option Record) (p : ProcNo) → fits last (Line p) ≡ true
fits-line None p = refl
fits-line (Some y) p = refl

raising-fit : (last : Option Record) (xs : List Record) → AreRaising xs → AllFit last xs
raising-fit last [] is = tt
raising-fit last (Aim p (Some s) ∷ xs) is = (fits-aim last p (Some s), raising-fit (Some (Aim p (Some s))) xs is)
raising-fit last (Line p ∷ xs) is = (fits-line last p, raising-fit (Some (Line p)) xs is)
raising-fit last (Aim p None ∷ xs) is = absurd is
raising-fit last (x ∷ xs) is = absurd is

closing-fit : (last : Option Record) (xs : List Record) → IsClosing xs → AllFit last xs
closing-fit last (Want s n ∷ xs) is = (fits-want last s n, closing-fit (Some (Want s n)) xs is)
closing-fit last [] is = tt
closing-fit last (Aim p (Some s) ∷ xs) is = (fits-aim last p (Some s), raising-fit (Some (Aim p (Some s))) xs is)
closing-fit last (Line p ∷ xs) is = (fits-line last p, raising-fit (Some (Line p)) xs is)
closing-fit last (Aim p None ∷ xs) is = absurd is
closing-fit last (x ∷ xs) is = absurd is

-- told records after an up or a told record; a passage
told-fit : (y : Record) (xs : List Record) → is_telling (Some y) ≡ true → AreTold xs → AllFit (Some y) xs
told-fit y [] telling is = tt
told-fit y (Told n ∷ xs) telling is = (telling, told-fit (Told n) xs refl is)
told-fit y (x ∷ xs) telling is = absurd is

fetch-fit : (y : Record) (xs : List Record) → IsFetchOrNothing xs → AllFit (Some y) xs
fetch-fit y [] is = tt
fetch-fit y (Fetch s ∷ []) is = (refl, tt)
fetch-fit y (Fetch s ∷ z ∷ xs) is = absurd is
fetch-fit y (x ∷ xs) is = absurd is

passage-first : (p : ProcNo) (r : Readings) (xs : List Record) → IsPassage xs → IsShaped p r xs
passage-first p r (Up s a ∷ xs) is = ((refl, told-fit (Up s a) xs refl is), (tt, tt))
passage-first p r (Move old (Some new) ∷ Up s a ∷ xs) is = ((refl, (refl, told-fit (Up s a) xs refl is)), (tt, tt))
passage-first p r (Move old None ∷ Aim q None ∷ xs) is = ((refl, (refl, fetch-fit (Aim q None) xs is)), (tt, tt))
passage-first p r xs is = absurd (is)

pub passage-fit : (y : Record) (xs : List Record) → IsPassage xs → AllFit (Some y) xs
passage-fit y (Up s a ∷ xs) is = (refl, told-fit (Up s a) xs refl is)
passage-fit y (Move old (Some new) ∷ Up s a ∷ xs) is = (refl, (refl, told-fit (Up s a) xs refl is))
passage-fit y (Move old None ∷ Aim q None ∷ xs) is = (refl, (refl, fetch-fit (Aim q None) xs is))
passage-fit y xs is = absurd (is)

interrupt-shaped : (p : ProcNo) (r : Readings) (xs : List Record) → IsInterrupt xs → IsShaped p r xs
interrupt-shaped p r (Stop s t a ∷ xs) is = ((refl, passage-fit (Stop s t a) xs is), (tt, tt))
interrupt-shaped p r (Up s a ∷ xs) is = passage-first p r (Up s a ∷ xs) is
interrupt-shaped p r (Move old new ∷ xs) is = passage-first p r (Move old new ∷ xs) is
interrupt-shaped p r xs is = absurd (is)

-- the completion of the I/O that is due
over-shaped : (p : ProcNo) (r : Readings) (kind : IoKind) (xs : List Record) → IsOver kind xs → IsShaped p r xs
over-shaped p r (Plain s a) (Unblock of t b ∷ []) is = ((refl, tt), (tt, tt))
over-shaped p r (Page s a page) (Unblock of t b ∷ []) is = ((refl, tt), (tt, tt))
over-shaped p r (Upcall s) (Fetched of ∷ []) is = ((refl, tt), (tt, tt))
over-shaped p r kind xs is = absurd (is)

-- a step of the running life
out-fit : (y : Record) (xs : List Record) → IsOut xs → AllFit (Some y) xs
out-fit y (Out s t value ∷ []) is = (refl, tt)
out-fit y xs is = absurd (is)

block-fit : (y : Record) (xs : List Record) → IsBlock xs → AllFit (Some y) xs
block-fit y (Block s t a io ∷ xs) is = (refl, passage-fit (Block s t a io) xs is)
block-fit y xs is = absurd (is)

pub none-fit : (y : Record) (xs : List Record) → xs ≡ [] → AllFit (Some y) xs
none-fit y xs is = subst (λ zs. AllFit (Some y) zs) (sym is) tt

pub ins-fit : (y : Record) (i : Instr) (xs : List Record) → IsInsOf i xs → AllFit (Some y) xs
ins-fit y (instr.Out reg) xs is = out-fit y xs is
ins-fit y (instr.Io n) xs is = block-fit y xs is
ins-fit y i xs is = none-fit y xs is

pub given-fit : (last : Option Record) (acts : List ActNo) → AllFit last (map GiveBack acts)
given-fit last [] = tt
given-fit None (a ∷ acts) = (refl, given-fit (Some (GiveBack a)) acts)
given-fit (Some y) (a ∷ acts) = (refl, given-fit (Some (GiveBack a)) acts)

-- a turn, where each step is so
tick-shaped : (Step : Steps) (w : WorkloadView) (r : Readings) (p : ProcNo) (owner : Option SpaceNo) (xs : List Record)
    → (Step w r p xs → IsShaped p r xs) → IsTickOrStep Step owner w r p xs → IsShaped p r xs
tick-shaped Step w r p None xs shapes is = subst (λ zs. IsShaped p r zs) (sym is) ((refl, tt), (tt, tt))
tick-shaped Step w r p (Some s) xs shapes is = shapes is

due-shaped : (Step : Steps) (w : WorkloadView) (r : Readings) (p : ProcNo) (io : Option Io) (xs : List Record)
    → (Step w r p xs → IsShaped p r xs) → IsTurnWhileDue Step io w r p xs → IsShaped p r xs
due-shaped Step w r p None xs shapes is = tick-shaped Step w r p (owner_of r p) xs shapes is
due-shaped Step w r p (Some io) xs shapes (inl over) = over-shaped p r io.kind xs over
due-shaped Step w r p (Some io) xs shapes (inr local) = shapes local.1

pub turn-shaped : (Step : Steps) (w : WorkloadView) (r : Readings) (p : ProcNo) (e : ℕ) (raised : Bool) (xs : List Record)
    → (Step w r p xs → IsShaped p r xs) → IsTurn Step raised e w r p xs → IsShaped p r xs
turn-shaped Step w r p e true xs shapes is = interrupt-shaped p r xs is
turn-shaped Step w r p e false xs shapes is = due-shaped Step w r p (due_of e r.under_way) xs shapes is

-- the own part and the closing are the event
parts-of : (f : Record → Bool) (xs : List Record) → take_while f xs ++ drop (length (take_while f xs)) xs ≡ xs
parts-of f xs = take_then_drop (prefix_len f xs) xs

all-append : (last : Option Record) (xs ys : List Record) → AllFit last xs → ((before : Option Record) → AllFit before ys) → AllFit last (xs ++ ys)
all-append last [] ys left right = right last
all-append last (x ∷ xs) ys left right = (left.0, all-append (Some x) xs ys left.1 right)

-- (what comes after the first record does not matter)
guards-rest : (p : ProcNo) (r : Readings) (x : Record) (xs ys : List Record) → Guards p r x xs → Guards p r x ys
guards-rest p r (Take s l t) xs ys is = is
guards-rest p r (Run s t) xs ys is = is
guards-rest p r (Free s l t) xs ys is = is
guards-rest p r (Ready s t) xs ys is = is
guards-rest p r x xs ys is = (tt, tt)

pub whole-shaped : (p : ProcNo) (r : Readings) (xs : List Record) → IsShaped p r (own_part xs) → IsClosing (closing_part xs)
    → IsShaped p r xs
whole-shaped p r [] own closing = (tt, tt)
whole-shaped p r (x ∷ xs) own closing =
    let is : own_part (x ∷ xs) ++ closing_part (x ∷ xs) ≡ x ∷ xs = ap (λ ys. x ∷ ys) (parts-of is_own xs) in (
      subst (λ zs. AllFit None zs) is
          (all-append None (own_part (x ∷ xs)) (closing_part (x ∷ xs)) own.0 (λ before. closing-fit before (closing_part (x ∷ xs)) closing)),
      guards-rest p r x _ xs own.1,
    )
