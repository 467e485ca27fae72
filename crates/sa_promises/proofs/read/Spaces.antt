-- The spaces of aims, owners and lives of a legal run are those of the workload.
use Rattle.std.proofs.Common.{◌≡◌, ℕ, zero, suc, ◌+◌, ◌<◌, ◌≤◌, ◌⊎◌, inl, inr, refl, sym, ◌∙◌, ap, subst, arith, Some, None, List, [], ◌∷◌, ◌++◌, length, map, take, drop, true, false, cond, one-add}
use Rattle.std.specs.Prelude.{Option, Bool, ◌==◌, if◌then◌else◌, is_some, get_or, slice_set, take_while, replicate}
use Rattle.std.specs.List.{prefix_len}
use Rattle.std.specs.Option.{option_or}
use Rattle.std.proofs.lemmas.Bool.{cases_lt}
use Rattle.std.proofs.lemmas.List.{get_or_past}
use Rattle.std.proofs.lemmas.Option.{none-some, same_Some}
use Rattle.sa_base.specs.declared.number.SpaceNo.{SpaceNo}
use Rattle.sa_base.specs.declared.number.ProcNo.{ProcNo}
use Rattle.sa_base.specs.declared.number.ActNo.{ActNo}
use Rattle.sa_base.specs.declared.record.Note.{Note}
use Rattle.sa_base.specs.declared.record.Record.{Record}
use Rattle.sa_base.specs.declared.record.Record.TheVariants.{Ins, Out, Stop, Block, Unblock, Up, Told, Move, Want, Aim, Line, Fetch, Fetched, GiveBack, Idle, Spin, Take, Ready, Run, Free, Cont, Back}
use Rattle.sa_base.specs.declared.record.Item.{Item}
use Rattle.sa_instr.specs.declared.instr.Instr.{Instr}
use Rattle.sa_instr.specs.declared.instr.Instr.TheVariants as instr
use Rattle.sa_spaces.specs.Workload.{WorkloadView}
use Rattle.sa_devices.specs.declared.kind.IoKind.{IoKind}
use Rattle.sa_devices.specs.declared.kind.IoKind.TheVariants.{Plain, Page, Upcall}
use Rattle.sa_devices.specs.Ios.{Io, due_of}
use Rattle.sa_assign.specs.Aims.{Change, changes_from, changes_for, change_to, aims_after, aims_with, choice, missing, is_aim}
use Rattle.sa_assign.specs.Reaim.{records_of, line_at, lines_with, line_records, proc_no}
use Rattle.sa_laws.specs.Event.{Event}
use Rattle.sa_laws.specs.Life.{Life}
use Rattle.sa_laws.specs.Readings.{Readings, opening_readings, owner_of, aim_of, line_of, running_of, life_on, untold_of, taken_of}
use Rattle.sa_laws.specs.Record.{after_record}
use Rattle.sa_laws.specs.History.{event_begun, after_records}
use Rattle.sa_laws.specs.Shape.{own_part, closing_part, is_own, aims_in, is_of_leave, BeginsWithUp}
use Rattle.sa_laws.specs.Turns.{AreRaising, IsClosing, AreTold, IsFetchOrNothing, IsPassage, IsInterrupt, IsOver, IsOut, IsBlock, IsInsOf, IsTickOrStep, IsTurnWhileDue, IsTurn}
use Rattle.sa_laws.specs.Upcalls.{EachRecord, TellsAll, TellsAllThen, GivesUpcallThen, UpOrLeave, GoesTo, GoesToAim, StopsAndGoes, is_moved_to}
use Rattle.sa_laws.specs.Closing.{want_one, spaces_of, aims_due}
use Rattle.sa_laws.specs.Opening.{first_wants}
use Rattle.sa_laws.specs.Rules.{UserRules, IsLawful}
use Rattle.sa_promises.specs.Needs.{FormedBy, FormedIn, IsFormed, HasForms}
use Rattle.sa_histories.proofs.Walk.{item}
use Rattle.sa_promises.specs.Moments.{Home, home_of, home_in}
use Rattle.sa_promises.proofs.read.Raised.{home-more}
use Rattle.sa_histories.proofs.Sizes.{IsSized, sized-step}
use Rattle.sa_lemmas.proofs.ListReads.{take_then_drop}

-- each move to a space is to one below this number
abbrev pub EachMove : ℕ → List Record → Type 0
EachMove n [] = Unit {0}
EachMove n (Move old (Some new) ∷ xs) = (new.0 < n) × EachMove n xs
EachMove n (x ∷ xs) = EachMove n xs

move-append : (n : ℕ) (xs ys : List Record) → EachMove n xs → EachMove n ys → EachMove n (xs ++ ys)
move-append n [] ys left right = right
move-append n (Move old (Some new) ∷ xs) ys left right = (left.0, move-append n xs ys left.1 right)
move-append n (Move old None ∷ xs) ys left right = move-append n xs ys left right
move-append n (x ∷ xs) ys left right = move-append n xs ys left right

-- the opening, and closings, have none
move-wants : (n : ℕ) (ss : List SpaceNo) → EachMove n (map want_one ss)
move-wants n [] = tt
move-wants n (s ∷ ss) = move-wants n ss

move-line : (n p : ℕ) (line : Option ℕ) → EachMove n (line_records p line)
move-line n p None = tt
move-line n p (Some e) = tt

move-aims : (n e : ℕ) (lines : List (Option ℕ)) (cs : List Change) → EachMove n (records_of e lines cs)
move-aims n e lines [] = tt
move-aims n e lines (c ∷ cs) =
    move-append n (line_records c.proc (line_at lines c.proc)) _ (move-line n c.proc (line_at lines c.proc)) (move-aims n e (lines_with e lines c) cs)

move-raising : (n : ℕ) (xs : List Record) → AreRaising xs → EachMove n xs
move-raising n [] is = tt
move-raising n (Aim p (Some s) ∷ xs) is = move-raising n xs is
move-raising n (Line p ∷ xs) is = move-raising n xs is
move-raising n (Aim p None ∷ xs) is = absurd is
move-raising n (x ∷ xs) is = absurd is

move-closing : (n : ℕ) (xs : List Record) → IsClosing xs → EachMove n xs
move-closing n (Want s m ∷ xs) is = move-closing n xs is
move-closing n [] is = tt
move-closing n (Aim p (Some s) ∷ xs) is = move-raising n xs is
move-closing n (Line p ∷ xs) is = move-raising n xs is
move-closing n (Aim p None ∷ xs) is = absurd is
move-closing n (x ∷ xs) is = absurd is

-- a passage moves at its head alone
move-told : (n : ℕ) (xs : List Record) → AreTold xs → EachMove n xs
move-told n [] is = tt
move-told n (Told m ∷ xs) is = move-told n xs is
move-told n (x ∷ xs) is = absurd is

move-fetch : (n : ℕ) (xs : List Record) → IsFetchOrNothing xs → EachMove n xs
move-fetch n [] is = tt
move-fetch n (Fetch s ∷ []) is = tt
move-fetch n (Fetch s ∷ z ∷ xs) is = absurd is
move-fetch n (x ∷ xs) is = absurd is

move-passage : (n : ℕ) (xs : List Record) → IsPassage xs
    → ((old : Option SpaceNo) (new : SpaceNo) (ys : List Record) → xs ≡ Move old (Some new) ∷ ys → new.0 < n) → EachMove n xs
move-passage n (Up s a ∷ xs) is head = move-told n xs is
move-passage n (Move old (Some new) ∷ Up s a ∷ xs) is head = (head old new (Up s a ∷ xs) refl, move-told n xs is)
move-passage n (Move old None ∷ Aim q None ∷ xs) is head = move-fetch n xs is
move-passage n xs is head = absurd (is)

-- what is at the head of a part is at that of the whole
take-head : (n : ℕ) (xs : List Record) (y : Record) (zs : List Record) → take n xs ≡ y ∷ zs → (ys : List Record) × (xs ≡ y ∷ ys)
take-head zero xs y zs is = absurd (cc)
take-head (suc n) [] y zs is = absurd (cc)
take-head (suc n) (x ∷ xs) y zs is = let same : x ≡ y = cc in (xs, ap (λ z. z ∷ xs) same)

pub head-of : (f : Record → Bool) (xs : List Record) (y : Record) (zs : List Record) → take_while f xs ≡ y ∷ zs → (ys : List Record) × (xs ≡ y ∷ ys)
head-of f xs y zs is = take-head (prefix_len f xs) xs y zs is

-- where a processor goes on, the head moves to the aim
goes-move : (n : ℕ) (here owned : Bool) (p : ProcNo) (r : Readings) (owner : Option SpaceNo) (b : SpaceNo) (xs : List Record) → GoesTo here owned p r owner b xs
    → b.0 < n
    → (old : Option SpaceNo) (new : SpaceNo) (ys : List Record) → xs ≡ Move old (Some new) ∷ ys → new.0 < n
goes-move n true true p r owner b xs goes below old new ys is = absurd (subst (BeginsWithUp b) is goes)
goes-move n true false p r owner b xs goes below old new ys is =
    let there : GoesTo true false p r owner b (Move old (Some new) ∷ ys) = subst (GoesTo true false p r owner b) is goes in
    subst (λ (s : SpaceNo). s.0 < n) (sym (same_Some new b there.1)) below
goes-move n false owned p r owner b xs goes below old new ys is =
    let there = head-of is_of_leave xs (Move owner None) _ goes in
    let clash : Move old (Some new) ∷ ys ≡ Move owner None ∷ there.0 = sym is ∙ there.1 in absurd (cc)

aim-move : (n : ℕ) (p : ProcNo) (r : Readings) (owner aim : Option SpaceNo) (xs : List Record) → GoesToAim p r owner aim xs
    → ((s : SpaceNo) → aim ≡ Some s → s.0 < n)
    → (old : Option SpaceNo) (new : SpaceNo) (ys : List Record) → xs ≡ Move old (Some new) ∷ ys → new.0 < n
aim-move n p r owner None xs goes below old new ys is = absurd goes
aim-move n p r owner (Some b) xs goes below old new ys is = goes-move n _ _ p r owner b xs goes (below b refl) old new ys is

stop-moves : (n : ℕ) (p : ProcNo) (r : Readings) (owner aim : Option SpaceNo) (s : SpaceNo) (t : Option Rattle.sa_base.specs.declared.number.ThreadNo.ThreadNo)
    (a : ActNo) (xs : List Record)
    → StopsAndGoes p r owner aim (Stop s t a ∷ xs) → ((b : SpaceNo) → aim ≡ Some b → b.0 < n)
    → (old : Option SpaceNo) (new : SpaceNo) (ys : List Record) → xs ≡ Move old (Some new) ∷ ys → new.0 < n
stop-moves n p r (Some o) aim s t a xs goes below = aim-move n p r (Some o) aim xs goes.1 below
stop-moves n p r None None s t a xs goes below = absurd goes
stop-moves n p r None (Some b) s t a xs goes below =
    one (Rattle.sa_laws.specs.Readings.is_resident r b Rattle.sa_base.specs.declared.limits.TheConstants.UPCALL_PAGE) (is_aim b.0 None) goes where
      one : (here owned : Bool) → GoesTo here owned p r None b (Stop s t a ∷ xs) → (old : Option SpaceNo) (new : SpaceNo) (ys : List Record)
          → xs ≡ Move old (Some new) ∷ ys → new.0 < n
      one true true none = absurd none
      one true false none = absurd none
      one false owned none = absurd (let clash : [] ≡ Move None None ∷ _ = none in cc)

-- an interrupt moves to the aim
interrupt-moves : (n : ℕ) (p : ProcNo) (r : Readings) (owner aim : Option SpaceNo) (x : Record) (xs : List Record) → StopsAndGoes p r owner aim (x ∷ xs)
    → ((b : SpaceNo) → aim ≡ Some b → b.0 < n) → IsInterrupt (x ∷ take_while is_own xs) → EachMove n (x ∷ take_while is_own xs)
interrupt-moves n p r owner aim (Stop s t a) xs goes below is =
    move-passage n (take_while is_own xs) is
    (λ old new ys same. let whole = head-of is_own xs (Move old (Some new)) ys same in stop-moves n p r owner aim s t a xs goes below old new whole.0 whole.1)
interrupt-moves n p r owner aim (Up s a) xs goes below is = move-passage n (Up s a ∷ take_while is_own xs) is (λ old new ys same. absurd (cc))
interrupt-moves n p r (Some o) aim (Move old (Some new)) xs goes below is = absurd goes
interrupt-moves n p r (Some o) aim (Move old None) xs goes below is = absurd goes
interrupt-moves n p r None aim (Move old new) xs goes below is =
    move-passage n (Move old new ∷ take_while is_own xs) is
    (λ old' new' ys same.
    let here : Move old new ≡ Move old' (Some new') = cc in
    aim-move n p r None aim (Move old new ∷ xs) goes below old' new' xs (ap (λ z. z ∷ xs) here))
interrupt-moves n p r owner aim x xs goes below is = absurd (is)

-- after a block nothing moves to a space
block-moves : (n : ℕ) (there : Bool) (p : ProcNo) (r : Readings) (s : SpaceNo) (xs : List Record) → UpOrLeave there p r s xs → IsPassage (take_while is_own xs)
    → EachMove n (take_while is_own xs)
block-moves n there p r s xs goes is = move-passage n (take_while is_own xs) is
    (λ old new ys same. let whole = head-of is_own xs (Move old (Some new)) ys same in absurd (one there goes old new whole.0 whole.1)) where
      one : (b : Bool) → UpOrLeave b p r s xs → (old : Option SpaceNo) (new : SpaceNo) (ys : List Record) → xs ≡ Move old (Some new) ∷ ys → ⊥
      one true up old new ys same = subst (BeginsWithUp s) same up
      one false leaves old new ys same =
          let head = head-of is_of_leave xs (Move (Some s) None) _ leaves in
          let clash : Move old (Some new) ∷ ys ≡ Move (Some s) None ∷ head.0 = sym same ∙ head.1 in
          let parts : Some new ≡ None = ap (λ (o : Option (Option SpaceNo)). unwrap o) (ap moved_to clash) in none-some new (sym parts)
        where
          moved_to : List Record → Option (Option SpaceNo)
          moved_to (Move o k ∷ zs) = Some k
          moved_to zs = None

          unwrap : Option (Option SpaceNo) → Option SpaceNo
          unwrap None = None
          unwrap (Some o) = o

pub while-more : (f : Record → Bool) (x : Record) (xs : List Record) → f x ≡ true → take_while f (x ∷ xs) ≡ x ∷ take_while f xs
while-more f x xs is = ap (λ b. take (cond b (1 + prefix_len f xs) 0) (x ∷ xs)) is ∙ ap (λ k. take k (x ∷ xs)) (one-add (prefix_len f xs))

none-moves : (n : ℕ) (x : Record) (xs : List Record) → EachMove n (x ∷ []) → xs ≡ [] → EachMove n (x ∷ xs)
none-moves n x xs one is = subst (λ zs. EachMove n (x ∷ zs)) (sym is) one

given-moves : (n : ℕ) (acts : List ActNo) → EachMove n (map GiveBack acts)
given-moves n [] = tt
given-moves n (a ∷ acts) = given-moves n acts

-- an `io` with its block
io-moves : (n : ℕ) (w : WorkloadView) (e : ℕ) (p : ProcNo) (r : Readings) (xs zs : List Record) → take_while is_own xs ≡ zs → IsBlock zs
    → EachRecord (GivesUpcallThen p) w e p r xs → EachMove n zs
io-moves n w e p r xs (Block s t a io ∷ rest) same is gives =
    let whole = head-of is_own xs (Block s t a io) rest same in
    let parts : rest ≡ take_while is_own whole.0 =
    ap (λ (zs : List Record). drop 1 zs) (sym same ∙ ap (take_while is_own) whole.1 ∙ while-more is_own (Block s t a io) whole.0 refl) in
    let law : EachRecord (GivesUpcallThen p) w e p r (Block s t a io ∷ whole.0) = subst (EachRecord (GivesUpcallThen p) w e p r) whole.1 gives in
    subst (EachMove n) (sym parts) (block-moves n _ p r s whole.0 law.0.follows (subst IsPassage parts is))
io-moves n w e p r xs zs same is gives = absurd (is)

out-moves : (n : ℕ) (xs : List Record) → IsOut xs → EachMove n xs
out-moves n (Out s t v ∷ []) is = tt
out-moves n xs is = absurd (is)

ins-moves : (n : ℕ) (w : WorkloadView) (e : ℕ) (p : ProcNo) (r : Readings) (i : Instr) (xs : List Record) → IsInsOf i (take_while is_own xs)
    → EachRecord (GivesUpcallThen p) w e p r xs
    → EachMove n (take_while is_own xs)
ins-moves n w e p r (instr.Out reg) xs is gives = out-moves n (take_while is_own xs) is
ins-moves n w e p r (instr.Io m) xs is gives = io-moves n w e p r xs (take_while is_own xs) refl is gives
ins-moves n w e p r i xs is gives = subst (EachMove n) (sym is) tt

step-moves : (n : ℕ) (w : WorkloadView) (e : ℕ) (p : ProcNo) (r : Readings) (a : ActNo) (life : Life) (x : Record) (xs : List Record)
    → FormedBy w r p a life x (take_while is_own xs)
    → EachRecord (GivesUpcallThen p) w e p r (x ∷ xs) → EachMove n (x ∷ take_while is_own xs)
step-moves n w e p r a life (Ins s t i) xs is gives = ins-moves n w e p (after_record w e p r (Ins s t i)) _ xs is gives.1
step-moves n w e p r a life (Block s t b io) xs is gives = block-moves n _ p r s xs gives.0.follows is
step-moves n w e p r a life (Want s m) xs is gives = none-moves n (Want s m) _ tt is.0
step-moves n w e p r a life (GiveBack b) xs is gives = subst (EachMove n) (sym is) (given-moves n (taken_of r life.space))
step-moves n w e p r a life (Run s t) xs is gives = none-moves n (Run s t) _ tt is
step-moves n w e p r a life (Cont s t) xs is gives = none-moves n (Cont s t) _ tt is
step-moves n w e p r a life (Back s t) xs is gives = none-moves n (Back s t) _ tt is
step-moves n w e p r a life (Ready s t) xs is gives = none-moves n (Ready s t) _ tt is
step-moves n w e p r a life (Take s l t) xs is gives = none-moves n (Take s l t) _ tt is
step-moves n w e p r a life (Free s l t) xs is gives = none-moves n (Free s l t) _ tt is
step-moves n w e p r a life (Line q) xs is gives = none-moves n (Line q) _ tt is
step-moves n w e p r a life Idle xs is gives = none-moves n Idle _ tt is
step-moves n w e p r a life (Spin l) xs is gives = none-moves n (Spin l) _ tt is
step-moves n w e p r a life x xs is gives = absurd (is)

over-moves : (n : ℕ) (kind : IoKind) (xs : List Record) → IsOver kind xs → EachMove n xs
over-moves n (Plain s a) (Unblock of t b ∷ []) is = tt
over-moves n (Page s a page) (Unblock of t b ∷ []) is = tt
over-moves n (Upcall s) (Fetched of ∷ []) is = tt
over-moves n kind xs is = absurd (is)

in-moves : (n : ℕ) (w : WorkloadView) (e : ℕ) (p : ProcNo) (r : Readings) (a : Option ActNo) (life : Option Life) (x : Record) (xs : List Record)
    → FormedIn w r p a life (x ∷ take_while is_own xs)
    → EachRecord (GivesUpcallThen p) w e p r (x ∷ xs) → EachMove n (x ∷ take_while is_own xs)
in-moves n w e p r (Some a) (Some life) x xs is gives = step-moves n w e p r a life x xs is gives
in-moves n w e p r (Some a) None x xs is gives = absurd is
in-moves n w e p r None life x xs is gives = absurd is

turn-moves : (n : ℕ) (w : WorkloadView) (e : ℕ) (p : ProcNo) (r : Readings) (x : Record) (xs : List Record)
    → IsTurn IsFormed false e w r p (x ∷ take_while is_own xs)
    → EachRecord (GivesUpcallThen p) w e p r (x ∷ xs) → EachMove n (x ∷ take_while is_own xs)
turn-moves n w e p r x xs is gives = due (due_of e r.under_way) is where
  owned : (o : Option SpaceNo) → IsTickOrStep IsFormed o w r p (x ∷ take_while is_own xs) → EachMove n (x ∷ take_while is_own xs)
  owned None tick = subst (EachMove n) (sym tick) tt
  owned (Some s) step = in-moves n w e p r (running_of r p) (life_on r p) x xs step gives

  due : (o : Option Io) → IsTurnWhileDue IsFormed o w r p (x ∷ take_while is_own xs) → EachMove n (x ∷ take_while is_own xs)
  due None step = owned (owner_of r p) step
  due (Some io) (inl done) = over-moves n io.kind _ done
  due (Some io) (inr local) = in-moves n w e p r (running_of r p) (life_on r p) x xs local.1 gives

-- the moves of a lawful event
pub event-moves : (rules : UserRules) → HasForms rules → (w : WorkloadView) (r : Readings) (e : Event) → IsLawful rules w r e
    → ((s : SpaceNo) → aim_of r e.proc ≡ Some s → s.0 < length w.spaces) → EachMove (length w.spaces) e.records
event-moves rules meets w r e law below = one e.number refl where
  n : ℕ
  n = length w.spaces

  later : 1 ≤ e.number → (xs : List Record) → e.records ≡ xs → EachMove (length w.spaces) xs
  later from [] is = tt
  later from (x ∷ xs) is =
      let turns = meets.formed w r e law in
      let whole : own_part (x ∷ xs) ++ closing_part (x ∷ xs) ≡ x ∷ xs = ap (λ ys. x ∷ ys) (take_then_drop (prefix_len is_own xs) xs) in
      let gives = subst (EachRecord (GivesUpcallThen e.proc) w e.number e.proc (event_begun w e r)) is law.upcall_given.blocks in
      let turn = subst (λ ys. IsTurn IsFormed (is_some (line_of r e.proc)) e.number w (event_begun w e r) e.proc (own_part ys)) is (turns.turn from) in
      let closing = subst (λ ys. IsClosing (closing_part ys)) is (turns.closing from) in
      subst (EachMove (length w.spaces)) whole
      (move-append (length w.spaces) (own_part (x ∷ xs)) (closing_part (x ∷ xs)) (own (is_some (line_of r e.proc)) refl turn gives)
      (move-closing (length w.spaces) (closing_part (x ∷ xs)) closing))
    where
      own : (b : Bool) → is_some (line_of r e.proc) ≡ b → IsTurn IsFormed b e.number w (event_begun w e r) e.proc (own_part (x ∷ xs))
          → EachRecord (GivesUpcallThen e.proc) w e.number e.proc (event_begun w e r) (x ∷ xs) → EachMove (length w.spaces) (own_part (x ∷ xs))
      own true raised turn' gives' =
          interrupt-moves (length w.spaces) e.proc (event_begun w e r) (owner_of r e.proc) (aim_of r e.proc) x xs
          (subst (StopsAndGoes e.proc (event_begun w e r) (owner_of r e.proc) (aim_of r e.proc)) is (law.interrupt_next.interrupt raised)) below turn'
      own false low turn' gives' = turn-moves (length w.spaces) w e.number e.proc (event_begun w e r) x xs turn' gives'

  one : (k : ℕ) → e.number ≡ k → EachMove (length w.spaces) e.records
  one zero at =
      let wanting = after_records w 0 (proc_no 0) (opening_readings w) (first_wants w) in
      subst (EachMove (length w.spaces)) (sym (ap (λ (f : Event). f.records) (law.numbered.opening at)))
      (move-append (length w.spaces) (first_wants w) (records_of 0 wanting.lines (aims_due w 0 wanting)) (move-wants (length w.spaces) (spaces_of w))
      (move-aims (length w.spaces) 0 wanting.lines (aims_due w 0 wanting)))
  one (suc k) at = later (omega arith) e.records refl

-- the aims of an event are at spaces of the workload
abbrev pub AllBelow : ℕ → List Change → Type 0
AllBelow n [] = Unit {0}
AllBelow n (c ∷ cs) = (c.space < n) × AllBelow n cs

below-append : (n : ℕ) (cs ds : List Change) → AllBelow n cs → AllBelow n ds → AllBelow n (cs ++ ds)
below-append n [] ds left right = right
below-append n (c ∷ cs) ds left right = (left.0, below-append n cs ds left.1 right)

for-below : (n more s : ℕ) (shares : List ℕ) (marks : List Bool) (aims : List (Option SpaceNo)) → s < n → AllBelow n (changes_for more shares marks s aims)
for-below n zero s shares marks aims below = tt
for-below n (suc more) s shares marks aims below = one (choice shares marks aims) (λ left. for-below n more s shares marks left below) where
  one : (o : Option ℕ) → ((left : List (Option SpaceNo)) → AllBelow n (changes_for more shares marks s left))
      → AllBelow n (change_to s aims o (changes_for more shares marks s))
  one None rest = tt
  one (Some p) rest = (below, rest (aims_with aims (record { proc = p; space = s })))

from-below : (n s k : ℕ) (shares : List ℕ) (marks : List Bool) (aims : List (Option SpaceNo)) → s + k ≤ n → AllBelow n (changes_from s k shares marks aims)
from-below n s zero shares marks aims within = tt
from-below n s (suc k) shares marks aims within =
    below-append n (changes_for (missing shares aims s) shares marks s aims) _ (for-below n (missing shares aims s) s shares marks aims (omega arith))
    (from-below n (s + 1) k shares marks (aims_after aims (changes_for (missing shares aims s) shares marks s aims)) (omega arith))

abbrev pub EachAim : ℕ → List Record → Type 0
EachAim n [] = Unit {0}
EachAim n (Aim p (Some s) ∷ xs) = (s.0 < n) × EachAim n xs
EachAim n (x ∷ xs) = EachAim n xs

each-aim : (n : ℕ) (xs : List Record) → AllBelow n (aims_in xs) → EachAim n xs
each-aim n [] all = tt
each-aim n (Aim p (Some s) ∷ xs) all = (all.0, each-aim n xs all.1)
each-aim n (Aim p None ∷ xs) all = each-aim n xs all
each-aim n (x ∷ xs) all = each-aim n xs all

pub event-aims : (rules : UserRules) → (w : WorkloadView) (r : Readings) (e : Event) → IsLawful rules w r e → EachAim (length w.spaces) e.records
event-aims rules w r e law =
    each-aim (length w.spaces) e.records
    (subst (AllBelow (length w.spaces)) (sym law.shares_covered.due) (from-below (length w.spaces) 0 (length w.spaces) _ _ _ (omega arith)))

-- each record names spaces of the workload
abbrev pub Ranged : ℕ → Record → Type 0
Ranged n (Up s a) = s.0 < n
Ranged n (Aim p (Some s)) = s.0 < n
Ranged n _ = Unit {0}

abbrev pub AllRanged : ℕ → List Record → Type 0
AllRanged n [] = Unit {0}
AllRanged n (x ∷ xs) = Ranged n x × AllRanged n xs

abbrev MovedIn : WorkloadView → Readings → Type 0
MovedIn w r = (s : SpaceNo) → r.moved ≡ Some s → s.0 < length w.spaces

-- an up tells something that its space was not told, or its processor moved there
up-range : (w : WorkloadView) (p : ProcNo) (r : Readings) (s : SpaceNo) (a : ActNo) (rest : List Record) → IsSized w r → MovedIn w r → TellsAll p r s a rest
    → s.0 < length w.spaces
up-range w p r s a rest sized moved tells = elim (cases_lt s.0 (length w.spaces)) [
  | inl below ↦ below
  | inr past ↦ one r.moved refl past
] where
  to : (o : Option SpaceNo) → r.moved ≡ o → (b : Bool) → is_aim s.0 o ≡ b → length w.spaces ≤ s.0 → s.0 < length w.spaces
  to None is true at past = absurd (cc)
  to (Some m) is true at past = let same = Rattle.std.proofs.lemmas.Bool.eqb-true m.0 s.0 at in let below = moved m is in omega arith
  to o is false at past =
      let untold_len = sized.untold in
      let none : untold_of r s ≡ [] = get_or_past r.untold s.0 [] (omega arith) in
      let stays : is_moved_to r.moved s ≡ false = ap (is_aim s.0) is ∙ at in
      absurd
      (tells.some (tells.notes ∙ ap (λ b. if b then Rattle.sa_base.specs.declared.record.Note.TheVariants.Add p ∷ untold_of r s else untold_of r s) stays
      ∙ none))

  one : (o : Option SpaceNo) → r.moved ≡ o → length w.spaces ≤ s.0 → s.0 < length w.spaces
  one o is past = to o is (is_aim s.0 o) refl past

ranged-each : (w : WorkloadView) (e : ℕ) (p : ProcNo) (r : Readings) (xs : List Record) → IsSized w r → MovedIn w r → EachMove (length w.spaces) xs
    → EachAim (length w.spaces) xs
    → EachRecord (TellsAllThen p) w e p r xs → AllRanged (length w.spaces) xs
ranged-each w e p r [] sized moved moves aims tells = tt
ranged-each w e p r (Up s a ∷ xs) sized moved moves aims tells = (
  up-range w p r s a xs sized moved tells.0,
  ranged-each w e p (after_record w e p r (Up s a)) xs (sized-step w e p r (Up s a) sized) moved moves aims tells.1,
)
ranged-each w e p r (Move old (Some new) ∷ xs) sized moved moves aims tells = (
  tt,
  ranged-each w e p (after_record w e p r (Move old (Some new))) xs (sized-step w e p r (Move old (Some new)) sized)
      (λ s is. subst (λ (m : SpaceNo). m.0 < length w.spaces) (same_Some new s is) moves.0) moves.1 aims tells.1,
)
ranged-each w e p r (Move old None ∷ xs) sized moved moves aims tells = (
  tt,
  ranged-each w e p (after_record w e p r (Move old None)) xs (sized-step w e p r (Move old None) sized)
      (λ s is. absurd (none-some s is)) moves aims tells.1,
)
ranged-each w e p r (Aim q (Some s) ∷ xs) sized moved moves aims tells =
    (aims.0, ranged-each w e p (after_record w e p r (Aim q (Some s))) xs (sized-step w e p r (Aim q (Some s)) sized) moved moves aims.1 tells.1)
ranged-each w e p r (Aim q None ∷ xs) sized moved moves aims tells =
    (tt, ranged-each w e p (after_record w e p r (Aim q None)) xs (sized-step w e p r (Aim q None) sized) moved moves aims tells.1)
ranged-each w e p r (x ∷ xs) sized moved moves aims tells =
    (tt, ranged-each w e p (after_record w e p r x) xs (sized-step w e p r x sized) moved moves aims tells.1)

-- the records of a lawful event
pub event-ranged : (rules : UserRules) → HasForms rules → (w : WorkloadView) (r : Readings) (e : Event)
    → ((s : SpaceNo) → aim_of r e.proc ≡ Some s → s.0 < length w.spaces)
    → IsSized w (event_begun w e r) → IsLawful rules w r e → AllRanged (length w.spaces) e.records
event-ranged rules meets w r e below sized law =
    ranged-each w e.number e.proc (event_begun w e r) e.records sized (λ s is. absurd (none-some s is)) (event-moves rules meets w r e law below)
    (event-aims rules w r e law) law.all_told.told

-- the homes of lives are spaces of the workload
abbrev pub HomesIn : WorkloadView → List Item → Type 0
HomesIn w past = (a : ActNo) (home : Home) → home_of past a ≡ Some home → home.space.0 < length w.spaces

-- so aims and the homes of lives stay in range
pub record IsInRange (w : WorkloadView) (past : List Item) (r : Readings) : Type 0 where
  pub homes : HomesIn w past
  pub aims : (p : ProcNo) (s : SpaceNo) → aim_of r p ≡ Some s → s.0 < length w.spaces

set-aim : (xs : List (Option SpaceNo)) (i j : ℕ) (v : Option SpaceNo) (s : SpaceNo) → get_or (slice_set xs i v) j None ≡ Some s
    → (v ≡ Some s) ⊎ (get_or xs j None ≡ Some s)
set-aim (x ∷ xs) zero zero v s is = inl is
set-aim (x ∷ xs) (suc i) (suc j) v s is = set-aim xs i j v s is
set-aim _ _ _ v s is = inr is

pub range-step : (w : WorkloadView) (e : ℕ) (p : ProcNo) (past : List Item) (r : Readings) (x : Record) → IsInRange w past r → Ranged (length w.spaces) x
    → IsInRange w (past ++ item e p x ∷ []) (after_record w e p r x)
range-step w e p past r x inv ranged = record {
  homes = λ a home is. home_one x ranged a home (sym (home-more past e p x a) ∙ is);
  aims = λ q s is. aim_one x ranged q s is;
} where
  home_one : (y : Record) → Ranged (length w.spaces) y → (a : ActNo) (home : Home) → option_or (home_in a p y) (home_of past a) ≡ Some home
      → home.space.0 < length w.spaces
  home_one (Up s b) below a home is = up (b.0 == a.0) is where
    up : (c : Bool) → option_or (if c then Some (record { space = s; proc = p }) else None) (home_of past a) ≡ Some home → home.space.0 < length w.spaces
    up true same = subst (λ (h : Home). h.space.0 < length w.spaces) (same_Some (record { space = s; proc = p }) home same) below
    up false same = inv.homes a home same
  home_one y below a home is = inv.homes a home is

  aim_one : (y : Record) → Ranged (length w.spaces) y → (q : ProcNo) (s : SpaceNo) → get_or (Rattle.sa_laws.specs.Record.aims_after r.aims y) q.0 None ≡ Some s
      → s.0 < length w.spaces
  aim_one (Aim t (Some b)) below q s is = elim (set-aim r.aims t.0 q.0 (Some b) s is) [
    | inl new ↦ subst (λ (k : SpaceNo). k.0 < length w.spaces) (same_Some b s new) below
    | inr old ↦ inv.aims q s old
  ]
  aim_one (Aim t None) below q s is = elim (set-aim r.aims t.0 q.0 None s is) [ inl new ↦ absurd (none-some s new) | inr old ↦ inv.aims q s old ]
  aim_one y below q s is = inv.aims q s is

absent : (n k : ℕ) (s : SpaceNo) → get_or (replicate n None) k None ≡ Some s → ⊥
absent zero k s is = none-some s is
absent (suc n) zero s is = none-some s is
absent (suc n) (suc k) s is = absent n k s is

pub range-start : (w : WorkloadView) → IsInRange w [] (opening_readings w)
range-start w = record {
  homes = λ a home is. absurd (none-some home is);
  aims = λ p s is. absurd (absent w.processors p.0 s is);
}
