-- What an event's own part does to the owner and the aim of its processor: after it they are the same.
use Rattle.std.proofs.Common.{◌≡◌, ℕ, ◌⊎◌, inl, inr, refl, sym, ◌∙◌, ap, subst, Some, None, List, [], ◌∷◌, ◌++◌, map, drop, true, false}
use Rattle.std.specs.Prelude.{Option, Bool, ◌&&◌, take_while}
use Rattle.std.specs.List.{list_all}
use Rattle.std.proofs.lemmas.Option.{none-some}
use Rattle.sa_base.specs.declared.number.SpaceNo.{SpaceNo}
use Rattle.sa_base.specs.declared.number.ProcNo.{ProcNo}
use Rattle.sa_base.specs.declared.number.ThreadNo.{ThreadNo}
use Rattle.sa_base.specs.declared.number.ActNo.{ActNo}
use Rattle.sa_base.specs.declared.limits.TheConstants.{UPCALL_PAGE}
use Rattle.sa_base.specs.declared.record.Record.{Record}
use Rattle.sa_base.specs.declared.record.Record.TheVariants.{Ins, Out, Stop, Block, Unblock, Up, Told, Move, Want, Aim, Line, Fetch, Fetched, GiveBack, Idle, Spin, Take, Ready, Run, Free, Cont, Back}
use Rattle.sa_instr.specs.declared.instr.Instr.{Instr}
use Rattle.sa_instr.specs.declared.instr.Instr.TheVariants as instr
use Rattle.sa_spaces.specs.Workload.{WorkloadView}
use Rattle.sa_devices.specs.declared.kind.IoKind.{IoKind}
use Rattle.sa_devices.specs.declared.kind.IoKind.TheVariants.{Plain, Page, Upcall}
use Rattle.sa_devices.specs.Ios.{Io, due_of}
use Rattle.sa_assign.specs.Aims.{is_aim}
use Rattle.sa_assign.proofs.AimLemmas.{is_aim-true}
use Rattle.sa_laws.specs.Life.{Life}
use Rattle.sa_laws.specs.Readings.{Readings, owner_of, running_of, life_on, taken_of, is_resident}
use Rattle.sa_laws.specs.Record.{after_record}
use Rattle.sa_laws.specs.Shape.{is_own, is_of_leave, BeginsWithUp}
use Rattle.sa_laws.specs.Turns.{AreTold, IsFetchOrNothing, IsPassage, IsInterrupt, IsOver, IsOut, IsBlock, IsInsOf, IsTickOrStep, IsTurnWhileDue, IsTurn}
use Rattle.sa_promises.specs.Needs.{FormedBy, FormedIn, IsFormed}
use Rattle.sa_laws.specs.Upcalls.{EachRecord, GivesUpcallThen, UpOrLeave, GoesTo, GoesToAim, StopsAndGoes}
use Rattle.sa_promises.proofs.read.Spaces.{head-of, while-more}

-- records that change no owner, aim or line
abbrev pub is_calm : Record → Bool
is_calm (Move old new) = false
is_calm (Aim p s) = false
is_calm _ = true

abbrev pub AllCalm : List Record → Type 0
AllCalm xs = list_all is_calm xs ≡ true

-- an own part changes none of them where its processor is aimed at by its owner; or it moves to the aim; or it leaves
pub record Moves (aim : Option SpaceNo) (xs : List Record) : Type 0 where
  pub before : List Record
  pub old : Option SpaceNo
  pub new : SpaceNo
  pub rest : List Record
  pub is : xs ≡ before ++ Move old (Some new) ∷ rest
  pub calm : AllCalm before
  pub calm_rest : AllCalm rest
  pub to_aim : aim ≡ Some new

pub record Leaves (p : ProcNo) (xs : List Record) : Type 0 where
  pub before : List Record
  pub old : Option SpaceNo
  pub rest : List Record
  pub is : xs ≡ before ++ Move old None ∷ Aim p None ∷ rest
  pub calm : AllCalm before
  pub calm_rest : AllCalm rest

abbrev pub Turned : ProcNo → Option SpaceNo → Option SpaceNo → List Record → Type 0
Turned p owner aim xs = (AllCalm xs × (aim ≡ owner)) ⊎ (Moves aim xs ⊎ Leaves p xs)

calm-cons : (x : Record) (xs : List Record) → is_calm x ≡ true → AllCalm xs → AllCalm (x ∷ xs)
calm-cons x xs one all = ap (λ b. b && list_all is_calm xs) one ∙ all

turned-cons : (p : ProcNo) (owner aim : Option SpaceNo) (x : Record) (xs : List Record) → is_calm x ≡ true → Turned p owner aim xs → Turned p owner aim (x ∷ xs)
turned-cons p owner aim x xs calm (inl same) = inl (calm-cons x xs calm same.0, same.1)
turned-cons p owner aim x xs calm (inr (inl moves)) = inr (inl (record {
  before = x ∷ moves.before;
  old = moves.old;
  new = moves.new;
  rest = moves.rest;
  is = ap (λ ys. x ∷ ys) moves.is;
  calm = calm-cons x moves.before calm moves.calm;
  calm_rest = moves.calm_rest;
  to_aim = moves.to_aim;
}))
turned-cons p owner aim x xs calm (inr (inr leaves)) = inr (inr (record {
  before = x ∷ leaves.before;
  old = leaves.old;
  rest = leaves.rest;
  is = ap (λ ys. x ∷ ys) leaves.is;
  calm = calm-cons x leaves.before calm leaves.calm;
  calm_rest = leaves.calm_rest;
}))

calm-told : (xs : List Record) → AreTold xs → AllCalm xs
calm-told [] is = refl
calm-told (Told n ∷ xs) is = calm-cons (Told n) xs refl (calm-told xs is)
calm-told (x ∷ xs) is = absurd is

calm-fetch : (xs : List Record) → IsFetchOrNothing xs → AllCalm xs
calm-fetch [] is = refl
calm-fetch (Fetch s ∷ []) is = refl
calm-fetch (Fetch s ∷ z ∷ xs) is = absurd is
calm-fetch (x ∷ xs) is = absurd is

-- what is known of the head of a passage
pub record Heads (p : ProcNo) (owner aim : Option SpaceNo) (xs : List Record) : Type 0 where
  pub up : (s : SpaceNo) (a : ActNo) (ys : List Record) → xs ≡ Up s a ∷ ys → aim ≡ owner
  pub move : (old : Option SpaceNo) (new : SpaceNo) (ys : List Record) → xs ≡ Move old (Some new) ∷ ys → aim ≡ Some new
  pub left : (old : Option SpaceNo) (q : ProcNo) (ys : List Record) → xs ≡ Move old None ∷ Aim q None ∷ ys → q ≡ p

passage-turned : (p : ProcNo) (owner aim : Option SpaceNo) (xs zs : List Record) → take_while is_own xs ≡ zs → IsPassage zs → Heads p owner aim xs
    → Turned p owner aim zs
passage-turned p owner aim xs (Up s a ∷ zs) same is heads =
    let whole = head-of is_own xs (Up s a) zs same in inl (calm-cons (Up s a) zs refl (calm-told zs is), heads.up s a whole.0 whole.1)
passage-turned p owner aim xs (Move old (Some new) ∷ Up s a ∷ zs) same is heads =
    let whole = head-of is_own xs (Move old (Some new)) (Up s a ∷ zs) same in
    inr (inl (record {
      before = [];
      old = old;
      new = new;
      rest = Up s a ∷ zs;
      is = refl;
      calm = refl;
      calm_rest = calm-cons (Up s a) zs refl (calm-told zs is);
      to_aim = heads.move old new whole.0 whole.1;
    }))
passage-turned p owner aim xs (Move old None ∷ Aim q None ∷ zs) same is heads =
    let whole = head-of is_own xs (Move old None) (Aim q None ∷ zs) same in
    let parts : take_while is_own whole.0 ≡ Aim q None ∷ zs =
    ap (λ (ys : List Record). drop 1 ys) (sym (while-more is_own (Move old None) whole.0 refl) ∙ ap (take_while is_own) (sym whole.1) ∙ same) in
    let second = head-of is_own whole.0 (Aim q None) zs parts in
    let at : q ≡ p = heads.left old q second.0 (whole.1 ∙ ap (λ ys. Move old None ∷ ys) second.1) in
    inr (inr (record {
      before = [];
      old = old;
      rest = zs;
      is = ap (λ (k : ProcNo). Move old None ∷ Aim k None ∷ zs) at;
      calm = refl;
      calm_rest = calm-fetch zs is;
    }))
passage-turned p owner aim xs zs same is heads = absurd (is)

-- a leave is of the event's own processor
leave-at : (p q : ProcNo) (owner old : Option SpaceNo) (s : SpaceNo) (fetching : Bool) (xs ys : List Record)
    → take_while is_of_leave xs ≡ Rattle.sa_laws.specs.Upcalls.leave_records p owner s fetching
    → xs ≡ Move old None ∷ Aim q None ∷ ys → q ≡ p
leave-at p q owner old s fetching xs ys leaves is =
    let run : Move old None ∷ Aim q None ∷ take_while is_of_leave ys ≡ Rattle.sa_laws.specs.Upcalls.leave_records p owner s fetching =
    ap (λ zs. Move old None ∷ zs) (sym (while-more is_of_leave (Aim q None) ys refl)) ∙ sym (while-more is_of_leave (Move old None) (Aim q None ∷ ys) refl)
    ∙ ap (take_while is_of_leave) (sym is) ∙ leaves in cc

leave-head : (p : ProcNo) (owner : Option SpaceNo) (s : SpaceNo) (fetching : Bool) (x : Record) (xs ys : List Record)
    → take_while is_of_leave xs ≡ Rattle.sa_laws.specs.Upcalls.leave_records p owner s fetching
    → xs ≡ x ∷ ys → x ≡ Move owner None
leave-head p owner s fetching x xs ys leaves is =
    let there = head-of is_of_leave xs (Move owner None) _ leaves in
    let same : x ∷ ys ≡ Move owner None ∷ there.0 = sym is ∙ there.1 in cc

goes-heads : (here owned : Bool) (p : ProcNo) (r : Readings) (owner : Option SpaceNo) (b : SpaceNo) (xs : List Record) → is_aim b.0 owner ≡ owned
    → GoesTo here owned p r owner b xs
    → Heads p owner (Some b) xs
goes-heads true true p r owner b xs at goes = record {
  up = λ s a ys is. sym (is_aim-true b.0 owner at);
  move = λ old new ys is. absurd (subst (BeginsWithUp b) is goes);
  left = λ old q ys is. absurd (subst (BeginsWithUp b) is goes);
}
goes-heads true false p r owner b xs at goes = record {
  up = λ s a ys is. absurd (subst (GoesTo true false p r owner b) is goes);
  move = λ old new ys is.
      let there : GoesTo true false p r owner b (Move old (Some new) ∷ ys) = subst (GoesTo true false p r owner b) is goes in sym there.1;
  left = λ old q ys is.
      let there : GoesTo true false p r owner b (Move old None ∷ Aim q None ∷ ys) = subst (GoesTo true false p r owner b) is goes in
      absurd (none-some b there.1);
}
goes-heads false owned p r owner b xs at goes = record {
  up = λ s a ys is. absurd (let clash = leave-head p owner b _ (Up s a) xs ys goes is in cc);
  move = λ old new ys is. absurd (let clash = leave-head p owner b _ (Move old (Some new)) xs ys goes is in none-some new (sym (ap moved_to clash)));
  left = λ old q ys is. leave-at p q owner old b _ xs ys goes is;
} where
  moved_to : Record → Option SpaceNo
  moved_to (Move o k) = k
  moved_to x = None

aim-heads : (p : ProcNo) (r : Readings) (owner aim : Option SpaceNo) (xs : List Record) → GoesToAim p r owner aim xs → Heads p owner aim xs
aim-heads p r owner None xs goes = absurd goes
aim-heads p r owner (Some b) xs goes = goes-heads (is_resident r b UPCALL_PAGE) (is_aim b.0 owner) p r owner b xs refl goes

block-heads : (here : Bool) (p : ProcNo) (r : Readings) (s : SpaceNo) (owner aim : Option SpaceNo) (xs : List Record) → aim ≡ owner → UpOrLeave here p r s xs
    → Heads p owner aim xs
block-heads true p r s owner aim xs same goes = record {
  up = λ of a ys is. same;
  move = λ old new ys is. absurd (subst (BeginsWithUp s) is goes);
  left = λ old q ys is. absurd (subst (BeginsWithUp s) is goes);
}
block-heads false p r s owner aim xs same goes = record {
  up = λ of a ys is. same;
  move = λ old new ys is. absurd (let clash = leave-head p (Some s) s _ (Move old (Some new)) xs ys goes is in none-some new (sym (ap moved_to clash)));
  left = λ old q ys is. leave-at p q (Some s) old s _ xs ys goes is;
} where
  moved_to : Record → Option SpaceNo
  moved_to (Move o k) = k
  moved_to x = None

-- an interrupt
stop-goes : (here owned : Bool) (p : ProcNo) (r : Readings) (b s : SpaceNo) (t : Option ThreadNo) (a : ActNo) (xs : List Record)
    → GoesTo here owned p r None b (Stop s t a ∷ xs) → ⊥
stop-goes true true p r b s t a xs goes = goes
stop-goes true false p r b s t a xs goes = goes
stop-goes false owned p r b s t a xs goes = absurd (let clash = leave-head p None b _ (Stop s t a) (Stop s t a ∷ xs) xs goes refl in cc)

stop-aims : (p : ProcNo) (r : Readings) (aim : Option SpaceNo) (s : SpaceNo) (t : Option ThreadNo) (a : ActNo) (xs : List Record)
    → GoesToAim p r None aim (Stop s t a ∷ xs) → ⊥
stop-aims p r None s t a xs goes = goes
stop-aims p r (Some b) s t a xs goes = stop-goes (is_resident r b UPCALL_PAGE) (is_aim b.0 None) p r b s t a xs goes

interrupt-turned : (p : ProcNo) (r : Readings) (owner aim : Option SpaceNo) (x : Record) (xs : List Record) → StopsAndGoes p r owner aim (x ∷ xs)
    → IsInterrupt (x ∷ take_while is_own xs)
    → Turned p owner aim (x ∷ take_while is_own xs)
interrupt-turned p r (Some o) aim (Stop s t a) xs goes is =
    turned-cons p (Some o) aim (Stop s t a) (take_while is_own xs) refl
    (passage-turned p (Some o) aim xs (take_while is_own xs) refl is (aim-heads p r (Some o) aim xs goes.1))
interrupt-turned p r None aim (Stop s t a) xs goes is = absurd (stop-aims p r aim s t a xs goes)
interrupt-turned p r None aim (Up s a) xs goes is =
    passage-turned p None aim (Up s a ∷ xs) (Up s a ∷ take_while is_own xs) (while-more is_own (Up s a) xs refl) is (aim-heads p r None aim (Up s a ∷ xs) goes)
interrupt-turned p r None aim (Move old new) xs goes is =
    passage-turned p None aim (Move old new ∷ xs) (Move old new ∷ take_while is_own xs) (while-more is_own (Move old new) xs refl) is
    (aim-heads p r None aim (Move old new ∷ xs) goes)
interrupt-turned p r (Some o) aim (Up s a) xs goes is = absurd goes
interrupt-turned p r (Some o) aim (Move old new) xs goes is = absurd goes
interrupt-turned p r owner aim x xs goes is = absurd (is)

-- another turn, of a processor that is aimed at by its owner
calm-turned : (p : ProcNo) (owner aim : Option SpaceNo) (xs : List Record) → aim ≡ owner → AllCalm xs → Turned p owner aim xs
calm-turned p owner aim xs same calm = inl (calm, same)

calm-given : (acts : List ActNo) → AllCalm (map GiveBack acts)
calm-given [] = refl
calm-given (a ∷ acts) = calm-cons (GiveBack a) (map GiveBack acts) refl (calm-given acts)

calm-alone : (x : Record) (xs : List Record) → is_calm x ≡ true → xs ≡ [] → AllCalm (x ∷ xs)
calm-alone x xs one none = calm-cons x xs one (subst AllCalm (sym none) refl)

calm-out : (xs : List Record) → IsOut xs → AllCalm xs
calm-out (Out s t v ∷ []) is = refl
calm-out xs is = absurd (is)

io-turned : (w : WorkloadView) (e : ℕ) (p : ProcNo) (r : Readings) (owner aim : Option SpaceNo) (xs zs : List Record) → aim ≡ owner → take_while is_own xs ≡ zs
    → IsBlock zs
    → EachRecord (GivesUpcallThen p) w e p r xs → Turned p owner aim zs
io-turned w e p r owner aim xs (Block s t a io ∷ rest) low same is gives =
    let whole = head-of is_own xs (Block s t a io) rest same in
    let parts : take_while is_own whole.0 ≡ rest =
    ap (λ (zs : List Record). drop 1 zs) (sym (while-more is_own (Block s t a io) whole.0 refl) ∙ ap (take_while is_own) (sym whole.1) ∙ same) in
    let law : EachRecord (GivesUpcallThen p) w e p r (Block s t a io ∷ whole.0) = subst (EachRecord (GivesUpcallThen p) w e p r) whole.1 gives in
    turned-cons p owner aim (Block s t a io) rest refl
    (passage-turned p owner aim whole.0 rest parts is (block-heads _ p r s owner aim whole.0 low law.0.follows))
io-turned w e p r owner aim xs zs low same is gives = absurd (is)

ins-turned : (w : WorkloadView) (e : ℕ) (p : ProcNo) (r : Readings) (owner aim : Option SpaceNo) (i : Instr) (xs : List Record) → aim ≡ owner
    → IsInsOf i (take_while is_own xs)
    → EachRecord (GivesUpcallThen p) w e p r xs → Turned p owner aim (take_while is_own xs)
ins-turned w e p r owner aim (instr.Out reg) xs low is gives = calm-turned p owner aim _ low (calm-out (take_while is_own xs) is)
ins-turned w e p r owner aim (instr.Io m) xs low is gives = io-turned w e p r owner aim xs (take_while is_own xs) low refl is gives
ins-turned w e p r owner aim i xs low is gives = calm-turned p owner aim _ low (subst AllCalm (sym is) refl)

step-turned : (w : WorkloadView) (e : ℕ) (p : ProcNo) (r : Readings) (owner aim : Option SpaceNo) (a : ActNo) (life : Life) (x : Record) (xs : List Record)
    → aim ≡ owner
    → FormedBy w r p a life x (take_while is_own xs) → EachRecord (GivesUpcallThen p) w e p r (x ∷ xs) → Turned p owner aim (x ∷ take_while is_own xs)
step-turned w e p r owner aim a life (Ins s t i) xs low is gives =
    turned-cons p owner aim (Ins s t i) _ refl (ins-turned w e p (after_record w e p r (Ins s t i)) owner aim _ xs low is gives.1)
step-turned w e p r owner aim a life (Block s t b io) xs low is gives =
    turned-cons p owner aim (Block s t b io) _ refl
    (passage-turned p owner aim xs (take_while is_own xs) refl is (block-heads _ p r s owner aim xs low gives.0.follows))
step-turned w e p r owner aim a life (Want s m) xs low is gives = calm-turned p owner aim _ low (calm-alone (Want s m) _ refl is.0)
step-turned w e p r owner aim a life (GiveBack b) xs low is gives =
    calm-turned p owner aim _ low (subst AllCalm (sym is) (calm-given (taken_of r life.space)))
step-turned w e p r owner aim a life (Run s t) xs low is gives = calm-turned p owner aim _ low (calm-alone (Run s t) _ refl is)
step-turned w e p r owner aim a life (Cont s t) xs low is gives = calm-turned p owner aim _ low (calm-alone (Cont s t) _ refl is)
step-turned w e p r owner aim a life (Back s t) xs low is gives = calm-turned p owner aim _ low (calm-alone (Back s t) _ refl is)
step-turned w e p r owner aim a life (Ready s t) xs low is gives = calm-turned p owner aim _ low (calm-alone (Ready s t) _ refl is)
step-turned w e p r owner aim a life (Take s l t) xs low is gives = calm-turned p owner aim _ low (calm-alone (Take s l t) _ refl is)
step-turned w e p r owner aim a life (Free s l t) xs low is gives = calm-turned p owner aim _ low (calm-alone (Free s l t) _ refl is)
step-turned w e p r owner aim a life (Line q) xs low is gives = calm-turned p owner aim _ low (calm-alone (Line q) _ refl is)
step-turned w e p r owner aim a life Idle xs low is gives = calm-turned p owner aim _ low (calm-alone Idle _ refl is)
step-turned w e p r owner aim a life (Spin l) xs low is gives = calm-turned p owner aim _ low (calm-alone (Spin l) _ refl is)
step-turned w e p r owner aim a life x xs low is gives = absurd (is)

in-turned : (w : WorkloadView) (e : ℕ) (p : ProcNo) (r : Readings) (owner aim : Option SpaceNo) (a : Option ActNo) (life : Option Life) (x : Record)
    (xs : List Record) → aim ≡ owner
    → FormedIn w r p a life (x ∷ take_while is_own xs) → EachRecord (GivesUpcallThen p) w e p r (x ∷ xs) → Turned p owner aim (x ∷ take_while is_own xs)
in-turned w e p r owner aim (Some a) (Some life) x xs low is gives = step-turned w e p r owner aim a life x xs low is gives
in-turned w e p r owner aim (Some a) None x xs low is gives = absurd is
in-turned w e p r owner aim None life x xs low is gives = absurd is

over-calm : (kind : IoKind) (xs : List Record) → IsOver kind xs → AllCalm xs
over-calm (Plain s a) (Unblock of t b ∷ []) is = refl
over-calm (Page s a page) (Unblock of t b ∷ []) is = refl
over-calm (Upcall s) (Fetched of ∷ []) is = refl
over-calm kind xs is = absurd (is)

-- each turn
pub turn-turned : (w : WorkloadView) (e : ℕ) (p : ProcNo) (r : Readings) (owner aim : Option SpaceNo) (raised : Bool) (x : Record) (xs : List Record)
    → (raised ≡ true → StopsAndGoes p r owner aim (x ∷ xs)) → (raised ≡ false → aim ≡ owner) → IsTurn IsFormed raised e w r p (x ∷ take_while is_own xs)
    → EachRecord (GivesUpcallThen p) w e p r (x ∷ xs) → Turned p owner aim (x ∷ take_while is_own xs)
turn-turned w e p r owner aim true x xs goes low is gives = interrupt-turned p r owner aim x xs (goes refl) is
turn-turned w e p r owner aim false x xs goes low is gives = due (due_of e r.under_way) is where
  same : aim ≡ owner
  same = low refl

  owned : (o : Option SpaceNo) → IsTickOrStep IsFormed o w r p (x ∷ take_while is_own xs) → Turned p owner aim (x ∷ take_while is_own xs)
  owned None tick = calm-turned p owner aim _ (low refl) (subst AllCalm (sym tick) refl)
  owned (Some s) step = in-turned w e p r owner aim (running_of r p) (life_on r p) x xs (low refl) step gives

  due : (o : Option Io) → IsTurnWhileDue IsFormed o w r p (x ∷ take_while is_own xs) → Turned p owner aim (x ∷ take_while is_own xs)
  due None step = owned (owner_of r p) step
  due (Some io) (inl done) = calm-turned p owner aim _ (low refl) (over-calm io.kind _ done)
  due (Some io) (inr local) = in-turned w e p r owner aim (running_of r p) (life_on r p) x xs (low refl) local.1 gives
