-- No stop, block or unblock is untold to two spaces.
use Rattle.std.proofs.Common.{◌≡◌, ◌≢◌, ℕ, zero, suc, ◌⊎◌, inl, inr, refl, sym, ◌∙◌, ap, subst, arith, Some, None, List, [], ◌∷◌, length, true, false}
use Rattle.std.specs.Prelude.{Option, Bool, if◌then◌else◌, Contains}
use Rattle.std.proofs.lemmas.Bool.{cases_eq}
use Rattle.std.proofs.lemmas.List.Elements.{Contains-append_right}
use Rattle.std.proofs.lemmas.Option.{none-some, same_Some}
use Rattle.sa_lemmas.proofs.Membership.{contains-nil}
use Rattle.sa_lemmas.specs.Function.{put}
use Rattle.sa_lemmas.proofs.FunctionUpdates.{put-at, put-other}
use Rattle.sa_base.specs.declared.number.SpaceNo.{SpaceNo}
use Rattle.sa_base.specs.declared.number.ProcNo.{ProcNo}
use Rattle.sa_base.specs.declared.number.ActNo.{ActNo}
use Rattle.sa_base.specs.declared.record.Note.{Note}
use Rattle.sa_base.specs.declared.record.Note.TheVariants as note
use Rattle.sa_base.specs.declared.record.Record.{Record}
use Rattle.sa_base.specs.declared.record.Record.TheVariants.{Stop, Block, Unblock, Up, Told, GiveBack}
use Rattle.sa_spaces.specs.Workload.{WorkloadView}
use Rattle.sa_laws.specs.Event.{Event}
use Rattle.sa_laws.specs.Readings.{Readings, opening_readings, untold_of, space_of_life, life_of}
use Rattle.sa_laws.specs.Life.{Life}
use Rattle.sa_laws.specs.Record.{after_record}
use Rattle.sa_laws.specs.History.{Test, event_begun, ended}
use Rattle.sa_laws.specs.Shape.{told_run}
use Rattle.sa_laws.specs.Upcalls.{TellsAllThen, IsUntoldTo, is_moved_to}
use Rattle.sa_promises.specs.Words.{Notes}
use Rattle.sa_promises.proofs.words.Untold.{untold-cases}
use Rattle.sa_promises.proofs.lives.Standing.{Standing, Nowhere, Runs, Blocked, Stopped, Returned, space_in, took, kind, standing_after, Stood, Agrees, space_of, space-handed, took-space}
use Rattle.sa_promises.specs.Needs.{is_telling}
use Rattle.sa_promises.proofs.lives.Shapes.{Moves}
use Rattle.sa_promises.proofs.lives.Moves.{agrees-start, agrees-begun, agrees-ended, nowhere_first, nothing-in}

-- the life of an untold block is one of its space, and runs no more
abbrev pub BlocksStand : (ℕ → Standing) → Readings → Type 0
BlocksStand st r = (s : SpaceNo) (b : ActNo) → Contains (untold_of r s) (note.Blocked b) → (space_in (st b.0) ≡ Some s) × (kind (st b.0) ≢ 1)

-- A life whose block is untold is not taken, except while its block is about to be told.
abbrev pub TakenAreTold : (ℕ → Standing) → Readings → List Record → Type 0
TakenAreTold st r xs = (s : SpaceNo) (b : ActNo) → Contains (untold_of r s) (note.Blocked b) → kind (st b.0) ≡ 5 → Contains (told_run xs) (note.Blocked b)

-- after an up or a told record all that is untold to the space of the up is about to be told
abbrev pub AllAreTold : Readings → List Record → Type 0
AllAreTold r xs = is_telling r.last ≡ true → (s : SpaceNo) (m : Note) → space_of_life r r.upped ≡ Some s → Contains (untold_of r s) m → Contains (told_run xs) m

pub record IsApart (st : ℕ → Standing) (r : Readings) (xs : List Record) : Type 0 where
  pub agrees : Agrees st r
  pub blocks : BlocksStand st r
  pub taken : TakenAreTold st r xs
  pub told : AllAreTold r xs

later-in : (n m : Note) (ns : List Note) → n ≢ m → Contains (n ∷ ns) m → Contains ns m
later-in n m ns apart (zero, below, is) = absurd (apart is)
later-in n m ns apart (suc k, below, is) = (k, omega arith, is)

took-kind : (x : Standing) → kind x ≢ 1 → kind (took x) ≢ 1
took-kind (Stopped s) is = λ e. cc
took-kind (Returned s) is = λ e. cc
took-kind _ is = is

-- a number that goes elsewhere
put-stands : (st : ℕ → Standing) (s : SpaceNo) (a b : ℕ) (v : Standing) → (b ≡ a → (space_in v ≡ Some s) × (kind v ≢ 1))
    → (space_in (st b) ≡ Some s) × (kind (st b) ≢ 1)
    → (space_in (put st a v b) ≡ Some s) × (kind (put st a v b) ≢ 1)
put-stands st s a b v new old = elim (cases_eq b a) [
  | inl at ↦ let is = put-at st a b v at in (ap space_in is ∙ (new at).0, λ e. (new at).1 (sym (ap kind is) ∙ e))
  | inr apart ↦ let is = put-other st a b v apart in (ap space_in is ∙ old.0, λ e. old.1 (sym (ap kind is) ∙ e))
]

blocked-act : (a b : ActNo) → note.Blocked b ≡ note.Blocked a → b.0 ≡ a.0
blocked-act a b e = cc

blocks-step : (w : WorkloadView) (e : ℕ) (p : ProcNo) (st : ℕ → Standing) (r : Readings) (x : Record) (xs : List Record) → IsApart st r (x ∷ xs) → Stood p st x
    → BlocksStand (standing_after p st x) (after_record w e p r x)
blocks-step w e p st r x xs apart was s b has = elim (untold-cases r x s (note.Blocked b) has) [
  | inl old ↦ stays x was (λ five. apart.taken s b old.0 five) (apart.blocks s b old.0)
  | inr new ↦ comes x new
] where
  stays : (y : Record) → Stood p st y → (kind (st b.0) ≡ 5 → Contains (told_run (y ∷ xs)) (note.Blocked b)) → (space_in (st b.0) ≡ Some s) × (kind (st b.0) ≢ 1)
      → (space_in (standing_after p st y b.0) ≡ Some s) × (kind (standing_after p st y b.0) ≢ 1)
  stays (Stop u t a) was' taken is = put-stands st s a.0 b.0 (Stopped u) (λ at. absurd (is.1 (ap (λ n. kind (st n)) at ∙ ap kind was'))) is
  stays (Block u t a io) was' taken is = put-stands st s a.0 b.0 (Blocked u) (λ at. absurd (is.1 (ap (λ n. kind (st n)) at ∙ ap kind was'))) is
  stays (Unblock u t a) was' taken is =
      put-stands st s a.0 b.0 (Returned u) (λ at. (sym (ap space_in was') ∙ ap (λ n. space_in (st n)) (sym at) ∙ is.0, λ e'. cc)) is
  stays (Up u a) was' taken is =
      put-stands st s a.0 b.0 (Runs u p) (λ at. absurd (none-some s (sym (ap space_in was') ∙ ap (λ n. space_in (st n)) (sym at) ∙ is.0))) is
  stays (Told (note.Preempted a)) was' taken is =
      put-stands st s a.0 b.0 (took (st a.0))
      (λ at. (took-space (st a.0) ∙ ap (λ n. space_in (st n)) (sym at) ∙ is.0, took-kind (st a.0) (λ e'. is.1 (ap (λ n. kind (st n)) at ∙ e')))) is
  stays (Told (note.Unblocked a)) was' taken is =
      put-stands st s a.0 b.0 (took (st a.0))
      (λ at. (took-space (st a.0) ∙ ap (λ n. space_in (st n)) (sym at) ∙ is.0, took-kind (st a.0) (λ e'. is.1 (ap (λ n. kind (st n)) at ∙ e')))) is
  stays (GiveBack a) was' taken is =
      put-stands st s a.0 b.0 Nowhere (λ at. absurd (contains-nil (note.Blocked b) (taken (ap (λ n. kind (st n)) at ∙ ap kind was'.1)))) is
  stays _ was' taken is = is

  comes : (y : Record) → Notes y s (note.Blocked b) → (space_in (standing_after p st y b.0) ≡ Some s) × (kind (standing_after p st y b.0) ≢ 1)
  comes (Block u t a io) notes =
      let is = put-at st a.0 b.0 (Blocked u) (blocked-act a b notes.1) in (ap space_in is ∙ ap Some notes.0, λ e'. let k = sym (ap kind is) ∙ e' in cc)
  comes (Stop u t a) notes = absurd (let clash = notes.1 in cc)
  comes (Unblock u t a) notes = absurd (let clash = notes.1 in cc)
  comes y notes = absurd notes

-- what is taken after a record was taken before, or is told by it
five-cases : (st : ℕ → Standing) (a b : ℕ) (v : Standing) → kind v ≢ 5 → kind (put st a v b) ≡ 5 → kind (st b) ≡ 5
five-cases st a b v other is = elim (cases_eq b a) [
  | inl at ↦ absurd (other (sym (ap kind (put-at st a b v at)) ∙ is))
  | inr apart ↦ sym (ap kind (put-other st a b v apart)) ∙ is
]

space-told : (st : ℕ → Standing) (r : Readings) (a : ActNo) (o : Option SpaceNo) → Agrees st r → space_of_life r r.upped ≡ o → IsUntoldTo r o (note.Preempted a)
    → (u : SpaceNo) × (space_of_life r r.upped ≡ Some u) × (space_in (st a.0) ≡ Some u)
space-told st r a None agrees is untold = absurd untold
space-told st r a (Some u) agrees is untold = (u, is, ap space_in (agrees.stopped u a untold))

space-back : (st : ℕ → Standing) (r : Readings) (a : ActNo) (o : Option SpaceNo) → Agrees st r → space_of_life r r.upped ≡ o → IsUntoldTo r o (note.Unblocked a)
    → (u : SpaceNo) × (space_of_life r r.upped ≡ Some u) × (space_in (st a.0) ≡ Some u)
space-back st r a None agrees is untold = absurd untold
space-back st r a (Some u) agrees is untold = (u, is, ap space_in (agrees.returned u a untold))

-- the life of what is told is one of the space of the up
pub told-space : (st : ℕ → Standing) (r : Readings) (n : Note) (a : ActNo) → Agrees st r → (n ≡ note.Preempted a) ⊎ (n ≡ note.Unblocked a)
    → IsUntoldTo r (space_of_life r r.upped) n
    → (u : SpaceNo) × (space_of_life r r.upped ≡ Some u) × (space_in (st a.0) ≡ Some u)
told-space st r n a agrees (inl is) untold = space-told st r a (space_of_life r r.upped) agrees refl (subst (IsUntoldTo r (space_of_life r r.upped)) is untold)
told-space st r n a agrees (inr is) untold = space-back st r a (space_of_life r r.upped) agrees refl (subst (IsUntoldTo r (space_of_life r r.upped)) is untold)

told-of : (n m : Note) → Told n ≢ Told m → n ≢ m
told-of n m apart same = apart (ap Told same)

taken-step : (w : WorkloadView) (e : ℕ) (p : ProcNo) (st : ℕ → Standing) (r : Readings) (x : Record) (xs : List Record) → IsApart st r (x ∷ xs) → Stood p st x
    → Moves w p r x xs
    → TakenAreTold (standing_after p st x) (after_record w e p r x) xs
taken-step w e p st r x xs apart was law s b has five = elim (untold-cases r x s (note.Blocked b) has) [
  | inl old ↦ stays x old.1 was law (λ k. apart.taken s b old.0 k)
      (λ telling space. apart.told telling s (note.Blocked b) space old.0) (apart.blocks s b old.0).0 five
  | inr new ↦ comes x new five
] where
  -- a life that is told now is one of the space of the up
  now : (n : Note) (a : ActNo) → Told n ≢ Told (note.Blocked b) → (n ≡ note.Preempted a) ⊎ (n ≡ note.Unblocked a) → Moves w p r (Told n) xs
      → (kind (st b.0) ≡ 5 → Contains (told_run (Told n ∷ xs)) (note.Blocked b))
      → (is_telling r.last ≡ true → space_of_life r r.upped ≡ Some s → Contains (told_run (Told n ∷ xs)) (note.Blocked b))
      → space_in (st b.0) ≡ Some s → kind (put st a.0 (took (st a.0)) b.0) ≡ 5 → Contains (told_run xs) (note.Blocked b)
  now n a other of moves taken told space is = elim (cases_eq b.0 a.0) [
    | inl at ↦
        let up = told-space st r n a apart.agrees of moves.0 in
        later-in n (note.Blocked b) (told_run xs) (told-of n (note.Blocked b) other)
        (told moves.1 (up.1 ∙ sym up.2 ∙ ap (λ k. space_in (st k)) (sym at) ∙ space))
    | inr away ↦
        later-in n (note.Blocked b) (told_run xs) (told-of n (note.Blocked b) other) (taken (sym (ap kind (put-other st a.0 b.0 (took (st a.0)) away)) ∙ is))
  ]

  stays : (y : Record) → y ≢ Told (note.Blocked b) → Stood p st y → Moves w p r y xs → (kind (st b.0) ≡ 5 → Contains (told_run (y ∷ xs)) (note.Blocked b))
      → (is_telling r.last ≡ true → space_of_life r r.upped ≡ Some s → Contains (told_run (y ∷ xs)) (note.Blocked b)) → space_in (st b.0) ≡ Some s
      → kind (standing_after p st y b.0) ≡ 5 → Contains (told_run xs) (note.Blocked b)
  stays (Told (note.Preempted a)) other was' moves taken told space is = now (note.Preempted a) a other (inl refl) moves taken told space is
  stays (Told (note.Unblocked a)) other was' moves taken told space is = now (note.Unblocked a) a other (inr refl) moves taken told space is
  stays (Told (note.Add q)) other was' moves taken told space is = later-in (note.Add q) (note.Blocked b) (told_run xs) (λ e'. cc) (taken is)
  stays (Told (note.Blocked a)) other was' moves taken told space is =
      later-in (note.Blocked a) (note.Blocked b) (told_run xs) (told-of (note.Blocked a) (note.Blocked b) other) (taken is)
  stays (Stop u t a) other was' moves taken told space is = absurd (contains-nil (note.Blocked b) (taken (five-cases st a.0 b.0 (Stopped u) (λ e'. cc) is)))
  stays (Block u t a io) other was' moves taken told space is = absurd (contains-nil (note.Blocked b) (taken (five-cases st a.0 b.0 (Blocked u) (λ e'. cc) is)))
  stays (Unblock u t a) other was' moves taken told space is = absurd (contains-nil (note.Blocked b) (taken (five-cases st a.0 b.0 (Returned u) (λ e'. cc) is)))
  stays (Up u a) other was' moves taken told space is = absurd (contains-nil (note.Blocked b) (taken (five-cases st a.0 b.0 (Runs u p) (λ e'. cc) is)))
  stays (GiveBack a) other was' moves taken told space is = absurd (contains-nil (note.Blocked b) (taken (five-cases st a.0 b.0 Nowhere (λ e'. cc) is)))
  stays y other was' moves taken told space is = absurd (contains-nil (note.Blocked b) (taken is))

  comes : (y : Record) → Notes y s (note.Blocked b) → kind (standing_after p st y b.0) ≡ 5 → Contains (told_run xs) (note.Blocked b)
  comes (Block u t a io) notes is = absurd (let k = sym (ap kind (put-at st a.0 b.0 (Blocked u) (blocked-act a b notes.1))) ∙ is in cc)
  comes (Stop u t a) notes is = absurd (let clash = notes.1 in cc)
  comes (Unblock u t a) notes is = absurd (let clash = notes.1 in cc)
  comes y notes is = absurd notes

-- the space of the last up stays after a told record
pub upped-space : (w : WorkloadView) (e : ℕ) (p : ProcNo) (r : Readings) (n : Note)
    → space_of_life (after_record w e p r (Told n)) r.upped ≡ space_of_life r r.upped
upped-space w e p r n = one r.upped n where
  one : (o : Option ActNo) (m : Note) → space_of_life (after_record w e p r (Told m)) o ≡ space_of_life r o
  one None m = refl
  one (Some a) (note.Preempted b) = space-handed r.upped b (life_of r b) r.lives a.0
  one (Some a) (note.Unblocked b) = space-handed r.upped b (life_of r b) r.lives a.0
  one (Some a) (note.Add q) = refl
  one (Some a) (note.Blocked b) = refl

new-space : (w : WorkloadView) (e : ℕ) (p : ProcNo) (r : Readings) (u : SpaceNo) (a : ActNo) → space_of_life (after_record w e p r (Up u a)) (Some a) ≡ Some u
new-space w e p r u a = ap space_of (put-at r.lives a.0 a.0 (Some (Rattle.sa_laws.specs.Life.new_life u p)) refl)

due-has : (moved : Bool) (p : ProcNo) (ns : List Note) (m : Note) → Contains ns m → Contains (if moved then note.Add p ∷ ns else ns) m
due-has true p ns m has = Contains-append_right (note.Add p ∷ []) ns m has
due-has false p ns m has = has

told-step : (w : WorkloadView) (e : ℕ) (p : ProcNo) (r : Readings) (x : Record) (xs : List Record) → AllAreTold r (x ∷ xs) → Moves w p r x xs
    → TellsAllThen p r x xs
    → AllAreTold (after_record w e p r x) xs
told-step w e p r (Up u a) xs told law tells telling s m space has =
    let same : u ≡ s = same_Some u s (sym (new-space w e p r u a) ∙ space) in
    subst (λ ns. Contains ns m) (sym tells.notes) (due-has (is_moved_to r.moved u) p (untold_of r u) m (subst (λ k. Contains (untold_of r k) m) (sym same) has))
told-step w e p r (Told n) xs told law tells telling s m space has = elim (untold-cases r (Told n) s m has) [
  | inl old ↦ later-in n m (told_run xs) (told-of n m old.1) (told law.1 s m (sym (upped-space w e p r n) ∙ space) old.0)
  | inr new ↦ absurd new
]
told-step w e p r x xs told law tells telling s m space has = absurd (cc)

pub apart-step : (w : WorkloadView) (e : ℕ) (p : ProcNo) (st : ℕ → Standing) (r : Readings) (x : Record) (xs : List Record) → IsApart st r (x ∷ xs)
    → Stood p st x → Moves w p r x xs
    → TellsAllThen p r x xs → IsApart (standing_after p st x) (after_record w e p r x) xs
apart-step w e p st r x xs apart was law tells = record {
  agrees = Rattle.sa_promises.proofs.lives.Standing.agrees-step w e p st r x apart.agrees was;
  blocks = blocks-step w e p st r x xs apart was;
  taken = taken-step w e p st r x xs apart was law;
  told = told-step w e p r x xs apart.told law tells;
}

-- it is so before any record, and stays so as an event begins and ends
pub apart-start : (w : WorkloadView) → IsApart nowhere_first (opening_readings w) []
apart-start w = record {
  agrees = agrees-start w;
  blocks = λ s b has. absurd (nothing-in (length w.spaces) s.0 (note.Blocked b) has);
  taken = λ s b has five. absurd (nothing-in (length w.spaces) s.0 (note.Blocked b) has);
  told = λ telling. absurd (cc);
}

pub apart-begun : (w : WorkloadView) (st : ℕ → Standing) (r : Readings) (e : Event) (xs : List Record) → IsApart st r [] → IsApart st (event_begun w e r) xs
apart-begun w st r e xs apart = record {
  agrees = agrees-begun w st e r apart.agrees;
  blocks = apart.blocks;
  taken = λ s b has five. absurd (contains-nil _ (apart.taken s b has five));
  told = λ telling. absurd (cc);
}

pub apart-ended : (test : Test) (w : WorkloadView) (st : ℕ → Standing) (before : Readings) (e : Event) (r : Readings) → IsApart st r []
    → IsApart st (ended test w before e r) []
apart-ended test w st before e r apart = record {
  agrees = agrees-ended test w st before e r apart.agrees;
  blocks = apart.blocks;
  taken = apart.taken;
  told = λ telling. absurd (cc);
}

-- a note that is untold to two spaces
abbrev pub is_real : Note → Bool
is_real (note.Add p) = false
is_real n = true

pub one-space : (st : ℕ → Standing) (r : Readings) (xs : List Record) (n : Note) (s t : SpaceNo) → IsApart st r xs → is_real n ≡ true
    → Contains (untold_of r s) n → Contains (untold_of r t) n → s ≡ t
one-space st r xs (note.Add p) s t apart real one other = absurd (cc)
one-space st r xs (note.Preempted a) s t apart real one other =
    same_Some s t (ap space_in (sym (apart.agrees.stopped s a one) ∙ apart.agrees.stopped t a other))
one-space st r xs (note.Unblocked a) s t apart real one other =
    same_Some s t (ap space_in (sym (apart.agrees.returned s a one) ∙ apart.agrees.returned t a other))
one-space st r xs (note.Blocked a) s t apart real one other = same_Some s t (sym (apart.blocks s a one).0 ∙ (apart.blocks t a other).0)
