-- The own part of an event: what comes before its closing.
use Rattle.std.proofs.Common.{false, ◌≡◌, ◌≢◌, ℕ, refl, sym, ◌∙◌, ap, subst, Some, None, List, [], ◌∷◌, ◌++◌, append_assoc, true}
use Rattle.std.specs.Prelude.{not, ◌&&◌, is_some}
use Rattle.std.specs.List.{list_all}
use Rattle.std.proofs.lemmas.List.{append-nil}
use Rattle.sa_base.specs.declared.number.ProcNo.{ProcNo}
use Rattle.sa_base.specs.declared.record.Record.{Record}
use Rattle.sa_base.specs.declared.record.Record.TheVariants.{Ins, Out, Run, Cont, Back, Ready, Take, Free, Idle, Spin, Tick, Aim, Line, Up, Stop, Move}
use Rattle.sa_base.specs.Items.{items_at}
use Rattle.sa_base.proofs.Items.{items_at-append}
use Rattle.sa_spaces.specs.Workload.{WorkloadView}
use Rattle.sa_kernel_model.specs.State.{KernelState, Scene, line_of}
use Rattle.sa_laws.specs.Readings.{Readings, owner_of as owner_in, aim_of as aim_in}
use Rattle.sa_laws.specs.Record.{after_record}
use Rattle.sa_laws.specs.History.{after_records}
use Rattle.sa_laws.specs.Shape.{others_of, is_own, is_no_aim, is_line}
use Rattle.sa_laws.specs.Upcalls.{BeginsAsInterrupt, StopsAndGoes, FirstLineIsAsked}
use Rattle.sa_laws.proofs.Records.{records-append}
use Rattle.sa_laws.proofs.Closings.{AreClosing}
use Rattle.sa_kernel_laws.specs.Overview.{overview, read_off}
use Rattle.sa_kernel_model.specs.declared.entry.Entry.{Entry}
use Rattle.std.specs.Prelude.{Option}
use Rattle.std.proofs.lemmas.Bool.{and_parts}
use Rattle.sa_kernel_laws.specs.Turn.{asks_line, ShapeOf, is_users, AreUsers}
use Rattle.sa_kernel_laws.specs.Kept.{IsTidy, IdleAlike}
use Rattle.sa_kernel_laws.specs.Laws.{AnyLines}
use Rattle.sa_kernel_laws.proofs.turns.Shapes.{own-lines}
use Rattle.sa_kernel_laws.proofs.entries.Upcalls.{AreLawful}
use Rattle.sa_kernel_laws.proofs.entries.Walks.{Walk, AreOwn, own-both}

-- the records of a user level
users-own : (x : Record) → is_users x ≡ true → is_own x ≡ true
users-own (Ins s t i) is = refl
users-own (Out s t v) is = refl
users-own (Run s t) is = refl
users-own (Cont s t) is = refl
users-own (Back s t) is = refl
users-own (Ready s t) is = refl
users-own (Take s l t) is = refl
users-own (Free s l t) is = refl
users-own Idle is = refl
users-own (Spin l) is = refl
users-own Tick is = refl
users-own x is = absurd (cc)

pub users-are_own : (xs : List Record) → AreUsers xs → AreOwn xs
users-are_own [] is = refl
users-are_own (x ∷ xs) is =
    ap (λ b. b && list_all is_own xs) (users-own x (and_parts (is_users x) (list_all is_users xs) is).0)
    ∙ users-are_own xs (and_parts (is_users x) (list_all is_users xs) is).1

users-moved : (w : WorkloadView) (e : ℕ) (p : ProcNo) (r : Readings) (x : Record) → is_users x ≡ true → (after_record w e p r x).moved ≡ r.moved
users-moved w e p r (Move o n) is = absurd (cc)
users-moved w e p r x is = refl

pub users-are_moved : (w : WorkloadView) (e : ℕ) (p : ProcNo) (r : Readings) (xs : List Record) → AreUsers xs → (after_records w e p r xs).moved ≡ r.moved
users-are_moved w e p r [] is = refl
users-are_moved w e p r (x ∷ xs) is =
    users-are_moved w e p (after_record w e p r x) xs (and_parts (is_users x) (list_all is_users xs) is).1
    ∙ users-moved w e p r x (and_parts (is_users x) (list_all is_users xs) is).0

user-lawful : (w : WorkloadView) (e : ℕ) (p : ProcNo) (r : Readings) (x : Record) (rest : List Record) → is_users x ≡ true
    → AreLawful w e p (after_record w e p r x) rest → AreLawful w e p r (x ∷ rest)
user-lawful w e p r (Ins s t i) rest is law = (record { once = tt; named = tt; all = tt; gives = tt; raises = tt }, law)
user-lawful w e p r (Out s t v) rest is law = (record { once = tt; named = tt; all = tt; gives = tt; raises = tt }, law)
user-lawful w e p r (Run s t) rest is law = (record { once = tt; named = tt; all = tt; gives = tt; raises = tt }, law)
user-lawful w e p r (Cont s t) rest is law = (record { once = tt; named = tt; all = tt; gives = tt; raises = tt }, law)
user-lawful w e p r (Back s t) rest is law = (record { once = tt; named = tt; all = tt; gives = tt; raises = tt }, law)
user-lawful w e p r (Ready s t) rest is law = (record { once = tt; named = tt; all = tt; gives = tt; raises = tt }, law)
user-lawful w e p r (Take s l t) rest is law = (record { once = tt; named = tt; all = tt; gives = tt; raises = tt }, law)
user-lawful w e p r (Free s l t) rest is law = (record { once = tt; named = tt; all = tt; gives = tt; raises = tt }, law)
user-lawful w e p r Idle rest is law = (record { once = tt; named = tt; all = tt; gives = tt; raises = tt }, law)
user-lawful w e p r (Spin l) rest is law = (record { once = tt; named = tt; all = tt; gives = tt; raises = tt }, law)
user-lawful w e p r Tick rest is law = (record { once = tt; named = tt; all = tt; gives = tt; raises = tt }, law)
user-lawful w e p r x rest is law = absurd (cc)

pub users-lawful : (w : WorkloadView) (e : ℕ) (p : ProcNo) (r : Readings) (xs rest : List Record) → AreUsers xs
    → AreLawful w e p (after_records w e p r xs) rest → AreLawful w e p r (xs ++ rest)
users-lawful w e p r [] rest is law = law
users-lawful w e p r (x ∷ xs) rest is law =
    user-lawful w e p r x (xs ++ rest) (and_parts (is_users x) (list_all is_users xs) is).0
    (users-lawful w e p (after_record w e p r x) xs rest (and_parts (is_users x) (list_all is_users xs) is).1 law)

pub users-calm : (xs ys : List Record) → AreUsers xs → (BeginsAsInterrupt ys → ⊥) → BeginsAsInterrupt (xs ++ ys) → ⊥
users-calm [] ys is calm begins = calm begins
users-calm (Stop s t a ∷ xs) ys is calm begins = cc
users-calm (Move o n ∷ xs) ys is calm begins = cc
users-calm (Up s a ∷ xs) ys is calm begins = cc
users-calm (x ∷ xs) ys is calm begins = begins

-- the first record of an own part is no line
pub own-asked : (w : WorkloadView) (c : Readings) (p : ProcNo) (xs rest : List Record) → xs ≢ [] → AreOwn xs → FirstLineIsAsked AnyLines w c p (xs ++ rest)
own-asked w c p [] rest some own = absurd (some refl)
own-asked w c p (Line q ∷ xs) rest some own = absurd (cc)
own-asked w c p (x ∷ xs) rest some own = tt

pub own-others : (xs : List Record) → AreOwn xs → AreOwn (others_of xs)
own-others [] own = refl
own-others (x ∷ xs) own = (and_parts (is_own x) (list_all is_own xs) own).1

own-one : (x : Record) → is_own x ≡ true → is_no_aim x ≡ true
own-one (Aim q (Some s)) own = absurd (cc)
own-one _ own = refl

pub own-no_aim : (xs : List Record) → AreOwn xs → list_all is_no_aim xs ≡ true
own-no_aim [] own = refl
own-no_aim (x ∷ xs) own =
    ap (λ b. b && list_all is_no_aim xs) (own-one x (and_parts (is_own x) (list_all is_own xs) own).0)
    ∙ own-no_aim xs (and_parts (is_own x) (list_all is_own xs) own).1

pub append-some : (xs ys : List Record) → ys ≢ [] → xs ++ ys ≢ []
append-some [] ys some is = some is
append-some (x ∷ xs) ys some is = cc

module _ {C : Type 0} where
  -- the own part of an event, with what its user level says; after it comes the closing
  pub record Turned (w : WorkloadView) (e : ℕ) (p : ProcNo) (r : Readings) (k : KernelState C) (says : List Record) (en : Option (Entry C))
      (y : Scene C) : Type 0 where
    pub records : List Record
    pub adds : y.items ≡ items_at e p records
    pub reads : overview (after_records w e p r records) ≡ read_off y.state
    pub lawful : (rest : List Record) → AreClosing rest → AreLawful w e p (after_records w e p r records) rest → AreLawful w e p r (records ++ rest)
    pub fixed : y.state.fixed ≡ k.fixed
    pub idle : IdleAlike y.state (after_records w e p r records)
    pub tidy : IsTidy y.state
    pub some : records ≢ []
    pub own : AreOwn (others_of records)
    pub shape : ShapeOf k p says en records
    pub no_aim : list_all is_no_aim records ≡ true
    pub no_line : asks_line en ≡ false → list_all (λ x. not (is_line x)) records ≡ true
    pub calm : BeginsAsInterrupt records → is_some (line_of k p) ≡ true
    pub turns : is_some (line_of k p) ≡ true → (rest : List Record) → AreClosing rest → StopsAndGoes p r (owner_in r p) (aim_in r p) (records ++ rest)
    pub asked : (c : Readings) (rest : List Record) → c.state.owners ≡ k.assign.owners → FirstLineIsAsked AnyLines w c p (records ++ rest)

  -- where the processor's line is low
  pub low-turned : (w : WorkloadView) (e : ℕ) (p : ProcNo) (r : Readings) (k : KernelState C) (says : List Record) (en : Option (Entry C)) (x y : Scene C)
      (Q : List Record → Type 0) → line_of k p ≡ None → AreUsers says → x.items ≡ items_at e p says → x.state.fixed ≡ k.fixed
      → IdleAlike x.state (after_records w e p r says) → IsTidy x.state → Walk w e p (after_records w e p r says) x y (λ all. BeginsAsInterrupt all → ⊥) Q
      → ((own : List Record) → Q own → ShapeOf k p says en (says ++ own)) → Turned w e p r k says en y
  low-turned w e p r k says en x y Q low users items fixed idle tidy walk shape =
      let own = own-both says walk.records (users-are_own says users) walk.own in
      let some = append-some says walk.records walk.some in
      record {
        records = says ++ walk.records;
        adds =
            walk.adds ∙ ap (λ v. v ++ items_at e p walk.records) items
            ∙ sym (items_at-append e p says walk.records);
        reads = ap overview (records-append w e p r says walk.records) ∙ walk.reads;
        lawful = λ rest closes law.
            subst (λ xs. AreLawful w e p r xs) (sym (append_assoc says walk.records rest))
            (users-lawful w e p r says (walk.records ++ rest) users
            (walk.lawful rest closes (subst (λ (c : Readings). AreLawful w e p c rest) (records-append w e p r says walk.records) law)));
        fixed = walk.fixed ∙ fixed;
        idle = subst (λ (c : Readings). IdleAlike y.state c) (sym (records-append w e p r says walk.records)) (walk.idle idle);
        tidy = walk.tidy tidy;
        some = some;
        own = own-others (says ++ walk.records) own;
        shape = shape walk.records walk.shape;
        no_aim = own-no_aim (says ++ walk.records) own;
        no_line = λ none. own-lines (says ++ walk.records) own;
        calm =
            λ begins. absurd (users-calm says walk.records users (λ b. walk.is [] refl
            (subst (λ xs. BeginsAsInterrupt xs) (sym (append-nil walk.records)) b)) begins);
        turns = λ up. absurd (let no = sym up ∙ ap is_some low in cc);
        asked = λ c rest same. own-asked w c p (says ++ walk.records) rest some own;
      }
