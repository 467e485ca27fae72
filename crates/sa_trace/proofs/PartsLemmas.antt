-- A record and its kind and fields undo each other.
use Rattle.std.proofs.Common.{◌≡◌, ℕ, Option, Some, None, MatchOption, List, [], ◌∷◌, length, IsSome, IfSome, refl, sym, ap, subst, ◌∙◌, arith}
use Rattle.std.proofs.lemmas.Bool.{false≢true}
use Rattle.std.proofs.lemmas.Option.{same_Some}
use Rattle.std.specs.Prelude.{◌==◌, ◌↔◌, if◌then◌else◌}
use Rattle.sa_trace.specs.declared.kind.Kind.{Kind}
use Rattle.sa_trace.specs.declared.kind.Kind.TheVariants as Kinds
use Rattle.sa_trace.specs.declared.field.Field.{Field}
use Rattle.sa_base.specs.declared.record.Note.TheVariants.{Add, Preempted, Blocked, Unblocked}
use Rattle.sa_base.specs.declared.record.Record.{Record}
use Rattle.sa_base.specs.declared.record.Record.TheVariants.{Ins, Out, Run, Stop, Block, Unblock, Cont, Back, Ready, Take, Free, Up, Told, Move, Want, Aim, Line, Fetch, Fetched, GiveBack, Idle, Spin, Tick}
use Rattle.sa_trace.specs.Field.{AllFit}
use Rattle.sa_trace.specs.Kind.{form_of}
use Rattle.sa_trace.specs.Parts.{FitTheKind, parts, parts_of, field_at, from_two, from_three, from_four, record_from, record_of}
use Rattle.std.specs.Option.{option_map}
use Rattle.sa_lemmas.proofs.Options.{right_number, wrong_number}
use Rattle.sa_trace.proofs.Coding.{Coded, IsReading, space, thread, processor, activation, io, optional_space, optional_thread, place, value, demand}

-- a record is made exactly where the fields fit, and then it has this kind and these fields
abbrev pub IsMaking : List Field → Kind → List (Option ℕ) → Option Record → Type 0
IsMaking fields kind f made = MatchOption made (AllFit fields f → ⊥) (λ r. AllFit fields f × (parts_of r ≡ parts kind f))

none-making : (fields : List Field) (kind : Kind) (f : List (Option ℕ)) (o : Option Record) → o ≡ None → (AllFit fields f → ⊥) → IsMaking fields kind f o
none-making fields kind f None e unfit = unfit
none-making fields kind f (Some r) e unfit = absurd cc

module _ {A : Type 0} (p : Coded A) (kind : Kind) (make : A → Record) (shown : (a : A) → parts_of (make a) ≡ parts kind (p.held a ∷ [])) where
  by_one : (x : Option ℕ) (a : Option A) → IsReading p.field p.held x a → IsMaking (p.field ∷ []) kind (x ∷ []) (option_map make a)
  by_one x None ra = λ h. ra h.0
  by_one x (Some a) ra = ((ra.0, tt), shown a ∙ ap (λ v. parts kind (v ∷ [])) ra.1)

  pub one-making : (f : List (Option ℕ)) → IsMaking (p.field ∷ []) kind f (if length f == 1 then option_map make (p.read (field_at f 0)) else None)
  one-making [] = λ h. h
  one-making (x ∷ []) = by_one x (p.read x) (p.back x)
  one-making (x ∷ y ∷ f) = none-making (p.field ∷ []) kind (x ∷ y ∷ f) _ (wrong_number (length (x ∷ y ∷ f)) 1 _ (λ e. absurd (omega arith))) (λ h. h.1)

module _ {A B : Type 0} (p : Coded A) (q : Coded B) (kind : Kind) (make : A → B → Record)
    (shown : (a : A) (b : B) → parts_of (make a b) ≡ parts kind (p.held a ∷ q.held b ∷ [])) where
  by_two : (x y : Option ℕ) (a : Option A) (b : Option B) → IsReading p.field p.held x a → IsReading q.field q.held y b
      → IsMaking (p.field ∷ q.field ∷ []) kind (x ∷ y ∷ []) (from_two make a b)
  by_two x y None b ra rb = λ h. ra h.0
  by_two x y (Some a) None ra rb = λ h. rb h.1.0
  by_two x y (Some a) (Some b) ra rb =
      ((ra.0, (rb.0, tt)), shown a b ∙ ap (λ v. parts kind (v ∷ q.held b ∷ [])) ra.1 ∙ ap (λ v. parts kind (x ∷ v ∷ [])) rb.1)

  pub two-making : (f : List (Option ℕ))
      → IsMaking (p.field ∷ q.field ∷ []) kind f (if length f == 2 then from_two make (p.read (field_at f 0)) (q.read (field_at f 1)) else None)
  two-making [] = λ h. h
  two-making (x ∷ []) = λ h. h.1
  two-making (x ∷ y ∷ []) = by_two x y (p.read x) (q.read y) (p.back x) (q.back y)
  two-making (x ∷ y ∷ z ∷ f) =
      none-making (p.field ∷ q.field ∷ []) kind (x ∷ y ∷ z ∷ f) _ (wrong_number (length (x ∷ y ∷ z ∷ f)) 2 _ (λ e. absurd (omega arith))) (λ h. h.1.1)

module _ {A B C : Type 0} (p : Coded A) (q : Coded B) (s : Coded C) (kind : Kind) (make : A → B → C → Record)
    (shown : (a : A) (b : B) (c : C) → parts_of (make a b c) ≡ parts kind (p.held a ∷ q.held b ∷ s.held c ∷ [])) where
  by_three : (x y z : Option ℕ) (a : Option A) (b : Option B) (c : Option C)
      → IsReading p.field p.held x a → IsReading q.field q.held y b → IsReading s.field s.held z c
      → IsMaking (p.field ∷ q.field ∷ s.field ∷ []) kind (x ∷ y ∷ z ∷ []) (from_three make a b c)
  by_three x y z None b c ra rb rc = λ h. ra h.0
  by_three x y z (Some a) None c ra rb rc = λ h. rb h.1.0
  by_three x y z (Some a) (Some b) None ra rb rc = λ h. rc h.1.1.0
  by_three x y z (Some a) (Some b) (Some c) ra rb rc = (
    (ra.0, (rb.0, (rc.0, tt))),
    shown a b c
        ∙ ap (λ v. parts kind (v ∷ q.held b ∷ s.held c ∷ [])) ra.1
        ∙ ap (λ v. parts kind (x ∷ v ∷ s.held c ∷ [])) rb.1
        ∙ ap (λ v. parts kind (x ∷ y ∷ v ∷ [])) rc.1,
  )

  pub three-making : (f : List (Option ℕ)) → IsMaking (p.field ∷ q.field ∷ s.field ∷ []) kind f
      (if length f == 3 then from_three make (p.read (field_at f 0)) (q.read (field_at f 1)) (s.read (field_at f 2)) else None)
  three-making [] = λ h. h
  three-making (x ∷ []) = λ h. h.1
  three-making (x ∷ y ∷ []) = λ h. h.1.1
  three-making (x ∷ y ∷ z ∷ []) = by_three x y z (p.read x) (q.read y) (s.read z) (p.back x) (q.back y) (s.back z)
  three-making (x ∷ y ∷ z ∷ w ∷ f) = none-making (p.field ∷ q.field ∷ s.field ∷ []) kind (x ∷ y ∷ z ∷ w ∷ f) _
      (wrong_number (length (x ∷ y ∷ z ∷ w ∷ f)) 3 _ (λ e. absurd (omega arith))) (λ h. h.1.1.1)

module _ {A B C D : Type 0} (p : Coded A) (q : Coded B) (s : Coded C) (t : Coded D) (kind : Kind) (make : A → B → C → D → Record)
    (shown : (a : A) (b : B) (c : C) (d : D) → parts_of (make a b c d) ≡ parts kind (p.held a ∷ q.held b ∷ s.held c ∷ t.held d ∷ [])) where
  by_four : (x y z w : Option ℕ) (a : Option A) (b : Option B) (c : Option C) (d : Option D)
      → IsReading p.field p.held x a → IsReading q.field q.held y b → IsReading s.field s.held z c → IsReading t.field t.held w d
      → IsMaking (p.field ∷ q.field ∷ s.field ∷ t.field ∷ []) kind (x ∷ y ∷ z ∷ w ∷ []) (from_four make a b c d)
  by_four x y z w None b c d ra rb rc rd = λ h. ra h.0
  by_four x y z w (Some a) None c d ra rb rc rd = λ h. rb h.1.0
  by_four x y z w (Some a) (Some b) None d ra rb rc rd = λ h. rc h.1.1.0
  by_four x y z w (Some a) (Some b) (Some c) None ra rb rc rd = λ h. rd h.1.1.1.0
  by_four x y z w (Some a) (Some b) (Some c) (Some d) ra rb rc rd = (
    (ra.0, (rb.0, (rc.0, (rd.0, tt)))),
    shown a b c d
        ∙ ap (λ v. parts kind (v ∷ q.held b ∷ s.held c ∷ t.held d ∷ [])) ra.1
        ∙ ap (λ v. parts kind (x ∷ v ∷ s.held c ∷ t.held d ∷ [])) rb.1
        ∙ ap (λ v. parts kind (x ∷ y ∷ v ∷ t.held d ∷ [])) rc.1
        ∙ ap (λ v. parts kind (x ∷ y ∷ z ∷ v ∷ [])) rd.1,
  )

  pub four-making : (f : List (Option ℕ)) → IsMaking (p.field ∷ q.field ∷ s.field ∷ t.field ∷ []) kind f
      (if length f == 4 then from_four make (p.read (field_at f 0)) (q.read (field_at f 1)) (s.read (field_at f 2)) (t.read (field_at f 3)) else None)
  four-making [] = λ h. h
  four-making (x ∷ []) = λ h. h.1
  four-making (x ∷ y ∷ []) = λ h. h.1.1
  four-making (x ∷ y ∷ z ∷ []) = λ h. h.1.1.1
  four-making (x ∷ y ∷ z ∷ w ∷ []) = by_four x y z w (p.read x) (q.read y) (s.read z) (t.read w) (p.back x) (q.back y) (s.back z) (t.back w)
  four-making (x ∷ y ∷ z ∷ w ∷ v ∷ f) = none-making (p.field ∷ q.field ∷ s.field ∷ t.field ∷ []) kind (x ∷ y ∷ z ∷ w ∷ v ∷ f) _
      (wrong_number (length (x ∷ y ∷ z ∷ w ∷ v ∷ f)) 4 _ (λ e. absurd (omega arith))) (λ h. h.1.1.1.1)

bare-making : (kind : Kind) (r : Record) → parts_of r ≡ parts kind [] → (f : List (Option ℕ)) → IsMaking [] kind f (if length f == 0 then Some r else None)
bare-making kind r shown [] = (tt, shown)
bare-making kind r shown (x ∷ f) = none-making [] kind (x ∷ f) _ (wrong_number (length (x ∷ f)) 0 _ (λ e. absurd (omega arith))) (λ h. h)

-- each kind with its fields
pub making : (kind : Kind) (f : List (Option ℕ)) → IsMaking (form_of kind).fields kind f (record_of kind f)
making Kinds.Ins f = three-making space thread place Kinds.Ins Ins (λ s t i. refl) f
making Kinds.Out f = three-making space thread value Kinds.Out Out (λ s t v. refl) f
making Kinds.Run f = two-making space thread Kinds.Run Run (λ s t. refl) f
making Kinds.Stop f = three-making space optional_thread activation Kinds.Stop Stop (λ s t a. refl) f
making Kinds.Block f = four-making space optional_thread activation io Kinds.Block Block (λ s t a i. refl) f
making Kinds.Unblock f = three-making space optional_thread activation Kinds.Unblock Unblock (λ s t a. refl) f
making Kinds.Cont f = two-making space optional_thread Kinds.Cont Cont (λ s t. refl) f
making Kinds.Back f = two-making space optional_thread Kinds.Back Back (λ s t. refl) f
making Kinds.Ready f = two-making space thread Kinds.Ready Ready (λ s t. refl) f
making Kinds.Take f = three-making space processor optional_thread Kinds.Take Take (λ s l t. refl) f
making Kinds.Free f = three-making space processor optional_thread Kinds.Free Free (λ s l t. refl) f
making Kinds.Up f = two-making space activation Kinds.Up Up (λ s a. refl) f
making Kinds.ToldAdd f = one-making processor Kinds.ToldAdd (λ p. Told (Add p)) (λ p. refl) f
making Kinds.ToldPreempted f = one-making activation Kinds.ToldPreempted (λ a. Told (Preempted a)) (λ a. refl) f
making Kinds.ToldBlocked f = one-making activation Kinds.ToldBlocked (λ a. Told (Blocked a)) (λ a. refl) f
making Kinds.ToldUnblocked f = one-making activation Kinds.ToldUnblocked (λ a. Told (Unblocked a)) (λ a. refl) f
making Kinds.Move f = two-making optional_space optional_space Kinds.Move Move (λ o n. refl) f
making Kinds.Want f = two-making space demand Kinds.Want Want (λ s n. refl) f
making Kinds.Aim f = two-making processor optional_space Kinds.Aim Aim (λ p s. refl) f
making Kinds.Line f = one-making processor Kinds.Line Line (λ p. refl) f
making Kinds.Fetch f = one-making space Kinds.Fetch Fetch (λ s. refl) f
making Kinds.Fetched f = one-making space Kinds.Fetched Fetched (λ s. refl) f
making Kinds.GiveBack f = one-making activation Kinds.GiveBack GiveBack (λ a. refl) f
making Kinds.Idle f = bare-making Kinds.Idle Idle refl f
making Kinds.Spin f = one-making processor Kinds.Spin Spin (λ l. refl) f
making Kinds.Tick f = bare-making Kinds.Tick Tick refl f

two-some : {A B : Type 0} (make : A → B → Record) {x : Option A} {y : Option B} {a : A} {b : B} → x ≡ Some a → y ≡ Some b → from_two make x y ≡ Some (make a b)
two-some make {x} {y} {a} {b} ex ey = rw (ex, ey)

three-some : {A B C : Type 0} (make : A → B → C → Record) {x : Option A} {y : Option B} {z : Option C} {a : A} {b : B} {c : C}
    → x ≡ Some a → y ≡ Some b → z ≡ Some c → from_three make x y z ≡ Some (make a b c)
three-some make {x} {y} {z} {a} {b} {c} ex ey ez = rw (ex, ey, ez)

four-some : {A B C D : Type 0} (make : A → B → C → D → Record) {x : Option A} {y : Option B} {z : Option C} {w : Option D} {a : A} {b : B} {c : C} {d : D}
    → x ≡ Some a → y ≡ Some b → z ≡ Some c → w ≡ Some d → from_four make x y z w ≡ Some (make a b c d)
four-some make {x} {y} {z} {w} {a} {b} {c} {d} ex ey ez ew = rw (ex, ey, ez, ew)

-- a record is what its kind and its fields make
pub remade : (r : Record) → FitTheKind (parts_of r) → record_of (parts_of r).kind (parts_of r).fields ≡ Some r
remade (Ins s t i) h = three-some Ins (space.forth s h.0) (thread.forth t h.1.0) (place.forth i h.1.1.0)
remade (Out s t v) h = three-some Out (space.forth s h.0) (thread.forth t h.1.0) (value.forth v h.1.1.0)
remade (Run s t) h = two-some Run (space.forth s h.0) (thread.forth t h.1.0)
remade (Stop s t a) h = three-some Stop (space.forth s h.0) (optional_thread.forth t h.1.0) (activation.forth a h.1.1.0)
remade (Block s t a i) h = four-some Block (space.forth s h.0) (optional_thread.forth t h.1.0) (activation.forth a h.1.1.0) (io.forth i h.1.1.1.0)
remade (Unblock s t a) h = three-some Unblock (space.forth s h.0) (optional_thread.forth t h.1.0) (activation.forth a h.1.1.0)
remade (Cont s t) h = two-some Cont (space.forth s h.0) (optional_thread.forth t h.1.0)
remade (Back s t) h = two-some Back (space.forth s h.0) (optional_thread.forth t h.1.0)
remade (Ready s t) h = two-some Ready (space.forth s h.0) (thread.forth t h.1.0)
remade (Take s l t) h = three-some Take (space.forth s h.0) (processor.forth l h.1.0) (optional_thread.forth t h.1.1.0)
remade (Free s l t) h = three-some Free (space.forth s h.0) (processor.forth l h.1.0) (optional_thread.forth t h.1.1.0)
remade (Up s a) h = two-some Up (space.forth s h.0) (activation.forth a h.1.0)
remade (Told (Add p)) h = ap (λ o. option_map (λ q. Told (Add q)) o) (processor.forth p h.0)
remade (Told (Preempted a)) h = ap (λ o. option_map (λ b. Told (Preempted b)) o) (activation.forth a h.0)
remade (Told (Blocked a)) h = ap (λ o. option_map (λ b. Told (Blocked b)) o) (activation.forth a h.0)
remade (Told (Unblocked a)) h = ap (λ o. option_map (λ b. Told (Unblocked b)) o) (activation.forth a h.0)
remade (Move o n) h = two-some Move (optional_space.forth o h.0) (optional_space.forth n h.1.0)
remade (Want s n) h = two-some Want (space.forth s h.0) (demand.forth n h.1.0)
remade (Aim p s) h = two-some Aim (processor.forth p h.0) (optional_space.forth s h.1.0)
remade (Line p) h = ap (λ o. option_map Line o) (processor.forth p h.0)
remade (Fetch s) h = ap (λ o. option_map Fetch o) (space.forth s h.0)
remade (Fetched s) h = ap (λ o. option_map Fetched o) (space.forth s h.0)
remade (GiveBack a) h = ap (λ o. option_map GiveBack o) (activation.forth a h.0)
remade (Spin l) h = ap (λ o. option_map Spin o) (processor.forth l h.0)
remade _ h = refl

-- what is made has the kind and the fields that made it
made-parts : (kind : Kind) (f : List (Option ℕ)) (o : Option Record) (r : Record) → IsMaking (form_of kind).fields kind f o → o ≡ Some r
    → parts_of r ≡ parts kind f
made-parts kind f None r is e = absurd cc
made-parts kind f (Some q) r is e = ap parts_of (same_Some r q (sym e)) ∙ is.1

made-some : (fields : List Field) (kind : Kind) (f : List (Option ℕ)) (o : Option Record) → IsMaking fields kind f o → IsSome o ↔ AllFit fields f
made-some fields kind f None is = (λ h. absurd (false≢true h), λ h. absurd (is h))
made-some fields kind f (Some q) is = (λ h. is.0, λ h. refl)

pub parts-back : (kind : Kind) (f : List (Option ℕ)) (r : Record) → record_of kind f ≡ Some r → parts_of r ≡ parts kind f
parts-back kind f r e = made-parts kind f (record_of kind f) r (making kind f) e

pub fit-some : (kind : Kind) (f : List (Option ℕ)) → IsSome (record_of kind f) ↔ FitTheKind (parts kind f)
fit-some kind f = made-some (form_of kind).fields kind f (record_of kind f) (making kind f)

if-made : (kind : Kind) (f : List (Option ℕ)) (o : Option Record) → IsMaking (form_of kind).fields kind f o → IfSome o (λ r. parts_of r ≡ parts kind f)
if-made kind f None is = tt
if-made kind f (Some r) is = is.1

-- what is made of the right number of fields, as a caller learns of it
pub made-if : (kind : Kind) (f : List (Option ℕ)) (o : Option Record) → length f ≡ length (form_of kind).fields → o ≡ record_from kind f
    → (IsSome o ↔ FitTheKind (parts kind f)) × IfSome o (λ r. parts_of r ≡ parts kind f)
made-if kind f o count e =
    let same : record_of kind f ≡ o = sym (right_number (length f) (length (form_of kind).fields) (record_from kind f) count) ∙ sym e in
    subst (λ q. (IsSome q ↔ FitTheKind (parts kind f)) × IfSome q (λ r. parts_of r ≡ parts kind f)) same
    (fit-some kind f, if-made kind f (record_of kind f) (making kind f))

-- nothing is made of another number of fields
pub unmade : (kind : Kind) (f : List (Option ℕ)) (o : Option Record) → o ≡ None → (length f ≡ length (form_of kind).fields → ⊥)
    → (o ≡ record_of kind f) × (IsSome o ↔ FitTheKind (parts kind f))
unmade kind f o none apart =
    let same : record_of kind f ≡ o = wrong_number (length f) (length (form_of kind).fields) (record_from kind f) apart ∙ sym none in
    (sym same, subst (λ q. IsSome q ↔ FitTheKind (parts kind f)) same (fit-some kind f))
