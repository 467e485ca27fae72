-- Notices and I/Os stay the same without their numbers where what is held changes of an activation that none of them names.
use Rattle.std.proofs.Common.{◌≡◌, ◌≢◌, ℕ, ◌-◌, ◌≤◌, Bool, ◌&&◌, cond, eqb, ltb, Option, List, [], ◌∷◌, map, sum_by, refl, sym, ap, ◌∙◌, inl, inr, arith}
use Rattle.std.proofs.lemmas.Bool.{cond-true, cond-false, eq-eqb, le-ltb, lt-ltb}
use Rattle.std.proofs.lemmas.List.Sums.{sum_by-cons}
use Rattle.sa_base.specs.declared.record.Note.{Note}
use Rattle.sa_base.specs.declared.record.Note.TheVariants.{Preempted, Unblocked}
use Rattle.sa_base.specs.declared.context.Stopped.{Stopped}
use Rattle.sa_devices.specs.declared.kind.IoKind.{IoKind}
use Rattle.sa_devices.specs.declared.kind.IoKind.TheVariants.{Plain, Page, Upcall}
use Rattle.sa_devices.specs.Ios.{Io}
use Rattle.sa_kernel_model.specs.Sound.{note_claim, kind_claim, io_claim}
use Rattle.sa_outlook.specs.Nameless.{Held, NamelessNote, NamelessKind, NamelessIo, plain_held, nameless_note, nameless_notes, nameless_kind, nameless_io}
use Rattle.sa_outlook.proofs.ios.DueOrder.{put_last, order, last-lt, last-ge}

-- a test as a number
abbrev bit : Bool → ℕ
bit b = cond b 1 0

-- one that began last, among those that wait
abbrev pub put_nameless : {D : Type 0} → NamelessIo D → List (NamelessIo D) → List (NamelessIo D)
put_nameless x [] = x ∷ []
put_nameless x (y ∷ ys) = cond (ltb x.left y.left) (x ∷ y ∷ ys) (y ∷ put_nameless x ys)

module _ {C D : Type 0} (look : ℕ → C → D) where
  -- what is held of one number may change where nothing claims it
  abbrev pub Others : Held C → Held C → ℕ → Type 0
  Others new old a = (b : ℕ) → b ≢ a → new b ≡ old b

  apart : (a b : ℕ) → bit (eqb a b) ≡ 0 → b ≢ a
  apart a b none same = let z : bit (eqb a b) ≡ 1 = ap bit (eq-eqb a b (sym same)) in omega arith

  note-other : (new old : Held C) (a s : ℕ) (note : Note) → Others new old a → note_claim a note ≡ 0
      → nameless_note look s new note ≡ nameless_note look s old note
  note-other new old a s (Preempted b) others none =
      ap (λ (h : Option (Stopped C)). NamelessNote.preempted (plain_held look s h)) (others b.0 (apart a b.0 none))
  note-other new old a s (Unblocked b) others none =
      ap (λ (h : Option (Stopped C)). NamelessNote.unblocked (plain_held look s h)) (others b.0 (apart a b.0 none))
  note-other new old a s _ others none = refl

  pub notes-other : (new old : Held C) (a s : ℕ) (notes : List Note) → Others new old a → sum_by (note_claim a) notes ≡ 0
      → nameless_notes look s new notes ≡ nameless_notes look s old notes
  notes-other new old a s [] others none = refl
  notes-other new old a s (note ∷ notes) others none =
      let z = sum_by-cons (note_claim a) note notes in
      let here = note-other new old a s note others (omega arith) in
      let rest = notes-other new old a s notes others (omega arith) in
      ap (λ (w : NamelessNote D). w ∷ nameless_notes look s new notes) here ∙ ap (λ (ws : List (NamelessNote D)). nameless_note look s old note ∷ ws) rest

  own-claim : (t a b : ℕ) → bit (eqb t t && eqb a b) ≡ 0 → b ≢ a
  own-claim t a b none = apart a b (ap (λ (u : Bool). bit (u && eqb a b)) (sym (eq-eqb t t refl)) ∙ none)

  kind-other : (new old : Held C) (a : ℕ) (kind : IoKind) → Others new old a → ((s : ℕ) → kind_claim s a kind ≡ 0)
      → nameless_kind look new kind ≡ nameless_kind look old kind
  kind-other new old a (Plain t b) others none =
      ap (λ (h : Option (Stopped C)). NamelessKind.plain t (plain_held look t.0 h)) (others b.0 (own-claim t.0 a b.0 (none t.0)))
  kind-other new old a (Page t b k) others none =
      ap (λ (h : Option (Stopped C)). NamelessKind.page t (plain_held look t.0 h) k) (others b.0 (own-claim t.0 a b.0 (none t.0)))
  kind-other new old a (Upcall t) others none = refl

  pub ios-other : (e : ℕ) (new old : Held C) (a : ℕ) (ios : List Io) → Others new old a → ((s : ℕ) → sum_by (io_claim s a) ios ≡ 0)
      → map (nameless_io look e new) ios ≡ map (nameless_io look e old) ios
  ios-other e new old a [] others none = refl
  ios-other e new old a (io ∷ ios) others none =
      let z = λ (s : ℕ). sum_by-cons (io_claim s a) io ios in
      let here = kind-other new old a io.kind others (λ s. (let y = z s in let x = none s in omega arith)) in
      let rest = ios-other e new old a ios others (λ s. (let y = z s in let x = none s in omega arith)) in
      ap (λ (p : NamelessKind D). record (nameless_io look e new io) { kind = p } ∷ map (nameless_io look e new) ios) here
      ∙ ap (λ (ws : List (NamelessIo D)). nameless_io look e old io ∷ ws) rest

  pub ios-put : (e : ℕ) (held : Held C) (io : Io) (ios : List Io) → e ≤ io.ends
      → map (nameless_io look e held) (put_last io ios) ≡ put_nameless (nameless_io look e held io) (map (nameless_io look e held) ios)
  ios-put e held io [] later = refl
  ios-put e held io (x ∷ xs) later = elim (order x.ends io.ends) [
    | inl h ↦
        ap (map (nameless_io look e held)) (last-ge io x xs h)
        ∙ ap (λ (ys : List (NamelessIo D)). nameless_io look e held x ∷ ys) (ios-put e held io xs later)
        ∙ sym (cond-false (ltb (io.ends - e) (x.ends - e)) _ _ (le-ltb (io.ends - e) (x.ends - e) (omega arith)))
    | inr h ↦
        ap (map (nameless_io look e held)) (last-lt io x xs h)
        ∙ sym (cond-true (ltb (io.ends - e) (x.ends - e)) _ _ (lt-ltb (io.ends - e) (x.ends - e) (omega arith)))
  ]
