-- A closing adds wants, aims and lines to the items of an event, and nothing else.
use Rattle.std.proofs.Common.{◌≡◌, ℕ, Bool, true, false, ◌&&◌, Option, Some, None, List, [], ◌∷◌, ◌++◌, map, refl, sym, ap, ◌∙◌}
use Rattle.std.specs.List.{list_all}
use Rattle.std.proofs.lemmas.List.{append-nil}
use Rattle.std.proofs.lemmas.List.Folds.{list_all-append}
use Rattle.sa_base.specs.declared.number.ProcNo.{ProcNo}
use Rattle.sa_base.specs.declared.record.Record.{Record}
use Rattle.sa_base.specs.declared.record.Record.TheVariants.{Want, Line}
use Rattle.sa_base.specs.declared.record.Item.{Item}
use Rattle.sa_base.specs.Items.{items_at}
use Rattle.sa_base.proofs.Items.{items_at-append}
use Rattle.sa_assign.specs.Reaim.{reaim_records, proc_no, changes_in}
use Rattle.sa_laws.specs.Shape.{is_of_closing}
use Rattle.sa_laws.proofs.Closings.{closing-aims, AreClosing}
use Rattle.sa_kernel_model.specs.State.{Scene}
use Rattle.sa_kernel_model.specs.Closing.{closed, wants, aims, want_one, want_for, must_want, interrupt, interrupt_one, interrupt_for, must_interrupt, spaces, shares}
use Rattle.sa_kernel_laws.specs.Turn.{what_of}
use Rattle.sa_kernel_laws.proofs.turns.WholeTurn.{records-said}
use Rattle.sa_kernel_model.proofs.parts.Placed.{for_spaces-keeps}
use Rattle.sa_kernel_laws.proofs.entries.Walks.{items-both}

module _ {C : Type 0} where
  -- From these items on, the records of a closing are added.
  pub record Closes (e : ℕ) (p : ProcNo) (items : List Item) (y : Scene C) : Type 0 where
    pub closing : List Record
    pub adds : y.items ≡ items ++ items_at e p closing
    pub closes : AreClosing closing

  closes-more : (e : ℕ) (p : ProcNo) (items : List Item) (x y : Scene C) (xs : List Record) → Closes e p items x
      → y.items ≡ x.items ++ items_at e p xs → AreClosing xs → Closes e p items y
  closes-more e p items x y xs c adds are = record {
    closing = c.closing ++ xs;
    adds = items-both e p items x.items y.items c.closing xs c.adds adds;
    closes = list_all-append is_of_closing c.closing xs ∙ ap (λ b. b && list_all is_of_closing xs) c.closes ∙ are;
  }

  closes-want : (e : ℕ) (p : ProcNo) (items : List Item) (b : Bool) (s : ℕ) (x : Scene C) → Closes e p items x
      → Closes e p items (want_one e p b s x)
  closes-want e p items false s x c = c
  closes-want e p items true s x c = closes-more e p items x (want_one e p true s x) (Want (record { 0 = s }) 1 ∷ []) c refl refl

  closes-line : (e : ℕ) (p : ProcNo) (items : List Item) (q : Option ℕ) (x : Scene C) → Closes e p items x
      → Closes e p items (interrupt e p q x)
  closes-line e p items None x c = c
  closes-line e p items (Some q) x c = closes-more e p items x (interrupt e p (Some q) x) (Line (proc_no q) ∷ []) c refl refl

  closes-one : (e : ℕ) (p : ProcNo) (items : List Item) (b : Bool) (s : ℕ) (x : Scene C) → Closes e p items x
      → Closes e p items (interrupt_one e p b s x)
  closes-one e p items false s x c = c
  closes-one e p items true s x c = closes-line e p items _ x c

  pub closed-adds : (e : ℕ) (p : ProcNo) (x : Scene C) → Closes e p x.items (closed e p x)
  closed-adds e p x =
      let P : Scene C → Type 0 = λ y. Closes e p x.items y in
      let none : P x = record { closing = []; adds = sym (append-nil x.items); closes = refl } in
      let y : Scene C = wants e p x in
      let wanted : P y = for_spaces-keeps P (want_for e p) (λ s z h. closes-want e p x.items (must_want z.state s) s z h) 0
      (spaces x.state) x none in
      let z : Scene C = aims e p y in
      let aimed : P z = closes-more e p x.items y z
      (reaim_records e (spaces y.state) (shares y.state e) y.state.assign) wanted refl
      (closing-aims e y.state.assign.lines (changes_in (spaces y.state) (shares y.state e) y.state.assign)) in
      for_spaces-keeps P (interrupt_for e p) (λ s v h. closes-one e p x.items (must_interrupt v.state s) s v h) 0 (spaces z.state) z aimed

  -- So an event's records are its own ones, and the closing's after them.
  pub records-are : (e : ℕ) (p : ProcNo) (own : List Record) (y : Scene C) → (c : Closes e p (items_at e p own) y)
      → map what_of y.items ≡ own ++ c.closing
  records-are e p own y c =
      ap (map what_of) c.adds ∙ ap (map what_of)
      (sym (items_at-append e p own c.closing))
      ∙ records-said e p (own ++ c.closing)
