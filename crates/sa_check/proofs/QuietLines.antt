-- Where no line is due before a quiet event, none is due at it and after it; and it has no line and no aim.
use Rattle.std.proofs.Common.{◌≡◌, ◌∙◌, sym, ap, arith, ℕ, true, List, [], ◌∷◌, length, drop, Option}
use Rattle.std.specs.List.{list_all}
use Rattle.std.proofs.lemmas.Bool.{and_parts}
use Rattle.std.proofs.lemmas.List.{drop_all}
use Rattle.sa_base.specs.declared.number.SpaceNo.{SpaceNo}
use Rattle.sa_base.specs.declared.record.Note.{Note}
use Rattle.sa_base.specs.declared.record.Record.{Record}
use Rattle.sa_spaces.specs.Workload.{WorkloadView}
use Rattle.sa_laws.specs.Event.{Event}
use Rattle.sa_laws.specs.Readings.{Readings}
use Rattle.sa_laws.specs.History.{Test, event_begun, after_records, after_event}
use Rattle.sa_laws.specs.Shape.{aims_in, lines_in, front_part, last_lines}
use Rattle.sa_laws.specs.Closing.{lines_due}
use Rattle.sa_laws.specs.Upcalls.{OwnLines, FirstLineIsAsked}
use Rattle.sa_check.specs.Quiet.{is_quiet_record, is_quiet}
use Rattle.sa_check.specs.Sides.{LinesAreInPlace}
use Rattle.sa_check.proofs.QuietLemmas.{Kept, filled, IsSame, same-begun, same-records, same-event, quiet-cases, quiet-records, quiet-low, front-whole}

-- where nothing changed that the lines depend on, they are the same
same-lines : (w : WorkloadView) (r q : Readings) → IsSame r q → lines_due w q ≡ lines_due w r
same-lines w r q same = ap (λ (k : Kept). lines_due w (filled r k)) same

-- the last lines of quiet records are none
last-none : (xs : List Record) → list_all is_quiet_record xs ≡ true → last_lines xs ≡ []
last-none xs h = ap (λ (part : List Record). drop (length part) xs) (front-whole xs h) ∙ drop_all (length xs) xs (omega arith)

module _ (w : WorkloadView) (r : Readings) (e : Event) (quiet : is_quiet w r e ≡ true) where
  records : list_all is_quiet_record e.records ≡ true
  records = quiet-records w r e quiet

  pub still-calm : (test : Test) → lines_due w r ≡ [] → lines_due w (after_event test w r e) ≡ []
  still-calm test calm = same-lines w r (after_event test w r e) (same-event test w r e (quiet-low w r e quiet) records) ∙ calm

  pub quiet-lines-due : lines_due w r ≡ []
      → lines_in (last_lines e.records) ≡ lines_due w (after_records w e.number e.proc (event_begun w e r) (front_part e.records))
  quiet-lines-due calm =
      let q = after_records w e.number e.proc (event_begun w e r) (front_part e.records) in
      let front : list_all is_quiet_record (front_part e.records) ≡ true = ap (list_all is_quiet_record) (front-whole e.records records) ∙ records in
      let same = same-records w e.number e.proc (event_begun w e r) (front_part e.records) front ∙ same-begun w e r (quiet-low w r e quiet) in
      ap lines_in (last-none e.records records) ∙ sym (same-lines w r q same ∙ calm)

  pub quiet-in-place : (Asked : OwnLines) → LinesAreInPlace Asked w r e.proc e.records
  quiet-in-place Asked = record { first = first e.records records; order = ap aims_in (last-none e.records records) } where
    first : (xs : List Record) → list_all is_quiet_record xs ≡ true → FirstLineIsAsked Asked w r e.proc xs
    first [] h = tt
    first (x ∷ xs) h =
        quiet-cases (λ y. FirstLineIsAsked Asked w r e.proc (y ∷ xs)) (λ s t i. tt) (λ s t value. tt) (λ s t. tt) (λ s t. tt) (λ s t. tt) (λ s t. tt)
        (λ s l t. tt) (λ s l t. tt) tt (λ l. tt) tt x (and_parts (is_quiet_record x) (list_all is_quiet_record xs) h).0
