-- An event has its entry's records, and after them the closing.
use Rattle.std.proofs.Common.{◌≡◌, ◌≢◌, ℕ, refl, sym, ◌∙◌, ap, subst, Some, None, List, [], ◌∷◌, ◌++◌, length, map, drop}
use Rattle.std.specs.Prelude.{Option, filter, take_while}
use Rattle.std.specs.List.{list_all}
use Rattle.std.proofs.lemmas.List.{append-nil}
use Rattle.std.proofs.lemmas.Bool.{and_parts, not_from_true}
use Rattle.sa_base.specs.declared.number.SpaceNo.{SpaceNo}
use Rattle.sa_base.specs.declared.record.Record.{Record}
use Rattle.sa_base.specs.declared.record.Record.TheVariants.{Want, Line}
use Rattle.sa_lemmas.proofs.Searches.{while-none}
use Rattle.sa_assign.specs.Aims.{Change}
use Rattle.sa_assign.specs.Reaim.{line_at, lines_with, line_records, records_of}
use Rattle.sa_kernel_model.specs.Entries.{evicted_at}
use Rattle.sa_laws.specs.History.{after_records}
use Rattle.sa_laws.specs.Shape.{is_own, is_of_closing, own_part, closing_part, others_of}
use Rattle.sa_laws.specs.Closing.{must_want, want_one, spaces_of, aims_due, lines_due}
use Rattle.sa_laws.specs.Turns.{AreRaising, IsClosing}
use Rattle.sa_laws.proofs.Closings.{AreClosing}
use Rattle.sa_kernel_laws.specs.Turn.{ShapeOf, event_of}
use Rattle.sa_kernel_laws.specs.Laws.{TurnsHaveParts}
use Rattle.sa_kernel_laws.proofs.entries.Walks.{AreOwn}
use Rattle.sa_kernel_laws.proofs.closings.Lines.{AreLines}
use Rattle.sa_kernel_laws.proofs.turns.Shapes.{while-both, drop-front}
use Rattle.sa_kernel_laws.proofs.turns.WholeTurn.{closing_of, reading_at, whole-turn}

none-own : (cl : List Record) → AreClosing cl → take_while is_own cl ≡ []
none-own [] closes = refl
none-own (x ∷ cl) closes = while-none is_own x cl (not_from_true (is_of_closing x) (and_parts (is_of_closing x) (list_all is_of_closing cl) closes).0)

pub own-is : (own cl : List Record) → own ≢ [] → AreOwn (others_of own) → AreClosing cl → own_part (own ++ cl) ≡ own
own-is [] cl some are closes = absurd (some refl)
own-is (x ∷ xs) cl some are closes = ap (λ ys. x ∷ ys) (while-both is_own xs cl are ∙ ap (λ ys. xs ++ ys) (none-own cl closes) ∙ append-nil xs)

-- wants, then aims and lines
lines-raise : (ll : List Record) → AreLines ll → AreRaising ll
lines-raise [] lines = tt
lines-raise (Line q ∷ ll) lines = lines-raise ll lines
lines-raise (x ∷ ll) lines = absurd (cc)

aims-raise : (e : ℕ) (lines : List (Option ℕ)) (cs : List Change) (ll : List Record) → AreRaising ll → AreRaising (records_of e lines cs ++ ll)
aims-raise e lines [] ll raises = raises
aims-raise e lines (c ∷ cs) ll raises = one (line_at lines c.proc) (aims-raise e (lines_with e lines c) cs ll raises) where
  one : (l : Option ℕ) → AreRaising (records_of e (lines_with e lines c) cs ++ ll)
      → AreRaising ((line_records c.proc l ++ records_of e (lines_with e lines c) cs) ++ ll)
  one None rest = rest
  one (Some x) rest = rest

raise-closes : (xs : List Record) → AreRaising xs → IsClosing xs
raise-closes [] raises = tt
raise-closes (Want s n ∷ xs) raises = absurd raises
raise-closes (x ∷ xs) raises = raises

wants-close : (ss : List SpaceNo) (xs : List Record) → IsClosing xs → IsClosing (map want_one ss ++ xs)
wants-close [] xs closes = closes
wants-close (s ∷ ss) xs closes = wants-close ss xs closes

pub turns-parts : (C : Type 0) → TurnsHaveParts C
turns-parts C w k r t ok kept can =
    let whole = whole-turn w k r t kept can in
    let e = t.number in
    let own = whole.own.records in
    let cl = whole.closing in
    let m = after_records w e t.proc (reading_at w r t k) own in
    let closing = closing_of w k r t whole in
    let part : own_part (event_of t k).records ≡ own = ap own_part whole.records ∙ own-is own closing whole.own.some whole.own.own cl.closes in
    let rest : closing_part (event_of t k).records ≡ closing =
    ap (λ xs. drop (length xs) (event_of t k).records) part ∙ ap (drop (length own)) whole.records ∙ drop-front own closing in
    record {
      own = subst (λ xs. ShapeOf (evicted_at e k) t.proc t.says t.entry xs) (sym part) whole.own.shape;
      closing = subst (λ xs. IsClosing xs) (sym rest)
          (wants-close (filter (must_want m) (spaces_of w)) (records_of e cl.wanted.lines (aims_due w e cl.wanted) ++ lines_due w cl.aimed)
          (raise-closes (records_of e cl.wanted.lines (aims_due w e cl.wanted) ++ lines_due w cl.aimed)
          (aims-raise e cl.wanted.lines (aims_due w e cl.wanted) (lines_due w cl.aimed) (lines-raise (lines_due w cl.aimed) cl.lines))));
    }
