-- The lines of processors whose aims change.
use Rattle.std.proofs.Common.{◌≡◌, ℕ, ◌+◌, ◌<◌, Bool, true, false, cond, ◌||◌, ◌&&◌, eqb, List, [], ◌∷◌, ◌++◌, length, Option, Some, None, refl, sym, ap, ◌∙◌, arith, count_by, is_none, inl, inr}
use Rattle.std.proofs.lemmas.List.{length-set, get_or-set_same, get_or-set_other}
use Rattle.std.proofs.lemmas.List.Sums.{sum_by-cons, sum_by-append}
use Rattle.std.proofs.lemmas.Bool.{cases_eq, eq-eqb, ne_eqb, eqb-true, cond-true, cond-false}
use Rattle.sa_base.specs.declared.record.Record.{Record}
use Rattle.sa_base.specs.declared.record.Record.TheVariants.{Aim}
use Rattle.sa_assign.specs.Aims.{Change, space_no}
use Rattle.sa_assign.specs.Reaim.{proc_no, line_at, raised, lines_with, lines_after, line_records, records_of}
use Rattle.sa_assign.specs.Laws.{is_changed, is_line_of}

-- a raised line stays as it is
raised-raised : (event : ℕ) (line : Option ℕ) → raised event (raised event line) ≡ raised event line
raised-raised event None = refl
raised-raised event (Some e) = refl

raised-is_none : (event : ℕ) (line : Option ℕ) → is_none (raised event line) ≡ false
raised-is_none event None = refl
raised-is_none event (Some e) = refl

-- the line of p after a change
line_at-lines_with : (event p : ℕ) (lines : List (Option ℕ)) (c : Change) → p < length lines
    → line_at (lines_with event lines c) p ≡ cond (eqb c.proc p) (raised event (line_at lines p)) (line_at lines p)
line_at-lines_with event p lines c within = elim (cases_eq c.proc p) [
  | inl same ↦
      let inside : c.proc < length lines = omega arith in
      let line = raised event (line_at lines c.proc) in
      ap (line_at (lines_with event lines c)) (sym same) ∙ get_or-set_same lines c.proc line None inside
      ∙ ap (λ (q : ℕ). raised event (line_at lines q)) same
      ∙ sym (cond-true (eqb c.proc p) (raised event (line_at lines p)) (line_at lines p) (eq-eqb c.proc p same))
  | inr other ↦ get_or-set_other lines c.proc p (raised event (line_at lines c.proc)) None (λ e. other (sym e))
      ∙ sym (cond-false (eqb c.proc p) (raised event (line_at lines p)) (line_at lines p) (ne_eqb c.proc p other))
]

line-step : (here later : Bool) (event : ℕ) (line next : Option ℕ) → next ≡ cond here (raised event line) line
    → cond later (raised event next) next ≡ cond (here || later) (raised event line) line
line-step true true event line next is = ap (raised event) is ∙ raised-raised event line
line-step true false event line next is = is
line-step false true event line next is = ap (raised event) is
line-step false false event line next is = is

pub line_at-lines_after : (event p : ℕ) (lines : List (Option ℕ)) (cs : List Change) → p < length lines
    → line_at (lines_after event lines cs) p ≡ cond (is_changed p cs) (raised event (line_at lines p)) (line_at lines p)
line_at-lines_after event p lines [] within = refl
line_at-lines_after event p lines (c ∷ cs) within =
    let next = lines_with event lines c in
    let size = length-set lines c.proc (raised event (line_at lines c.proc)) in
    line_at-lines_after event p next cs (omega arith)
    ∙ line-step (eqb c.proc p) (is_changed p cs) event (line_at lines p) (line_at next p) (line_at-lines_with event p lines c within)

-- a line that is recorded here
count_by-line_records : (p q : ℕ) (line : Option ℕ) → count_by (is_line_of p) (line_records q line) ≡ cond (eqb q p && is_none line) 1 0
count_by-line_records p q None = one (eqb q p) where
  one : (b : Bool) → 0 + cond {A = ℕ} b 1 0 ≡ cond (b && true) 1 0
  one true = refl
  one false = refl
count_by-line_records p q (Some e) = none (eqb q p) where
  none : (b : Bool) → 0 ≡ cond {A = ℕ} (b && false) 1 0
  none true = refl
  none false = refl

count-step : (here later low own next : Bool) → (here ≡ true → own ≡ low) → next ≡ cond here false low
    → cond {A = ℕ} (here && own) 1 0 + cond {A = ℕ} (later && next) 1 0 ≡ cond {A = ℕ} ((here || later) && low) 1 0
count-step true true low own next same is = rw (same refl, is) (omega arith)
count-step true false low own next same is = rw (same refl) (omega arith)
count-step false true low own next same is = rw is (omega arith)
count-step false false low own next same is = refl

next-low : (here : Bool) (event : ℕ) (line next : Option ℕ) → next ≡ cond here (raised event line) line → is_none next ≡ cond here false (is_none line)
next-low true event line next is = ap is_none is ∙ raised-is_none event line
next-low false event line next is = ap is_none is

pub count_by-records_of : (event p : ℕ) (lines : List (Option ℕ)) (cs : List Change) → p < length lines
    → count_by (is_line_of p) (records_of event lines cs) ≡ cond (is_changed p cs && is_none (line_at lines p)) 1 0
count_by-records_of event p lines [] within = refl
count_by-records_of event p lines (c ∷ cs) within =
    let one = λ (r : Record). cond {A = ℕ} (is_line_of p r) 1 0 in
    let next = lines_with event lines c in
    let size = length-set lines c.proc (raised event (line_at lines c.proc)) in
    let aim = Aim (proc_no c.proc) (Some (space_no c.space)) in
    let own = line_records c.proc (line_at lines c.proc) in
    let rest = records_of event next cs in
    let first = sum_by-cons one aim (own ++ rest) in
    let both = sum_by-append one own rest in
    let mine = count_by-line_records p c.proc (line_at lines c.proc) in
    let others = count_by-records_of event p next cs (omega arith) in
    let step = count-step (eqb c.proc p) (is_changed p cs) (is_none (line_at lines p)) (is_none (line_at lines c.proc)) (is_none (line_at next p))
    (λ e. ap (λ (q : ℕ). is_none (line_at lines q)) (eqb-true c.proc p e))
    (next-low (eqb c.proc p) event (line_at lines p) (line_at next p) (line_at-lines_with event p lines c within)) in
    omega arith
