-- The items of a trace are looked at one after another, each with the programs of the threads that those before it made.
use Rattle.std.proofs.Common.{◌≡◌, ℕ, suc, ◌+◌, ◌<◌, ◌≤◌, List, ◌++◌, length, drop, get_or, Option, sym, ap, ◌∙◌, append_assoc, add-one, drop-cons}
use Rattle.std.proofs.lemmas.List.{append-nil, drop_all}
use Rattle.sa_base.specs.declared.record.Item.{Item}
use Rattle.sa_instr.specs.declared.instr.Instr.{Instr}
use Rattle.sa_programs.specs.Programs.{instr_in, programs_by, programs_after}
use Rattle.toga_verdict.specs.Source.{SourceView}
use Rattle.toga_verdict.specs.Verdict.{near_line, near_lines}

-- one item more
pub near-more :
    (x : SourceView) (programs later : List (List ℕ)) (event : ℕ) (items : List Item) (i : ℕ) (d : Item) (instr : Option Instr) (out more whole : List ℕ)
    → i < length items → instr ≡ instr_in x.workload programs (get_or items i d).what → later ≡ programs_by programs (get_or items i d).what instr
    → more ≡ out ++ near_line x programs event (get_or items i d) → out ++ near_lines x programs event (drop i items) ≡ whole
    → more ++ near_lines x later event (drop (i + 1) items) ≡ whole
near-more x programs later event items i d instr out more whole within runs forks written so =
    let y : Item = get_or items i d in
    let behind : List (List ℕ) = programs_after x.workload programs y.what in
    let rest : List ℕ = near_lines x behind event (drop (suc i) items) in
    ap (λ (ps : List (List ℕ)). more ++ near_lines x ps event (drop (i + 1) items)) (forks ∙ ap (programs_by programs y.what) runs)
    ∙ ap (λ (k : ℕ). more ++ near_lines x behind event (drop k items)) (add-one i)
    ∙ ap (λ (xs : List ℕ). xs ++ rest) written
    ∙ append_assoc out (near_line x programs event y) rest
    ∙ ap (λ (xs : List Item). out ++ near_lines x programs event xs) (sym (drop-cons items i d within))
    ∙ so

-- nothing is left
pub near-all :
    (x : SourceView) (programs : List (List ℕ)) (event : ℕ) (items : List Item) (i : ℕ) (out whole : List ℕ) → length items ≤ i
    → out ++ near_lines x programs event (drop i items) ≡ whole → out ≡ whole
near-all x programs event items i out whole all so =
    sym (append-nil out) ∙ ap (λ (xs : List Item). out ++ near_lines x programs event xs) (sym (drop_all i items all)) ∙ so
