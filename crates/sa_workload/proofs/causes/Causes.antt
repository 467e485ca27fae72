-- A line that is refused at a position is bad after the lines that it shows, for the same cause.
use Rattle.std.proofs.Common.{◌≡◌, refl, ℕ, ◌+◌, ◌==◌, ◌&&◌, not, Bool, true, false, List, [], ◌∷◌, ◌++◌, length, Option, Some, Result, Ok, Err, subst, codes, if◌then◌else◌, sym, ap, ◌∙◌, inl, inr}
use Rattle.std.specs.Option.{is_some}
use Rattle.std.specs.Str.{bytes_eq}
use Rattle.std.proofs.lemmas.Bool.{false≢true}
use Rattle.std.proofs.lemmas.Bool.Decides.{not_from_Decides}
use Rattle.sa_instr.specs.declared.instr.Instr.{Instr}
use Rattle.sa_instr.specs.declared.instr.Instr.TheVariants.{End}
use Rattle.sa_lemmas.proofs.Booleans.{if_either}
use Rattle.sa_workload.specs.Text.{instr_line}
use Rattle.sa_workload.specs.Bad.{first_word, Begins, Field, field_cause, cause_in, WordCause}
use Rattle.sa_workload.specs.Fields.{and_then, line_numbers, index_of}
use Rattle.sa_workload.specs.Position.{Position, AtAbsent, AtInstr, AtEvict, AtTurn, Closed, shown}
use Rattle.sa_workload.specs.Steps.{expected}
use Rattle.sa_workload.specs.Next.{numbers_at, is_full, last_numbers, fields_of, is_end, step, step_instr, next}
use Rattle.sa_workload.proofs.fields.FieldLemmas.{same_err, and_then-err, AllPass, line-ok}
use Rattle.sa_workload.proofs.fields.InstrLemmas.{instr-read}
use Rattle.sa_workload.proofs.causes.LineAt.{many-Decides, LineAt, line_at}
use Rattle.sa_workload.proofs.forward.Following.{expects}
use Rattle.sa_workload.proofs.forward.Standing.{IsAt, Setting, begins-next, expected_words}

-- an instruction is `end` as its word is
end_by_word : (i : Instr) → is_end i ≡ bytes_eq (first_word (instr_line i)) (codes "end")
end_by_word End = refl
end_by_word _ = refl

-- the last instruction of a program is to come, and the word is not `end`
abbrev pub is_stuck : Position → List ℕ → Bool
is_stuck (AtInstr m spaces d len instrs) word = (length instrs + 1 == len) && not (bytes_eq word (codes "end"))
is_stuck _ word = false

-- what right words lead to: something is missing where the position is stuck, else another position
abbrev pub Leads : Bool → Result Position ℕ → Type 0
Leads true r = r ≡ Err 9
Leads false r = (q : Position) × (r ≡ Ok q)

leads_either : (b : Bool) (q : Position) (r : Result Position ℕ) → Leads false r → Leads false (if b then Ok q else r)
leads_either true q r h = (q, refl)
leads_either false q r h = h

pub step-leads : (versions : ℕ) (p : Position) (word ns : List ℕ) → is_some (index_of word (expected p)) ≡ true → AllPass (fields_of versions p word) ns
    → Leads (is_stuck p word) (step p word ns)
step-leads versions (AtAbsent m spaces d) word ns known pass = leads_either (bytes_eq word (codes "absent")) _ _ (_, refl)
step-leads versions (AtInstr m spaces d len instrs) word ns known pass =
    let i = instr-read versions (numbers_at (AtInstr m spaces d len instrs)) word ns known pass in
    let end : is_end i.instr ≡ bytes_eq word (codes "end") = end_by_word i.instr ∙ ap (λ (l : List (List ℕ)). bytes_eq (first_word l) (codes "end")) i.line in
    subst (λ (o : Option Instr). Leads (is_stuck (AtInstr m spaces d len instrs) word) (step_instr m spaces d len instrs o)) (sym i.is)
    (subst (λ (e : Bool). Leads ((length instrs + 1 == len) && not e) (step_instr m spaces d len instrs (Some i.instr))) end
    (by _ ((length instrs + 1 == len) && not (is_end i.instr))))
  where
    by : (q : Position) (b : Bool) → Leads b (if b then Err 9 else Ok q)
    by q true = refl
    by q false = (q, refl)
step-leads versions (AtEvict m spaces es) word ns known pass =
    leads_either (bytes_eq word (codes "evict")) _ _ (leads_either (bytes_eq word (codes "turn")) _ _ (_, refl))
step-leads versions (AtTurn m spaces es ts) word ns known pass = leads_either (bytes_eq word (codes "turn")) _ _ (_, refl)
step-leads versions (Closed w) word ns known pass = absurd (cc known)
step-leads versions _ word ns known pass = (_, refl)

-- the cause after a first word that is expected
cause_by : (versions : ℕ) (p : Position) (word : List ℕ) (words : List (List ℕ)) (why : ℕ) → is_some (index_of word (expected p)) ≡ true
    → LineAt versions p word → and_then (line_numbers (fields_of versions p word) (last_numbers p word) words) (step p word) ≡ Err why
    → field_cause (shown p) (fields_of versions p word) word words ≡ why
cause_by versions p word words why known at h =
    ap (λ (o : Option (List ℕ)). cause_in (line_numbers fields o words)) at.order
    ∙ elim (and_then-err (line_numbers fields (last_numbers p word) words) (step p word) why h) [
      | inl wrong ↦ ap cause_in wrong
      | inr all ↦
          let line = line-ok fields (last_numbers p word) words all.0 all.1 in
          ap cause_in all.1 ∙ nine (is_stuck p word) (step p word all.0) (step-leads versions p word all.0 known line.1) all.2
    ]
  where
    fields : List Field
    fields = fields_of versions p word

    nine : (b : Bool) (r : Result Position ℕ) → Leads b r → r ≡ Err why → 9 ≡ why
    nine true r l e = same_err {A = Position} 9 why (sym l ∙ e)
    nine false r l e = absurd (cc (sym l.1 ∙ e))

-- the words of a line that is refused have this cause
pub word_cause : (versions : ℕ) → Setting versions → (p : Position) (word : List ℕ) (words : List (List ℕ)) (why : ℕ) → IsAt versions p
    → next versions p (word ∷ words) ≡ Err why → WordCause versions (shown p) (word ∷ words) why
word_cause versions s p word words why a h =
    elim (if_either (is_some (index_of word (expected p))) _ (Err 2) (Err why) h) [
      | inr none ↦ inl ((λ r. false≢true (sym none.0 ∙ expected_words versions s p word a r)), sym (same_err {A = Position} 2 why none.1))
      | inl known ↦
          let at : LineAt versions p word = line_at versions s.few p word a known.0 in
          inr (
            expects versions s p word a known.0,
            elim (if_either (is_full p word) (Err 8) _ (Err why) known.1) [
              | inl full ↦ inl ((many-Decides (shown p) word).0 (at.full ∙ full.0), sym (same_err {A = Position} 8 why full.1))
              | inr room ↦ inr (
                not_from_Decides _ (many-Decides (shown p) word) (at.full ∙ room.0),
                ap (λ (fs : List Field). field_cause (shown p) fs word words) at.fields ∙ cause_by versions p word words why known.0 at room.1,
              )
            ],
          )
    ]

-- and no text goes on with it
pub refused : (versions : ℕ) → Setting versions → (p : Position) (line : List (List ℕ)) (why : ℕ) → IsAt versions p → next versions p line ≡ Err why
    → ¬ Begins versions (shown p ++ line ∷ [])
refused versions s p line why a h b = let n = begins-next versions s p line a b in absurd (cc (sym n.1 ∙ h))
