-- One field, one count: the first of those that are left.
use Rattle.std.proofs.Common.{◌≡◌, ℕ, ◌+◌, ◌<◌, List, [], ◌∷◌, ◌++◌, length, get_or, drop, Option, Some, Result, Ok, Err, refl, sym, ap, ◌∙◌, append_assoc}
use Rattle.std.proofs.lemmas.List.{drop_more}
use Rattle.sa_trace.specs.declared.field.Field.{Field}
use Rattle.sa_trace.specs.declared.field.Field.TheVariants.{Space}
use Rattle.sa_base.specs.declared.refusal.Cause.{Cause}
use Rattle.sa_base.specs.declared.refusal.Cause.TheVariants.{Missing}
use Rattle.sa_trace.specs.Pieces.{and_then, number_in, field_in, fields_in, wrong_or, wrong_count}

-- a count that is missing
pub count-missing : (counts : List ℕ) (words : List (List ℕ)) (i : ℕ) → i < length counts → words ≡ [] → wrong_count (drop i counts) words ≡ Some Missing
count-missing counts words i h none =
    ap (λ c. wrong_count c words) (drop_more counts i 0 h) ∙ ap (wrong_count (get_or counts i 0 ∷ drop (i + 1) counts)) none

-- the count that is next decides, or else those after it
pub count-next : (counts : List ℕ) (words rest : List (List ℕ)) (piece : List ℕ) (i : ℕ) (r : Result ℕ Cause) → i < length counts
    → words ≡ piece ∷ rest → r ≡ number_in (get_or counts i 0) (get_or counts i 0) piece
    → wrong_count (drop i counts) words ≡ wrong_or r (wrong_count (drop (i + 1) counts) rest)
count-next counts words rest piece i r h next read =
    ap (λ c. wrong_count c words) (drop_more counts i 0 h) ∙ ap (wrong_count (get_or counts i 0 ∷ drop (i + 1) counts)) next
    ∙ ap (λ q. wrong_or q (wrong_count (drop (i + 1) counts) rest)) (sym read)

-- the same of fields
pub field-missing : (fields : List Field) (words : List (List ℕ)) (i : ℕ) → i < length fields → words ≡ [] → fields_in (drop i fields) words ≡ Err Missing
field-missing fields words i h none =
    ap (λ f. fields_in f words) (drop_more fields i Space h) ∙ ap (fields_in (get_or fields i Space ∷ drop (i + 1) fields)) none

pub field-next : (fields : List Field) (words rest : List (List ℕ)) (piece : List ℕ) (i : ℕ) (r : Result (Option ℕ) Cause) → i < length fields
    → words ≡ piece ∷ rest → r ≡ field_in (get_or fields i Space) piece
    → fields_in (drop i fields) words ≡ and_then r (λ value. and_then (fields_in (drop (i + 1) fields) rest) (λ values. Ok (value ∷ values)))
field-next fields words rest piece i r h next read =
    ap (λ f. fields_in f words) (drop_more fields i Space h) ∙ ap (fields_in (get_or fields i Space ∷ drop (i + 1) fields)) next
    ∙ ap (λ q. and_then q (λ value. and_then (fields_in (drop (i + 1) fields) rest) (λ values. Ok (value ∷ values)))) (sym read)

-- a value more is in front of the later ones
pub value-more : (values : List (Option ℕ)) (value : Option ℕ) (later : Result (List (Option ℕ)) Cause)
    → and_then (and_then later (λ vs. Ok (value ∷ vs))) (λ vs. Ok (values ++ vs)) ≡ and_then later (λ vs. Ok ((values ++ value ∷ []) ++ vs))
value-more values value (Ok vs) = ap Ok (sym (append_assoc values (value ∷ []) vs))
value-more values value (Err cause) = refl

-- a field that is refused, and one that is read, after the values before it
pub field-wrong : (fields : List Field) (words rest : List (List ℕ)) (piece : List ℕ) (i : ℕ) (r : Result (Option ℕ) Cause) (cause : Cause)
    (before : List (Option ℕ)) → i < length fields
    → words ≡ piece ∷ rest → r ≡ field_in (get_or fields i Space) piece → r ≡ Err cause
    → and_then (fields_in (drop i fields) words) (λ later. Ok (before ++ later)) ≡ Err cause
field-wrong fields words rest piece i r cause before h next read wrong =
    ap (λ q. and_then q (λ later. Ok (before ++ later)))
    (field-next fields words rest piece i r h next read
    ∙ ap (λ q. and_then q (λ value. and_then (fields_in (drop (i + 1) fields) rest) (λ values. Ok (value ∷ values)))) wrong)

pub field-read : (fields : List Field) (words rest : List (List ℕ)) (piece : List ℕ) (i : ℕ) (r : Result (Option ℕ) Cause) (value : Option ℕ)
    (before : List (Option ℕ)) → i < length fields
    → words ≡ piece ∷ rest → r ≡ field_in (get_or fields i Space) piece → r ≡ Ok value
    → and_then (fields_in (drop i fields) words) (λ later. Ok (before ++ later))
    ≡ and_then (fields_in (drop (i + 1) fields) rest) (λ later. Ok ((before ++ value ∷ []) ++ later))
field-read fields words rest piece i r value before h next read right =
    ap (λ q. and_then q (λ later. Ok (before ++ later)))
    (field-next fields words rest piece i r h next read
    ∙ ap (λ q. and_then q (λ v. and_then (fields_in (drop (i + 1) fields) rest) (λ values. Ok (v ∷ values)))) right)
    ∙ value-more before value (fields_in (drop (i + 1) fields) rest)
