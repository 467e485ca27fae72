-- What the functions that read one line come to.
use Rattle.std.proofs.Common.{◌≡◌, ℕ, ◌+◌, Bool, true, false, cond, List, [], ◌∷◌, codes, Option, Some, None, Result, Ok, Err, refl, sym, ap, ap₂, ◌∙◌, subst}
use Rattle.std.specs.Option.{is_some, option_map}
use Rattle.std.specs.Str.{bytes_eq}
use Rattle.std.proofs.lemmas.Slice.Eq.{bytes_eq-Decides}
use Rattle.sa_spaces.specs.declared.workload.Evict.{Evict}
use Rattle.sa_text.specs.LineText.{LineText}
use Rattle.sa_workload.specs.Bad.{Field}
use Rattle.sa_workload.specs.Fields.{and_then, unless, fields_at, at_end, index_of, line_numbers, order_cause}
use Rattle.sa_workload.specs.Position.{Position, AtVersion, AtAbsent, AtEvict}
use Rattle.sa_workload.specs.Next.{evict_numbers, fields_of, is_full, last_numbers, last_of, next_by, step}
use Rattle.sa_workload.specs.Stage.{IsAsLong}
use Rattle.sa_workload.specs.Steps.{expected}
use Rattle.sa_workload.proofs.fields.FieldLemmas.{AllPass, all_long}
use Rattle.sa_workload.specs.Reading.{line_in, read_from, after_line}

-- where a line of the word has to come after the last one, it has as many numbers
pub as_long : (versions : ℕ) (p : Position) (word ns : List ℕ) → AllPass (fields_of versions p word) ns → IsAsLong ns (last_numbers p word)
as_long versions (AtAbsent m spaces d) word ns pass = by_word (bytes_eq word (codes "absent")) refl (last_of d.absent)
  where
    by_word : (b : Bool) → bytes_eq word (codes "absent") ≡ b → (o : Option ℕ) → IsAsLong ns (cond b (option_map (λ page. page ∷ []) o) None)
    by_word false t o = tt
    by_word true t None = tt
    by_word true t (Some page) =
        (all_long (fields_of versions (AtAbsent m spaces d) (codes "absent")) ns
        (subst (λ (w : List ℕ). AllPass (fields_of versions (AtAbsent m spaces d) w) ns) ((bytes_eq-Decides word (codes "absent")).0 t) pass)).0
as_long versions (AtEvict m spaces es) word ns pass = by_word (bytes_eq word (codes "evict")) refl (last_of es)
  where
    by_word : (b : Bool) → bytes_eq word (codes "evict") ≡ b → (o : Option Evict) → IsAsLong ns (cond b (option_map evict_numbers o) None)
    by_word false t o = tt
    by_word true t None = tt
    by_word true t (Some e) =
        (all_long (fields_of versions (AtEvict m spaces es) (codes "evict")) ns
        (subst (λ (w : List ℕ). AllPass (fields_of versions (AtEvict m spaces es) w) ns) ((bytes_eq-Decides word (codes "evict")).0 t) pass)).0
as_long versions AtVersion word ns pass = tt
as_long versions _ word ns pass = tt

-- what the words after a first word come to, by what the fields do
pub line_by : (fields : List Field) (last : Option (List ℕ)) (words : List (List ℕ)) (r : Result (List ℕ × List (List ℕ)) ℕ) → r ≡ fields_at fields words
    → line_numbers fields last words ≡ and_then r (λ read. unless (order_cause last read.0) (unless (at_end read.1) (Ok read.0)))
line_by fields last words r e =
    ap (λ (x : Result (List ℕ × List (List ℕ)) ℕ). and_then x (λ read. unless (order_cause last read.0) (unless (at_end read.1) (Ok read.0)))) (sym e)

-- what a line comes to, by what is known of its word
module _ (versions : ℕ) (p : Position) (word : List ℕ) (words : List (List ℕ)) where
  abbrev by_word : Bool → Bool → Result (List ℕ) ℕ → Result Position ℕ
  by_word known full r = cond known (cond full (Err 8) (and_then r (step p word))) (Err 2)

  abbrev pub read : Result (List ℕ) ℕ
  read = line_numbers (fields_of versions p word) (last_numbers p word) words

  pub not_known : false ≡ is_some (index_of word (expected p)) → next_by versions p word words ≡ Err 2
  not_known e = ap (λ (b : Bool). by_word b (is_full p word) read) (sym e)

  pub too_many : true ≡ is_some (index_of word (expected p)) → true ≡ is_full p word → next_by versions p word words ≡ Err 8
  too_many e f = ap₂ (λ (b c : Bool). by_word b c read) (sym e) (sym f)

  pub numbered_next : (r : Result (List ℕ) ℕ) → true ≡ is_some (index_of word (expected p)) → false ≡ is_full p word → r ≡ read
      → next_by versions p word words ≡ and_then r (step p word)
  numbered_next r e f h = ap₂ (λ (b c : Bool). by_word b c read) (sym e) (sym f) ∙ ap (λ (x : Result (List ℕ) ℕ). and_then x (step p word)) (sym h)

-- the lines after a line that leads on
pub read_on : (versions number more : ℕ) (p q : Position) (lines rest : List LineText) (l : LineText) → lines ≡ l ∷ rest → more ≡ number + 1
    → line_in versions p l ≡ Ok q
    → read_from versions number p lines ≡ read_from versions more q rest
read_on versions number more p q lines rest l e n h =
    ap (read_from versions number p) e ∙ ap (λ (r : Result Position ℕ). after_line number r (λ q. read_from versions (number + 1) q rest)) h
    ∙ ap (λ (k : ℕ). read_from versions k q rest) (sym n)
