-- A record has one spelling in pieces, which is read back.
use Rattle.std.proofs.Common.{◌≡◌, ℕ, true, List, [], ◌∷◌, ◌++◌, map, find, Option, Some, None, Ok, refl, sym, ap, ◌∙◌, subst, inl, inr}
use Rattle.std.specs.Prelude.{All, codes}
use Rattle.std.specs.Str.{bytes_eq}
use Rattle.std.proofs.lemmas.Bool.{false≢true}
use Rattle.std.proofs.lemmas.Slice.Eq.{bytes_eq-Decides}
use Rattle.std.proofs.lemmas.List.Elements.{All-head}
use Rattle.sa_trace.specs.declared.kind.Kind.{Kind}
use Rattle.sa_trace.specs.declared.kind.Kind.TheVariants.{Ins, ToldAdd, ToldPreempted, ToldBlocked, ToldUnblocked}
use Rattle.sa_trace.specs.declared.kind.TheConstants.{KINDS}
use Rattle.sa_base.specs.declared.record.Record.{Record}
use Rattle.sa_base.specs.declared.refusal.Cause.TheVariants.{OutOfRange}
use Rattle.sa_trace.specs.Kind.{form_of}
use Rattle.sa_trace.specs.Parts.{parts_of, record_of, FitTheKind}
use Rattle.sa_trace.proofs.PartsLemmas.{remade, parts-back}
use Rattle.sa_text.specs.Pieces.{pieces_of, LacksSpace}
use Rattle.sa_text.proofs.PieceLemmas.{pieces_of-one}
use Rattle.sa_lemmas.proofs.Booleans.{if_either}
use Rattle.sa_lemmas.proofs.Searches.{find-passes}
use Rattle.sa_trace.specs.Pieces.{and_then, or_cause, fields_in, has_word, has_note, known, note_at, kind_at}
use Rattle.sa_trace.specs.Line.{record_by, record_in}
use Rattle.sa_trace.proofs.Readings.{and_then-ok, or_cause-ok, same_Ok, piece, fields_in-ok, fields_in-pieces}

-- the word of a kind in pieces, which are two for a notice
abbrev pub word_pieces : Kind → List (List ℕ)
word_pieces kind = pieces_of (form_of kind).word

note_word : (note v : List ℕ) → bytes_eq note v ≡ true → codes "told" ∷ note ∷ [] ≡ codes "told" ∷ v ∷ []
note_word note v h = ap (λ w. codes "told" ∷ w ∷ []) ((bytes_eq-Decides note v).0 h)

-- the kind of a notice has two pieces
note-pieces : (kind : Kind) (v : List ℕ) → has_note v kind ≡ true → word_pieces kind ≡ codes "told" ∷ v ∷ []
note-pieces ToldAdd v h = note_word (codes "add") v h
note-pieces ToldPreempted v h = note_word (codes "preempted") v h
note-pieces ToldBlocked v h = note_word (codes "blocked") v h
note-pieces ToldUnblocked v h = note_word (codes "unblocked") v h
note-pieces _ v h = absurd (false≢true h)

known-ok : (o : Option Kind) (rest : List (List ℕ)) (found : Kind × List (List ℕ)) → known o rest ≡ Ok found → (o ≡ Some found.0) × (rest ≡ found.1)
known-ok None rest found h = absurd cc
known-ok (Some kind) rest found h =
    let e : (kind, rest) ≡ found = same_Ok (kind, rest) found h in (ap (λ f. Some f.0) e, ap (λ f. f.1) e)

missing_no_kind : (found : Kind × List (List ℕ)) → note_at [] ≡ Ok found → ⊥
missing_no_kind found h = absurd cc

by_word : (w : List ℕ) (rest : List (List ℕ)) (found : Kind × List (List ℕ)) → LacksSpace w → known (find (has_word w) KINDS) rest ≡ Ok found
    → w ∷ rest ≡ word_pieces found.0 ++ found.1
by_word w rest found lacks h =
    let is = known-ok (find (has_word w) KINDS) rest found h in
    let word : (form_of found.0).word ≡ w = (bytes_eq-Decides (form_of found.0).word w).0 (find-passes (has_word w) KINDS found.0 is.0) in
    ap (λ r. w ∷ r) is.1 ∙ ap (λ ps. ps ++ found.1) (sym (ap pieces_of word ∙ pieces_of-one w lacks))

-- the pieces of a kind that is read, and those after them
pub kind_at-ok : (ps : List (List ℕ)) (found : Kind × List (List ℕ)) → All LacksSpace ps → kind_at ps ≡ Ok found → ps ≡ word_pieces found.0 ++ found.1
kind_at-ok [] found lacks h = absurd cc
kind_at-ok (w ∷ []) found lacks h =
    elim (if_either (bytes_eq w (codes "told")) (note_at []) (known (find (has_word w) KINDS) []) (Ok found) h) [
      | inl told ↦ absurd (missing_no_kind found told.1)
      | inr other ↦ by_word w [] found (All-head LacksSpace w [] lacks) other.1
    ]
kind_at-ok (w ∷ v ∷ rest) found lacks h =
    elim (if_either (bytes_eq w (codes "told")) (note_at (v ∷ rest)) (known (find (has_word w) KINDS) (v ∷ rest)) (Ok found) h) [
      | inl told ↦
          let is = known-ok (find (has_note v) KINDS) rest found told.1 in
          ap (λ x. x ∷ v ∷ rest) ((bytes_eq-Decides w (codes "told")).0 told.0)
          ∙ ap (λ r. codes "told" ∷ v ∷ r) is.1
          ∙ ap (λ ps. ps ++ found.1) (sym (note-pieces found.0 v (find-passes (has_note v) KINDS found.0 is.0)))
      | inr other ↦ by_word w (v ∷ rest) found (All-head LacksSpace w (v ∷ rest) lacks) other.1
    ]

-- the pieces of each kind are read as the kind
pub kind_at-pieces : (kind : Kind) (rest : List (List ℕ)) → kind_at (word_pieces kind ++ rest) ≡ Ok (kind, rest)
kind_at-pieces Ins rest = refl
kind_at-pieces _ rest = refl

-- a record in pieces: its kind's word, and its fields
abbrev pub record_pieces : Record → List (List ℕ)
record_pieces what = word_pieces (parts_of what).kind ++ map piece (parts_of what).fields

pub record_in-ok : (ps : List (List ℕ)) (what : Record) → All LacksSpace ps → record_in ps ≡ Ok what → (ps ≡ record_pieces what) × FitTheKind (parts_of what)
record_in-ok ps what lacks h =
    let found = and_then-ok (kind_at ps) (λ found. record_by found.0 found.1) what h in
    let kind = found.0.0 in
    let values = and_then-ok (fields_in (form_of kind).fields found.0.1) (λ fields. or_cause (record_of kind fields) OutOfRange) what found.2 in
    let made = parts-back kind values.0 what (or_cause-ok (record_of kind values.0) OutOfRange what values.2) in
    let read = fields_in-ok (form_of kind).fields found.0.1 values.0 values.1 in
    subst (λ p. (ps ≡ word_pieces p.kind ++ map piece p.fields) × FitTheKind p) (sym made)
    (kind_at-ok ps found.0 lacks found.1 ∙ ap (λ rest. word_pieces kind ++ rest) read.0, read.1)

pub record_in-pieces : (what : Record) → FitTheKind (parts_of what) → record_in (record_pieces what) ≡ Ok what
record_in-pieces what h =
    ap (λ r. and_then r (λ found. record_by found.0 found.1)) (kind_at-pieces (parts_of what).kind (map piece (parts_of what).fields))
    ∙ ap (λ r. and_then r (λ fields. or_cause (record_of (parts_of what).kind fields) OutOfRange))
    (fields_in-pieces (form_of (parts_of what).kind).fields (parts_of what).fields h)
    ∙ ap (λ o. or_cause o OutOfRange) (remade what h)
