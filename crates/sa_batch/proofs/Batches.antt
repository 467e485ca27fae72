-- Batches, seen by their notices.
use Rattle.std.proofs.Common.{◌≡◌, ℕ, ◌<◌, ◌≤◌, List, [], ◌∷◌, ◌++◌, ◌+◌, map, replicate, get_or, length, slice_set, sym, ap, ◌∙◌, arith}
use Rattle.std.proofs.lemmas.List.{map-set, map-append, replicate-append-replicate, get_or-map, set-get_or}
use Rattle.std.proofs.lemmas.List.Elements.{All-set}
use Rattle.sa_base.specs.declared.record.Note.{Note}
use Rattle.sa_batch.specs.Noted.{Noted}
use Rattle.sa_batch.specs.Notices.{notes_of, HaveRoom}

-- what a batch of the list holds
pub notes-at : (bs : List Noted) (i : ℕ) (b : Noted) → i < length bs → b ≡ get_or bs i b → b.notes ≡ get_or (map notes_of bs) i []
notes-at bs i b within here = ap notes_of here ∙ sym (get_or-map notes_of bs i b [] within)

-- a batch is another
pub notes-set : (bs : List Noted) (i : ℕ) (b : Noted) (notes : List Note) → b.notes ≡ notes
    → map notes_of (slice_set bs i b) ≡ slice_set (map notes_of bs) i notes
notes-set bs i b notes is = map-set notes_of bs i b ∙ ap (slice_set (map notes_of bs) i) is

-- a batch holds a notice more
pub notes-added : (bs : List Noted) (i : ℕ) (b new : Noted) (note : Note) → i < length bs → b ≡ get_or bs i b → new.notes ≡ b.notes ++ note ∷ []
    → map notes_of (slice_set bs i new) ≡ slice_set (map notes_of bs) i (get_or (map notes_of bs) i [] ++ note ∷ [])
notes-added bs i b new note within here more =
    notes-set bs i new _ (more ∙ ap (λ ns. ns ++ note ∷ []) (notes-at bs i b within here))

-- a batch holds the same notices
pub notes-kept : (bs : List Noted) (i : ℕ) (b new : Noted) → i < length bs → b ≡ get_or bs i b → new.notes ≡ b.notes
    → map notes_of (slice_set bs i new) ≡ map notes_of bs
notes-kept bs i b new within here same =
    notes-set bs i new _ (same ∙ notes-at bs i b within here) ∙ set-get_or (map notes_of bs) i []

-- a batch has no less room
pub room-grown : (k : ℕ) (bs : List Noted) (i : ℕ) (b new : Noted) → i < length bs → b ≡ get_or bs i b → b.spare ≤ new.spare
    → HaveRoom k bs → HaveRoom k (slice_set bs i new)
room-grown k bs i b new within here more each =
    let had : k ≤ (get_or bs i b).spare = each i b within in
    let is : b.spare ≡ (get_or bs i b).spare = ap (λ (x : Noted). x.spare) here in
    All-set (λ (x : Noted). k ≤ x.spare) bs i new (omega arith) each

-- one more batch without notices
pub one-more-empty : (bs : List Noted) (b : Noted) (n : ℕ) → b.notes ≡ [] → map notes_of bs ≡ replicate n []
    → map notes_of (bs ++ b ∷ []) ≡ replicate (n + 1) []
one-more-empty bs b n none others =
    map-append notes_of bs (b ∷ []) ∙ ap (λ (ns : List Note). map notes_of bs ++ ns ∷ []) none ∙ ap (λ (nss : List (List Note)). nss ++ [] ∷ []) others
    ∙ replicate-append-replicate n 1 []

-- each batch has room for none more
pub room-for-none : (bs : List Noted) → HaveRoom 0 bs
room-for-none bs = λ i b within. omega arith
