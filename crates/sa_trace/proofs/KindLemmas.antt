-- Each kind is in the list of the kinds, and no two have one word.
use Rattle.std.proofs.Common.{◌≡◌, ℕ, ◌<◌, ◌≤◌, Bool, true, ◌&&◌, leb, false, Option, Some, None, List, [], ◌∷◌, length, get_or, refl, sym, ap, subst, ◌∙◌, find, cond, IfSome}
use Rattle.std.specs.Prelude.{IfNone, codes}
use Rattle.std.proofs.lemmas.Bool.{ltb-true, leb-true, and_parts, false_from_ne_true}
use Rattle.std.proofs.lemmas.Option.{same_Some}
use Rattle.std.proofs.lemmas.Slice.Eq.{bytes_eq-Decides}
use Rattle.sa_trace.specs.declared.kind.Kind.{Kind}
use Rattle.sa_trace.specs.declared.kind.Kind.TheVariants.{Ins, Out, Run, Stop, Block, Unblock, Cont, Back, Ready, Take, Free, Up, ToldAdd, ToldPreempted, ToldBlocked, ToldUnblocked, Move, Want, Aim, Line, Fetch, Fetched, GiveBack, Idle, Spin, Tick}
use Rattle.sa_trace.specs.declared.kind.TheConstants.{KINDS}
use Rattle.sa_trace.specs.Kind.{Written, form_of, IsNoWord}
use Rattle.sa_trace.specs.Pieces.{has_word, known, with_rest, note_at, kind_at}
use Rattle.sa_base.specs.declared.refusal.Cause.TheVariants.{BadWord}
use Rattle.std.specs.Option.{ok_or}
use Rattle.std.specs.Str.{bytes_eq}

-- the place of a kind in the list
pub place_of : (kind : Kind) → (k : ℕ) × (k < 26) × (get_or KINDS k Tick ≡ kind)
place_of Ins = (0, ltb-true 0 26 refl, refl)
place_of Out = (1, ltb-true 1 26 refl, refl)
place_of Run = (2, ltb-true 2 26 refl, refl)
place_of Stop = (3, ltb-true 3 26 refl, refl)
place_of Block = (4, ltb-true 4 26 refl, refl)
place_of Unblock = (5, ltb-true 5 26 refl, refl)
place_of Cont = (6, ltb-true 6 26 refl, refl)
place_of Back = (7, ltb-true 7 26 refl, refl)
place_of Ready = (8, ltb-true 8 26 refl, refl)
place_of Take = (9, ltb-true 9 26 refl, refl)
place_of Free = (10, ltb-true 10 26 refl, refl)
place_of Up = (11, ltb-true 11 26 refl, refl)
place_of ToldAdd = (12, ltb-true 12 26 refl, refl)
place_of ToldPreempted = (13, ltb-true 13 26 refl, refl)
place_of ToldBlocked = (14, ltb-true 14 26 refl, refl)
place_of ToldUnblocked = (15, ltb-true 15 26 refl, refl)
place_of Move = (16, ltb-true 16 26 refl, refl)
place_of Want = (17, ltb-true 17 26 refl, refl)
place_of Aim = (18, ltb-true 18 26 refl, refl)
place_of Line = (19, ltb-true 19 26 refl, refl)
place_of Fetch = (20, ltb-true 20 26 refl, refl)
place_of Fetched = (21, ltb-true 21 26 refl, refl)
place_of GiveBack = (22, ltb-true 22 26 refl, refl)
place_of Idle = (23, ltb-true 23 26 refl, refl)
place_of Spin = (24, ltb-true 24 26 refl, refl)
place_of Tick = (25, ltb-true 25 26 refl, refl)

-- the kind of a word
kind_of : List ℕ → Option Kind
kind_of word = find (has_word word) KINDS

found : (kind : Kind) → kind_of (form_of kind).word ≡ Some kind
unfolding kind_of
found Ins = refl
found _ = refl

pub words-differ : (a b : Kind) → (form_of a).word ≡ (form_of b).word → a ≡ b
words-differ a b same = same_Some a b (sym (found a) ∙ ap kind_of same ∙ found b)

none-found : (word : List ℕ) → IsNoWord word → (kinds : List Kind) → find (has_word word) kinds ≡ None
none-found word none [] = refl
none-found word none (kind ∷ kinds) =
    ap (λ t. cond t (Some kind) (find (has_word word) kinds))
    (false_from_ne_true (has_word word kind) (λ same. none kind ((bytes_eq-Decides (form_of kind).word word).0 same)))
    ∙ none-found word none kinds

unknown : (word : List ℕ) → IsNoWord word → kind_of word ≡ None
unfolding kind_of
unknown word none = none-found word none KINDS

first-of-word : (word : List ℕ) (o : Option Kind) → IfSome o (λ kind. (form_of kind).word ≡ word) → IfNone o (IsNoWord word) → kind_of word ≡ o
first-of-word word None some none = unknown word none
first-of-word word (Some kind) same none = subst (λ w. kind_of w ≡ Some kind) same (found kind)

known-by-word : (word : List ℕ) (rest : List (List ℕ)) (o : Option Kind) → IfSome o (λ kind. (form_of kind).word ≡ word)
    → IfNone o (IsNoWord word) → known (find (has_word word) KINDS) rest ≡ known o rest
unfolding kind_of
known-by-word word rest o some none = ap (λ k. known k rest) (first-of-word word o some none)

known-or : (o : Option Kind) (rest : List (List ℕ)) → known o rest ≡ with_rest (ok_or o BadWord) rest
known-or None rest = refl
known-or (Some kind) rest = refl

-- the kind of the first of some pieces, where that is no notice, is the one whose word it is
pub kind-by-word : (pieces rest : List (List ℕ)) (word : List ℕ) (o : Option Kind) → pieces ≡ word ∷ rest → bytes_eq word (codes "told") ≡ false
    → IfSome o (λ kind. (form_of kind).word ≡ word) → IfNone o (IsNoWord word) → with_rest (ok_or o BadWord) rest ≡ kind_at pieces
kind-by-word pieces rest word o e other some none =
    sym (ap kind_at e
    ∙ ap (λ t. cond t (note_at rest) (known (find (has_word word) KINDS) rest)) other
    ∙ known-by-word word rest o some none
    ∙ known-or o rest)

-- the number is one of 23, and there are few fields and a short word
abbrev is_bounded : Written → Bool
is_bounded w = leb 1 w.number && (leb w.number 23 && (leb (length w.fields) 4 && leb (length w.word) 14))

bounded : (kind : Kind) → is_bounded (form_of kind) ≡ true
bounded Tick = refl
bounded _ = refl

-- the bounds of how a kind is written
pub bounds : (kind : Kind) → (1 ≤ (form_of kind).number) × ((form_of kind).number ≤ 23)
    × (length (form_of kind).fields ≤ 4) × (length (form_of kind).word ≤ 14)
bounds kind =
    let a = and_parts _ _ (bounded kind) in
    let b = and_parts _ _ a.1 in
    let d = and_parts _ _ b.1 in
    (leb-true _ _ a.0, leb-true _ _ b.0, leb-true _ _ d.0, leb-true _ _ d.1)
