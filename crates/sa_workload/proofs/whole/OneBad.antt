-- Bytes are bad in one line at most, with one cause; the text of a workload is not bad, and two workloads never share one.
use Rattle.std.proofs.Common.{◌≡◌, ◌≢◌, ℕ, ◌+◌, ◌-◌, ◌<◌, ◌≤◌, ◌⊎◌, true, List, [], ◌∷◌, ◌++◌, length, get_or, take, drop, map, All, Option, Some, None, MatchOption, slice_get, arith, refl, sym, ap, ◌∙◌, subst, inl, inr, append_assoc, take-append-drop, length-take}
use Rattle.std.proofs.lemmas.Bool.{cases_lt}
use Rattle.std.proofs.lemmas.List.{map-append, drop_more, take-take, get_or-take}
use Rattle.std.proofs.lemmas.List.Elements.{All-map}
use Rattle.std.proofs.lemmas.Option.{slice_get_past, slice_get_within, slice_get-get_or}
use Rattle.sa_spaces.specs.Workload.{WorkloadView, IsWorkload}
use Rattle.sa_text.specs.LineText.{LineText, ended_line, line_texts}
use Rattle.sa_text.specs.Pieces.{pieces_of}
use Rattle.sa_workload.specs.Text.{workload_lines, text_of}
use Rattle.sa_workload.specs.Bad.{IsUpTo, IsTooMany, field_cause, fields_behind, WordCause, Begins, LineCause, words_of, IsBad}
use Rattle.sa_workload.specs.Laws.{TextsDiffer}
use Rattle.sa_workload.proofs.forward.Completion.{begins_front}
use Rattle.sa_workload.proofs.forward.Standing.{lines-injective}
use Rattle.sa_workload.proofs.whole.TextLemmas.{line_texts-text_of, words_of-text_of}

-- the lines up to one of them
split_at : (ls : List LineText) (i n : ℕ) (line : LineText) → slice_get ls i ≡ Some line → i < n
    → take n ls ≡ take i ls ++ line ∷ drop (i + 1) (take n ls)
split_at ls i n line e below =
    let inside : i < length ls = slice_get_within ls i line e in
    let long : i < length (take n ls) = omega (arith, length-take n ls) in
    let element : get_or (take n ls) i line ≡ line = get_or-take n ls i line below ∙ cc (sym (slice_get-get_or ls i line inside) ∙ e) in
    sym (take-append-drop i (take n ls))
    ∙ ap (λ (xs : List LineText). take i (take n ls) ++ xs) (drop_more (take n ls) i line long ∙ ap (λ (x : LineText). x ∷ drop (i + 1) (take n ls)) element)
    ∙ ap (λ (xs : List LineText). xs ++ line ∷ drop (i + 1) (take n ls)) (take-take i n ls (omega arith))

words_split : (xs : List LineText) (line : LineText) (ys : List LineText)
    → words_of (xs ++ line ∷ ys) ≡ (words_of xs ++ pieces_of line.bytes ∷ []) ++ words_of ys
words_split xs line ys =
    map-append (λ (l : LineText). pieces_of l.bytes) xs (line ∷ ys) ∙ sym (append_assoc (words_of xs) (pieces_of line.bytes ∷ []) (words_of ys))

-- what a bad line says of its place, where it is missing and where it is there
abbrev AtEnd : ℕ → List LineText → ℕ → ℕ → Type 0
AtEnd versions ls k why = (k ≡ length ls + 1) × ((w : WorkloadView) → IsUpTo versions w → workload_lines w ≢ words_of ls) × (why ≡ 9)

abbrev AtLine : ℕ → List LineText → ℕ → ℕ → LineText → Type 0
AtLine versions ls k why line =
    (line.ended ≡ true → ¬ Begins versions (words_of (take (k - 1) ls) ++ pieces_of line.bytes ∷ []))
    × LineCause versions (words_of (take (k - 1) ls)) line why

-- no line is bad after a bad one
bad_before : (versions : ℕ) (ls : List LineText) (k j why cause : ℕ) → IsBad versions ls k why → IsBad versions ls j cause → k < j → ⊥
bad_before versions ls k j why cause a b below = pick (slice_get ls (k - 1)) refl a.wrong
  where
    pick : (o : Option LineText) → slice_get ls (k - 1) ≡ o → MatchOption o (AtEnd versions ls k why) (AtLine versions ls k why) → ⊥
    pick None e x =
        let past : slice_get ls (j - 1) ≡ None = slice_get_past ls (j - 1) (omega (arith, x.0)) in
        let at_end : AtEnd versions ls j cause =
        subst (λ (o : Option LineText). MatchOption o (AtEnd versions ls j cause) (AtLine versions ls j cause)) past b.wrong in
        absurd (omega (arith, x.0, at_end.0))
    pick (Some line) e x =
        let first : 1 ≤ k = a.number in
        let place : k - 1 < j - 1 = omega arith in
        let split : take (j - 1) ls ≡ take (k - 1) ls ++ line ∷ drop (k - 1 + 1) (take (j - 1) ls) = split_at ls (k - 1) (j - 1) line e place in
        let inside : k - 1 < length ls = slice_get_within ls (k - 1) line e in
        let element : get_or (take (j - 1) ls) (k - 1) line ≡ line =
        get_or-take (j - 1) ls (k - 1) line place ∙ cc (sym (slice_get-get_or ls (k - 1) line inside) ∙ e) in
        let ended : line.ended ≡ true =
        subst (λ (l : LineText). l.ended ≡ true) element (b.ended (k - 1) line (omega (arith, length-take (j - 1) ls))) in
        let words : words_of (take (j - 1) ls) ≡ (words_of (take (k - 1) ls) ++ pieces_of line.bytes ∷ []) ++ words_of (drop (k - 1 + 1) (take (j - 1) ls)) =
        ap words_of split ∙ words_split (take (k - 1) ls) line (drop (k - 1 + 1) (take (j - 1) ls)) in
        x.0 ended
        (begins_front versions (words_of (take (k - 1) ls) ++ pieces_of line.bytes ∷ []) (words_of (drop (k - 1 + 1) (take (j - 1) ls)))
        (subst (λ (ws : List (List (List ℕ))). Begins versions ws) words b.begins))

-- the words of a line have one cause
causes-are_one : (versions : ℕ) (lines : List (List (List ℕ))) (line : List (List ℕ)) (why cause : ℕ)
    → WordCause versions lines line why → WordCause versions lines line cause → why ≡ cause
causes-are_one versions lines [] why cause a b = absurd a
causes-are_one versions lines (word ∷ words) why cause (inl a) (inl b) = a.1 ∙ sym b.1
causes-are_one versions lines (word ∷ words) why cause (inl a) (inr b) = absurd (a.0 b.0)
causes-are_one versions lines (word ∷ words) why cause (inr a) (inl b) = absurd (b.0 a.0)
causes-are_one versions lines (word ∷ words) why cause (inr a) (inr b) = pick a.1 b.1
  where
    Behind : ℕ → Type 0
    Behind n =
        (IsTooMany lines word × (n ≡ 8)) ⊎ ((¬ IsTooMany lines word) × (field_cause lines (fields_behind versions lines word) word words ≡ n))

    pick : Behind why → Behind cause → why ≡ cause
    pick (inl x) (inl y) = x.1 ∙ sym y.1
    pick (inl x) (inr y) = absurd (y.0 x.0)
    pick (inr x) (inl y) = absurd (x.0 y.0)
    pick (inr x) (inr y) = sym x.1 ∙ y.1

line_cause_one : (versions : ℕ) (lines : List (List (List ℕ))) (line : LineText) (why cause : ℕ)
    → LineCause versions lines line why → LineCause versions lines line cause → why ≡ cause
line_cause_one versions lines line why cause (inl a) (inl b) = a.1 ∙ sym b.1
line_cause_one versions lines line why cause (inl a) (inr b) = absurd (a.0 b.0)
line_cause_one versions lines line why cause (inr a) (inl b) = absurd (b.0 a.0)
line_cause_one versions lines line why cause (inr (p, inl a)) (inr (q, inl b)) = a.1 ∙ sym b.1
line_cause_one versions lines line why cause (inr (p, inl a)) (inr (q, inr b)) = absurd (cc (sym a.0 ∙ b.0))
line_cause_one versions lines line why cause (inr (p, inr a)) (inr (q, inl b)) = absurd (cc (sym a.0 ∙ b.0))
line_cause_one versions lines line why cause (inr (p, inr a)) (inr (q, inr b)) =
    causes-are_one versions lines (pieces_of line.bytes) why cause a.1 b.1

bad_same : (versions : ℕ) (ls : List LineText) (k why cause : ℕ) → IsBad versions ls k why → IsBad versions ls k cause → why ≡ cause
bad_same versions ls k why cause a b = pick (slice_get ls (k - 1)) a.wrong b.wrong
  where
    pick : (o : Option LineText) → MatchOption o (AtEnd versions ls k why) (AtLine versions ls k why)
        → MatchOption o (AtEnd versions ls k cause) (AtLine versions ls k cause) → why ≡ cause
    pick None x y = x.2 ∙ sym y.2
    pick (Some line) x y = line_cause_one versions (words_of (take (k - 1) ls)) line why cause x.1 y.1

-- some lines are bad in one line at most, with one cause
pub one-bad : (versions : ℕ) (ls : List LineText) (k j why cause : ℕ) → IsBad versions ls k why → IsBad versions ls j cause
    → (k ≡ j) × (why ≡ cause)
one-bad versions ls k j why cause a b = pick (cases_lt k j) (cases_lt j k)
  where
    pick : (k < j) ⊎ (j ≤ k) → (j < k) ⊎ (k ≤ j) → (k ≡ j) × (why ≡ cause)
    pick (inl l) _ = absurd (bad_before versions ls k j why cause a b l)
    pick (inr m) (inl l) = absurd (bad_before versions ls j k cause why b a l)
    pick (inr m) (inr n) =
        let e : k ≡ j = omega arith in
        (e, bad_same versions ls k why cause a (subst (λ (i : ℕ). IsBad versions ls i cause) (sym e) b))

-- lines that are those of a workload are not bad
pub lines-not_bad : (versions : ℕ) (ls : List LineText) (w : WorkloadView) (k why : ℕ) → IsUpTo versions w → workload_lines w ≡ words_of ls
    → All (λ (l : LineText). l.ended ≡ true) ls → ¬ IsBad versions ls k why
lines-not_bad versions ls w k why accepted e ended a = pick (slice_get ls (k - 1)) refl a.wrong
  where
    pick : (o : Option LineText) → slice_get ls (k - 1) ≡ o → MatchOption o (AtEnd versions ls k why) (AtLine versions ls k why) → ⊥
    pick None f x = x.1 w accepted e
    pick (Some line) f x =
        let inside : k - 1 < length ls = slice_get_within ls (k - 1) line f in
        let element : get_or ls (k - 1) line ≡ line = cc (sym (slice_get-get_or ls (k - 1) line inside) ∙ f) in
        let whole : ls ≡ take (k - 1) ls ++ line ∷ drop (k - 1 + 1) ls =
        sym (take-append-drop (k - 1) ls)
        ∙ ap (λ (xs : List LineText). take (k - 1) ls ++ xs) (drop_more ls (k - 1) line inside ∙ ap (λ (l : LineText). l ∷ drop (k - 1 + 1) ls) element) in
        x.0 (subst (λ (l : LineText). l.ended ≡ true) element (ended (k - 1) line inside))
        (record {
          workload = w;
          accepted = accepted;
          more = words_of (drop (k - 1 + 1) ls);
          text = e ∙ ap words_of whole ∙ words_split (take (k - 1) ls) line (drop (k - 1 + 1) ls);
        })

ended_lines : (lines : List (List (List ℕ))) → All (λ (l : LineText). l.ended ≡ true) (map ended_line lines)
ended_lines lines = All-map (λ (l : LineText). l.ended ≡ true) ended_line lines (λ k d h. refl)

-- a text is not bad, by any versions that its workload is of
pub text-not_bad : (versions : ℕ) (bytes : List ℕ) (w : WorkloadView) (k why : ℕ) → IsUpTo versions w → IsWorkload w → bytes ≡ text_of w
    → ¬ IsBad versions (line_texts bytes) k why
text-not_bad versions bytes w k why accepted is e =
    let lines : line_texts bytes ≡ map ended_line (workload_lines w) = ap line_texts e ∙ line_texts-text_of w is in
    lines-not_bad versions (line_texts bytes) w k why accepted (sym (ap (λ (bs : List ℕ). words_of (line_texts bs)) e ∙ words_of-text_of w is))
    (subst (All (λ (l : LineText). l.ended ≡ true)) (sym lines) (ended_lines (workload_lines w)))

-- two workloads never share a text: their lines would be the same
pub texts_differ : TextsDiffer
texts_differ bytes v w a b =
    lines-injective v w a.workload b.workload
    (sym (words_of-text_of v a.workload) ∙ ap (λ (bs : List ℕ). words_of (line_texts bs)) (sym a.text ∙ b.text) ∙ words_of-text_of w b.workload)
