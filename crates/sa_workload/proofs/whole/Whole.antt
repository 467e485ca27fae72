-- A text is read as its workload, or as what is bad in it.
use Rattle.std.proofs.Common.{◌≡◌, ◌≢◌, ℕ, ◌+◌, ◌-◌, ◌<◌, ◌≤◌, ◌&&◌, ◌⊎◌, true, List, [], ◌∷◌, ◌++◌, length, take, All, Option, Result, Ok, Err, MatchOption, MatchResult, IfOk, IfErr, slice_get, leb, leb-true, le-leb, refl, sym, ap, ◌∙◌, subst, inl, inr, arith, append_assoc, append-nil, length-append}
use Rattle.std.proofs.Math.Seq.{take-append_seam}
use Rattle.std.specs.Bool.{Decides}
use Rattle.std.proofs.lemmas.Bool.{false≢true}
use Rattle.std.proofs.lemmas.Bool.Decides.{Decides-and, Decides-by_and, not_from_Decides}
use Rattle.std.proofs.lemmas.List.{map-append}
use Rattle.std.proofs.lemmas.List.Elements.{All-nil, All-push, All-head, All-tail}
use Rattle.std.proofs.lemmas.List.Splits.{join_with_byte-slice_split}
use Rattle.std.proofs.lemmas.Option.{slice_get_past}
use Rattle.sa_lemmas.proofs.ListUpdates.{slice_get-append_seam}
use Rattle.sa_base.specs.declared.refusal.Bad.{Bad}
use Rattle.sa_base.specs.declared.refusal.Unread.{Unread}
use Rattle.sa_base.specs.declared.refusal.Unread.TheVariants.{Bad as refuses, OutOfMemory}
use Rattle.sa_spaces.specs.Workload.{WorkloadView}
use Rattle.sa_text.specs.LineText.{LineText, line_texts}
use Rattle.sa_text.specs.Pieces.{pieces_of}
use Rattle.sa_text.proofs.PieceLemmas.{pieces_of-are_pieces}
use Rattle.sa_workload.specs.Text.{workload_lines, IsText, IsText1}
use Rattle.sa_workload.specs.Answer.{IfBad}
use Rattle.sa_workload.specs.Bad.{IsUpTo, Begins, IsPrinted, LineCause, WordCause, IsBad, BadAt, BadAt1, words_of}
use Rattle.sa_workload.specs.Position.{Position, AtVersion, Closed, IsReached, shown}
use Rattle.sa_workload.specs.Next.{next}
use Rattle.sa_text.specs.Pieces.{is_printed}
use Rattle.sa_lemmas.proofs.Booleans.{if_either}
use Rattle.sa_workload.specs.Reading.{line_in, finished, after_line, read_from, read_of, IsReading}
use Rattle.sa_workload.proofs.fields.FieldLemmas.{same_err}
use Rattle.sa_workload.proofs.forward.Standing.{IsAt, Setting, any, alone, of_any, of_first, is_first, at_first, at_next, begins, whole_lines}
use Rattle.sa_workload.proofs.forward.Sound.{took, sound}
use Rattle.sa_workload.proofs.causes.Causes.{word_cause, refused}
use Rattle.sa_workload.proofs.whole.TextLemmas.{IsWords, workload-words, join-printed, text_of-from_words}
use Rattle.sa_workload.proofs.whole.OneBad.{one-bad, text-not_bad, texts_differ}

-- printed bytes
printed-Decides : (bytes : List ℕ) → Decides (is_printed bytes) (IsPrinted bytes)
printed-Decides =
    Decides-by_and (λ b. leb 32 b && leb b 126) (λ b. (32 ≤ b) × (b ≤ 126)) is_printed
    (λ b. Decides-and _ _ (leb-true 32 b, le-leb 32 b) (leb-true b 126, le-leb b 126)) refl (λ b bs. refl)

All-behind : {X : Type 0} (P : X → Type 0) (xs ys : List X) → All P (xs ++ ys) → All P ys
All-behind P [] ys h = h
All-behind P (x ∷ xs) ys h = All-behind P xs ys (All-tail P x (xs ++ ys) h)

-- a line with which a text goes on is printed
printed_where_begins : (versions : ℕ) → Setting versions → (lines : List (List (List ℕ))) (bytes : List ℕ)
    → Begins versions (lines ++ pieces_of bytes ∷ []) → IsPrinted bytes
printed_where_begins versions s lines bytes b =
    let all : All IsWords (workload_lines b.workload) = workload-words b.workload b.accepted.workload in
    let text : workload_lines b.workload ≡ lines ++ pieces_of bytes ∷ b.more = b.text ∙ append_assoc lines (pieces_of bytes ∷ []) b.more in
    let here : All IsWords (pieces_of bytes ∷ b.more) = All-behind IsWords lines (pieces_of bytes ∷ b.more) (subst (All IsWords) text all) in
    subst (λ (bs : List ℕ). IsPrinted bs) (join_with_byte-slice_split 32 bytes)
    (join-printed (pieces_of bytes) (All-head IsWords (pieces_of bytes) b.more here).1)

-- what is wrong with the line after some lines
abbrev IsBadLine : ℕ → List (List (List ℕ)) → LineText → ℕ → Type 0
IsBadLine versions lines l why = (l.ended ≡ true → ¬ Begins versions (lines ++ pieces_of l.bytes ∷ [])) × LineCause versions lines l why

words_cause : (versions : ℕ) → Setting versions → (p : Position) (line : List (List ℕ)) (why : ℕ) → IsAt versions p → 0 < length line
    → next versions p line ≡ Err why → WordCause versions (shown p) line why
words_cause versions s p [] why a some h = absurd (omega arith)
words_cause versions s p (word ∷ words) why a some h = word_cause versions s p word words why a h

bad_line : (versions : ℕ) → Setting versions → (p : Position) (l : LineText) (why : ℕ) → IsAt versions p → line_in versions p l ≡ Err why
    → IsBadLine versions (shown p) l why
bad_line versions s p l why a h =
    elim (if_either (is_printed l.bytes) _ (Err 1) (Err why) h) [
      | inr odd ↦
          let not : ¬ IsPrinted l.bytes = not_from_Decides _ (printed-Decides l.bytes) odd.0 in
          ((λ e b. not (printed_where_begins versions s (shown p) l.bytes b)), inl (not, sym (same_err {A = Position} 1 why odd.1)))
      | inl fine ↦ elim (if_either l.ended (next versions p (pieces_of l.bytes)) (Err 9) (Err why) fine.1) [
        | inr unended ↦ (
          (λ e. absurd (false≢true (sym unended.0 ∙ e))),
          inr ((printed-Decides l.bytes).0 fine.0, inl (unended.0, sym (same_err {A = Position} 9 why unended.1))),
        )
        | inl ended ↦ (
          (λ _. refused versions s p (pieces_of l.bytes) why a ended.1),
          inr (
            (printed-Decides l.bytes).0 fine.0,
            inr (ended.0, words_cause versions s p (pieces_of l.bytes) why a (pieces_of-are_pieces l.bytes).some ended.1),
          ),
        )
      ]
    ]

right_line : (versions : ℕ) (p q : Position) (l : LineText) → line_in versions p l ≡ Ok q → (l.ended ≡ true) × (next versions p (pieces_of l.bytes) ≡ Ok q)
right_line versions p q l h =
    elim (if_either (is_printed l.bytes) _ (Err 1) (Ok q) h) [
      | inr odd ↦ absurd (cc (odd.1))
      | inl fine ↦ elim (if_either l.ended (next versions p (pieces_of l.bytes)) (Err 9) (Ok q) fine.1) [
        | inr unended ↦ absurd (cc (unended.1))
        | inl ended ↦ ended
      ]
    ]

-- a reader is after these lines, each ended
abbrev Ended : LineText → Type 0
Ended l = l.ended ≡ true

record IsBehind (versions : ℕ) (p : Position) (front : List LineText) : Type 0 where
  at : IsAt versions p
  ended : All Ended front
  lines : shown p ≡ words_of front

-- the place of a bad line, whether it is there or missing
abbrev IsWrong : ℕ → List LineText → List LineText → ℕ → ℕ → Option LineText → Type 0
IsWrong versions ls front k why o =
    MatchOption o ((k ≡ length ls + 1) × ((w : WorkloadView) → IsUpTo versions w → workload_lines w ≢ words_of ls) × (why ≡ 9))
    (λ line. IsBadLine versions (words_of front) line why)

bad_behind : (versions : ℕ) → Setting versions → (p : Position) (front rest : List LineText) (why : ℕ) → IsBehind versions p front
    → IsWrong versions (front ++ rest) front (length front + 1) why (slice_get (front ++ rest) (length front))
    → IsBad versions (front ++ rest) (length front + 1) why
bad_behind versions s p front rest why h wrong =
    let place : length front + 1 - 1 ≡ length front = omega arith in
    let taken : take (length front + 1 - 1) (front ++ rest) ≡ front = ap (λ (n : ℕ). take n (front ++ rest)) place ∙ take-append_seam front rest in
    record {
      number = omega arith;
      ended = subst (All Ended) (sym taken) h.ended;
      begins = subst (λ (ls : List LineText). Begins versions (words_of ls)) (sym taken) (subst (Begins versions) h.lines (begins versions s p h.at));
      wrong =
          subst (λ (ls : List LineText). IsWrong versions (front ++ rest) ls (length front + 1) why (slice_get (front ++ rest) (length front + 1 - 1)))
          (sym taken)
          (subst (λ (n : ℕ). IsWrong versions (front ++ rest) front (length front + 1) why (slice_get (front ++ rest) n)) (sym place) wrong);
    }

-- what some lines are read as
abbrev IsOutcome : ℕ → List LineText → Result WorkloadView Bad → Type 0
IsOutcome versions ls (Ok w) = (workload_lines w ≡ words_of ls) × All Ended ls × IsReached versions (Closed w)
IsOutcome versions ls (Err bad) = IsBad versions ls bad.line bad.why

missing : (versions : ℕ) → Setting versions → (p : Position) (front : List LineText) → IsBehind versions p front → ((w : WorkloadView) → p ≢ Closed w)
    → IsBad versions (front ++ []) (length front + 1) 9
missing versions s p front h still =
    bad_behind versions s p front [] 9 h
    (subst (IsWrong versions (front ++ []) front (length front + 1) 9)
    (sym (slice_get_past (front ++ []) (length front) (omega (arith, ap length (append-nil front))))) (
      omega (arith, ap length (append-nil front)),
      (λ w a e. still w (whole_lines versions s p w h.at a (e ∙ ap words_of (append-nil front) ∙ sym h.lines))),
      refl,
    ))

ends : (versions : ℕ) → Setting versions → (p : Position) (front : List LineText) → IsBehind versions p front
    → IsOutcome versions (front ++ []) (finished (length front + 1) p)
ends versions s (Closed w) front h =
    (h.lines ∙ ap words_of (sym (append-nil front)), subst (All Ended) (sym (append-nil front)) h.ended, h.at.reached)
ends versions s p front h = missing versions s p front h (λ w e. absurd (cc e))

one_more : (versions : ℕ) → versions ≤ 3 → (p q : Position) (front : List LineText) (l : LineText) → IsBehind versions p front → line_in versions p l ≡ Ok q
    → IsBehind versions q (front ++ l ∷ [])
one_more versions three p q front l h e =
    let r = right_line versions p q l e in
    let a = at_next versions three p q (pieces_of l.bytes) h.at r.1 in
    record {
      at = a.0;
      ended = All-push Ended front l h.ended r.0;
      lines = a.1 ∙ ap (λ (ls : List (List (List ℕ))). ls ++ pieces_of l.bytes ∷ []) h.lines
          ∙ sym (map-append (λ (x : LineText). pieces_of x.bytes) front (l ∷ []));
    }

outcome : (versions : ℕ) → Setting versions → (rest front : List LineText) (p : Position) → IsBehind versions p front
    → IsOutcome versions (front ++ rest) (read_from versions (length front + 1) p rest)
outcome versions s [] front p h = ends versions s p front h
outcome versions s (l ∷ rest) front p h = by_line (line_in versions p l) refl (λ q k. outcome versions s rest (front ++ l ∷ []) q k)
  where
    by_line : (r : Result Position ℕ) → line_in versions p l ≡ r
        → ((q : Position) → IsBehind versions q (front ++ l ∷ [])
        → IsOutcome versions ((front ++ l ∷ []) ++ rest) (read_from versions (length (front ++ l ∷ []) + 1) q rest))
        → IsOutcome versions (front ++ l ∷ rest) (after_line (length front + 1) r (λ q. read_from versions (length front + 1 + 1) q rest))
    by_line (Ok q) e later =
        let n : length (front ++ l ∷ []) + 1 ≡ length front + 1 + 1 = omega (arith, length-append front (l ∷ [])) in
        subst (λ (ls : List LineText). IsOutcome versions ls (read_from versions (length front + 1 + 1) q rest)) (append_assoc front (l ∷ []) rest)
        (subst (λ (k : ℕ). IsOutcome versions ((front ++ l ∷ []) ++ rest) (read_from versions k q rest)) n (later q (one_more versions s.few p q front l h e)))
    by_line (Err why) e later =
        bad_behind versions s p front (l ∷ rest) why h
        (subst (IsWrong versions (front ++ l ∷ rest) front (length front + 1) why) (sym (slice_get-append_seam front rest l))
        (subst (λ (ls : List (List (List ℕ))). IsBadLine versions ls l why) h.lines (bad_line versions s p l why h.at e)))

-- a text is read as what it is
pub text_outcome : (versions : ℕ) → Setting versions → (bytes : List ℕ) → IsOutcome versions (line_texts bytes) (read_of versions bytes)
unfolding read_of
text_outcome versions s bytes =
    outcome versions s (line_texts bytes) [] AtVersion (record { at = at_first versions; ended = All-nil Ended; lines = refl })

-- by the texts of some versions: each is its workload's, and in what is bad there is one line with one cause
pub record Answers (versions : ℕ) (bytes : List ℕ) (T : WorkloadView → Type 0) (B : ℕ → ℕ → Type 0) : Type 0 where
  pub found : MatchResult (read_of versions bytes) T (λ bad. B bad.line bad.why)
  pub same : (v w : WorkloadView) → T v → T w → v ≡ w
  pub not_bad : (w : WorkloadView) (k why : ℕ) → T w → ¬ B k why
  pub once : (k j why cause : ℕ) → B k why → B j cause → (k ≡ j) × (why ≡ cause)

answer : (versions : ℕ) (bytes : List ℕ) (T : WorkloadView → Type 0) (B : ℕ → ℕ → Type 0) (r : Result WorkloadView Bad)
    → IsOutcome versions (line_texts bytes) r
    → ((w : WorkloadView) → workload_lines w ≡ words_of (line_texts bytes) → All Ended (line_texts bytes) → IsReached versions (Closed w) → T w)
    → ((k why : ℕ) → IsBad versions (line_texts bytes) k why → B k why) → MatchResult r T (λ bad. B bad.line bad.why)
answer versions bytes T B (Ok w) h text bad = text w h.0 h.1 h.2
answer versions bytes T B (Err b) h text bad = bad b.line b.why h

pub answers : (bytes : List ℕ) → Answers 3 bytes (IsText bytes) (BadAt bytes)
answers bytes = record {
  found = answer 3 bytes (IsText bytes) (BadAt bytes) (read_of 3 bytes) (text_outcome 3 any bytes)
      (λ w lines ended r. record { workload = r.0; text = text_of-from_words bytes w ended (sym lines) }) (λ k why b. b);
  same = λ v w a b. texts_differ bytes v w a b;
  not_bad = λ w k why a bad. text-not_bad 3 bytes w k why (of_any w a.workload) a.workload a.text bad;
  once = λ k j why cause a b. one-bad 3 (line_texts bytes) k j why cause a b;
}

pub answers1 : (bytes : List ℕ) → Answers 1 bytes (IsText1 bytes) (BadAt1 bytes)
answers1 bytes = record {
  found = answer 1 bytes (IsText1 bytes) (BadAt1 bytes) (read_of 1 bytes) (text_outcome 1 alone bytes)
      (λ w lines ended r. record { text = record { workload = r.0; text = text_of-from_words bytes w ended (sym lines) }; version = is_first w r.1 })
      (λ k why b. b);
  same = λ v w a b. texts_differ bytes v w a.text b.text;
  not_bad = λ w k why a bad. text-not_bad 1 bytes w k why (of_first w a.text.workload a.version) a.text.workload a.text.text bad;
  once = λ k j why cause a b. one-bad 1 (line_texts bytes) k j why cause a b;
}

pub either : {versions : ℕ} {bytes : List ℕ} {T : WorkloadView → Type 0} {B : ℕ → ℕ → Type 0} → Answers versions bytes T B
    → ((w : WorkloadView) × T w) ⊎ ((k why : ℕ) × B k why)
either {versions} {bytes} {T} {B} a = pick (read_of versions bytes) a.found
  where
    pick : (r : Result WorkloadView Bad) → MatchResult r T (λ bad. B bad.line bad.why) → ((w : WorkloadView) × T w) ⊎ ((k why : ℕ) × B k why)
    pick (Ok w) h = inl (w, h)
    pick (Err bad) h = inr (bad.line, bad.why, h)

-- what a call answers that reads so
pub record CallAnswers (T : WorkloadView → Type 0) (B : ℕ → ℕ → Type 0) (r : Result WorkloadView Unread) : Type 0 where
  pub ok : IfOk r T
  pub bad : IfErr r (λ unread. IfBad unread (λ bad. B bad.line bad.why))
  pub text : (w : WorkloadView) → T w → MatchResult r (λ read. read ≡ w) (λ unread. unread ≡ OutOfMemory)
  pub refused : (k why : ℕ) → B k why → MatchResult r (λ _. ⊥) (λ unread. IfBad unread (λ bad. (bad.line ≡ k) × (bad.why ≡ why)))

pub call_answers : {versions : ℕ} {bytes : List ℕ} {T : WorkloadView → Type 0} {B : ℕ → ℕ → Type 0} → Answers versions bytes T B
    → (r : Result WorkloadView Unread)
    → IsReading (read_of versions bytes) r → CallAnswers T B r
call_answers {versions} {bytes} {T} {B} a (Ok w) h =
    let t : T w = subst (λ (x : Result WorkloadView Bad). MatchResult x T (λ bad. B bad.line bad.why)) h a.found in
    record { ok = t; bad = tt; text = λ v u. a.same w v t u; refused = λ k why b. a.not_bad w k why t b }
call_answers {versions} {bytes} {T} {B} a (Err (refuses bad)) h =
    let b : B bad.line bad.why = subst (λ (x : Result WorkloadView Bad). MatchResult x T (λ bad. B bad.line bad.why)) h a.found in
    record { ok = tt; bad = b; text = λ v u. absurd (a.not_bad v bad.line bad.why u b); refused = λ k why c. a.once bad.line k bad.why why b c }
call_answers a (Err OutOfMemory) h = record { ok = tt; bad = tt; text = λ v u. refl; refused = λ k why b. tt }

-- a line leads from a reached position to a reached one
pub reached_behind : (versions : ℕ) → versions ≤ 3 → (p q : Position) (l : LineText) → IsReached versions p → line_in versions p l ≡ Ok q → IsReached versions q
reached_behind versions three p q l h e = at (pieces_of l.bytes) (right_line versions p q l e).1
  where
    at : (line : List (List ℕ)) → next versions p line ≡ Ok q → IsReached versions q
    at [] n = absurd (cc n)
    at (word ∷ words) n = (sound versions three p word words q h (took versions p word words q n)).reached
