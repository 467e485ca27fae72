-- The table of lines is tied to the texts: a first wrong word is the first with which no text goes on, and where all words are
-- right, only `end` is missing.
use Rattle.std.proofs.Common.{◌≡◌, ◌≢◌, ℕ, suc, ◌+◌, ◌<◌, ◌≤◌, ◌==◌, not, Bool, true, false, List, [], ◌∷◌, ◌++◌, length, get_or, map, take, Contains, Option, None, Some, Result, Ok, Err, codes, decimal, if◌then◌else◌, refl, sym, ap, ap₂, ◌∙◌, subst, inl, inr, arith, append_assoc, append-nil, length-append, add-one, IfSome, IsTrue}
use Rattle.std.specs.Bool.{⊤}
use Rattle.std.specs.Result.{is_ok}
use Rattle.std.specs.Option.{is_some}
use Rattle.std.specs.Str.{bytes_eq}
use Rattle.std.specs.Str.Parse.{digits_value}
use Rattle.std.proofs.lemmas.Bool.{false_from_ne_true, false≢true, eqb-true, and_parts}
use Rattle.std.proofs.lemmas.Slice.Eq.{bytes_eq-Decides}
use Rattle.std.proofs.lemmas.List.{length-map}
use Rattle.std.proofs.lemmas.List.Elements.{All-map}
use Rattle.sa_lemmas.proofs.Results.{same-ok}
use Rattle.sa_instr.specs.Parts.{parts_of}
use Rattle.sa_workload.specs.Text.{instr_line}
use Rattle.sa_workload.specs.Bad.{ordered_words, is_ordered, first_word, Begins, MayFollow, IsRightWord, IsTooMany, Field, Register, Number, list_lt, numbers_of, instr_words, last_line, fields_behind, fields_by, DeclaredNumbers}
use Rattle.sa_workload.specs.Laws.{IsFirstWrong, AreRight, IsInOrder, IsFirstWrongPlace, IsFree, FirstWrongWords, IsLastPlace, LastCauseIsNoEnd}
use Rattle.sa_workload.specs.Fields.{and_then, index_of, order_cause, read_field, fields_at}
use Rattle.sa_workload.specs.Position.{Position, AtVersion, AtInstr, Closed, shown, shown_spaces, shown_draft}
use Rattle.sa_workload.specs.Steps.{expected}
use Rattle.sa_workload.specs.Next.{numbers_at, is_full, last_numbers, fields_of, next}
use Rattle.sa_workload.proofs.fields.FieldLemmas.{and_then-ok, and_then-err, contained, spelled_all, AllPass, read-ok, behind, fields-ok, fields-spelled, all_long}
use Rattle.sa_workload.proofs.fields.InstrLemmas.{operation-expected}
use Rattle.sa_workload.proofs.causes.Causes.{is_stuck, Leads, step-leads}
use Rattle.sa_workload.proofs.forward.Completion.{begins_front}
use Rattle.sa_workload.proofs.forward.Orders.{none-order}
use Rattle.sa_workload.proofs.forward.Sound.{by_word, Took, took}
use Rattle.sa_workload.proofs.forward.Complete.{complete, take-line, run, run-append}
use Rattle.sa_workload.proofs.causes.LineAt.{many-Decides, LineAt, line_at}
use Rattle.sa_workload.proofs.forward.Says.{reads, ordered-Decides}
use Rattle.sa_workload.proofs.forward.Standing.{IsAt, Setting, at_first, at_next, begins, begins-next, expected_words}

-- a reader that went through lines is after them
run-at : (versions : ℕ) → versions ≤ 3 → (ls : List (List (List ℕ))) (p q : Position) → IsAt versions p → run versions p ls ≡ Ok q
    → IsAt versions q × (shown q ≡ shown p ++ ls)
run-at versions three [] p q a h =
    let same : p ≡ q = same-ok p q h in
    (subst (IsAt versions) same a, ap shown (sym same) ∙ sym (append-nil (shown p)))
run-at versions three (l ∷ ls) p q a h =
    let n = and_then-ok (next versions p l) (λ r. run versions r ls) q h in
    let b = at_next versions three p n.0 l a n.1 in
    let c = run-at versions three ls n.0 q b.0 n.2 in
    (c.0, c.1 ∙ ap (λ (x : List (List (List ℕ))). x ++ ls) b.1 ∙ append_assoc (shown p) (l ∷ []) ls)

-- after lines that begin a text there is a reader
pub stands : (versions : ℕ) → Setting versions → (lines : List (List (List ℕ))) → Begins versions lines → (p : Position) × IsAt versions p × (shown p ≡ lines)
stands versions s lines b =
    let k = b.accepted in
    let whole : and_then (run versions AtVersion lines) (λ q. run versions q b.more) ≡ Ok (Closed b.workload) =
    sym (run-append versions AtVersion lines b.more) ∙ ap (run versions AtVersion) (sym b.text) ∙ complete versions b.workload k.workload s.few k.version in
    let p = and_then-ok (run versions AtVersion lines) (λ q. run versions q b.more) (Closed b.workload) whole in
    let r = run-at versions s.few lines AtVersion p.0 (at_first versions) p.1 in
    (p.0, r.0, r.1)

-- fields that are numbers, and what they spell
abbrev AreNumbers : List Field → Type 0
AreNumbers [] = ⊤
AreNumbers (Register ∷ fs) = ⊥
AreNumbers (Number test cause ∷ fs) = AreNumbers fs

numbers_of-spelled : (fs : List Field) (ns : List ℕ) (rest : List (List ℕ)) → AreNumbers fs → AllPass fs ns
    → map (digits_value 10) (take (length fs) (spelled_all fs ns ++ rest)) ≡ ns
numbers_of-spelled [] [] rest a h = refl
numbers_of-spelled [] (n ∷ ns) rest a h = absurd h
numbers_of-spelled (Register ∷ fs) ns rest a h = absurd a
numbers_of-spelled (Number test cause ∷ fs) [] rest a h = absurd h
numbers_of-spelled (Number test cause ∷ fs) (n ∷ ns) rest a h =
    ap₂ (λ (k : ℕ) (ks : List ℕ). k ∷ ks) (reads n h.0.0) (numbers_of-spelled fs ns rest a h.1)

ordered-numbers : (versions : ℕ) (n : DeclaredNumbers) (word : List ℕ) → is_some (index_of word ordered_words) ≡ true → AreNumbers (fields_by versions n word)
ordered-numbers versions n word h = by_word ordered_words word (λ (w : List ℕ). AreNumbers (fields_by versions n w)) (record {}, (record {}, tt)) h

-- the numbers of right words
right_numbers : (fs : List Field) (words : List (List ℕ)) → AreRight fs words → length words ≡ length fs
    → (ns : List ℕ) × AllPass fs ns × (words ≡ spelled_all fs ns)
right_numbers fs words r long = by (fields_at fs words) refl r
  where
    whole : (ws rest : List (List ℕ)) → length (ws ++ rest) ≡ length ws → ws ++ rest ≡ ws
    whole ws [] e = append-nil ws
    whole ws (w ∷ rest) e = absurd (omega (arith, length-append ws (w ∷ rest)))

    by : (x : Result (List ℕ × List (List ℕ)) ℕ) → fields_at fs words ≡ x → is_ok x ≡ true → (ns : List ℕ) × AllPass fs ns × (words ≡ spelled_all fs ns)
    by (Err cause) e r = absurd (cc r)
    by (Ok read) e r =
        let f = fields-ok fs words read e in
        (read.0, f.1, f.0 ∙ whole (spelled_all fs read.0) read.1 (ap length (sym f.0) ∙ long ∙ sym (all_long fs read.0 f.1).1))

-- the words before the first wrong one, with numbers of another line after them
record Mixed (fs : List Field) (words : List (List ℕ)) (why : ℕ) : Type 0 where
  place : ℕ
  within : place ≤ length words
  numbers : List ℕ
  passes : AllPass fs numbers
  others : List (List ℕ)
  spelled_are : spelled_all fs numbers ≡ take place words ++ others
  wrong : place < length words → (more : List (List ℕ)) → fields_at fs (take (suc place) words ++ more) ≡ Err why

-- where the first word is right, another one is wrong
later : (fs : List Field) (words : List (List ℕ)) (n why : ℕ) → behind fs words (Ok n) ≡ Err why → fields_at fs words ≡ Err why
later fs words n why h =
    elim (and_then-err (fields_at fs words) (λ others. Ok (n ∷ others.0, others.1)) why h) [ inl wrong ↦ wrong | inr none ↦ absurd (cc none.2) ]

mixed : (fs : List Field) (words : List (List ℕ)) (why : ℕ) (ms : List ℕ) → AllPass fs ms → fields_at fs words ≡ Err why → Mixed fs words why
mixed [] words why ms pass w = absurd (cc w)
mixed (f ∷ fs) words why [] pass w = absurd pass
mixed (f ∷ fs) [] why (m ∷ ms) pass w =
    record {
      place = 0;
      within = omega arith;
      numbers = m ∷ ms;
      passes = pass;
      others = spelled_all (f ∷ fs) (m ∷ ms);
      spelled_are = refl;
      wrong = λ l. absurd (omega arith);
    }
mixed (f ∷ fs) (word ∷ words) why (m ∷ ms) pass w = by (read_field f word) refl (λ v. mixed fs words why ms pass.1 v)
  where
    by : (r : Result ℕ ℕ) → read_field f word ≡ r → (fields_at fs words ≡ Err why → Mixed fs words why) → Mixed (f ∷ fs) (word ∷ words) why
    by (Err cause) e rest = record {
      place = 0;
      within = omega arith;
      numbers = m ∷ ms;
      passes = pass;
      others = spelled_all (f ∷ fs) (m ∷ ms);
      spelled_are = refl;
      wrong = λ l more. ap (behind fs more) e ∙ ap (behind fs words) (sym e) ∙ w;
    }
    by (Ok n) e rest =
        let read = read-ok f word n e in
        let x : Mixed fs words why = rest (later fs words n why (ap (behind fs words) (sym e) ∙ w)) in
        record {
          place = suc x.place;
          within = omega (arith, x.within);
          numbers = n ∷ x.numbers;
          passes = (read.1, x.passes);
          others = x.others;
          spelled_are = ap₂ (λ (y : List ℕ) (ys : List (List ℕ)). y ∷ ys) (sym read.0) x.spelled_are;
          wrong = λ l more. ap (behind fs (take (suc x.place) words ++ more)) e
              ∙ ap (λ (r : Result (List ℕ × List (List ℕ)) ℕ). and_then r (λ others. Ok (n ∷ others.0, others.1))) (x.wrong (omega arith) more);
        }

-- words that are refused are no spelling of numbers that pass
unspelled : (fs : List Field) (words : List (List ℕ)) (why : ℕ) (ns : List ℕ) → fields_at fs words ≡ Err why → AllPass fs ns → words ≡ spelled_all fs ns → ⊥
unspelled fs words why ns wrong pass e = absurd (cc (sym wrong ∙ ap (fields_at fs) (e ∙ sym (append-nil (spelled_all fs ns))) ∙ fields-spelled fs ns [] pass))

-- where numbers lead on, others that pass do
lead_alike : (b : Bool) (r t : Result Position ℕ) (q : Position) → Leads b r → r ≡ Ok q → Leads b t → Leads false t
lead_alike true r t q l e k = absurd (cc (sym l ∙ e))
lead_alike false r t q l e k = k

-- some text goes on with a line that leads on
goes_on_with : (versions : ℕ) → Setting versions → (p q : Position) (line : List (List ℕ)) → IsAt versions p → next versions p line ≡ Ok q
    → Begins versions (shown p ++ line ∷ [])
goes_on_with versions s p q line a h =
    let n = at_next versions s.few p q line a h in subst (Begins versions) n.1 (begins versions s q n.0)

wrong_at : (versions : ℕ) → Setting versions → (p : Position) → IsAt versions p → (word : List ℕ) (words : List (List ℕ)) (why : ℕ)
    → MayFollow versions (shown p) word → IsFree (shown p) word → IsFirstWrong (fields_behind versions (shown p) word) words why
    → (place : ℕ) × IsFirstWrongPlace versions (shown p) word words place
wrong_at versions s p a word words why follow free_of wrong =
    let n = begins-next versions s p (word ∷ follow.others) a follow.begins in
    let t : Took versions p word follow.others n.0 = took versions p word follow.others n.0 n.1 in
    let at : LineAt versions p word = line_at versions s.few p word a t.known in
    let here : fields_at (fields_of versions p word) words ≡ Err why = ap (λ (fs : List Field). fields_at fs words) (sym at.fields) ∙ wrong in
    let mix : Mixed (fields_of versions p word) words why = mixed (fields_of versions p word) words why t.numbers t.passes here in
    let to = lead_alike (is_stuck p word) _ _ n.0 (step-leads versions p word t.numbers t.known t.passes) t.to
    (step-leads versions p word mix.numbers t.known mix.passes) in
    let leads : next versions p (word ∷ spelled_all (fields_of versions p word) mix.numbers) ≡ Ok to.0 =
    take-line versions p word mix.numbers to.0 t.known t.room mix.passes (no_order at mix.numbers) to.1 in (
      mix.place,
      record {
        within = mix.within;
        before = record {
          others = mix.others;
          begins = subst (λ (ws : List (List ℕ)). Begins versions (shown p ++ (word ∷ ws) ∷ [])) {y = take mix.place words ++ mix.others} mix.spelled_are
              (goes_on_with versions s p to.0 _ a leads);
        };
        next = λ l goes.
            let m = begins-next versions s p (word ∷ (take (mix.place + 1) words ++ goes.others)) a goes.begins in
            let u = took versions p word (take (mix.place + 1) words ++ goes.others) m.0 m.1 in
            unspelled _ _ why u.numbers (mix.wrong l goes.others) u.passes (ap (λ (k : ℕ). take k words ++ goes.others) (sym (add-one mix.place)) ∙ u.line);
        missing = λ z b.
            let m = begins-next versions s p (word ∷ words) a b in
            let u = took versions p word words m.0 m.1 in
            unspelled _ words why u.numbers here u.passes u.line;
      },
    )
  where
    no_order : LineAt versions p word → (ns : List ℕ) → order_cause (last_numbers p word) ns ≡ None
    no_order at ns = ap (λ (o : Option (List ℕ)). order_cause o ns)
        (sym at.order ∙ ap (λ (b : Bool). if b then Some (numbers_of (length (fields_of versions p word)) (last_line (shown p))) else None)
        (false_from_ne_true (is_ordered (last_line (shown p)) word) (λ t. free_of ((ordered-Decides (last_line (shown p)) word).0 t))))

pub first_wrong_words : (versions : ℕ) → Setting versions → FirstWrongWords versions
first_wrong_words versions s lines word words why follow free_of wrong =
    let st = stands versions s lines (begins_front versions lines ((word ∷ follow.others) ∷ []) follow.begins) in
    subst (λ (ls : List (List (List ℕ))). MayFollow versions ls word → IsFree ls word → IsFirstWrong (fields_behind versions ls word) words why
    → (place : ℕ) × IsFirstWrongPlace versions ls word words place) st.2 (wrong_at versions s st.0 st.1 word words why) follow free_of wrong

-- where all words are right and no text goes on
abbrev IsStuckLine : List (List (List ℕ)) → List ℕ → Type 0
IsStuckLine lines word = IsLastPlace lines × Contains instr_words word × (word ≢ codes "end")

stuck_line : (p : Position) (word : List ℕ) → is_some (index_of word (expected p)) ≡ true → is_stuck p word ≡ true → IsStuckLine (shown p) word
stuck_line (AtInstr m spaces d len instrs) word known h =
    let b = and_parts (length instrs + 1 == len) (not (bytes_eq word (codes "end"))) h in (
      record {
        front = shown_spaces m spaces ++ shown_draft m.version d;
        len = len;
        instrs = map instr_line instrs;
        whole = sym (append_assoc (shown_spaces m spaces) (shown_draft m.version d) ((codes "program" ∷ decimal len ∷ []) ∷ map instr_line instrs));
        each = All-map (λ (l : List (List ℕ)). Contains instr_words (first_word l)) instr_line instrs
            (λ k i l. contained instr_words (first_word (instr_line (get_or instrs k i))) (operation-expected (parts_of (get_or instrs k i)).operation));
        last = ap (λ (n : ℕ). n + 1) (length-map instrs instr_line) ∙ eqb-true (length instrs + 1) len b.0;
      },
      contained instr_words word known,
      (λ e. false≢true (sym (ap not ((bytes_eq-Decides word (codes "end")).1 e)) ∙ b.1)),
    )
stuck_line _ word known h = absurd (cc h)

stuck_at : (versions : ℕ) → Setting versions → (p : Position) → IsAt versions p → (word : List ℕ) (words : List (List ℕ))
    → IsRightWord versions (shown p) word → ¬ IsTooMany (shown p) word → AreRight (fields_behind versions (shown p) word) words
    → IsInOrder (shown p) (length (fields_behind versions (shown p) word)) (word ∷ words) → length words ≡ length (fields_behind versions (shown p) word)
    → ¬ Begins versions (shown p ++ (word ∷ words) ∷ []) → IsStuckLine (shown p) word
stuck_at versions s p a word words right few are order long none =
    let known : is_some (index_of word (expected p)) ≡ true = expected_words versions s p word a right in
    let at : LineAt versions p word = line_at versions s.few p word a known in
    let ns = right_numbers fields words (subst (λ (fs : List Field). AreRight fs words) at.fields are) (long ∙ ap length at.fields) in
    let new : numbers_of (length fields) (word ∷ words) ≡ numbers_of (length fields) (word ∷ (spelled_all fields ns.0 ++ [])) =
    ap (λ (ws : List (List ℕ)). numbers_of (length fields) (word ∷ ws)) (ns.2 ∙ sym (append-nil (spelled_all fields ns.0))) in
    let in_order : order_cause (last_numbers p word) ns.0 ≡ None =
    ap (λ (x : Option (List ℕ)). order_cause x ns.0) (sym at.order)
    ∙ ordered (is_ordered (last_line (shown p)) word) refl ns.0 ns.1 new
    (subst (λ (fs : List Field). IsInOrder (shown p) (length fs) (word ∷ words)) at.fields order) in
    by (is_stuck p word) (step-leads versions p word ns.0 known ns.1) (stuck_line p word known)
    (λ q e. none (subst (λ (ws : List (List ℕ)). Begins versions (shown p ++ (word ∷ ws) ∷ [])) (sym ns.2)
    (goes_on_with versions s p q (word ∷ spelled_all fields ns.0) a
    (take-line versions p word ns.0 q known (false_from_ne_true (is_full p word) (λ t. few ((many-Decides (shown p) word).0 (at.full ∙ t)))) ns.1 in_order e))))
  where
    fields : List Field
    fields = fields_of versions p word

    old : List ℕ
    old = numbers_of (length fields) (last_line (shown p))

    ordered : (b : Bool) → is_ordered (last_line (shown p)) word ≡ b → (ns : List ℕ) → AllPass fields ns
        → numbers_of (length fields) (word ∷ words) ≡ numbers_of (length fields) (word ∷ (spelled_all fields ns ++ []))
        → IfSome (if b then Some old else None) (λ last. IsTrue (list_lt last (numbers_of (length fields) (word ∷ words))))
        → order_cause (if b then Some old else None) ns ≡ None
    ordered false t ns pass new o = refl
    ordered true t ns pass new o =
        let are : AreNumbers fields = ordered-numbers versions (numbers_at p) word (and_parts (is_some (index_of word ordered_words)) _ t).0 in
        none-order old ns (ap (list_lt old) (sym (new ∙ numbers_of-spelled fields ns [] are pass)) ∙ o)

    by : {r : Result Position ℕ} (b : Bool) → Leads b r → (b ≡ true → IsStuckLine (shown p) word) → ((q : Position) → r ≡ Ok q → ⊥) → IsStuckLine (shown p) word
    by true l stuck leads = stuck refl
    by false l stuck leads = absurd (leads l.0 l.1)

pub last_cause_is_no_end : (versions : ℕ) → Setting versions → LastCauseIsNoEnd versions
last_cause_is_no_end versions s lines word words b right few are order long none =
    let st = stands versions s lines b in
    subst (λ (ls : List (List (List ℕ))). IsRightWord versions ls word → ¬ IsTooMany ls word → AreRight (fields_behind versions ls word) words
    → IsInOrder ls (length (fields_behind versions ls word)) (word ∷ words) → length words ≡ length (fields_behind versions ls word)
    → ¬ Begins versions (ls ++ (word ∷ words) ∷ []) → IsStuckLine ls word)
    st.2 (stuck_at versions s st.0 st.1 word words) right few are order long none
